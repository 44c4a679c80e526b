use Rattle.std.proofs.Common.{◌≡◌, ◌+◌, ◌≤◌, length}
use Rattle.std.specs.Slice.Iter.{chunks_rest}
use Rattle.lines.specs.Lf.{count_of}
use Rattle.lines.proofs.count_byte.Given as goal

abbrev pub invariant-loop-part : goal.invariant-loop-part
invariant-loop-part l = (l.n + length (chunks_rest l.part-iterator) ≤ length l.s) × (l.n + count_of l.b (chunks_rest l.part-iterator) ≡ count_of l.b l.s)
