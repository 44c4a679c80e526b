use Rattle.pruned.proofs.EntryCode.{restart, marks-room, lines-count, put_front}
use Rattle.decls.proofs.SeenLaws.{zeros-most}
use Rattle.lines.specs.Lf.{lines_of}
use lib.ListN.{length}
use native.Mathlib.Omega.{arith}
use Prim.Native.Nat.{suc, ◌+◌}
use mathlib.Core.Path.{◌≡◌}
use Rattle.pruned.proofs.course.judge.Goals as goal

pub mark_used-m-requires : goal.mark_used-m-requires
mark_used-m-requires c = let s = c.args in (zeros-most 1024, marks-room s.raw.now s.used.now c.requires.0 c.requires.1.0)

pub overflow_add-m : goal.overflow_add-m
overflow_add-m c = let s = c in omega (arith, lines-count s.args.raw.now c.count_byte-m.result c.count_byte-m.ensures s.requires.0, s.requires.1.1)

pub judge_lines-requires : goal.judge_lines-requires
judge_lines-requires c = let s = c.args in let n = c.count_byte-m in let l = c.start-top in let w = c.mark_used-m in let e : n.result + 1 ≡ suc (length (lines_of s.raw.now)) = omega (arith, lines-count s.raw.now n.result n.ensures c.requires.0) in ((e, (omega (arith, e, c.requires.1.1, l.auto.live), put_front w.ensures)), (restart l.new.live w.new.out s.raw.now (length s.live.now) (length l.new.live) l.ensures.0 l.auto.live, l.ensures.1))
