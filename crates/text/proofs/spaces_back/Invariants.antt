use mathlib.Core.Path.{◌≡◌}
use Rattle.text.specs.Trim.{end_white, to_of}
use Rattle.text.proofs.spaces_back.Given as goal

abbrev pub invariant-loop-e : goal.invariant-loop-e
invariant-loop-e l = to_of l.s ≡ end_white l.s 0 l.e
