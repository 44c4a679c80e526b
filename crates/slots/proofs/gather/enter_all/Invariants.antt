use Rattle.std.proofs.Common.{◌≡◌, false, length, drop}
use Rattle.slots.specs.Inner.Gather.{entered_all}
use Rattle.slots.proofs.gather.enter_all.Given as goal

abbrev pub invariant-loop-b : goal.invariant-loop-b
invariant-loop-b l = (length l.own ≡ length l.initial.own) × (entered_all l.low false 0 l.text l.initial.own ≡ entered_all l.low l.marked l.v (drop l.b-index l.text) l.own)
