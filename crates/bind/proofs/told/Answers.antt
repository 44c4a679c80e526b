use mathlib.Core.Path.{◌∙◌}
use native.Mathlib.Omega.{arith}
use Rattle.bind.proofs.ToldLaws.{told-says}
use Rattle.bind.proofs.told.Goals as goal

pub ask-requires : goal.ask-requires
ask-requires c = let p = c.requires in let f = p.1.fits c.slot-v.result in (((omega (arith, p.0.0), omega (arith, p.0.0, f)), omega (arith, p.0.1, f)), p.1.block)

pub returns-then-v-first : goal.returns-then-v-first
returns-then-v-first c = let a = c.args in let p = c.requires.1 in c.ask.ensures ∙ told-says a.reg.0 p c.slot-v.ensures c.if-v-first.true
