use mathlib.Core.Path.{◌∙◌}
use native.Mathlib.Omega.{arith}
use Rattle.lines.specs.Lf.{lines_of}
use Rattle.decls.proofs.SeenLaws.{asked-held, asked-past}
use Rattle.decls.proofs.seen.used_in.Goals as goal

pub returns-then-v-seen : goal.returns-then-v-seen
returns-then-v-seen c = let a = c.args in asked-held a.own.now a.m a.seen.now (lines_of a.region.now) a.reg.0 _ c.slot-v.ensures c.if-v-seen.true

pub returns : goal.returns
returns c = let a = c.args in c.uses.ensures ∙ asked-past a.own.now a.m a.seen.now (lines_of a.region.now) a.reg.0 _ c.slot-v.ensures (omega (arith, c.if-v-seen.false))
