use mathlib.Core.Path.{sym, ◌∙◌}
use mathlib.Core.List.{[], ◌∷◌, ◌++◌}
use Rattle.lines.proofs.Compare.{hold-here, hold-on}
use Rattle.once.proofs.Scratches.{call-end}
use Rattle.once.proofs.holds_call.Goals as goal

pub returns-then-starts_call : goal.returns-then-starts_call
returns-then-starts_call c = let a = c.args in let l = c.loop-i in sym (hold-here (a.x.now ++ 40 ∷ []) a.s.now l.i (sym c.starts_call.ensures ∙ c.if-starts_call.true)) ∙ l.invariant

pub loop-i-preserved : goal.loop-i-preserved
loop-i-preserved c = let a = c.args in let l = c.loop-i in sym (hold-on (a.x.now ++ 40 ∷ []) a.s.now l.i c.loop-i-test.true (sym c.starts_call.ensures ∙ c.if-starts_call.false)) ∙ l.invariant

pub returns : goal.returns
returns c = let a = c.args in let l = c.loop-i in sym (call-end a.x.now a.s.now l.i c.loop-i-test.false) ∙ l.invariant
