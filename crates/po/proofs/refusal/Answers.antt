use mathlib.Core.Path.{sym, ◌∙◌}
use Rattle.std.specs.declared.result.Result.TheVariants.{Ok}
use Rattle.po.proofs.AnswerLaws.{name-empty, name-bad, text-bad, text-good}
use Rattle.po.proofs.refusal.Goals as goal

pub returns-then-name-eq0 : goal.returns-then-name-eq0
returns-then-name-eq0 c = let a = c.args in let f = c.file_name-n in name-empty a.name.now a.t.now (Ok 0) f.result f.ensures c.if-name-eq0.true

pub returns-then-n-name : goal.returns-then-n-name
returns-then-n-name c = let a = c.args in let f = c.file_name-n in name-bad a.name.now a.t.now (Ok 0) f.result f.ensures c.if-n-name.true

pub returns-in-Err : goal.returns-in-Err
returns-in-Err c = let a = c.args in let f = c.file_name-n in text-bad a.name.now a.t.now (Ok 0) f.result f.ensures c.if-name-eq0.false c.if-n-name.false _ (sym c.check_utf8.ensures ∙ c.in-Err.is)

pub returns-in-None : goal.returns-in-None
returns-in-None c = let a = c.args in let f = c.file_name-n in text-good a.name.now a.t.now (Ok 0) f.result f.ensures c.if-name-eq0.false c.if-n-name.false _ (sym c.check_utf8.ensures ∙ c.in-Ok.is) (sym c.first_flaw.ensures ∙ c.in-None.is)

pub returns-in-Some : goal.returns-in-Some
returns-in-Some c = let a = c.args in let f = c.file_name-n in c.refused_by.ensures ∙ text-good a.name.now a.t.now (Ok 0) f.result f.ensures c.if-name-eq0.false c.if-n-name.false _ (sym c.check_utf8.ensures ∙ c.in-Ok.is) (sym c.first_flaw.ensures ∙ c.in-Some.is)
