use mathlib.Core.Path.{sym, ◌∙◌}
use Rattle.once.proofs.Scratches.{changes-name}
use Rattle.once.proofs.changes.Goals as goal

pub returns-in-Some : goal.returns-in-Some
returns-in-Some c = rw (sym c.reg_name.ensures, c.in-Some.is) c.use_of-u.ensures.1

pub returns-in-None : goal.returns-in-None
returns-in-None c =
    let a = c.args in
    rw c.count_word.ensures (changes-name a.obj.now a.line.now _ c.parse-p.result c.requires c.parse-p.ensures c.text_of.ensures (sym c.reg_name.ensures ∙ c.in-None.is))
