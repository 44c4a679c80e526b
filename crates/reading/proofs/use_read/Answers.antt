use mathlib.Core.Path.{◌∙◌}
use Rattle.reading.proofs.UseLaws.{reads-of, stores-of}
use Rattle.reading.proofs.use_read.Goals as goal

pub returns : goal.returns
returns c =
    let a = c.args in
    let p = c.parse-p in (
      c.count_reg-n.ensures ∙ reads-of a.reg.0 a.line.now p.result p.ensures _ c.text_of.ensures,
      c.stores_in-s.ensures ∙ stores-of a.reg.0 a.line.now p.result p.ensures,
    )
