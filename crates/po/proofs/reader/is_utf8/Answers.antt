use mathlib.Core.Path.{sym, ap, ◌∙◌}
use Rattle.text.specs.Utf8Form.{Utf8}
use Rattle.po.specs.Reader.{is_valid}
use Rattle.po.proofs.reader.is_utf8.Goals as goal

pub returns-in-Ok : goal.returns-in-Ok
returns-in-Ok c = sym (ap (λ (u : Utf8). is_valid u) (sym c.check_utf8.ensures ∙ c.in-Ok.is))

pub returns-in-Err : goal.returns-in-Err
returns-in-Err c = sym (ap (λ (u : Utf8). is_valid u) (sym c.check_utf8.ensures ∙ c.in-Err.is))
