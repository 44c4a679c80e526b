use mathlib.Core.Path.{ap, sym}
use native.Mathlib.Omega.{arith}
use Rattle.lines.proofs.OutLaws.{wrote_as}
use Rattle.origins.specs.declared.Form.{Form}
use Rattle.origins.specs.Form.{form_shape, size_of, record_bytes}
use Rattle.origins.proofs.put_record.Goals as goal

pub put_old-requires : goal.put_old-requires
put_old-requires c = omega (arith, c.requires, ap (λ (y : Form). size_of (form_shape y)) c.in-Ol.is)

pub put_new-requires : goal.put_new-requires
put_new-requires c = omega (arith, c.requires, ap (λ (y : Form). size_of (form_shape y)) c.in-Om.is)

pub returns-in-Ol : goal.returns-in-Ol
returns-in-Ol c = let a = c.args in
    wrote_as (sym (ap (λ (y : Form). record_bytes (form_shape y) a.i a.w) c.in-Ol.is)) c.put_old.ensures

pub returns-in-Om : goal.returns-in-Om
returns-in-Om c = let a = c.args in
    wrote_as (sym (ap (λ (y : Form). record_bytes (form_shape y) a.i a.w) c.in-Om.is)) c.put_new.ensures
