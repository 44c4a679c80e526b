use mathlib.Core.Path.{◌∙◌}
use native.Mathlib.Omega.{arith}
use Rattle.reader.proofs.Laws.{four_is, width-as, number-as}
use Rattle.reader.proofs.number_at.Goals as goal

pub two_at-requires : goal.two_at-requires
two_at-requires c = omega (arith, c.requires, width-as c.args.f c.in-Ol.is)

pub two_at-a-requires : goal.two_at-a-requires
two_at-a-requires c = omega (arith, c.requires, width-as c.args.f c.in-Om.is)

pub overflow_add-i : goal.overflow_add-i
overflow_add-i c = omega (arith, c.requires, width-as c.args.f c.in-Om.is)

pub two_at-b-requires : goal.two_at-b-requires
two_at-b-requires c = omega (arith, c.requires, width-as c.args.f c.in-Om.is)

pub returns-in-Ol : goal.returns-in-Ol
returns-in-Ol c = c.two_at.ensures.value ∙ number-as c.args.f c.args.s.now c.args.i c.in-Ol.is

pub returns-in-Om : goal.returns-in-Om
returns-in-Om c = rw (c.two_at-b.ensures.value, c.two_at-a.ensures.value) (four_is c.args.s.now c.args.i (omega (arith, c.requires, width-as c.args.f c.in-Om.is)) ∙ number-as c.args.f c.args.s.now c.args.i c.in-Om.is)
