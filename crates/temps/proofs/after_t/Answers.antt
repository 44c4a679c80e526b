use Rattle.std.proofs.Common.{sym, arith, eq-eqb, ne_eqb}
use Rattle.slots.proofs.GatherLaws.{above-digit}
use Rattle.temps.proofs.after_t.Goals as goal

pub returns-then-a-eq116 : goal.returns-then-a-eq116
returns-then-a-eq116 c = rw (eq-eqb 116 c.args.a (sym c.if-a-eq116.true)) (above-digit c.wrapping_sub_u8.result c.args.b (omega (arith, c.wrapping_sub_u8.type_inv)) c.wrapping_sub_u8.ensures.value)

pub returns : goal.returns
returns c = rw (ne_eqb 116 c.args.a (λ e. c.if-a-eq116.false (sym e)))
