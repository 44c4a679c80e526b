use native.Mathlib.Omega.{arith}
use mathlib.Core.Path.{refl, sym, ◌∙◌}
use Rattle.po.proofs.WalkLaws.{none_here}
use Rattle.po.proofs.next_lit.Goals as goal

pub loop-c-init : goal.loop-c-init
loop-c-init c = (c.requires, (omega arith, refl))

pub at_lit-requires : goal.at_lit-requires
at_lit-requires c = c.loop-c.invariant.0

pub returns-then-at_lit : goal.returns-then-at_lit
returns-then-at_lit c =
    let l = c.loop-c in
    record { ready = record { stands = l.invariant.0; lit = λ h. sym c.at_lit.ensures ∙ c.if-at_lit.true }; at_le_at = l.invariant.1.0; from_value = l.invariant.1.1 }

pub advance-c-requires : goal.advance-c-requires
advance-c-requires c = record { stands = c.loop-c.invariant.0; at_in_bounds = c.loop-c-test.true }

pub loop-c-smaller : goal.loop-c-smaller
loop-c-smaller c = omega (arith, c.advance-c.ensures.at_lt_at, c.loop-c-test.true)

pub loop-c-preserved : goal.loop-c-preserved
loop-c-preserved c = let l = c.loop-c in let r = c.advance-c in (r.ensures.stands_2, (omega (arith, r.ensures.at_lt_at, l.invariant.1.0), l.invariant.1.1 ∙ none_here c.args.t.now l.c r.result (sym c.at_lit.ensures ∙ c.if-at_lit.false) r.ensures.c_value))

pub returns : goal.returns
returns c =
    let l = c.loop-c in
    record { ready = record { stands = l.invariant.0; lit = λ h. absurd (omega arith) }; at_le_at = l.invariant.1.0; from_value = l.invariant.1.1 }
