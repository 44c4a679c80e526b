use Prim.Native.Nat.{◌+◌}
use native.Mathlib.Omega.{arith}
use mathlib.Core.Path.{sym, ap, ◌∙◌}
use lib.ListN.{length}
use Rattle.std.specs.declared.option.Option.{Option}
use Rattle.po.specs.declared.Flaw.{Flaw}
use Rattle.po.specs.Answers.{first_flaw, or_else}
use Rattle.po.specs.Inner.Walk.{spots_from}
use Rattle.po.proofs.WalkLaws.{part_length, lit-in}
use Rattle.po.proofs.LoopLaws.{flaw-first, flaw-end}
use Rattle.po.proofs.first_flaw.Goals as goal

pub first_lit-c-requires : goal.first_lit-c-requires
first_lit-c-requires c = tt

pub loop-c-init : goal.loop-c-init
loop-c-init c = (c.first_lit-c.ensures.ready, sym (ap first_flaw c.first_lit-c.ensures.t_value))

pub past_lit-next-requires : goal.past_lit-next-requires
past_lit-next-requires c = record { ready = c.loop-c.invariant.0; at_in_bounds = c.loop-c-test.true }

pub lit_rest-requires : goal.lit_rest-requires
lit_rest-requires c = c.loop-c-test.true

pub byte_at-requires : goal.byte_at-requires
byte_at-requires c = tt

pub lit_flaw-requires : goal.lit_flaw-requires
lit_flaw-requires c = let l = c.loop-c in let a = c.args in omega (arith, lit-in l.invariant.0 c.loop-c-test.true, l.invariant.0.stands.within, ap length c.lit_rest.ensures, part_length (l.c.at + 1) l.c.end a.t.now l.invariant.0.stands.within)

pub loop-c-smaller : goal.loop-c-smaller
loop-c-smaller c = omega (arith, c.past_lit-next.ensures.at_lt_at, c.loop-c-test.true)

pub loop-c-preserved : goal.loop-c-preserved
loop-c-preserved c = let l = c.loop-c in let a = c.args in let p = c.past_lit-next in let f = c.lit_flaw in (p.ensures.ready_2, (ap (λ (g : Option Flaw). or_else g (first_flaw (spots_from a.t.now p.result))) (sym c.in-None.is) ∙ sym (flaw-first a.t.now l.c p.result p.ensures.c_value f.result _ _ f.ensures c.lit_rest.ensures c.byte_at.ensures)) ∙ l.invariant.1)

pub returns-in-Some : goal.returns-in-Some
returns-in-Some c = let l = c.loop-c in let a = c.args in let p = c.past_lit-next in let f = c.lit_flaw in ap (λ (g : Option Flaw). or_else g (first_flaw (spots_from a.t.now p.result))) (sym c.in-Some.is) ∙ sym (flaw-first a.t.now l.c p.result p.ensures.c_value f.result _ _ f.ensures c.lit_rest.ensures c.byte_at.ensures) ∙ l.invariant.1

pub returns : goal.returns
returns c = let l = c.loop-c in sym (flaw-end c.args.t.now l.c l.invariant.0 c.loop-c-test.false) ∙ l.invariant.1
