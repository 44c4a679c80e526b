use native.Mathlib.Omega.{arith}
use mathlib.Core.Path.{refl, sym, ap, ◌∙◌}
use mathlib.Core.Bool.{Bool, ◌||◌}
use lib.ListN.{length}
use Rattle.lines.proofs.Tests.{so, or-true, or-false}
use Rattle.expr.specs.Pure.{is_pure, cut_in, purity_in}
use Rattle.expr.proofs.QuoteLaws.{cut-length}
use Rattle.reading.specs.Reading.{reading_of, pure_in}
use Rattle.phis.proofs.Writes.{put-past}
use Rattle.phis.proofs.no_effect.Goals as goal

pub returns-then-phi_rhs_pure : goal.returns-then-phi_rhs_pure
returns-then-phi_rhs_pure c =
    let a = c.args in
    record { answer = sym (ap (λ (b : Bool). pure_in (reading_of a.mode.0) a.x.now || b) (so c.phi_rhs_pure.ensures c.if-phi_rhs_pure.true) ∙ or-true (pure_in (reading_of a.mode.0) a.x.now)); memory = refl }

pub purity-requires : goal.purity-requires
purity-requires c = omega (arith, cut-length c.is_strict.result c.args.x.now, c.requires)

pub returns : goal.returns
returns c =
    let a = c.args in
    let strict = c.is_strict in
    let purity = c.purity in
    let told = purity.ensures.answer ∙ ap (λ (b : Bool). purity_in b a.x.now) strict.ensures in
    let other = so c.phi_rhs_pure.ensures c.if-phi_rhs_pure.false in
    record {
      answer = c.is_pure.ensures ∙ ap is_pure told ∙ sym (ap (λ (b : Bool). pure_in (reading_of a.mode.0) a.x.now || b) other ∙ or-false (pure_in (reading_of a.mode.0) a.x.now));
      memory = put-past (cut_in strict.result a.x.now) a.scratch.now _ (length a.x.now) (cut-length strict.result a.x.now) purity.ensures.memory;
    }
