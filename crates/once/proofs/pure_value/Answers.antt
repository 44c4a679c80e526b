use mathlib.Core.Path.{ap, ◌∙◌}
use native.Mathlib.Omega.{arith}
use mathlib.Core.Bool.{Bool}
use Rattle.expr.specs.Pure.{is_pure, cut_in, purity_in}
use Rattle.expr.proofs.QuoteLaws.{cut-length}
use Rattle.once.proofs.Zeros.{wiped-over}
use Rattle.once.proofs.pure_value.Goals as goal

pub purity-p-requires : goal.purity-p-requires
purity-p-requires c =
    omega (arith, cut-length c.is_strict.result c.args.x.now, c.requires)

pub returns : goal.returns
returns c =
    let g = c.is_strict in
    let e = c.purity-p.ensures in
    record { answer = c.is_pure.ensures ∙ ap is_pure (e.answer ∙ ap (λ (b : Bool). purity_in b c.args.x.now) g.ensures); memory = wiped-over (cut_in g.result c.args.x.now) c.requires (cut-length g.result c.args.x.now) e.memory c.wipe.ensures }
