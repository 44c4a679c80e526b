use mathlib.Core.Path.{sym, ap, ◌∙◌}
use native.Mathlib.Omega.{arith}
use lib.Seq.{length-take-le}
use Rattle.lines.proofs.OutLaws.{wrote-part}
use Rattle.expr.specs.Pure.{quoted_in}
use Rattle.expr.specs.Inner.Pure.{purity_cut}
use Rattle.expr.proofs.OnceLaws.{purity-once}
use Rattle.expr.proofs.purity.Goals as goal

pub slice_bounds-purity_cut-end-2 : goal.slice_bounds-purity_cut-end-2
slice_bounds-purity_cut-end-2 c = let p = c.cut_in-n in sym (length-take-le p.result _ (omega (arith, p.auto.out, p.ensures.place, p.ensures.fits)))

pub returns : goal.returns
returns c =
    let p = c.cut_in-n in
    record { answer = c.purity_cut.ensures ∙ ap (purity_cut (quoted_in c.args.strict)) (wrote-part p.ensures) ∙ sym (purity-once c.args.strict c.args.s.now); memory = p.ensures.holds }
