use mathlib.Core.Path.{sym, ◌∙◌}
use native.Mathlib.Omega.{arith}
use Rattle.lines.specs.Lf.{lines_of}
use Rattle.place.proofs.Quiet.{above-all, quiet-filled}
use Rattle.place.proofs.inside_loop.Goals as goal

pub wipe-requires : goal.wipe-requires
wipe-requires c =
    let e = c.find_loop-x.ensures in
    omega (arith, e.1, above-all (lines_of c.args.text.now) (sym e.0 ∙ c.if-x.false), c.requires)

pub returns : goal.returns
returns c =
    let e = c.find_loop-x.ensures in
    quiet-filled c.args.text.now (sym c.if-x.false ∙ e.0) e.1 c.wipe.ensures
