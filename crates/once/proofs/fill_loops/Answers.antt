use mathlib.Core.Path.{◌≡◌, sym, ◌∙◌}
use mathlib.Core.Bool.{false}
use Rattle.lines.specs.Lf.{lines_of}
use Rattle.place.specs.Inner.Loops.{some_loop}
use Rattle.place.proofs.Quiet.{above-all, quiet-filled}
use Rattle.once.proofs.fill_loops.Goals as goal

pub returns : goal.returns
returns c =
    let a = c.args in
    let p = c.requires in
    let s : false ≡ some_loop (lines_of a.text.now) = sym c.if-some.false ∙ p.0 in
    quiet-filled a.text.now s (p.1.0 ∙ sym (above-all (lines_of a.text.now) (sym s))) c.wipe.ensures
