use mathlib.Core.Path.{sym, ap, ◌∙◌}
use mathlib.Core.Bool.{Bool, not, ◌&&◌}
use Rattle.lines.specs.Lf.{lines_of}
use Rattle.lines.proofs.Tests.{so, and-false, and-true}
use Rattle.phis.specs.Phis.{phi_stored}
use Rattle.phis.proofs.search_dead.Goals as goal

pub returns-then-phi_read : goal.returns-then-phi_read
returns-then-phi_read c =
    let a = c.args in
    let s : Bool = phi_stored a.phi.0 (lines_of a.text.now) in
    sym (ap (λ (b : Bool). s && not b) (so c.phi_read.ensures c.if-phi_read.true) ∙ and-false s)

pub returns : goal.returns
returns c =
    let a = c.args in
    let s : Bool = phi_stored a.phi.0 (lines_of a.text.now) in
    c.phi_stored.ensures ∙ sym (ap (λ (b : Bool). s && not b) (so c.phi_read.ensures c.if-phi_read.false) ∙ and-true s)
