use mathlib.Core.Path.{refl, sym, ap, ◌∙◌}
use mathlib.Core.Bool.{Bool, ◌&&◌}
use Rattle.lines.specs.Lf.{ends_in}
use Rattle.text.specs.Trim.{trim_of}
use Rattle.place.specs.Loops.{opens_loop}
use Rattle.place.specs.Inner.Loops.{starts_loop}
use Rattle.place.proofs.Quiet.{starts-not, empty-not, low-not}
use Rattle.place.proofs.starts_loop.Goals as goal

pub returns-then-n-eq0 : goal.returns-then-n-eq0
returns-then-n-eq0 c = sym (empty-not c.args.line.now c.if-n-eq0.true)

pub returns-then-c : goal.returns-then-c
returns-then-c c = sym (low-not c.args.line.now _ refl c.if-c.true)

pub returns-then-not-ends_open : goal.returns-then-not-ends_open
returns-then-not-ends_open c =
    let m = c.trim-t.ensures.0 in
    sym (starts-not c.args.line.now (ap (ends_in 123) (sym m) ∙ sym c.ends_open.ensures ∙ c.if-not-ends_open.true))

pub returns : goal.returns
unfolding starts_loop
returns c =
    let m = c.trim-t.ensures.0 in
    let e = ap (ends_in 123) (sym m) ∙ sym c.ends_open.ensures ∙ c.if-not-ends_open.false in
    c.opens_loop.ensures ∙ ap opens_loop m ∙ sym (ap (λ (b : Bool). b && opens_loop (trim_of c.args.line.now)) e)
