use mathlib.Core.Path.{sym, ap, ◌∙◌}
use mathlib.Core.Bool.{Bool, ◌||◌}
use Rattle.lines.specs.Ascii.{ascii}
use Rattle.lines.specs.Lf.{suffixed}
use Rattle.place.specs.Inner.Loops.{loop_label}
use Rattle.place.proofs.LoopTests.{loop-is}
use Rattle.place.proofs.opens_loop.Goals as goal

pub returns-then-begins_loop : goal.returns-then-begins_loop
returns-then-begins_loop c = let t = c.args.t.now in sym (loop-is t ∙ ap (λ (b : Bool). b || (suffixed (ascii " do {") t || loop_label t)) (sym c.begins_loop.ensures ∙ c.if-begins_loop.true))

pub returns-then-ends_with : goal.returns-then-ends_with
returns-then-ends_with c = let t = c.args.t.now in sym (loop-is t ∙ ap (λ (b : Bool). b || (suffixed (ascii " do {") t || loop_label t)) (sym c.begins_loop.ensures ∙ c.if-begins_loop.false) ∙ ap (λ (b : Bool). b || loop_label t) (sym c.ends_with.ensures ∙ c.if-ends_with.true))

pub returns : goal.returns
returns c = let t = c.args.t.now in sym (loop-is t ∙ ap (λ (b : Bool). b || (suffixed (ascii " do {") t || loop_label t)) (sym c.begins_loop.ensures ∙ c.if-begins_loop.false) ∙ ap (λ (b : Bool). b || loop_label t) (sym c.ends_with.ensures ∙ c.if-ends_with.false) ∙ sym c.labels_loop.ensures)
