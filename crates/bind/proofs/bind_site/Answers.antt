use Prim.Native.Nat.{ℕ}
use native.Mathlib.Omega.{arith}
use mathlib.Core.Path.{refl, sym, ap, ◌∙◌}
use mathlib.Core.Bool.{false}
use mathlib.Core.List.{List}
use lib.ListN.{length, get_or}
use Rattle.lines.proofs.OutLaws.{wrote_as}
use Rattle.text.specs.Trim.{trim_of}
use Rattle.bind.specs.Inner.Steps.{line_of, bound_at, mark_row, other_text}
use Rattle.bind.proofs.SiteLaws.{front-other, text-other, marks-other}
use Rattle.bind.proofs.bind_site.Goals as goal

pub put_other-requires : goal.put_other-requires
put_other-requires c =
    let a = c.args in
    let m = get_or a.marks.now a.s.row 0 in
    omega (arith, c.requires.1.1, ap length (text-other (bound_at a.text.now a.s a.blocks.now a.starts.now) (mark_row a.text.now a.s) (line_of a.text.now a.s) (trim_of (line_of a.text.now a.s)) refl false (front-other (bound_at a.text.now a.s a.blocks.now a.starts.now) (line_of a.text.now a.s) _ c.cut-line.ensures _ c.trim_from.ensures _ c.byte_at.ensures c.if-byte_at-ne108.true) refl m), ap (λ (x : List ℕ). length (other_text x m)) c.cut-line.ensures)

pub returns-then-byte_at-ne108 : goal.returns-then-byte_at-ne108
returns-then-byte_at-ne108 c =
    let a = c.args in
    let m = get_or a.marks.now a.s.row 0 in
    let n = front-other (bound_at a.text.now a.s a.blocks.now a.starts.now) (line_of a.text.now a.s) _ c.cut-line.ensures _ c.trim_from.ensures _ c.byte_at.ensures c.if-byte_at-ne108.true in
    record { answer = wrote_as (sym (text-other (bound_at a.text.now a.s a.blocks.now a.starts.now) (mark_row a.text.now a.s) (line_of a.text.now a.s) (trim_of (line_of a.text.now a.s)) refl false n refl m ∙ ap (λ (x : List ℕ). other_text x m) (sym c.cut-line.ensures))) c.put_other.ensures; memory = marks-other (bound_at a.text.now a.s a.blocks.now a.starts.now) (mark_row a.text.now a.s) (line_of a.text.now a.s) (trim_of (line_of a.text.now a.s)) refl false n refl a.marks.now }

pub bind_decl-requires : goal.bind_decl-requires
bind_decl-requires c = c.requires

pub returns : goal.returns
returns c =
    let whole = c.bind_decl.ensures in
    record { answer = whole.answer; memory = whole.memory }
