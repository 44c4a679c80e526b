use Prim.Native.Nat.{ℕ}
use native.Mathlib.Omega.{arith}
use mathlib.Core.Path.{refl, sym, ap, ◌∙◌}
use mathlib.Core.Bool.{false}
use mathlib.Core.List.{List}
use lib.ListN.{length, get_or}
use Rattle.parse.specs.Parse.{is_decl}
use Rattle.lines.proofs.OutLaws.{wrote_as}
use Rattle.lines.specs.Lf.{part, parts_of}
use Rattle.text.specs.Trim.{from_of, trim_of}
use Rattle.decls.proofs.Writes.{decl-long}
use Rattle.bind.specs.Inner.Steps.{line_of, bound_at, mark_row, other_text}
use Rattle.bind.proofs.SiteLaws.{noted-none, gives-no, gives-yes, text-other, marks-other, text-decl, marks-decl}
use Rattle.bind.proofs.bind_decl.Goals as goal

pub put_other-requires : goal.put_other-requires
put_other-requires c =
    let a = c.args in
    omega (arith, c.requires.1.1, ap length (text-other (bound_at a.text.now a.s a.blocks.now a.starts.now) (mark_row a.text.now a.s) (line_of a.text.now a.s) c.trim-t.result.now (c.trim-t.ensures.0 ∙ ap trim_of c.cut-line.ensures) false (gives-no (bound_at a.text.now a.s a.blocks.now a.starts.now) c.trim-t.result.now c.is_decl.result c.is_decl.ensures c.if-not-is_decl.true) refl (get_or a.marks.now a.s.row 0)), ap (λ (x : List ℕ). length (other_text x (get_or a.marks.now a.s.row 0))) c.cut-line.ensures)

pub returns-then-not-is_decl : goal.returns-then-not-is_decl
returns-then-not-is_decl c =
    let a = c.args in
    record { answer = wrote_as (sym (text-other (bound_at a.text.now a.s a.blocks.now a.starts.now) (mark_row a.text.now a.s) (line_of a.text.now a.s) c.trim-t.result.now (c.trim-t.ensures.0 ∙ ap trim_of c.cut-line.ensures) false (gives-no (bound_at a.text.now a.s a.blocks.now a.starts.now) c.trim-t.result.now c.is_decl.result c.is_decl.ensures c.if-not-is_decl.true) refl (get_or a.marks.now a.s.row 0) ∙ ap (λ (x : List ℕ). other_text x (get_or a.marks.now a.s.row 0)) (sym c.cut-line.ensures))) c.put_other.ensures; memory = marks-other (bound_at a.text.now a.s a.blocks.now a.starts.now) (mark_row a.text.now a.s) (line_of a.text.now a.s) c.trim-t.result.now (c.trim-t.ensures.0 ∙ ap trim_of c.cut-line.ensures) false (gives-no (bound_at a.text.now a.s a.blocks.now a.starts.now) c.trim-t.result.now c.is_decl.result c.is_decl.ensures c.if-not-is_decl.true) refl a.marks.now }

pub overflow_sub-t : goal.overflow_sub-t
overflow_sub-t c = omega (arith, decl-long _ (sym c.is_decl.ensures ∙ c.if-not-is_decl.false))

pub mark_names-requires : goal.mark_names-requires
mark_names-requires c =
    let p = c.requires in
    ((p.0.0, p.0.1 (ap is_decl (sym (c.trim-t.ensures.0 ∙ ap trim_of c.cut-line.ensures)) ∙ sym c.is_decl.ensures ∙ c.if-not-is_decl.false)), p.1.0)

pub bounds-marks-row-then-not-mark_names : goal.bounds-marks-row-then-not-mark_names
bounds-marks-row-then-not-mark_names c =
    let a = c.args in
    omega (arith, c.requires.1.0, ap length (c.mark_names.ensures.memory ∙ noted-none (bound_at a.text.now a.s a.blocks.now a.starts.now) (mark_row a.text.now a.s) (parts_of 44 c.cut-body.result.now) a.marks.now (sym c.mark_names.ensures.answer ∙ c.if-not-mark_names.true)))

pub put_other-requires-then-not-mark_names : goal.put_other-requires-then-not-mark_names
put_other-requires-then-not-mark_names c =
    let a = c.args in
    let k = c.mark_names.ensures.memory ∙ noted-none (bound_at a.text.now a.s a.blocks.now a.starts.now) (mark_row a.text.now a.s) (parts_of 44 c.cut-body.result.now) a.marks.now (sym c.mark_names.ensures.answer ∙ c.if-not-mark_names.true) in
    omega (arith, c.requires.1.1, ap length (text-other (bound_at a.text.now a.s a.blocks.now a.starts.now) (mark_row a.text.now a.s) (line_of a.text.now a.s) c.trim-t.result.now (c.trim-t.ensures.0 ∙ ap trim_of c.cut-line.ensures) c.mark_names.result (gives-yes (bound_at a.text.now a.s a.blocks.now a.starts.now) c.trim-t.result.now c.is_decl.result c.is_decl.ensures c.if-not-is_decl.false c.cut-body.result.now c.cut-body.ensures c.mark_names.result c.mark_names.ensures.answer) c.if-not-mark_names.true (get_or a.marks.now a.s.row 0)), ap (λ (x : List ℕ). length (other_text x (get_or a.marks.now a.s.row 0))) c.cut-line.ensures, ap (λ (m : List ℕ). length (other_text c.cut-line.result.now (get_or m a.s.row 0))) k)

pub returns-then-not-mark_names : goal.returns-then-not-mark_names
returns-then-not-mark_names c =
    let a = c.args in
    let k = c.mark_names.ensures.memory ∙ noted-none (bound_at a.text.now a.s a.blocks.now a.starts.now) (mark_row a.text.now a.s) (parts_of 44 c.cut-body.result.now) a.marks.now (sym c.mark_names.ensures.answer ∙ c.if-not-mark_names.true) in
    record { answer = wrote_as (sym (text-other (bound_at a.text.now a.s a.blocks.now a.starts.now) (mark_row a.text.now a.s) (line_of a.text.now a.s) c.trim-t.result.now (c.trim-t.ensures.0 ∙ ap trim_of c.cut-line.ensures) c.mark_names.result (gives-yes (bound_at a.text.now a.s a.blocks.now a.starts.now) c.trim-t.result.now c.is_decl.result c.is_decl.ensures c.if-not-is_decl.false c.cut-body.result.now c.cut-body.ensures c.mark_names.result c.mark_names.ensures.answer) c.if-not-mark_names.true (get_or a.marks.now a.s.row 0) ∙ ap (λ (x : List ℕ). other_text x (get_or a.marks.now a.s.row 0)) (sym c.cut-line.ensures) ∙ ap (λ (m : List ℕ). other_text c.cut-line.result.now (get_or m a.s.row 0)) (sym k))) c.put_other-then-not-mark_names.ensures; memory = k ∙ marks-other (bound_at a.text.now a.s a.blocks.now a.starts.now) (mark_row a.text.now a.s) (line_of a.text.now a.s) c.trim-t.result.now (c.trim-t.ensures.0 ∙ ap trim_of c.cut-line.ensures) c.mark_names.result (gives-yes (bound_at a.text.now a.s a.blocks.now a.starts.now) c.trim-t.result.now c.is_decl.result c.is_decl.ensures c.if-not-is_decl.false c.cut-body.result.now c.cut-body.ensures c.mark_names.result c.mark_names.ensures.answer) c.if-not-mark_names.true a.marks.now }

pub put_decl-requires : goal.put_decl-requires
put_decl-requires c =
    let a = c.args in
    let p = c.requires in
    ((p.0.0, p.0.1 (ap is_decl (sym (c.trim-t.ensures.0 ∙ ap trim_of c.cut-line.ensures)) ∙ sym c.is_decl.ensures ∙ c.if-not-is_decl.false)), omega (arith, c.requires.1.1, ap length (text-decl (bound_at a.text.now a.s a.blocks.now a.starts.now) (mark_row a.text.now a.s) (line_of a.text.now a.s) c.trim-t.result.now (c.trim-t.ensures.0 ∙ ap trim_of c.cut-line.ensures) c.mark_names.result (gives-yes (bound_at a.text.now a.s a.blocks.now a.starts.now) c.trim-t.result.now c.is_decl.result c.is_decl.ensures c.if-not-is_decl.false c.cut-body.result.now c.cut-body.ensures c.mark_names.result c.mark_names.ensures.answer) c.if-not-mark_names.false c.cut-body.result.now c.cut-body.ensures c.trim_from.result (c.trim_from.ensures ∙ ap from_of c.cut-line.ensures) c.cut-indent.result.now (c.cut-indent.ensures ∙ ap (λ (x : List ℕ). part 0 c.trim_from.result x) c.cut-line.ensures) (get_or a.marks.now a.s.row 0))))

pub returns : goal.returns
returns c =
    let a = c.args in
    record { answer = wrote_as (sym (text-decl (bound_at a.text.now a.s a.blocks.now a.starts.now) (mark_row a.text.now a.s) (line_of a.text.now a.s) c.trim-t.result.now (c.trim-t.ensures.0 ∙ ap trim_of c.cut-line.ensures) c.mark_names.result (gives-yes (bound_at a.text.now a.s a.blocks.now a.starts.now) c.trim-t.result.now c.is_decl.result c.is_decl.ensures c.if-not-is_decl.false c.cut-body.result.now c.cut-body.ensures c.mark_names.result c.mark_names.ensures.answer) c.if-not-mark_names.false c.cut-body.result.now c.cut-body.ensures c.trim_from.result (c.trim_from.ensures ∙ ap from_of c.cut-line.ensures) c.cut-indent.result.now (c.cut-indent.ensures ∙ ap (λ (x : List ℕ). part 0 c.trim_from.result x) c.cut-line.ensures) (get_or a.marks.now a.s.row 0))) c.put_decl.ensures; memory = c.mark_names.ensures.memory ∙ marks-decl (bound_at a.text.now a.s a.blocks.now a.starts.now) (mark_row a.text.now a.s) (line_of a.text.now a.s) c.trim-t.result.now (c.trim-t.ensures.0 ∙ ap trim_of c.cut-line.ensures) c.mark_names.result (gives-yes (bound_at a.text.now a.s a.blocks.now a.starts.now) c.trim-t.result.now c.is_decl.result c.is_decl.ensures c.if-not-is_decl.false c.cut-body.result.now c.cut-body.ensures c.mark_names.result c.mark_names.ensures.answer) c.if-not-mark_names.false c.cut-body.result.now c.cut-body.ensures a.marks.now }
