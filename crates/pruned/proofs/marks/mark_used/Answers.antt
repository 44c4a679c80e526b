use Rattle.place.specs.Region.{region, is_header}
use Rattle.lines.proofs.EachLaws.{at-front, goes, stops}
use Rattle.lines.proofs.OutLaws.{writing-length, wrote_as}
use Rattle.lines.specs.Lf.{lines_of, part, up_to}
use Rattle.lines.proofs.Tests.{so}
use lib.ListN.{length, drop}
use mathlib.Core.Bool.{Bool, true, false, cond}
use mathlib.Core.List.{List}
use mathlib.Core.Path.{◌≡◌, refl, sym, ap, ◌∙◌}
use native.Mathlib.Omega.{arith}
use Prim.Native.Nat.{ℕ, ◌+◌, ◌<◌, ◌≤◌}
use Rattle.decls.proofs.SeenLaws.{TableInv, table-start, table-new, table-pass, table-region, table-inside, table-says, table_on}
use Rattle.pruned.specs.Inner.Marks.{line_marks}
use Rattle.pruned.proofs.MarkCode.{MarkInv, mark-start, mark-end, At, run-same, run-new, mark-room, mark_on, plain-line, plain-room}
use Rattle.pruned.proofs.marks.mark_used.Goals.{then-is_header, else-is_header}
use Rattle.pruned.proofs.marks.mark_used.Goals as goal

-- the region of the line, where the arms of the `if` meet
mid : {t d₀ d own s₀ s : List ℕ} {a b m i o : ℕ} (h : MarkInv t d₀ d a i o) (v : TableInv own t s₀ s a b m i) (e : ℕ) (k : i < length t) (q : e ≡ i + up_to 10 (drop i t)) (x : Bool) (y : x ≡ is_header (part i e t)) (a' : ℕ) (z : a' ≡ cond x i a) →
    (At t a i e a') × (TableInv own t s₀ s a' b m i)
mid {t = t} {a = a} {i = i} h v e k q true y a' z = rw z (run-new t a i e k q (sym y), table-new v)
mid {t = t} {a = a} {i = i} h v e k q false y a' z = rw z (run-same t a i e k q (sym y), v)

pub loop-line-init : goal.loop-line-init
loop-line-init c = let e = c.into_iter-line-iterator.ensures.into_iter_gives in let g = c.each-line-items.ensures in (at-front e g.text g.front, rw (e, g.front) (mark-start c.args.raw.now c.args.out.now c.requires.1, table-start _ _ _ c.requires.0))

pub mark_uses-k-requires : goal.mark_uses-k-requires
mark_uses-k-requires c = let k = goes c.loop-line.invariant.0 c.in-Some.ensures.steps in let z : c.if-is_header.a ≡ cond c.is_header.result c.loop-line.line-iterator.at c.loop-line.a = elim c.if-is_header.branch [ then-is_header w ↦ rw w.if-is_header.true (w.a-is ∙ k.here.from) | else-is_header w ↦ rw w.if-is_header.false w.a-is ] in let h = mid c.loop-line.invariant.1.0 c.loop-line.invariant.1.1 c.in-Some.line.to k.here.starts k.here.to c.is_header.result (rw k.here.bytes at c.is_header.ensures) c.if-is_header.a z in omega (arith, h.1.a≤, k.here.starts)

pub slice_bounds-put_marks-count : goal.slice_bounds-put_marks-count
slice_bounds-put_marks-count c = let k = goes c.loop-line.invariant.0 c.in-Some.ensures.steps in let z : c.if-is_header.a ≡ cond c.is_header.result c.loop-line.line-iterator.at c.loop-line.a = elim c.if-is_header.branch [ then-is_header w ↦ rw w.if-is_header.true (w.a-is ∙ k.here.from) | else-is_header w ↦ rw w.if-is_header.false w.a-is ] in let h = mid c.loop-line.invariant.1.0 c.loop-line.invariant.1.1 c.in-Some.line.to k.here.starts k.here.to c.is_header.result (rw k.here.bytes at c.is_header.ensures) c.if-is_header.a z in let u = c.mark_uses-k in omega (arith, table-inside h.1 u.result.mark u.result.end _ u.ensures.answer.0 u.ensures.answer.1 u.ensures.memory (omega (arith, h.1.a≤, k.here.starts)))

pub slice_bounds-put_marks-start : goal.slice_bounds-put_marks-start
slice_bounds-put_marks-start c = let k = goes c.loop-line.invariant.0 c.in-Some.ensures.steps in let z : c.if-is_header.a ≡ cond c.is_header.result c.loop-line.line-iterator.at c.loop-line.a = elim c.if-is_header.branch [ then-is_header w ↦ rw w.if-is_header.true (w.a-is ∙ k.here.from) | else-is_header w ↦ rw w.if-is_header.false w.a-is ] in let h = mid c.loop-line.invariant.1.0 c.loop-line.invariant.1.1 c.in-Some.line.to k.here.starts k.here.to c.is_header.result (rw k.here.bytes at c.is_header.ensures) c.if-is_header.a z in let u = c.mark_uses-k in omega (arith, table-inside h.1 u.result.mark u.result.end _ u.ensures.answer.0 u.ensures.answer.1 u.ensures.memory (omega (arith, h.1.a≤, k.here.starts)))

pub slice_bounds-put_marks-end : goal.slice_bounds-put_marks-end
slice_bounds-put_marks-end c = let k = goes c.loop-line.invariant.0 c.in-Some.ensures.steps in let z : c.if-is_header.a ≡ cond c.is_header.result c.loop-line.line-iterator.at c.loop-line.a = elim c.if-is_header.branch [ then-is_header w ↦ rw w.if-is_header.true (w.a-is ∙ k.here.from) | else-is_header w ↦ rw w.if-is_header.false w.a-is ] in let h = mid c.loop-line.invariant.1.0 c.loop-line.invariant.1.1 c.in-Some.line.to k.here.starts k.here.to c.is_header.result (rw k.here.bytes at c.is_header.ensures) c.if-is_header.a z in let u = c.mark_uses-k in omega (arith, table-inside h.1 u.result.mark u.result.end _ u.ensures.answer.0 u.ensures.answer.1 u.ensures.memory (omega (arith, h.1.a≤, k.here.starts)))

pub put_marks-o-requires : goal.put_marks-o-requires
put_marks-o-requires c = let k = goes c.loop-line.invariant.0 c.in-Some.ensures.steps in let z : c.if-is_header.a ≡ cond c.is_header.result c.loop-line.line-iterator.at c.loop-line.a = elim c.if-is_header.branch [ then-is_header w ↦ rw w.if-is_header.true (w.a-is ∙ k.here.from) | else-is_header w ↦ rw w.if-is_header.false w.a-is ] in let h = mid c.loop-line.invariant.1.0 c.loop-line.invariant.1.1 c.in-Some.line.to k.here.starts k.here.to c.is_header.result (rw k.here.bytes at c.is_header.ensures) c.if-is_header.a z in let u = c.mark_uses-k in (so c.declares.ensures c.if-declares.true, (table-says h.1 u.result.mark u.result.end _ u.ensures.answer.0 u.ensures.answer.1 u.ensures.memory _ refl, rw k.here.bytes (mark-room c.loop-line.invariant.1.0 c.in-Some.line.to k.here.starts k.here.to h.0 _ (table-region h.1 u.result.mark u.result.end _ u.ensures.answer.0 u.ensures.answer.1 u.ensures.memory _ refl))))

pub loop-line-preserved-then-declares : goal.loop-line-preserved-then-declares
loop-line-preserved-then-declares c = let k = goes c.loop-line.invariant.0 c.in-Some.ensures.steps in let z : c.if-is_header.a ≡ cond c.is_header.result c.loop-line.line-iterator.at c.loop-line.a = elim c.if-is_header.branch [ then-is_header w ↦ rw w.if-is_header.true (w.a-is ∙ k.here.from) | else-is_header w ↦ rw w.if-is_header.false w.a-is ] in let h = mid c.loop-line.invariant.1.0 c.loop-line.invariant.1.1 c.in-Some.line.to k.here.starts k.here.to c.is_header.result (rw k.here.bytes at c.is_header.ensures) c.if-is_header.a z in let u = c.mark_uses-k in (k.on, (mark_on c.loop-line.invariant.1.0 c.in-Some.line.to k.here.starts k.here.to h.0 _ (table-region h.1 u.result.mark u.result.end _ u.ensures.answer.0 u.ensures.answer.1 u.ensures.memory _ refl) (rw k.here.bytes at c.put_marks-o.ensures) k.here.next, table_on h.1 u.result.mark u.result.end _ u.ensures.answer.0 u.ensures.answer.1 u.ensures.memory c.in-Some.line.to _ k.here.starts k.here.to k.here.next))

pub overflow_add-line : goal.overflow_add-line
overflow_add-line c = let k = goes c.loop-line.invariant.0 c.in-Some.ensures.steps in let z : c.if-is_header.a ≡ cond c.is_header.result c.loop-line.line-iterator.at c.loop-line.a = elim c.if-is_header.branch [ then-is_header w ↦ rw w.if-is_header.true (w.a-is ∙ k.here.from) | else-is_header w ↦ rw w.if-is_header.false w.a-is ] in let h = mid c.loop-line.invariant.1.0 c.loop-line.invariant.1.1 c.in-Some.line.to k.here.starts k.here.to c.is_header.result (rw k.here.bytes at c.is_header.ensures) c.if-is_header.a z in let l = c.loop-line in let w = c.in-Some.line.bytes.now in let run = region (lines_of (drop c.if-is_header.a c.args.raw.now)) in let r : l.o + length (line_marks run w) ≤ length l.out = rw k.here.bytes (mark-room l.invariant.1.0 c.in-Some.line.to k.here.starts k.here.to h.0 run refl) in omega (arith, writing-length l.invariant.1.0.writing, plain-room run w (length w + 1) (so c.declares.ensures c.if-declares.false) refl l.o (length l.out) r)

pub put_zeros-o-requires : goal.put_zeros-o-requires
put_zeros-o-requires c = let k = goes c.loop-line.invariant.0 c.in-Some.ensures.steps in let z : c.if-is_header.a ≡ cond c.is_header.result c.loop-line.line-iterator.at c.loop-line.a = elim c.if-is_header.branch [ then-is_header w ↦ rw w.if-is_header.true (w.a-is ∙ k.here.from) | else-is_header w ↦ rw w.if-is_header.false w.a-is ] in let h = mid c.loop-line.invariant.1.0 c.loop-line.invariant.1.1 c.in-Some.line.to k.here.starts k.here.to c.is_header.result (rw k.here.bytes at c.is_header.ensures) c.if-is_header.a z in let l = c.loop-line in let w = c.in-Some.line.bytes.now in let run = region (lines_of (drop c.if-is_header.a c.args.raw.now)) in let r : l.o + length (line_marks run w) ≤ length l.out = rw k.here.bytes (mark-room l.invariant.1.0 c.in-Some.line.to k.here.starts k.here.to h.0 run refl) in plain-room run w (length w + 1) (so c.declares.ensures c.if-declares.false) refl l.o (length l.out) r

pub loop-line-preserved : goal.loop-line-preserved
loop-line-preserved c = let k = goes c.loop-line.invariant.0 c.in-Some.ensures.steps in let z : c.if-is_header.a ≡ cond c.is_header.result c.loop-line.line-iterator.at c.loop-line.a = elim c.if-is_header.branch [ then-is_header w ↦ rw w.if-is_header.true (w.a-is ∙ k.here.from) | else-is_header w ↦ rw w.if-is_header.false w.a-is ] in let h = mid c.loop-line.invariant.1.0 c.loop-line.invariant.1.1 c.in-Some.line.to k.here.starts k.here.to c.is_header.result (rw k.here.bytes at c.is_header.ensures) c.if-is_header.a z in let l = c.loop-line in let w = c.in-Some.line.bytes.now in let run = region (lines_of (drop c.if-is_header.a c.args.raw.now)) in (k.on, (mark_on l.invariant.1.0 c.in-Some.line.to k.here.starts k.here.to h.0 run refl (wrote_as (plain-line run w (length w + 1) (so c.declares.ensures c.if-declares.false) refl ∙ ap (line_marks run) k.here.bytes) c.put_zeros-o.ensures) k.here.next, table-pass h.1 c.in-Some.line.to _ k.here.starts k.here.to k.here.next))

pub returns : goal.returns
returns c = mark-end c.loop-line.invariant.1.0 (stops c.loop-line.invariant.0 c.in-None.ensures.steps)
