use Prim.Native.Nat.{ℕ, ◌+◌, ◌<◌}
use native.Mathlib.Omega.{arith}
use mathlib.Core.Path.{◌≡◌, refl, sym, ap, ◌∙◌}
use mathlib.Core.Bool.{Bool, true, false, cond}
use mathlib.Core.List.{List}
use lib.ListN.{length, drop}
use Rattle.lines.proofs.Tests.{so}
use Rattle.lines.proofs.OutLaws.{wrote-length, writing-length}
use Rattle.decls.proofs.Writes.{PruneInv, prune-start, RunAt, run-same, run-new, prune-pass, prune-quiet, held-room, prune-room, prune-on, end-room, prune-end}
use Rattle.decls.proofs.SeenLaws.{TableInv, table-start, table-new, table-pass, quiet-le, table-quiet, table-region, table-inside, table-says, table_on}
use Rattle.decls.proofs.Moves.{move_start, move-pass, move-room, move-on, move-quiet, move-end-room, move-end}
use Rattle.lines.specs.Lf.{part, up_to}
use Rattle.text.specs.Trim.{trim_of}
use Rattle.parse.specs.Parse.{is_decl}
use Rattle.lines.proofs.LfLaws.{find-le}
use Rattle.place.specs.Region.{is_header}
use Rattle.decls.proofs.prune_with.Goals.{then-is_header, else-is_header}
use Rattle.decls.proofs.prune_with.Goals as goal

-- the region of the line, where the arms of the `if` meet
mid : {t d₀ d own s₀ s : List ℕ} {a b m c i o : ℕ} (h : PruneInv t d₀ d a c i o) (v : TableInv own t s₀ s a b m i) (e : ℕ) (k : i < length t) (q : e ≡ i + up_to 10 (drop i t)) (x : Bool) (y : x ≡ is_header (part i e t)) (a' : ℕ) (z : a' ≡ cond x i a) →
    (RunAt t a i e a') × (TableInv own t s₀ s a' b m i)
mid h v e k q true y a' z = rw z (run-new h e k q _ refl (sym y), table-new v)
mid h v e k q false y a' z = rw z (run-same h e k q _ refl (sym y), v)

pub loop-i-init : goal.loop-i-init
loop-i-init c = (prune-start _ _ c.requires.1.0, (table-start _ _ _ c.requires.0, move_start _ _ c.requires.1.1))

pub slice_bounds-line-end : goal.slice_bounds-line-end
slice_bounds-line-end c = omega (arith, find-le 10 c.args.text.now c.loop-i.i c.find_byte-e.result (omega arith) c.find_byte-e.ensures)

pub mark_once-k-requires : goal.mark_once-k-requires
mark_once-k-requires c = let z : c.if-is_header.a ≡ cond c.is_header.result c.loop-i.i c.loop-i.a = elim c.if-is_header.branch [ then-is_header w ↦ rw w.if-is_header.true w.a-is | else-is_header w ↦ rw w.if-is_header.false w.a-is ] in (omega (arith, (mid c.loop-i.invariant.0 c.loop-i.invariant.1.0 c.find_byte-e.result c.loop-i-test.true c.find_byte-e.ensures c.is_header.result c.is_header.ensures c.if-is_header.a z).1.a≤, c.loop-i-test.true), λ _. ap (λ (n : ℕ). is_decl (trim_of (part c.loop-i.i n c.args.text.now))) (sym c.find_byte-e.ensures) ∙ so c.declares.ensures c.if-declares.true)

pub slice_bounds-held-count : goal.slice_bounds-held-count
slice_bounds-held-count c = omega (arith, c.loop-i.invariant.0.c≤, c.loop-i.invariant.0.i≤)

pub slice_bounds-held-start : goal.slice_bounds-held-start
slice_bounds-held-start c = omega (arith, c.loop-i.invariant.0.c≤, c.loop-i.invariant.0.i≤)

pub slice_bounds-held-end : goal.slice_bounds-held-end
slice_bounds-held-end c = omega (arith, c.loop-i.invariant.0.c≤, c.loop-i.invariant.0.i≤)

pub put-p-requires : goal.put-p-requires
put-p-requires c = let z : c.if-is_header.a ≡ cond c.is_header.result c.loop-i.i c.loop-i.a = elim c.if-is_header.branch [ then-is_header w ↦ rw w.if-is_header.true w.a-is | else-is_header w ↦ rw w.if-is_header.false w.a-is ] in let f = c.find_byte-e in held-room c.loop-i.invariant.0 f.result c.loop-i-test.true f.ensures _ refl (mid c.loop-i.invariant.0 c.loop-i.invariant.1.0 c.find_byte-e.result c.loop-i-test.true c.find_byte-e.ensures c.is_header.result c.is_header.ensures c.if-is_header.a z).0 _ refl

pub slice_bounds-put_line-count : goal.slice_bounds-put_line-count
slice_bounds-put_line-count c = let z : c.if-is_header.a ≡ cond c.is_header.result c.loop-i.i c.loop-i.a = elim c.if-is_header.branch [ then-is_header w ↦ rw w.if-is_header.true w.a-is | else-is_header w ↦ rw w.if-is_header.false w.a-is ] in let h = mid c.loop-i.invariant.0 c.loop-i.invariant.1.0 c.find_byte-e.result c.loop-i-test.true c.find_byte-e.ensures c.is_header.result c.is_header.ensures c.if-is_header.a z in let k = c.mark_once-k in omega (arith, table-inside h.1 k.result.mark k.result.end _ k.ensures.answer.0 k.ensures.answer.1.0 k.ensures.memory (omega (arith, h.1.a≤, c.loop-i-test.true)))

pub slice_bounds-put_line-start : goal.slice_bounds-put_line-start
slice_bounds-put_line-start c = let z : c.if-is_header.a ≡ cond c.is_header.result c.loop-i.i c.loop-i.a = elim c.if-is_header.branch [ then-is_header w ↦ rw w.if-is_header.true w.a-is | else-is_header w ↦ rw w.if-is_header.false w.a-is ] in let h = mid c.loop-i.invariant.0 c.loop-i.invariant.1.0 c.find_byte-e.result c.loop-i-test.true c.find_byte-e.ensures c.is_header.result c.is_header.ensures c.if-is_header.a z in let k = c.mark_once-k in omega (arith, table-inside h.1 k.result.mark k.result.end _ k.ensures.answer.0 k.ensures.answer.1.0 k.ensures.memory (omega (arith, h.1.a≤, c.loop-i-test.true)))

pub slice_bounds-put_line-end : goal.slice_bounds-put_line-end
slice_bounds-put_line-end c = let z : c.if-is_header.a ≡ cond c.is_header.result c.loop-i.i c.loop-i.a = elim c.if-is_header.branch [ then-is_header w ↦ rw w.if-is_header.true w.a-is | else-is_header w ↦ rw w.if-is_header.false w.a-is ] in let h = mid c.loop-i.invariant.0 c.loop-i.invariant.1.0 c.find_byte-e.result c.loop-i-test.true c.find_byte-e.ensures c.is_header.result c.is_header.ensures c.if-is_header.a z in let k = c.mark_once-k in omega (arith, table-inside h.1 k.result.mark k.result.end _ k.ensures.answer.0 k.ensures.answer.1.0 k.ensures.memory (omega (arith, h.1.a≤, c.loop-i-test.true)))

pub put_line-o-requires : goal.put_line-o-requires
put_line-o-requires c =
    let z : c.if-is_header.a ≡ cond c.is_header.result c.loop-i.i c.loop-i.a = elim c.if-is_header.branch [ then-is_header w ↦ rw w.if-is_header.true w.a-is | else-is_header w ↦ rw w.if-is_header.false w.a-is ] in let h = mid c.loop-i.invariant.0 c.loop-i.invariant.1.0 c.find_byte-e.result c.loop-i-test.true c.find_byte-e.ensures c.is_header.result c.is_header.ensures c.if-is_header.a z in
    let f = c.find_byte-e in
    let k = c.mark_once-k in
    (so c.declares.ensures c.if-declares.true, (table-says h.1 k.result.mark k.result.end _ k.ensures.answer.0 k.ensures.answer.1.0 k.ensures.memory _ refl, prune-room c.loop-i.invariant.0 f.result c.loop-i-test.true f.ensures _ refl h.0 _ refl c.put-p.ensures _ (table-region h.1 k.result.mark k.result.end _ k.ensures.answer.0 k.ensures.answer.1.0 k.ensures.memory _ refl)))

pub note_decl-row-requires : goal.note_decl-row-requires
note_decl-row-requires c =
    let z : c.if-is_header.a ≡ cond c.is_header.result c.loop-i.i c.loop-i.a = elim c.if-is_header.branch [ then-is_header w ↦ rw w.if-is_header.true w.a-is | else-is_header w ↦ rw w.if-is_header.false w.a-is ] in let h = mid c.loop-i.invariant.0 c.loop-i.invariant.1.0 c.find_byte-e.result c.loop-i-test.true c.find_byte-e.ensures c.is_header.result c.is_header.ensures c.if-is_header.a z in
    let f = c.find_byte-e in
    let k = c.mark_once-k in
    move-room c.loop-i.invariant.1.1 f.result c.loop-i-test.true f.ensures _ refl h.0 _ refl _ (table-region h.1 k.result.mark k.result.end _ k.ensures.answer.0 k.ensures.answer.1.0 k.ensures.memory _ refl)

pub loop-i-smaller-then-declares : goal.loop-i-smaller-then-declares
loop-i-smaller-then-declares c = omega (arith, c.after-n.ensures, c.find_byte-e.ensures, c.loop-i-test.true, quiet-le c.mark_once-k.ensures.answer.1.1)

pub loop-i-preserved-then-declares : goal.loop-i-preserved-then-declares
loop-i-preserved-then-declares c =
    let z : c.if-is_header.a ≡ cond c.is_header.result c.loop-i.i c.loop-i.a = elim c.if-is_header.branch [ then-is_header w ↦ rw w.if-is_header.true w.a-is | else-is_header w ↦ rw w.if-is_header.false w.a-is ] in let h = mid c.loop-i.invariant.0 c.loop-i.invariant.1.0 c.find_byte-e.result c.loop-i-test.true c.find_byte-e.ensures c.is_header.result c.is_header.ensures c.if-is_header.a z in
    let v = c.loop-i.invariant in
    let f = c.find_byte-e in
    let b = c.loop-i-test.true in
    let k = c.mark_once-k in
    let n = c.after-n in
    let w = k.ensures.answer.1.1 in
    let s = table-region h.1 k.result.mark k.result.end _ k.ensures.answer.0 k.ensures.answer.1.0 k.ensures.memory _ refl in
    let p = prune-on v.0 f.result b f.ensures _ refl h.0 _ refl c.put-p.ensures _ s c.put_line-o.ensures n.ensures in (
      prune-quiet p w,
      (
        table-quiet (table_on h.1 k.result.mark k.result.end _ k.ensures.answer.0 k.ensures.answer.1.0 k.ensures.memory f.result n.result b f.ensures n.ensures) k.result.next w,
        move-quiet p (move-on v.1.1 f.result b f.ensures _ refl h.0 _ refl _ s c.put_line-o.ensures c.note_decl-row.ensures n.ensures) w,
      ),
    )

pub loop-i-smaller : goal.loop-i-smaller
loop-i-smaller c = omega (arith, c.after-i.ensures, c.find_byte-e.ensures, c.loop-i-test.true)

pub loop-i-preserved : goal.loop-i-preserved
loop-i-preserved c =
    let z : c.if-is_header.a ≡ cond c.is_header.result c.loop-i.i c.loop-i.a = elim c.if-is_header.branch [ then-is_header w ↦ rw w.if-is_header.true w.a-is | else-is_header w ↦ rw w.if-is_header.false w.a-is ] in let h = mid c.loop-i.invariant.0 c.loop-i.invariant.1.0 c.find_byte-e.result c.loop-i-test.true c.find_byte-e.ensures c.is_header.result c.is_header.ensures c.if-is_header.a z in
    let v = c.loop-i.invariant in
    let f = c.find_byte-e in
    let b = c.loop-i-test.true in
    let e = so c.declares.ensures c.if-declares.false in (
      prune-pass v.0 f.result b f.ensures _ refl h.0 e c.after-i.result c.after-i.ensures,
      (
        table-pass h.1 f.result c.after-i.result b f.ensures c.after-i.ensures,
        move-pass v.1.1 f.result b f.ensures _ refl h.0 c.after-i.result c.after-i.ensures e,
      ),
    )

pub slice_bounds-rest-count : goal.slice_bounds-rest-count
slice_bounds-rest-count c = omega (arith, c.loop-i.invariant.0.c≤, c.loop-i.invariant.0.i≤)

pub slice_bounds-rest-start : goal.slice_bounds-rest-start
slice_bounds-rest-start c = omega (arith, c.loop-i.invariant.0.c≤, c.loop-i.invariant.0.i≤)

pub slice_bounds-rest-end : goal.slice_bounds-rest-end
slice_bounds-rest-end c = omega (arith, c.loop-i.invariant.0.c≤, c.loop-i.invariant.0.i≤)

pub stay_lines-requires : goal.stay_lines-requires
stay_lines-requires c = move-end-room c.loop-i.invariant.1.1 c.loop-i-test.false _ refl

pub put_lines-requires : goal.put_lines-requires
put_lines-requires c = end-room c.loop-i.invariant.0 c.loop-i-test.false _ refl

pub shape_of-seen : goal.shape_of-seen
shape_of-seen c = c.loop-i.invariant.1.0.long

pub shape_of-out : goal.shape_of-out
shape_of-out c = c.put_lines.auto.out ∙ writing-length c.loop-i.invariant.0.writing

pub shape_of-moves : goal.shape_of-moves
shape_of-moves c = wrote-length c.stay_lines.ensures ∙ writing-length c.loop-i.invariant.1.1.noting

pub returns : goal.returns
returns c =
    record { answer = prune-end c.loop-i.invariant.0 c.loop-i-test.false _ refl c.put_lines.ensures; moves = move-end c.loop-i.invariant.1.1 c.loop-i-test.false _ refl c.stay_lines.ensures }
