use Prim.Native.Nat.{ℕ, ◌≤◌, ◌<◌, ◌+◌, ◌-◌}
use mathlib.Core.Path.{◌≡◌, refl, sym, ap, ◌∙◌}
use mathlib.Core.List.{List}
use native.Mathlib.Omega.{arith}
use lib.ListN.{length, get_or, length-take, length-drop}
use Rattle.lines.specs.Lf.{part}
use Rattle.expr.specs.Pure.{is_pure, pure_by, quoted_in}
use Rattle.expr.proofs.PureLaws.{array_long, trim-le}
use Rattle.expr.proofs.WalkLaws.{walk-comma, walk-stop, walk-byte, walk_end, part_falls, opens-le, closes-le, cut-plain, cut_array}
use Rattle.expr.proofs.+elements_purity_cut.Goals.{elements-then-b-opened+else-not-is_pure, elements-else-b-opened}
use Rattle.expr.proofs.+elements_purity_cut.Goals as goal

pub elements-loop-i-init : goal.elements-loop-i-init
unfolding pure_by
elements-loop-i-init t c = record { began = omega arith; inside = omega arith; opened_le = omega arith; closed_le = omega arith; walked = refl }

pub elements-purity_cut-requires : goal.elements-purity_cut-requires
elements-purity_cut-requires t c = (part_falls c.args.s.now c.loop-i.start c.loop-i.i t c.decreases, tt)

pub elements-returns-then-not-is_pure : goal.elements-returns-then-not-is_pure
elements-returns-then-not-is_pure t c =
    let l = c.loop-i in
    let s = c.args.s.now in
    sym (l.invariant.walked ∙ walk-stop _ s l.start l.i l.opened l.closed (omega arith) c.if-b-opened.true (sym (c.is_pure.ensures ∙ ap is_pure c.purity_cut.ensures) ∙ c.if-not-is_pure.true))

pub elements-overflow_add-opened : goal.elements-overflow_add-opened
elements-overflow_add-opened t c = omega (arith, c.opens-opened.ensures, opens-le (get_or c.args.s.now c.loop-i.i 0))

pub elements-overflow_add-closed : goal.elements-overflow_add-closed
elements-overflow_add-closed t c = omega (arith, c.closes-closed.ensures, closes-le (get_or c.args.s.now c.loop-i.i 0))

pub elements-loop-i-preserved : goal.elements-loop-i-preserved
elements-loop-i-preserved t c =
    let l = c.loop-i in
    let s = c.args.s.now in
    let o = opens-le (get_or s l.i 0) in
    let k = closes-le (get_or s l.i 0) in
    elim c.if-b-opened.branch [
      | elements-then-b-opened+else-not-is_pure w ↦ record {
        began = omega arith;
        inside = omega arith;
        opened_le = omega arith;
        closed_le = omega arith;
        walked = rw (w.start-is, w.opened-is, w.closed-is) (l.invariant.walked ∙ walk-comma _ s l.start l.i l.opened l.closed (omega arith) w.if-b-opened.true (sym (w.is_pure.ensures ∙ ap is_pure w.purity_cut.ensures) ∙ w.if-not-is_pure.false));
      }
      | elements-else-b-opened w ↦ record {
        began = omega arith;
        inside = omega arith;
        opened_le = omega (arith, w.opens-opened.ensures);
        closed_le = omega (arith, w.closes-closed.ensures);
        walked = l.invariant.walked ∙ walk-byte _ s l.start l.i l.opened l.closed (omega arith) (omega arith) w.if-b-opened.false ∙ rw (w.start-is, w.opened-is, w.closed-is, w.opens-opened.ensures, w.closes-closed.ensures);
      }
    ]

pub elements-returns-then-is_blank : goal.elements-returns-then-is_blank
elements-returns-then-is_blank t c =
    let l = c.loop-i in
    let s = c.args.s.now in
    let e : l.i ≡ length s = omega arith in
    sym (l.invariant.walked ∙ walk_end _ s l.start l.i l.opened l.closed (omega arith) ∙ rw (e, sym c.is_blank.ensures ∙ c.if-is_blank.true))

pub elements-returns : goal.elements-returns
elements-returns t c =
    let l = c.loop-i in
    let s = c.args.s.now in
    let e : l.i ≡ length s = omega arith in
    sym (l.invariant.walked ∙ walk_end _ s l.start l.i l.opened l.closed (omega arith) ∙ rw (e, sym c.is_blank.ensures ∙ c.if-is_blank.false, c.is_pure-2.ensures, c.purity_cut-2.ensures))

pub purity_cut-overflow_sub-m : goal.purity_cut-overflow_sub-m
purity_cut-overflow_sub-m t c = omega (arith, array_long (quoted_in c.args.strict) c.space_trim-t.result.now (sym c.shape-k.ensures ∙ c.in-Array.is))

pub purity_cut-slice_bounds-elements-count : goal.purity_cut-slice_bounds-elements-count
purity_cut-slice_bounds-elements-count t c = omega (arith, array_long (quoted_in c.args.strict) c.space_trim-t.result.now (sym c.shape-k.ensures ∙ c.in-Array.is))

pub purity_cut-slice_bounds-elements-start : goal.purity_cut-slice_bounds-elements-start
purity_cut-slice_bounds-elements-start t c = omega (arith, array_long (quoted_in c.args.strict) c.space_trim-t.result.now (sym c.shape-k.ensures ∙ c.in-Array.is))

-- what is asked of an array's elements is less than what is asked of the text
inner-falls : (s r : List ℕ) (t : ℕ) → length s + length s ≡ t → length r ≤ length s → 2 ≤ length r → length (part 1 (length r - 1) r) + length (part 1 (length r - 1) r) + 1 < t
inner-falls s r t m g b =
    let e : length (part 1 (length r - 1) r) ≤ length r - 2 = simp (length-take, length-drop) (omega arith) in
    omega arith

pub purity_cut-elements-requires : goal.purity_cut-elements-requires
purity_cut-elements-requires t c =
    let s = c.args.s.now in
    let r = c.space_trim-t.result.now in
    let g : length r ≤ length s = rw c.space_trim-t.ensures (trim-le s) in
    (inner-falls s r t c.decreases g (array_long (quoted_in c.args.strict) r (sym c.shape-k.ensures ∙ c.in-Array.is)), tt)

pub purity_cut-returns-in-Plain : goal.purity_cut-returns-in-Plain
purity_cut-returns-in-Plain t c = cut-plain (quoted_in c.args.strict) c.args.s.now _ _ c.space_trim-t.ensures c.shape-k.ensures _ c.in-Plain.is

pub purity_cut-returns-then-elements : goal.purity_cut-returns-then-elements
purity_cut-returns-then-elements t c =
    let e = cut_array (quoted_in c.args.strict) c.args.s.now _ _ c.space_trim-t.ensures c.shape-k.ensures _ c.in-Array.is c.elements.ensures in
    rw c.if-elements.true at e

pub purity_cut-returns-else-elements : goal.purity_cut-returns-else-elements
purity_cut-returns-else-elements t c =
    let e = cut_array (quoted_in c.args.strict) c.args.s.now _ _ c.space_trim-t.ensures c.shape-k.ensures _ c.in-Array.is c.elements.ensures in
    rw c.if-elements.false at e
