use native.Mathlib.Omega.{arith}
use Prim.Native.Nat.{ℕ}
use mathlib.Core.List.{List}
use Rattle.parse.specs.declared.Line.{Line}
use Rattle.parse.specs.declared.Store.{Store}
use Rattle.parse.specs.declared.Line.TheVariants as line
use Rattle.calls.specs.Leaves.{other}
use mathlib.Core.Path.{◌≡◌, refl, sym, ap, ◌∙◌}
use Rattle.lines.specs.Lf.{part}
use Rattle.calls.specs.LeavesOf.{parsed_by}
use Rattle.calls.proofs.Climbs.{put-out, climb-start, climb-in, climb-out, row-some, step-some, turn_in, owner-in, blocks-in, text-some, ours-room, drop-end, drop-on, stack_some, other-end, may-end, absorb-room, noted_here, none_end, new-room, absorb-on}
use Rattle.calls.proofs.walk_up.Goals as goal

no_store : (w : List ℕ) (p : Line) → ((x : Store) → p ≡ line.Store x → ⊥) → parsed_by w p ≡ other
no_store w line.Decl e = refl
no_store w (line.Store s) e = absurd (e s refl)
no_store w line.Other e = refl

pub loop-k-init : goal.loop-k-init
loop-k-init c = climb-start c.requires.0 c.requires.1.0 c.requires.1.1.0 c.requires.1.1.1.0 c.requires.1.1.1.1.0 c.requires.1.1.1.1.1.0

pub overflow_add-steps : goal.overflow_add-steps
overflow_add-steps c = omega (arith, step-some (climb-in c.loop-k.invariant c.loop-k-test.true))

pub overflow_sub-p : goal.overflow_sub-p
overflow_sub-p c = text-some (climb-in c.loop-k.invariant c.loop-k-test.true)

pub line_start-q-requires : goal.line_start-q-requires
line_start-q-requires c = tt

pub overflow_sub-k : goal.overflow_sub-k
overflow_sub-k c = row-some (climb-in c.loop-k.invariant c.loop-k-test.true)

pub offset_bounds-owner-k : goal.offset_bounds-owner-k
offset_bounds-owner-k c = omega (arith, owner-in (climb-in c.loop-k.invariant c.loop-k-test.true), c.loop-k.invariant.same-owner, c.loop-k.invariant.ground.n-owner)

pub bounds-owner-k : goal.bounds-owner-k
bounds-owner-k c = owner-in (climb-in c.loop-k.invariant c.loop-k-test.true)

pub overflow_sub-k-then-owner-k-ne0 : goal.overflow_sub-k-then-owner-k-ne0
overflow_sub-k-then-owner-k-ne0 c = row-some (climb-in c.loop-k.invariant c.loop-k-test.true)

pub is_ours-requires : goal.is_ours-requires
is_ours-requires c = ours-room (climb-in c.loop-k.invariant c.loop-k-test.true) c.if-owner-k-ne0.true

pub overflow_sub-p-then-owner-k-ne0 : goal.overflow_sub-p-then-owner-k-ne0
overflow_sub-p-then-owner-k-ne0 c = text-some (climb-in c.loop-k.invariant c.loop-k-test.true)

pub cut-requires : goal.cut-requires
cut-requires c = tt

pub is_header-over-requires : goal.is_header-over-requires
is_header-over-requires c = tt

pub overflow_sub-k-then-owner-k-ne0-2 : goal.overflow_sub-k-then-owner-k-ne0-2
overflow_sub-k-then-owner-k-ne0-2 c = row-some (climb-in c.loop-k.invariant c.loop-k-test.true)

pub loop-k-smaller-then-owner-k-ne0 : goal.loop-k-smaller-then-owner-k-ne0
loop-k-smaller-then-owner-k-ne0 c = omega (arith, step-some (climb-in c.loop-k.invariant c.loop-k-test.true))

pub loop-k-preserved-then-owner-k-ne0 : goal.loop-k-preserved-then-owner-k-ne0
loop-k-preserved-then-owner-k-ne0 c = drop-on (climb-in c.loop-k.invariant c.loop-k-test.true) c.if-owner-k-ne0.true _ c.line_start-q.ensures _ c.is_ours.ensures c.if-not-is_ours.false _ c.cut.ensures _ c.is_header-over.ensures

pub overflow_sub-h : goal.overflow_sub-h
overflow_sub-h c = stack_some (climb-in c.loop-k.invariant c.loop-k-test.true) c.if-owner-k-ne0.false

pub line_start-b-requires : goal.line_start-b-requires
line_start-b-requires c = tt

pub overflow_sub-h-else-owner-k-ne0 : goal.overflow_sub-h-else-owner-k-ne0
overflow_sub-h-else-owner-k-ne0 c = stack_some (climb-in c.loop-k.invariant c.loop-k-test.true) c.if-owner-k-ne0.false

pub cut-x-requires : goal.cut-x-requires
cut-x-requires c = tt

pub parse-read-requires : goal.parse-read-requires
parse-read-requires c = tt

pub overflow_sub-k-else-owner-k-ne0 : goal.overflow_sub-k-else-owner-k-ne0
overflow_sub-k-else-owner-k-ne0 c = row-some (climb-in c.loop-k.invariant c.loop-k-test.true)

pub may_go-requires : goal.may_go-requires
may_go-requires c = blocks-in (climb-in c.loop-k.invariant c.loop-k-test.true)

pub value_of-v-requires : goal.value_of-v-requires
value_of-v-requires c = tt

pub cut-line-requires : goal.cut-line-requires
cut-line-requires c = tt

pub cut-under-requires : goal.cut-under-requires
cut-under-requires c = tt

pub overflow_sub-p-else-owner-k-ne0 : goal.overflow_sub-p-else-owner-k-ne0
overflow_sub-p-else-owner-k-ne0 c = text-some (climb-in c.loop-k.invariant c.loop-k-test.true)

pub cut-above-requires : goal.cut-above-requires
cut-above-requires c = tt

pub cut-taken-requires : goal.cut-taken-requires
cut-taken-requires c = tt

pub overflow_sub-k-else-owner-k-ne0-2 : goal.overflow_sub-k-else-owner-k-ne0-2
overflow_sub-k-else-owner-k-ne0-2 c = row-some (climb-in c.loop-k.invariant c.loop-k-test.true)

pub offset_bounds-owner-k-else-owner-k-ne0 : goal.offset_bounds-owner-k-else-owner-k-ne0
offset_bounds-owner-k-else-owner-k-ne0 c = omega (arith, turn_in (climb-in c.loop-k.invariant c.loop-k-test.true), c.loop-k.invariant.same-owner, c.loop-k.invariant.ground.n-owner)

pub slice_bounds-absorb-count : goal.slice_bounds-absorb-count
slice_bounds-absorb-count c = turn_in (climb-in c.loop-k.invariant c.loop-k-test.true)

pub slice_bounds-absorb-start : goal.slice_bounds-absorb-start
slice_bounds-absorb-start c = turn_in (climb-in c.loop-k.invariant c.loop-k-test.true)

pub slice_bounds-absorb-end : goal.slice_bounds-absorb-end
slice_bounds-absorb-end c = omega (arith, c.loop-k.invariant.same-owner, c.loop-k.invariant.ground.n-owner)

pub absorb-made-requires : goal.absorb-made-requires
absorb-made-requires c = (absorb-room (climb-in c.loop-k.invariant c.loop-k-test.true) c.if-owner-k-ne0.false _ c.line_start-b.ensures _ c.cut-x.ensures c.in-Store.s (sym c.parse-read.ensures ∙ c.in-Store.is) _ c.value_of-v.ensures _ c.may_go.ensures c.if-not-may_go.false _ _ _ c.cut-line.ensures c.cut-under.ensures c.cut-taken.ensures, noted_here (climb-in c.loop-k.invariant c.loop-k-test.true) c.args.notes.now c.in-Store.s.reg.0 c.requires.1.1.1.1.1.1 c.requires.1.0.below _ c.line_start-q.ensures c.cut-above.ensures c.cut-under.ensures)

pub cut-requires-else-owner-k-ne0 : goal.cut-requires-else-owner-k-ne0
cut-requires-else-owner-k-ne0 c = tt

pub put-c-requires : goal.put-c-requires
put-c-requires c = new-room (climb-in c.loop-k.invariant c.loop-k-test.true) c.if-owner-k-ne0.false _ c.line_start-b.ensures _ c.cut-x.ensures c.in-Store.s (sym c.parse-read.ensures ∙ c.in-Store.is) _ c.value_of-v.ensures _ c.may_go.ensures c.if-not-may_go.false _ _ _ c.cut-line.ensures c.cut-under.ensures c.cut-taken.ensures c.absorb-made.ensures c.in-Some.is _ c.cut-else-owner-k-ne0.ensures

pub overflow_sub-owner : goal.overflow_sub-owner
overflow_sub-owner c = turn_in (climb-in c.loop-k.invariant c.loop-k-test.true)

pub overflow_add-owner : goal.overflow_add-owner
overflow_add-owner c = omega (arith, turn_in (climb-in c.loop-k.invariant c.loop-k-test.true), c.loop-k.invariant.same-owner, c.loop-k.invariant.ground.n-owner)

pub overflow_sub-owner-else-owner-k-ne0 : goal.overflow_sub-owner-else-owner-k-ne0
overflow_sub-owner-else-owner-k-ne0 c = row-some (climb-in c.loop-k.invariant c.loop-k-test.true)

pub offset_bounds-owner-k-else-owner-k-ne0-2 : goal.offset_bounds-owner-k-else-owner-k-ne0-2
offset_bounds-owner-k-else-owner-k-ne0-2 c = omega (arith, owner-in (climb-in c.loop-k.invariant c.loop-k-test.true), c.loop-k.invariant.same-owner, c.loop-k.invariant.ground.n-owner)

pub bounds-owner-k-else-owner-k-ne0 : goal.bounds-owner-k-else-owner-k-ne0
bounds-owner-k-else-owner-k-ne0 c = owner-in (climb-in c.loop-k.invariant c.loop-k-test.true)

pub is_header-over-requires-else-owner-k-ne0 : goal.is_header-over-requires-else-owner-k-ne0
is_header-over-requires-else-owner-k-ne0 c = tt

pub overflow_sub-k-else-owner-k-ne0-3 : goal.overflow_sub-k-else-owner-k-ne0-3
overflow_sub-k-else-owner-k-ne0-3 c = row-some (climb-in c.loop-k.invariant c.loop-k-test.true)

pub loop-k-smaller : goal.loop-k-smaller
loop-k-smaller c = omega (arith, step-some (climb-in c.loop-k.invariant c.loop-k-test.true))

pub loop-k-preserved : goal.loop-k-preserved
loop-k-preserved c = absorb-on (climb-in c.loop-k.invariant c.loop-k-test.true) c.if-owner-k-ne0.false _ c.line_start-b.ensures _ c.cut-x.ensures c.in-Store.s (sym c.parse-read.ensures ∙ c.in-Store.is) _ c.value_of-v.ensures _ c.may_go.ensures c.if-not-may_go.false _ _ _ c.cut-line.ensures c.cut-under.ensures c.cut-taken.ensures c.absorb-made.ensures c.in-Some.is _ c.cut-else-owner-k-ne0.ensures c.put-c.ensures _ c.line_start-q.ensures _ c.cut-above.ensures _ c.is_header-over-else-owner-k-ne0.ensures

pub shape_of-owner-after-loop-k : goal.shape_of-owner-after-loop-k
shape_of-owner-after-loop-k c = c.loop-k.invariant.same-owner

pub shape_of-cur-after-loop-k : goal.shape_of-cur-after-loop-k
shape_of-cur-after-loop-k c = c.loop-k.invariant.same-cur

pub shape_of-next-after-loop-k : goal.shape_of-next-after-loop-k
shape_of-next-after-loop-k c = c.loop-k.invariant.same_next

pub returns-after-loop-k : goal.returns-after-loop-k
returns-after-loop-k c = climb-out c.loop-k.invariant c.loop-k-test.false

pub shape_of-owner-then-not-is_ours : goal.shape_of-owner-then-not-is_ours
shape_of-owner-then-not-is_ours c = c.loop-k.invariant.same-owner

pub shape_of-cur-then-not-is_ours : goal.shape_of-cur-then-not-is_ours
shape_of-cur-then-not-is_ours c = c.loop-k.invariant.same-cur

pub shape_of-next-then-not-is_ours : goal.shape_of-next-then-not-is_ours
shape_of-next-then-not-is_ours c = c.loop-k.invariant.same_next

pub returns-then-not-is_ours : goal.returns-then-not-is_ours
returns-then-not-is_ours c = drop-end (climb-in c.loop-k.invariant c.loop-k-test.true) c.if-owner-k-ne0.true _ c.is_ours.ensures c.if-not-is_ours.true

pub shape_of-owner-in_default : goal.shape_of-owner-in_default
shape_of-owner-in_default c = c.loop-k.invariant.same-owner

pub shape_of-cur-in_default : goal.shape_of-cur-in_default
shape_of-cur-in_default c = c.loop-k.invariant.same-cur

pub shape_of-next-in_default : goal.shape_of-next-in_default
shape_of-next-in_default c = c.loop-k.invariant.same_next

pub returns-in_default : goal.returns-in_default
returns-in_default c = other-end (climb-in c.loop-k.invariant c.loop-k-test.true) c.if-owner-k-ne0.false _ c.line_start-b.ensures _ c.cut-x.ensures (ap (parsed_by c.cut-x.result.now) (sym c.parse-read.ensures) ∙ no_store c.cut-x.result.now c.parse-read.result c.in_default.not-Store)

pub shape_of-owner-then-not-may_go : goal.shape_of-owner-then-not-may_go
shape_of-owner-then-not-may_go c = c.loop-k.invariant.same-owner

pub shape_of-cur-then-not-may_go : goal.shape_of-cur-then-not-may_go
shape_of-cur-then-not-may_go c = c.loop-k.invariant.same-cur

pub shape_of-next-then-not-may_go : goal.shape_of-next-then-not-may_go
shape_of-next-then-not-may_go c = c.loop-k.invariant.same_next

pub returns-then-not-may_go : goal.returns-then-not-may_go
returns-then-not-may_go c = may-end (climb-in c.loop-k.invariant c.loop-k-test.true) c.if-owner-k-ne0.false _ c.line_start-b.ensures _ c.cut-x.ensures c.in-Store.s (sym c.parse-read.ensures ∙ c.in-Store.is) (part c.in-Store.s.from c.in-Store.s.to c.cut-x.result.now) refl _ c.may_go.ensures c.if-not-may_go.true

pub shape_of-owner-in_default-made : goal.shape_of-owner-in_default-made
shape_of-owner-in_default-made c = c.loop-k.invariant.same-owner

pub shape_of-cur-in_default-made : goal.shape_of-cur-in_default-made
shape_of-cur-in_default-made c = c.loop-k.invariant.same-cur

pub shape_of-next-in_default-made : goal.shape_of-next-in_default-made
shape_of-next-in_default-made c = put-out c.absorb-made.ensures ∙ c.loop-k.invariant.same_next

pub returns-in_default-made : goal.returns-in_default-made
returns-in_default-made c = none_end (climb-in c.loop-k.invariant c.loop-k-test.true) c.if-owner-k-ne0.false _ c.line_start-b.ensures _ c.cut-x.ensures c.in-Store.s (sym c.parse-read.ensures ∙ c.in-Store.is) _ c.value_of-v.ensures _ c.may_go.ensures c.if-not-may_go.false _ _ _ c.cut-line.ensures c.cut-under.ensures c.cut-taken.ensures c.absorb-made.ensures c.in_default-made.is
