use Prim.Native.Nat.{ℕ}
use Rattle.pruned.specs.Judged.{by_verdict}
use Rattle.std.specs.declared.option.Option.{Option}
use mathlib.Core.Path.{sym, ap, ◌∙◌}
use Rattle.pruned.proofs.EntryCode.{stated, same-part, wiped-part}
use Rattle.pruned.proofs.run.Goals as goal

pub slice_bounds-work-end : goal.slice_bounds-work-end
slice_bounds-work-end c = c.requires.1.0.0

pub slice_bounds-work-end-2 : goal.slice_bounds-work-end-2
slice_bounds-work-end-2 c = stated 16385 c.args.a.now c.requires.1.0.0

pub slice_bounds-work-end-3 : goal.slice_bounds-work-end-3
slice_bounds-work-end-3 c = c.requires.1.0.1

pub slice_bounds-work-end-4 : goal.slice_bounds-work-end-4
slice_bounds-work-end-4 c = stated 16385 c.args.b.now c.requires.1.0.1

pub slice_bounds-work-end-5 : goal.slice_bounds-work-end-5
slice_bounds-work-end-5 c = c.requires.1.1.0

pub slice_bounds-work-end-6 : goal.slice_bounds-work-end-6
slice_bounds-work-end-6 c = stated 16385 c.args.c.now c.requires.1.1.0

pub slice_bounds-work-end-7 : goal.slice_bounds-work-end-7
slice_bounds-work-end-7 c = c.requires.1.1.1

pub slice_bounds-work-end-8 : goal.slice_bounds-work-end-8
slice_bounds-work-end-8 c = stated 1025 c.args.live.now c.requires.1.1.1

pub work-v-requires : goal.work-v-requires
work-v-requires c = let s = c in (s.requires.0, ((sym (stated 16385 s.args.a.now s.requires.1.0.0), sym (stated 16385 s.args.b.now s.requires.1.0.1)), (sym (stated 16385 s.args.c.now s.requires.1.1.0), sym (stated 1025 s.args.live.now s.requires.1.1.1))))

pub shape_of-a : goal.shape_of-a
shape_of-a c = let s = c in let w = c.work-v in same-part 16385 s.args.a.now w.new.a s.requires.1.0.0 w.auto.a

pub shape_of-b : goal.shape_of-b
shape_of-b c = let s = c in let w = c.work-v in same-part 16385 s.args.b.now w.new.b s.requires.1.0.1 w.auto.b

pub shape_of-c : goal.shape_of-c
shape_of-c c = let s = c in let w = c.work-v in same-part 16385 s.args.c.now w.new.c s.requires.1.1.0 w.auto.c

pub shape_of-live : goal.shape_of-live
shape_of-live c = let s = c in let w = c.work-v in same-part 1025 s.args.live.now w.new.live s.requires.1.1.1 w.auto.live

pub returns : goal.returns
returns c =
    let s = c in
    let w = c.work-v.ensures in
    record { answer = c.by_verdict.ensures ∙ ap (λ (x : Option ℕ). by_verdict x) w.answer; memory = ((wiped-part 16385 s.args.a.now w.memory.0.0, wiped-part 16385 s.args.b.now w.memory.0.1), (wiped-part 16385 s.args.c.now w.memory.1.0, wiped-part 1025 s.args.live.now w.memory.1.1)) }
