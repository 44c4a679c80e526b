use mathlib.Core.Path.{sym, ◌∙◌}
use native.Mathlib.Omega.{arith}
use Rattle.opt.proofs.EntryLaws.{stated, same-part, part-after}
use Rattle.opt.proofs.tidy_lined.Goals as goal

pub slice_bounds-tidy_placed-end : goal.slice_bounds-tidy_placed-end
slice_bounds-tidy_placed-end c = c.requires.1.1.1.h-tall

pub slice_bounds-tidy_placed-end-2 : goal.slice_bounds-tidy_placed-end-2
slice_bounds-tidy_placed-end-2 c = stated _ c.args.h.now c.requires.1.1.1.h-tall

pub slice_bounds-tidy_placed-end-3 : goal.slice_bounds-tidy_placed-end-3
slice_bounds-tidy_placed-end-3 c = c.requires.1.1.1.v-tall

pub slice_bounds-tidy_placed-end-4 : goal.slice_bounds-tidy_placed-end-4
slice_bounds-tidy_placed-end-4 c = stated _ c.args.v.now c.requires.1.1.1.v-tall

pub slice_bounds-tidy_placed-end-5 : goal.slice_bounds-tidy_placed-end-5
slice_bounds-tidy_placed-end-5 c = c.requires.1.1.1.w-tall

pub slice_bounds-tidy_placed-end-6 : goal.slice_bounds-tidy_placed-end-6
slice_bounds-tidy_placed-end-6 c = stated _ c.args.w.now c.requires.1.1.1.w-tall

pub slice_bounds-tidy_placed-end-7 : goal.slice_bounds-tidy_placed-end-7
slice_bounds-tidy_placed-end-7 c = c.requires.1.1.1.x-tall

pub slice_bounds-tidy_placed-end-8 : goal.slice_bounds-tidy_placed-end-8
slice_bounds-tidy_placed-end-8 c = stated _ c.args.x.now c.requires.1.1.1.x-tall

pub slice_bounds-tidy_placed-end-9 : goal.slice_bounds-tidy_placed-end-9
slice_bounds-tidy_placed-end-9 c = c.requires.1.1.1.p-tall

pub slice_bounds-tidy_placed-end-10 : goal.slice_bounds-tidy_placed-end-10
slice_bounds-tidy_placed-end-10 c = stated _ c.args.p.now c.requires.1.1.1.p-tall

pub slice_bounds-tidy_placed-end-11 : goal.slice_bounds-tidy_placed-end-11
slice_bounds-tidy_placed-end-11 c = c.requires.1.1.1.q-tall

pub slice_bounds-tidy_placed-end-12 : goal.slice_bounds-tidy_placed-end-12
slice_bounds-tidy_placed-end-12 c = stated _ c.args.q.now c.requires.1.1.1.q-tall

pub slice_bounds-tidy_placed-end-13 : goal.slice_bounds-tidy_placed-end-13
slice_bounds-tidy_placed-end-13 c = c.requires.1.1.1.z-tall

pub slice_bounds-tidy_placed-end-14 : goal.slice_bounds-tidy_placed-end-14
slice_bounds-tidy_placed-end-14 c = stated _ c.args.table.now c.requires.1.1.1.z-tall

pub tidy_placed-requires : goal.tidy_placed-requires
tidy_placed-requires c = let g = c.args in let k = c.requires in let l = k.1.1.1 in (k.0, (k.1.0.1, (k.1.1.0, record { p-lines = omega (arith, stated _ g.p.now l.p-tall, k.1.0.0); q-lines = omega (arith, stated _ g.q.now l.q-tall, k.1.0.0); z-lines = omega (arith, stated _ g.table.now l.z-tall, k.1.0.0); w-as-v = sym (stated _ g.w.now l.w-tall) ∙ stated _ g.v.now l.v-tall; w-as-x = sym (stated _ g.w.now l.w-tall) ∙ stated _ g.x.now l.x-tall })))

pub shape_of-h : goal.shape_of-h
shape_of-h c = same-part _ c.args.h.now c.tidy_placed.new.h c.requires.1.1.1.h-tall c.tidy_placed.auto.h

pub shape_of-v : goal.shape_of-v
shape_of-v c = same-part _ c.args.v.now c.tidy_placed.new.v c.requires.1.1.1.v-tall c.tidy_placed.auto.v

pub shape_of-w : goal.shape_of-w
shape_of-w c = same-part _ c.args.w.now c.tidy_placed.new.w c.requires.1.1.1.w-tall c.tidy_placed.auto.w

pub shape_of-x : goal.shape_of-x
shape_of-x c = same-part _ c.args.x.now c.tidy_placed.new.x c.requires.1.1.1.x-tall c.tidy_placed.auto.x

pub shape_of-p : goal.shape_of-p
shape_of-p c = same-part _ c.args.p.now c.tidy_placed.new.p c.requires.1.1.1.p-tall c.tidy_placed.auto.p

pub shape_of-q : goal.shape_of-q
shape_of-q c = same-part _ c.args.q.now c.tidy_placed.new.q c.requires.1.1.1.q-tall c.tidy_placed.auto.q

pub shape_of-table : goal.shape_of-table
shape_of-table c = same-part _ c.args.table.now c.tidy_placed.new.table c.requires.1.1.1.z-tall c.tidy_placed.auto.table

pub returns : goal.returns
returns c =
    let g = c.args in
    let l = c.requires.1.1.1 in
    let d = c.tidy_placed.ensures in
    let b = d.tables.1 in
    record { answer = d.answer; memory = d.memory; records = d.records; tables = (d.tables.0, record { h-after = part-after _ _ g.h.now l.h-tall b.h-after; v-after = part-after _ _ g.v.now l.v-tall b.v-after; w-after = part-after _ _ g.w.now l.w-tall b.w-after; x-after = part-after _ _ g.x.now l.x-tall b.x-after; p-after = part-after _ _ g.p.now l.p-tall b.p-after; q-after = part-after _ _ g.q.now l.q-tall b.q-after; z-after = part-after _ _ g.table.now l.z-tall b.z-after }) }
