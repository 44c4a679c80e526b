use native.Mathlib.Omega.{arith}
use Rattle.opt.proofs.EntryLaws.{stated, same-part, part-after}
use Rattle.opt.proofs.tidy_placed.Goals as goal

pub slice_bounds-tidy-end : goal.slice_bounds-tidy-end
slice_bounds-tidy-end c = c.requires.1.1.0.f-tall

pub slice_bounds-tidy-end-2 : goal.slice_bounds-tidy-end-2
slice_bounds-tidy-end-2 c = stated _ c.args.f.now c.requires.1.1.0.f-tall

pub slice_bounds-tidy-end-3 : goal.slice_bounds-tidy-end-3
slice_bounds-tidy-end-3 c = c.requires.1.1.0.g-tall

pub slice_bounds-tidy-end-4 : goal.slice_bounds-tidy-end-4
slice_bounds-tidy-end-4 c = stated _ c.args.g.now c.requires.1.1.0.g-tall

pub slice_bounds-tidy-end-5 : goal.slice_bounds-tidy-end-5
slice_bounds-tidy-end-5 c = c.requires.1.1.0.r-tall

pub slice_bounds-tidy-end-6 : goal.slice_bounds-tidy-end-6
slice_bounds-tidy-end-6 c = stated _ c.args.r.now c.requires.1.1.0.r-tall

pub slice_bounds-tidy-end-7 : goal.slice_bounds-tidy-end-7
slice_bounds-tidy-end-7 c = c.requires.1.1.0.t-tall

pub slice_bounds-tidy-end-8 : goal.slice_bounds-tidy-end-8
slice_bounds-tidy-end-8 c = stated _ c.args.t.now c.requires.1.1.0.t-tall

pub slice_bounds-tidy-end-9 : goal.slice_bounds-tidy-end-9
slice_bounds-tidy-end-9 c = c.requires.1.1.0.o-tall

pub slice_bounds-tidy-end-10 : goal.slice_bounds-tidy-end-10
slice_bounds-tidy-end-10 c = stated _ c.args.own.now c.requires.1.1.0.o-tall

pub tidy-requires : goal.tidy-requires
tidy-requires c = let g = c.args in let k = c.requires in let l = k.1.1.0 in let v = k.1.1.1 in (k.0, (record { f-lines = omega (arith, stated _ g.f.now l.f-tall, k.1.0); g-lines = omega (arith, stated _ g.g.now l.g-tall, k.1.0); p-lines = v.p-lines; q-lines = v.q-lines; r-lines = omega (arith, stated _ g.r.now l.r-tall, k.1.0); t-lines = omega (arith, stated _ g.t.now l.t-tall, k.1.0); w-as-v = v.w-as-v; w-as-x = v.w-as-x }, v.z-lines))

pub shape_of-f : goal.shape_of-f
shape_of-f c = same-part _ c.args.f.now c.tidy.new.f c.requires.1.1.0.f-tall c.tidy.auto.f

pub shape_of-g : goal.shape_of-g
shape_of-g c = same-part _ c.args.g.now c.tidy.new.g c.requires.1.1.0.g-tall c.tidy.auto.g

pub shape_of-r : goal.shape_of-r
shape_of-r c = same-part _ c.args.r.now c.tidy.new.r c.requires.1.1.0.r-tall c.tidy.auto.r

pub shape_of-t : goal.shape_of-t
shape_of-t c = same-part _ c.args.t.now c.tidy.new.t c.requires.1.1.0.t-tall c.tidy.auto.t

pub shape_of-own : goal.shape_of-own
shape_of-own c = same-part _ c.args.own.now c.tidy.new.own c.requires.1.1.0.o-tall c.tidy.auto.own

pub returns : goal.returns
returns c =
    let g = c.args in
    let l = c.requires.1.1.0 in
    let d = c.tidy.ensures in
    let b = d.tables in
    record { answer = d.answer; memory = d.memory; records = d.records; tables = (record { f-after = part-after _ _ g.f.now l.f-tall b.f-after; g-after = part-after _ _ g.g.now l.g-tall b.g-after; r-after = part-after _ _ g.r.now l.r-tall b.r-after; t-after = part-after _ _ g.t.now l.t-tall b.t-after; o-after = part-after _ _ g.own.now l.o-tall b.o-after }, record { h-after = b.h-after; v-after = b.v-after; w-after = b.w-after; x-after = b.x-after; p-after = b.p-after; q-after = b.q-after; z-after = b.z-after }) }
