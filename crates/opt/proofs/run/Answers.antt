use mathlib.Core.Path.{refl}
use native.Mathlib.Omega.{arith}
use Rattle.opt.proofs.EntryLaws.{stated, sized-part, same-part, wiped-part}
use Rattle.opt.proofs.run.Goals as goal

pub byte_size-n-requires : goal.byte_size-n-requires
byte_size-n-requires c = c.requires.0.sane

pub slice_bounds-work-end : goal.slice_bounds-work-end
slice_bounds-work-end c = omega (arith, c.byte_size-n.ensures, c.requires.1.0.a-long)

pub slice_bounds-work-end-2 : goal.slice_bounds-work-end-2
slice_bounds-work-end-2 c = stated _ c.args.a.now (omega (arith, c.byte_size-n.ensures, c.requires.1.0.a-long))

pub slice_bounds-work-end-3 : goal.slice_bounds-work-end-3
slice_bounds-work-end-3 c = omega (arith, c.byte_size-n.ensures, c.requires.1.0.b-long)

pub slice_bounds-work-end-4 : goal.slice_bounds-work-end-4
slice_bounds-work-end-4 c = stated _ c.args.b.now (omega (arith, c.byte_size-n.ensures, c.requires.1.0.b-long))

pub slice_bounds-work-end-5 : goal.slice_bounds-work-end-5
slice_bounds-work-end-5 c = omega (arith, c.byte_size-n.ensures, c.requires.1.0.c-long)

pub slice_bounds-work-end-6 : goal.slice_bounds-work-end-6
slice_bounds-work-end-6 c = stated _ c.args.c.now (omega (arith, c.byte_size-n.ensures, c.requires.1.0.c-long))

pub slice_bounds-work-end-7 : goal.slice_bounds-work-end-7
slice_bounds-work-end-7 c = omega (arith, c.byte_size-n.ensures, c.requires.1.0.d-long)

pub slice_bounds-work-end-8 : goal.slice_bounds-work-end-8
slice_bounds-work-end-8 c = stated _ c.args.d.now (omega (arith, c.byte_size-n.ensures, c.requires.1.0.d-long))

pub slice_bounds-work-end-9 : goal.slice_bounds-work-end-9
slice_bounds-work-end-9 c = omega (arith, c.byte_size-n.ensures, c.requires.1.0.e-long)

pub slice_bounds-work-end-10 : goal.slice_bounds-work-end-10
slice_bounds-work-end-10 c = stated _ c.args.e.now (omega (arith, c.byte_size-n.ensures, c.requires.1.0.e-long))

pub slice_bounds-work-end-11 : goal.slice_bounds-work-end-11
slice_bounds-work-end-11 c = c.requires.1.0.u-long

pub slice_bounds-work-end-12 : goal.slice_bounds-work-end-12
slice_bounds-work-end-12 c = stated _ c.args.u.now c.requires.1.0.u-long

pub work-requires : goal.work-requires
work-requires c = let p = c.requires in let a = c.args in let l = p.1.0 in let q = c.byte_size-n.ensures in (p.0, (omega (arith, sized-part a.a.now q l.a-long), (record { b-size = omega (arith, sized-part a.b.now q l.b-long); c-size = omega (arith, sized-part a.c.now q l.c-long); d-size = omega (arith, sized-part a.d.now q l.d-long); e-size = omega (arith, sized-part a.e.now q l.e-long); u-size = omega (arith, stated _ a.u.now l.u-long); u-narrow = omega (arith, stated _ a.u.now l.u-long, p.0.sane.bytes-reach) }, p.1.1)))

pub shape_of-a : goal.shape_of-a
shape_of-a c = same-part c.byte_size-n.result c.args.a.now c.work.new.a (omega (arith, c.byte_size-n.ensures, c.requires.1.0.a-long)) c.work.auto.a

pub shape_of-b : goal.shape_of-b
shape_of-b c = same-part c.byte_size-n.result c.args.b.now c.work.new.b (omega (arith, c.byte_size-n.ensures, c.requires.1.0.b-long)) c.work.auto.b

pub shape_of-c : goal.shape_of-c
shape_of-c c = same-part c.byte_size-n.result c.args.c.now c.work.new.c (omega (arith, c.byte_size-n.ensures, c.requires.1.0.c-long)) c.work.auto.c

pub shape_of-d : goal.shape_of-d
shape_of-d c = same-part c.byte_size-n.result c.args.d.now c.work.new.d (omega (arith, c.byte_size-n.ensures, c.requires.1.0.d-long)) c.work.auto.d

pub shape_of-e : goal.shape_of-e
shape_of-e c = same-part c.byte_size-n.result c.args.e.now c.work.new.e (omega (arith, c.byte_size-n.ensures, c.requires.1.0.e-long)) c.work.auto.e

pub shape_of-u : goal.shape_of-u
shape_of-u c = same-part _ c.args.u.now c.work.new.u c.requires.1.0.u-long c.work.auto.u

pub returns : goal.returns
returns c =
    let a = c.args in
    let l = c.requires.1.0 in
    let q = c.byte_size-n.ensures in
    let w = c.work.ensures in
    let z = w.memory.1 in
    record { answer = w.answer; memory = (w.memory.0, record { a-wiped = wiped-part _ a.a.now q l.a-long z.a-blank; b-wiped = wiped-part _ a.b.now q l.b-long z.b-blank; c-wiped = wiped-part _ a.c.now q l.c-long z.c-blank; d-wiped = wiped-part _ a.d.now q l.d-long z.d-blank; e-wiped = wiped-part _ a.e.now q l.e-long z.e-blank; u-wiped = wiped-part _ a.u.now refl l.u-long z.u-blank }); records = w.records; tables = w.tables }
