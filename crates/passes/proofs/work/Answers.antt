use Prim.Native.Nat.{◌-◌}
use mathlib.Core.Path.{sym, ap, ◌∙◌}
use native.Mathlib.Omega.{arith}
use lib.ListN.{length, drop}
use lib.Seq.{length-take-le, length_front, take_at}
use Rattle.lines.specs.Steps.{split_lines}
use Rattle.reading.specs.Reading.{reading_of}
use Rattle.reading.proofs.Lined.{mode-lined}
use Rattle.passes.specs.Inner.Passes.{steps_fates}
use Rattle.passes.proofs.Between.{tame-steps}
use Rattle.passes.proofs.ChainLaws.{steps-goes}
use Rattle.passes.proofs.WorkLaws.{front-answer, front_out, front-records, text-lines, blank-as, unused-as}
use Rattle.passes.proofs.work.Goals as goal

pub slice_bounds-chain-end : goal.slice_bounds-chain-end
slice_bounds-chain-end c = omega (arith, c.count_lines-k.ensures, c.requires.0.lines, c.requires.1.1.1.1)

pub slice_bounds-chain-end-2 : goal.slice_bounds-chain-end-2
slice_bounds-chain-end-2 c = sym (length-take-le _ _ (omega (arith, c.count_lines-k.ensures, c.requires.0.lines, c.requires.1.1.1.1)))

pub chain-n-requires : goal.chain-n-requires
chain-n-requires c = let p = c.requires in (p.0, (p.1.0, (p.1.1.0, (p.1.1.1.0, length-take-le c.count_lines-k.result c.args.table.now (omega (arith, c.count_lines-k.ensures, c.requires.0.lines, c.requires.1.1.1.1)) ∙ c.count_lines-k.ensures))))

pub slice_bounds-close-end : goal.slice_bounds-close-end
slice_bounds-close-end c = omega (arith, c.count_lines-k.ensures, c.requires.0.lines, c.requires.1.1.1.1, length_front c.args.table.now c.chain-n.new.table c.count_lines-k.result c.chain-n.auto.table)

pub slice_bounds-close-end-2 : goal.slice_bounds-close-end-2
slice_bounds-close-end-2 c = sym (length-take-le _ _ (omega (arith, c.count_lines-k.ensures, c.requires.0.lines, c.requires.1.1.1.1, length_front c.args.table.now c.chain-n.new.table c.count_lines-k.result c.chain-n.auto.table)))

pub close-y-requires : goal.close-y-requires
close-y-requires c = (c.chain-n.ensures.answer.fits, omega (arith, ap length (take_at c.chain-n.new.table (drop c.count_lines-k.result c.args.table.now) c.count_lines-k.result (c.chain-n.auto.table ∙ length-take-le c.count_lines-k.result c.args.table.now (omega (arith, c.count_lines-k.ensures, c.requires.0.lines, c.requires.1.1.1.1)))), (c.chain-n.auto.table ∙ length-take-le c.count_lines-k.result c.args.table.now (omega (arith, c.count_lines-k.ensures, c.requires.0.lines, c.requires.1.1.1.1))), c.count_lines-k.ensures, text-lines c.args.text.now c.requires.0))

pub shape_of-a : goal.shape_of-a
shape_of-a c = c.close-y.auto.a ∙ c.chain-n.auto.a

pub shape_of-b : goal.shape_of-b
shape_of-b c = c.close-y.auto.b ∙ c.chain-n.auto.b

pub shape_of-c : goal.shape_of-c
shape_of-c c = c.close-y.auto.c ∙ c.chain-n.auto.c

pub shape_of-d : goal.shape_of-d
shape_of-d c = c.close-y.auto.d ∙ c.chain-n.auto.d

pub shape_of-e : goal.shape_of-e
shape_of-e c = c.close-y.auto.e ∙ c.chain-n.auto.e

pub shape_of-f : goal.shape_of-f
shape_of-f c = c.wipe_tables.auto.f ∙ c.chain-n.auto.f

pub shape_of-g : goal.shape_of-g
shape_of-g c = c.wipe_tables.auto.g ∙ c.chain-n.auto.g

pub shape_of-h : goal.shape_of-h
shape_of-h c = c.wipe_tables.auto.h ∙ c.chain-n.auto.h

pub shape_of-u : goal.shape_of-u
shape_of-u c = c.close-y.auto.u ∙ c.chain-n.auto.u

pub shape_of-v : goal.shape_of-v
shape_of-v c = c.wipe_tables.auto.v ∙ c.chain-n.auto.v

pub shape_of-w : goal.shape_of-w
shape_of-w c = c.wipe_tables.auto.w ∙ c.chain-n.auto.w

pub shape_of-x : goal.shape_of-x
shape_of-x c = c.wipe_tables.auto.x ∙ c.chain-n.auto.x

pub shape_of-p : goal.shape_of-p
shape_of-p c = c.wipe_tables.auto.p ∙ c.chain-n.auto.p

pub shape_of-q : goal.shape_of-q
shape_of-q c = c.wipe_tables.auto.q ∙ c.chain-n.auto.q

pub shape_of-r : goal.shape_of-r
shape_of-r c = c.wipe_tables.auto.r ∙ c.chain-n.auto.r

pub shape_of-t : goal.shape_of-t
shape_of-t c = c.wipe_tables.auto.t ∙ c.chain-n.auto.t

pub shape_of-own : goal.shape_of-own
shape_of-own c = c.wipe_tables.auto.own ∙ c.chain-n.auto.own

pub shape_of-table : goal.shape_of-table
shape_of-table c = c.wipe_tables.auto.table ∙ length_front c.args.table.now c.chain-n.new.table c.count_lines-k.result c.chain-n.auto.table

pub returns : goal.returns
returns c =
    let g = c.args in
    let s = g.text.now in
    let y = mode-lined g.m.mode.0 in
    let n = g.m.to - g.m.from in
    let t = tame-steps y g.m.from n in
    let h = c.chain-n.ensures.answer in
    let q = c.chain-n.auto in
    let w = c.close-y in
    let e = (take_at c.chain-n.new.table (drop c.count_lines-k.result c.args.table.now) c.count_lines-k.result (c.chain-n.auto.table ∙ length-take-le c.count_lines-k.result c.args.table.now (omega (arith, c.count_lines-k.ensures, c.requires.0.lines, c.requires.1.1.1.1)))) in
    let k = ap length e ∙ (c.chain-n.auto.table ∙ length-take-le c.count_lines-k.result c.args.table.now (omega (arith, c.count_lines-k.ensures, c.requires.0.lines, c.requires.1.1.1.1))) ∙ c.count_lines-k.ensures in
    record { answer = front-answer s t h w.result g.out.now g.m.form _ (length g.orig.now) k w.ensures.answer; memory = (front_out s t h w.result g.out.now w.ensures.memory.0, blank-as q.a q.b q.c q.d q.e q.u w.ensures.memory.1); records = front-records s t h w.result g.orig.now g.m.form (steps_fates (reading_of g.m.mode.0) g.m.from n) (steps-goes y g.m.from n (split_lines s)) (omega (arith, text-lines s c.requires.0)) (e ∙ c.chain-n.ensures.origins) w.ensures.records; tables = unused-as q.f q.g q.h q.v q.w q.x q.p q.q q.r q.t q.own (length_front c.args.table.now c.chain-n.new.table c.count_lines-k.result c.chain-n.auto.table) c.wipe_tables.ensures }
