use mathlib.Core.Path.{refl, sym, ◌∙◌}
use native.Mathlib.Omega.{arith}
use lib.Seq.{length-take-le}
use Rattle.passes.proofs.ChainLaws.{same-sized, same-tabled, wrote-front, split-fits, chain-start, chain-room, chain-rows, chain_fits, chain-on, chain-idle, chain-end}
use Rattle.passes.proofs.chain.Goals as goal

pub split_lines-n-requires : goal.split_lines-n-requires
split_lines-n-requires c = split-fits c.args.text.now c.args.a.now c.requires.0 c.requires.1.0

pub slice_bounds-gather-end : goal.slice_bounds-gather-end
slice_bounds-gather-end c = (wrote-front c.split_lines-n.ensures).fits

pub slice_bounds-gather-end-2 : goal.slice_bounds-gather-end-2
slice_bounds-gather-end-2 c = let f = c.split_lines-n in sym (length-take-le f.result f.new.out (wrote-front f.ensures).fits)

pub loop-j-init : goal.loop-j-init
loop-j-init c = (chain-start _ _ _ c.args.table.now c.requires.0 c.split_lines-n.ensures c.requires.1.1.1.1 c.wipe.ensures, record { a-same = refl; b-same = refl; c-same = refl; d-same = refl; e-same = refl; f-same = refl; g-same = refl; h-same = refl; u_same = refl; v-same = refl; w-same = refl; x-same = refl; p-same = refl; q-same = refl; r-same = refl; t_same = refl; z-same = refl })

pub slice_bounds-idle-end : goal.slice_bounds-idle-end
slice_bounds-idle-end c = c.loop-j.invariant.0.front.fits

pub slice_bounds-idle-end-in-loop-j : goal.slice_bounds-idle-end-in-loop-j
slice_bounds-idle-end-in-loop-j c = let h = c.loop-j in sym (length-take-le h.n h.a h.invariant.0.front.fits)

pub loop-j-preserved-then-idle : goal.loop-j-preserved-then-idle
loop-j-preserved-then-idle c = let h = c.loop-j.invariant in (chain-idle h.0 c.loop-j-test.true (sym c.idle.ensures ∙ c.if-idle.true), h.1)

pub slice_bounds-step-end : goal.slice_bounds-step-end
slice_bounds-step-end c = c.loop-j.invariant.0.front.fits

pub step-k-requires : goal.step-k-requires
step-k-requires c = let h = c.loop-j.invariant in let z = c.requires.1.1 in (chain-rows h.0 c.count_standing-rows.ensures, (chain-room h.0, (same-sized h.1 z.0, same-tabled h.1 z.1.0)))

pub slice_bounds-put-end : goal.slice_bounds-put-end
slice_bounds-put-end c = (wrote-front c.step-k.ensures.answer).fits

pub put-n-requires : goal.put-n-requires
put-n-requires c = let h = c.loop-j.invariant in omega (arith, chain_fits h.0 (omega (arith, c.requires.1.0, h.1.a-same, c.split_lines-n.auto.out)) c.step-k.ensures.answer)

pub loop-j-preserved : goal.loop-j-preserved
loop-j-preserved c = let h = c.loop-j.invariant in let f = c.step-k in let s = h.1 in (chain-on h.0 c.loop-j-test.true f.ensures.answer c.put-n.ensures f.ensures.origins, record { a-same = c.put-n.auto.out ∙ s.a-same; b-same = f.auto.dst ∙ s.b-same; c-same = f.auto.c ∙ s.c-same; d-same = f.auto.d ∙ s.d-same; e-same = f.auto.e ∙ s.e-same; f-same = f.auto.f ∙ s.f-same; g-same = f.auto.g ∙ s.g-same; h-same = f.auto.h ∙ s.h-same; u_same = f.auto.u ∙ s.u_same; v-same = f.auto.v ∙ s.v-same; w-same = f.auto.w ∙ s.w-same; x-same = f.auto.x ∙ s.x-same; p-same = f.auto.p ∙ s.p-same; q-same = f.auto.q ∙ s.q-same; r-same = f.auto.r ∙ s.r-same; t_same = f.auto.t ∙ s.t_same; z-same = f.auto.table ∙ s.z-same })

pub shape_of-own : goal.shape_of-own
shape_of-own c = c.gather-high.auto.own ∙ c.wipe-2.auto.table

pub shape_of-table : goal.shape_of-table
shape_of-table c = c.land.auto.moves ∙ (c.loop-j.invariant.1.z-same ∙ c.wipe.auto.table)

pub returns : goal.returns
returns c =
    let e = chain-end c.loop-j.invariant.0 c.loop-j-test.false in
    record { answer = e.0; origins = c.land.ensures.memory ∙ e.1 }
