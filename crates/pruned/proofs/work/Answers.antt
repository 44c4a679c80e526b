use Rattle.pruned.specs.Judged.{judged_size, live_size}
use Rattle.lines.proofs.OutLaws.{wrote-length}
use Rattle.lines.proofs.StepLaws.{split-room}
use lib.ListN.{length}
use mathlib.Core.Path.{ap, ◌∙◌}
use native.Mathlib.Omega.{arith}
use Rattle.pruned.proofs.EntryCode.{put-le, put-stated, lf-lines, lf-form, verdict-of, sized}
use Rattle.pruned.proofs.work.Goals as goal

pub split_lines-n-requires : goal.split_lines-n-requires
split_lines-n-requires c = let s = c in omega (arith, split-room s.args.raw.now, s.requires.0.0, s.requires.1.0.0)

pub split_lines-m-requires : goal.split_lines-m-requires
split_lines-m-requires c = let s = c in omega (arith, split-room s.args.pruned.now, s.requires.0.1.1, s.requires.1.0.1)

pub slice_bounds-judge-end : goal.slice_bounds-judge-end
slice_bounds-judge-end c = put-le c.split_lines-n.ensures

pub slice_bounds-judge-end-2 : goal.slice_bounds-judge-end-2
slice_bounds-judge-end-2 c = put-stated c.split_lines-n.ensures

pub slice_bounds-judge-end-3 : goal.slice_bounds-judge-end-3
slice_bounds-judge-end-3 c = put-le c.split_lines-m.ensures

pub slice_bounds-judge-end-4 : goal.slice_bounds-judge-end-4
slice_bounds-judge-end-4 c = put-stated c.split_lines-m.ensures

pub judge-v-requires : goal.judge-v-requires
judge-v-requires c = let s = c in let w = c.split_lines-n.ensures in (lf-form s.args.raw.now w, (omega (arith, put-stated w, put-le w, wrote-length w, s.requires.1.0.0, s.requires.1.1.0), omega (arith, ap length (lf-lines s.args.raw.now w), s.requires.0.1.0, s.requires.1.1.1)))

pub returns : goal.returns
returns c =
    let s = c in
    let w = c.split_lines-n.ensures in
    let v = c.split_lines-m.ensures in
    let j = c.judge-v in
    let z = c.clear.ensures in
    record { answer = j.ensures ∙ verdict-of _ _ (lf-lines s.args.raw.now w) (lf-lines s.args.pruned.now v); memory = ((sized _ judged_size z.0.0 (wrote-length w ∙ s.requires.1.0.0), sized _ judged_size z.0.1 (wrote-length v ∙ s.requires.1.0.1)), (sized _ judged_size z.1.0 (j.auto.used ∙ s.requires.1.1.0), sized _ live_size z.1.1 (j.auto.live ∙ s.requires.1.1.1))) }
