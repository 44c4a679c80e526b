use Rattle.std.proofs.Common.{length, ap, ◌∙◌, arith, length-append}
use Rattle.std.specs.Slice.Iter.{chunks_rest}
use Rattle.lines.specs.Lf.{count_of}
use Rattle.lines.proofs.LfLaws.{count-le, count-end}
use Rattle.lines.proofs.Counts.{count-append}
use Rattle.lines.proofs.count_byte.Goals as goal

pub loop-part-preserved : goal.loop-part-preserved
loop-part-preserved c =
    let b = c.args.b in
    let x = c.in-Some.part.now in
    let r = chunks_rest c.next.new.self in
    let e = c.in-Some.ensures.steps.1.0 in
    let m = ap (count_of b) e ∙ count-append b x r in
    let k = count-le b x in
    (omega (arith, simp length-append at (ap length e)), omega arith)

pub returns : goal.returns
returns c = let e = c.in-None.ensures.steps.1.0 in omega (arith, count-end c.args.b (chunks_rest c.loop-part.part-iterator) 0)
