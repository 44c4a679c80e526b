use mathlib.Core.Path.{sym}
use lib.Seq.{length-take-le}
use Rattle.passes.proofs.close.Goals as goal

pub slice_bounds-put_all-end : goal.slice_bounds-put_all-end
slice_bounds-put_all-end c = c.requires.0

pub slice_bounds-put_all-end-2 : goal.slice_bounds-put_all-end-2
slice_bounds-put_all-end-2 c = sym (length-take-le c.args.n c.args.a.now c.requires.0)

pub put_all-r-requires : goal.put_all-r-requires
put_all-r-requires c = c.requires.1

pub returns : goal.returns
returns c =
    let f = c.put_all-r in
    record { answer = f.ensures.answer; memory = (f.ensures.result, c.wipe_all.ensures); records = f.ensures.records }
