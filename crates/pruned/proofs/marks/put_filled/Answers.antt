use native.Mathlib.Omega.{arith}
use Rattle.lines.proofs.OutLaws.{wrote-length}
use Rattle.pruned.proofs.MarkCode.{filled-le, filled-zeros, filled_put}
use Rattle.pruned.proofs.marks.put_filled.Goals as goal

pub put-p-requires : goal.put-p-requires
put-p-requires c = omega (arith, c.requires, filled-le c.args.n c.args.d.now c.cut-s.result.now c.cut-s.ensures)

pub overflow_sub-n : goal.overflow_sub-n
overflow_sub-n c = filled-le c.args.n c.args.d.now c.cut-s.result.now c.cut-s.ensures

pub put_zeros-requires : goal.put_zeros-requires
put_zeros-requires c = filled-zeros c.args.n c.args.d.now c.cut-s.result.now c.cut-s.ensures c.requires c.put-p.ensures

pub shape_of-out : goal.shape_of-out
shape_of-out c = omega (arith, wrote-length c.put-p.ensures, wrote-length c.put_zeros.ensures)

pub returns : goal.returns
returns c = filled_put c.args.n c.args.d.now c.cut-s.result.now c.cut-s.ensures c.requires c.put-p.ensures c.put_zeros.ensures
