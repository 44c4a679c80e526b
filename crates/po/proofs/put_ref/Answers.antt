use native.Mathlib.Omega.{arith}
use Rattle.lines.proofs.OutLaws.{wrote_then, wrote-length}
use Rattle.po.proofs.LoopLaws.{ref-length}
use Rattle.po.proofs.put_ref.Goals as goal

pub put-p2-requires : goal.put-p2-requires
put-p2-requires c = let a = c in let w = c.put-p in omega (arith, a.requires, ref-length a.args.name.now a.args.line, w.ensures.place, wrote-length w.ensures)

pub put_byte-p3-requires : goal.put_byte-p3-requires
put_byte-p3-requires c = let a = c in let w = c.put-p in let x = c.put-p2 in omega (arith, a.requires, ref-length a.args.name.now a.args.line, w.ensures.place, wrote-length w.ensures, x.ensures.place, wrote-length x.ensures)

pub put_decimal-requires : goal.put_decimal-requires
put_decimal-requires c = let a = c in let w = c.put-p in let x = c.put-p2 in let y = c.put_byte-p3 in omega (arith, a.requires, ref-length a.args.name.now a.args.line, w.ensures.place, wrote-length w.ensures, x.ensures.place, wrote-length x.ensures, y.ensures.place, wrote-length y.ensures)

pub returns : goal.returns
returns c = wrote_then c.put-p.ensures (wrote_then c.put-p2.ensures (wrote_then c.put_byte-p3.ensures c.put_decimal.ensures))
