use native.Mathlib.Omega.{arith}
use Rattle.lines.proofs.OutLaws.{wrote_then, wrote-length}
use Rattle.po.specs.Found.{decoded}
use Rattle.po.proofs.LoopLaws.{ref-length, entry_length}
use Rattle.po.proofs.put_entry.Goals as goal

pub put_ref-p-requires : goal.put_ref-p-requires
put_ref-p-requires c = let a = c in omega (arith, a.requires, ref-length a.args.name.now a.args.line, entry_length a.args.name.now a.args.line (decoded a.args.s.now a.args.q))

pub put-p2-requires : goal.put-p2-requires
put-p2-requires c = let a = c in let w = c.put_ref-p in omega (arith, a.requires, ref-length a.args.name.now a.args.line, entry_length a.args.name.now a.args.line (decoded a.args.s.now a.args.q), w.ensures.place, wrote-length w.ensures)

pub put_text-p3-requires : goal.put_text-p3-requires
put_text-p3-requires c = let a = c in let w = c.put_ref-p in let x = c.put-p2 in omega (arith, a.requires, ref-length a.args.name.now a.args.line, entry_length a.args.name.now a.args.line (decoded a.args.s.now a.args.q), w.ensures.place, wrote-length w.ensures, x.ensures.place, wrote-length x.ensures)

pub put-requires : goal.put-requires
put-requires c = let a = c in let w = c.put_ref-p in let x = c.put-p2 in let y = c.put_text-p3 in omega (arith, a.requires, ref-length a.args.name.now a.args.line, entry_length a.args.name.now a.args.line (decoded a.args.s.now a.args.q), w.ensures.place, wrote-length w.ensures, x.ensures.place, wrote-length x.ensures, y.ensures.place, wrote-length y.ensures)

pub returns : goal.returns
returns c = wrote_then c.put_ref-p.ensures (wrote_then c.put-p2.ensures (wrote_then c.put_text-p3.ensures c.put.ensures))
