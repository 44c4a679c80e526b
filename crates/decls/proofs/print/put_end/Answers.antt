use native.Mathlib.Omega.{arith}
use mathlib.Core.Path.{sym}
use Rattle.lines.proofs.OutLaws.{wrote_as, wrote-nil}
use Rattle.decls.proofs.PrintLaws.{end-some, end_none, pair-room, pair-more, pair_end}
use Rattle.decls.proofs.print.put_end.Goals as goal

pub put_byte-p-requires : goal.put_byte-p-requires
put_byte-p-requires c = let s = c in pair-room (end-some s.args.some c.if-some.true) s.args.out.now s.args.o s.requires

pub put_byte-requires : goal.put_byte-requires
put_byte-requires c = let s = c in pair-more (end-some s.args.some c.if-some.true) s.args.out.now s.args.o s.requires c.put_byte-p.ensures

pub returns-then-some : goal.returns-then-some
returns-then-some c = let s = c in pair_end (end-some s.args.some c.if-some.true) s.args.out.now s.args.o s.requires c.put_byte-p.ensures c.put_byte.ensures

pub returns : goal.returns
returns c = let s = c in wrote_as (sym (end_none s.args.some c.if-some.false)) (wrote-nil s.args.out.now s.args.o (omega (arith, s.requires)))
