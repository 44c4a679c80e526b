use mathlib.Core.Path.{ap}
use native.Mathlib.Omega.{arith}
use lib.ListN.{length}
use Rattle.lines.proofs.OutLaws.{wrote-nil}
use Rattle.lexical.specs.declared.Kind.{Kind}
use Rattle.lexical.specs.Lex.{leaves}
use Rattle.lexical.proofs.put_left.Goals as goal

pub put_byte-requires : goal.put_byte-requires
put_byte-requires c = let a = c.args in let e = ap (λ (k : Kind). length (leaves k a.b)) c.in-Kept.is in omega (arith, e, c.requires)

pub put_byte-requires-in-Literal : goal.put_byte-requires-in-Literal
put_byte-requires-in-Literal c = let a = c.args in let e = ap (λ (k : Kind). length (leaves k a.b)) c.in-Literal.is in omega (arith, e, c.requires)

pub returns-in-Kept : goal.returns-in-Kept
returns-in-Kept c = rw c.in-Kept.is c.put_byte.ensures

pub returns-in-Literal : goal.returns-in-Literal
returns-in-Literal c = rw c.in-Literal.is c.put_byte-in-Literal.ensures

pub returns-in-Gone : goal.returns-in-Gone
returns-in-Gone c = let a = c.args in rw c.in-Gone.is (wrote-nil a.out.now a.o (omega (arith, c.requires)))
