use mathlib.Core.Path.{ap, sym}
use Rattle.lexical.specs.declared.Kind.{Kind}
use Rattle.lexical.specs.Lex.{leaves}
use Rattle.place.specs.Inner.Parents.{braces}
use Rattle.place.proofs.Parents.{room_as, moved_as, moved_none, left-literal}
use Rattle.place.proofs.left.Goals as goal

pub brace-requires : goal.brace-requires
unfolding braces
brace-requires c = room_as (ap (λ (k : Kind). braces (leaves k c.args.b)) c.in-Kept.is) c.requires

pub returns-in-Kept : goal.returns-in-Kept
unfolding braces
returns-in-Kept c = moved_as (ap (λ (k : Kind). braces (leaves k c.args.b)) (sym c.in-Kept.is)) c.brace.ensures

pub returns-in-Literal : goal.returns-in-Literal
returns-in-Literal c = moved_as (ap (λ (k : Kind). braces (leaves k c.args.b)) (sym c.in-Literal.is)) (left-literal c.args.c c.args.up.now c.args.n c.requires.known)

pub returns-in-Gone : goal.returns-in-Gone
unfolding braces
returns-in-Gone c = moved_as (ap (λ (k : Kind). braces (leaves k c.args.b)) (sym c.in-Gone.is)) (moved_none c.args.c c.args.up.now c.args.n c.requires.known)
