use Prim.Native.Nat.{ℕ}
use mathlib.Core.Path.{sym, ap}
use mathlib.Core.List.{List}
use native.Mathlib.Omega.{arith}
use lib.ListN.{length}
use Rattle.lines.proofs.OutLaws.{wrote_as}
use Rattle.expr.proofs.CommentLaws.{slash-strip}
use Rattle.expr.proofs.strip_comments.Goals as goal

pub put-requires : goal.put-requires
put-requires c =
    let z = slash-strip c.args.s.now c.find_byte-k.result c.find_byte-k.ensures c.if-k-s.true in
    omega (arith, ap (λ (l : List ℕ). length l) z, c.requires)

pub returns-then-k-s : goal.returns-then-k-s
returns-then-k-s c = wrote_as (sym (slash-strip c.args.s.now c.find_byte-k.result c.find_byte-k.ensures c.if-k-s.true)) c.put.ensures
