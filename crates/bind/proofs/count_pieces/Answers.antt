use Prim.Native.Nat.{ℕ, ◌+◌, min}
use native.Mathlib.Omega.{arith}
use mathlib.Core.List.{List}
use mathlib.Core.Path.{ap, ◌∙◌}
use Rattle.lines.specs.Inner.Pieces.{pieces_left}
use Rattle.names.specs.Names.{reg_of, reg_is}
use Rattle.bind.specs.Bind.{piece_count}
use Rattle.bind.proofs.CountLaws.{piece-cons, piece-nil}
use Rattle.bind.proofs.count_pieces.Goals as goal

pub loop-piece-init : goal.loop-piece-init
loop-piece-init c =
    let a = c.args in
    (c.requires, ap (λ (ps : List (List ℕ)). min (a.n + piece_count a.reg.0 ps) 2) (ap pieces_left c.into_iter-piece-iterator.ensures.into_iter_gives ∙ c.pieces-piece-items.ensures))

pub loop-piece-preserved : goal.loop-piece-preserved
loop-piece-preserved c =
    let v = c.args.reg.0 in
    let s = c.names_reg-s in
    let e = ap (piece_count v) c.in-Some.ensures.steps ∙ piece-cons v _ _ s.result (s.ensures ∙ ap (λ (t : List ℕ). reg_is v (reg_of t)) c.trim.ensures.0) in
    (omega (arith, c.one_more-m.ensures), omega (arith, c.one_more-m.ensures, e, c.loop-piece.invariant.1))

pub returns : goal.returns
returns c =
    let v = c.args.reg.0 in
    let l = c.loop-piece in
    omega (arith, l.invariant.0, l.invariant.1, ap (piece_count v) c.in-None.ensures.steps.0 ∙ piece-nil v)
