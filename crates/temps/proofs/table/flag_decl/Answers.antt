use Rattle.std.proofs.Common.{ℕ, true, false, List, sym, ap, ◌∙◌, arith}
use Rattle.lines.specs.Lf.{parts_of}
use Rattle.temps.specs.Inner.Table.{flag_pieces}
use Rattle.temps.proofs.TableLaws.{let-long, decl-not}
use Rattle.temps.proofs.table.flag_decl.Goals as goal

pub returns-then-not-is_let : goal.returns-then-not-is_let
returns-then-not-is_let c = let a = c.args in sym (decl-not a.own.now a.t.now a.table.now false (sym c.is_let.ensures ∙ c.if-not-is_let.true))

pub overflow_sub-t : goal.overflow_sub-t
overflow_sub-t c = omega (arith, let-long c.args.t.now (sym c.is_let.ensures ∙ c.if-not-is_let.false))

pub returns : goal.returns
returns c = let a = c.args in c.flag_pieces.ensures ∙ ap (λ (l : List ℕ). flag_pieces a.own.now (parts_of 44 l) a.table.now) c.cut.ensures ∙ sym (decl-not a.own.now a.t.now a.table.now true (sym c.is_let.ensures ∙ c.if-not-is_let.false))
