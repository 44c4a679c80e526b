use Rattle.std.proofs.Common.{sym, ◌∙◌, arith}
use Rattle.temps.proofs.TableLaws.{let-long}
use Rattle.temps.proofs.table.claim_decl.Goals as goal

pub overflow_sub-t : goal.overflow_sub-t
overflow_sub-t c = omega (arith, let-long c.args.t.now (sym c.is_let.ensures ∙ c.if-not-is_let.false))
