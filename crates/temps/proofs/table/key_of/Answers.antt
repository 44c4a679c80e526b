use Rattle.std.proofs.Common.{sym, ◌∙◌}
use Rattle.lines.proofs.LfLaws.{rest_of}
use Rattle.temps.proofs.TableLaws.{key-other, key-is, key-made}
use Rattle.temps.proofs.table.key_of.Goals as goal

pub returns-then-not-starts_with : goal.returns-then-not-starts_with
returns-then-not-starts_with c = sym (key-other _ (sym c.starts_with.ensures ∙ c.if-not-starts_with.true))

pub returns-in-Some : goal.returns-in-Some
returns-in-Some c = key-made c.args.s.now (sym c.starts_with.ensures ∙ c.if-not-starts_with.false) (c.cut-d.ensures ∙ rest_of c.args.s.now 1) (sym c.in-Some.ensures) c.skip_zeros.ensures c.key_by.ensures

pub returns-in-None : goal.returns-in-None
returns-in-None c = sym (key-is c.args.s.now (sym c.starts_with.ensures ∙ c.if-not-starts_with.false) (c.cut-d.ensures ∙ rest_of c.args.s.now 1) _ (sym c.in-None.ensures))
