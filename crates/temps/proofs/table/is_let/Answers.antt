use Rattle.std.proofs.Common.{◌-◌, false, eqb, length, get_or, sym, ◌∙◌, le-ltb, lt-ltb}
use Rattle.temps.proofs.TableLaws.{let_by}
use Rattle.temps.proofs.table.is_let.Goals as goal

pub returns-then-n-le4 : goal.returns-then-n-le4
returns-then-n-le4 c = sym (let_by c.args.t.now false (rw (le-ltb 4 (length c.args.t.now) c.if-n-le4.true)))

pub returns-then-not-starts_with : goal.returns-then-not-starts_with
returns-then-not-starts_with c = sym (let_by c.args.t.now false (rw (lt-ltb 4 (length c.args.t.now) c.if-n-le4.false, sym c.starts_with.ensures ∙ c.if-not-starts_with.true)))

pub returns : goal.returns
returns c = let t = c.args.t.now in sym (let_by t (eqb (get_or t (length t - 1) 0) 59) (rw (lt-ltb 4 (length c.args.t.now) c.if-n-le4.false, sym c.starts_with.ensures ∙ c.if-not-starts_with.false)))
