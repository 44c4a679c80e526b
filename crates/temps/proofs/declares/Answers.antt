use Rattle.std.proofs.Common.{◌-◌, length, get_or, sym, ◌∙◌, le-ltb, lt-ltb, eq-eqb, ne_eqb}
use Rattle.temps.specs.Temps.{declares}
use Rattle.temps.proofs.declares.Goals as goal

pub returns-then-n-le4 : goal.returns-then-n-le4
unfolding declares
returns-then-n-le4 c = rw (le-ltb 4 (length c.args.t.now) c.if-n-le4.true)

pub returns-then-not-starts_with : goal.returns-then-not-starts_with
unfolding declares
returns-then-not-starts_with c = rw (lt-ltb 4 (length c.args.t.now) c.if-n-le4.false, sym c.starts_with.ensures ∙ c.if-not-starts_with.true)

pub returns-then-t-n-ne59 : goal.returns-then-t-n-ne59
unfolding declares
returns-then-t-n-ne59 c = let t = c.args.t.now in rw (lt-ltb 4 (length t) c.if-n-le4.false, sym c.starts_with.ensures ∙ c.if-not-starts_with.false, ne_eqb (get_or t (length t - 1) 0) 59 c.if-t-n-ne59.true)

pub returns : goal.returns
unfolding declares
returns c = let t = c.args.t.now in rw (lt-ltb 4 (length t) c.if-n-le4.false, sym c.starts_with.ensures ∙ c.if-not-starts_with.false, eq-eqb (get_or t (length t - 1) 0) 59 c.if-t-n-ne59.false) c.any_piece.ensures
