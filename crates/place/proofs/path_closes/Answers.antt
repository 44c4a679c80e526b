use Prim.Native.Nat.{◌-◌}
use native.Mathlib.Omega.{arith}
use mathlib.Core.Path.{sym, ap, ◌∙◌}
use Rattle.place.proofs.Tables.{closes-none, closes-some, closes-all, closes-less}
use Rattle.place.proofs.path_closes.Goals as goal

pub returns-then-not-starts_with : goal.returns-then-not-starts_with
returns-then-not-starts_with c = closes-none c.args.t.now (sym c.starts_with.ensures ∙ c.if-not-starts_with.true)

pub returns-then-not-ends_open : goal.returns-then-not-ends_open
returns-then-not-ends_open c = c.count_byte-n.ensures ∙ closes-all c.args.t.now (sym c.starts_with.ensures ∙ c.if-not-starts_with.false) (sym c.ends_open.ensures ∙ c.if-not-ends_open.true)

pub overflow_sub-result : goal.overflow_sub-result
overflow_sub-result c = omega (arith, c.count_byte-n.ensures, closes-some c.args.t.now (sym c.starts_with.ensures ∙ c.if-not-starts_with.false))

pub returns : goal.returns
returns c = ap (λ n. n - 1) c.count_byte-n.ensures ∙ closes-less c.args.t.now (sym c.starts_with.ensures ∙ c.if-not-starts_with.false) (sym c.ends_open.ensures ∙ c.if-not-ends_open.false)
