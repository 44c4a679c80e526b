use mathlib.Core.Path.{sym, ◌∙◌}
use Rattle.once.proofs.Scratches.{call-not, call-byte}
use Rattle.once.proofs.starts_call.Goals as goal

pub returns-then-not-starts_with : goal.returns-then-not-starts_with
returns-then-not-starts_with c = sym (call-not _ _ (sym c.starts_with.ensures ∙ c.if-not-starts_with.true))

pub returns : goal.returns
returns c = rw c.byte_at.ensures (sym (call-byte _ _ (sym c.starts_with.ensures ∙ c.if-not-starts_with.false)))
