use Prim.Native.Nat.{ℕ}
use mathlib.Core.Path.{ap, ◌∙◌}
use Rattle.calls.specs.Inner.Steps.{is_second}
use Rattle.calls.proofs.Signs.{may-second, may-colon, may-brace}
use Rattle.calls.proofs.may_control.Goals as goal

pub returns-then-is_second : goal.returns-then-is_second
returns-then-is_second c = may-second _ _ (c.is_second.ensures ∙ ap (λ (x : ℕ). is_second x) c.byte_at.ensures) c.if-is_second.true

pub returns-then-has_byte : goal.returns-then-has_byte
returns-then-has_byte c = may-colon _ _ (c.is_second.ensures ∙ ap (λ (x : ℕ). is_second x) c.byte_at.ensures) c.if-is_second.false _ c.has_byte.ensures c.if-has_byte.true

pub returns : goal.returns
returns c = may-brace _ _ (c.is_second.ensures ∙ ap (λ (x : ℕ). is_second x) c.byte_at.ensures) c.if-is_second.false _ c.has_byte.ensures c.if-has_byte.false _ c.has_byte-2.ensures
