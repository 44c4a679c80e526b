use Prim.Native.Nat.{ℕ}
use mathlib.Core.Path.{sym, ap, ◌∙◌}
use Rattle.std.specs.declared.option.Option.{Option}
use Rattle.po.specs.Reader.{value_of}
use Rattle.po.proofs.reader.number_in.Goals as goal

pub returns-in-Some : goal.returns-in-Some
returns-in-Some c = sym (ap (λ (x : Option ℕ). value_of x) (sym c.read_number.ensures ∙ c.in-Some.is))

pub returns-in-None : goal.returns-in-None
returns-in-None c = sym (ap (λ (x : Option ℕ). value_of x) (sym c.read_number.ensures ∙ c.in-None.is))
