use mathlib.Core.Path.{sym, ◌∙◌}
use Prim.Native.Nat.{◌+◌, ◌*◌}
use native.Mathlib.Omega.{arith}
use Rattle.calls.proofs.is_read.Goals as goal

pub overflow_cast-notes : goal.overflow_cast-notes
overflow_cast-notes c = omega (arith, c.shared_slice_known-4-1.given (2 * c.args.k))

pub returns-then-d-notes : goal.returns-then-d-notes
returns-then-d-notes c = sym ((c.requires (sym c.stores.ensures ∙ c.if-not-stores.false)).0 c.if-d-notes.true)

pub overflow_cast-notes-2 : goal.overflow_cast-notes-2
overflow_cast-notes-2 c = omega (arith, c.shared_slice_known-5-1.given (2 * c.args.k + 1))

pub returns-then-d-notes-2 : goal.returns-then-d-notes-2
returns-then-d-notes-2 c = sym ((c.requires (sym c.stores.ensures ∙ c.if-not-stores.false)).1 c.if-d-notes.false c.if-d-notes-2.true)
