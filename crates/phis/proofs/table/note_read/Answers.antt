use mathlib.Core.Path.{ap, ◌∙◌}
use Prim.Native.Nat.{ℕ}
use mathlib.Core.Bool.{true, false}
use lib.ListN.{set}
use Rattle.lines.proofs.Tests.{so}
use Rattle.slots.specs.Inner.Slots.{with_entry}
use Rattle.decls.proofs.SeenLaws.{entry_past}
use Rattle.phis.proofs.TableLaws.{read-own, read_by}
use Rattle.phis.proofs.table.note_read.Goals as goal

pub returns-then-is_phi : goal.returns-then-is_phi
returns-then-is_phi c = let a = c.args in read-own a.stored a.r.now a.table.now (with_entry a.own.now a.phi.0 2 a.table.now) a.phi.0 (so c.is_phi.ensures c.if-is_phi.true)

pub returns-then-not-is_phi_text : goal.returns-then-not-is_phi_text
returns-then-not-is_phi_text c = let a = c.args in read_by a.stored a.r.now a.table.now (with_entry a.own.now a.phi.0 2 a.table.now) a.phi.0 false (so c.is_phi.ensures c.if-is_phi.false) (so c.is_phi_text.ensures c.if-not-is_phi_text.true)

pub returns-then-table-v : goal.returns-then-table-v
returns-then-table-v c = let a = c.args in entry_past a.own.now a.table.now a.phi.0 2 _ c.slot-v.ensures c.if-table-v.true ∙ read_by a.stored a.r.now a.table.now (with_entry a.own.now a.phi.0 2 a.table.now) a.phi.0 true (so c.is_phi.ensures c.if-is_phi.false) (so c.is_phi_text.ensures c.if-not-is_phi_text.false)

pub returns : goal.returns
returns c = let a = c.args in ap (λ (k : ℕ). set a.table.now k 2) c.slot-v.ensures ∙ read_by a.stored a.r.now a.table.now (with_entry a.own.now a.phi.0 2 a.table.now) a.phi.0 true (so c.is_phi.ensures c.if-is_phi.false) (so c.is_phi_text.ensures c.if-not-is_phi_text.false)
