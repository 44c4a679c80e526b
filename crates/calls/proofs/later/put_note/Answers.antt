use mathlib.Core.Path.{ap, ◌∙◌}
use Prim.Native.Nat.{ℕ, ◌-◌, ◌*◌}
use lib.ListN.{length-set}
use native.Mathlib.Omega.{arith}
use Rattle.calls.proofs.Notes.{no_near, no_store, no_note, note-put}
use Rattle.calls.proofs.later.put_note.Goals as goal

pub returns-then-near-v : goal.returns-then-near-v
returns-then-near-v c = let a = c.args in no_near a.own.now a.near.now a.stores.now a.notes.now a.reg.0 a.k a.c a.h _ _ c.slot-v.ensures c.slot-w.ensures c.if-near-v.true

pub returns-then-stores-w : goal.returns-then-stores-w
returns-then-stores-w c = let a = c.args in no_store a.own.now a.near.now a.stores.now a.notes.now a.reg.0 a.k a.c a.h _ _ c.slot-v.ensures c.slot-w.ensures c.if-stores-w.true

pub returns-then-notes-k : goal.returns-then-notes-k
returns-then-notes-k c = let a = c.args in no_note a.own.now a.near.now a.stores.now a.notes.now a.reg.0 a.k a.c a.h _ _ c.slot-v.ensures c.slot-w.ensures c.if-notes-k.true

pub bounds-notes-k-2 : goal.bounds-notes-k-2
bounds-notes-k-2 c = omega (arith, c.if-notes-k.false, length-set c.args.notes.now (2 * c.args.k) c.read_span.result)

pub returns : goal.returns
returns c = let a = c.args in note-put a.own.now a.near.now a.stores.now a.notes.now a.reg.0 a.k a.c a.h _ _ c.slot-v.ensures c.slot-w.ensures c.if-near-v.false c.if-stores-w.false c.if-notes-k.false c.read_span.ensures (c.span.ensures ∙ ap (λ (x : ℕ). a.c - x) c.greater.ensures)
