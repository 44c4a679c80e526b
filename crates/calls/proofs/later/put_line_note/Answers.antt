use mathlib.Core.Path.{sym, ap, ◌∙◌}
use Rattle.parse.specs.declared.Line.{Line}
use Rattle.calls.specs.Inner.Later.{note_line}
use Rattle.calls.proofs.later.put_line_note.Goals as goal

pub returns-in-Decl : goal.returns-in-Decl
returns-in-Decl c = let a = c.args in sym (ap (λ (p : Line). note_line a.own.now p a.k a.c a.h a.near.now a.stores.now a.notes.now) c.in-Decl.is)

pub returns-in-Store : goal.returns-in-Store
returns-in-Store c = let a = c.args in c.put_note.ensures ∙ sym (ap (λ (p : Line). note_line a.own.now p a.k a.c a.h a.near.now a.stores.now a.notes.now) c.in-Store.is)

pub returns-in-Other : goal.returns-in-Other
returns-in-Other c = let a = c.args in sym (ap (λ (p : Line). note_line a.own.now p a.k a.c a.h a.near.now a.stores.now a.notes.now) c.in-Other.is)
