use mathlib.Core.Path.{sym, ap, ◌∙◌}
use Rattle.parse.specs.declared.Line.{Line}
use Rattle.once.specs.Inner.Noted.{line_note}
use Rattle.once.proofs.noted.line_note.Goals as goal

pub store_note-requires : goal.store_note-requires
store_note-requires c = c.requires

pub returns-in-Store : goal.returns-in-Store
returns-in-Store c = c.store_note.ensures ∙ sym (ap (λ (p : Line). line_note c.args.own.now p c.args.paths.now c.args.k c.args.m c.args.h c.args.near.now c.args.far.now c.args.stores.now) c.in-Store.is)
