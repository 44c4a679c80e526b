use mathlib.Core.Path.{sym, ◌∙◌}
use Rattle.once.proofs.Searches.{below-live}
use Rattle.once.proofs.live_below.Goals as goal

pub returns-then-note-eq-NOTE_STORED : goal.returns-then-note-eq-NOTE_STORED
returns-then-note-eq-NOTE_STORED c = sym (c.requires.0 c.if-note-eq-NOTE_STORED.true)

pub returns-then-note-eq-NOTE_DEAD : goal.returns-then-note-eq-NOTE_DEAD
returns-then-note-eq-NOTE_DEAD c = sym (c.requires.1 c.if-note-eq-NOTE_DEAD.true)

pub returns : goal.returns
returns c = c.read_below.ensures ∙ below-live _ _
