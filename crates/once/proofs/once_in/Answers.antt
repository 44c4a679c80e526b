use Prim.Native.Nat.{ℕ}
use mathlib.Core.Path.{sym, ap, ◌∙◌}
use mathlib.Core.List.{List}
use borrow.Author.Tests.{eq-eqb, ne_eqb}
use lib.Dec.{eqb}
use Rattle.lines.specs.Lf.{lines_of}
use Rattle.place.proofs.Regions.{region-at}
use Rattle.once.specs.Once.{read_count}
use Rattle.once.proofs.once_in.Goals as goal

pub returns-then-note-eq-NOTE_ALONE : goal.returns-then-note-eq-NOTE_ALONE
returns-then-note-eq-NOTE_ALONE c = sym (eq-eqb _ _ (c.requires.alone c.if-note-eq-NOTE_ALONE.true))

pub returns-then-note-eq-NOTE_SENT : goal.returns-then-note-eq-NOTE_SENT
returns-then-note-eq-NOTE_SENT c = sym (ne_eqb _ _ (c.requires.more c.if-note-eq-NOTE_SENT.true))

pub returns : goal.returns
returns c = c.read_once.ensures ∙ ap (λ (ls : List (List ℕ)). eqb (read_count c.args.reg.0 ls) 1) (ap lines_of c.cut.ensures ∙ region-at c.args.run.now 0 c.region_end-e.result c.region_end-e.ensures)
