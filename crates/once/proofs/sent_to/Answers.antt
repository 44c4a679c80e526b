use mathlib.Core.Path.{sym, ap, ◌∙◌}
use mathlib.Core.Bool.{not}
use borrow.Author.Tests.{lt-ltb}
use Rattle.lines.specs.Lf.{lines_of}
use Rattle.lines.proofs.Tests.{and_both}
use Rattle.once.proofs.Searches.{below-later}
use Rattle.once.proofs.Decides.{sent-stored, sent-reads, sent-later}
use Rattle.once.proofs.sent_to.Goals as goal

pub returns-then-note : goal.returns-then-note
returns-then-note c = sym (c.requires.sent c.if-note.true)

pub returns-then-note-gt-NOTE_OTHER : goal.returns-then-note-gt-NOTE_OTHER
returns-then-note-gt-NOTE_OTHER c = sym (c.requires.stays (and_both (ap not c.if-note.false) (lt-ltb _ _ c.if-note-gt-NOTE_OTHER.true)))

pub returns-then-u : goal.returns-then-u
returns-then-u c = sym (sent-stored c.args.reg.0 c.args.next.now (lines_of c.args.below.now) (sym c.use_of-u.ensures.1 ∙ c.if-u.true))

pub returns-then-u-ne1 : goal.returns-then-u-ne1
returns-then-u-ne1 c = sym (sent-reads c.args.reg.0 c.args.next.now (lines_of c.args.below.now) (sym c.use_of-u.ensures.1 ∙ c.if-u.false) _ c.use_of-u.ensures.0 c.if-u-ne1.true)

pub returns : goal.returns
returns c = ap not (c.read_below.ensures ∙ below-later c.args.reg.0 (lines_of c.args.below.now)) ∙ sent-later c.args.reg.0 c.args.next.now (lines_of c.args.below.now) (sym c.use_of-u.ensures.1 ∙ c.if-u.false) _ c.use_of-u.ensures.0 c.if-u-ne1.false
