use mathlib.Core.Path.{refl}
use borrow.Author.Tests.{le-leb, lt-leb}
use Rattle.tidying.proofs.records_size.Goals as goal

pub returns-then-n-gt-LARGE_LINES : goal.returns-then-n-gt-LARGE_LINES
returns-then-n-gt-LARGE_LINES c = rw (lt-leb c.args.n 100000 c.if-n-gt-LARGE_LINES.true)

pub returns-in-Ol : goal.returns-in-Ol
returns-in-Ol c = rw (le-leb c.args.n 100000 c.if-n-gt-LARGE_LINES.false, c.in-Ol.is) refl

pub returns-in-Om : goal.returns-in-Om
returns-in-Om c = rw (le-leb c.args.n 100000 c.if-n-gt-LARGE_LINES.false, c.in-Om.is) refl
