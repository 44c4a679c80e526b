use mathlib.Core.Path.{sym, ◌∙◌}
use Rattle.lines.proofs.Tests.{so}
use Rattle.globals.proofs.Laws.{globals-short, globals-first, globals-second}
use Rattle.globals.proofs.is_globals.Goals as goal

pub returns-then-line-lt25 : goal.returns-then-line-lt25
returns-then-line-lt25 c = sym (globals-short c.args.line.now c.if-line-lt25.true)

pub returns-then-starts_with : goal.returns-then-starts_with
returns-then-starts_with c = sym (globals-first c.args.line.now _ c.trim-t.ensures.0 (so c.starts_with.ensures c.if-starts_with.true))

pub returns : goal.returns
returns c = c.starts_with-2.ensures ∙ sym (globals-second c.args.line.now _ c.trim-t.ensures.0 (so c.starts_with.ensures c.if-starts_with.false))
