use mathlib.Core.Path.{sym, ◌∙◌}
use Rattle.lines.proofs.Tests.{so}
use Rattle.lexical.proofs.TailLaws.{after-low, after-high}
use Rattle.lexical.proofs.last_after.Goals as goal

pub returns-then-is_white : goal.returns-then-is_white
returns-then-is_white c = let a = c.args in sym (after-low a.b c.if-b-lt128.true a.t ∙ rw (so c.is_white.ensures c.if-is_white.true))

pub returns-then-b-lt128 : goal.returns-then-b-lt128
returns-then-b-lt128 c = let a = c.args in sym (after-low a.b c.if-b-lt128.true a.t ∙ rw (so c.is_white.ensures c.if-is_white.false))

pub returns-then-white_char : goal.returns-then-white_char
returns-then-white_char c = let a = c.args in sym (after-high a.t a.b c.if-b-lt128.false ∙ rw (so c.white_char.ensures c.if-white_char.true))

pub returns-then-white_char-2 : goal.returns-then-white_char-2
returns-then-white_char-2 c = let a = c.args in sym (after-high a.t a.b c.if-b-lt128.false ∙ rw (so c.white_char.ensures c.if-white_char.false, so c.white_char-2.ensures c.if-white_char-2.true))

pub returns : goal.returns
returns c = let a = c.args in sym (after-high a.t a.b c.if-b-lt128.false ∙ rw (so c.white_char.ensures c.if-white_char.false, so c.white_char-2.ensures c.if-white_char-2.false))
