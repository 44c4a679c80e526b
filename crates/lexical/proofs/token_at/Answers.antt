use mathlib.Core.Path.{sym, ◌∙◌}
use Rattle.lines.proofs.Tests.{so}
use Rattle.lexical.proofs.TokenLaws.{token-none, token-line, token_block, token-pattern, token-slash, token-quote, token-kept}
use Rattle.lexical.proofs.token_at.Goals as goal

pub returns-then-s-i : goal.returns-then-s-i
returns-then-s-i c = let a = c.args in c.sized.ensures ∙ sym (token-none a.last a.s.now a.i c.if-s-i.true)

pub returns-then-y-eq47 : goal.returns-then-y-eq47
returns-then-y-eq47 c = let a = c.args in c.sized-then-y-eq47.ensures ∙ sym (token-line a.last a.s.now a.i c.if-s-i.false c.if-x-eq47.true (sym c.byte_at-y.ensures ∙ c.if-y-eq47.true))

pub returns-then-y-eq42 : goal.returns-then-y-eq42
returns-then-y-eq42 c = let a = c.args in c.sized-then-y-eq42.ensures ∙ sym (token_block a.last a.s.now a.i c.if-s-i.false _ c.comment_end.ensures c.if-x-eq47.true (sym c.byte_at-y.ensures ∙ c.if-y-eq42.true))

pub returns-then-pattern_after : goal.returns-then-pattern_after
returns-then-pattern_after c = let a = c.args in let y = c.byte_at-y.ensures in c.sized-then-pattern_after.ensures ∙ sym (token-pattern a.last a.s.now a.i c.if-s-i.false c.if-x-eq47.true (λ e. c.if-y-eq47.false (y ∙ e)) (λ e. c.if-y-eq42.false (y ∙ e)) _ c.pattern_end.ensures (so c.pattern_after.ensures c.if-pattern_after.true))

pub returns-then-x-eq47 : goal.returns-then-x-eq47
returns-then-x-eq47 c = let a = c.args in let y = c.byte_at-y.ensures in c.sized-then-x-eq47.ensures ∙ sym (token-slash a.last a.s.now a.i c.if-s-i.false c.if-x-eq47.true (λ e. c.if-y-eq47.false (y ∙ e)) (λ e. c.if-y-eq42.false (y ∙ e)) (so c.pattern_after.ensures c.if-pattern_after.false))

pub returns-then-is_quote : goal.returns-then-is_quote
returns-then-is_quote c = let a = c.args in c.sized-then-is_quote.ensures ∙ sym (token-quote a.last a.s.now a.i c.if-s-i.false _ c.quote_end.ensures c.if-x-eq47.false (so c.is_quote.ensures c.if-is_quote.true))

pub returns : goal.returns
returns c = let a = c.args in c.sized-2.ensures ∙ sym (token-kept a.last a.s.now a.i c.if-s-i.false c.if-x-eq47.false (so c.is_quote.ensures c.if-is_quote.false))
