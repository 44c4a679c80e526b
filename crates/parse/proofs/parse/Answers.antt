use mathlib.Core.Path.{sym, ◌∙◌}
use Rattle.lines.proofs.Tests.{so}
use Rattle.parse.proofs.PlainLine.{decl-other, parse-other, parse-let}
use Rattle.parse.proofs.parse.Goals as goal

pub parse_reg-requires : goal.parse_reg-requires
parse_reg-requires c = (c.trim_from-a.ensures, sym c.byte_at-c.ensures ∙ c.if-c-eq114.true)

pub returns-then-c-eq114 : goal.returns-then-c-eq114
returns-then-c-eq114 c = c.parse_reg.ensures

pub returns-then-c-ne108 : goal.returns-then-c-ne108
returns-then-c-ne108 c = parse-other c.byte_at-c.result c.if-c.true c.if-c-eq114.false c.args.line.now c.trim_from-a.result c.trim_from-a.ensures c.byte_at-c.ensures (decl-other c.args.line.now c.trim_from-a.result c.trim_from-a.ensures (λ z. c.if-c-ne108.true (c.byte_at-c.ensures ∙ z)))

pub returns-then-declares_at : goal.returns-then-declares_at
returns-then-declares_at c = parse-let c.args.line.now (so c.declares_at.ensures c.if-declares_at.true)

pub returns-then-c : goal.returns-then-c
returns-then-c c = parse-other c.byte_at-c.result c.if-c.true c.if-c-eq114.false c.args.line.now c.trim_from-a.result c.trim_from-a.ensures c.byte_at-c.ensures (so c.declares_at.ensures c.if-declares_at.false)

pub returns-in-Decl : goal.returns-in-Decl
returns-in-Decl c = sym c.in-Decl.is ∙ c.parse_any.ensures

pub returns-in-Store : goal.returns-in-Store
returns-in-Store c = sym c.in-Store.is ∙ c.parse_any.ensures

pub returns-in-Other : goal.returns-in-Other
returns-in-Other c = sym c.in-Other.is ∙ c.parse_any.ensures
