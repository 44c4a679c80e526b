use Rattle.lexical.proofs.PlainLaws.{plain-high, plain-blank, plain-upper, plain-mark, plain-below}
use Rattle.lexical.proofs.is_plain.Goals as goal

pub returns-then-b-ge97 : goal.returns-then-b-ge97
returns-then-b-ge97 c = plain-high c.args.b c.if-b-ge97.true

pub returns-then-b-eq32 : goal.returns-then-b-eq32
returns-then-b-eq32 c = plain-blank c.args.b c.if-b-eq32.true

pub returns-then-b-ge48 : goal.returns-then-b-ge48
returns-then-b-ge48 c = plain-upper c.args.b c.if-b-ge97.false c.if-b-ge48.true

pub returns-then-b-ge40 : goal.returns-then-b-ge40
returns-then-b-ge40 c = plain-mark c.args.b c.if-b-ge48.false c.if-b-ge40.true

pub returns : goal.returns
returns c = plain-below c.args.b c.if-b-ge40.false
