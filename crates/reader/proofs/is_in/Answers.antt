use mathlib.Core.Path.{ap, sym}
use Rattle.origins.specs.Answers.{is_in}
use Rattle.reader.proofs.is_in.Goals as goal

pub returns-in-Equal : goal.returns-in-Equal
returns-in-Equal c = ap (is_in c.args.n) (sym c.in-Equal.is)

pub returns-in-Changed : goal.returns-in-Changed
returns-in-Changed c = ap (is_in c.args.n) (sym c.in-Changed.is)

pub returns-in-Inside : goal.returns-in-Inside
returns-in-Inside c = ap (is_in c.args.n) (sym c.in-Inside.is)

pub returns-in-Away : goal.returns-in-Away
returns-in-Away c = ap (is_in c.args.n) (sym c.in-Away.is)
