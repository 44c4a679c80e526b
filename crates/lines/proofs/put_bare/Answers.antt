use Rattle.std.proofs.Common.{length, sym, ap, ◌∙◌, arith}
use Rattle.lines.proofs.OutLaws.{wrote_as}
use Rattle.lines.proofs.StepLaws.{drop-none}
use Rattle.lines.proofs.put_bare.Goals as goal

pub put-requires : goal.put-requires
put-requires c = let a = c.args.text.now in omega (arith, c.requires, ap length (drop-none a (sym c.lacks.ensures ∙ c.if-lacks.true)))

pub returns-then-lacks : goal.returns-then-lacks
returns-then-lacks c = wrote_as (sym (drop-none c.args.text.now (sym c.lacks.ensures ∙ c.if-lacks.true))) c.put.ensures
