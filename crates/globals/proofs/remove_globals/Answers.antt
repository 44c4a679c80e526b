use native.Mathlib.Omega.{arith}
use mathlib.Core.Path.{ap}
use lib.ListN.{length}
use Rattle.lines.proofs.OutLaws.{wrote_as}
use Rattle.lines.proofs.Tests.{so}
use Rattle.globals.proofs.Laws.{lack-text, lack-moves}
use Rattle.globals.proofs.remove_globals.Goals as goal

pub stay_lines-requires : goal.stay_lines-requires
stay_lines-requires c = omega (arith, c.requires.1)

pub put_lines-requires : goal.put_lines-requires
put_lines-requires c = omega (arith, c.requires.0, ap length (lack-text c.args.text.now (so c.lacks.ensures c.if-lacks.true)))

pub returns-then-lacks : goal.returns-then-lacks
returns-then-lacks c =
    let k = so c.lacks.ensures c.if-lacks.true in
    record { answer = wrote_as (lack-text c.args.text.now k) c.put_lines.ensures; moves = lack-moves c.args.text.now k c.stay_lines.ensures }
