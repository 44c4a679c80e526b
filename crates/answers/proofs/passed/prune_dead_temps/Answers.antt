use native.Mathlib.Omega.{arith}
use Rattle.reading.specs.Reading.{plain}
use Rattle.temps.specs.Temps.{prune_dead_temps}
use Rattle.temps.proofs.Keeps.{temps-weight}
use Rattle.answers.proofs.Bounds.{pass-room, rows-room}
use Rattle.answers.proofs.passed.prune_dead_temps.Goals as goal

pub prune_dead_temps-requires : goal.prune_dead_temps-requires
prune_dead_temps-requires c = (omega (arith, c.if-scratch-a.false), (omega (arith, pass-room (prune_dead_temps plain) (temps-weight 0 plain) c.args.a.now, c.if-out-a.false), rows-room 4096 c.args.a.now (omega (arith, c.count_lines.ensures, c.if-count_lines-gt-ROWS.false))))
