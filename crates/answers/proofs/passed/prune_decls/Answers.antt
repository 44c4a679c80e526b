use native.Mathlib.Omega.{arith}
use Rattle.decls.specs.Decls.{prune_decls}
use Rattle.decls.proofs.Decl.{prune-weight}
use Rattle.answers.proofs.Bounds.{pass-room, rows-room}
use Rattle.answers.proofs.passed.prune_decls.Goals as goal

pub prune_decls-requires : goal.prune_decls-requires
prune_decls-requires c = (omega (arith, pass-room prune_decls (prune-weight 0) c.args.a.now, c.if-out-a.false), rows-room 4096 c.args.a.now (omega (arith, c.count_lines.ensures, c.if-count_lines-gt-ROWS.false)))
