use mathlib.Core.Path.{sym}
use lib.ListN.{get_or-eq_default}
use Rattle.origins.specs.Inner.Codes.{far_move}
use Rattle.origins.proofs.TableLaws.{in-any}
use Rattle.origins.proofs.code_at.Goals as goal

pub returns-then-i-codes : goal.returns-then-i-codes
returns-then-i-codes c = in-any c.args.codes.now c.args.i 0 far_move c.if-i-codes.true

pub returns : goal.returns
returns c = sym (get_or-eq_default c.args.codes.now far_move c.if-i-codes.false)
