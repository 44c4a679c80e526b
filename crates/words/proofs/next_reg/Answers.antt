use native.Mathlib.Omega.{arith}
use Rattle.words.proofs.Short.{short-reg}
use Rattle.words.proofs.next_reg.Goals as goal

pub returns-then-reg-lt10 : goal.returns-then-reg-lt10
returns-then-reg-lt10 c = short-reg c.args.reg.0 (omega arith) (omega arith) c.next_short.ensures
