use native.Mathlib.Omega.{arith}
use mathlib.Core.Path.{sym}
use Rattle.words.proofs.Places.{find_none, find-two, find-one}
use Rattle.words.proofs.find_reg.Goals as goal

pub returns-then-n-a : goal.returns-then-n-a
returns-then-n-a c = let a = c.args in sym (find_none a.reg.0 a.s.now (omega arith) c.next_reg-a.ensures (omega arith))

pub returns-then-b-n : goal.returns-then-b-n
returns-then-b-n c =
    let a = c.args in
    sym (find-two a.reg.0 a.s.now (omega arith) c.next_reg-a.ensures (omega arith) c.run_end-e.ensures c.next_reg-b.ensures (omega arith))

pub returns : goal.returns
returns c =
    let a = c.args in
    sym (find-one a.reg.0 a.s.now (omega arith) c.next_reg-a.ensures (omega arith) c.run_end-e.ensures c.next_reg-b.ensures (omega arith))
