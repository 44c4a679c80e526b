use Prim.Native.Nat.{◌+◌, ◌-◌}
use mathlib.Core.Path.{◌≡◌, sym, ap, ◌∙◌}
use native.Mathlib.Omega.{arith}
use lib.ListN.{length}
use Rattle.lexical.specs.Inner.Plain.{plain_len}
use Rattle.lexical.proofs.EndLaws.{ends}
use Rattle.lexical.proofs.MildLaws.{tame-on, tame-over}
use Rattle.lexical.proofs.plain_to.Goals as goal

pub returns-then-n-lt9 : goal.returns-then-n-lt9
returns-then-n-lt9 c = omega (arith, c.plain_one.ensures)

pub loop-j-init : goal.loop-j-init
loop-j-init c = (omega arith, omega arith)

pub returns-then-not-tame_eight : goal.returns-then-not-tame_eight
returns-then-not-tame_eight c = c.plain_one-then-not-tame_eight.ensures ∙ c.loop-j.invariant.0

pub loop-j-preserved : goal.loop-j-preserved
loop-j-preserved c =
    let l = c.loop-j in
    (tame-on c.args.s.now l.j (omega arith) (sym c.tame_eight.ensures ∙ c.if-not-tame_eight.false) ∙ l.invariant.0, omega arith)

pub returns-then-tame_eight : goal.returns-then-tame_eight
returns-then-tame_eight c =
    let l = c.loop-j in
    let s = c.args.s.now in
    let z = tame-over s (length s - 9) (omega arith) (sym c.tame_eight-2.ensures ∙ c.if-tame_eight.true) l.j (omega arith) (omega arith) in
    let e : length s - 9 + 8 ≡ length s - 1 = omega arith in
    c.plain_one-then-tame_eight.ensures ∙ ap (ends plain_len s) (sym e) ∙ z ∙ l.invariant.0

pub returns : goal.returns
returns c = c.plain_one-2.ensures ∙ c.loop-j.invariant.0
