use Prim.Native.Nat.{ℕ}
use native.Mathlib.Omega.{arith}
use mathlib.Core.Path.{sym, ap, ◌∙◌}
use mathlib.Core.Bool.{not}
use Rattle.text.specs.Class.{is_name}
use Rattle.words.proofs.RunLaws.{up-here, up-on, up-end}
use Rattle.words.proofs.run_end.Goals as goal

pub returns-then-not-is_name_byte : goal.returns-then-not-is_name_byte
returns-then-not-is_name_byte c = omega (arith, up-here (λ (x : ℕ). not (is_name x)) c.args.s.now c.loop-j.j c.loop-j-test.true (ap not (sym c.is_name_byte.ensures ∙ c.if-not-is_name_byte.true)))

pub loop-j-preserved : goal.loop-j-preserved
loop-j-preserved c = omega (arith, up-on (λ (x : ℕ). not (is_name x)) c.args.s.now c.loop-j.j c.loop-j-test.true (ap not (sym c.is_name_byte.ensures ∙ c.if-not-is_name_byte.false)))

pub returns : goal.returns
returns c =
    let s = c.args.s.now in
    grind (arith, up-end (λ (x : ℕ). not (is_name x)) s c.loop-j.j c.loop-j-test.false, up-end (λ (x : ℕ). not (is_name x)) s c.args.i)
