use Rattle.std.proofs.Common.{◌≡◌, drop, ap, ◌∙◌, arith, drop-drop}
use lib.Count.{count_trailing_zeros, trailing_of_zero}
use Rattle.lines.specs.Lf.{up_to}
use Rattle.lines.proofs.LfLaws.{up-skip}
use Rattle.lines.proofs.find_byte.Goals as goal

pub loop-j-preserved : goal.loop-j-preserved
loop-j-preserved c =
    let a = c.args in
    let l = c.loop-j in
    let z : count_trailing_zeros 64 c.low_marks-t.result ≡ 64 = ap (count_trailing_zeros 64) c.if-t-eq0.true ∙ trailing_of_zero 64 in
    omega (arith, l.invariant, c.low_marks-t.ensures, up-skip a.b 8 (drop l.j a.s.now) (omega (arith, z, c.low_marks-t.ensures)), ap (up_to a.b) (drop-drop 8 l.j a.s.now))
