use mathlib.Core.Path.{refl, sym, ap, ◌∙◌}
use native.Mathlib.Omega.{arith}
use lib.ListN.{drop, drop_of_length-le}
use Rattle.text.specs.Utf8Form.{scan, utf8_of}
use Rattle.text.proofs.Rows.{seq_len-le}
use Rattle.text.proofs.Scan.{scan-bad, scan-on}
use Rattle.text.proofs.scan_utf8.Goals as goal

pub loop-i-init : goal.loop-i-init
unfolding utf8_of
loop-i-init c = refl

pub returns-then-n-eq0 : goal.returns-then-n-eq0
returns-then-n-eq0 c =
    let l = c.loop-i in
    sym (scan-bad _ _ c.loop-i-test.true (sym c.seq_at-n.ensures ∙ c.if-n-eq0.true)) ∙ l.invariant

pub overflow_add-i : goal.overflow_add-i
overflow_add-i c =
    let b = seq_len-le (drop c.loop-i.i c.args.text.now) in
    omega arith

pub loop-i-preserved : goal.loop-i-preserved
loop-i-preserved c =
    let l = c.loop-i in
    sym (scan-on _ _ c.loop-i-test.true _ (sym c.seq_at-n.ensures) c.if-n-eq0.false) ∙ l.invariant

pub returns : goal.returns
unfolding scan
returns c = sym (ap (scan 0 _) (drop_of_length-le _ c.loop-i-test.false)) ∙ c.loop-i.invariant
