use native.Mathlib.Omega.{arith}
use mathlib.Core.Path.{sym, ◌∙◌}
use Rattle.po.proofs.NameLaws.{run-bad, run-white, run_on, run_fits, run_end}
use Rattle.po.proofs.file_name.Goals as goal

pub loop-i-init : goal.loop-i-init
loop-i-init c = (omega arith, omega arith)

pub seq_at-n-requires : goal.seq_at-n-requires
seq_at-n-requires c = tt

pub returns-then-n-eq0 : goal.returns-then-n-eq0
returns-then-n-eq0 c = let a = c.args in let l = c.loop-i in sym (run-bad a.name.now l.i c.loop-i-test.true _ c.seq_at-n.ensures c.if-n-eq0.true) ∙ l.invariant.1

pub trim_from-requires : goal.trim_from-requires
trim_from-requires c = tt

pub returns-then-trim_from-gt0 : goal.returns-then-trim_from-gt0
returns-then-trim_from-gt0 c = let a = c.args in let l = c.loop-i in sym (run-white a.name.now l.i c.loop-i-test.true _ c.seq_at-n.ensures _ c.trim_from.ensures c.if-trim_from-gt0.true) ∙ l.invariant.1

pub overflow_add-i : goal.overflow_add-i
overflow_add-i c = let a = c.args in let l = c.loop-i in omega (arith, run_fits a.name.now l.i c.loop-i-test.true c.seq_at-n.result c.seq_at-n.ensures)

pub loop-i-smaller : goal.loop-i-smaller
loop-i-smaller c = let a = c.args in let l = c.loop-i in omega (arith, c.if-n-eq0.false)

pub loop-i-preserved : goal.loop-i-preserved
loop-i-preserved c = let a = c.args in let l = c.loop-i in (run_fits a.name.now l.i c.loop-i-test.true c.seq_at-n.result c.seq_at-n.ensures, sym (run_on a.name.now l.i c.loop-i-test.true _ c.seq_at-n.ensures _ c.trim_from.ensures c.if-trim_from-gt0.false c.if-n-eq0.false) ∙ l.invariant.1)

pub returns : goal.returns
returns c = let a = c.args in let l = c.loop-i in sym (run_end a.name.now l.i c.loop-i-test.false) ∙ l.invariant.1
