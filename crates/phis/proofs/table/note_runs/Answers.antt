use Prim.Native.Nat.{ℕ}
use mathlib.Core.Path.{◌≡◌, sym, ap, ◌∙◌}
use native.Mathlib.Omega.{arith}
use lib.ListN.{length}
use Rattle.lines.specs.Lf.{part}
use Rattle.phis.proofs.TableLaws.{runs-start, runs-name, run_long, runs-gap, runs-end}
use Rattle.phis.proofs.table.note_runs.Goals as goal

pub loop-i-init : goal.loop-i-init
loop-i-init c = let a = c.args in runs-start a.own.now a.stored a.s.now a.table.now

pub loop-i-preserved-then-is_name_byte : goal.loop-i-preserved-then-is_name_byte
loop-i-preserved-then-is_name_byte c = runs-name c.loop-i.invariant c.loop-i-test.true (sym c.is_name_byte.ensures ∙ c.if-is_name_byte.true)

pub loop-i-preserved : goal.loop-i-preserved
loop-i-preserved c = runs-gap c.loop-i.invariant c.cut.result.now _ c.cut.ensures c.note_run.ensures c.loop-i-test.true (sym c.is_name_byte.ensures ∙ c.if-is_name_byte.false)

pub shape_of-table : goal.shape_of-table
shape_of-table c =
    let l = c.loop-i in
    let e : length c.args.s.now ≡ l.i = omega arith in
    run_long l.invariant c.cut-2.result.now _ (c.cut-2.ensures ∙ ap (λ (n : ℕ). part l.a n c.args.s.now) e) c.note_run-2.ensures

pub returns : goal.returns
returns c =
    let l = c.loop-i in
    let e : length c.args.s.now ≡ l.i = omega arith in
    runs-end l.invariant c.cut-2.result.now _ (c.cut-2.ensures ∙ ap (λ (n : ℕ). part l.a n c.args.s.now) e) c.note_run-2.ensures c.loop-i-test.false
