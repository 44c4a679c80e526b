use Rattle.std.proofs.Common.{ℕ, ◌≡◌, length, ap, sym, refl, ◌∙◌, arith}
use Rattle.lines.specs.Lf.{part}
use Rattle.temps.proofs.TableLaws.{runs-start, runs-name, run_long, runs-gap, runs-end}
use Rattle.temps.proofs.table.flag_runs.Goals as goal

pub loop-i-init : goal.loop-i-init
loop-i-init c = let a = c.args in runs-start a.own.now a.left.now a.s.now a.table.now a.k

pub loop-i-preserved-then-is_name_byte : goal.loop-i-preserved-then-is_name_byte
loop-i-preserved-then-is_name_byte c = runs-name _ c.loop-i.invariant c.loop-i-test.true (sym c.is_name_byte.ensures ∙ c.if-is_name_byte.true)

pub loop-i-preserved : goal.loop-i-preserved
loop-i-preserved c = let f = c.flag_run-skip in let l = c.loop-i in runs-gap _ l.invariant (part l.a l.i c.args.s.now) _ f.result refl f.ensures.answer f.ensures.memory c.loop-i-test.true (sym c.is_name_byte.ensures ∙ c.if-is_name_byte.false)

pub shape_of-table : goal.shape_of-table
shape_of-table c = let f = c.flag_run in let l = c.loop-i in let e : length c.args.s.now ≡ l.i = omega arith in run_long _ l.invariant (part l.a (length c.args.s.now) c.args.s.now) _ f.result (ap (λ (n : ℕ). part l.a n c.args.s.now) e) f.ensures.answer f.ensures.memory

pub returns : goal.returns
returns c = let f = c.flag_run in let l = c.loop-i in let e : length c.args.s.now ≡ l.i = omega arith in runs-end _ l.invariant (part l.a (length c.args.s.now) c.args.s.now) _ f.result (ap (λ (n : ℕ). part l.a n c.args.s.now) e) f.ensures.answer f.ensures.memory c.loop-i-test.false
