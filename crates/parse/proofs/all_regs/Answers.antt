use Prim.Native.Nat.{ℕ}
use native.Mathlib.Omega.{arith}
use mathlib.Core.Path.{refl, sym, ap, ◌∙◌}
use mathlib.Core.List.{List}
use Rattle.names.specs.Names.{reg_of, is_reg}
use Rattle.lines.proofs.LfLaws.{find-le}
use Rattle.parse.proofs.ParseLaws.{regs-stop, regs-last, regs-on}
use Rattle.parse.proofs.all_regs.Goals as goal

pub loop-i-init : goal.loop-i-init
loop-i-init c = (omega arith, refl)

pub returns-then-p-s : goal.returns-then-p-s
returns-then-p-s c = let l = c.loop-i in let p = c.plain_reg-p in let k = p.ensures c.if-i-p.true in sym (regs-last c.args.s.now l.i p.result l.invariant.0 k.0 c.if-p-s.true k.1) ∙ l.invariant.1

pub loop-i-smaller-then-i-p : goal.loop-i-smaller-then-i-p
loop-i-smaller-then-i-p c = omega (arith, c.if-i-p.true)

pub loop-i-preserved-then-i-p : goal.loop-i-preserved-then-i-p
loop-i-preserved-then-i-p c = let l = c.loop-i in let p = c.plain_reg-p in let k = p.ensures c.if-i-p.true in (omega arith, sym (regs-on c.args.s.now l.i p.result l.invariant.0 k.0 c.if-p-s.false k.1) ∙ l.invariant.1)

pub slice_bounds-trim-end : goal.slice_bounds-trim-end
slice_bounds-trim-end c = omega (arith, find-le 44 c.args.s.now c.loop-i.i c.find_byte-e.result c.loop-i.invariant.0 c.find_byte-e.ensures)

pub returns-then-not-is_reg : goal.returns-then-not-is_reg
returns-then-not-is_reg c = let l = c.loop-i in let s = c.args.s.now in let f = c.find_byte-e in sym (regs-stop s l.i f.result l.invariant.0 f.ensures (sym (c.is_reg.ensures ∙ ap (λ (l : List ℕ). is_reg (reg_of l)) c.trim.ensures.0) ∙ c.if-not-is_reg.true)) ∙ l.invariant.1

pub returns-then-e-s : goal.returns-then-e-s
returns-then-e-s c = let l = c.loop-i in let s = c.args.s.now in let f = c.find_byte-e in sym (regs-last s l.i f.result l.invariant.0 f.ensures c.if-e-s.true (sym (c.is_reg.ensures ∙ ap (λ (l : List ℕ). is_reg (reg_of l)) c.trim.ensures.0) ∙ c.if-not-is_reg.false)) ∙ l.invariant.1

pub loop-i-smaller : goal.loop-i-smaller
loop-i-smaller c = omega (arith, c.find_byte-e.ensures)

pub loop-i-preserved : goal.loop-i-preserved
loop-i-preserved c = let l = c.loop-i in let s = c.args.s.now in let f = c.find_byte-e in (omega arith, sym (regs-on s l.i f.result l.invariant.0 f.ensures c.if-e-s.false (sym (c.is_reg.ensures ∙ ap (λ (l : List ℕ). is_reg (reg_of l)) c.trim.ensures.0) ∙ c.if-not-is_reg.false)) ∙ l.invariant.1)
