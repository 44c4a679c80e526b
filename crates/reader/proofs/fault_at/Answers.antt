use Prim.Native.Nat.{ℕ}
use mathlib.Core.Path.{◌∙◌, sym, ap}
use mathlib.Core.Bool.{true, false}
use native.Mathlib.Omega.{arith}
use borrow.Author.Tests.{eq-eqb, ne_eqb}
use Rattle.origins.specs.Form.{form_shape}
use Rattle.reader.specs.Inner.Walk.{flaw}
use Rattle.reader.proofs.Laws.{fault-cut, fault-first, fault-second, fault-line, fault-fate, fault-gone, fault-kept}
use Rattle.reader.proofs.fault_at.Goals as goal

pub returns-then-s-o : goal.returns-then-s-o
returns-then-s-o c = ap (λ (k : ℕ). flaw k c.args.i) (fault-cut (form_shape c.args.f) c.args.i c.args.s.now c.args.o (omega (arith, c.size_of-z.ensures, c.if-s-o.true)))

pub bounds-s-o : goal.bounds-s-o
bounds-s-o c = omega (arith, c.size_of-z.ensures, c.if-s-o.false)

pub returns-then-s-o-ne-MARK : goal.returns-then-s-o-ne-MARK
returns-then-s-o-ne-MARK c = ap (λ (k : ℕ). flaw k c.args.i) (fault-first (form_shape c.args.f) c.args.i c.args.s.now c.args.o (omega (arith, c.size_of-z.ensures, c.if-s-o.false)) c.if-s-o-ne-MARK.true)

pub bounds-s-o-2 : goal.bounds-s-o-2
bounds-s-o-2 c = omega (arith, c.size_of-z.ensures, c.if-s-o.false)

pub returns-then-s-o-2 : goal.returns-then-s-o-2
returns-then-s-o-2 c = ap (λ (k : ℕ). flaw k c.args.i) (fault-second (form_shape c.args.f) c.args.i c.args.s.now c.args.o (omega (arith, c.size_of-z.ensures, c.if-s-o.false)) c.if-s-o-ne-MARK.false (λ q. c.if-s-o-2.true (q ∙ sym c.letter_of-l.ensures)))

pub line_at-j-requires : goal.line_at-j-requires
line_at-j-requires c = omega (arith, c.size_of-z.ensures, c.if-s-o.false)

pub returns-then-j-i : goal.returns-then-j-i
returns-then-j-i c = ap (λ (k : ℕ). flaw k c.args.i) (fault-line (form_shape c.args.f) c.args.i c.args.s.now c.args.o (omega (arith, c.size_of-z.ensures, c.if-s-o.false)) c.if-s-o-ne-MARK.false (c.if-s-o-2.false ∙ c.letter_of-l.ensures) (λ q. c.if-j-i.true (c.line_at-j.ensures ∙ q)))

pub fate_at-k-requires : goal.fate_at-k-requires
fate_at-k-requires c = omega (arith, c.size_of-z.ensures, c.if-s-o.false)

pub returns-then-k-gt-GONE : goal.returns-then-k-gt-GONE
returns-then-k-gt-GONE c = ap (λ (k : ℕ). flaw k c.args.i) (fault-fate (form_shape c.args.f) c.args.i c.args.s.now c.args.o (omega (arith, c.size_of-z.ensures, c.if-s-o.false)) c.if-s-o-ne-MARK.false (c.if-s-o-2.false ∙ c.letter_of-l.ensures) (sym c.line_at-j.ensures ∙ c.if-j-i.false) (omega (arith, c.if-k-gt-GONE.true, c.fate_at-k.ensures)))

pub out_at-n-requires : goal.out_at-n-requires
out_at-n-requires c = omega (arith, c.size_of-z.ensures, c.if-s-o.false)

pub returns-then-n-g : goal.returns-then-n-g
returns-then-n-g c = ap (λ (k : ℕ). flaw k c.args.i) (fault-gone (form_shape c.args.f) c.args.i c.args.s.now c.args.o (omega (arith, c.size_of-z.ensures, c.if-s-o.false)) c.if-s-o-ne-MARK.false (c.if-s-o-2.false ∙ c.letter_of-l.ensures) (sym c.line_at-j.ensures ∙ c.if-j-i.false) (sym c.fate_at-k.ensures ∙ c.if-k-eq-GONE.true) true (eq-eqb _ _ (sym c.out_at-n.ensures ∙ c.if-n-g.true ∙ c.gone_of-g.ensures)))

pub returns-then-k-eq-GONE : goal.returns-then-k-eq-GONE
returns-then-k-eq-GONE c = ap (λ (k : ℕ). flaw k c.args.i) (fault-gone (form_shape c.args.f) c.args.i c.args.s.now c.args.o (omega (arith, c.size_of-z.ensures, c.if-s-o.false)) c.if-s-o-ne-MARK.false (c.if-s-o-2.false ∙ c.letter_of-l.ensures) (sym c.line_at-j.ensures ∙ c.if-j-i.false) (sym c.fate_at-k.ensures ∙ c.if-k-eq-GONE.true) false (ne_eqb _ _ (λ q. c.if-n-g.false (c.out_at-n.ensures ∙ q ∙ sym c.gone_of-g.ensures))))

pub returns-then-n-g-2 : goal.returns-then-n-g-2
returns-then-n-g-2 c = ap (λ (k : ℕ). flaw k c.args.i) (fault-kept (form_shape c.args.f) c.args.i c.args.s.now c.args.o (omega (arith, c.size_of-z.ensures, c.if-s-o.false)) c.if-s-o-ne-MARK.false (c.if-s-o-2.false ∙ c.letter_of-l.ensures) (sym c.line_at-j.ensures ∙ c.if-j-i.false) (omega (arith, c.if-k-gt-GONE.false, c.fate_at-k.ensures)) (λ q. c.if-k-eq-GONE.false (c.fate_at-k.ensures ∙ q)) true (eq-eqb _ _ (sym c.out_at-n.ensures ∙ c.if-n-g-2.true ∙ c.gone_of-g.ensures)))

pub returns : goal.returns
returns c = ap (λ (k : ℕ). flaw k c.args.i) (fault-kept (form_shape c.args.f) c.args.i c.args.s.now c.args.o (omega (arith, c.size_of-z.ensures, c.if-s-o.false)) c.if-s-o-ne-MARK.false (c.if-s-o-2.false ∙ c.letter_of-l.ensures) (sym c.line_at-j.ensures ∙ c.if-j-i.false) (omega (arith, c.if-k-gt-GONE.false, c.fate_at-k.ensures)) (λ q. c.if-k-eq-GONE.false (c.fate_at-k.ensures ∙ q)) false (ne_eqb _ _ (λ q. c.if-n-g-2.false (c.out_at-n.ensures ∙ q ∙ sym c.gone_of-g.ensures))))
