use mathlib.Core.Path.{◌≡◌, sym, ◌∙◌}
use mathlib.Core.List.{List}
use Prim.Native.Nat.{ℕ}
use mathlib.Core.Bool.{Bool, true, false, cond}
use lib.ListN.{length}
use Rattle.lines.specs.Lf.{all}
use Rattle.names.specs.Names.{reg_of, is_ident, is_reg}
use Rattle.expr.specs.Pure.{is_word, starts_number, is_number_byte, wrapped, quoted_in, shape_of}
use Rattle.expr.specs.declared.kinds.Shape.{Shape}
use Rattle.expr.specs.declared.kinds.Shape.TheVariants.{Plain, Array}
use Rattle.expr.specs.declared.kinds.Purity.TheVariants.{Stable, Ident, Effectful}
use Rattle.expr.proofs.PureLaws.{empty, full}
use Rattle.expr.proofs.shape.Goals as goal

-- what is left of the choice from each test on

abbrev from-ident : List ℕ → Shape
from-ident t = cond (is_ident t) (Plain Ident) (Plain Effectful)

abbrev from-array : List ℕ → Shape
from-array t = cond (wrapped 91 93 t) Array (from-ident t)

abbrev from-quote : Bool → List ℕ → Shape
from-quote strict t = cond (quoted_in strict t) (Plain Stable) (from-array t)

abbrev in-number : List ℕ → Shape
in-number t = cond (all is_number_byte t) (Plain Stable) (Plain Effectful)

abbrev from-number : Bool → List ℕ → Shape
from-number strict t = cond (starts_number t) (in-number t) (from-quote strict t)

abbrev from-word : Bool → List ℕ → Shape
from-word strict t = cond (is_word t) (Plain Stable) (from-number strict t)

abbrev from-reg : Bool → List ℕ → Shape
from-reg strict t = cond (is_reg (reg_of t)) (Plain Stable) (from-word strict t)

-- what is known past each test

no-empty : (strict : Bool) (t : List ℕ) → (length t ≡ 0 → ⊥) → shape_of (quoted_in strict) t ≡ from-reg strict t
unfolding shape_of
no-empty strict t h = rw (full t h)

no-reg : (strict : Bool) (t : List ℕ) → (length t ≡ 0 → ⊥) → is_reg (reg_of t) ≡ false → shape_of (quoted_in strict) t ≡ from-word strict t
no-reg strict t h r = no-empty strict t h ∙ rw r

no_word : (strict : Bool) (t : List ℕ) → (length t ≡ 0 → ⊥) → is_reg (reg_of t) ≡ false → is_word t ≡ false → shape_of (quoted_in strict) t ≡ from-number strict t
no_word strict t h r w = no-reg strict t h r ∙ rw w

number : (strict : Bool) (t : List ℕ) → (length t ≡ 0 → ⊥) → is_reg (reg_of t) ≡ false → is_word t ≡ false → starts_number t ≡ true → shape_of (quoted_in strict) t ≡ in-number t
number strict t h r w n = no_word strict t h r w ∙ rw n

no_number : (strict : Bool) (t : List ℕ) → (length t ≡ 0 → ⊥) → is_reg (reg_of t) ≡ false → is_word t ≡ false → starts_number t ≡ false → shape_of (quoted_in strict) t ≡ from-quote strict t
no_number strict t h r w n = no_word strict t h r w ∙ rw n

no-quote : (strict : Bool) (t : List ℕ) → (length t ≡ 0 → ⊥) → is_reg (reg_of t) ≡ false → is_word t ≡ false → starts_number t ≡ false → quoted_in strict t ≡ false → shape_of (quoted_in strict) t ≡ from-array t
no-quote strict t h r w n q = no_number strict t h r w n ∙ rw q

no-array : (strict : Bool) (t : List ℕ) → (length t ≡ 0 → ⊥) → is_reg (reg_of t) ≡ false → is_word t ≡ false → starts_number t ≡ false → quoted_in strict t ≡ false → wrapped 91 93 t ≡ false → shape_of (quoted_in strict) t ≡ from-ident t
no-array strict t h r w n q v = no-quote strict t h r w n q ∙ rw v

pub returns-then-t-eq0 : goal.returns-then-t-eq0
unfolding shape_of
returns-then-t-eq0 c = rw (empty c.args.t.now c.if-t-eq0.true)

pub returns-then-is_register : goal.returns-then-is_register
returns-then-is_register c = sym (no-empty c.args.strict c.args.t.now c.if-t-eq0.false ∙ rw (sym c.is_register.ensures ∙ c.if-is_register.true))

pub returns-then-is_word : goal.returns-then-is_word
returns-then-is_word c = sym (no-reg c.args.strict c.args.t.now c.if-t-eq0.false (sym c.is_register.ensures ∙ c.if-is_register.false) ∙ rw (sym c.is_word.ensures ∙ c.if-is_word.true))

pub returns-then-all_number : goal.returns-then-all_number
returns-then-all_number c = sym (number c.args.strict c.args.t.now c.if-t-eq0.false (sym c.is_register.ensures ∙ c.if-is_register.false) (sym c.is_word.ensures ∙ c.if-is_word.false) (sym c.starts_number.ensures ∙ c.if-starts_number.true) ∙ rw (sym c.all_number.ensures ∙ c.if-all_number.true))

pub returns-then-starts_number : goal.returns-then-starts_number
returns-then-starts_number c = sym (number c.args.strict c.args.t.now c.if-t-eq0.false (sym c.is_register.ensures ∙ c.if-is_register.false) (sym c.is_word.ensures ∙ c.if-is_word.false) (sym c.starts_number.ensures ∙ c.if-starts_number.true) ∙ rw (sym c.all_number.ensures ∙ c.if-all_number.false))

pub returns-then-is_quoted : goal.returns-then-is_quoted
returns-then-is_quoted c = sym (no_number c.args.strict c.args.t.now c.if-t-eq0.false (sym c.is_register.ensures ∙ c.if-is_register.false) (sym c.is_word.ensures ∙ c.if-is_word.false) (sym c.starts_number.ensures ∙ c.if-starts_number.false) ∙ rw (sym c.is_quoted.ensures ∙ c.if-is_quoted.true))

pub returns-then-wrapped : goal.returns-then-wrapped
returns-then-wrapped c = sym (no-quote c.args.strict c.args.t.now c.if-t-eq0.false (sym c.is_register.ensures ∙ c.if-is_register.false) (sym c.is_word.ensures ∙ c.if-is_word.false) (sym c.starts_number.ensures ∙ c.if-starts_number.false) (sym c.is_quoted.ensures ∙ c.if-is_quoted.false) ∙ rw (sym c.wrapped.ensures ∙ c.if-wrapped.true))

pub returns-then-is_simple_ident : goal.returns-then-is_simple_ident
returns-then-is_simple_ident c = sym (no-array c.args.strict c.args.t.now c.if-t-eq0.false (sym c.is_register.ensures ∙ c.if-is_register.false) (sym c.is_word.ensures ∙ c.if-is_word.false) (sym c.starts_number.ensures ∙ c.if-starts_number.false) (sym c.is_quoted.ensures ∙ c.if-is_quoted.false) (sym c.wrapped.ensures ∙ c.if-wrapped.false) ∙ rw (sym c.is_simple_ident.ensures ∙ c.if-is_simple_ident.true))

pub returns : goal.returns
returns c = sym (no-array c.args.strict c.args.t.now c.if-t-eq0.false (sym c.is_register.ensures ∙ c.if-is_register.false) (sym c.is_word.ensures ∙ c.if-is_word.false) (sym c.starts_number.ensures ∙ c.if-starts_number.false) (sym c.is_quoted.ensures ∙ c.if-is_quoted.false) (sym c.wrapped.ensures ∙ c.if-wrapped.false) ∙ rw (sym c.is_simple_ident.ensures ∙ c.if-is_simple_ident.false))
