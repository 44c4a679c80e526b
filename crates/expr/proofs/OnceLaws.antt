-- Comments are cut at each level of a value, and once does the same: in plain mode and in strict. Assumes nothing.
use Prim.Native.Nat.{ℕ, zero, suc}
use mathlib.Core.Path.{◌≡◌, refl, sym, ap, ◌∙◌}
use mathlib.Core.Bool.{Bool, true, false, cond}
use mathlib.Core.List.{List, []}
use lib.ListN.{length}
use Rattle.lines.specs.Lf.{is_empty}
use Rattle.expr.specs.Fix.{deep, fix}
use Rattle.expr.specs.Quotes.{is_closed}
use Rattle.expr.specs.Inner.Comments.{no_comment}
use Rattle.expr.specs.Pure.{space_trim, starts_number, wrapped, is_quoted, quoted_in, shape_of, inner, is_pure, pure_by, judge, cut_in, cut_rule, purity_rule, purity_in}
use Rattle.expr.specs.Inner.Pure.{purity_cut}
use Rattle.expr.specs.declared.kinds.Shape.{Shape}
use Rattle.expr.specs.declared.kinds.Shape.TheVariants.{Plain, Array}
use Rattle.expr.specs.declared.kinds.Purity.{Purity}
use Rattle.expr.specs.declared.kinds.Purity.TheVariants.{Effectful}
use Rattle.expr.proofs.CommentLaws.{cut-bare, bare-strip, cut-once}
use Rattle.expr.proofs.PureLaws.{bare_parts, part-trim, part-inner, pure-same, judge-same, array-wrapped, purity-eq}
use Rattle.expr.proofs.TidyLaws.{tidy, outside, whole, tidy-strip, strip-tidy, trim-tidy, trim-open, inner-tidy, inner-open, elements-open, elements-agree, no-shape}

-- ---- plain

deep-plain : (n : ℕ) (s : List ℕ) → no_comment s ≡ true → deep (purity_rule false) Effectful n s ≡ deep (cut_rule is_quoted) Effectful n s
unfolding deep
deep-plain zero s h = refl
deep-plain (suc n) s h =
    let t = space_trim s in
    ap (cut_rule is_quoted (deep (purity_rule false) Effectful n)) (bare-strip s h)
    ∙ judge-same (deep (purity_rule false) Effectful n) (deep (cut_rule is_quoted) Effectful n) t (shape_of is_quoted t) (λ k.
    pure-same bare_parts (deep (purity_rule false) Effectful n) (deep (cut_rule is_quoted) Effectful n) (λ e b. deep-plain n e b) (inner t)
    (part-inner bare_parts t (part-trim bare_parts s h)))

-- ---- strict

-- judged by its elements a tidy text that ends inside quotes is not pure, where its elements that do so are not
cut-open : (f : List ℕ → Purity) → ((e : List ℕ) → tidy outside e ≡ true → whole e ≡ false → is_pure (f e) ≡ false) →
    (s : List ℕ) → tidy outside s ≡ true → whole s ≡ false → is_pure (cut_rule is_closed f s) ≡ false
unfolding judge pure_by
cut-open f fails s h g = ap (λ (k : Shape). is_pure (judge f t k)) (no-shape t opened) ∙ go (is_empty t) (starts_number t) (wrapped 91 93 t) refl
  where
    t : List ℕ
    t = space_trim s

    opened : whole t ≡ false
    opened = trim-open s g

    array : wrapped 91 93 t ≡ true → pure_by f (inner t) ≡ false
    array w = elements-open (λ (e : List ℕ). is_pure (f e)) fails (inner t) [] 0 0 (inner-tidy t w (trim-tidy s h)) (inner-open t w opened)

    go : (a n w : Bool) → wrapped 91 93 t ≡ w → is_pure (judge f t (cond a (Plain Effectful) (cond n (Plain Effectful) (cond w Array (Plain Effectful))))) ≡ false
    go true n w e = refl
    go false true w e = refl
    go false false false e = refl
    go false false true e = rw (array e)

-- the rule with itself inside it, n deep: with or without a cut at each level
module _ (rule : (List ℕ → Purity) → List ℕ → Purity) (cuts : (f : List ℕ → Purity) (s : List ℕ) → tidy outside s ≡ true → rule f s ≡ cut_rule is_closed f s) where
  deep-open : (n : ℕ) (s : List ℕ) → tidy outside s ≡ true → whole s ≡ false → is_pure (deep rule Effectful n s) ≡ false
  unfolding deep
  deep-open zero s h g = refl
  deep-open (suc n) s h g = ap is_pure (cuts (deep rule Effectful n) s h) ∙ cut-open (deep rule Effectful n) (deep-open n) s h g

anew : (f : List ℕ → Purity) (s : List ℕ) → tidy outside s ≡ true → purity_rule true f s ≡ cut_rule is_closed f s
anew f s h = ap (cut_rule is_closed f) (tidy-strip s h)

deep-strict : (n : ℕ) (s : List ℕ) → tidy outside s ≡ true → deep (purity_rule true) Effectful n s ≡ deep (cut_rule is_closed) Effectful n s
unfolding deep pure_by
deep-strict zero s h = refl
deep-strict (suc n) s h =
    let t = space_trim s in
    let f = deep (purity_rule true) Effectful n in
    let g = deep (cut_rule is_closed) Effectful n in
    anew f s h
    ∙ judge-same f g t (shape_of is_closed t) (λ k.
    elements-agree (λ (e : List ℕ). is_pure (f e)) (deep-open (purity_rule true) anew n)
    (λ (e : List ℕ). is_pure (g e)) (deep-open (cut_rule is_closed) (λ f s h. refl) n)
    (λ e b. ap is_pure (deep-strict n e b)) (inner t) [] 0 0
    (inner-tidy t (array-wrapped is_closed t k) (trim-tidy s h)))

-- ---- by the mode

-- what is cut has nothing more to cut, and its purity is that of a text cut already
cut_again : (strict : Bool) (s : List ℕ) → cut_in strict (cut_in strict s) ≡ cut_in strict s
cut_again false s = cut-once s
cut_again true s = tidy-strip (cut_in true s) (strip-tidy s)

cut-purity : (strict : Bool) (s : List ℕ) → purity_in strict (cut_in strict s) ≡ purity_cut (quoted_in strict) (cut_in strict s)
unfolding purity_in purity_cut fix
cut-purity false s = deep-plain (suc (length (cut_in false s))) (cut_in false s) (cut-bare s)
cut-purity true s = deep-strict (suc (length (cut_in true s))) (cut_in true s) (strip-tidy s)

-- the purity by the rules, which cut at each level, is that of the text cut once
pub purity-once : (strict : Bool) (s : List ℕ) → purity_in strict s ≡ purity_cut (quoted_in strict) (cut_in strict s)
purity-once strict s =
    purity-eq strict s ∙ sym (purity-eq strict (cut_in strict s) ∙ ap (cut_rule (quoted_in strict) (purity_in strict)) (cut_again strict s))
    ∙ cut-purity strict s
