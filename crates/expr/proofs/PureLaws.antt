-- Laws of purity: it is its rule with itself inside it, and cutting once is cutting at each level. Assumes nothing.
use Prim.Native.Nat.{ℕ, ◌+◌, ◌-◌, ◌≤◌, ◌<◌}
use mathlib.Core.Path.{◌≡◌, refl, ap}
use mathlib.Core.Bool.{Bool, true, false, cond, ◌&&◌}
use mathlib.Core.List.{List, [], ◌∷◌, ◌++◌}
use native.Mathlib.Omega.{arith}
use borrow.Author.Tests.{leb-true}
use lib.Dec.{eqb, leb}
use lib.ListN.{length, take, drop, length-take, length-append, take-append-drop}
use lib.Seq.{append_snoc}
use Rattle.lines.specs.Lf.{all, is_empty}
use Rattle.lines.proofs.Tests.{and_left}
use Rattle.names.specs.Names.{reg_of, is_ident, is_reg}
use Rattle.expr.specs.Inner.Comments.{no_comment}
use Rattle.expr.specs.Pure.{is_space, space_start, space_end, space_trim, is_word, starts_number, is_number_byte, wrapped, quoted_in, shape_of, inner, openings, closings, elements, is_pure, pure_by, judge, cut_in, cut_rule, purity_rule, purity_in}
use Rattle.expr.specs.Inner.Pure.{purity_cut}
use Rattle.expr.specs.declared.kinds.Shape.{Shape}
use Rattle.expr.specs.declared.kinds.Shape.TheVariants.{Plain, Array}
use Rattle.expr.specs.declared.kinds.Purity.{Purity}
use Rattle.expr.specs.declared.kinds.Purity.TheVariants.{Stable, Ident, Effectful}
use Rattle.expr.proofs.FixLaws.{fix-rule}
use Rattle.expr.proofs.CommentLaws.{bare-left, bare-right}
use Rattle.expr.proofs.QuoteLaws.{cut-length}
use Rattle.expr.proofs.SpaceLaws.{end_rest}

-- ---- what holds of each part of a text of which it holds

pub record Parts (P : List ℕ → Type 0) : Type 0 where
  pub left : (x y : List ℕ) → P (x ++ y) → P x
  pub right : (x y : List ℕ) → P (x ++ y) → P y

pub long-parts : (n : ℕ) → Parts (λ (s : List ℕ). length s ≤ n)
long-parts n = record {
  left = λ x y h. omega (arith, length-append x y);
  right = λ x y h. omega (arith, length-append x y);
}

pub bare_parts : Parts (λ (s : List ℕ). no_comment s ≡ true)
bare_parts = record { left = bare-left; right = bare-right }

module _ {P : List ℕ → Type 0} (p : Parts P) where
  pub part-take : (n : ℕ) (s : List ℕ) → P s → P (take n s)
  part-take n s h = p.left (take n s) (drop n s) (rw (take-append-drop n s) h)

  pub part-drop : (n : ℕ) (s : List ℕ) → P s → P (drop n s)
  part-drop n s h = p.right (take n s) (drop n s) (rw (take-append-drop n s) h)

  part-start : (s : List ℕ) → P s → P (space_start s)
  unfolding space_start
  part-start [] h = h
  part-start (a ∷ s) h = go (is_space a) (part-start s (p.right (a ∷ []) s h))
    where
      go : (t : Bool) → P (space_start s) → P (cond t (space_start s) (a ∷ s))
      go true k = k
      go false k = h

  part_end : (s : List ℕ) → P s → P (space_end s)
  part_end s h = let r = end_rest s in p.left (space_end s) r.0 (rw (← r.1) h)

  pub part-trim : (s : List ℕ) → P s → P (space_trim s)
  unfolding space_trim
  part-trim s h = part_end (space_start s) (part-start s h)

  pub part-inner : (t : List ℕ) → P t → P (inner t)
  part-inner t h = part-take (length t - 1 - 1) (drop 1 t) (part-drop 1 t h)

  -- two tests that agree on such texts agree on the elements of such an array
  module _ (f g : List ℕ → Bool) (same : (e : List ℕ) → P e → f e ≡ g e) where
    cond_same : (b : Bool) (x y : List (List ℕ)) → all f x ≡ all g x → all f y ≡ all g y → all f (cond b x y) ≡ all g (cond b x y)
    cond_same true x y h k = h
    cond_same false x y h k = k

    elements_same : (s now : List ℕ) (o c : ℕ) → P (now ++ s) → all f (elements s now o c) ≡ all g (elements s now o c)
    unfolding elements
    elements_same [] now o c h = cond_same (all is_space now) [] (now ∷ []) refl (rw (same now (p.left now [] h)))
    elements_same (a ∷ s) now o c h =
        let k = elements_same s [] o c (p.right (a ∷ []) s (p.right now (a ∷ s) h)) in
        let q = elements_same s (now ++ (a ∷ [])) (o + openings a) (c + closings a) (rw (append_snoc now a s) h) in
        cond_same (eqb a 44 && eqb o c) (now ∷ elements s [] o c) (elements s (now ++ (a ∷ [])) (o + openings a) (c + closings a))
        (rw (same now (p.left now (a ∷ s) h), k)) q

  pub pure-same : (f g : List ℕ → Purity) → ((e : List ℕ) → P e → f e ≡ g e) → (s : List ℕ) → P s → pure_by f s ≡ pure_by g s
  unfolding pure_by
  pure-same f g same s h = elements_same (λ e. is_pure (f e)) (λ e. is_pure (g e)) (λ e k. ap is_pure (same e k)) s [] 0 0 h

-- ---- lengths

pub trim-le : (s : List ℕ) → length (space_trim s) ≤ length s
trim-le s = part-trim (long-parts (length s)) s (omega arith)

inner-le : (t : List ℕ) → length (inner t) ≤ length t - 2
inner-le t = simp length-take (omega arith)

wrapped-long : (x y : ℕ) (t : List ℕ) → wrapped x y t ≡ true → 2 ≤ length t
unfolding wrapped
wrapped-long x y t h = leb-true 2 (length t) (and_left (leb 2 (length t)) _ h)

-- what comes out at the array's place came by the array's test
array-by : (e r w n m q b i : Bool) →
    cond e (Plain Effectful) (cond r (Plain Stable) (cond w (Plain Stable) (cond n (cond m (Plain Stable) (Plain Effectful))
    (cond q (Plain Stable) (cond b Array (cond i (Plain Ident) (Plain Effectful))))))) ≡ Array → b ≡ true
array-by true r w n m q b i h = cc
array-by false true w n m q b i h = cc
array-by false false true n m q b i h = cc
array-by false false false true true q b i h = cc
array-by false false false true false q b i h = cc
array-by false false false false m true b i h = cc
array-by false false false false m false true i h = refl
array-by false false false false m false false true h = cc
array-by false false false false m false false false h = cc

pub array-wrapped : (q : List ℕ → Bool) (t : List ℕ) → shape_of q t ≡ Array → wrapped 91 93 t ≡ true
unfolding shape_of
array-wrapped q t h = array-by (is_empty t) (is_reg (reg_of t)) (is_word t) (starts_number t) (all is_number_byte t) (q t) (wrapped 91 93 t) (is_ident t) h

pub array_long : (q : List ℕ → Bool) (t : List ℕ) → shape_of q t ≡ Array → 2 ≤ length t
array_long q t h = wrapped-long 91 93 t (array-wrapped q t h)

pub empty : (t : List ℕ) → length t ≡ 0 → is_empty t ≡ true
empty [] h = refl
empty (a ∷ t) h = absurd (omega arith)

pub full : (t : List ℕ) → (length t ≡ 0 → ⊥) → is_empty t ≡ false
full [] h = absurd (h refl)
full (a ∷ t) h = refl

-- ---- the rule asks for shorter texts alone, so purity is the rule with itself inside it

pub judge-same : (f g : List ℕ → Purity) (t : List ℕ) (k : Shape) → (k ≡ Array → pure_by f (inner t) ≡ pure_by g (inner t)) → judge f t k ≡ judge g t k
unfolding judge
judge-same f g t (Plain p) h = refl
judge-same f g t Array h = rw (h refl)

shorter : (q : List ℕ → Bool) (f g : List ℕ → Purity) (s : List ℕ) → ((e : List ℕ) → length e < length s → f e ≡ g e) → cut_rule q f s ≡ cut_rule q g s
shorter q f g s same =
    let t = space_trim s in
    judge-same f g t (shape_of q t) (λ k.
    pure-same (long-parts (length (inner t))) f g
    (λ e h. same e (omega (arith, inner-le t, array_long q t k, trim-le s)))
    (inner t) (omega arith))

pub purity-eq : (strict : Bool) (s : List ℕ) → purity_in strict s ≡ judge (purity_in strict) (space_trim (cut_in strict s)) (shape_of (quoted_in strict) (space_trim (cut_in strict s)))
unfolding purity_in
purity-eq strict s =
    fix-rule (purity_rule strict) Effectful length (λ f g t same. shorter (quoted_in strict) f g (cut_in strict t) (λ e h. same e (omega (arith, cut-length strict t)))) s

pub cut-eq : (q : List ℕ → Bool) (s : List ℕ) → purity_cut q s ≡ judge (purity_cut q) (space_trim s) (shape_of q (space_trim s))
unfolding purity_cut
cut-eq q s = fix-rule (cut_rule q) Effectful length (shorter q) s
