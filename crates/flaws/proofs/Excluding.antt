-- The flaws exclude one another, so that the order of the tests never decides; and where a well-formed sequence begins there is none. Assumes nothing.
use Prim.Native.Nat.{ℕ, suc}
use mathlib.Core.Path.{◌≡◌, refl, sym, ◌∙◌}
use mathlib.Core.Bool.{Bool, true, false, ◌&&◌, ◌||◌}
use mathlib.Core.List.{List, [], ◌∷◌}
use native.Mathlib.Omega.{arith}
use Rattle.lines.proofs.Tests.{no, and_left, and_right}
use Rattle.text.specs.Utf8Form.{begins, grammar, seq_len}
use Rattle.flaws.specs.Flaws.{overlongs, outsides, any_begins, is_cut}
use Rattle.flaws.proofs.Cutting.{none-long, cut-none, cut-over, cut-outside, cut_inside}
use Rattle.flaws.proofs.Completing.{differ_one, differ-none}

abbrev differ_all : List (List (ℕ × ℕ)) → List (List (ℕ × ℕ)) → Bool
differ_all [] hs = true
differ_all (g ∷ gs) hs = differ_one g hs && differ_all gs hs

-- no list begins as a row of each
differ-all : (gs hs : List (List (ℕ × ℕ))) (l : List ℕ) → differ_all gs hs ≡ true → any_begins gs l ≡ true → any_begins hs l ≡ false
differ-all [] hs l d b = no b
differ-all (g ∷ gs) hs l d b = go (begins g l) refl b (differ-all gs hs l (and_right (differ_one g hs) (differ_all gs hs) d))
  where
    go : (t : Bool) → begins g l ≡ t → (t || any_begins gs l) ≡ true → (any_begins gs l ≡ true → any_begins hs l ≡ false) → any_begins hs l ≡ false
    go true e k f = differ-none g hs l (and_left (differ_one g hs) (differ_all gs hs) d) e
    go false e k f = f k

-- one test excludes another if that excludes it
turned : (a b : Bool) → (a ≡ true → b ≡ false) → b ≡ true → a ≡ false
turned true b f h = no (sym (f refl) ∙ h)
turned false b f h = refl

pub record Excluded (l : List ℕ) : Type 0 where
  pub over-outside : any_begins overlongs l ≡ true → any_begins outsides l ≡ false
  pub over-cut : any_begins overlongs l ≡ true → is_cut l ≡ false
  pub outside-cut : any_begins outsides l ≡ true → is_cut l ≡ false

-- the three tests exclude one another, and the fourth case is that none holds
pub excluded : (l : List ℕ) → Excluded l
excluded l = record {
  over-outside = differ-all overlongs outsides l refl;
  over-cut = turned (is_cut l) (any_begins overlongs l) (λ h. cut-over l (cut_inside l h));
  outside-cut = turned (is_cut l) (any_begins outsides l) (λ h. cut-outside l (cut_inside l h));
}

pub record Unflawed (l : List ℕ) : Type 0 where
  pub not-over : any_begins overlongs l ≡ false
  pub not-outside : any_begins outsides l ≡ false
  pub not-cut : is_cut l ≡ false

begins-some : (l : List ℕ) (n : ℕ) → seq_len l ≡ suc n → any_begins grammar l ≡ true
unfolding seq_len
begins-some l n e = go (any_begins grammar l) (none-long grammar l)
  where
    go : (b : Bool) → (b ≡ false → seq_len l ≡ 0) → b ≡ true
    go true f = refl
    go false f = let z = f refl in absurd (omega (arith, z, e))

-- where a well-formed sequence begins none of the three holds
pub unflawed : (l : List ℕ) (n : ℕ) → seq_len l ≡ suc n → Unflawed l
unflawed l n e =
    let b = begins-some l n e in
    record {
      not-over = differ-all grammar overlongs l refl b;
      not-outside = differ-all grammar outsides l refl b;
      not-cut = go (is_cut l) (λ h. cut-none l (cut_inside l h));
    }
  where
    go : (b : Bool) → (b ≡ true → seq_len l ≡ 0) → b ≡ false
    go true f = let z = f refl in absurd (omega (arith, z, e))
    go false f = refl
