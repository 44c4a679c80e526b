-- Request 7: the lines behind an output line. Assumes nothing.
use Prim.Native.Nat.{ℕ, zero, suc, ◌+◌, ◌≤◌, ◌<◌}
use mathlib.Core.Path.{◌≡◌, refl, sym, ap, ◌∙◌}
use mathlib.Core.Bool.{Bool, true, false, cond}
use mathlib.Core.List.{List, [], ◌∷◌}
use native.Mathlib.Omega.{arith}
use native.Mathlib.Nat.{le_refl, le-suc, le_trans}
use borrow.Author.Tests.{eq-eqb, ne_eqb, eqb-true, ltb-true}
use lib.Dec.{eqb, leb}
use lib.ListN.{get_or}
use Rattle.lines.specs.Lf.{among}
use Rattle.lines.proofs.Tests.{and_left, and_right}
use Rattle.origins.specs.declared.Went.{Went}
use Rattle.origins.specs.declared.Went.TheVariants.{Equal, Changed, Inside, Away}
use Rattle.origins.specs.Form.{Shape, gone_of}
use Rattle.origins.specs.Answers.{is_in, behind_from, behind, fits_out, fits, fits_from}

-- ---- each stands once, in order

pub data Ascending : ℕ → List ℕ → Type 0 where
  done : {i : ℕ} → Ascending i []
  next : {i n : ℕ} {ns : List ℕ} → i ≤ n → Ascending (suc n) ns → Ascending i (n ∷ ns)

later : {i j : ℕ} {ns : List ℕ} → i ≤ j → Ascending j ns → Ascending i ns
later q done = done
later q (next k h) = next (le_trans q k) h

pub behind-ascending : (n i : ℕ) (ws : List Went) → Ascending i (behind_from n i ws)
unfolding behind_from
behind-ascending n i [] = done
behind-ascending n i (w ∷ ws) = go (is_in n w) (behind-ascending n (suc i) ws)
  where
    go : (b : Bool) → Ascending (suc i) (behind_from n (suc i) ws) → Ascending i (cond b (i ∷ behind_from n (suc i) ws) (behind_from n (suc i) ws))
    go true h = next (le_refl i) h
    go false h = later (le-suc i) h

-- the number that stands for gone has no lines
gone-none : (F : Shape) (w : Went) → fits_out F w ≡ true → is_in (gone_of F) w ≡ false
gone-none F (Equal n) h = ne_eqb n (gone_of F) (omega (arith, ltb-true n (gone_of F) h))
gone-none F (Changed n) h = ne_eqb n (gone_of F) (omega (arith, ltb-true n (gone_of F) h))
gone-none F (Inside n) h = ne_eqb n (gone_of F) (omega (arith, ltb-true n (gone_of F) h))
gone-none F Away h = refl

pub behind-gone : (F : Shape) (i : ℕ) (ws : List Went) → fits_from F i ws ≡ true → behind_from (gone_of F) i ws ≡ []
unfolding behind_from fits_from
behind-gone F i [] h = refl
behind-gone F i (w ∷ ws) h =
    rw (gone-none F w (and_right (leb i (gone_of F)) (fits_out F w) (and_left (fits F i w) (fits_from F (suc i) ws) h)))
    (behind-gone F (suc i) ws (and_right (fits F i w) (fits_from F (suc i) ws) h))

-- ---- which lines they are

none_above : (n i k : ℕ) (ws : List Went) → k < i → among (behind_from n i ws) k ≡ false
unfolding behind_from
none_above n i k [] h = refl
none_above n i k (w ∷ ws) h = go (is_in n w) (none_above n (suc i) k ws (omega arith))
  where
    go : (b : Bool) → among (behind_from n (suc i) ws) k ≡ false → among (cond b (i ∷ behind_from n (suc i) ws) (behind_from n (suc i) ws)) k ≡ false
    go true q = rw (ne_eqb k i (omega arith), q)
    go false q = q

first-behind : (n i k : ℕ) (ws : List Went) → k ≡ i → (b : Bool) → among (cond b (i ∷ behind_from n (suc i) ws) (behind_from n (suc i) ws)) k ≡ b
first-behind n i k ws q true = rw (eq-eqb k i q)
first-behind n i k ws q false = none_above n (suc i) k ws (omega arith)

later-behind : (n i k : ℕ) (ws : List Went) → i < k → (b : Bool) → among (cond b (i ∷ behind_from n (suc i) ws) (behind_from n (suc i) ws)) k ≡ among (behind_from n (suc i) ws) k
later-behind n i k ws q true = rw (ne_eqb k i (omega arith))
later-behind n i k ws q false = refl

from-says : (n i k : ℕ) (ws : List Went) → among (behind_from n i ws) (i + k) ≡ is_in n (get_or ws k Away)
unfolding behind_from
from-says n i k [] = refl
from-says n i zero (w ∷ ws) = first-behind n i (i + 0) ws (omega arith) (is_in n w)
from-says n i (suc k) (w ∷ ws) =
    let q : i + suc k ≡ suc i + k = omega arith in
    later-behind n i (i + suc k) ws (omega arith) (is_in n w)
    ∙ ap (among (behind_from n (suc i) ws)) q
    ∙ from-says n (suc i) k ws

-- A line is behind output line n exactly if its record says so
pub behind-says : (n k : ℕ) (ws : List Went) → among (behind n ws) k ≡ is_in n (get_or ws k Away)
unfolding behind
behind-says n k ws = let q : k ≡ 0 + k = omega arith in ap (among (behind_from n 0 ws)) q ∙ from-says n 0 k ws

-- the output line of a record
pub record Behind (ws : List Went) (k : ℕ) : Type 0 where
  pub line : ℕ
  pub stands : among (behind line ws) k ≡ true
  pub only : (n : ℕ) → among (behind n ws) k ≡ true → n ≡ line

-- Every line that is not gone is behind exactly one output line
pub behind-one : (ws : List Went) (k : ℕ) → (get_or ws k Away ≡ Away → ⊥) → Behind ws k
behind-one ws k h = go (get_or ws k Away) refl
  where
    at : (l : ℕ) → (w : Went) → get_or ws k Away ≡ w → ((n : ℕ) → is_in n w ≡ eqb l n) → Behind ws k
    at l w e q = record {
      line = l;
      stands = behind-says l k ws ∙ ap (is_in l) e ∙ q l ∙ eq-eqb l l refl;
      only = λ (n : ℕ) b. sym (eqb-true l n (sym (q n) ∙ sym (ap (is_in n) e) ∙ sym (behind-says n k ws) ∙ b));
    }

    go : (w : Went) → get_or ws k Away ≡ w → Behind ws k
    go (Equal l) e = at l (Equal l) e (λ (n : ℕ). refl)
    go (Changed l) e = at l (Changed l) e (λ (n : ℕ). refl)
    go (Inside l) e = at l (Inside l) e (λ (n : ℕ). refl)
    go Away e = absurd (h e)

-- A line that is gone is behind none
pub behind-none : (ws : List Went) (k n : ℕ) → get_or ws k Away ≡ Away → among (behind n ws) k ≡ false
behind-none ws k n h = behind-says n k ws ∙ ap (is_in n) h
