-- Numbers as they are printed. Assumes nothing.
use Prim.Native.Nat.{ℕ, zero, suc, ◌+◌, ◌-◌, ◌*◌, ◌/◌, ◌%◌, ◌^◌, ◌≤◌, ◌<◌}
use mathlib.Core.Path.{◌≡◌, refl, sym, ap, ◌∙◌}
use mathlib.Core.Bool.{Bool, true, false, cond}
use mathlib.Core.List.{List, [], ◌∷◌, ◌++◌, append_assoc, append-nil}
use native.Mathlib.Nat.{mul-le-mul_right, pow-suc}
use native.Mathlib.Omega.{arith}
use borrow.Author.Tests.{lt-ltb, le-ltb, ltb-true, ltb-false, leb-true, eqb-true, eqb-false, eq-eqb, ne_eqb}
use lib.Dec.{ltb, leb, eqb}
use lib.ListN.{length, drop, get_or, length-append, get_or-append}
use Rattle.lines.specs.Lf.{same}
use Rattle.lines.proofs.Tests.{is-in, and_left, and_right, and_both}
use Rattle.std.specs.declared.option.Option.{Option}
use Rattle.std.specs.declared.option.Option.TheVariants.{Some, None}
use Rattle.names.specs.Names.{is_digit, all_digits, value, read_number, decimal_by, decimal}
use Rattle.names.specs.Inner.Names.{zeros}
use Rattle.names.proofs.Digits.{all_append, value-append, number-is, number_read, strip-zeros, strip-number}
use Rattle.lines.proofs.Compare.{same_refl}
use Rattle.names.proofs.Equal.{same_not}

-- ---- what is printed: digits, of the right value, with no zero in front of another digit

tenth : (k n : ℕ) → n < 10 ^ suc (suc k) → n / 10 < 10 ^ suc k
tenth k n h = omega arith

decimal-worth : (k n : ℕ) → value 0 (decimal_by k n) ≡ n
unfolding decimal_by
decimal-worth zero n = omega arith
decimal-worth (suc k) n = go (ltb n 10) (decimal-worth k (n / 10))
  where
    go : (t : Bool) → value 0 (decimal_by k (n / 10)) ≡ n / 10 → value 0 (cond t ((48 + n) ∷ []) (decimal_by k (n / 10) ++ ((48 + n % 10) ∷ []))) ≡ n
    go true ih = omega arith
    go false ih = value-append (decimal_by k (n / 10)) ((48 + n % 10) ∷ []) 0 ∙ rw ih (omega arith)

digit-is : (n : ℕ) → n < 10 → all_digits ((48 + n) ∷ []) ≡ true
digit-is n h = and_both (is-in 48 57 (48 + n) (omega arith) (omega arith)) refl

decimal-digits : (k n : ℕ) → n < 10 ^ suc k → all_digits (decimal_by k n) ≡ true
unfolding decimal_by
decimal-digits zero n h = digit-is n (omega arith)
decimal-digits (suc k) n h = go (ltb n 10) refl (decimal-digits k (n / 10) (tenth k n h))
  where
    go : (t : Bool) → ltb n 10 ≡ t → all_digits (decimal_by k (n / 10)) ≡ true → all_digits (cond t ((48 + n) ∷ []) (decimal_by k (n / 10) ++ ((48 + n % 10) ∷ []))) ≡ true
    go true e ih = digit-is n (ltb-true n 10 e)
    go false e ih = all_append (λ (d : ℕ). is_digit d) (decimal_by k (n / 10)) ((48 + n % 10) ∷ []) ih (digit-is (n % 10) (omega arith))

decimal-some : (k n : ℕ) → 0 < length (decimal_by k n)
unfolding decimal_by
decimal-some zero n = omega arith
decimal-some (suc k) n = go (ltb n 10)
  where
    go : (t : Bool) → 0 < length (cond t ((48 + n) ∷ []) (decimal_by k (n / 10) ++ ((48 + n % 10) ∷ [])))
    go true = omega arith
    go false = omega (arith, length-append (decimal_by k (n / 10)) ((48 + n % 10) ∷ []))

decimal-head : (k n : ℕ) → 0 < n → 48 < get_or (decimal_by k n) 0 0
unfolding decimal_by
decimal-head zero n h = omega arith
decimal-head (suc k) n h = go (ltb n 10) refl (decimal-head k (n / 10))
  where
    go : (t : Bool) → ltb n 10 ≡ t → (0 < n / 10 → 48 < get_or (decimal_by k (n / 10)) 0 0) → 48 < get_or (cond t ((48 + n) ∷ []) (decimal_by k (n / 10) ++ ((48 + n % 10) ∷ []))) 0 0
    go true e ih = omega arith
    go false e ih =
        let l = ltb-false n 10 e in
        let r = ih (omega arith) in
        omega (arith, get_or-append (decimal_by k (n / 10)) ((48 + n % 10) ∷ []) 0 0 (decimal-some k (n / 10)))

zeros-head : (l : List ℕ) → (get_or l 0 0 ≡ 48 → ⊥) → zeros l ≡ 0
unfolding zeros
zeros-head [] n = refl
zeros-head (x ∷ []) n = refl
zeros-head (x ∷ d ∷ ds) n = rw (ne_eqb x 48 n)

decimal-bare : (k n : ℕ) → zeros (decimal_by k n) ≡ 0
unfolding decimal_by zeros
decimal-bare zero n = refl
decimal-bare (suc k) zero = refl
decimal-bare (suc k) (suc n) = let h = decimal-head (suc k) (suc n) (omega arith) in zeros-head (decimal_by (suc k) (suc n)) (omega arith)

-- ---- how it is found again from the digits

-- more steps than are needed change nothing
enough : (k m n : ℕ) → n < 10 ^ suc k → n < 10 ^ suc m → decimal_by k n ≡ decimal_by m n
unfolding decimal_by
enough zero zero n p q = refl
enough zero (suc m) n p q = let h : n < 10 = omega arith in rw (lt-ltb n 10 h)
enough (suc k) zero n p q = let h : n < 10 = omega arith in rw (lt-ltb n 10 h)
enough (suc k) (suc m) n p q = ap (λ (l : List ℕ). cond (ltb n 10) ((48 + n) ∷ []) (l ++ ((48 + n % 10) ∷ []))) (enough k m (n / 10) (tenth k n p) (tenth m n q))

larger : (v w p x : ℕ) → w + 1 ≤ (v + 1) * 10 → x < (w + 1) * p → x < (v + 1) * (p * 10)
larger v w p x h l = omega (arith, mul-le-mul_right p h)

pub value-lt : (ds : List ℕ) (v : ℕ) → all_digits ds ≡ true → value v ds < (v + 1) * 10 ^ length ds
value-lt [] v h = omega arith
value-lt (d ∷ ds) v h =
    let a = leb-true d 57 (and_right (leb 48 d) (leb d 57) (and_left (is_digit d) (all_digits ds) h)) in
    let r = value-lt ds (v * 10 + (d - 48)) (and_right (is_digit d) (all_digits ds) h) in
    rw (pow-suc 10 (length ds)) (larger v (v * 10 + (d - 48)) (10 ^ length ds) (value (v * 10 + (d - 48)) ds) (omega arith) r)

decimal-last : (j v d : ℕ) → 0 < v → is_digit d ≡ true → decimal_by (suc j) (v * 10 + (d - 48)) ≡ decimal_by j v ++ (d ∷ [])
unfolding decimal_by
decimal-last j v d h e =
    let a = leb-true 48 d (and_left (leb 48 d) (leb d 57) e) in
    let b = leb-true d 57 (and_right (leb 48 d) (leb d 57) e) in
    let q : (v * 10 + (d - 48)) / 10 ≡ v = omega arith in
    let r : 48 + (v * 10 + (d - 48)) % 10 ≡ d = omega arith in
    rw (le-ltb (v * 10 + (d - 48)) 10 (omega arith)) (ap (λ (n : ℕ). decimal_by j n ++ ((48 + (v * 10 + (d - 48)) % 10) ∷ [])) q ∙ ap (λ (n : ℕ). decimal_by j v ++ (n ∷ [])) r)

decimal-more : (ds : List ℕ) (j v : ℕ) → (0 < length ds → 0 < v) → all_digits ds ≡ true → decimal_by (length ds + j) (value v ds) ≡ decimal_by j v ++ ds
decimal-more [] j v h e = let q : 0 + j ≡ j = omega arith in ap (λ (n : ℕ). decimal_by n v) q ∙ sym (append-nil (decimal_by j v))
decimal-more (d ∷ ds) j v h e =
    let q : suc (length ds) + j ≡ length ds + suc j = omega arith in
    let w : ℕ = v * 10 + (d - 48) in
    let k = h (omega arith) in
    ap (λ (n : ℕ). decimal_by n (value w ds)) q ∙ decimal-more ds (suc j) w (λ _. omega arith) (and_right (is_digit d) (all_digits ds) e)
    ∙ ap (λ (l : List ℕ). l ++ ds) (decimal-last j v d k (and_left (is_digit d) (all_digits ds) e)) ∙ append_assoc (decimal_by j v) (d ∷ []) ds

-- ---- a number and its digits

decimal-by : (n : ℕ) → decimal n ≡ decimal_by 19 n
unfolding decimal
decimal-by n = refl

pub decimal-long : (v : ℕ) → 0 < length (decimal v)
decimal-long v = rw (decimal-by v) (decimal-some 19 v)

pub decimal-zeros : (v : ℕ) → zeros (decimal v) ≡ 0
decimal-zeros v = ap zeros (decimal-by v) ∙ decimal-bare 19 v

-- what is printed is read as the number
pub decimal-value : (v : ℕ) → v < 2 ^ 64 → read_number (decimal v) ≡ Some v
decimal-value v h =
    let w : value 0 (decimal_by 19 v) ≡ v = decimal-worth 19 v in
    ap read_number (decimal-by v) ∙ number-is (decimal_by 19 v) (decimal-some 19 v) (decimal-digits 19 v (omega arith)) (omega arith) ∙ ap Some w

decimal-one : (n : ℕ) → decimal_by 0 n ≡ (48 + n) ∷ []
unfolding decimal_by
decimal-one n = refl

zeros-first : (d : ℕ) (ds : List ℕ) → zeros (d ∷ ds) ≡ 0 → 0 < length ds → d ≡ 48 → ⊥
unfolding zeros
zeros-first d [] z h e = omega arith
zeros-first d (x ∷ ds) z h e = let q = rw (eq-eqb d 48 e) at z in omega arith

-- digits with no zero in front of another are what is printed of their number
pub decimal-plain : (ds : List ℕ) (v : ℕ) → read_number ds ≡ Some v → zeros ds ≡ 0 → decimal v ≡ ds
decimal-plain [] v e z = let y = (number_read [] v e).some in absurd (omega arith)
decimal-plain (d ∷ ds) v e z =
    let r = number_read (d ∷ ds) v e in
    let k : is_digit d ≡ true = and_left (is_digit d) (all_digits ds) r.digits in
    let a = leb-true 48 d (and_left (leb 48 d) (leb d 57) k) in
    let w : ℕ = 0 * 10 + (d - 48) in
    let n : length ds ≡ length ds + 0 = omega arith in
    let q : 48 + w ≡ d = omega arith in
    let l : v < 10 ^ suc (length ds) = omega (arith, value-lt (d ∷ ds) 0 r.digits, r.worth) in
    decimal-by v ∙ enough 19 (length ds) v (omega (arith, r.fits)) l ∙ ap (decimal_by (length ds)) (sym r.worth)
    ∙ ap (λ (m : ℕ). decimal_by m (value w ds)) n ∙ decimal-more ds 0 w (λ h. let g : d ≡ 48 → ⊥ = zeros-first d ds z h in omega arith) (and_right (is_digit d) (all_digits ds) r.digits)
    ∙ ap (λ (l : List ℕ). l ++ ds) (decimal-one w) ∙ ap (λ (m : ℕ). m ∷ ds) q

-- and others once the zeros that lead are gone
pub decimal-strip : (ds : List ℕ) (v : ℕ) → read_number ds ≡ Some v → decimal v ≡ drop (zeros ds) ds
decimal-strip ds v e = decimal-plain (drop (zeros ds) ds) v (strip-number ds (number_read ds v e).some ∙ e) (strip-zeros ds)

-- ---- whether digits are a number as it is printed

abbrev pub number_is : ℕ → Option ℕ → Bool
number_is v (Some n) = eqb n v
number_is v None = false

pub prints-not : (s : List ℕ) (v : ℕ) → 0 < zeros s → same s (decimal v) ≡ false
prints-not s v h = same_not s (decimal v) (λ e. let q : zeros s ≡ 0 = ap zeros e ∙ decimal-zeros v in omega arith)

pub prints-is : (s : List ℕ) (v : ℕ) → v < 2 ^ 64 → zeros s ≡ 0 → same s (decimal v) ≡ number_is v (read_number s)
prints-is s v h z = go (read_number s) refl
  where
    go : (n : Option ℕ) → read_number s ≡ n → same s (decimal v) ≡ number_is v n
    go None e = same_not s (decimal v) (λ q. let y : ◌≡◌ {A = ℕ} 0 1 = cc (ap read_number q, decimal-value v h) in omega arith)
    go (Some n) e = at (eqb n v) refl
      where
        at : (t : Bool) → eqb n v ≡ t → same s (decimal v) ≡ t
        at true q = ap (same s) (ap decimal (sym (eqb-true n v q)) ∙ decimal-plain s n e z) ∙ same_refl s
        at false q = same_not s (decimal v) (λ y. let w : n ≡ v = cc (ap read_number y, decimal-value v h) in eqb-false n v q w)
