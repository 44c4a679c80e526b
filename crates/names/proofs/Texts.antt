-- Names as texts: what is read of what is printed, and the bytes that names are made of. Assumes nothing.
use Prim.Native.Nat.{ℕ, ◌+◌, ◌-◌, ◌*◌, ◌^◌, ◌≤◌, ◌<◌}
use mathlib.Core.Path.{◌≡◌, refl, sym, ap, ◌∙◌}
use mathlib.Core.Bool.{Bool, true, false, cond, not, ◌&&◌}
use mathlib.Core.List.{List, [], ◌∷◌, ◌++◌}
use native.Mathlib.Omega.{arith}
use borrow.Author.Tests.{le-ltb, lt-ltb, leb-true, eq-eqb, ne_eqb}
use lib.Dec.{ltb, leb}
use lib.ListN.{length, drop, get_or}
use lib.Seq.{drop-drop, drop-append_seam}
use Rattle.lines.specs.Lf.{prefixed, same}
use Rattle.lines.proofs.Tests.{no, and-true, and_left, and_right, and_both}
use Rattle.text.specs.Class.{is_name}
use Rattle.names.specs.declared.Register.{Register}
use Rattle.names.specs.declared.Phi.{Phi}
use Rattle.std.specs.declared.option.Option.{Option}
use Rattle.std.specs.declared.option.Option.TheVariants.{Some, None}
use Rattle.names.specs.Names.{is_digit, all_digits, numbered, read_number, decimal, reg_word, phi_word, temp_word, reg_by, reg_of, phi_by, phi_of, is_temp, reg_text, phi_text, reg_is, all_names, is_ident}
use Rattle.names.specs.Inner.Names.{zeros, number_after}
use Rattle.names.proofs.Digits.{number_read, all_append, all_more, zeros-end}
use Rattle.lines.proofs.Compare.{same-eq}
use Rattle.names.proofs.Equal.{front-append, front_of, same-front}
use Rattle.names.proofs.Decimal.{decimal-value, decimal-strip, number_is, prints-is}

-- ---- a word and a number

pub after_none : (p s : List ℕ) → prefixed p s ≡ false → number_after p s ≡ None
unfolding number_after
after_none p s e = rw e

pub after-number : (p s : List ℕ) → prefixed p s ≡ true → number_after p s ≡ read_number (drop (length p) s)
unfolding number_after
after-number p s e = rw e

pub after_text : (p : List ℕ) (v : ℕ) → v < 2 ^ 64 → number_after p (p ++ decimal v) ≡ Some v
after_text p v h = after-number p (p ++ decimal v) (front-append p (decimal v)) ∙ ap read_number (drop-append_seam p (decimal v)) ∙ decimal-value v h

pub after-read : (p s : List ℕ) (v : ℕ) → number_after p s ≡ Some v → (s ≡ p ++ drop (length p) s) × (read_number (drop (length p) s) ≡ Some v)
after-read p s v e = go (prefixed p s) refl
  where
    go : (t : Bool) → prefixed p s ≡ t → (s ≡ p ++ drop (length p) s) × (read_number (drop (length p) s) ≡ Some v)
    go true h = (front_of p s h, sym (after-number p s h) ∙ e)
    go false h = let z : ◌≡◌ {A = ℕ} 0 1 = cc (after_none p s h, e) in absurd (omega arith)

-- a name that was read is printed by copying its digits
pub after-copied : (p s : List ℕ) (v : ℕ) → number_after p s ≡ Some v → p ++ decimal v ≡ p ++ drop (length p + zeros (drop (length p) s)) s
after-copied p s v e =
    ap (λ (l : List ℕ). p ++ l) (decimal-strip (drop (length p) s) v (after-read p s v e).1 ∙ drop-drop (zeros (drop (length p) s)) (length p) s)

digits-names : (ds : List ℕ) → all_digits ds ≡ true → all_names ds ≡ true
digits-names ds h = all_more (λ (d : ℕ). is_digit d) (λ (x : ℕ). is_name x) (λ x e. rw e) ds h

pub after-names : (p s : List ℕ) (v : ℕ) → all_names p ≡ true → number_after p s ≡ Some v → all_names s ≡ true
after-names p s v h e =
    let r = after-read p s v e in
    rw r.0 (all_append (λ (x : ℕ). is_name x) p (drop (length p) s) h (digits-names (drop (length p) s) (number_read (drop (length p) s) v r.1).digits))

-- what becomes of a number, before or after the choice
either : {N : Type 0} (f : Option ℕ → N) (t : Bool) (n : Option ℕ) → cond t (f n) (f None) ≡ f (cond t n None)
either f true n = refl
either f false n = refl

-- ---- registers

pub reg-by : (s : List ℕ) → reg_of s ≡ reg_by (number_after reg_word s)
unfolding reg_of number_after
reg-by s = either reg_by (prefixed reg_word s) (read_number (drop 1 s))

reg-of : (n : Option ℕ) (q : Register) → reg_by n ≡ Some q → n ≡ Some q.0
reg-of (Some m) q e = let z : m ≡ q.0 = cc in ap Some z
reg-of None q e = let z : ◌≡◌ {A = ℕ} 0 1 = cc in absurd (omega arith)

-- a text that does not begin with `r` names none
pub reg-first : (s : List ℕ) → (get_or s 0 0 ≡ 114 → ⊥) → reg_of s ≡ None
unfolding reg_of prefixed
reg-first [] n = refl
reg-first (x ∷ s) n = rw (ne_eqb 114 x (λ e. n (sym e)))

-- one digit behind it
pub reg-two : (s : List ℕ) → length s ≡ 2 → get_or s 0 0 ≡ 114 → reg_of s ≡ reg_by (read_number (get_or s 1 0 ∷ []))
unfolding reg_of prefixed
reg-two [] h e = absurd (omega arith)
reg-two (x ∷ []) h e = absurd (omega arith)
reg-two (x ∷ y ∷ []) h e = rw (eq-eqb 114 x (sym e))
reg-two (x ∷ y ∷ z ∷ s) h e = absurd (omega arith)

-- what one byte is as a number
pub digit-other : (d : ℕ) → is_digit d ≡ false → reg_by (read_number (d ∷ [])) ≡ None
unfolding read_number numbered
digit-other d e = rw e

pub digit-is : (d : ℕ) → is_digit d ≡ true → reg_by (read_number (d ∷ [])) ≡ Some (record { 0 = d - 48 })
unfolding read_number numbered
digit-is d e =
    let hi = leb-true d 57 (and_right (leb 48 d) (leb d 57) e) in
    let v : 0 * 10 + (d - 48) ≡ d - 48 = omega arith in
    rw (e, v, lt-ltb (d - 48) (2 ^ 64) (omega arith))

pub reg-number : (s : List ℕ) (q : Register) → reg_of s ≡ Some q → number_after reg_word s ≡ Some q.0
reg-number s q e = reg-of (number_after reg_word s) q (sym (reg-by s) ∙ e)

-- a register's number fits, its text is of name bytes, and it is printed by copying its digits
pub reg-fits : (s : List ℕ) (q : Register) → reg_of s ≡ Some q → q.0 < 2 ^ 64
reg-fits s q e = (number_read (drop 1 s) q.0 (after-read reg_word s q.0 (reg-number s q e)).1).fits

pub reg-names : (s : List ℕ) (q : Register) → reg_of s ≡ Some q → all_names s ≡ true
reg-names s q e = after-names reg_word s q.0 refl (reg-number s q e)

pub reg-copied : (s : List ℕ) (q : Register) → reg_of s ≡ Some q → reg_text q.0 ≡ 114 ∷ drop (1 + zeros (drop 1 s)) s
reg-copied s q e = after-copied reg_word s q.0 (reg-number s q e)

-- what is printed of a register is read as that register, and is of name bytes
pub reg-text-value : (v : ℕ) → v < 2 ^ 64 → reg_of (reg_text v) ≡ Some (record { 0 = v })
reg-text-value v h = reg-by (reg_text v) ∙ ap reg_by (after_text reg_word v h)

pub reg-text-names : (v : ℕ) → v < 2 ^ 64 → all_names (reg_text v) ≡ true
reg-text-names v h = reg-names (reg_text v) (record { 0 = v }) (reg-text-value v h)

pub reg-text-is : (s : List ℕ) (v : ℕ) → v < 2 ^ 64 → same s (reg_text v) ≡ true → reg_is v (reg_of s) ≡ true
reg-text-is s v h e = rw (same-eq s (reg_text v) e, reg-text-value v h) (eq-eqb v v refl)

-- ---- phis, likewise

-- of two bytes, the name and its text are the same
pub two-text : (s : List ℕ) (v : ℕ) → v < 2 ^ 64 → length s ≡ 2 → reg_is v (reg_of s) ≡ same s (reg_text v)
unfolding reg_of
two-text s v h n = told (prefixed reg_word s) ∙ sym (same-front reg_word s (decimal v))
  where
    named : (m : Option ℕ) → reg_is v (reg_by m) ≡ number_is v m
    named (Some k) = refl
    named None = refl

    told : (b : Bool) → reg_is v (cond b (reg_by (read_number (drop 1 s))) None) ≡ b && same (drop 1 s) (decimal v)
    told true = named (read_number (drop 1 s)) ∙ sym (prints-is (drop 1 s) v h (zeros-end s 1 (omega arith)))
    told false = refl

pub phi-by : (s : List ℕ) → phi_of s ≡ phi_by (number_after phi_word s)
unfolding phi_of number_after
phi-by s = either phi_by (prefixed phi_word s) (read_number (drop 3 s))

phi-of : (n : Option ℕ) (q : Phi) → phi_by n ≡ Some q → n ≡ Some q.0
phi-of (Some m) q e = let z : m ≡ q.0 = cc in ap Some z
phi-of None q e = let z : ◌≡◌ {A = ℕ} 0 1 = cc in absurd (omega arith)

pub phi_number : (s : List ℕ) (q : Phi) → phi_of s ≡ Some q → number_after phi_word s ≡ Some q.0
phi_number s q e = phi-of (number_after phi_word s) q (sym (phi-by s) ∙ e)

pub phi-fits : (s : List ℕ) (q : Phi) → phi_of s ≡ Some q → q.0 < 2 ^ 64
phi-fits s q e = (number_read (drop 3 s) q.0 (after-read phi_word s q.0 (phi_number s q e)).1).fits

pub phi-names : (s : List ℕ) (q : Phi) → phi_of s ≡ Some q → all_names s ≡ true
phi-names s q e = after-names phi_word s q.0 refl (phi_number s q e)

pub phi-text-value : (v : ℕ) → v < 2 ^ 64 → phi_of (phi_text v) ≡ Some (record { 0 = v })
phi-text-value v h = phi-by (phi_text v) ∙ ap phi_by (after_text phi_word v h)

pub phi-text-names : (v : ℕ) → v < 2 ^ 64 → all_names (phi_text v) ≡ true
phi-text-names v h = phi-names (phi_text v) (record { 0 = v }) (phi-text-value v h)

-- ---- temps and simple names

module _ (s : List ℕ) where
  pub temp-none : prefixed temp_word s ≡ false → is_temp s ≡ false
  unfolding is_temp
  temp-none e = rw e

  pub temp-short : prefixed temp_word s ≡ true → length s < 2 → is_temp s ≡ false
  unfolding is_temp
  temp-short e h = rw (e, le-ltb 1 (length s) (omega arith))

  pub temp-digits : prefixed temp_word s ≡ true → 2 ≤ length s → is_temp s ≡ all_digits (drop 1 s)
  unfolding is_temp
  temp-digits e h = rw (e, lt-ltb 1 (length s) (omega arith))

  -- a temp is of name bytes
  pub temp-names : is_temp s ≡ true → all_names s ≡ true
  unfolding is_temp
  temp-names h =
      let t = ltb 1 (length s) && all_digits (drop 1 s) in
      let d = and_right (ltb 1 (length s)) (all_digits (drop 1 s)) (and_right (prefixed temp_word s) t h) in
      rw (front_of temp_word s (and_left (prefixed temp_word s) t h)) (all_append (λ (x : ℕ). is_name x) temp_word (drop 1 s) refl (digits-names (drop 1 s) d))

pub ident-none : (s : List ℕ) → length s ≡ 0 → is_ident s ≡ false
unfolding is_ident
ident-none [] h = refl
ident-none (x ∷ xs) h = absurd (omega arith)

pub ident-digit : (s : List ℕ) → is_digit (get_or s 0 0) ≡ true → is_ident s ≡ false
unfolding is_ident
ident-digit [] h = refl
ident-digit (x ∷ xs) h = rw h

pub ident-rest : (s : List ℕ) → (length s ≡ 0 → ⊥) → is_digit (get_or s 0 0) ≡ false → is_ident s ≡ all_names s
unfolding is_ident
ident-rest [] n h = absurd (n refl)
ident-rest (x ∷ xs) n h = ap (λ (b : Bool). (is_name x && not b) && all_names xs) h ∙ ap (λ (b : Bool). b && all_names xs) (and-true (is_name x))

-- a simple name is of name bytes
pub ident-names : (s : List ℕ) → is_ident s ≡ true → all_names s ≡ true
unfolding is_ident
ident-names [] h = no h
ident-names (x ∷ xs) h =
    let a = and_left (is_name x && not (is_digit x)) (all_names xs) h in
    and_both (and_left (is_name x) (not (is_digit x)) a) (and_right (is_name x && not (is_digit x)) (all_names xs) h)
