-- A declaration that is told by its first bytes, in a line whose last byte is `;`. Assumes nothing.
use Prim.Native.Nat.{ℕ, zero, suc, ◌+◌, ◌-◌, ◌≤◌, ◌<◌}
use mathlib.Core.Path.{◌≡◌, refl, sym, ap, ◌∙◌}
use mathlib.Core.Bool.{Bool, true, false, cond, not, ◌&&◌}
use mathlib.Core.List.{List, [], ◌∷◌}
use native.Mathlib.Omega.{arith}
use native.Mathlib.Nat.{zero-add}
use native.Mathlib.Numerals.{add-one}
use borrow.Author.Tests.{eq-eqb, eqb-true, lt-ltb, ltb-true, ltb-false}
use lib.Dec.{eqb, ltb}
use lib.ListN.{length, take, drop, get_or, length-drop}
use lib.Seq.{drop-cons, drop-nil, drop-drop, take-nil, get_or-take, length-take-le}
use Rattle.lines.specs.Lf.{up_to, parts_of, prefixed, ends_in}
use Rattle.lines.proofs.Tests.{no, and-false, and_left, and_right, and_both}
use Rattle.text.specs.Trim.{from_of, to_of, trim_of}
use Rattle.names.specs.Names.{is_digit, is_reg}
use Rattle.parse.specs.Parse.{let_word, body_of, all_regs, is_decl}
use Rattle.parse.specs.Inner.Parse.{digits_len, without, NameTo, plain_byte}
use Rattle.parse.proofs.ParseLaws.{regs-stop, regs-last, regs-on}
use Rattle.parse.proofs.Plain.{inside, plain-above, plain_at}
use Rattle.parse.proofs.PlainLine.{taken_none, shut-last, shut-trim}

-- as many digits stand in front of what is taken, where that reaches behind them
digits-take : (n : ℕ) (l : List ℕ) → digits_len l ≤ n → digits_len (take n l) ≡ digits_len l
unfolding digits_len
digits-take zero [] h = refl
digits-take (suc n) [] h = refl
digits-take zero (x ∷ l) h = omega arith
digits-take (suc n) (x ∷ l) h = go (is_digit x) h (digits-take n l)
  where
    go : (t : Bool) → cond t (suc (digits_len l)) 0 ≤ suc n → (digits_len l ≤ n → digits_len (take n l) ≡ digits_len l) → cond t (suc (digits_len (take n l))) 0 ≡ cond t (suc (digits_len l)) 0
    go true k f = ap suc (f (omega arith))
    go false k f = refl

pub drop-take : (p n : ℕ) (l : List ℕ) → drop p (take n l) ≡ take (n - p) (drop p l)
drop-take zero n l = let z : n ≡ n - 0 = omega arith in ap (λ (k : ℕ). take k l) z
drop-take (suc p) zero l = let z : 0 ≡ 0 - suc p = omega arith in drop-nil (suc p) ∙ ap (λ (k : ℕ). take k (drop (suc p) l)) z
drop-take (suc p) (suc n) [] = sym (take-nil (suc n - suc p))
drop-take (suc p) (suc n) (x ∷ l) = let z : n - p ≡ suc n - suc p = omega arith in drop-take p n l ∙ ap (λ (k : ℕ). take k (drop p l)) z

-- a digit is no `;`
pub digit-open : (x : ℕ) → is_digit x ≡ true → x ≡ 59 → ⊥
digit-open x e q = no (sym (ap (λ (k : ℕ). is_digit k) q) ∙ e)

module _ (t : List ℕ) (shut : get_or t (length t - 1) 0 ≡ 59) where
  -- another byte than `;` is not the last
  pub not_last : (j : ℕ) → j < length t → (get_or t j 0 ≡ 59 → ⊥) → j + 1 < length t
  not_last j h n = go (ltb (j + 1) (length t)) refl
    where
      go : (b : Bool) → ltb (j + 1) (length t) ≡ b → j + 1 < length t
      go true e = ltb-true (j + 1) (length t) e
      go false e =
          let f = ltb-false (j + 1) (length t) e in
          let z : j ≡ length t - 1 = omega arith in
          absurd (n (ap (λ (k : ℕ). get_or t k 0) z ∙ shut))

  long : (j : ℕ) → j < length t → length (without t) ≡ length t - 1
  long j h = length-take-le (length t - 1) t (omega arith)

  -- a name that is plainly a register
  pub name-to : (i a e : ℕ) → a ≡ cond (eqb (get_or t i 0) 32) (i + 1) i → get_or t a 0 ≡ 114 → (e ≡ a + 1 + digits_len (drop (a + 1) t)) × (e < length t) → 2 ≤ e - a → e - a ≤ 10 → NameTo t i e
  name-to i a e p r q lo hi = (q.1, λ c. plain_at (without t) i a e at-space at_name at-digits lo hi (at-comma c))
    where
      first : (b : Bool) → a ≡ cond b (i + 1) i → i ≤ a
      first true z = omega arith
      first false z = omega arith

      low : i ≤ a
      low = first (eqb (get_or t i 0) 32) p

      at-space : a ≡ cond (eqb (get_or (without t) i 0) 32) (i + 1) i
      at-space = p ∙ ap (λ (x : ℕ). cond (eqb x 32) (i + 1) i) (sym (get_or-take (length t - 1) t i 0 (omega (arith, low, q.1, lo))))

      at_name : get_or (without t) a 0 ≡ 114
      at_name = get_or-take (length t - 1) t a 0 (omega (arith, q.1, lo)) ∙ r

      at-digits : e ≡ a + 1 + digits_len (drop (a + 1) (without t))
      at-digits =
          let z : digits_len (drop (a + 1) t) ≤ length t - 1 - (a + 1) = omega (arith, q.0, q.1) in
          q.0 ∙ ap (λ (n : ℕ). a + 1 + n) (sym (ap digits_len (drop-take (a + 1) (length t - 1) t) ∙ digits-take (length t - 1 - (a + 1)) (drop (a + 1) t) z))

      at-comma : (e + 1 < length t → get_or t e 0 ≡ 44) → e < length (without t) → get_or (without t) e 0 ≡ 44
      at-comma c k =
          let m = long e q.1 in
          get_or-take (length t - 1) t e 0 (omega arith) ∙ c (omega arith)

  -- the names, one after the other
  pub names-last : (i e : ℕ) → i < length t → NameTo t i e → e + 1 ≡ length t → all_regs (parts_of 44 (drop i (without t))) ≡ true
  names-last i e h k z =
      let m = long i h in
      let f = k.1 (λ y. absurd (omega arith)) in
      regs-last (without t) i e (omega arith) f.0 (omega arith) f.1

  pub names-on : (i e : ℕ) → i < length t → NameTo t i e → get_or t e 0 ≡ 44 → (e + 1 < length t) × (all_regs (parts_of 44 (drop i (without t))) ≡ all_regs (parts_of 44 (drop (e + 1) (without t))))
  names-on i e h k y =
      let m = long i h in
      let f = k.1 (λ _. y) in
      let b : e + 1 < length t = not_last e k.0 (λ z. absurd (omega arith)) in
      (b, regs-on (without t) i e (omega arith) f.0 (omega arith) f.1)

-- ---- the line

byte_at : (l : List ℕ) (j x : ℕ) → j < length l → get_or l j 0 ≡ x → drop j l ≡ x ∷ drop (j + 1) l
byte_at l j x h e = drop-cons l j 0 h ∙ ap (λ (y : ℕ). y ∷ drop (suc j) l) e ∙ ap (λ (n : ℕ). x ∷ drop n l) (sym (add-one j))

-- at the place a stands `let `
abbrev pub let_at : ℕ → List ℕ → Bool
let_at a l = eqb (get_or l a 0) 108 && (eqb (get_or l (a + 1) 0) 101 && (eqb (get_or l (a + 2) 0) 116 && eqb (get_or l (a + 3) 0) 32))

module _ (l : List ℕ) (a : ℕ) (long : a + 6 ≤ length l) (b : let_at a l ≡ true) where
  begins : drop a l ≡ 108 ∷ 101 ∷ 116 ∷ 32 ∷ drop (a + 4) l
  begins =
      let b₁ = and_right (eqb (get_or l a 0) 108) _ b in
      let b₂ = and_right (eqb (get_or l (a + 1) 0) 101) _ b₁ in
      let x₀ = eqb-true (get_or l a 0) 108 (and_left (eqb (get_or l a 0) 108) _ b) in
      let x₁ = eqb-true (get_or l (a + 1) 0) 101 (and_left (eqb (get_or l (a + 1) 0) 101) _ b₁) in
      let x₂ = eqb-true (get_or l (a + 2) 0) 116 (and_left (eqb (get_or l (a + 2) 0) 116) _ b₂) in
      let x₃ = eqb-true (get_or l (a + 3) 0) 32 (and_right (eqb (get_or l (a + 2) 0) 116) _ b₂) in
      let z₂ : a + 1 + 1 ≡ a + 2 = omega arith in
      let z₃ : a + 2 + 1 ≡ a + 3 = omega arith in
      let z₄ : a + 3 + 1 ≡ a + 4 = omega arith in
      byte_at l a 108 (omega arith) x₀
      ∙ ap (λ (r : List ℕ). 108 ∷ r) (byte_at l (a + 1) 101 (omega arith) x₁ ∙ ap (λ (n : ℕ). 101 ∷ drop n l) z₂)
      ∙ ap (λ (r : List ℕ). 108 ∷ 101 ∷ r) (byte_at l (a + 2) 116 (omega arith) x₂ ∙ ap (λ (n : ℕ). 116 ∷ drop n l) z₃)
      ∙ ap (λ (r : List ℕ). 108 ∷ 101 ∷ 116 ∷ r) (byte_at l (a + 3) 32 (omega arith) x₃ ∙ ap (λ (n : ℕ). 32 ∷ drop n l) z₄)

  body_is : drop (a + 4) (without l) ≡ body_of (drop a l)
  body_is =
      let z : length l - 1 - (a + 4) ≡ length (drop a l) - 1 - 4 = omega (arith, length-drop a l) in
      drop-take (a + 4) (length l - 1) l ∙ ap (λ (n : ℕ). take n (drop (a + 4) l)) z ∙ ap (take (length (drop a l) - 1 - 4)) (sym (drop-drop 4 a l))

  pub plain-decl-is : a ≡ from_of l → get_or l (length l - 1) 0 ≡ 59 → all_regs (parts_of 44 (drop (a + 4) (without l))) ≡ true → is_decl (trim_of l) ≡ true
  unfolding is_decl prefixed
  plain-decl-is p s r =
      let t : trim_of l ≡ drop a l = shut-trim l a p (omega arith) s in
      let e : get_or (drop a l) (length (drop a l) - 1) 0 ≡ 59 = shut-last l a (omega arith) s in
      ap is_decl t
      ∙ and_both (lt-ltb 4 (length (drop a l)) (omega (arith, length-drop a l)))
      (and_both (ap (prefixed let_word) begins) (and_both (eq-eqb (get_or (drop a l) (length (drop a l) - 1) 0) 59 e) (ap (λ (x : List ℕ). all_regs (parts_of 44 x)) (sym body_is) ∙ r)))

-- ---- behind `let ` stands a byte with which no register begins

-- the first piece names none
module _ (c : ℕ) (h : plain_byte c && not (eqb c 114) ≡ true) where
  body-none : (r : List ℕ) (m x : ℕ) → all_regs (parts_of 44 (take m (take x (c ∷ r)))) ≡ false
  body-none r m x =
      let u : List ℕ = take m (take x (c ∷ r)) in
      let n : c ≡ 114 → ⊥ = λ e. no (sym (ap not (eq-eqb c 114 e)) ∙ and_right (plain_byte c) (not (eqb c 114)) h) in
      regs-stop u 0 (up_to 44 u) (omega arith) (sym (zero-add (up_to 44 u))) (ap is_reg (taken_none c (and_left (plain_byte c) (not (eqb c 114)) h) n r (up_to 44 u - 0) m x))

  pub decl-none : (l : List ℕ) (a : ℕ) → a ≡ from_of l → c ≡ get_or l (a + 4) 0 → is_decl (trim_of l) ≡ false
  unfolding is_decl trim_of
  decl-none l a p e =
      let k = plain-above c (and_left (plain_byte c) (not (eqb c 114)) h) in
      let i : a + 4 < length l = inside l (a + 4) (λ z. absurd (omega arith)) in
      let x : ℕ = to_of (drop (from_of l) l) in
      let t : List ℕ = take x (drop (from_of l) l) in
      let w : drop 4 t ≡ take (x - 4) (c ∷ drop (suc (a + 4)) l) =
      drop-take 4 x (drop (from_of l) l)
      ∙ ap (take (x - 4)) (drop-drop 4 (from_of l) l ∙ ap (λ (j : ℕ). drop (j + 4) l) (sym p) ∙ drop-cons l (a + 4) 0 i ∙ ap (λ (j : ℕ). j ∷ drop (suc (a + 4)) l) (sym e)) in
      let b : all_regs (parts_of 44 (body_of t)) ≡ false =
      ap (λ (r : List ℕ). all_regs (parts_of 44 (take (length t - 1 - 4) r))) w ∙ body-none (drop (suc (a + 4)) l) (length t - 1 - 4) (x - 4) in
      ap (λ (q : Bool). ltb 4 (length t) && (prefixed let_word t && (ends_in 59 t && q))) b
      ∙ ap (λ (q : Bool). ltb 4 (length t) && (prefixed let_word t && q)) (and-false (ends_in 59 t))
      ∙ ap (λ (q : Bool). ltb 4 (length t) && q) (and-false (prefixed let_word t))
      ∙ and-false (ltb 4 (length t))
