-- The last digit of a register: a line without it neither reads nor stores the register. Assumes nothing.
use Prim.Native.Nat.{ℕ, zero, suc, ◌+◌, ◌-◌, ◌*◌, ◌%◌, ◌≤◌, ◌<◌}
use mathlib.Core.Path.{◌≡◌, refl, sym, ap, ◌∙◌}
use mathlib.Core.Bool.{Bool, true, false, cond, not, ◌&&◌}
use mathlib.Core.List.{List, [], ◌∷◌, ◌++◌}
use native.Mathlib.Omega.{arith}
use borrow.Author.Tests.{eq-eqb, ne_eqb, leb-true}
use lib.Dec.{eqb, ltb, leb}
use lib.ListN.{length, take, drop, get_or}
use Rattle.lines.specs.Lf.{part, up_to, all, ends_in}
use Rattle.lines.proofs.Tests.{no, and_left, and_right, and_both}
use Rattle.text.specs.Class.{is_name}
use Rattle.text.specs.Trim.{from_of, to_of, trim_of}
use Rattle.names.specs.Names.{is_digit, all_digits, value, reg_word, reg_of, reg_is}
use Rattle.std.specs.declared.option.Option.{Option}
use Rattle.names.specs.declared.Register.{Register}
use Rattle.std.specs.declared.option.Option.TheVariants.{Some, None}
use Rattle.names.proofs.Digits.{all_append, number_read}
use Rattle.names.proofs.Texts.{after-read, reg-number}
use Rattle.parse.specs.Parse.{is_decl, store_by, split_store, store_in, parse_of, text_of}
use Rattle.parse.specs.declared.Line.{Line}
use Rattle.parse.specs.declared.Line.TheVariants as line
use Rattle.words.specs.Runs.{flush, runs_go, runs, count_by, reads_of}
use Rattle.words.proofs.RunLaws.{count-append}
use Rattle.reading.specs.Uses.{line_reads, stores_by, line_stores}

-- a byte is not b
abbrev pub is_not : ℕ → ℕ → Bool
is_not b x = not (eqb x b)

-- the last of some digits is the last digit of their value
digit-last : (u : ℕ) (ds : List ℕ) → 0 < length ds → all_digits ds ≡ true → all (is_not (48 + value u ds % 10)) ds ≡ true → ⊥
digit-last u [] h k a = absurd (omega arith)
digit-last u (d ∷ []) h k a =
    let i = and_left (is_digit d) true k in
    let lo = leb-true 48 d (and_left (leb 48 d) (leb d 57) i) in
    let hi = leb-true d 57 (and_right (leb 48 d) (leb d 57) i) in
    let e : d ≡ 48 + (u * 10 + (d - 48)) % 10 = omega arith in
    no (sym (ap not (eq-eqb d (48 + (u * 10 + (d - 48)) % 10) e)) ∙ and_left (is_not (48 + (u * 10 + (d - 48)) % 10) d) true a)
digit-last u (d ∷ x ∷ ds) h k a =
    digit-last (u * 10 + (d - 48)) (x ∷ ds) (omega arith) (and_right (is_digit d) (all_digits (x ∷ ds)) k)
    (and_right (is_not (48 + value u (d ∷ x ∷ ds) % 10) d) (all (is_not (48 + value u (d ∷ x ∷ ds) % 10)) (x ∷ ds)) a)

module _ (g : ℕ → Bool) where
  all_take : (n : ℕ) (l : List ℕ) → all g l ≡ true → all g (take n l) ≡ true
  all_take zero l h = refl
  all_take (suc n) [] h = refl
  all_take (suc n) (x ∷ l) h = and_both (and_left (g x) (all g l) h) (all_take n l (and_right (g x) (all g l) h))

  all_drop : (n : ℕ) (l : List ℕ) → all g l ≡ true → all g (drop n l) ≡ true
  all_drop zero l h = h
  all_drop (suc n) [] h = refl
  all_drop (suc n) (x ∷ l) h = all_drop n l (and_right (g x) (all g l) h)

  all-trim : (l : List ℕ) → all g l ≡ true → all g (trim_of l) ≡ true
  unfolding trim_of
  all-trim l h = all_take (to_of (drop (from_of l) l)) (drop (from_of l) l) (all_drop (from_of l) l h)

  -- no run of a text passes a test that a text of such bytes does not
  module _ (f : List ℕ → Bool) (none : (r : List ℕ) → all g r ≡ true → f r ≡ false) where
    flush-none : (cur : List ℕ) → all g cur ≡ true → count_by f (flush cur) ≡ 0
    unfolding count_by
    flush-none [] h = refl
    flush-none (x ∷ xs) h = rw (none (x ∷ xs) h) refl

    runs_none : (l cur : List ℕ) → all g l ≡ true → all g cur ≡ true → count_by f (runs_go l cur) ≡ 0
    unfolding runs_go
    runs_none [] cur h k = flush-none cur k
    runs_none (x ∷ xs) cur h k = go (is_name x) (runs_none xs (cur ++ (x ∷ [])) more (all_append g cur (x ∷ []) k one)) (runs_none xs [] more refl)
      where
        more : all g xs ≡ true
        more = and_right (g x) (all g xs) h

        one : all g (x ∷ []) ≡ true
        one = and_both (and_left (g x) (all g xs) h) refl

        go : (t : Bool) → count_by f (runs_go xs (cur ++ (x ∷ []))) ≡ 0 → count_by f (runs_go xs []) ≡ 0 →
            count_by f (cond t (runs_go xs (cur ++ (x ∷ []))) (flush cur ++ runs_go xs [])) ≡ 0
        go true a b = a
        go false a b = count-append f (flush cur) (runs_go xs []) ∙ omega (arith, flush-none cur k, b)

module _ (v : ℕ) where
  abbrev last_of : ℕ → Bool
  last_of x = is_not (48 + v % 10) x

  -- a text that lacks the last digit of a register does not name it
  name-none : (r : List ℕ) → all last_of r ≡ true → reg_is v (reg_of r) ≡ false
  name-none r h = go (reg_of r) refl
    where
      go : (n : Option Register) → reg_of r ≡ n → reg_is v n ≡ false
      go None e = refl
      go (Some q) e =
          ne_eqb q.0 v (λ z. let w = number_read (drop 1 r) q.0 (after-read reg_word r q.0 (reg-number r q e)).1 in
          digit-last 0 (drop 1 r) w.some w.digits (rw (w.worth, z) (all_drop last_of 1 r h)))

  -- it does not read it
  text-none : (l : List ℕ) → all last_of l ≡ true → reads_of v l ≡ 0
  unfolding runs
  text-none l h = runs_none last_of (λ (r : List ℕ). reg_is v (reg_of r)) name-none l [] h refl

  reads-by : (l : List ℕ) (p : Line) → all last_of l ≡ true → reads_of v (text_of l p) ≡ 0
  unfolding text_of
  reads-by l line.Decl h = text-none [] refl
  reads-by l (line.Store s) h = text-none (part s.from s.to l) (all_take last_of (s.to - s.from) (drop s.from l) (all_drop last_of s.from l h))
  reads-by l line.Other h = text-none l h

  -- nor store it
  by-none : (n : Option Register) (b : ℕ) (rhs : List ℕ) → reg_is v n ≡ false → stores_by v (store_by n b rhs) ≡ false
  by-none None b rhs h = refl
  by-none (Some q) b rhs h = h

  split-none : (a : ℕ) (u : List ℕ) → all last_of u ≡ true → stores_by v (split_store a u) ≡ false
  split-none a u h = go (ltb (up_to 61 u) (length u) && not (eqb (get_or u (up_to 61 u + 1) 0) 61))
    where
      go : (t : Bool) → stores_by v (cond t (store_by (reg_of (trim_of (take (up_to 61 u) u))) (a + (up_to 61 u + 1)) (drop (up_to 61 u + 1) u)) line.Other) ≡ false
      go true =
          by-none (reg_of (trim_of (take (up_to 61 u) u))) (a + (up_to 61 u + 1)) (drop (up_to 61 u + 1) u)
          (name-none (trim_of (take (up_to 61 u) u)) (all-trim last_of (take (up_to 61 u) u) (all_take last_of (up_to 61 u) u h)))
      go false = refl

  store-none : (a : ℕ) (t : List ℕ) → all last_of t ≡ true → stores_by v (store_in a t) ≡ false
  unfolding store_in
  store-none a t h = go (ends_in 59 t)
    where
      go : (b : Bool) → stores_by v (cond b (split_store a (take (length t - 1) t)) line.Other) ≡ false
      go true = split-none a (take (length t - 1) t) (all_take last_of (length t - 1) t h)
      go false = refl

  line-none : (l : List ℕ) → all last_of l ≡ true → (0 ≡ line_reads v l) × (false ≡ line_stores v l)
  unfolding line_reads line_stores parse_of
  line-none l h = (sym (reads-by l (parse_of l) h), sym (go (is_decl (trim_of l))))
    where
      go : (b : Bool) → stores_by v (cond b line.Decl (store_in (from_of l) (trim_of l))) ≡ false
      go true = refl
      go false = store-none (from_of l) (trim_of l) (all-trim last_of l h)

  up-all : (b : ℕ) (l : List ℕ) → length l ≤ up_to b l → all (is_not b) l ≡ true
  unfolding up_to
  up-all b [] h = refl
  up-all b (x ∷ l) h = go (eqb x b) h (up-all b l)
    where
      go : (t : Bool) → suc (length l) ≤ cond t 0 (suc (up_to b l)) → (length l ≤ up_to b l → all (is_not b) l ≡ true) → not t && all (is_not b) l ≡ true
      go true k f = absurd (omega arith)
      go false k f = f (omega arith)

  -- the code's test: the place of that digit is past the end
  pub lacks-digit : (l : List ℕ) (d : ℕ) → d ≡ 48 + v % 10 → length l ≤ 0 + up_to d (drop 0 l) → (0 ≡ line_reads v l) × (false ≡ line_stores v l)
  lacks-digit l d e h = line-none l (rw e at (up-all d l (omega (arith, h))))
