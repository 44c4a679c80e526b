-- A header is never a store: it begins with a letter that is no white space and not the `r` of a register. Assumes nothing.
use Prim.Native.Nat.{ℕ, zero, suc, ◌+◌, ◌-◌}
use mathlib.Core.Path.{◌≡◌, refl, sym, ap, ◌∙◌}
use mathlib.Core.Bool.{Bool, true, false, cond, not, ◌&&◌, ◌||◌}
use mathlib.Core.List.{List, [], ◌∷◌}
use native.Mathlib.Omega.{arith}
use borrow.Author.Tests.{eqb-true, eq-eqb, ne_eqb, not-true}
use lib.Dec.{eqb, ltb}
use lib.ListN.{length, take, drop, get_or}
use Rattle.lines.specs.Lf.{within, up_to, prefixed, ends_in}
use Rattle.lines.proofs.Tests.{no, and_left, and_right}
use Rattle.text.specs.White.{is_white}
use Rattle.text.specs.Utf8Form.{seq_len}
use Rattle.text.specs.Trim.{point, white_char, white_head, lead, from_of, to_of, trim_of}
use Rattle.names.specs.Names.{reg_of}
use Rattle.std.specs.declared.option.Option.{Option}
use Rattle.names.specs.declared.Register.{Register}
use Rattle.std.specs.declared.option.Option.TheVariants.{Some, None}
use Rattle.parse.specs.declared.Line.{Line}
use Rattle.parse.specs.declared.Line.TheVariants as line
use Rattle.parse.specs.Parse.{is_decl, store_by, split_store, store_in, parse_of}
use Rattle.place.specs.Region.{let_phi, is_header}
use Rattle.calls.specs.Leaves.{other}
use Rattle.calls.specs.LeavesOf.{parsed_by, parsed_of}

-- a header begins with `f`, `v`, `l` or `c`: what holds of these four holds of its first byte
module _ (f : ℕ → Bool) (hf : f 102 ≡ true) (hv : f 118 ≡ true) (hl : f 108 ≡ true) (hc : f 99 ≡ true) where
  first-letter : (x : ℕ) (p q r s t : Bool) → (eqb 102 x && p) || ((eqb 118 x && q) || ((eqb 108 x && r) || ((eqb 99 x && s) || (eqb 99 x && t)))) ≡ true → f x ≡ true
  first-letter x p q r s t h = go (eqb 102 x) refl (eqb 118 x) refl (eqb 108 x) refl (eqb 99 x) refl h
    where
      at : (n : ℕ) → eqb n x ≡ true → f n ≡ true → f x ≡ true
      at n e g = ap f (sym (eqb-true n x e)) ∙ g

      go : (a : Bool) → eqb 102 x ≡ a → (b : Bool) → eqb 118 x ≡ b → (c : Bool) → eqb 108 x ≡ c → (d : Bool) → eqb 99 x ≡ d →
          (a && p) || ((b && q) || ((c && r) || ((d && s) || (d && t)))) ≡ true → f x ≡ true
      go true e b g c k d m z = at 102 e hf
      go false e true g c k d m z = at 118 g hv
      go false e false g true k d m z = at 108 k hl
      go false e false g false k true m z = at 99 m hc
      go false e false g false k false m z = no z

  pub header-first : (x : ℕ) (xs : List ℕ) → is_header (x ∷ xs) ≡ true → f x ≡ true
  unfolding is_header prefixed
  header-first x xs h = first-letter x _ _ _ _ _ (and_right (not (prefixed let_phi (x ∷ xs))) _ h)

-- a text is empty or begins with x
unfoldable led : ℕ → List ℕ → Bool
led x [] = true
led x (y ∷ ys) = eqb y x

led-take : (x n : ℕ) (s : List ℕ) → led x s ≡ true → led x (take n s) ≡ true
unfolding led
led-take x zero s h = refl
led-take x (suc n) [] h = refl
led-take x (suc n) (y ∷ ys) h = h

-- ASCII, no white space, and not `r`
abbrev solid : ℕ → Bool
solid x = within 0 127 x && (not (is_white x) && not (eqb 114 x))

module _ (x : ℕ) (h : solid x ≡ true) where
  ascii : within 0 127 x ≡ true
  ascii = and_left (within 0 127 x) (not (is_white x) && not (eqb 114 x)) h

  no-white : is_white x ≡ false
  no-white = not-true (is_white x) (and_left (not (is_white x)) (not (eqb 114 x)) (and_right (within 0 127 x) (not (is_white x) && not (eqb 114 x)) h))

  no-reg : eqb 114 x ≡ false
  no-reg = not-true (eqb 114 x) (and_right (not (is_white x)) (not (eqb 114 x)) (and_right (within 0 127 x) (not (is_white x) && not (eqb 114 x)) h))

  white-none : (w : List ℕ) → white_char (x ∷ w) ≡ false
  unfolding white_char seq_len
  white-none [] = rw (ascii, no-white)
  white-none (y ∷ w) = rw ascii (ap (λ (b : Bool). b && is_white (point (x ∷ y ∷ w))) (ne_eqb 1 (suc (suc (length w))) (λ e. omega arith)))

  head-none : (w : List ℕ) → white_head (x ∷ w) ≡ 0
  unfolding white_head
  head-none w = rw (white-none [], white-none (take 1 w), white-none (take 2 w))

  -- trimming takes nothing from its front
  from-none : (s : List ℕ) → led x s ≡ true → from_of s ≡ 0
  unfolding from_of lead led
  from-none [] e = refl
  from-none (y ∷ ys) e = rw (ap (λ (z : ℕ). white_head (z ∷ ys)) (eqb-true y x e) ∙ head-none ys)

  led-trim : (s : List ℕ) → led x s ≡ true → led x (trim_of s) ≡ true
  unfolding trim_of
  led-trim s e = rw (from-none s e) (led-take x (to_of s) s e)

  -- it names no register
  led-reg : (s : List ℕ) → led x s ≡ true → reg_of s ≡ None
  unfolding reg_of prefixed led
  led-reg [] e = refl
  led-reg (y ∷ ys) e = rw (ap (λ (z : ℕ). eqb 114 z) (eqb-true y x e) ∙ no-reg)

  split-none : (a : ℕ) (u : List ℕ) → led x u ≡ true → split_store a u ≡ line.Other
  split-none a u e =
      go (ltb (up_to 61 u) (length u) && not (eqb (get_or u (up_to 61 u + 1) 0) 61)) (reg_of (trim_of (take (up_to 61 u) u)))
      (led-reg (trim_of (take (up_to 61 u) u)) (led-trim (take (up_to 61 u) u) (led-take x (up_to 61 u) u e)))
    where
      go : (b : Bool) (r : Option Register) → r ≡ None → cond b (store_by r (a + (up_to 61 u + 1)) (drop (up_to 61 u + 1) u)) line.Other ≡ line.Other
      go true r q = rw q
      go false r q = refl

  store-none : (a : ℕ) (t : List ℕ) → led x t ≡ true → store_in a t ≡ line.Other
  unfolding store_in
  store-none a t e = go (ends_in 59 t)
    where
      go : (b : Bool) → cond b (split_store a (take (length t - 1) t)) line.Other ≡ line.Other
      go true = split-none a (take (length t - 1) t) (led-take x (length t - 1) t e)
      go false = refl

  led-other : (l : List ℕ) → led x l ≡ true → parsed_of l ≡ other
  unfolding parsed_of parse_of
  led-other l e = go (is_decl (trim_of l)) (store_in (from_of l) (trim_of l)) (store-none (from_of l) (trim_of l) (led-trim l e))
    where
      go : (b : Bool) (s : Line) → s ≡ line.Other → parsed_by l (cond b line.Decl s) ≡ other
      go true s q = refl
      go false s q = rw q

-- a header is never a store
pub header-other : (l : List ℕ) → is_header l ≡ true → parsed_of l ≡ other
unfolding is_header prefixed led is_white
header-other [] h = no h
header-other (x ∷ xs) h = led-other x (header-first solid refl refl refl refl x xs h) (x ∷ xs) (self x)
  where
    self : (x : ℕ) → eqb x x ≡ true
    self x = eq-eqb x x refl
