-- Laws of scratch loads: members, calls of them, and what changes an object. Assumes nothing.
use Prim.Native.Nat.{ℕ, suc, ◌+◌, ◌-◌, ◌≤◌, ◌<◌, min}
use mathlib.Core.Path.{◌≡◌, refl, sym, ap, ◌∙◌}
use mathlib.Core.Bool.{Bool, true, false, cond, not, ◌&&◌, ◌||◌}
use mathlib.Core.List.{List, [], ◌∷◌, ◌++◌}
use native.Mathlib.Omega.{arith}
use native.Mathlib.Numerals.{add-one}
use borrow.Author.Tests.{lt-ltb, le-ltb}
use lib.Dec.{eqb, ltb, eqb-suc-zero}
use lib.ListN.{length, take, drop, get_or}
use Rattle.lines.specs.Lf.{part, up_to, prefixed, holds, lines_of}
use Rattle.lines.proofs.Tests.{no, and_left, and_right, and_both, and-true, and-false, eqb-sym}
use Rattle.lines.proofs.LfLaws.{rest_of, lines-at, lines_end}
use Rattle.lines.proofs.Compare.{hold-end}
use Rattle.names.specs.Names.{reg_of, is_ident, is_digit, all_names}
use Rattle.std.specs.declared.option.Option.TheVariants.{Some, None}
use Rattle.text.specs.Class.{is_name}
use Rattle.parse.specs.Parse.{parse_of, text_of}
use Rattle.parse.specs.declared.Line.{Line}
use Rattle.place.specs.Region.{is_header}
use Rattle.words.specs.Inner.Runs.{words_of}
use Rattle.words.proofs.HitLaws.{hits-words}
use Rattle.once.specs.Scratch.{object_of, is_member, changes_by, called_below, scratch_at, live_below}

-- ---- a bare member read

module _ (x : List ℕ) (k : ℕ) (q : k ≡ 0 + up_to 46 x) where
  place : k ≡ up_to 46 x
  place = omega arith

  pub member-none : length x ≤ k → is_member x ≡ false
  unfolding is_member
  member-none h = rw (le-ltb (up_to 46 x) (length x) (omega arith))

  pub member-some : k < length x → is_ident (part 0 k x) && is_ident (part (k + 1) (length x) x) ≡ is_member x
  unfolding is_member
  member-some h =
      let z : k - 0 ≡ k = omega arith in
      rw (lt-ltb (up_to 46 x) (length x) (omega arith), rest_of x (k + 1), add-one k, z)
      (ap (λ (n : ℕ). is_ident (take n x) && is_ident (drop (suc n) x)) place)

  pub object-at : part 0 k x ≡ object_of x
  object-at = let z : k - 0 ≡ k = omega arith in rw z (ap (λ (n : ℕ). take n x) place)

-- the object of a member is a simple name
pub member-object : (x : List ℕ) → is_member x ≡ true → is_ident (object_of x) ≡ true
unfolding is_member
member-object x h = and_left _ _ (and_right (ltb (up_to 46 x) (length x)) _ h)

-- ---- a call of it

-- a text followed by a byte that is not 0
pub prefix-end : (x : List ℕ) (b : ℕ) (l : List ℕ) → eqb 0 b ≡ false → prefixed (x ++ b ∷ []) l ≡ prefixed x l && eqb (get_or l (length x) 0) b
unfolding prefixed
prefix-end [] b [] h = sym h
prefix-end [] b (y ∷ l) h = and-true (eqb b y) ∙ eqb-sym b y
prefix-end (a ∷ x) b [] h = refl
prefix-end (a ∷ x) b (y ∷ l) h = go (eqb a y) (prefix-end x b l h)
  where
    go : (t : Bool) → prefixed (x ++ b ∷ []) l ≡ prefixed x l && eqb (get_or l (length x) 0) b →
        t && prefixed (x ++ b ∷ []) l ≡ (t && prefixed x l) && eqb (get_or l (length x) 0) b
    go true e = e
    go false e = refl

module _ (x l : List ℕ) where
  pub call-not : prefixed x l ≡ false → prefixed (x ++ 40 ∷ []) l ≡ false
  call-not h = prefix-end x 40 l refl ∙ rw h

  pub call-byte : prefixed x l ≡ true → prefixed (x ++ 40 ∷ []) l ≡ eqb (get_or l (length x) 0) 40
  call-byte h = prefix-end x 40 l refl ∙ rw h

-- a text that ends in a byte does not stand in none
long-end : (x : List ℕ) (b : ℕ) → eqb (length (x ++ b ∷ [])) 0 ≡ false
long-end [] b = refl
long-end (a ∷ x) b = eqb-suc-zero (length (x ++ b ∷ []))

pub call-end : (x s : List ℕ) (i : ℕ) → length s ≤ i → holds (x ++ 40 ∷ []) (drop i s) ≡ false
call-end x s i h = hold-end (x ++ 40 ∷ []) s i h ∙ long-end x 40

-- ---- what changes an object

ident-some : (p : List ℕ) → is_ident p ≡ true → 0 < length p
unfolding is_ident
ident-some [] h = no h
ident-some (x ∷ p) h = omega arith

ident-names : (p : List ℕ) → is_ident p ≡ true → all_names p ≡ true
unfolding is_ident
ident-names [] h = no h
ident-names (x ∷ p) h = and_both (and_left (is_name x) (not (is_digit x)) (and_left _ (all_names p) h)) (and_right (is_name x && not (is_digit x)) (all_names p) h)

pub changes-name : (obj l t : List ℕ) (p : Line) → is_ident obj ≡ true → p ≡ parse_of l → t ≡ text_of l p → reg_of obj ≡ None → ltb 0 (words_of obj t) ≡ changes_by (reg_of obj) obj l
changes-name obj l t p h q e n =
    rw (n, e, q)
    (ap (λ (k : ℕ). ltb 0 k) (sym (hits-words obj (ident-some obj h) (ident-names obj h) (text_of l (parse_of l)))))

-- ---- the search for the call

called-cons : (x l : List ℕ) (ls : List (List ℕ)) (a b c : Bool) → is_header l ≡ a → holds (x ++ 40 ∷ []) l ≡ b → changes_by (reg_of (object_of x)) (object_of x) l ≡ c →
    called_below x (l ∷ ls) ≡ cond a false (b || (not c && called_below x ls))
unfolding called_below
called-cons x l ls a b c p q r = rw (p, q, r)

called-head : (x l : List ℕ) (ls : List (List ℕ)) → is_header l ≡ true → called_below x (l ∷ ls) ≡ false
called-head x l ls p = called-cons x l ls true _ _ p refl refl

called-call : (x l : List ℕ) (ls : List (List ℕ)) → is_header l ≡ false → holds (x ++ 40 ∷ []) l ≡ true → called_below x (l ∷ ls) ≡ true
called-call x l ls p q = called-cons x l ls false true _ p q refl

module _ (x s : List ℕ) (i e : ℕ) (h : i < length s) (q : e ≡ i + up_to 10 (drop i s)) where
  pub called-header : is_header (part i e s) ≡ true → called_below x (lines_of (drop i s)) ≡ false
  called-header k = ap (called_below x) (lines-at s i e h q) ∙ called-head x _ _ k

  module _ (no : is_header (part i e s) ≡ false) where
    pub called-found : holds (x ++ 40 ∷ []) (part i e s) ≡ true → called_below x (lines_of (drop i s)) ≡ true
    called-found k = ap (called_below x) (lines-at s i e h q) ∙ called-call x _ _ no k

    module _ (obj : List ℕ) (o : obj ≡ object_of x) (not-here : holds (x ++ 40 ∷ []) (part i e s) ≡ false) where
      pub called-changed : changes_by (reg_of obj) obj (part i e s) ≡ true → called_below x (lines_of (drop i s)) ≡ false
      called-changed k =
          ap (called_below x) (lines-at s i e h q)
          ∙ called-cons x _ _ false false true no not-here (ap (λ (z : List ℕ). changes_by (reg_of z) z (part i e s)) (sym o) ∙ k)

      pub called_on : (r : ℕ) → r ≡ min (e + 1) (length s) → changes_by (reg_of obj) obj (part i e s) ≡ false →
          called_below x (lines_of (drop i s)) ≡ called_below x (lines_of (drop r s))
      called_on r z k =
          ap (called_below x) (lines-at s i e h q)
          ∙ called-cons x _ _ false false false no not-here (ap (λ (z : List ℕ). changes_by (reg_of z) z (part i e s)) (sym o) ∙ k)
          ∙ ap (λ (n : ℕ). called_below x (lines_of (drop n s))) (sym z)

pub called-end : (x s : List ℕ) (i : ℕ) → length s ≤ i → called_below x (lines_of (drop i s)) ≡ false
unfolding called_below
called-end x s i h = ap (called_below x) (lines_end s i h)

-- ---- the whole test

module _ (v : ℕ) (x : List ℕ) (ls : List (List ℕ)) where
  -- no call, no scratch load
  pub scratch-calm : called_below x ls ≡ false → scratch_at v x ls ≡ false
  unfolding scratch_at
  scratch-calm h = rw h (ap (◌&&◌ (is_member x)) (and-false (not (live_below v ls))) ∙ and-false (is_member x))

  pub scratch-no : is_member x ≡ false → scratch_at v x ls ≡ false
  unfolding scratch_at
  scratch-no h = rw h

  module _ (m : is_member x ≡ true) where
    pub scratch-live : live_below v ls ≡ true → scratch_at v x ls ≡ false
    unfolding scratch_at
    scratch-live h = rw (m, h)

    pub scratch-called : live_below v ls ≡ false → called_below x ls ≡ scratch_at v x ls
    unfolding scratch_at
    scratch-called h = rw (m, h)
