-- Lines that are told by their first bytes: no declaration, other, and plainly a store. Assumes nothing.
use Prim.Native.Nat.{ℕ, zero, suc, ◌+◌, ◌-◌, ◌≤◌, ◌<◌}
use mathlib.Core.Path.{◌≡◌, refl, sym, ap, ◌∙◌}
use mathlib.Core.Bool.{Bool, true, false, cond, not, ◌&&◌}
use mathlib.Core.List.{List, [], ◌∷◌}
use native.Mathlib.Omega.{arith}
use borrow.Author.Tests.{eq-eqb, ne_eqb, eqb-true, le-leb, leb-true}
use lib.Dec.{eqb, leb, ltb}
use lib.ListN.{length, take, drop, get_or, length-drop}
use lib.Seq.{drop-cons, take-length, take-take, get_or-take, get_or-drop, length-take-le}
use Rattle.lines.specs.Lf.{part, up_to, prefixed, ends_in}
use Rattle.lines.proofs.LfLaws.{rest_of}
use Rattle.lines.proofs.Tests.{no, and-false, and_left, and_right}
use Rattle.text.specs.Trim.{lead, from_of, end_white, to_of, to_end, trim_start, trim_of}
use Rattle.text.proofs.Trims.{from_of-le, to_of-le, front-space, front-told, back-space, back-told}
use Rattle.names.specs.Names.{is_digit, is_reg, numbered, read_number, reg_of}
use Rattle.names.specs.declared.Register.{Register}
use Rattle.std.specs.declared.option.Option.{Option}
use Rattle.std.specs.declared.option.Option.TheVariants.{Some, None}
use Rattle.names.proofs.Texts.{reg-first}
use Rattle.parse.specs.declared.Line.TheVariants as line
use Rattle.parse.specs.Parse.{is_decl, store_by, split_store, store_in, parse_of}
use Rattle.parse.specs.Inner.Parse.{digits_len, plain_byte, plain_value}
use Rattle.parse.proofs.ParseLaws.{store-reg}
use Rattle.parse.proofs.Plain.{inside, name-at, plain-above, plain-below, starts-plain, ends-plain, digits-all, name-last, digits-past, up-take}

-- ---- the first byte that is no white space

-- what is taken from a list begins with its first byte, if with any
pub first_taken : (b : ℕ) → (0 ≡ b → ⊥) → (n : ℕ) (l : List ℕ) → (get_or l 0 0 ≡ b → ⊥) → get_or (take n l) 0 0 ≡ b → ⊥
first_taken b z zero l h = z
first_taken b z (suc n) [] h = h
first_taken b z (suc n) (x ∷ l) h = h

decl-first : (t : List ℕ) → (get_or t 0 0 ≡ 108 → ⊥) → is_decl t ≡ false
unfolding is_decl prefixed
decl-first [] n = refl
decl-first (x ∷ xs) n = rw (ne_eqb 108 x (λ e. n (sym e))) (and-false (ltb 4 (length (x ∷ xs))))

-- a line whose first byte that is no white space is no `l` is no declaration
pub decl-other : (l : List ℕ) (a : ℕ) → a ≡ from_of l → (get_or l a 0 ≡ 108 → ⊥) → is_decl (trim_of l) ≡ false
unfolding trim_of
decl-other l a p n =
    let r : List ℕ = drop (from_of l) l in
    let z : a ≡ from_of l + 0 = omega arith in
    decl-first (trim_of l) (first_taken 108 (λ e. absurd (omega arith)) (to_of r) r (λ e. n (ap (λ (k : ℕ). get_or l k 0) z ∙ sym (get_or-drop (from_of l) l 0 0) ∙ e)))

-- ---- a line that begins with c, and then with r: of what is taken from it nothing names a register

empty-none : reg_of (trim_of []) ≡ None
unfolding reg_of prefixed trim_of from_of to_of lead end_white
empty-none = refl

module _ (c : ℕ) (r : List ℕ) (none : (k m x : ℕ) → reg_of (trim_of (take k (take m (take x (c ∷ r))))) ≡ None) where
  store-none-of : (b x : ℕ) → store_in b (take x (c ∷ r)) ≡ line.Other
  unfolding store_in
  store-none-of b x = go (ends_in 59 (take x (c ∷ r)))
    where
      u : List ℕ
      u = take (length (take x (c ∷ r)) - 1) (take x (c ∷ r))

      by : (g : Bool) → cond g (store_by (reg_of (trim_of (take (up_to 61 u) u))) (b + (up_to 61 u + 1)) (drop (up_to 61 u + 1) u)) line.Other ≡ line.Other
      by true = ap (λ (k : Option Register). store_by k (b + (up_to 61 u + 1)) (drop (up_to 61 u + 1) u)) (none (up_to 61 u) (length (take x (c ∷ r)) - 1) x)
      by false = refl

      go : (w : Bool) → cond w (split_store b u) line.Other ≡ line.Other
      go true = by (ltb (up_to 61 u) (length u) && not (eqb (get_or u (up_to 61 u + 1) 0) 61))
      go false = refl

  parse-none : (l : List ℕ) (a : ℕ) → a ≡ from_of l → drop a l ≡ c ∷ r → is_decl (trim_of l) ≡ false → line.Other ≡ parse_of l
  unfolding parse_of trim_of
  parse-none l a p e d =
      let x : ℕ = to_of (drop (from_of l) l) in
      sym
      (ap (λ (b : Bool). cond b line.Decl (store_in (from_of l) (trim_of l))) d
      ∙ ap (λ (y : List ℕ). store_in (from_of l) (take x y)) (ap (λ (i : ℕ). drop i l) (sym p) ∙ e) ∙ store-none-of (from_of l) x)

-- ---- a line that begins with another byte than `l` and `r`

-- what is trimmed begins with the same byte
pub trim-other : (c b : ℕ) → plain_byte c ≡ true → (0 ≡ b → ⊥) → (c ≡ b → ⊥) → (y : List ℕ) → get_or y 0 0 ≡ c → get_or (trim_of y) 0 0 ≡ b → ⊥
unfolding trim_of
trim-other c b t z n y e =
    first_taken b z (to_of (trim_start y)) (trim_start y) (λ h. n (sym e ∙ ap (λ (k : ℕ). get_or (drop k y) 0 0) (starts-plain y (ap (λ (x : ℕ). plain_byte x) e ∙ t)) ∙ h))

module _ (c : ℕ) (t : plain_byte c ≡ true) (n : c ≡ 114 → ⊥) where
  trim-none : (y : List ℕ) → get_or y 0 0 ≡ c → reg_of (trim_of y) ≡ None
  trim-none y e = reg-first (trim_of y) (trim-other c 114 t (λ z. absurd (omega arith)) n y e)

  pub taken_none : (r : List ℕ) (k m x : ℕ) → reg_of (trim_of (take k (take m (take x (c ∷ r))))) ≡ None
  taken_none r zero m x = empty-none
  taken_none r (suc k) zero x = empty-none
  taken_none r (suc k) (suc m) zero = empty-none
  taken_none r (suc k) (suc m) (suc x) = trim-none (c ∷ take k (take m (take x r))) refl

  pub parse-other : (l : List ℕ) (a : ℕ) → a ≡ from_of l → c ≡ get_or l a 0 → is_decl (trim_of l) ≡ false → line.Other ≡ parse_of l
  parse-other l a p e d =
      let k = plain-above c t in
      let h : a < length l = inside l a (λ z. absurd (omega arith)) in
      parse-none c (drop (suc a) l) (taken_none (drop (suc a) l)) l a p (drop-cons l a 0 h ∙ ap (λ (x : ℕ). x ∷ drop (suc a) l) (sym e)) d

-- ---- a line that begins with `r` and no digit behind it

-- what is taken from such a text names no register
pub bare-none : (n : ℕ) (l : List ℕ) → is_digit (get_or l 0 0) ≡ false → reg_of (take n (114 ∷ l)) ≡ None
unfolding reg_of prefixed read_number numbered
bare-none zero l e = refl
bare-none (suc zero) l e = refl
bare-none (suc (suc n)) [] e = refl
bare-none (suc (suc n)) (x ∷ l) e = rw e

bare-trim : (w : List ℕ) → is_digit (get_or w 0 0) ≡ false → reg_of (trim_of (114 ∷ w)) ≡ None
unfolding trim_of
bare-trim w e = ap (λ (k : ℕ). reg_of (take (to_of (drop k (114 ∷ w))) (drop k (114 ∷ w)))) (sym (starts-plain (114 ∷ w) refl)) ∙ bare-none (to_of (114 ∷ w)) w e

digit-taken : (n : ℕ) (l : List ℕ) → is_digit (get_or l 0 0) ≡ false → is_digit (get_or (take n l) 0 0) ≡ false
digit-taken zero l e = refl
digit-taken (suc n) [] e = refl
digit-taken (suc n) (x ∷ l) e = e

bare-taken : (r : List ℕ) → is_digit (get_or r 0 0) ≡ false → (k m x : ℕ) → reg_of (trim_of (take k (take m (take x (114 ∷ r))))) ≡ None
bare-taken r e zero m x = empty-none
bare-taken r e (suc k) zero x = empty-none
bare-taken r e (suc k) (suc m) zero = empty-none
bare-taken r e (suc k) (suc m) (suc x) = bare-trim (take k (take m (take x r))) (digit-taken k (take m (take x r)) (digit-taken m (take x r) (digit-taken x r e)))

digits-none : (l : List ℕ) → digits_len l ≡ 0 → is_digit (get_or l 0 0) ≡ false
unfolding digits_len
digits-none [] h = refl
digits-none (x ∷ l) h = go (is_digit x) h
  where
    go : (t : Bool) → cond t (suc (digits_len l)) 0 ≡ 0 → t ≡ false
    go true k = absurd (omega arith)
    go false k = refl

-- e is where the digits end
pub parse-bare : (l : List ℕ) (a e : ℕ) → a ≡ from_of l → get_or l a 0 ≡ 114 → e ≡ a + 1 + digits_len (drop (a + 1) l) → e - a < 2 → line.Other ≡ parse_of l
parse-bare l a e p r q h =
    let z : digits_len (drop (a + 1) l) ≡ 0 = omega arith in
    parse-none 114 (drop (a + 1) l) (bare-taken (drop (a + 1) l) (digits-none (drop (a + 1) l) z)) l a p (name-at l a r) (decl-other l a p (λ x. absurd (omega arith)))

-- ---- a declaration

pub parse-let : (l : List ℕ) → is_decl (trim_of l) ≡ true → line.Decl ≡ parse_of l
unfolding parse_of
parse-let l d = sym (ap (λ (b : Bool). cond b line.Decl (store_in (from_of l) (trim_of l))) d)

-- the trimmed line, from where it begins
module _ (l : List ℕ) (a n : ℕ) (p : a ≡ from_of l) (q : n ≡ to_of (part a (length l) l)) where
  rest-to : n ≡ to_of (drop (from_of l) l)
  rest-to = q ∙ ap to_of (rest_of l a) ∙ ap (λ (k : ℕ). to_of (drop k l)) p

  pub rest-fits : (a ≤ length l) × (a + n ≤ length l)
  rest-fits = (omega (arith, from_of-le l), omega (arith, from_of-le l, rest-to, to_of-le (drop (from_of l) l), length-drop (from_of l) l))

  pub rest-trimmed : part a (a + n) l ≡ trim_of l
  unfolding trim_of
  rest-trimmed =
      let z : a + n - a ≡ n = omega arith in
      ap (λ (k : ℕ). take k (drop a l)) (z ∙ rest-to) ∙ ap (λ (k : ℕ). take (to_of (drop (from_of l) l)) (drop k l)) p

-- ---- a line that is plainly a store

record ValueAt (e : ℕ) (l : List ℕ) : Type 0 where
  room : e + 5 ≤ length l
  gap : get_or l e 0 ≡ 32
  sign : get_or l (e + 1) 0 ≡ 61
  next : get_or l (e + 2) 0 ≡ 32
  first : plain_byte (get_or l (e + 3) 0) ≡ true
  last : plain_byte (get_or l (length l - 2) 0) ≡ true
  shut : get_or l (length l - 1) 0 ≡ 59

value-at : (e : ℕ) (l : List ℕ) → plain_value e l ≡ true → ValueAt e l
value-at e l v =
    let a = and_right (leb (e + 5) (length l)) _ v in
    let b = and_right (eqb (get_or l e 0) 32) _ a in
    let c = and_right (eqb (get_or l (e + 1) 0) 61) _ b in
    let d = and_right (eqb (get_or l (e + 2) 0) 32) _ c in
    let f = and_right (plain_byte (get_or l (e + 3) 0)) _ d in
    record {
      room = leb-true (e + 5) (length l) (and_left (leb (e + 5) (length l)) _ v);
      gap = eqb-true (get_or l e 0) 32 (and_left (eqb (get_or l e 0) 32) _ a);
      sign = eqb-true (get_or l (e + 1) 0) 61 (and_left (eqb (get_or l (e + 1) 0) 61) _ b);
      next = eqb-true (get_or l (e + 2) 0) 32 (and_left (eqb (get_or l (e + 2) 0) 32) _ c);
      first = and_left (plain_byte (get_or l (e + 3) 0)) _ d;
      last = and_left (plain_byte (get_or l (length l - 2) 0)) _ f;
      shut = eqb-true (get_or l (length l - 1) 0) 59 (and_right (plain_byte (get_or l (length l - 2) 0)) _ f);
    }

pub value_room : (e : ℕ) (l : List ℕ) → plain_value e l ≡ true → e + 5 ≤ length l
value_room e l v = (value-at e l v).room

-- a line whose last byte is `;`, from a place in it on
pub shut-last : (l : List ℕ) (a : ℕ) → a < length l → get_or l (length l - 1) 0 ≡ 59 → get_or (drop a l) (length (drop a l) - 1) 0 ≡ 59
shut-last l a h e =
    let z : a + (length (drop a l) - 1) ≡ length l - 1 = omega (arith, length-drop a l) in
    get_or-drop a l (length (drop a l) - 1) 0 ∙ ap (λ (n : ℕ). get_or l n 0) z ∙ e

pub shut-trim : (l : List ℕ) (a : ℕ) → a ≡ from_of l → a < length l → get_or l (length l - 1) 0 ≡ 59 → trim_of l ≡ drop a l
unfolding trim_of
shut-trim l a p h e =
    let body : List ℕ = drop a l in
    let x : length body ≡ to_of body = ends-plain body (omega (arith, length-drop a l)) (ap (λ (b : ℕ). plain_byte b) (shut-last l a h e)) in
    ap (λ (n : ℕ). take (to_of (drop n l)) (drop n l)) (sym p) ∙ ap (λ (n : ℕ). take n body) (sym x) ∙ take-length body

-- a text with one space at its end, or at its front
pub spaced-to : (x : List ℕ) → 2 ≤ length x → get_or x (length x - 1) 0 ≡ 32 → plain_byte (get_or x (length x - 2) 0) ≡ true → length x - 1 ≡ to_of x
unfolding to_of
spaced-to x h e g =
    let c : ℕ = get_or x (length x - 2) 0 in
    let z : length x - 2 ≡ length x - 1 - 1 = omega arith in
    let b : c ≡ cond (leb 1 (length x - 1)) (get_or x (length x - 1 - 1) 0) 0 = sym (ap (λ (t : Bool). cond t (get_or x (length x - 1 - 1) 0) 0) (le-leb 1 (length x - 1) (omega arith)) ∙ ap (λ (n : ℕ). get_or x n 0) (sym z)) in
    back-told x (length x - 1) c (omega arith) (back-space x (length x) (omega arith) (omega arith) e) b (plain-above c g) (plain-below c g)

trim-spaced : (x : List ℕ) → 2 ≤ length x → plain_byte (get_or x 0 0) ≡ true → get_or x (length x - 1) 0 ≡ 32 → plain_byte (get_or x (length x - 2) 0) ≡ true → trim_of x ≡ take (length x - 1) x
unfolding trim_of
trim-spaced x h f e g = ap (λ (n : ℕ). take (to_of (drop n x)) (drop n x)) (sym (starts-plain x f)) ∙ ap (λ (n : ℕ). take n x) (sym (spaced-to x h e g))

pub spaced-from : (x : List ℕ) → 2 ≤ length x → get_or x 0 0 ≡ 32 → plain_byte (get_or x 1 0) ≡ true → 1 ≡ from_of x
spaced-from x h e f = front-told x 1 (get_or x 1 0) (omega arith) (front-space x 0 (omega arith) e) refl (plain-above (get_or x 1 0) f) (plain-below (get_or x 1 0) f)

pub spaced-end : (x : List ℕ) → 2 ≤ length x → get_or x 0 0 ≡ 32 → plain_byte (get_or x 1 0) ≡ true → plain_byte (get_or x (length x - 1) 0) ≡ true → to_end x ≡ length x
spaced-end x h e f g =
    let d = length-drop 1 x in
    let z : 1 + (length (drop 1 x) - 1) ≡ length x - 1 = omega arith in
    let c : get_or (drop 1 x) (length (drop 1 x) - 1) 0 ≡ get_or x (length x - 1) 0 = get_or-drop 1 x (length (drop 1 x) - 1) 0 ∙ ap (λ (n : ℕ). get_or x n 0) z in
    let t = ends-plain (drop 1 x) (omega arith) (ap (λ (b : ℕ). plain_byte b) c ∙ g) in
    ap (λ (n : ℕ). n + to_of (drop n x)) (sym (spaced-from x h e f)) ∙ omega arith

module _ (l : List ℕ) (a e : ℕ) (p : a ≡ from_of l) (r : get_or l a 0 ≡ 114) (q : e ≡ a + 1 + digits_len (drop (a + 1) l)) (v : ValueAt e l) where
  abbrev body : List ℕ
  body = drop a l

  abbrev rest : List ℕ
  rest = drop (a + 1) l

  -- without its `;`, and where the `=` stands in it
  abbrev u : List ℕ
  u = take (length body - 1) body

  abbrev k : ℕ
  k = e + 1 - a

  abbrev rhs : List ℕ
  rhs = drop (k + 1) u

  body_at : (j m : ℕ) → a + j ≡ m → get_or body j 0 ≡ get_or l m 0
  body_at j m z = get_or-drop a l j 0 ∙ ap (λ (n : ℕ). get_or l n 0) z

  body-shut : get_or body (length body - 1) 0 ≡ 59
  body-shut = shut-last l a (omega (arith, v.room, q)) v.shut

  trimmed : trim_of l ≡ body
  trimmed = shut-trim l a p (omega (arith, v.room, q)) v.shut

  u-long : length u ≡ length l - a - 1
  u-long = omega (arith, length-take-le (length body - 1) body (omega arith), length-drop a l)

  u-at : (j m : ℕ) → m + 1 < length l → a + j ≡ m → get_or u j 0 ≡ get_or l m 0
  u-at j m h z = get_or-take (length body - 1) body j 0 (omega (arith, length-drop a l)) ∙ body_at j m z

  found : k ≡ 0 + up_to 61 u
  unfolding up_to
  found =
      let n : ℕ = digits_len rest in
      let m : a + 1 + n ≡ e = omega arith in
      let w : a + 1 + (n + 1) ≡ e + 1 = omega arith in
      let g : get_or rest n 0 ≡ 32 = get_or-drop (a + 1) l n 0 ∙ ap (λ (i : ℕ). get_or l i 0) m ∙ v.gap in
      let s : get_or rest (n + 1) 0 ≡ 61 = get_or-drop (a + 1) l (n + 1) 0 ∙ ap (λ (i : ℕ). get_or l i 0) w ∙ v.sign in
      let d : up_to 61 rest ≡ n + 1 = digits-past 61 rest refl (omega (arith, length-drop (a + 1) l, v.room)) (λ z. absurd (omega arith)) s in
      let b : up_to 61 body ≡ suc (up_to 61 rest) = ap (up_to 61) (name-at l a r) in
      let t : up_to 61 u ≡ up_to 61 body = up-take 61 (length body - 1) body (omega (arith, length-drop a l, v.room)) in
      omega arith

  left : trim_of (take k u) ≡ part a e l
  left =
      let n : ℕ = digits_len rest in
      let x : List ℕ = take k body in
      let f : take k u ≡ x = take-take k (length body - 1) body (omega (arith, length-drop a l, v.room)) in
      let z : length x ≡ k = length-take-le k body (omega (arith, length-drop a l, v.room)) in
      let at : (j m : ℕ) → j < k → a + j ≡ m → get_or x j 0 ≡ get_or l m 0 = λ j m h y. get_or-take k body j 0 h ∙ body_at j m y in
      let b = digits-all rest in
      let i₁ : length x - 2 ≡ length (take n rest) = omega (arith, length-take-le n rest b.0) in
      let i₂ : length x - 1 ≡ e - a = omega arith in
      let c : get_or x (length x - 2) 0 ≡ get_or (114 ∷ take n rest) (length (take n rest)) 0 =
      ap (λ (y : List ℕ). get_or (take k y) (length x - 2) 0) (name-at l a r) ∙ get_or-take k (114 ∷ rest) (length x - 2) 0 (omega arith)
      ∙ sym (get_or-take (suc n) (114 ∷ rest) (length x - 2) 0 (omega arith)) ∙ ap (λ (i : ℕ). get_or (114 ∷ take n rest) i 0) i₁ in
      ap trim_of f
      ∙ trim-spaced x (omega arith) (ap (λ (y : ℕ). plain_byte y) (at 0 a (omega arith) (omega arith) ∙ r)) (at (length x - 1) e (omega arith) (omega arith) ∙ v.gap)
      (ap (λ (y : ℕ). plain_byte y) c ∙ name-last (take n rest) b.1)
      ∙ take-take (length x - 1) k body (omega arith) ∙ ap (λ (i : ℕ). take i body) i₂

  rhs-at : (j m : ℕ) → m + 1 < length l → e + 2 + j ≡ m → get_or rhs j 0 ≡ get_or l m 0
  rhs-at j m h z = get_or-drop (k + 1) u j 0 ∙ u-at (k + 1 + j) m h (omega arith)

  rhs-long : length rhs ≡ length l - (e + 3)
  rhs-long = omega (arith, length-drop (k + 1) u, u-long, v.room)

  rhs-two : 2 ≤ length rhs
  rhs-two = omega (arith, rhs-long, v.room)

  rhs-gap : get_or rhs 0 0 ≡ 32
  rhs-gap = rhs-at 0 (e + 2) (omega (arith, v.room)) (omega arith) ∙ v.next

  rhs-first : plain_byte (get_or rhs 1 0) ≡ true
  rhs-first = ap (λ (b : ℕ). plain_byte b) (rhs-at 1 (e + 3) (omega (arith, v.room)) (omega arith)) ∙ v.first

  value-from : 1 ≡ from_of rhs
  value-from = spaced-from rhs rhs-two rhs-gap rhs-first

  value-to : to_end rhs ≡ length rhs
  value-to =
      spaced-end rhs rhs-two rhs-gap rhs-first
      (ap (λ (b : ℕ). plain_byte b) (rhs-at (length rhs - 1) (length l - 2) (omega (arith, v.room)) (omega (arith, rhs-long, v.room))) ∙ v.last)

  store_is : (g : Register) → Some g ≡ reg_of (part a e l) → line.Store (record { reg = g; from = e + 3; to = length l - 1 }) ≡ parse_of l
  unfolding parse_of store_in
  store_is g y =
      let f : a + (k + 1) + from_of rhs ≡ e + 3 = omega (arith, value-from) in
      let t : a + (k + 1) + to_end rhs ≡ length l - 1 = omega (arith, value-to, rhs-long, v.room) in
      let s : split_store a u ≡ store_by (Some g) (a + (k + 1)) rhs =
      store-reg a u k found (omega (arith, u-long, v.room)) (λ z. absurd (omega (arith, u-at (k + 1) (e + 2) (omega (arith, v.room)) (omega arith), v.next))) (Some g) (y ∙ ap reg_of (sym left)) in
      sym
      (ap (λ (b : Bool). cond b line.Decl (store_in (from_of l) (trim_of l))) (decl-other l a p (λ z. absurd (omega arith)))
      ∙ ap (λ (n : ℕ). store_in n (trim_of l)) (sym p)
      ∙ ap (store_in a) trimmed
      ∙ ap (λ (b : Bool). cond b (split_store a u) line.Other) (eq-eqb (get_or body (length body - 1) 0) 59 body-shut)
      ∙ s
      ∙ ap (λ (n : ℕ). line.Store (record { reg = g; from = n; to = a + (k + 1) + to_end rhs })) f
      ∙ ap (λ (n : ℕ). line.Store (record { reg = g; from = e + 3; to = n })) t)

pub plain-store : (l : List ℕ) (a e : ℕ) → a ≡ from_of l → get_or l a 0 ≡ 114 → e ≡ a + 1 + digits_len (drop (a + 1) l) → plain_value e l ≡ true →
    (g : Register) → Some g ≡ reg_of (part a e l) → line.Store (record { reg = g; from = e + 3; to = length l - 1 }) ≡ parse_of l
plain-store l a e p r q v g y = store_is l a e p r q (value-at e l v) g y

-- what is told of a line where its register is read only if it is plainly a store
module _ (l : List ℕ) (a e : ℕ) (g : Register) (y : Some g ≡ cond (plain_value e l) (reg_of (part a e l)) None) where
  told-both : (plain_value e l ≡ true) × (Some g ≡ reg_of (part a e l))
  told-both = go (plain_value e l) refl
    where
      go : (b : Bool) → plain_value e l ≡ b → (plain_value e l ≡ true) × (Some g ≡ reg_of (part a e l))
      go true p = (p, y ∙ ap (λ (b : Bool). cond b (reg_of (part a e l)) None) p)
      go false p = no (sym (ap is_reg (y ∙ ap (λ (b : Bool). cond b (reg_of (part a e l)) None) p)))

  pub told-room : e + 5 ≤ length l
  told-room = value_room e l told-both.0

  pub told-store : a ≡ from_of l → get_or l a 0 ≡ 114 → e ≡ a + 1 + digits_len (drop (a + 1) l) → line.Store (record { reg = g; from = e + 3; to = length l - 1 }) ≡ parse_of l
  told-store p r q = plain-store l a e p r q told-both.0 g told-both.1
