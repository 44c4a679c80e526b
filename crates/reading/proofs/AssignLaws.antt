-- Laws of the two sides of an assignment. Assumes nothing.
use Prim.Native.Nat.{ℕ, suc, ◌+◌, ◌-◌, ◌≤◌, ◌<◌}
use mathlib.Core.Path.{◌≡◌, refl, sym, ap, ◌∙◌}
use mathlib.Core.Bool.{Bool, true, false, cond, ◌&&◌}
use mathlib.Core.List.{List, [], ◌∷◌}
use native.Mathlib.Omega.{arith}
use native.Mathlib.Numerals.{add-one}
use borrow.Author.Tests.{eq-eqb, ne_eqb, eqb-true, lt-ltb, le-ltb, ltb-true, leb-true}
use lib.Dec.{eqb, leb, ltb}
use lib.ListN.{length, take, drop, get_or, length-take, length-drop}
use lib.Seq.{take-take, drop-drop, get_or-take, get_or-drop, length-take-le}
use Rattle.lines.specs.Lf.{part, up_to, ends_in}
use Rattle.lines.proofs.Tests.{and_left, and_right}
use Rattle.lines.proofs.LfLaws.{rest_of}
use Rattle.text.specs.Trim.{from_of, to_of, to_end, trim_of}
use Rattle.text.specs.declared.Span.{Span}
use Rattle.text.proofs.Trims.{to_end-le, trim-part}
use Rattle.parse.specs.Inner.Parse.{plain_byte}
use Rattle.parse.proofs.Plain.{starts-plain}
use Rattle.parse.proofs.PlainLine.{spaced-to, spaced-from, spaced-end}
use Rattle.parse.proofs.Shut.{drop-take}
use Rattle.reading.specs.declared.Sides.{Sides}
use Rattle.std.specs.declared.option.Option.TheVariants.{Some, None}
use Rattle.reading.specs.Assign.{unended, is_assign, left_of, right_of}
use Rattle.reading.specs.Inner.Assign.{split_at, plain_sides, sides_of, assign_of}

-- ---- parts of parts

-- a part of what stands in front
pub part-take : (s : List ℕ) (m a e : ℕ) → e ≤ m → part a e (take m s) ≡ part a e s
part-take s m a e h = ap (take (e - a)) (drop-take a m s) ∙ take-take (e - a) (m - a) (drop a s) (omega arith)

-- a part of what stands behind
pub part-drop : (s : List ℕ) (b a e : ℕ) → part a e (drop b s) ≡ part (b + a) (b + e) s
part-drop s b a e = let q : e - a ≡ b + e - (b + a) = omega arith in ap (take (e - a)) (drop-drop a b s) ∙ ap (λ (n : ℕ). take n (drop (b + a) s)) q

-- ---- the sides, as the code finds them

-- a span of two places
abbrev spanned : ℕ → ℕ → Span
spanned f t = record { from = f; to = t }

span-is : (w : Span) {f t : ℕ} → w.from ≡ f → w.to ≡ t → w ≡ spanned f t
span-is w {f} {t} a b = ap (λ (x : ℕ). spanned x w.to) a ∙ ap (λ (x : ℕ). spanned f x) b

module _ (u : List ℕ) (k : ℕ) (q' : k ≡ 0 + up_to 61 u) where
  pub sides-none : length u ≤ k → sides_of u ≡ None
  sides-none h = let q : k ≡ up_to 61 u = omega arith in rw (← q, le-ltb k (length u) h)

  pub sides-split : k < length u → sides_of u ≡ split_at k u
  sides-split h = let q : k ≡ up_to 61 u = omega arith in rw (← q, lt-ltb k (length u) h)

  -- as they are put together from the two spans
  pub sides-are : k < length u → (w v : Span) → w.from ≡ from_of (take k u) → w.to ≡ to_end (take k u) → v.from ≡ from_of (part (k + 1) (length u) u) → v.to ≡ to_end (part (k + 1) (length u) u) →
      Some (record { left = w; right = record { from = k + 1 + v.from; to = k + 1 + v.to } }) ≡ sides_of u
  sides-are h w v a b c d =
      let r = rest_of u (k + 1) in
      let f : v.from ≡ from_of (drop (k + 1) u) = c ∙ ap from_of r in
      let g : v.to ≡ to_end (drop (k + 1) u) = d ∙ ap (λ (l : List ℕ). to_end l) r in
      ap (λ (x : Span). Some (record { left = x; right = record { from = k + 1 + v.from; to = k + 1 + v.to } })) (span-is w a b)
      ∙ rw (f, g, add-one k) (sym (sides-split h))

  -- with one space on either side of the `=`
  module _ (p : plain_sides k u ≡ true) where
    far : 2 ≤ k
    far = leb-true 2 k (and_left (leb 2 k) _ p)

    p₁ : leb (k + 3) (length u) && (eqb (get_or u (k - 1) 0) 32 && (eqb (get_or u (k + 1) 0) 32 && (plain_byte (get_or u 0 0) && (plain_byte (get_or u (k - 2) 0) && (plain_byte (get_or u (k + 2) 0) && plain_byte (get_or u (length u - 1) 0)))))) ≡ true
    p₁ = and_right (leb 2 k) _ p

    room : k + 3 ≤ length u
    room = leb-true (k + 3) (length u) (and_left (leb (k + 3) (length u)) _ p₁)

    p₂ : eqb (get_or u (k - 1) 0) 32 && (eqb (get_or u (k + 1) 0) 32 && (plain_byte (get_or u 0 0) && (plain_byte (get_or u (k - 2) 0) && (plain_byte (get_or u (k + 2) 0) && plain_byte (get_or u (length u - 1) 0))))) ≡ true
    p₂ = and_right (leb (k + 3) (length u)) _ p₁

    p₃ : eqb (get_or u (k + 1) 0) 32 && (plain_byte (get_or u 0 0) && (plain_byte (get_or u (k - 2) 0) && (plain_byte (get_or u (k + 2) 0) && plain_byte (get_or u (length u - 1) 0)))) ≡ true
    p₃ = and_right (eqb (get_or u (k - 1) 0) 32) _ p₂

    p₄ : plain_byte (get_or u 0 0) && (plain_byte (get_or u (k - 2) 0) && (plain_byte (get_or u (k + 2) 0) && plain_byte (get_or u (length u - 1) 0))) ≡ true
    p₄ = and_right (eqb (get_or u (k + 1) 0) 32) _ p₃

    p₅ : plain_byte (get_or u (k - 2) 0) && (plain_byte (get_or u (k + 2) 0) && plain_byte (get_or u (length u - 1) 0)) ≡ true
    p₅ = and_right (plain_byte (get_or u 0 0)) _ p₄

    p₆ : plain_byte (get_or u (k + 2) 0) && plain_byte (get_or u (length u - 1) 0) ≡ true
    p₆ = and_right (plain_byte (get_or u (k - 2) 0)) _ p₅

    abbrev front : List ℕ
    front = take k u

    abbrev back : List ℕ
    back = drop (k + 1) u

    front_long : length front ≡ k
    front_long = length-take-le k u (omega (arith, room))

    front_at : (j m : ℕ) → j ≡ m → m < k → get_or front j 0 ≡ get_or u m 0
    front_at j m z h = ap (λ (n : ℕ). get_or front n 0) z ∙ get_or-take k u m 0 h

    back_at : (j m : ℕ) → k + 1 + j ≡ m → get_or back j 0 ≡ get_or u m 0
    back_at j m z = get_or-drop (k + 1) u j 0 ∙ ap (λ (n : ℕ). get_or u n 0) z

    dark : (x y : ℕ) → x ≡ y → plain_byte y ≡ true → plain_byte x ≡ true
    dark x y z h = ap (λ (b : ℕ). plain_byte b) z ∙ h

    front-from : 0 ≡ from_of front
    front-from = starts-plain front (dark _ _ (front_at 0 0 refl (omega (arith, far))) (and_left (plain_byte (get_or u 0 0)) _ p₄))

    front-to : k - 1 ≡ to_end front
    front-to =
        let n = front_long in
        let t : length front - 1 ≡ to_of front =
        spaced-to front (omega (arith, far)) (front_at (length front - 1) (k - 1) (omega arith) (omega (arith, far)) ∙ eqb-true (get_or u (k - 1) 0) 32 (and_left (eqb (get_or u (k - 1) 0) 32) _ p₂))
        (dark _ _ (front_at (length front - 2) (k - 2) (omega arith) (omega (arith, far))) (and_left (plain_byte (get_or u (k - 2) 0)) _ p₅)) in
        let z : to_end front ≡ 0 + to_of front = ap (λ (i : ℕ). i + to_of (drop i front)) (sym front-from) in
        omega arith

    back_long : length back ≡ length u - (k + 1)
    back_long = length-drop (k + 1) u

    back-two : 2 ≤ length back
    back-two = omega (arith, back_long, room)

    back-gap : get_or back 0 0 ≡ 32
    back-gap = back_at 0 (k + 1) (omega arith) ∙ eqb-true (get_or u (k + 1) 0) 32 (and_left (eqb (get_or u (k + 1) 0) 32) _ p₃)

    back-first : plain_byte (get_or back 1 0) ≡ true
    back-first = dark _ _ (back_at 1 (k + 2) (omega arith)) (and_left (plain_byte (get_or u (k + 2) 0)) _ p₆)

    back_last : plain_byte (get_or back (length back - 1) 0) ≡ true
    back_last = dark _ _ (back_at (length back - 1) (length u - 1) (omega (arith, back_long, room))) (and_right (plain_byte (get_or u (k + 2) 0)) _ p₆)

    pub sides-room : (2 ≤ k) × (k + 3 ≤ length u)
    sides-room = (far, room)

    pub sides-plain : Some (record { left = record { from = 0; to = k - 1 }; right = record { from = k + 2; to = length u } }) ≡ sides_of u
    sides-plain =
        let r = rest_of u (k + 1) in
        let f : 1 ≡ from_of (part (k + 1) (length u) u) = spaced-from back back-two back-gap back-first ∙ ap from_of (sym r) in
        let g : length back ≡ to_end (part (k + 1) (length u) u) = sym (spaced-end back back-two back-gap back-first back_last) ∙ ap (λ (l : List ℕ). to_end l) (sym r) in
        let x : k + 2 ≡ k + 1 + 1 = omega arith in
        let y : length u ≡ k + 1 + length back = omega (arith, back_long, room) in
        ap (λ (i : ℕ). Some (record { left = spanned 0 (k - 1); right = spanned i (length u) })) x
        ∙ ap (λ (i : ℕ). Some (record { left = spanned 0 (k - 1); right = spanned (k + 1 + 1) i })) y
        ∙ sides-are (omega (arith, room)) (spanned 0 (k - 1)) (spanned 1 (length back)) front-from front-to f g

pub assign-none : (t : List ℕ) → length t ≡ 0 → assign_of t ≡ None
unfolding assign_of is_assign
assign-none [] h = refl
assign-none (x ∷ xs) h = absurd (omega arith)

pub assign-open : (t : List ℕ) → (get_or t (length t - 1) 0 ≡ 59 → ⊥) → assign_of t ≡ None
unfolding assign_of is_assign
assign-open t n = rw (ne_eqb (get_or t (length t - 1) 0) 59 n)

pub assign-sides : (t : List ℕ) → get_or t (length t - 1) 0 ≡ 59 → assign_of t ≡ sides_of (unended t)
unfolding assign_of is_assign
assign-sides t e = rw (eq-eqb (get_or t (length t - 1) 0) 59 e)

-- ---- what the places say: the sides of the definition, in order and inside the text

pub record Sided (t : List ℕ) (s : Sides) : Type 0 where
  pub assigns : is_assign t ≡ true
  pub is-left : part s.left.from s.left.to t ≡ left_of t
  pub is_right : part s.right.from s.right.to t ≡ right_of t
  pub left_in : s.left.from ≤ s.left.to
  pub between : s.left.to < s.right.from
  pub right-in : s.right.from ≤ s.right.to
  pub before-end : s.right.to < length t

module _ (t : List ℕ) (h : is_assign t ≡ true) where
  in-assign : up_to 61 (unended t) < length (unended t)
  unfolding is_assign
  in-assign = ltb-true (up_to 61 (unended t)) (length (unended t)) (and_right (ends_in 59 t) (ltb (up_to 61 (unended t)) (length (unended t))) h)

  left-part : part (from_of (take (up_to 61 (unended t)) (unended t))) (to_end (take (up_to 61 (unended t)) (unended t))) t ≡ left_of t
  unfolding left_of
  left-part =
      let k : ℕ = up_to 61 (unended t) in
      let l : List ℕ = take k (unended t) in
      let b : to_end l ≤ length l = to_end-le l in
      let c = length-take k (unended t) in
      let d = length-take (length t - 1) t in
      sym (part-take t (length t - 1) (from_of l) (to_end l) (omega arith))
      ∙ sym (part-take (unended t) k (from_of l) (to_end l) (omega arith))
      ∙ sym (trim-part l)

  right-part : part (suc (up_to 61 (unended t)) + from_of (drop (suc (up_to 61 (unended t))) (unended t))) (suc (up_to 61 (unended t)) + to_end (drop (suc (up_to 61 (unended t))) (unended t))) t ≡ right_of t
  unfolding right_of
  right-part =
      let k : ℕ = suc (up_to 61 (unended t)) in
      let r : List ℕ = drop k (unended t) in
      let b : to_end r ≤ length r = to_end-le r in
      let c = length-drop k (unended t) in
      let d = length-take (length t - 1) t in
      let i = in-assign in
      sym (part-take t (length t - 1) (k + from_of r) (k + to_end r) (omega arith))
      ∙ sym (part-drop (unended t) k (from_of r) (to_end r))
      ∙ sym (trim-part r)

  sided : Sided t
      (record {
        left = record { from = from_of (take (up_to 61 (unended t)) (unended t)); to = to_end (take (up_to 61 (unended t)) (unended t)) };
        right = record { from = suc (up_to 61 (unended t)) + from_of (drop (suc (up_to 61 (unended t))) (unended t)); to = suc (up_to 61 (unended t)) + to_end (drop (suc (up_to 61 (unended t))) (unended t)) };
      })
  sided =
      let k : ℕ = up_to 61 (unended t) in
      let b : to_end (take k (unended t)) ≤ length (take k (unended t)) = to_end-le (take k (unended t)) in
      let c = length-take k (unended t) in
      let e : to_end (drop (suc k) (unended t)) ≤ length (drop (suc k) (unended t)) = to_end-le (drop (suc k) (unended t)) in
      let f = length-drop (suc k) (unended t) in
      let d = length-take (length t - 1) t in
      let i = in-assign in
      record {
        assigns = h;
        is-left = left-part;
        is_right = right-part;
        left_in = omega arith;
        between = omega arith;
        right-in = omega arith;
        before-end = omega arith;
      }

never : {A : Type 0} {s : Sides} → None ≡ Some s → A
never h = let z : ◌≡◌ {A = ℕ} 0 1 = cc in absurd (omega arith)

pub assign-split : (t : List ℕ) (s : Sides) → assign_of t ≡ Some s → Sided t s
unfolding assign_of
assign-split t s h = go (is_assign t) refl h
  where
    go : (b : Bool) → is_assign t ≡ b → cond b (split_at (up_to 61 (unended t)) (unended t)) None ≡ Some s → Sided t s
    go true e g =
        let k : ℕ = up_to 61 (unended t) in
        let u : List ℕ = unended t in
        let q : ◌≡◌ {A = Sides}
        (record {
          left = record { from = from_of (take k u); to = to_end (take k u) };
          right = record { from = suc k + from_of (drop (suc k) u); to = suc k + to_end (drop (suc k) u) };
        }) s = cc in
        rw (← q) (sided t e)
    go false e g = never g

pub assign-not : (t : List ℕ) → assign_of t ≡ None → is_assign t ≡ false
unfolding assign_of
assign-not t h = go (is_assign t) h
  where
    go : (b : Bool) → cond b (split_at (up_to 61 (unended t)) (unended t)) None ≡ None → b ≡ false
    go true g = let z : ◌≡◌ {A = ℕ} 0 1 = cc in absurd (omega arith)
    go false g = refl

-- ---- lengths

-- a part is no longer than the whole
pub part-le : (a e : ℕ) (s : List ℕ) → length (part a e s) ≤ length s
part-le a e s = omega (arith, length-take (e - a) (drop a s), length-drop a s)

pub trim-le : (s : List ℕ) → length (trim_of s) ≤ length s
trim-le s = omega (arith, ap length (trim-part s), part-le (from_of s) (to_end s) s)

pub right_le : (t : List ℕ) → length (right_of t) ≤ length t
unfolding right_of
right_le t =
    let k : ℕ = suc (up_to 61 (unended t)) in
    omega (arith, trim-le (drop k (unended t)), length-drop k (unended t), length-take (length t - 1) t)
