-- Laws of bytes that are compared eight at a time, as one number. Assumes nothing.
use Rattle.std.proofs.Common.{◌≡◌, ℕ, zero, suc, ◌+◌, ◌*◌, ◌/◌, ◌%◌, ◌^◌, ◌<◌, ◌≤◌, min, Bool, true, false, cond, ◌&&◌, T, eqb, List, [], ◌∷◌, length, get_or, take, drop, sym, refl, ap, ◌∙◌, ap₂, suc-add, pow-suc, zero-add, mul-one, arith, eqb→eq, eq-eqb, ne_eqb, eqb-true}
use borrow.Author.Tests.{eqb-false}
use lib.Bits.{bit_and, bit_or, bit_xor, and_block, or_block, xor_block, and_lt, and_le_l, and_le_r, or_lt, xor_lt, xor_self, xor_add_and, shifted_half, shifted_even}
use lib.Count.{under, count_trailing_zeros}
use Rattle.lines.proofs.Tests.{T-left, T-right}
use Rattle.lines.proofs.LfLaws.{eight_is, up-front}
use Rattle.lines.specs.Lf.{up_to, word}
use Rattle.lines.specs.Inner.Lf.{marks}

-- ---- the marks of a number, byte by byte

-- n bytes that are all c, as a number
unfoldable rep : ℕ → ℕ → ℕ
rep c zero = 0
rep c (suc n) = rep c n * 256 + c

-- 128 for a byte that is 0, and else 0
unfoldable mark : ℕ → ℕ
mark r = bit_xor (bit_or (bit_or (bit_and r 127 + 127) r) 127) 255

-- the same of n bytes at once
unfoldable told : ℕ → ℕ → ℕ
unfolding rep
told n y = bit_xor (bit_or (bit_or (bit_and y (rep 127 n) + rep 127 n) y) (rep 127 n)) (rep 255 n)

-- a test passes below n
below : (ℕ → Bool) → ℕ → Bool
below f zero = true
below f (suc n) = f n && below f n

below_at : (f : ℕ → Bool) (n : ℕ) → T (below f n) → (k : ℕ) → k < n → T (f k)
unfolding below
below_at f zero t k h = absurd (omega arith)
below_at f (suc n) t k h = go (eqb k n) refl (below_at f n (T-right (f n) (below f n) t) k)
  where
    go : (u : Bool) → eqb k n ≡ u → (k < n → T (f k)) → T (f k)
    go true e g = rw (eqb-true k n e) (T-left (f n) (below f n) t)
    go false e g = let d = eqb-false k n e in g (omega arith)

-- a rule gives 128 for a byte that is 0, and else 0
right : (ℕ → ℕ) → ℕ → Bool
right f r = eqb (f r) (cond (eqb r 0) 128 0)

-- one byte, of which there are 256
right-at : (f : ℕ → ℕ) → T (below (right f) 256) → (r : ℕ) → r < 256 → f r ≡ cond (eqb r 0) 128 0
unfolding right
right-at f t r h = eqb→eq (f r) (cond (eqb r 0) 128 0) (below_at (right f) 256 t r h)

mark-is : (r : ℕ) → r < 256 → mark r ≡ cond (eqb r 0) 128 0
unfolding right below mark
mark-is = right-at mark tt

-- no byte of the sum carries into the next
told-on : (n y r : ℕ) → r < 256 → told (suc n) (y * 256 + r) ≡ told n y * 256 + mark r
unfolding told rep mark
told-on n y r h =
    let low = rep 127 n in
    let a = and_le_r r 127 in
    let small : bit_and r 127 + 127 < 256 = omega arith in
    let q : 127 < 256 = omega arith in
    let o : bit_or (bit_and r 127 + 127) r < 256 = or_lt 8 (bit_and r 127 + 127) r small h in
    let s : (bit_and y low * 256 + bit_and r 127) + (low * 256 + 127) ≡ (bit_and y low + low) * 256 + (bit_and r 127 + 127) = omega arith in
    ap (λ (z : ℕ). bit_xor (bit_or (bit_or (z + (low * 256 + 127)) (y * 256 + r)) (low * 256 + 127)) (rep 255 n * 256 + 255)) (and_block 8 y low r 127 h q)
    ∙ ap (λ (z : ℕ). bit_xor (bit_or (bit_or z (y * 256 + r)) (low * 256 + 127)) (rep 255 n * 256 + 255)) s
    ∙ ap (λ (z : ℕ). bit_xor (bit_or z (low * 256 + 127)) (rep 255 n * 256 + 255)) (or_block 8 (bit_and y low + low) y (bit_and r 127 + 127) r small h)
    ∙ ap (λ (z : ℕ). bit_xor z (rep 255 n * 256 + 255)) (or_block 8 (bit_or (bit_and y low + low) y) low (bit_or (bit_and r 127 + 127) r) 127 o q)
    ∙ xor_block 8 (bit_or (bit_or (bit_and y low + low) y) low) (rep 255 n) (bit_or (bit_or (bit_and r 127 + 127) r) 127) 255 (or_lt 8 (bit_or (bit_and r 127 + 127) r) 127 o q) (omega arith)

-- two numbers do not differ where they are equal only
xor-eqb : (x b : ℕ) → eqb (bit_xor x b) 0 ≡ eqb x b
xor-eqb x b = go (eqb x b) refl
  where
    go : (t : Bool) → eqb x b ≡ t → eqb (bit_xor x b) 0 ≡ t
    go true e = eq-eqb (bit_xor x b) 0 (ap (bit_xor x) (sym (eqb-true x b e)) ∙ xor_self x)
    go false e =
        let d = eqb-false x b e in
        ne_eqb (bit_xor x b) 0 (λ z. d (omega (arith, xor_add_and x b, and_le_l x b, and_le_r x b)))

-- a list of bytes
unfoldable pub Bytes : List ℕ → Type 0
Bytes [] = Unit
Bytes (x ∷ xs) = (x < 256) × Bytes xs

told-marks : (b : ℕ) → b < 256 → (l : List ℕ) → Bytes l → told (length l) (bit_xor (word l) (rep b (length l))) ≡ marks b l
unfolding told rep word marks Bytes
told-marks b k [] h = refl
told-marks b k (x ∷ xs) h =
    ap (told (suc (length xs))) (xor_block 8 (word xs) (rep b (length xs)) x b h.0 k)
    ∙ told-on (length xs) (bit_xor (word xs) (rep b (length xs))) (bit_xor x b) (xor_lt 8 x b h.0 k)
    ∙ ap₂ (λ (m r : ℕ). m * 256 + r) (told-marks b k xs h.1) (mark-is (bit_xor x b) (xor_lt 8 x b h.0 k) ∙ ap (λ (t : Bool). cond t 128 0) (xor-eqb x b))

-- ---- the lowest mark

-- the lowest byte's mark, from the byte less 1 (255 where it borrows): 128 for a byte that is 0, and else 0
unfoldable low_mark : ℕ → ℕ
low_mark r = bit_and (bit_and ((r + 255) % 256) (bit_xor r 255)) 128

low-mark-is : (r : ℕ) → r < 256 → low_mark r ≡ cond (eqb r 0) 128 0
unfolding right below low_mark
low-mark-is = right-at low_mark tt

-- the marks of n bytes y, where d is y less 1 in each byte
unfoldable low : ℕ → ℕ → ℕ → ℕ
unfolding rep
low n y d = bit_and (bit_and d (bit_xor y (rep 255 n))) (rep 128 n)

-- the lowest byte by itself, and the bytes above it
low-on : (n y r d e : ℕ) → r < 256 → e < 256 → low (suc n) (y * 256 + r) (d * 256 + e) ≡ low n y d * 256 + bit_and (bit_and e (bit_xor r 255)) 128
unfolding low rep
low-on n y r d e h k =
    let q : 255 < 256 = omega arith in
    let x : bit_xor r 255 < 256 = xor_lt 8 r 255 h q in
    ap (λ (z : ℕ). bit_and (bit_and (d * 256 + e) z) (rep 128 n * 256 + 128)) (xor_block 8 y (rep 255 n) r 255 h q)
    ∙ ap (λ (z : ℕ). bit_and z (rep 128 n * 256 + 128)) (and_block 8 d (bit_xor y (rep 255 n)) e (bit_xor r 255) k x)
    ∙ and_block 8 (bit_and d (bit_xor y (rep 255 n))) (rep 128 n) (bit_and e (bit_xor r 255)) 128 (and_lt 8 e (bit_xor r 255) k x) (omega arith)

-- what is borrowed from above n bytes
unfoldable lift : ℕ → ℕ → ℕ
lift zero u = u
lift (suc n) u = lift n u * 256

trailing-shifted : (j k a : ℕ) → count_trailing_zeros (j + k) (a * 2 ^ j) ≡ j + count_trailing_zeros k a
unfolding count_trailing_zeros
trailing-shifted zero k a = ap₂ count_trailing_zeros (zero-add k) (mul-one a) ∙ sym (zero-add (count_trailing_zeros k a))
trailing-shifted (suc j) k a =
    ap (λ (m : ℕ). count_trailing_zeros m (a * 2 ^ suc j)) (suc-add j k)
    ∙ ap₂ (λ (d m : ℕ). under d (count_trailing_zeros (j + k) m)) (shifted_even a j) (shifted_half a j)
    ∙ ap suc (trailing-shifted j k a) ∙ sym (suc-add j (count_trailing_zeros k a))

trailing_odd : (k a : ℕ) → count_trailing_zeros (suc k) (a * 2 + 1) ≡ 0
unfolding count_trailing_zeros
trailing_odd k a = let q : (a * 2 + 1) % 2 ≡ 1 = omega arith in ap (λ (d : ℕ). under d (count_trailing_zeros k ((a * 2 + 1) / 2))) q

-- one more byte, the lowest, with its mark or without
trailing-on : (n m k : ℕ) (t : Bool) → (t ≡ false → count_trailing_zeros (n * 8) m / 8 ≡ k) → count_trailing_zeros (suc n * 8) (m * 256 + cond t 128 0) / 8 ≡ cond t 0 (suc k)
trailing-on n m k true f =
    let p : suc n * 8 ≡ 7 + suc (n * 8) = omega arith in
    let q : m * 256 + 128 ≡ (m * 2 + 1) * 2 ^ 7 = omega arith in
    let z : count_trailing_zeros (suc n * 8) (m * 256 + 128) ≡ 7 + 0 = ap₂ count_trailing_zeros p q ∙ trailing-shifted 7 (suc (n * 8)) (m * 2 + 1) ∙ ap (λ (k : ℕ). 7 + k) (trailing_odd (n * 8) m) in
    omega arith
trailing-on n m k false f =
    let p : suc n * 8 ≡ 8 + n * 8 = omega arith in
    let q : m * 256 + 0 ≡ m * 2 ^ 8 = omega arith in
    let z : count_trailing_zeros (suc n * 8) (m * 256 + 0) ≡ 8 + count_trailing_zeros (n * 8) m = ap₂ count_trailing_zeros p q ∙ trailing-shifted 8 (n * 8) m in
    let r = f refl in
    omega arith

-- the zeros below the lowest mark, eight to a byte, say how many bytes stand before the first b: below it no byte borrows from the next
low_first : (b : ℕ) → b < 256 → (l : List ℕ) → Bytes l → (d u : ℕ) → d + rep 1 (length l) ≡ bit_xor (word l) (rep b (length l)) + lift (length l) u →
    count_trailing_zeros (length l * 8) (low (length l) (bit_xor (word l) (rep b (length l))) d) / 8 ≡ up_to b l
unfolding up_to word rep lift Bytes count_trailing_zeros low_mark
low_first b k [] h d u e = refl
low_first b k (x ∷ xs) h d u e =
    let n = length xs in
    let y = bit_xor (word xs) (rep b n) in
    let r = bit_xor x b in
    let small : r < 256 = xor_lt 8 x b h.0 k in
    let v : bit_xor (word xs * 256 + x) (rep b n * 256 + b) ≡ y * 256 + r = xor_block 8 (word xs) (rep b n) x b h.0 k in
    let g : d ≡ d / 256 * 256 + (r + 255) % 256 = omega arith in
    let m : low (suc n) (bit_xor (word xs * 256 + x) (rep b n * 256 + b)) d ≡ low n y (d / 256) * 256 + cond (eqb x b) 128 0 =
    ap₂ (low (suc n)) v g
    ∙ low-on n y r (d / 256) ((r + 255) % 256) small (omega arith)
    ∙ ap (λ (z : ℕ). low n y (d / 256) * 256 + z) (low-mark-is r small ∙ ap (λ (t : Bool). cond t 128 0) (xor-eqb x b)) in
    ap (λ (z : ℕ). count_trailing_zeros (suc n * 8) z / 8) m
    ∙ trailing-on n (low n y (d / 256)) (up_to b xs) (eqb x b)
    (λ f. low_first b k xs h.1 (d / 256) u (let z = eqb-false r 0 (xor-eqb x b ∙ f) in omega arith))

-- a number that is not 0 has a lowest digit
pub trailing_lt : (k n : ℕ) → n < 2 ^ k → (n ≡ 0 → ⊥) → count_trailing_zeros k n < k
unfolding count_trailing_zeros
trailing_lt zero n h d = absurd (d (omega arith))
trailing_lt (suc k) n h d = go (n % 2) refl (trailing_lt k (n / 2) (omega (arith, pow-suc 2 k)))
  where
    go : (r : ℕ) → n % 2 ≡ r → ((n / 2 ≡ 0 → ⊥) → count_trailing_zeros k (n / 2) < k) → under r (count_trailing_zeros k (n / 2)) < suc k
    go zero e f = let q = f (λ z. d (omega arith)) in omega arith
    go (suc r) e f = omega arith

-- ---- eight bytes of a text

module _ (s : List ℕ) (j : ℕ) (fits : j + 8 ≤ length s) where
  -- the bytes, one by one
  abbrev eight : List ℕ
  eight = get_or s j 0 ∷ get_or s (j + 1) 0 ∷ get_or s (j + 2) 0 ∷ get_or s (j + 3) 0 ∷ get_or s (j + 4) 0 ∷ get_or s (j + 5) 0 ∷ get_or s (j + 6) 0 ∷ get_or s (j + 7) 0 ∷ []

  eight-bytes : ((i : ℕ) → get_or s i 0 < 256) → Bytes eight
  unfolding Bytes
  eight-bytes h = (h j, (h (j + 1), (h (j + 2), (h (j + 3), (h (j + 4), (h (j + 5), (h (j + 6), (h (j + 7), tt))))))))

  pub word-eight : get_or s j 0 + get_or s (j + 1) 0 * 256 + get_or s (j + 2) 0 * 65536 + get_or s (j + 3) 0 * 16777216 + get_or s (j + 4) 0 * 4294967296 + get_or s (j + 5) 0 * 1099511627776 + get_or s (j + 6) 0 * 281474976710656 + get_or s (j + 7) 0 * 72057594037927936 ≡ word (take 8 (drop j s))
  unfolding word
  word-eight = rw (eight_is s j fits) (omega arith)

  module _ (b x : ℕ) (k : b < 256) (h : (i : ℕ) → get_or s i 0 < 256) (e : x ≡ word (take 8 (drop j s))) where
    -- where they are not b
    differ : bit_xor x (b * 0x0101010101010101) ≡ bit_xor (word eight) (rep b 8)
    unfolding rep
    differ = ap₂ bit_xor (e ∙ ap word (eight_is s j fits)) (omega arith)

    pub marks-eight : let y = bit_xor x (b * 0x0101010101010101) in
        bit_xor (bit_or (bit_or (bit_and y 0x7f7f7f7f7f7f7f7f + 0x7f7f7f7f7f7f7f7f) y) 0x7f7f7f7f7f7f7f7f) 0xffffffffffffffff ≡ marks b (take 8 (drop j s))
    unfolding told rep
    marks-eight = rw (differ, eight_is s j fits) (told-marks b k eight (eight-bytes h))

    pub low-eight : let y = bit_xor x (b * 0x0101010101010101) in
        (d : ℕ) → (d + 0x0101010101010101) % 2 ^ 64 ≡ y → count_trailing_zeros 64 (bit_and (bit_and d (bit_xor y 0xffffffffffffffff)) 0x8080808080808080) / 8 ≡ min (up_to b (drop j s)) 8
    unfolding low rep lift
    low-eight d g =
        let u = (d + 0x0101010101010101) / 2 ^ 64 in
        let w : d + 0x0101010101010101 ≡ bit_xor (word eight) (rep b 8) + lift 8 u = omega (arith, g, differ) in
        ap (λ (y : ℕ). count_trailing_zeros 64 (bit_and (bit_and d (bit_xor y 0xffffffffffffffff)) 0x8080808080808080) / 8) differ
        ∙ low_first b k eight (eight-bytes h) d u w
        ∙ ap (up_to b) (sym (eight_is s j fits)) ∙ up-front b 8 (drop j s)
