-- Laws of the three rounds: what one wrote is the text of the next, and the scratch after them. Assumes nothing.
use Prim.Native.Nat.{ℕ, ◌-◌, ◌≤◌, max}
use mathlib.Core.Path.{◌≡◌, refl, sym, ap, ◌∙◌}
use mathlib.Core.Bool.{Bool, false}
use mathlib.Core.List.{List}
use native.Mathlib.Omega.{arith}
use lib.ListN.{length, take, drop, replicate}
use Rattle.lines.specs.Lf.{part, lines_of, unlines}
use Rattle.lines.specs.Inner.Out.{Wrote}
use Rattle.lines.proofs.OutLaws.{wrote_as, wrote-part}
use Rattle.reading.specs.Reading.{Reading}
use Rattle.phis.specs.Phis.{any_dead, round, prune_dead_phis}
use Rattle.phis.specs.Inner.Rounds.{longest}
use Rattle.phis.proofs.Writes.{drop_more}
use Rattle.slots.proofs.SlotLaws.{wiped-past}
use Rattle.phis.proofs.Keeps.{round-reads, none-dead}

-- ---- one round after the other

-- x is what a round wrote
module _ (R : Reading) (t x d d' : List ℕ) (r : ℕ) (w : Wrote d 0 (unlines (round R (lines_of t))) d' r) (z : x ≡ part 0 r d') where
  wrote-text : x ≡ unlines (round R (lines_of t))
  wrote-text = let q : r - 0 ≡ r = omega arith in z ∙ ap (λ (n : ℕ). take n d') q ∙ wrote-part w

  pub next-lines : lines_of x ≡ round R (lines_of t)
  next-lines = ap lines_of wrote-text ∙ round-reads R t

  pub next-length : length x ≡ length (unlines (round R (lines_of t)))
  next-length = ap length wrote-text

  -- nothing is dead in it where nothing was dead before
  pub next-calm : (b : Bool) → b ≡ any_dead (lines_of t) (lines_of t) → b ≡ false → any_dead (lines_of x) (lines_of x) ≡ false
  next-calm b q e = let k = sym q ∙ e in ap (λ (ls : List (List ℕ)). any_dead ls ls) (next-lines ∙ none-dead R (lines_of t) k) ∙ k

-- the text and the place at another name
pub written : {d xs d' : List ℕ} {r : ℕ} (ys : List ℕ) → xs ≡ ys → Wrote d 0 xs d' r → Wrote d 0 ys d' (length ys)
written ys e w = let v = wrote_as e w in record { fits = v.fits; place = omega arith; holds = v.holds }

-- the second round read what the first wrote, x, and the third what the second wrote, y
pub record Passed (R : Reading) (t x y d d' e e' : List ℕ) (a b : ℕ) : Type 0 where
  pub first : Wrote d 0 (unlines (round R (lines_of t))) d' a
  pub is-first : x ≡ part 0 a d'
  pub second : Wrote e 0 (unlines (round R (lines_of x))) e' b
  pub is-second : y ≡ part 0 b e'

pub passed : (R : Reading) (t x y : List ℕ) {d d' e e' : List ℕ} {a b : ℕ} → Wrote d 0 (unlines (round R (lines_of t))) d' a → x ≡ part 0 a d' → Wrote e 0 (unlines (round R (lines_of x))) e' b → y ≡ part 0 b e' →
    Passed R t x y d d' e e' a b
passed R t x y w z v u = record { first = w; is-first = z; second = v; is-second = u }

module _ {R : Reading} {t x y d d' e e' : List ℕ} {a b : ℕ} (h : Passed R t x y d d' e e' a b) where
  lines-first : lines_of x ≡ round R (lines_of t)
  lines-first = next-lines R t x d d' a h.first h.is-first

  second-text : unlines (round R (lines_of x)) ≡ unlines (round R (round R (lines_of t)))
  second-text = ap (λ (ls : List (List ℕ)). unlines (round R ls)) lines-first

  pub third-text : unlines (round R (lines_of y)) ≡ unlines (prune_dead_phis R (lines_of t))
  unfolding prune_dead_phis
  third-text = ap (λ (ls : List (List ℕ)). unlines (round R ls)) (next-lines R x y e e' b h.second h.is-second ∙ ap (round R) lines-first)

  pub first-wrote : Wrote d 0 (unlines (round R (lines_of t))) d' (length (unlines (round R (lines_of t))))
  first-wrote = written (unlines (round R (lines_of t))) refl h.first

  pub second-wrote : Wrote e 0 (unlines (round R (round R (lines_of t)))) e' (length (unlines (round R (round R (lines_of t)))))
  second-wrote = written (unlines (round R (round R (lines_of t)))) second-text h.second

  pub second-length : length y ≡ length (unlines (round R (round R (lines_of t))))
  second-length = next-length R x y e e' b h.second h.is-second ∙ ap length second-text

  -- how much is wiped
  pub wiped-length : (m n : ℕ) → m ≡ max a b → n ≡ max (length t) m → n ≡ longest R t
  unfolding longest
  wiped-length m n p q = omega (arith, h.first.place, h.second.place, ap length second-text)

  -- the three texts fit
  pub longest-fits : (length t ≤ longest R t) × ((length x ≤ longest R t) × (length y ≤ longest R t))
  unfolding longest
  longest-fits = (omega arith, (omega (arith, next-length R t x d d' a h.first h.is-first), omega (arith, second-length)))

-- the first text fits
pub longest-first : (R : Reading) (t : List ℕ) → (length t ≤ longest R t) × (length (unlines (round R (lines_of t))) ≤ longest R t)
unfolding longest
longest-first R t = (omega arith, omega arith)

-- the scratch after three rounds that used n, m and k bytes of it, wiped
pub scratch-end : (c c₁ c₂ c₃ d : List ℕ) (n m k w : ℕ) → drop n c₁ ≡ drop n c → drop m c₂ ≡ drop m c₁ → drop k c₃ ≡ drop k c₂ → length c₃ ≡ length c →
    (n ≤ w) × ((m ≤ w) × (k ≤ w)) → Wrote c₃ 0 (replicate w 0) d w → Wrote c 0 (replicate w 0) d w
scratch-end c c₁ c₂ c₃ d n m k w e f g s (p, (q, r)) v =
    wiped-past w c c₃ d (drop_more k w c₃ c₂ r g ∙ drop_more m w c₂ c₁ q f ∙ drop_more n w c₁ c p e) s v
