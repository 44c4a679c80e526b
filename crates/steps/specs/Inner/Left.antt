-- What a step leaves in the work buffers that it does not write its lines to. Assumes nothing.
use Rattle.std.specs.Prelude.{ℕ, ◌≡◌, Bool, cond, ◌||◌, List, eqb, length, replicate}
use Rattle.lines.specs.Lf.{lines_of, unlines}
use Rattle.lines.specs.Inner.Out.{put_at}
use Rattle.lines.specs.Acts.{apply}
use Rattle.lexical.specs.Joined.{rests_in}
use Rattle.place.specs.Inner.Parents.{ids_parents, path_parents}
use Rattle.reading.specs.Reading.{strict_at, joined_at, reading_of}
use Rattle.temps.specs.Inner.Scratch.{temp_scratch}
use Rattle.once.specs.Once.{once_acts}
use Rattle.phis.specs.Phis.{round}
use Rattle.phis.specs.Inner.Rounds.{longest}

-- the buffer c after step k over the text s: what pass 1 left, or zeros over as many bytes as passes 2, 3 and 4 used
unfoldable pub left_c : (mode k : ℕ) → List ℕ → List ℕ → List ℕ
left_c mode k s c =
    cond (eqb k 1) (temp_scratch (strict_at mode) (lines_of s) c)
    (cond (eqb k 2) (put_at c 0 (replicate (length s) 0))
    (cond (eqb k 3) (put_at c 0 (replicate (longest (reading_of mode) s) 0))
    (cond (eqb k 4) (put_at c 0 (replicate (length s) 0))
    c)))

-- the buffer d: the lines of pass 2 before declarations go, those of the first round of pass 3, or zeros
unfoldable pub left_d : (mode k : ℕ) → List ℕ → List ℕ → List ℕ
left_d mode k s d =
    cond (eqb k 2) (put_at d 0 (unlines (apply (once_acts (reading_of mode) (lines_of s)) (lines_of s))))
    (cond (eqb k 3) (put_at d 0 (unlines (round (reading_of mode) (lines_of s))))
    (cond (eqb k 4) (put_at d 0 (replicate (length s) 0))
    d))

-- the buffer e: the lines of the second round of pass 3, or zeros over as many bytes as the stack of pass 4 has
unfoldable pub left_e : (mode k : ℕ) → List ℕ → List ℕ → List ℕ
left_e mode k s e =
    cond (eqb k 3) (put_at e 0 (unlines (round (reading_of mode) (round (reading_of mode) (lines_of s)))))
    (cond (eqb k 4) (put_at e 0 (replicate (length (unlines (lines_of s))) 0))
    e)

-- the block numbers u: the parents of the blocks that passes 2, 4 and 6 go by
unfoldable pub left_u : (mode k : ℕ) → List ℕ → List ℕ → List ℕ
left_u mode k s u =
    cond (eqb k 2) (put_at u 0 (path_parents (lines_of s)))
    (cond (eqb k 4) (put_at u 0 (ids_parents (rests_in (joined_at mode) (lines_of s))))
    (cond (eqb k 6) (put_at u 0 (ids_parents (rests_in (joined_at mode) (lines_of s))))
    u))

-- the four after step k over the text s
pub record Left (mode k : ℕ) (s c d e u c' d' e' u' : List ℕ) : Type 0 where
  pub c-left : c' ≡ left_c mode k s c
  pub d-left : d' ≡ left_d mode k s d
  pub e-left : e' ≡ left_e mode k s e
  pub u-left : u' ≡ left_u mode k s u

-- a table that a step used is zeros, and another is as it was
unfoldable pub cleared : Bool → List ℕ → List ℕ
cleared used d = cond used (replicate (length d) 0) d

-- which steps use the tables of bytes
abbrev pub uses_f : ℕ → Bool
uses_f k = eqb k 1 || (eqb k 2 || (eqb k 3 || (eqb k 4 || eqb k 6)))

abbrev pub uses_g : ℕ → Bool
uses_g k = eqb k 1 || (eqb k 2 || eqb k 6)

abbrev pub uses_h : ℕ → Bool
uses_h k = eqb k 2

-- those of numbers of 32 bits
abbrev pub uses_v : ℕ → Bool
uses_v k = eqb k 2 || eqb k 4

-- and those of numbers: every step has its moves in p
abbrev pub uses_q : ℕ → Bool
uses_q k = eqb k 1 || (eqb k 2 || (eqb k 4 || eqb k 6))

abbrev pub uses_r : ℕ → Bool
uses_r k = eqb k 2 || (eqb k 4 || (eqb k 5 || eqb k 6))

abbrev pub uses_t : ℕ → Bool
uses_t k = eqb k 2 || eqb k 6

-- the tables after step k, but for t
pub record Cleared (k : ℕ) (f g h v w x p q r f' g' h' v' w' x' p' q' r' : List ℕ) : Type 0 where
  pub f-left : f' ≡ cleared (uses_f k) f
  pub g-left : g' ≡ cleared (uses_g k) g
  pub h-left : h' ≡ cleared (uses_h k) h
  pub v-left : v' ≡ cleared (uses_v k) v
  pub w-left : w' ≡ cleared (uses_v k) w
  pub x-left : x' ≡ cleared (uses_v k) x
  pub p-left : p' ≡ replicate (length p) 0
  pub q-left : q' ≡ cleared (uses_q k) q
  pub r-left : r' ≡ cleared (uses_r k) r

-- what a step without blocks leaves in the buffers and tables that it is lent
pub record Few (mode k : ℕ) (s c d e f g q r c' d' e' f' g' q' r' : List ℕ) : Type 0 where
  pub c-left : c' ≡ left_c mode k s c
  pub d-left : d' ≡ left_d mode k s d
  pub e-left : e' ≡ left_e mode k s e
  pub f-left : f' ≡ cleared (uses_f k) f
  pub g-left : g' ≡ cleared (uses_g k) g
  pub q-left : q' ≡ cleared (uses_q k) q
  pub r-left : r' ≡ cleared (uses_r k) r
