-- What stands in the work buffers. Assumes nothing.
use Rattle.std.specs.Prelude.{ℕ, ◌≤◌, ◌≡◌, List, length, take}
use Rattle.limits.specs.Entry.{blank}

-- the first n bytes of a buffer are xs
pub record Front (a : List ℕ) (n : ℕ) (xs : List ℕ) : Type 0 where
  pub fits : n ≤ length a
  pub is : take n a ≡ xs

-- every place of the work buffers is 0
pub record Blank (a b c d e u a' b' c' d' e' u' : List ℕ) : Type 0 where
  pub a-blank : a' ≡ blank (length a)
  pub b-blank : b' ≡ blank (length b)
  pub c-blank : c' ≡ blank (length c)
  pub d-blank : d' ≡ blank (length d)
  pub e-blank : e' ≡ blank (length e)
  pub u-blank : u' ≡ blank (length u)

-- every entry of the tables is 0
pub record Unused (f g h v w x p q r t o z f' g' h' v' w' x' p' q' r' t' o' z' : List ℕ) : Type 0 where
  pub f-unused : f' ≡ blank (length f)
  pub g-unused : g' ≡ blank (length g)
  pub h-unused : h' ≡ blank (length h)
  pub v-unused : v' ≡ blank (length v)
  pub w-unused : w' ≡ blank (length w)
  pub x-unused : x' ≡ blank (length x)
  pub p-unused : p' ≡ blank (length p)
  pub q-unused : q' ≡ blank (length q)
  pub r-unused : r' ≡ blank (length r)
  pub t-unused : t' ≡ blank (length t)
  pub o-unused : o' ≡ blank (length o)
  pub z-unused : z' ≡ blank (length z)
