-- The work buffers of an entry: how long they are, and what they hold afterwards. Assumes nothing.
use Rattle.std.specs.Prelude.{ℕ, ◌≡◌, List}
use Rattle.limits.specs.declared.Limits.{Limits}
use Rattle.limits.specs.Answer.{Answer}
use Rattle.limits.specs.Entry.{byte_size, block_size, line_size, note_size, owners, places, work_after}

-- the work buffers after an answer
pub record After (L : Limits) (r : Answer) (a b c d e u a' b' c' d' e' u' : List ℕ) : Type 0 where
  pub a-after : a' ≡ work_after r (byte_size L) a
  pub b-after : b' ≡ work_after r (byte_size L) b
  pub c-after : c' ≡ work_after r (byte_size L) c
  pub d-after : d' ≡ work_after r (byte_size L) d
  pub e-after : e' ≡ work_after r (byte_size L) e
  pub u-after : u' ≡ work_after r (block_size L) u

-- the work buffers and tables of the second pair after an answer: o is `own`, and z is `table`
pub record AfterLarge (L : Limits) (y : Answer) (a b c d e f g h u v w x p q r t o z a' b' c' d' e' f' g' h' u' v' w' x' p' q' r' t' o' z' : List ℕ) : Type 0 where
  pub buffers : After L y a b c d e u a' b' c' d' e' u'
  pub f-after : f' ≡ work_after y places f
  pub g-after : g' ≡ work_after y places g
  pub h-after : h' ≡ work_after y (line_size L) h
  pub v-after : v' ≡ work_after y (note_size L) v
  pub w-after : w' ≡ work_after y (note_size L) w
  pub x-after : x' ≡ work_after y (note_size L) x
  pub p-after : p' ≡ work_after y (line_size L) p
  pub q-after : q' ≡ work_after y (line_size L) q
  pub r-after : r' ≡ work_after y places r
  pub t-after : t' ≡ work_after y places t
  pub o-after : o' ≡ work_after y owners o
  pub z-after : z' ≡ work_after y (line_size L) z
