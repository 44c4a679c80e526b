-- What inner functions and laws ask beside Room: no promise of an entry hangs on it. Assumes nothing.
use Rattle.std.specs.Prelude.{ℕ, ◌≤◌, ◌≡◌, List, ◌++◌, length, drop}
use Rattle.origins.specs.declared.Form.{Form}
use Rattle.limits.specs.declared.Limits.{Limits}
use Rattle.limits.specs.declared.Task.{Task}
use Rattle.limits.specs.Answer.{Answer}
use Rattle.limits.specs.Entry.{byte_size, block_size, blank, work_after}

-- the passes from a number up to another, in a mode, with records in a form, within limits
abbrev pub task_of : Limits → ℕ → ℕ → ℕ → Form → Task
task_of L from to mode F = record { from = from; to = to; mode = record { 0 = mode }; form = F; limits = L }

-- the work buffers are no shorter than their stated sizes
pub record Long (L : Limits) (a b c d e u : List ℕ) : Type 0 where
  pub a-long : byte_size L ≤ length a
  pub b-long : byte_size L ≤ length b
  pub c-long : byte_size L ≤ length c
  pub d-long : byte_size L ≤ length d
  pub e-long : byte_size L ≤ length e
  pub u-long : block_size L ≤ length u

-- the first places of the work buffers are 0, and the rest is as it was
pub record Wiped (L : Limits) (a b c d e u a' b' c' d' e' u' : List ℕ) : Type 0 where
  pub a-wiped : a' ≡ blank (byte_size L) ++ drop (byte_size L) a
  pub b-wiped : b' ≡ blank (byte_size L) ++ drop (byte_size L) b
  pub c-wiped : c' ≡ blank (byte_size L) ++ drop (byte_size L) c
  pub d-wiped : d' ≡ blank (byte_size L) ++ drop (byte_size L) d
  pub e-wiped : e' ≡ blank (byte_size L) ++ drop (byte_size L) e
  pub u-wiped : u' ≡ blank (block_size L) ++ drop (block_size L) u

-- the tables after an answer: all of each is used
pub record Tables (y : Answer) (f g h v w x p q r t o z f' g' h' v' w' x' p' q' r' t' o' z' : List ℕ) : Type 0 where
  pub f-after : f' ≡ work_after y (length f) f
  pub g-after : g' ≡ work_after y (length g) g
  pub h-after : h' ≡ work_after y (length h) h
  pub v-after : v' ≡ work_after y (length v) v
  pub w-after : w' ≡ work_after y (length w) w
  pub x-after : x' ≡ work_after y (length x) x
  pub p-after : p' ≡ work_after y (length p) p
  pub q-after : q' ≡ work_after y (length q) q
  pub r-after : r' ≡ work_after y (length r) r
  pub t-after : t' ≡ work_after y (length t) t
  pub o-after : o' ≡ work_after y (length o) o
  pub z-after : z' ≡ work_after y (length z) z

-- tables over registers have n places at least, and the table of owners has k
pub record TallPlaces (n k : ℕ) (f g r t o : List ℕ) : Type 0 where
  pub f-tall : n ≤ length f
  pub g-tall : n ≤ length g
  pub r-tall : n ≤ length r
  pub t-tall : n ≤ length t
  pub o-tall : k ≤ length o

-- tables over lines have n entries at least, and those of notes have k
pub record TallRows (n k : ℕ) (h v w x p q z : List ℕ) : Type 0 where
  pub h-tall : n ≤ length h
  pub v-tall : k ≤ length v
  pub w-tall : k ≤ length w
  pub x-tall : k ≤ length x
  pub p-tall : n ≤ length p
  pub q-tall : n ≤ length q
  pub z-tall : n ≤ length z

-- tables over lines have an entry for each line, and those of notes are of one length
pub record Even (L : Limits) (v w x p q z : List ℕ) : Type 0 where
  pub p-lines : L.lines ≤ length p
  pub q-lines : L.lines ≤ length q
  pub z-lines : L.lines ≤ length z
  pub w-as-v : length w ≡ length v
  pub w-as-x : length w ≡ length x

-- tables over registers after an answer, of which n places are used, and k owners
pub record Places (y : Answer) (n k : ℕ) (f g r t o f' g' r' t' o' : List ℕ) : Type 0 where
  pub f-after : f' ≡ work_after y n f
  pub g-after : g' ≡ work_after y n g
  pub r-after : r' ≡ work_after y n r
  pub t-after : t' ≡ work_after y n t
  pub o-after : o' ≡ work_after y k o

-- the other tables after an answer, of which so many entries are used
pub record Rows (y : Answer) (nh nv nw nx np nq nz : ℕ) (h v w x p q z h' v' w' x' p' q' z' : List ℕ) : Type 0 where
  pub h-after : h' ≡ work_after y nh h
  pub v-after : v' ≡ work_after y nv v
  pub w-after : w' ≡ work_after y nw w
  pub x-after : x' ≡ work_after y nx x
  pub p-after : p' ≡ work_after y np p
  pub q-after : q' ≡ work_after y nq q
  pub z-after : z' ≡ work_after y nz z
