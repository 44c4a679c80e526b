-- Which texts were met, in a table of lent room: an entry is 0, or one more than the place of a literal's quote. Nothing is asked of a
-- table: its entries are compared with the text itself. Assumes nothing.
use Rattle.std.specs.Prelude.{ℕ, ◌+◌, ◌*◌, ◌-◌, ◌%◌, ◌<◌, ◌≡◌, Bool, true, false, cond, List, [], ◌∷◌, length, drop, get_or, set, eqb, leb}
use Rattle.lines.specs.Lf.{same}
use Rattle.po.specs.declared.Seek.{Seek}
use Rattle.po.specs.declared.Seek.TheVariants as sought
use Rattle.po.specs.Found.{decoded, known}

-- the text of the literal whose quote stands at the place p, where it is closed
abbrev pub key_at : List ℕ → ℕ → List ℕ
key_at t p = decoded (drop (p + 1) t) (get_or t p 0)

-- a number of a text
unfoldable pub hash_of : ℕ → List ℕ → ℕ
hash_of h [] = h
hash_of h (b ∷ bs) = hash_of ((h * 65599 + b) % 4294967291) bs

-- from the place i of a table on: the text x is held, or a free place comes first; where the table ends, or an entry says nothing, it is unsure
unfoldable pub seek_go : List ℕ → List ℕ → ℕ → List ℕ → Seek
unfolding decoded
seek_go t [] i x = sought.Unsure
seek_go t (v ∷ vs) i x =
    let on = seek_go t vs (i + 1) x in
    cond (eqb v 0) (sought.Free i) (cond (leb (length t) v) sought.Unsure (cond (same (key_at t (v - 1)) x) sought.Held on))

-- from the place on that the number of the text falls on
abbrev pub start_of : List ℕ → List ℕ → ℕ
start_of own x = hash_of 0 x % length own

unfoldable pub seek_of : List ℕ → List ℕ → List ℕ → Seek
unfolding hash_of seek_go
seek_of t own x = seek_go t (drop (start_of own x) own) (start_of own x) x

-- the entry of the text x, whose quote stands at the place p; a number above the length of the listing says nothing
unfoldable pub hint_of : List ℕ → ℕ → List ℕ → ℕ
unfolding decoded
hint_of t p x = cond (leb (length t) p) (length t + 1) (cond (same (key_at t p) x) (p + 1) (length t + 1))

-- the free place that was found, or n
abbrev pub free_or : Seek → ℕ → ℕ
free_or sought.Held n = n
free_or (sought.Free i) n = i
free_or sought.Unsure n = n

-- the table after the text x was looked for, and took the place that was free
unfoldable pub entered : List ℕ → ℕ → List ℕ → List ℕ → List ℕ
unfolding seek_of hint_of
entered t p x own = set own (free_or (seek_of t own x) (length own)) (hint_of t p x)

-- ---- a table that tells which of the texts ks were met

abbrev pub is_free : Seek → Bool
is_free sought.Held = false
is_free (sought.Free i) = true
is_free sought.Unsure = false

-- every entry is of a text that was met, and a text whose place is free was not
pub record Tells (t own : List ℕ) (ks : List (List ℕ)) : Type 0 where
  pub sound : (i : ℕ) → 0 < get_or own i 0 → get_or own i 0 < length t → known ks (key_at t (get_or own i 0 - 1)) ≡ true
  pub free : (x : List ℕ) → is_free (seek_of t own x) ≡ true → known ks x ≡ false
