-- Where a table over numbers holds the entry of each. The numbers that are low stand at their own place; those above stand where a second table
-- says that the place is theirs, and some have no place. Nothing is asked of the second table. Assumes nothing.
use Rattle.std.specs.Prelude.{ℕ, zero, suc, ◌+◌, ◌-◌, ◌%◌, cond, ◌||◌, List, length, ◌==◌, nat_lt, slice_index, slice_set}

-- so many places are looked at for a number
abbrev pub probes : ℕ
probes = 32

-- the first place among the owners from i on that is that of the number v, or free, where k are looked at; their length where there is none
unfoldable pub spot_go : ℕ → List ℕ → ℕ → ℕ → ℕ
spot_go zero own i v = length own
spot_go (suc k) own i v = cond (nat_lt i (length own)) (cond (slice_index own i == v || slice_index own i == 0) i (spot_go k own (i + 1) v)) (length own)

-- the same from the place on that the number falls on
abbrev pub spot : List ℕ → ℕ → ℕ
spot own v = spot_go probes own (v % length own) v

-- the owners after the number v took that place; they stay as they are where there is none
abbrev pub claimed : ℕ → List ℕ → List ℕ
claimed v own = slice_set own (spot own v) v

-- the place that is that of the number v; their length where it has none
unfoldable pub seek : List ℕ → ℕ → ℕ
unfolding spot_go
seek own v = cond (slice_index own (spot own v) == v) (spot own v) (length own)

-- the place of the number v in a table of n entries, of which the last are those of the owners; past its end where it has none
unfoldable pub slot_of : ℕ → List ℕ → ℕ → ℕ
unfolding seek
slot_of n own v = cond (nat_lt v (n - length own)) v (n - length own + seek own v)

-- the entry of the number v in the table d, 0 where it has no place
abbrev pub entry_of : List ℕ → ℕ → List ℕ → ℕ
entry_of own v d = slice_index d (slot_of (length d) own v)

-- the table d with x as the entry of the number v; one that has no place leaves it as it is
abbrev pub with_entry : List ℕ → ℕ → ℕ → List ℕ → List ℕ
with_entry own v x d = slice_set d (slot_of (length d) own v) x
