-- The owners of a text: its numbers of registers and phis take places, in their order. Assumes nothing.
use Rattle.std.specs.Prelude.{ℕ, ◌+◌, ◌-◌, ◌*◌, Bool, false, cond, ◌&&◌, ◌||◌, List, [], ◌∷◌, length, ◌==◌, nat_lt, slice_index}
use Prim.Native.Char.{code}
use Rattle.names.specs.Names.{is_digit}
use Rattle.slots.specs.Inner.Slots.{claimed}

-- ---- whether there is such a number

-- a digit stands at the place k
abbrev pub digit_at : List ℕ → ℕ → Bool
digit_at t k = is_digit (slice_index t k)

-- four digits stand at the front
abbrev pub four_digits : List ℕ → Bool
four_digits t = (digit_at t 0 && digit_at t 1) && (digit_at t 2 && digit_at t 3)

-- four digits stand next to each other somewhere
unfoldable pub has_long : List ℕ → Bool
has_long [] = false
has_long (b ∷ t) = four_digits (b ∷ t) || has_long t

-- ---- the numbers

-- the number that digits of the value v and one more digit are; one of more than eighteen digits grows no more
abbrev pub grown : ℕ → ℕ → ℕ
grown v b = cond (nat_lt v 1000000000000000000) (v * 10 + (b - code "0")) v

-- the owners after the number v, where it is not low
abbrev pub entered : ℕ → ℕ → List ℕ → List ℕ
entered low v own = cond (nat_lt v low) own (claimed v own)

-- the number behind such a byte may be that of a register or of a phi
abbrev pub is_mark : ℕ → Bool
is_mark b = b == (code "r") || b == (code "i")

-- the owners after the numbers behind marks of a text that goes on after digits of the value v, which stand behind a mark or not
unfoldable pub entered_all : ℕ → Bool → ℕ → List ℕ → List ℕ → List ℕ
entered_all low m v [] own = entered low v own
entered_all low m v (b ∷ t) own = cond (is_digit b) (entered_all low m (cond m (grown v b) v) t own) (entered_all low (is_mark b) 0 t (entered low v own))

-- the owners after a text, and how many they are: a text without a number of four digits has none
abbrev pub gathered : ℕ → List ℕ → List ℕ → List ℕ
gathered low t own = cond (has_long t) (entered_all low false 0 t own) own

abbrev pub gathered_len : List ℕ → List ℕ → ℕ
gathered_len t own = cond (has_long t) (length own) 0
