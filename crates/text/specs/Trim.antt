-- `str::trim`, `trim_start`, `trim_end`: a text without the white space at its ends. A white space is the well-formed sequence of a code point of White_Space; it has at most 3 bytes.
use Rattle.std.specs.Prelude.{ℕ, zero, suc, ◌+◌, ◌-◌, ◌*◌, ◌%◌, Bool, cond, ◌&&◌, List, [], ◌∷◌, length, take, drop, eqb}
use Rattle.std.proofs.Math.Seq.{slice}
use Rattle.text.specs.White.{is_white}
use Rattle.text.specs.Utf8Form.{seq_len}

-- the code point of a well-formed sequence: the bits x of RFC 3629, section 3
abbrev pub point : List ℕ → ℕ
point [] = 0
point (a ∷ []) = a
point (a ∷ b ∷ []) = a % 32 * 64 + b % 64
point (a ∷ b ∷ c ∷ []) = a % 16 * 4096 + b % 64 * 64 + c % 64
point (a ∷ b ∷ c ∷ d ∷ r) = a % 8 * 262144 + b % 64 * 4096 + c % 64 * 64 + d % 64

-- the bytes are one character, and it is white space
unfoldable pub white_char : List ℕ → Bool
white_char l = eqb (seq_len l) (length l) && is_white (point l)

-- of the first one, two and three bytes, those that are a white space: how many they are, or 0
unfoldable pub white_head : List ℕ → ℕ
white_head l = cond (white_char (take 1 l)) 1 (cond (white_char (take 2 l)) 2 (cond (white_char (take 3 l)) 3 0))

-- the same of the last one, two and three bytes before the place e
unfoldable pub white_tail : List ℕ → ℕ → ℕ
white_tail l e =
    cond (white_char (slice (e - 1) e l)) 1 (cond (white_char (slice (e - 2) e l)) 2 (cond (white_char (slice (e - 3) e l)) 3 0))

-- n is the length of a white space: none, and it stops here; one, and it goes on with n - 1 more bytes to pass
abbrev pub or_on : {A : Type 0} → ℕ → A → (ℕ → A) → A
or_on zero here on = here
or_on (suc k) here on = on k

-- how many bytes the white space at the front takes; the first k bytes belong to one that has begun
unfoldable pub lead : ℕ → List ℕ → ℕ
lead k [] = 0
lead (suc k) (x ∷ xs) = suc (lead k xs)
lead zero (x ∷ xs) = or_on (white_head (x ∷ xs)) 0 (λ k. suc (lead k xs))

-- where the text begins and ends without the white space at its front, or at its back
unfoldable pub from_of : List ℕ → ℕ
from_of l = lead 0 l

-- where the text before the place e ends without the white space at its end, the last k bytes passed
unfoldable pub end_white : List ℕ → ℕ → ℕ → ℕ
end_white l k zero = 0
end_white l (suc k) (suc e) = end_white l k e
end_white l zero (suc e) = or_on (white_tail l (suc e)) (suc e) (λ k. end_white l k e)

unfoldable pub to_of : List ℕ → ℕ
to_of l = end_white l 0 (length l)

abbrev pub trim_start : List ℕ → List ℕ
trim_start l = drop (from_of l) l

abbrev pub trim_end : List ℕ → List ℕ
trim_end l = take (to_of l) l

unfoldable pub trim_of : List ℕ → List ℕ
trim_of l = trim_end (trim_start l)

-- the same as places of the text: where the trimmed text begins and ends
abbrev pub to_end : List ℕ → ℕ
to_end l = from_of l + to_of (trim_start l)
