-- Well-formed UTF-8, from the grammar of RFC 3629, section 4.
use Rattle.std.specs.Prelude.{ℕ, zero, suc, Bool, true, false, cond, ◌&&◌, List, [], ◌∷◌, length}
use Rattle.lines.specs.Lf.{within}
use Rattle.std.specs.declared.result.Result.{Result}
use Rattle.std.specs.declared.result.Result.TheVariants.{Ok, Err}

-- the list begins with a byte in each of the ranges, in order
abbrev pub begins : List (ℕ × ℕ) → List ℕ → Bool
begins [] l = true
begins (g ∷ gs) [] = false
begins (g ∷ gs) (x ∷ xs) = within g.0 g.1 x && begins gs xs

-- UTF8-1, UTF8-2, UTF8-3 and UTF8-4, an alternative to a line
abbrev pub grammar : List (List (ℕ × ℕ))
grammar =
    ((0x00, 0x7F) ∷ [])
    ∷ ((0xC2, 0xDF) ∷ (0x80, 0xBF) ∷ [])
    ∷ ((0xE0, 0xE0) ∷ (0xA0, 0xBF) ∷ (0x80, 0xBF) ∷ [])
    ∷ ((0xE1, 0xEC) ∷ (0x80, 0xBF) ∷ (0x80, 0xBF) ∷ [])
    ∷ ((0xED, 0xED) ∷ (0x80, 0x9F) ∷ (0x80, 0xBF) ∷ [])
    ∷ ((0xEE, 0xEF) ∷ (0x80, 0xBF) ∷ (0x80, 0xBF) ∷ [])
    ∷ ((0xF0, 0xF0) ∷ (0x90, 0xBF) ∷ (0x80, 0xBF) ∷ (0x80, 0xBF) ∷ [])
    ∷ ((0xF1, 0xF3) ∷ (0x80, 0xBF) ∷ (0x80, 0xBF) ∷ (0x80, 0xBF) ∷ [])
    ∷ ((0xF4, 0xF4) ∷ (0x80, 0x8F) ∷ (0x80, 0xBF) ∷ (0x80, 0xBF) ∷ [])
    ∷ []

-- how many bytes the first alternative takes that the list begins with, or 0
abbrev pub seq_by : List (List (ℕ × ℕ)) → List ℕ → ℕ
seq_by [] l = 0
seq_by (g ∷ gs) l = cond (begins g l) (length g) (seq_by gs l)

-- how many bytes the well-formed sequence at the head of the list has, or 0 where it begins with none
unfoldable pub seq_len : List ℕ → ℕ
seq_len l = seq_by grammar l

-- what a text is: well-formed, or the place of the first byte of its first bad sequence
abbrev pub Utf8 : Type 0
Utf8 = Result (Unit {0}) ℕ

-- no sequence begins here: bad; else what the rest is, of a sequence with k more bytes
abbrev pub bad_or : ℕ → ℕ → (ℕ → Utf8) → Utf8
bad_or zero i rest = Err i
bad_or (suc k) i rest = rest k

-- the first byte that begins no well-formed sequence: k more bytes belong to a sequence that has begun, and i is the list's place in the text
unfoldable pub scan : ℕ → ℕ → List ℕ → Utf8
scan k i [] = Ok tt
scan (suc k) i (x ∷ xs) = scan k (suc i) xs
scan zero i (x ∷ xs) = bad_or (seq_len (x ∷ xs)) i (λ k. scan k (suc i) xs)

unfoldable pub utf8_of : List ℕ → Utf8
utf8_of l = scan 0 0 l
