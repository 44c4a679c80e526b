-- Bytes, parts of them, and LF form: every line followed by one LF. Assumes nothing.
use Rattle.std.specs.Prelude.{ℕ, zero, suc, ◌+◌, ◌-◌, ◌*◌, ◌/◌, ◌%◌, Bool, true, false, cond, ◌&&◌, ◌||◌, List, [], ◌∷◌, ◌++◌, length, drop, ◌==◌, nat_le, slice_index, slice_range}
use Prim.Native.Char.{code}

-- lo to hi, both in
abbrev pub within : ℕ → ℕ → ℕ → Bool
within lo hi x = nat_le lo x && nat_le x hi

-- one of the bytes of a list
abbrev pub among : List ℕ → ℕ → Bool
among [] x = false
among (b ∷ bs) x = x == b || among bs x

-- every element passes a test
abbrev pub all : {A : Type 0} → (A → Bool) → List A → Bool
all f [] = true
all f (x ∷ xs) = f x && all f xs

-- there is no byte
abbrev pub is_empty : List ℕ → Bool
is_empty [] = true
is_empty (x ∷ xs) = false

-- what `&s[a..e]` is
abbrev pub part : ℕ → ℕ → List ℕ → List ℕ
part a e s = slice_range s a e

-- how many bytes stand before the first b: all, where there is none
unfoldable pub up_to : ℕ → List ℕ → ℕ
up_to b [] = 0
up_to b (x ∷ xs) = cond (x == b) 0 (suc (up_to b xs))

-- how many bytes b there are
unfoldable pub count_of : ℕ → List ℕ → ℕ
count_of b [] = 0
count_of b (x ∷ xs) = cond (x == b) (suc (count_of b xs)) (count_of b xs)

-- the number that bytes are, the first of them lowest
unfoldable pub word : List ℕ → ℕ
word [] = 0
word (x ∷ xs) = word xs * 256 + x

-- the number n as so many bytes, the lowest first
unfoldable pub low_bytes : ℕ → ℕ → List ℕ
low_bytes zero n = []
low_bytes (suc w) n = n % 256 ∷ low_bytes w (n / 256)

-- p stands at the front
unfoldable pub prefixed : List ℕ → List ℕ → Bool
prefixed [] l = true
prefixed (x ∷ p) [] = false
prefixed (x ∷ p) (y ∷ l) = x == y && prefixed p l

-- p stands at the end
unfoldable pub suffixed : List ℕ → List ℕ → Bool
unfolding prefixed
suffixed p l = nat_le (length p) (length l) && prefixed p (drop (length l - length p) l)

-- the two are equal
unfoldable pub same : List ℕ → List ℕ → Bool
same [] [] = true
same [] (y ∷ l) = false
same (x ∷ p) [] = false
same (x ∷ p) (y ∷ l) = x == y && same p l

-- p stands somewhere in it
unfoldable pub holds : List ℕ → List ℕ → Bool
unfolding prefixed
holds p [] = prefixed p []
holds p (x ∷ xs) = prefixed p (x ∷ xs) || holds p xs

-- the last byte is b, where b is not 0
abbrev pub ends_in : ℕ → List ℕ → Bool
ends_in b l = slice_index l (length l - 1) == b

-- ---- cutting

-- a byte in front of what follows it, cut: it cuts, or it belongs to the first piece
unfoldable pub cut_on : Bool → ℕ → List (List ℕ) → List (List ℕ)
cut_on true x ls = [] ∷ ls
cut_on false x [] = (x ∷ []) ∷ []
cut_on false x (l ∷ ls) = (x ∷ l) ∷ ls

-- the lines of a text, cut at LF alone: each LF ends one, and a rest without LF is one too
unfoldable pub lines_of : List ℕ → List (List ℕ)
unfolding cut_on
lines_of [] = []
lines_of (x ∷ xs) = cut_on (x == (code "\n")) x (lines_of xs)

-- the pieces between the bytes b, `split(b)`: one more than there are of these
unfoldable pub parts_of : ℕ → List ℕ → List (List ℕ)
unfolding cut_on
parts_of b [] = [] ∷ []
parts_of b (x ∷ xs) = cut_on (x == b) x (parts_of b xs)

-- LF form: every line followed by one LF
unfoldable pub unlines : List (List ℕ) → List ℕ
unlines [] = []
unlines (l ∷ ls) = l ++ code "\n" ∷ unlines ls
