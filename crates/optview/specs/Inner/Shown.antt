-- Which characters a page shows by their numbers: those that cannot be seen or turn the writing round. Assumes nothing.
use Rattle.std.specs.Prelude.{ℕ, ◌+◌, ◌*◌, ◌%◌, Bool, cond, not, ◌&&◌, ◌||◌, List, eqb, leb, ltb, get_or}

-- a control, but a TAB
abbrev pub unseen_one : ℕ → Bool
unseen_one a = (ltb a 32 && not (eqb a 9)) || eqb a 127

-- two bytes that are a control, a soft hyphen or a mark of writing: U+0080 to U+009F, U+00AD, U+061C
abbrev pub unseen_narrow : ℕ → ℕ → Bool
unseen_narrow a b = (eqb a 194 && ((leb 128 b && leb b 159) || eqb b 173)) || (eqb a 216 && eqb b 156)

-- three bytes that are a mark of the order of bytes or of writing, a space without width or a separator of lines: U+FEFF, U+200B to U+200F, U+2028 to U+202E, U+2060 to U+206F
abbrev pub unseen_wide : ℕ → ℕ → ℕ → Bool
unseen_wide a b c =
    (eqb a 239 && (eqb b 187 && eqb c 191))
    || (((eqb a 226 && eqb b 128) && ((leb 139 c && leb c 143) || (leb 168 c && leb c 174))) || ((eqb a 226 && eqb b 129) && (leb 160 c && leb c 175)))

-- how many bytes the first character has, where it is such a one; 0 for any other
abbrev pub unseen_len : List ℕ → ℕ
unseen_len s = cond (unseen_one (get_or s 0 0)) 1 (cond (unseen_narrow (get_or s 0 0) (get_or s 1 0)) 2 (cond (unseen_wide (get_or s 0 0) (get_or s 1 0) (get_or s 2 0)) 3 0))

-- a byte that has a meaning in HTML: & < > "
abbrev pub is_sign : ℕ → Bool
is_sign a = eqb a 38 || (eqb a 60 || (eqb a 62 || eqb a 34))

-- the number of the first character, which has n bytes
abbrev pub code_of : List ℕ → ℕ → ℕ
code_of s n = cond (eqb n 1) (get_or s 0 0) (cond (eqb n 2) (get_or s 0 0 % 32 * 64 + get_or s 1 0 % 64) (get_or s 0 0 % 16 * 4096 + get_or s 1 0 % 64 * 64 + get_or s 2 0 % 64))
