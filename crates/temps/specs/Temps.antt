-- `prune_dead_temps`: a store of a declared temp that nothing reads goes, where its value is pure. Assumes nothing.
use Rattle.std.specs.Prelude.{ℕ, ◌-◌, Bool, false, cond, not, ◌&&◌, ◌||◌, List, [], ◌∷◌, length, nat_lt}
use Prim.Native.Char.{code}
use Rattle.lines.specs.Lf.{parts_of, prefixed, same, ends_in}
use Rattle.lines.specs.Acts.{Act, keep, gone, apply}
use Rattle.text.specs.Trim.{trim_of}
use Rattle.names.specs.Names.{is_temp}
use Rattle.parse.specs.Parse.{let_word, body_of}
use Rattle.place.specs.Region.{var_word, const_word}
use Rattle.words.specs.Hits.{hits}
use Rattle.reading.specs.Reading.{Reading, pure_in}
use Rattle.reading.specs.Assign.{is_assign, left_of, right_of}

-- one of the pieces, trimmed, is x
unfoldable pub any_piece : List ℕ → List (List ℕ) → Bool
any_piece x [] = false
any_piece x (p ∷ ps) = same (trim_of p) x || any_piece x ps

-- a trimmed line declares x: `let `, names split at commas, `;`
unfoldable pub declares : List ℕ → List ℕ → Bool
unfolding any_piece
declares x t = nat_lt 4 (length t) && (prefixed let_word t && (ends_in (code ";") t && any_piece x (parts_of (code ",") (body_of t))))

-- how often a trimmed line reads x: a line that begins with `let `, `var ` or `const ` reads nothing, and the left side of a store is no read
unfoldable pub temp_reads : List ℕ → List ℕ → ℕ
temp_reads x t =
    cond (prefixed let_word t || (prefixed var_word t || prefixed const_word t)) 0
    (length (hits x t) - cond (is_assign t && same (left_of t) x) 1 0)

-- some line declares x, some line reads it
unfoldable pub declared_in : List ℕ → List (List ℕ) → Bool
unfolding declares
declared_in x [] = false
declared_in x (l ∷ ls) = declares x (trim_of l) || declared_in x ls

unfoldable pub temp_read : List ℕ → List (List ℕ) → Bool
unfolding temp_reads
temp_read x [] = false
temp_read x (l ∷ ls) = nat_lt 0 (temp_reads x (trim_of l)) || temp_read x ls

-- a temp that is declared and that nothing reads, in the whole text
abbrev pub dead_temp : List ℕ → List (List ℕ) → Bool
dead_temp x ls = is_temp x && (declared_in x ls && not (temp_read x ls))

-- what becomes of a line of the text ls
unfoldable pub temp_act : Reading → List (List ℕ) → List ℕ → Act
unfolding declared_in temp_read
temp_act R ls l =
    cond (is_assign (trim_of l) && (dead_temp (left_of (trim_of l)) ls && pure_in R (right_of (trim_of l)))) gone keep

unfoldable pub temp_acts : Reading → List (List ℕ) → List (List ℕ) → List Act
unfolding temp_act
temp_acts R ls [] = []
temp_acts R ls (m ∷ ms) = temp_act R ls m ∷ temp_acts R ls ms

unfoldable pub prune_dead_temps_acts : Reading → List (List ℕ) → List Act
unfolding temp_acts
prune_dead_temps_acts R ls = temp_acts R ls ls

unfoldable pub prune_dead_temps : Reading → List (List ℕ) → List (List ℕ)
unfolding prune_dead_temps_acts apply
prune_dead_temps R ls = apply (prune_dead_temps_acts R ls) ls
