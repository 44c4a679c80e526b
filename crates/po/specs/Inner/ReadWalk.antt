-- What the reader's inner functions are held to. Assumes nothing.
use Rattle.std.specs.Prelude.{ℕ, suc, ◌+◌, ◌≤◌, ◌≡◌, Bool, true, false, cond, ◌&&◌, ◌||◌, List, [], ◌∷◌, ◌++◌, length, take, drop, eqb, leb}
use Prim.Native.Char.{code}
use Rattle.lines.specs.Ascii.{ascii}
use Rattle.lines.specs.Lf.{part, same, up_to, parts_of}
use Rattle.po.specs.declared.Line.{Line}
use Rattle.po.specs.Answers.{Strings}
use Rattle.po.specs.declared.StringsRefusal.TheVariants as strings
use Rattle.std.specs.declared.result.Result.TheVariants.{Ok, Err}
use Rattle.po.specs.Found.{decoded, empty}
use Rattle.po.specs.Form.{id_word, str_word, ref_line, escaped}
use Rattle.po.specs.Name.{is_file_name}
use Rattle.po.specs.Reader.{State, start, Read, bad, good, quoted_text, name_in, line_number, read_on, packed, given}

-- what follows a place is a text as it is written, and its closing quote
unfoldable pub formed : List ℕ → Bool
unfolding escaped decoded
formed l = same l (escaped (decoded l 34) ++ ascii "\"")

-- a line is a reference
unfoldable pub is_reference : List ℕ → Bool
unfolding name_in line_number is_file_name
is_reference l = same l (ref_line (name_in l) (line_number l)) && is_file_name (name_in l)

-- to the one file, to no line above the last
abbrev pub follows : List ℕ → ℕ → List ℕ → Bool
follows name least l = (empty name || same name (name_in l)) && leb least (line_number l)

-- what is awaited after a line
abbrev pub next_of : ℕ → ℕ
next_of w = cond (eqb w 6) 3 (suc w)

-- after lines
unfoldable pub after_reading : List (List ℕ) → State → State
unfolding read_on
after_reading [] s = s
after_reading (l ∷ ls) s = after_reading ls (read_on s l)

-- after the first k lines of a file
unfoldable pub state_at : List ℕ → ℕ → State
unfolding after_reading
state_at file k = after_reading (take k (parts_of (code "\n") file)) start

-- a line that is awaited as w is a msgid of the text x
abbrev pub same_id : ℕ → List ℕ → List ℕ → Bool
same_id w l x = eqb w 5 && same (quoted_text id_word l) x

-- one of the lines is
unfoldable pub met : ℕ → List (List ℕ) → List ℕ → Bool
unfolding decoded
met w [] x = false
met w (l ∷ ls) x = same_id w l x || met (next_of w) ls x

-- what a line gives
abbrev pub gives_one : ℕ → List ℕ → List ℕ
gives_one w l = cond (eqb w 5) (packed (quoted_text id_word l)) (cond (eqb w 6) (packed (quoted_text str_word l)) [])

-- what lines give, the first of them awaited as w
unfoldable pub gives : ℕ → List (List ℕ) → List ℕ
gives w [] = []
gives w (l ∷ ls) = gives_one w l ++ gives (next_of w) ls

-- a line of a file, with what stands above it
pub record At (file : List ℕ) (r : Line) : Type 0 where
  pub inside : r.at ≤ length file
  pub ends : r.end ≡ r.at + up_to (code "\n") (drop r.at file)
  pub few : r.number ≤ r.at
  pub low : r.awaits ≤ 6
  pub awaits : r.awaits ≡ (state_at file r.number).awaits
  pub name : part r.from r.to file ≡ (state_at file r.number).name
  pub least : r.least ≡ (state_at file r.number).least
  pub done : List (List ℕ)
  pub size : length done ≡ r.number
  pub split : parts_of (code "\n") file ≡ done ++ parts_of (code "\n") (drop r.at file)

-- whether a file was read
abbrev pub is_good : Read → Bool
is_good (bad n) = false
is_good (good ids strs) = true

-- how much is given, or the line
abbrev pub read_verdict : Read → Strings
read_verdict (bad n) = Err (strings.BadLine n)
read_verdict (good ids strs) = Ok (length (given ids strs []))
