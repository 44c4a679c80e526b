-- The table of the registers that lines use: what marking them leaves in it, and what it then says. Assumes nothing.
use Rattle.std.specs.Prelude.{ℕ, zero, suc, ◌+◌, ◌≤◌, ◌<◌, min, ◌≡◌, Bool, false, cond, List, [], ◌∷◌, eqb, ltb, length, take, drop, get_or}
use Prim.Native.Char.{code}
use Rattle.lines.specs.Lf.{part, up_to}
use Rattle.text.specs.Class.{is_name}
use Rattle.text.specs.Trim.{trim_of}
use Rattle.names.specs.Names.{reg_of}
use Rattle.std.specs.declared.option.Option.{Option}
use Rattle.names.specs.declared.Register.{Register}
use Rattle.std.specs.declared.option.Option.TheVariants.{Some, None}
use Rattle.parse.specs.Parse.{is_decl, parse_of, text_of}
use Rattle.parse.specs.declared.Line.{Line}
use Rattle.parse.specs.declared.Line.TheVariants as line
use Rattle.words.specs.Runs.{runs}
use Rattle.words.specs.Inner.Runs.{run_len}
use Rattle.place.specs.Region.{is_header}
use Rattle.reading.specs.Uses.{used_in}
use Rattle.slots.specs.Inner.Slots.{slot_of, entry_of, with_entry}

-- the table d after the mark m of the register that a name is; a register that has no place in it leaves it as it is
abbrev pub mark_name : List ℕ → ℕ → Option Register → List ℕ → List ℕ
mark_name own m None d = d
mark_name own m (Some q) d = with_entry own q.0 m d

-- after the marks of the registers that runs name
unfoldable pub mark_runs : List ℕ → ℕ → List (List ℕ) → List ℕ → List ℕ
mark_runs own m [] d = d
mark_runs own m (r ∷ rs) d = mark_runs own m rs (mark_name own m (reg_of r) d)

-- a name byte stands just before the place i
abbrev pub name_before : ℕ → List ℕ → Bool
name_before zero s = false
name_before (suc i) s = is_name (get_or s i 0)

-- the run of name bytes at the front of a text, and at the place i
abbrev pub run_of : List ℕ → List ℕ
run_of l = take (run_len l) l

abbrev pub run_at : ℕ → List ℕ → List ℕ
run_at i s = run_of (drop i s)

-- after the mark of the register that a line stores
abbrev pub mark_store : List ℕ → ℕ → Line → List ℕ → List ℕ
mark_store own m line.Decl d = d
mark_store own m (line.Store s) d = with_entry own s.reg.0 m d
mark_store own m line.Other d = d

-- after the marks of the registers that a line uses
unfoldable pub mark_line : List ℕ → ℕ → List ℕ → List ℕ → List ℕ
unfolding mark_runs
mark_line own m l d = mark_runs own m (runs (text_of l (parse_of l))) (mark_store own m (parse_of l) d)

-- after those of lines
unfoldable pub mark_lines : List ℕ → ℕ → List (List ℕ) → List ℕ → List ℕ
unfolding mark_line
mark_lines own m [] d = d
mark_lines own m (l ∷ ls) d = mark_lines own m ls (mark_line own m l d)

-- no mark of the table is above m
abbrev pub AtMost : ℕ → List ℕ → Type 0
AtMost m d = (v : ℕ) → get_or d v 0 ≤ m

-- of the registers that have a place in it, the table has the mark m exactly at those that lines use
abbrev pub Says : List ℕ → ℕ → List (List ℕ) → List ℕ → Type 0
Says own m ls d = (v : ℕ) → slot_of (length d) own v < length d → eqb (entry_of own v d) m ≡ used_in v ls

-- what the table answers for register v of the region `run`: whether it has the mark m, and where it has no place, whether a line uses it
abbrev pub asked_in : List ℕ → ℕ → List ℕ → List (List ℕ) → ℕ → Bool
asked_in own m d run v = cond (ltb (slot_of (length d) own v) (length d)) (eqb (entry_of own v d) m) (used_in v run)

-- and for the register that a name is
abbrev pub seen_stays : List ℕ → ℕ → List ℕ → List (List ℕ) → Option Register → Bool
seen_stays own m d run None = false
seen_stays own m d run (Some q) = asked_in own m d run q.0

-- no line from the place i up to j is a header or a declaration; e is where such a line ends, and k the place after it
pub data Quiet (t : List ℕ) : ℕ → ℕ → Type 0 where
  quiet_none : (i : ℕ) → Quiet t i i
  quiet-more : (i j e k : ℕ) → Quiet t i j → j < length t → e ≡ j + up_to (code "\n") (drop j t) → is_header (part j e t) ≡ false → is_decl (trim_of (part j e t)) ≡ false → k ≡ min (e + 1) (length t) → Quiet t i k
