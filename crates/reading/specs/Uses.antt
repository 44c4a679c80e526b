-- `reads_in(&parse(line))`, and what a line stores. Assumes nothing.
use Rattle.std.specs.Prelude.{ℕ, Bool, false, ◌||◌, List, [], ◌∷◌, eqb, ltb}
use Rattle.parse.specs.Parse.{parse_of, text_of}
use Rattle.parse.specs.declared.Line.{Line}
use Rattle.parse.specs.declared.Line.TheVariants as line
use Rattle.words.specs.Runs.{reads_of}

-- `reads_in(&parse(l)).get(v)`: how often a line reads register v
unfoldable pub line_reads : ℕ → List ℕ → ℕ
line_reads v l = reads_of v (text_of l (parse_of l))

-- a line, as it was read, stores register v
abbrev pub stores_by : ℕ → Line → Bool
stores_by v line.Decl = false
stores_by v (line.Store s) = eqb s.reg.0 v
stores_by v line.Other = false

-- a line stores register v
unfoldable pub line_stores : ℕ → List ℕ → Bool
line_stores v l = stores_by v (parse_of l)

-- a line reads or stores register v
unfoldable pub line_uses : ℕ → List ℕ → Bool
unfolding line_reads line_stores
line_uses v l = line_stores v l || ltb 0 (line_reads v l)

-- some line does
unfoldable pub used_in : ℕ → List (List ℕ) → Bool
unfolding line_uses
used_in v [] = false
used_in v (l ∷ ls) = line_uses v l || used_in v ls
