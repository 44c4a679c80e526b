-- What one round writes of a line, and how much scratch the rounds use. Assumes nothing.
use Rattle.std.specs.Prelude.{ℕ, max, Bool, false, cond, not, ◌||◌, List, [], ◌++◌, length}
use Rattle.lines.specs.Ascii.{ascii}
use Rattle.lines.specs.Lf.{lines_of, unlines}
use Rattle.lines.specs.Acts.{act}
use Rattle.names.specs.Names.{phi_of}
use Rattle.std.specs.declared.option.Option.{Option}
use Rattle.names.specs.declared.Phi.{Phi}
use Rattle.std.specs.declared.option.Option.TheVariants.{Some, None}
use Rattle.lexical.specs.Phi.{phi_rhs_pure}
use Rattle.reading.specs.Reading.{Reading, pure_in}
use Rattle.phis.specs.Phis.{dead_phi, phi_act, round}

-- a name is that of a phi that is not dead in the text ls
abbrev pub live_by : List (List ℕ) → Option Phi → Bool
live_by ls None = false
live_by ls (Some q) = not (dead_phi q.0 ls)

-- the same of a text that names it
abbrev pub live : List (List ℕ) → List ℕ → Bool
live ls t = live_by ls (phi_of t)

-- the bytes that a store of a dead phi becomes
unfoldable pub store_text : Reading → List ℕ → List ℕ → List ℕ
store_text R indent rhs = cond (pure_in R rhs || phi_rhs_pure rhs) [] (indent ++ rhs ++ ascii ";\n")

-- the bytes that a line becomes, where the text ls has a dead phi
unfoldable pub change_text : Reading → List (List ℕ) → List ℕ → List ℕ
unfolding phi_act act unlines
change_text R ls l = unlines (act (phi_act R ls l) l)

-- how long the longest text is that a round reads
unfoldable pub longest : Reading → List ℕ → ℕ
unfolding round
longest R t = max (length t) (max (length (unlines (round R (lines_of t)))) (length (unlines (round R (round R (lines_of t))))))
