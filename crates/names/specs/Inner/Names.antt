-- What inner functions and laws ask beside Names: no promise of an entry hangs on it. Assumes nothing.
use Rattle.std.specs.Prelude.{ℕ, suc, cond, List, [], ◌∷◌, length, drop, eqb}
use Prim.Native.Char.{code}
use Rattle.lines.specs.Lf.{prefixed}
use Rattle.std.specs.declared.option.Option.{Option}
use Rattle.std.specs.declared.option.Option.TheVariants.{Some, None}
use Rattle.names.specs.Names.{read_number}

-- how many zeros lead, of digits; the last digit is not counted
unfoldable pub zeros : List ℕ → ℕ
zeros [] = 0
zeros (x ∷ []) = 0
zeros (x ∷ d ∷ ds) = cond (eqb x (code "0")) (suc (zeros (d ∷ ds))) 0

-- the number that follows a word, where the word stands in front
unfoldable pub number_after : List ℕ → List ℕ → Option ℕ
unfolding read_number prefixed
number_after p s = cond (prefixed p s) (read_number (drop (length p) s)) None
