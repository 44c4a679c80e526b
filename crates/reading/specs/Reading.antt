-- What the passes ask of values and of lines, as a parameter: what counts as pure, and how lines are cleaned. Assumes nothing.
use Rattle.std.specs.Prelude.{ℕ, ◌%◌, Bool, true, false, List, eqb, ltb}
use Rattle.lexical.specs.declared.Open.{Open}
use Rattle.lexical.specs.declared.Open.TheVariants.{Nothing, Comment, Template}
use Rattle.lexical.specs.Joined.{rests_in, open_after}
use Rattle.expr.specs.Pure.{is_pure, purity_in, purity_of}
use Rattle.expr.specs.declared.kinds.Purity.{Purity}
use Rattle.place.specs.Blocks.{cleaned}

-- the purity of a value, and the cleaning of lines
pub record Reading : Type 0 where
  pub purity : List ℕ → Purity
  pub clean : List (List ℕ) → List (List ℕ)

-- as the Rust reads
abbrev pub plain : Reading
plain = record { purity = purity_of; clean = cleaned }

-- each line cleaned by itself, or joined: by what the lines above leave open
abbrev pub clean_in : Bool → List (List ℕ) → List (List ℕ)
clean_in joined ls = cleaned (rests_in joined ls)

-- strict or not, joined or not
abbrev pub reading_by : Bool → Bool → Reading
reading_by strict joined = record { purity = purity_in strict; clean = clean_in joined }

-- modes 1 and 3 are strict
abbrev pub strict_at : ℕ → Bool
strict_at k = eqb (k % 2) 1

-- in modes 2 and 3 lines are joined
abbrev pub joined_at : ℕ → Bool
joined_at k = ltb 1 k

-- as mode k reads: 0 plain, 1 strict, 2 joined, 3 both
abbrev pub reading_of : ℕ → Reading
reading_of k = reading_by (strict_at k) (joined_at k)

-- `pure_expr`
abbrev pub pure_in : Reading → List ℕ → Bool
pure_in R v = is_pure (R.purity v)

-- ---- where a listing may be cut

abbrev pub is_nothing : Open → Bool
is_nothing Nothing = true
is_nothing Comment = false
is_nothing Template = false

-- nothing is open below these lines, where lines are joined
abbrev pub ends_shut : Bool → List (List ℕ) → Bool
ends_shut true ls = is_nothing (open_after Nothing ls)
ends_shut false ls = true
