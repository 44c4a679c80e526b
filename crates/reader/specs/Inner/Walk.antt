-- What the walk over a file answers and writes from some record on. Assumes nothing.
use Rattle.std.specs.Prelude.{ℕ, zero, suc, ◌+◌, cond, List, [], ◌∷◌, length}
use Rattle.origins.specs.declared.Went.{Went}
use Rattle.origins.specs.Read.{Said, says, wrong}
use Rattle.origins.specs.Answers.{is_in}
use Rattle.std.specs.declared.result.Result.{Result}
use Rattle.reader.specs.declared.Refusal.{Refusal}
use Rattle.std.specs.declared.result.Result.TheVariants.{Ok, Err}
use Rattle.reader.specs.Replies.{Reply, refusal}

-- the check, where i records above were right
abbrev pub checked_from : ℕ → Said → Reply
checked_from i (says ws) = Ok (i + length ws)
checked_from i (wrong c j) = refusal c j

-- what is said of record i with such a fault: nothing where it has none
abbrev pub flaw_by : Reply → Result (Unit {0}) Refusal
flaw_by (Ok n) = Ok tt
flaw_by (Err e) = Err e

abbrev pub flaw : ℕ → ℕ → Result (Unit {0}) Refusal
flaw zero i = Ok tt
flaw (suc c) i = flaw_by (refusal (suc c) i)

-- line i, where it is in output line n
abbrev pub one_in : ℕ → ℕ → Went → List ℕ
one_in n i w = cond (is_in n w) (i ∷ []) []
