-- Any whole lines, then a tail that opens with a header and closes no curly brace that it did not open: what three of the passes make of them. Assumes nothing.
use Prim.Native.Nat.{ℕ}
use mathlib.Core.Path.{◌≡◌}
use mathlib.Core.Bool.{Bool, true}
use mathlib.Core.List.{List, ◌++◌}
use Rattle.place.specs.Inner.Region.{headed}
use Rattle.place.specs.Inner.Blocks.{own}
use Rattle.reading.specs.Reading.{clean_in, reading_by, strict_at, joined_at, reading_of, ends_shut}
use Rattle.reading.proofs.Lined.{modes-lined}
use Rattle.calls.proofs.Instance as calls
use Rattle.decls.proofs.Passes as decls
use Rattle.bind.proofs.Cut as bind
use Rattle.steps.specs.Step.{step_of}

-- the passes rebuild_calls, prune_decls and bind_declarators, by their numbers
pub data Cuts : ℕ → Type 0 where
  rebuilds : Cuts 4
  prunes : Cuts 5
  binds : Cuts 6

-- each gives, for the whole, the upper part's lines followed by the tail's, strict or not, joined or not: the upper part may be empty, the braces are those
-- that the cleaning leaves, and where lines are joined nothing may be open where the tail begins
pub cut_by : {k : ℕ} → Cuts k → (strict joined : Bool) (upper tail : List (List ℕ)) → headed tail ≡ true → ends_shut joined upper ≡ true → own (clean_in joined tail) ≡ true →
    step_of (reading_by strict joined) k (upper ++ tail) ≡ step_of (reading_by strict joined) k upper ++ step_of (reading_by strict joined) k tail
unfolding step_of
cut_by rebuilds strict joined upper tail h s o = calls.calls-cut (modes-lined strict joined) upper tail h s o
cut_by prunes strict joined upper tail h s o = decls.cut-law upper tail h
cut_by binds strict joined upper tail h s o = bind.bind-cut (modes-lined strict joined) upper tail h s o

-- the same by the number of a mode
pub cut-pass : {k : ℕ} → Cuts k → (mode : ℕ) (upper tail : List (List ℕ)) → headed tail ≡ true → ends_shut (joined_at mode) upper ≡ true → own (clean_in (joined_at mode) tail) ≡ true →
    step_of (reading_of mode) k (upper ++ tail) ≡ step_of (reading_of mode) k upper ++ step_of (reading_of mode) k tail
cut-pass c mode upper tail h s o = cut_by c (strict_at mode) (joined_at mode) upper tail h s o
