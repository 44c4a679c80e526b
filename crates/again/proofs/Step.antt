-- What becomes of a line when prune_decls is run, as running it again asks. Assumes nothing.
use Prim.Native.Nat.{ℕ}
use mathlib.Core.Path.{◌≡◌}
use mathlib.Core.Bool.{true, false}
use mathlib.Core.List.{List, [], ◌∷◌}
use Rattle.lines.specs.Acts.{act}
use Rattle.place.specs.Region.{is_header}
use Rattle.reading.specs.Uses.{line_uses, used_in}
use Rattle.decls.specs.Decls.{act_of}

-- what one run of lines uses, another does
abbrev pub More : List (List ℕ) → List (List ℕ) → Type 0
More run run' = (v : ℕ) → used_in v run ≡ true → used_in v run' ≡ true

-- what becomes of a line: nothing, and it used nothing; or a line that stays as it is wherever as much is used
pub data Step (run : List (List ℕ)) (l : List ℕ) : Type 0 where
  drops : act (act_of run l) l ≡ [] → ((v : ℕ) → line_uses v l ≡ false) → Step run l
  makes : (l' : List ℕ) → act (act_of run l) l ≡ l' ∷ [] → is_header l' ≡ is_header l → ((v : ℕ) → line_uses v l ≡ true → line_uses v l' ≡ true) →
      ((run' : List (List ℕ)) → More run run' → act (act_of run' l') l' ≡ l' ∷ []) → Step run l
