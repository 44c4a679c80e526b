-- The equations that say that two outcomes of a call are the same, one for each `&mut` and one for the answer. Assumes nothing.
use Prim.Native.Nat.{ℕ}
use mathlib.Core.Path.{◌≡◌}
use mathlib.Core.List.{List, [], ◌∷◌}
use contract.Lifetimes.{Lfts}
use denote.Exit.{Exit, unchanged, leaves, Last}
use denote.RattleType.{Denots}
use denote.Signature.{Slot, types_at}
use denote.Triple.End.{Kepts, Fins}

-- of a value that is bound at exit, an equation; of one that is as it was passed, none
abbrev pub also : {D : Type 0} (e : Exit D) (d : D) → Last e d → Last e d → List (Type 0) → List (Type 0)
also unchanged d v w rest = rest
also (leaves L l S s z) d v w rest = (v ≡ w) ∷ rest

-- and so for all arguments
abbrev pub equations : {n : ℕ} (κs : Lfts n) (ss : List (Slot n)) (ks : Kepts ss) (a : Denots (types_at ss κs)) → Fins κs ss ks a → Fins κs ss ks a → List (Type 0) → List (Type 0)
equations κs [] ks a v w rest = rest
equations κs (s ∷ ss) ks a v w rest = also ((s.row κs).exit ks.0) a.0 v.0 w.0 (equations κs ss ks.1 a.1 v.1 w.1 rest)
