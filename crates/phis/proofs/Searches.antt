-- Laws of searches: some line of a text, or some piece between commas, passes a test. Assumes nothing.
use Rattle.std.specs.List.{list_any, list_all}
use Prim.Native.Nat.{ℕ, ◌+◌}
use mathlib.Core.Path.{◌≡◌, refl, ap, ◌∙◌}
use mathlib.Core.Bool.{Bool, true, false, ◌&&◌, ◌||◌}
use mathlib.Core.List.{List, [], ◌∷◌}
use native.Mathlib.Omega.{arith}
use borrow.Author.Tests.{ltb-true, ltb-false}
use lib.Dec.{ltb}
use lib.ListN.{length, drop}
use Rattle.lines.specs.Lf.{part, up_to, parts_of}
use Rattle.lines.proofs.LfLaws.{parts_at, parts-at-end}
use Rattle.text.specs.Trim.{trim_start, trim_of}
use Rattle.names.specs.Names.{phi_of, phi_is}
use Rattle.phis.specs.Phis.{is_phi, all_phis, any_phi, phi_store, phi_reads, phi_read, phi_stored, phi_dead, any_dead}

-- ---- the tests of the definitions

pub read-any : (p : ℕ) (ls : List (List ℕ)) → list_any (phi_reads p) ls ≡ phi_read p ls
unfolding phi_read
read-any p [] = refl
read-any p (l ∷ ls) = ap (λ (b : Bool). phi_reads p l || b) (read-any p ls)

-- a line stores phi p
abbrev pub stores_it : ℕ → List ℕ → Bool
stores_it p l = phi_is p (phi_store (trim_start l))

pub stored-any : (p : ℕ) (ls : List (List ℕ)) → list_any (stores_it p) ls ≡ phi_stored p ls
unfolding phi_stored
stored-any p [] = refl
stored-any p (l ∷ ls) = ap (λ (b : Bool). phi_is p (phi_store (trim_start l)) || b) (stored-any p ls)

-- a line stores a phi that is dead in ls
abbrev pub stores_dead : List (List ℕ) → List ℕ → Bool
stores_dead ls m = phi_dead (phi_store (trim_start m)) ls

pub dead-any : (ls ms : List (List ℕ)) → list_any (stores_dead ls) ms ≡ any_dead ls ms
unfolding any_dead
dead-any ls [] = refl
dead-any ls (m ∷ ms) = ap (λ (b : Bool). phi_dead (phi_store (trim_start m)) ls || b) (dead-any ls ms)

-- a piece is phi p
abbrev pub piece_is : ℕ → List ℕ → Bool
piece_is p x = phi_is p (phi_of (trim_of x))

pub phi-any : (p : ℕ) (xs : List (List ℕ)) → list_any (piece_is p) xs ≡ any_phi p xs
unfolding any_phi
phi-any p [] = refl
phi-any p (x ∷ xs) = ap (λ (b : Bool). phi_is p (phi_of (trim_of x)) || b) (phi-any p xs)

-- a piece is a phi
abbrev pub piece_phi : List ℕ → Bool
piece_phi x = is_phi (phi_of (trim_of x))

pub phis-all : (xs : List (List ℕ)) → list_all piece_phi xs ≡ all_phis xs
unfolding all_phis
phis-all [] = refl
phis-all (x ∷ xs) = ap (λ (b : Bool). is_phi (phi_of (trim_of x)) && b) (phis-all xs)

-- ---- a first piece that is none

first-not : (x : List ℕ) (xs : List (List ℕ)) → piece_phi x ≡ false → all_phis (x ∷ xs) ≡ false
unfolding all_phis
first-not x xs e = rw e

pub phis-not : (s : List ℕ) (e : ℕ) → e ≡ 0 + up_to 44 (drop 0 s) → piece_phi (part 0 e s) ≡ false → all_phis (parts_of 44 s) ≡ false
phis-not s e q k = go (ltb e (length s)) refl
  where
    go : (t : Bool) → ltb e (length s) ≡ t → all_phis (parts_of 44 s) ≡ false
    go true y = ap all_phis (parts_at 44 s 0 e (omega arith) q (ltb-true e (length s) y)) ∙ first-not _ _ k
    go false y = ap all_phis (parts-at-end 44 s 0 e (omega arith) q (ltb-false e (length s) y)) ∙ first-not _ _ k
