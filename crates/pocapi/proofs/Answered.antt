-- What is known of an answer is known of the one that the definition gives. Assumes nothing.
use Prim.Native.Nat.{ℕ}
use mathlib.Core.Path.{◌≡◌, ◌∙◌, ap}
use mathlib.Core.List.{List}

-- r the answer that came, x the one that is right; n, l and p what is handed on; i and o what the index and the output hold, by the answer
pub answered : {A : Type 0} {r x : A} {n l p : ℕ} {i o : List ℕ} (number size place : A → ℕ) (index out : A → List ℕ)
    → r ≡ x
    → n ≡ number r → l ≡ size r → p ≡ place r
    → i ≡ index r → o ≡ out r
    → (n ≡ number x) × ((l ≡ size x) × ((p ≡ place x) × ((i ≡ index x) × (o ≡ out x))))
answered number size place index out is a b c d e = (a ∙ ap number is, (b ∙ ap size is, (c ∙ ap place is, (d ∙ ap index is, e ∙ ap out is))))
