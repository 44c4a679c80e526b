-- What is known of an answer is known of the one that the definition gives. Assumes nothing.
use Prim.Native.Nat.{ℕ}
use mathlib.Core.Path.{◌≡◌, ◌∙◌, ap, subst}
use mathlib.Core.List.{List}
use Rattle.limits.specs.declared.Limits.{Limits}
use Rattle.limits.specs.Answer.{Answer, number_of, length_of, place_of}
use Rattle.limits.specs.Entry.{out_after}
use Rattle.opt.specs.Room.{After, AfterLarge}

-- r the answer that came, x the one that is right; n, l and p what is handed on; s the result, i the result buffer, w the records, j their buffer; W what is
-- known of the work buffers after an answer
answered-by : (W : Answer → Type 0) {r x : Answer} {n l p : ℕ} (s i w j : List ℕ) {i' j' : List ℕ}
    → r ≡ x
    → n ≡ number_of r → l ≡ length_of r → p ≡ place_of r
    → i' ≡ out_after r s i
    → j' ≡ out_after r w j
    → W r
    → (n ≡ number_of x) × ((l ≡ length_of x) × ((p ≡ place_of x) × ((i' ≡ out_after x s i) × ((j' ≡ out_after x w j) × W x))))
answered-by W s i w j is number length place result records work = (
  number ∙ ap number_of is,
  (
    length ∙ ap length_of is,
    (
      place ∙ ap place_of is,
      (
        result ∙ ap (λ (y : Answer). out_after y s i) is,
        (records ∙ ap (λ (y : Answer). out_after y w j) is, subst W is work),
      ),
    ),
  ),
)

-- of the first pair
pub answered : {L : Limits} {r x : Answer} {n l p : ℕ} (s i w j : List ℕ) {i' j' a b c d e u a' b' c' d' e' u' : List ℕ}
    → r ≡ x
    → n ≡ number_of r → l ≡ length_of r → p ≡ place_of r
    → i' ≡ out_after r s i
    → j' ≡ out_after r w j
    → After L r a b c d e u a' b' c' d' e' u'
    → (n ≡ number_of x) × ((l ≡ length_of x) × ((p ≡ place_of x) × ((i' ≡ out_after x s i) × ((j' ≡ out_after x w j) × After L x a b c d e u a' b' c' d' e' u'))))
answered {L} s i w j {a = a} {b = b} {c = c} {d = d} {e = e} {u = u} {a' = a'} {b' = b'} {c' = c'} {d' = d'} {e' = e'} {u' = u'} is number length place result records work =
    answered-by (λ (y : Answer). After L y a b c d e u a' b' c' d' e' u') s i w j is number length place result records work

-- of the second
pub answered-large : {L : Limits} {y₁ y₂ : Answer} {n l k : ℕ} (s i m j : List ℕ) {i' j' a b c d e f g h u v w x p q r t o z a' b' c' d' e' f' g' h' u' v' w' x' p' q' r' t' o' z' : List ℕ}
    → y₁ ≡ y₂
    → n ≡ number_of y₁ → l ≡ length_of y₁ → k ≡ place_of y₁
    → i' ≡ out_after y₁ s i
    → j' ≡ out_after y₁ m j
    → AfterLarge L y₁ a b c d e f g h u v w x p q r t o z a' b' c' d' e' f' g' h' u' v' w' x' p' q' r' t' o' z'
    → (n ≡ number_of y₂) × ((l ≡ length_of y₂) × ((k ≡ place_of y₂) × ((i' ≡ out_after y₂ s i) × ((j' ≡ out_after y₂ m j) × AfterLarge L y₂ a b c d e f g h u v w x p q r t o z a' b' c' d' e' f' g' h' u' v' w' x' p' q' r' t' o' z'))))
answered-large {L} s i m j {a = a} {b = b} {c = c} {d = d} {e = e} {f = f} {g = g} {h = h} {u = u} {v = v} {w = w} {x = x} {p = p} {q = q} {r = r} {t = t} {o = o} {z = z} {a' = a'} {b' = b'} {c' = c'} {d' = d'} {e' = e'} {f' = f'} {g' = g'} {h' = h'} {u' = u'} {v' = v'} {w' = w'} {x' = x'} {p' = p'} {q' = q'} {r' = r'} {t' = t'} {o' = o'} {z' = z'} is number length place result records work =
    answered-by (λ (y : Answer). AfterLarge L y a b c d e f g h u v w x p q r t o z a' b' c' d' e' f' g' h' u' v' w' x' p' q' r' t' o' z') s i m j is number length place result records work
