-- Our words for the first b and for how many there are, as std says them of a chain of iterators. Assumes nothing.
use Rattle.std.proofs.Common.{◌≡◌, ℕ, ◌≤◌, Bool, true, false, cond, not, ◌||◌, ◌==◌, List, [], ◌∷◌, length, refl, sym, ◌∙◌, arith}
use Rattle.std.specs.Prelude.{position, count_by, unwrap_or, None, Some, nat_lt, nat_eq}
use Rattle.lines.specs.Inner.Lf.{lacks}
use Rattle.std.specs.List.{list_all, list_any, position_or_len, starts_with}
use Rattle.std.proofs.lemmas.List.Recursion.{is_position_or_len, is_count_by}
use Rattle.lines.proofs.LfLaws.{up_to-le}
use Rattle.lines.specs.Lf.{all, up_to, count_of, prefixed}

pub up_to_is_first : (b : ℕ) (s : List ℕ) → up_to b s ≡ position_or_len (λ x. x == b) s
unfolding up_to
up_to_is_first b s = is_position_or_len (up_to b) (λ x. x == b) refl (λ x xs. grind arith) s

pub count_of_is_count : (b : ℕ) (s : List ℕ) → count_of b s ≡ count_by (λ x. x == b) s
unfolding count_of
count_of_is_count b s = is_count_by (count_of b) (λ x. x == b) refl (λ x xs. grind arith) s

-- `iter().position(..).unwrap_or(s.len())`
pub first_or_all : (p n : ℕ) → p ≤ n → unwrap_or (cond (nat_lt p n) (Some p) None) n ≡ p
first_or_all p n h = grind arith

pub position_is_up_to : (b : ℕ) (s : List ℕ) → unwrap_or (position (λ x. x == b) s) (length s) ≡ up_to b s
position_is_up_to b s =
    let e = up_to_is_first b s in
    first_or_all (position_or_len (λ x. x == b) s) (length s) (omega (arith, e, up_to-le b s)) ∙ sym e

-- `s.starts_with(p)`
pub starts_is_prefixed : (p s : List ℕ) → starts_with nat_eq s p ≡ prefixed p s
unfolding prefixed
starts_is_prefixed [] s = refl
starts_is_prefixed (x ∷ p) [] = refl
starts_is_prefixed (x ∷ p) (y ∷ s) = rw (starts_is_prefixed p s)

-- `!s.contains(&b)`
pub lacks_is_none : (b : ℕ) (s : List ℕ) → not (list_any (λ x. x == b) s) ≡ lacks b s
unfolding lacks
lacks_is_none b [] = refl
lacks_is_none b (x ∷ xs) = go (x == b) (lacks_is_none b xs)
  where
    go : (t : Bool) → not (list_any (λ x. x == b) xs) ≡ lacks b xs → not (t || list_any (λ x. x == b) xs) ≡ cond t false (lacks b xs)
    go true h = refl
    go false h = h

-- `iter().all(f)`
pub all_is_list_all : {A : Type 0} (f : A → Bool) (s : List A) → all f s ≡ list_all f s
all_is_list_all f [] = refl
all_is_list_all f (x ∷ xs) = rw (all_is_list_all f xs)
