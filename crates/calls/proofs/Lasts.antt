-- Laws of the notes of lines that store a register: what the lines below it do with the register, and what a note says of that. Assumes nothing.
use Prim.Native.Nat.{ℕ, zero, suc, ◌+◌, ◌≤◌, ◌<◌}
use mathlib.Core.Path.{◌≡◌, refl, sym, ap, ◌∙◌}
use mathlib.Core.Bool.{Bool, true, false, cond, not, ◌&&◌, ◌||◌}
use mathlib.Core.List.{List, [], ◌∷◌}
use native.Mathlib.Omega.{arith}
use borrow.Author.Tests.{lt-ltb, ltb-true, ne_eqb}
use lib.Dec.{eqb, ltb}
use lib.ListN.{length, drop}
use Rattle.place.specs.Region.{is_header}
use Rattle.reading.specs.Reading.{plain}
use Rattle.reading.specs.Uses.{line_reads, line_stores}
use Rattle.decls.specs.Inner.Firsts.{first_by, store_from, head_from}
use Rattle.calls.specs.LeavesOf.{leaves_of}
use Rattle.calls.specs.Calls.{read_later}
use Rattle.calls.proofs.StepLaws.{stores-parsed}

-- ---- the lines below a store. The number of a line is how many lines there are from it on, and 0 stands for no line

-- a line with the number c after others, of which the one with the number r reads a register last: the number of that line then, by whether the
-- first line opens a region, stores the register, and reads it
unfoldable pub last_by : Bool → Bool → Bool → ℕ → ℕ → ℕ
last_by head stores reads c r = cond head 0 (cond stores (cond reads c 0) (cond (ltb 0 r) r (cond reads c 0)))

-- of the line that reads register v last, before a header, and up to a line that stores it
unfoldable pub read_end : ℕ → List (List ℕ) → ℕ
read_end v [] = 0
read_end v (l ∷ ls) = last_by (is_header l) (line_stores v l) (ltb 0 (line_reads v l)) (suc (length ls)) (read_end v ls)

last-le : (a b r : Bool) (c e : ℕ) → e ≤ c → last_by a b r c e ≤ c
unfolding last_by
last-le true b r c e h = omega arith
last-le false true true c e h = omega arith
last-le false true false c e h = omega arith
last-le false false r c e h = go (ltb 0 e) r
  where
    go : (t r : Bool) → cond t e (cond r c 0) ≤ c
    go true r = h
    go false true = omega arith
    go false false = omega arith

pub read-le : (v : ℕ) (ls : List (List ℕ)) → read_end v ls ≤ length ls
unfolding read_end
read-le v [] = omega arith
read-le v (l ∷ ls) = last-le (is_header l) (line_stores v l) (ltb 0 (line_reads v l)) (suc (length ls)) (read_end v ls) (let h = read-le v ls in omega arith)

-- ---- what is read below, by these numbers

-- the first step of `read_later`
later_by : Bool → Bool → Bool → Bool → Bool
later_by head stores reads more = cond head false (reads || (not stores && more))

not-zero : (n : ℕ) → not (eqb n 0) ≡ ltb 0 n
not-zero zero = refl
not-zero (suc n) = let z : 0 < suc n = omega arith in let y : suc n ≡ 0 → ⊥ = λ e. omega arith in ap not (ne_eqb (suc n) 0 y) ∙ sym (lt-ltb 0 (suc n) z)

later-by : (v : ℕ) (l : List ℕ) (ls : List (List ℕ)) → read_later (leaves_of plain) v (l ∷ ls) ≡ later_by (is_header l) (line_stores v l) (ltb 0 (line_reads v l)) (read_later (leaves_of plain) v ls)
unfolding read_later later_by
later-by v l ls = rw (not-zero (line_reads v l), stores-parsed v l)

-- something is read below where the last read has a number
here : (a b r : Bool) (c e : ℕ) (more : Bool) → 0 < c → ltb 0 e ≡ more → ltb 0 (last_by a b r c e) ≡ later_by a b r more
unfolding last_by later_by
here true b r c e more h q = refl
here false true true c e more h q = lt-ltb 0 c h
here false true false c e more h q = refl
here false false r c e more h q = go r (ltb 0 e) refl
  where
    go : (r t : Bool) → ltb 0 e ≡ t → ltb 0 (cond t e (cond r c 0)) ≡ r || more
    go true true x = x
    go true false x = lt-ltb 0 c h
    go false true x = q
    go false false x = sym x ∙ q

pub later-now : (v : ℕ) (ls : List (List ℕ)) → ltb 0 (read_end v ls) ≡ read_later (leaves_of plain) v ls
unfolding read_end read_later
later-now v [] = refl
later-now v (l ∷ ls) =
    here (is_header l) (line_stores v l) (ltb 0 (line_reads v l)) (suc (length ls)) (read_end v ls) (read_later (leaves_of plain) v ls) (omega arith) (later-now v ls)
    ∙ sym (later-by v l ls)

-- a last read that is further below than the first line is that of the lines below it
last-below : (a b r : Bool) (c e : ℕ) → 0 < last_by a b r c e → last_by a b r c e < c → last_by a b r c e ≡ e
unfolding last_by
last-below true b r c e h k = absurd (omega arith)
last-below false true true c e h k = absurd (omega arith)
last-below false true false c e h k = absurd (omega arith)
last-below false false r c e h k = go (ltb 0 e) r h k
  where
    go : (t r : Bool) → 0 < cond t e (cond r c 0) → cond t e (cond r c 0) < c → cond t e (cond r c 0) ≡ e
    go true r h k = refl
    go false true h k = absurd (omega arith)
    go false false h k = absurd (omega arith)

-- and where the first line is no header and no store, one below it stays the last
last-stays : (r : Bool) (c e : ℕ) → 0 < e → last_by false false r c e ≡ e
unfolding last_by
last-stays r c e h = rw (lt-ltb 0 e h)

pub later-true : (v d : ℕ) (ls : List (List ℕ)) → 0 < read_end v ls → read_end v ls + d ≤ length ls → read_later (leaves_of plain) v (drop d ls) ≡ true
unfolding read_end
later-true v zero ls h k = sym (later-now v ls) ∙ lt-ltb 0 (read_end v ls) h
later-true v (suc d) [] h k = absurd (omega arith)
later-true v (suc d) (l ∷ ls) h k =
    let e = last-below (is_header l) (line_stores v l) (ltb 0 (line_reads v l)) (suc (length ls)) (read_end v ls) h (omega arith) in
    later-true v d ls (omega arith) (omega arith)

pub later-false : (v d : ℕ) (ls : List (List ℕ)) → head_from ls + d ≤ length ls → store_from v ls + d ≤ length ls → (0 < read_end v ls → length ls < read_end v ls + d) →
    read_later (leaves_of plain) v (drop d ls) ≡ false
unfolding read_end first_by read_later
later-false v zero ls a b h = sym (later-now v ls) ∙ go (ltb 0 (read_end v ls)) refl
  where
    go : (t : Bool) → ltb 0 (read_end v ls) ≡ t → ltb 0 (read_end v ls) ≡ false
    go true e = let z = h (ltb-true 0 (read_end v ls) e) in let y = read-le v ls in absurd (omega arith)
    go false e = e
later-false v (suc d) [] a b h = refl
later-false v (suc d) (l ∷ ls) a b h = go (is_header l) (line_stores v l) a b h (λ x y z. later-false v d ls x y z)
  where
    go : (p q : Bool) → cond p (suc (length ls)) (head_from ls) + suc d ≤ suc (length ls) → cond q (suc (length ls)) (store_from v ls) + suc d ≤ suc (length ls) →
        (0 < last_by p q (ltb 0 (line_reads v l)) (suc (length ls)) (read_end v ls) → suc (length ls) < last_by p q (ltb 0 (line_reads v l)) (suc (length ls)) (read_end v ls) + suc d) →
        (head_from ls + d ≤ length ls → store_from v ls + d ≤ length ls → (0 < read_end v ls → length ls < read_end v ls + d) → read_later (leaves_of plain) v (drop d ls) ≡ false) →
        read_later (leaves_of plain) v (drop d ls) ≡ false
    go true q a b h f = absurd (omega arith)
    go false true a b h f = absurd (omega arith)
    go false false a b h f = f (omega arith) (omega arith)
        (λ k. let e = last-stays (ltb 0 (line_reads v l)) (suc (length ls)) (read_end v ls) k in let z = h (omega (arith, e, k)) in omega (arith, z, e))
