-- Going down the raw lines and the lines that came out in step says what the fates say. Assumes nothing.
use Prim.Native.Nat.{ℕ, zero, suc, ◌+◌, ◌-◌, ◌≤◌, ◌<◌}
use mathlib.Core.Path.{◌≡◌, refl, sym, ap, ◌∙◌}
use mathlib.Core.Bool.{Bool, true, false}
use mathlib.Core.List.{List, [], ◌∷◌}
use native.Mathlib.Omega.{arith}
use native.Mathlib.Nat.{add-zero}
use borrow.Author.Tests.{ne_eqb, lt-ltb, le-ltb}
use lib.ListN.{drop, get_or}
use lib.Seq.{get_or-drop, drop-drop}
use Rattle.lines.proofs.Tests.{no}
use Rattle.origins.specs.declared.Went.{Went}
use Rattle.origins.specs.declared.Went.TheVariants.{Inside, Away}
use Rattle.origins.specs.Fates.{Fate, at, held, lost, went_of, wents_of}
use Rattle.origins.specs.Inner.Codes.{far_move, half, code_of, codes_of}
use Rattle.origins.specs.Inner.Written.{said_one, left_over, wents_by}
use Rattle.origins.proofs.FateLaws.{under, Under, cons, stands, count_up}

-- the first number, and how the rest goes on
first-up : (m k n : ℕ) (ns : List ℕ) → n ∷ ns ≡ count_up m k → (n ≡ k) × (ns ≡ count_up (m - 1) (suc k))
unfolding count_up
first-up zero k n ns h = no (ap some h)
  where
    some : List ℕ → Bool
    some [] = true
    some (x ∷ xs) = false
first-up (suc m) k n ns h =
    let q : suc m - 1 ≡ m = omega arith in
    (ap (λ (l : List ℕ). get_or l 0 0) h, ap (drop 1) h ∙ ap (λ (j : ℕ). count_up j (suc k)) (sym q))

-- a line that stands, as the next line that came out
stood : (out : List (List ℕ)) (l : List ℕ) (n k : ℕ) → n < half → n ≡ k → said_one l (get_or (drop k out) 0 []) n ≡ went_of out l (at n)
unfolding said_one went_of
stood out l n k h e =
    let q : get_or (drop k out) 0 [] ≡ get_or out n [] = get_or-drop k out 0 [] ∙ ap (λ (j : ℕ). get_or out j []) (add-zero k ∙ sym e) in
    rw (lt-ltb n half h, q)

left-stood : (out : List (List ℕ)) (n k : ℕ) → n < half → left_over n (drop k out) ≡ drop (suc k) out
unfolding left_over
left-stood out n k h = let q : k + 1 ≡ suc k = omega arith in rw (lt-ltb n half h) (drop-drop 1 k out ∙ ap (λ (j : ℕ). drop j out) q)

-- one that is held
holding : (l o : List ℕ) (n : ℕ) → n < half - 1 → said_one l o (half + n) ≡ Inside n
unfolding said_one
holding l o n h =
    let q : (half + n) - half ≡ n = omega arith in
    rw (le-ltb (half + n) half (omega arith), ne_eqb (half + n) far_move (omega arith), q)

left-held : (c : ℕ) (out : List (List ℕ)) → half ≤ c → left_over c out ≡ out
unfolding left_over
left-held c out h = rw (le-ltb c half h)

-- one that is lost
losing : (l o : List ℕ) → said_one l o far_move ≡ Away
unfolding said_one
losing l o = refl

under-less : (n : ℕ) → under (half - 1) (held n) → n < half - 1
unfolding under
under-less n h = h

pub in_step : (out ls : List (List ℕ)) (fs : List Fate) (m k : ℕ) → Under (half - 1) fs → stands fs ≡ count_up m k → wents_by (drop k out) ls (codes_of fs) ≡ wents_of out ls fs
unfolding wents_by wents_of codes_of code_of stands under went_of
in_step out [] fs m k u h = refl
in_step out (l ∷ ls) [] m k u h = refl
in_step out (l ∷ ls) (at n ∷ fs) m k (cons p u) h =
    let e = first-up m k n (stands fs) h in
    let q : n < half = omega arith in
    ap (λ (w : Went). w ∷ wents_by (left_over n (drop k out)) ls (codes_of fs)) (stood out l n k q e.0)
    ∙ ap (λ (o : List (List ℕ)). went_of out l (at n) ∷ wents_by o ls (codes_of fs)) (left-stood out n k q)
    ∙ ap (λ (ws : List Went). went_of out l (at n) ∷ ws) (in_step out ls fs (m - 1) (suc k) u e.1)
in_step out (l ∷ ls) (held n ∷ fs) m k (cons p u) h =
    ap (λ (w : Went). w ∷ wents_by (left_over (half + n) (drop k out)) ls (codes_of fs)) (holding l (get_or (drop k out) 0 []) n (under-less n p))
    ∙ ap (λ (o : List (List ℕ)). Inside n ∷ wents_by o ls (codes_of fs)) (left-held (half + n) (drop k out) (omega arith))
    ∙ ap (λ (ws : List Went). Inside n ∷ ws) (in_step out ls fs m k u h)
in_step out (l ∷ ls) (lost ∷ fs) m k (cons p u) h =
    ap (λ (w : Went). w ∷ wents_by (left_over far_move (drop k out)) ls (codes_of fs)) (losing l (get_or (drop k out) 0 []))
    ∙ ap (λ (o : List (List ℕ)). Away ∷ wents_by o ls (codes_of fs)) (left-held far_move (drop k out) (omega arith))
    ∙ ap (λ (ws : List Went). Away ∷ ws) (in_step out ls fs m k u h)
