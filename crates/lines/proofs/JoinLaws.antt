-- Laws of the last step: lines joined, the last LF settled. Assumes nothing.
use Rattle.std.proofs.Common.{◌≡◌, ℕ, suc, ◌+◌, ◌-◌, ◌<◌, ◌≤◌, Bool, true, false, cond, not, ◌&&◌, List, [], ◌∷◌, ◌++◌, length, get_or, take, sym, refl, ap, ◌∙◌, append-nil, arith, length-append, length-take, take_all, take-suc, take_at, eqb-true}
use lib.Seq.{take-append-le, take-append-add}
use Rattle.lines.proofs.StepLaws.{ends_some, missing_lf, missing-ended, missing-open, lines-text}
use Rattle.lines.specs.Lf.{ends_in, lines_of, unlines}
use Rattle.lines.specs.Steps.{join_lines, settle, joined}

-- ---- lines joined

unlines-some : (ls : List (List ℕ)) → 0 < length ls → 0 < length (unlines ls)
unfolding unlines
unlines-some [] h = absurd (omega arith)
unlines-some (l ∷ ls) h = omega (arith, length-append l (10 ∷ unlines ls))

-- lines with an LF between them are lines with an LF after each, but for the last
join-unlines : (ls : List (List ℕ)) → join_lines ls ≡ take (length (unlines ls) - 1) (unlines ls)
unfolding join_lines unlines
join-unlines [] = refl
join-unlines (l ∷ []) = sym (take_at l (10 ∷ []) (length (l ++ 10 ∷ []) - 1) (omega (arith, length-append l (10 ∷ []))))
join-unlines (l ∷ m ∷ ls) =
    let w : List ℕ = unlines (m ∷ ls) in
    let q : length (l ++ 10 ∷ w) - 1 ≡ length l + suc (length w - 1) = omega (arith, length-append l (10 ∷ w), unlines-some (m ∷ ls) (omega arith)) in
    ap (λ (k : List ℕ). l ++ 10 ∷ k) (join-unlines (m ∷ ls))
    ∙ sym (take-append-add l (10 ∷ w) (suc (length w - 1)))
    ∙ ap (λ (n : ℕ). take n (l ++ 10 ∷ w)) (sym q)

-- the lines of a text joined: the text, without the LF at its end
join-text : (u : List ℕ) → join_lines (lines_of u) ≡ take (length (u ++ missing_lf u) - 1) (u ++ missing_lf u)
join-text u = join-unlines (lines_of u) ∙ ap (λ (v : List ℕ). take (length v - 1) v) (lines-text u)

join-ended : (u : List ℕ) → ends_in 10 u ≡ true → join_lines (lines_of u) ≡ take (length u - 1) u
join-ended u h = join-text u ∙ ap (λ (v : List ℕ). take (length v - 1) v) (ap (λ (k : List ℕ). u ++ k) (missing-ended u h) ∙ append-nil u)

join-open : (u : List ℕ) → ends_in 10 u ≡ false → join_lines (lines_of u) ≡ u
unfolding join_lines lines_of
join-open [] h = refl
join-open (x ∷ xs) h =
    let u : List ℕ = x ∷ xs in
    join-text u
    ∙ ap (λ (k : List ℕ). take (length (u ++ k) - 1) (u ++ k)) (missing-open u h (omega arith))
    ∙ take_at u (10 ∷ []) (length (u ++ 10 ∷ []) - 1) (omega (arith, length-append u (10 ∷ [])))

last-lf : (u : List ℕ) → ends_in 10 u ≡ true → take (length u - 1) u ++ (10 ∷ []) ≡ u
last-lf u h =
    let k = ends_some u h in
    ap (λ (b : ℕ). take (length u - 1) u ++ (b ∷ [])) (sym (eqb-true (get_or u (length u - 1) 0) 10 h))
    ∙ sym (take-suc u (length u - 1) 0 (omega arith))
    ∙ take_all (suc (length u - 1)) u (omega arith)

-- ---- the last LF

settle-case : (e : Bool) (w : List ℕ) (t : Bool) → ends_in 10 w ≡ t → settle e w ≡ cond (e && not t) (w ++ 10 ∷ []) w
unfolding settle
settle-case e w t h = rw h

-- how much the last step takes of a text with an LF more
unfoldable pub joined_end : Bool → List ℕ → ℕ
joined_end ended u = cond (ends_in 10 u) (cond ended (cond (ends_in 10 (take (length u - 1) u)) (length u - 1) (length u)) (length u - 1)) (cond ended (length u + 1) (length u))

joined_end-le : (e : Bool) (u : List ℕ) → joined_end e u ≤ length u + 1
unfolding joined_end
joined_end-le e u = go (ends_in 10 u) e (ends_in 10 (take (length u - 1) u))
  where
    go : (p e q : Bool) → cond p (cond e (cond q (length u - 1) (length u)) (length u - 1)) (cond e (length u + 1) (length u)) ≤ length u + 1
    go true true true = omega arith
    go true true false = omega arith
    go true false q = omega arith
    go false true q = omega arith
    go false false q = omega arith

-- the last step over bytes
pub joined-text : (e : Bool) (u : List ℕ) → joined e (lines_of u) ≡ take (joined_end e u) (u ++ 10 ∷ [])
unfolding joined joined_end
joined-text e u = go (ends_in 10 u) refl e (ends_in 10 (take (length u - 1) u)) refl
  where
    go : (p : Bool) → ends_in 10 u ≡ p → (e q : Bool) → ends_in 10 (take (length u - 1) u) ≡ q →
        settle e (join_lines (lines_of u)) ≡ take (cond p (cond e (cond q (length u - 1) (length u)) (length u - 1)) (cond e (length u + 1) (length u))) (u ++ 10 ∷ [])
    go true h true true k = ap (settle true) (join-ended u h) ∙ settle-case true (take (length u - 1) u) true k ∙ sym (take-append-le (length u - 1) u (10 ∷ []) (omega arith))
    go true h true false k = ap (settle true) (join-ended u h) ∙ settle-case true (take (length u - 1) u) false k ∙ last-lf u h ∙ sym (take_at u (10 ∷ []) (length u) refl)
    go true h false q k = ap (settle false) (join-ended u h) ∙ settle-case false (take (length u - 1) u) q k ∙ sym (take-append-le (length u - 1) u (10 ∷ []) (omega arith))
    go false h true q k = ap (settle true) (join-open u h) ∙ settle-case true u false h ∙ sym (take_all (length u + 1) (u ++ 10 ∷ []) (omega (arith, length-append u (10 ∷ []))))
    go false h false q k = ap (settle false) (join-open u h) ∙ settle-case false u false h ∙ sym (take_at u (10 ∷ []) (length u) refl)

pub joined_length : (e : Bool) (u : List ℕ) → length (joined e (lines_of u)) ≡ joined_end e u
joined_length e u =
    ap length (joined-text e u) ∙ length-take (joined_end e u) (u ++ 10 ∷ []) ∙ omega (arith, joined_end-le e u, length-append u (10 ∷ []))

-- what is longer than the text is the text and an LF, and what is not is a front of the text
module _ (e : Bool) (u : List ℕ) (n : ℕ) (q : n ≡ length (joined e (lines_of u))) where
  end_is : n ≡ joined_end e u
  end_is = q ∙ joined_length e u

  pub joined-more : length u < n → joined e (lines_of u) ≡ u ++ 10 ∷ []
  joined-more h = joined-text e u ∙ take_all (joined_end e u) (u ++ 10 ∷ []) (omega (arith, end_is, length-append u (10 ∷ [])))

  pub joined-front : n ≤ length u → joined e (lines_of u) ≡ take n u
  joined-front h = joined-text e u ∙ ap (λ (k : ℕ). take k (u ++ 10 ∷ [])) (sym end_is) ∙ take-append-le n u (10 ∷ []) h

-- ---- the room that the last step takes

join-length : (ls : List (List ℕ)) → length (join_lines ls) ≡ length (unlines ls) - 1
join-length ls = ap length (join-unlines ls) ∙ length-take (length (unlines ls) - 1) (unlines ls) ∙ omega arith

settle-le : (e : Bool) (w : List ℕ) → length (settle e w) ≤ length w + 1
settle-le e w = rw (settle-case e w _ refl) (go (e && not (ends_in 10 w)))
  where
    go : (t : Bool) → length (cond t (w ++ 10 ∷ []) w) ≤ length w + 1
    go true = omega (arith, length-append w (10 ∷ []))
    go false = omega arith

pub join-room : (e : Bool) (ls : List (List ℕ)) → length (joined e ls) ≤ length (unlines ls) + 1
unfolding joined
join-room e ls = omega (arith, settle-le e (join_lines ls), join-length ls)

pub join-room-some : (e : Bool) (ls : List (List ℕ)) → 0 < length ls → length (joined e ls) ≤ length (unlines ls)
unfolding joined
join-room-some e ls h = omega (arith, settle-le e (join_lines ls), join-length ls, unlines-some ls h)
