-- Laws of the loops over tables of raw moves. Assumes nothing.
use Prim.Native.Nat.{ℕ, zero, suc, ◌+◌, ◌-◌, ◌≤◌, ◌<◌}
use mathlib.Core.Path.{◌≡◌, refl, sym, ap, subst, ◌∙◌}
use mathlib.Core.Bool.{Bool, cond}
use mathlib.Core.List.{List, [], ◌∷◌, ◌++◌, append_assoc}
use native.Mathlib.Omega.{arith}
use native.Mathlib.Nat.{add-zero}
use native.Mathlib.Numerals.{add-one}
use borrow.Author.Tests.{eq-eqb, ne_eqb}
use lib.Dec.{eqb}
use lib.ListN.{length, take, drop, get_or, set, length-drop, drop_of_length-le, length-set, get_or-eq_default}
use lib.Seq.{drop-cons, drop-drop, drop-set-lt, get_or-drop, take-length}
use Rattle.origins.specs.Inner.Codes.{far_move}
use Rattle.trails.specs.Inner.Trails.{standing_from, sent_by, thinned}
use Rattle.trails.proofs.TrailLaws.{standing-most, standing-many, thinned-none, thinned-past, thinned-here}

drop-one : (l : List ℕ) (k : ℕ) → k < length l → drop k l ≡ get_or l k 0 ∷ drop (k + 1) l
drop-one l k h = drop-cons l k 0 h ∙ ap (λ (n : ℕ). get_or l k 0 ∷ drop n l) (sym (add-one k))

-- ---- the line that a line goes to: j lines are passed, and c that stand are still to come

abbrev pub goes_to : List ℕ → ℕ → ℕ → ℕ
goes_to ms j c = cond (eqb c 0) j (get_or (standing_from (drop j ms) (suc j)) (c - 1) far_move)

-- where one is still to come
goes-more : (ms : List ℕ) (j c : ℕ) → goes_to ms j (suc c) ≡ get_or (standing_from (drop j ms) (suc j)) c far_move
goes-more ms j c =
    let q : suc c - 1 ≡ c = omega arith in
    rw (ne_eqb (suc c) 0 (omega arith), q)

pub goes-few : (ms : List ℕ) (d : ℕ) → length ms < d → far_move ≡ sent_by ms d
goes-few ms zero h = absurd (omega arith)
goes-few ms (suc d) h = sym (get_or-eq_default (standing_from ms 1) far_move {n = d} (omega (arith, standing-many ms 1, standing-most ms)))

module _ (ms : List ℕ) (j : ℕ) (h : j < length ms) where
  first-line : standing_from (drop j ms) (suc j) ≡ cond (eqb (get_or ms j 0) 0) (suc j ∷ standing_from (drop (j + 1) ms) (suc (suc j))) (standing_from (drop (j + 1) ms) (suc (suc j)))
  unfolding standing_from
  first-line = ap (λ (l : List ℕ). standing_from l (suc j)) (drop-one ms j h)

  next_row : suc (j + 1) ≡ suc (suc j)
  next_row = omega arith

  away : (get_or ms j 0 ≡ 0 → ⊥) → standing_from (drop j ms) (suc j) ≡ standing_from (drop (j + 1) ms) (suc (suc j))
  away z = first-line ∙ ap (λ (b : Bool). cond b (suc j ∷ standing_from (drop (j + 1) ms) (suc (suc j))) (standing_from (drop (j + 1) ms) (suc (suc j)))) (ne_eqb (get_or ms j 0) 0 z)

  pub goes-past : (c : ℕ) → 0 < c → (get_or ms j 0 ≡ 0 → ⊥) → goes_to ms (j + 1) c ≡ goes_to ms j c
  goes-past zero k z = absurd (omega arith)
  goes-past (suc c) k z =
      goes-more ms (j + 1) c ∙ ap (λ (i : ℕ). get_or (standing_from (drop (j + 1) ms) i) c far_move) next_row
      ∙ sym (goes-more ms j c ∙ ap (λ (l : List ℕ). get_or l c far_move) (away z))

  there : get_or ms j 0 ≡ 0 → standing_from (drop j ms) (suc j) ≡ suc j ∷ standing_from (drop (j + 1) ms) (suc (suc j))
  there z = first-line ∙ ap (λ (b : Bool). cond b (suc j ∷ standing_from (drop (j + 1) ms) (suc (suc j))) (standing_from (drop (j + 1) ms) (suc (suc j)))) (eq-eqb (get_or ms j 0) 0 z)

  pub goes-here : (c : ℕ) → 0 < c → get_or ms j 0 ≡ 0 → goes_to ms (j + 1) (c - 1) ≡ goes_to ms j c
  goes-here zero k z = absurd (omega arith)
  goes-here (suc zero) k z = let q : j + 1 ≡ suc j = omega arith in q ∙ sym (goes-more ms j 0 ∙ ap (λ (l : List ℕ). get_or l 0 far_move) (there z))
  goes-here (suc (suc c)) k z =
      let q : suc (suc c) - 1 ≡ suc c = omega arith in
      ap (goes_to ms (j + 1)) q ∙ goes-more ms (j + 1) c ∙ ap (λ (i : ℕ). get_or (standing_from (drop (j + 1) ms) i) c far_move) next_row
      ∙ sym (goes-more ms j (suc c) ∙ ap (λ (l : List ℕ). get_or l (suc c) far_move) (there z))

none_below : (j c : ℕ) → get_or (standing_from [] (suc j)) c far_move ≡ far_move
unfolding standing_from
none_below j c = refl

pub goes_none : (ms : List ℕ) (j c : ℕ) → length ms ≤ j → 0 < c → far_move ≡ goes_to ms j c
goes_none ms j zero h k = absurd (omega arith)
goes_none ms j (suc c) h k = sym (goes-more ms j c ∙ ap (λ (l : List ℕ). get_or (standing_from l (suc j)) c far_move) (drop_of_length-le ms {i = j} h) ∙ none_below j c)

-- ---- lists around a place

no_lines : (ns : List ℕ) → thinned [] ns ≡ []
unfolding thinned
no_lines ns = refl

take-drop : (i : ℕ) (l : List ℕ) → take i l ++ drop i l ≡ l
take-drop zero l = refl
take-drop (suc i) [] = refl
take-drop (suc i) (x ∷ l) = ap (λ (r : List ℕ). x ∷ r) (take-drop i l)

first_of : (l : List ℕ) (i : ℕ) → get_or l i 0 ≡ get_or (drop i l) 0 0
first_of l i = ap (λ (n : ℕ). get_or l n 0) (sym (add-zero i)) ∙ sym (get_or-drop i l 0 0)

take_next : (l : List ℕ) (i : ℕ) → i < length l → take (i + 1) l ≡ take i l ++ (get_or l i 0 ∷ [])
take_next l i h = ap (λ (n : ℕ). take n l) (add-one i) ∙ go l i h
  where
    go : (l : List ℕ) (i : ℕ) → i < length l → take (suc i) l ≡ take i l ++ (get_or l i 0 ∷ [])
    go [] i h = absurd (omega arith)
    go (x ∷ l) zero h = refl
    go (x ∷ l) (suc i) h = ap (λ (r : List ℕ). x ∷ r) (go l i (omega arith))

take_put : (l : List ℕ) (i s : ℕ) → i < length l → take (i + 1) (set l i s) ≡ take i l ++ (s ∷ [])
take_put l i s h = ap (λ (n : ℕ). take n (set l i s)) (add-one i) ∙ go l i h
  where
    go : (l : List ℕ) (i : ℕ) → i < length l → take (suc i) (set l i s) ≡ take i l ++ (s ∷ [])
    go [] i h = absurd (omega arith)
    go (x ∷ l) zero h = refl
    go (x ∷ l) (suc i) h = ap (λ (r : List ℕ). x ∷ r) (go l i (omega arith))

-- ---- taking raw moves on: i raw lines are done, and k of them stood

pub record CarryInv (raw₀ ms raw : List ℕ) (i k : ℕ) : Type 0 where
  pub i≤ : i ≤ length raw₀
  pub k≤ : k ≤ length ms
  pub long : length raw ≡ length raw₀
  pub ahead : drop i raw ≡ drop i raw₀
  pub done : take i raw ++ thinned (drop i raw₀) (drop k ms) ≡ thinned raw₀ ms

pub carry-start : (raw ms : List ℕ) → CarryInv raw ms raw 0 0
carry-start raw ms = record { i≤ = omega arith; k≤ = omega arith; long = refl; ahead = refl; done = refl }

module _ {raw₀ ms raw : List ℕ} {i k : ℕ} (h : CarryInv raw₀ ms raw i k) where
  -- no raw line is left
  pub carry-end : length raw ≤ i → raw ≡ thinned raw₀ ms
  carry-end z =
      let e : drop i raw₀ ≡ [] = drop_of_length-le raw₀ {i = i} (omega (arith, h.long)) in
      let f : thinned (drop i raw₀) (drop k ms) ≡ drop i raw = ap (λ (l : List ℕ). thinned l (drop k ms)) e ∙ no_lines (drop k ms) ∙ sym e ∙ sym h.ahead in
      sym (take-drop i raw) ∙ ap (λ (l : List ℕ). take i raw ++ l) (sym f) ∙ h.done

  -- no move is left
  pub carry-out : length ms ≤ k → raw ≡ thinned raw₀ ms
  carry-out z =
      let f : thinned (drop i raw₀) (drop k ms) ≡ drop i raw = ap (thinned (drop i raw₀)) (drop_of_length-le ms {i = k} z) ∙ thinned-none (drop i raw₀) ∙ sym h.ahead in
      sym (take-drop i raw) ∙ ap (λ (l : List ℕ). take i raw ++ l) (sym f) ∙ h.done

  module _ (a : i < length raw) where
    in-raw : i < length raw₀
    in-raw = omega (arith, h.long, a)

    move-is : get_or raw i 0 ≡ get_or raw₀ i 0
    move-is = first_of raw i ∙ ap (λ (l : List ℕ). get_or l 0 0) h.ahead ∙ sym (first_of raw₀ i)

    ahead-on : drop (i + 1) raw ≡ drop (i + 1) raw₀
    ahead-on = sym (drop-drop 1 i raw) ∙ ap (drop 1) h.ahead ∙ drop-drop 1 i raw₀

    -- what is done, with the next raw line
    done_next : (x : ℕ) (rest : List ℕ) → thinned (drop i raw₀) (drop k ms) ≡ x ∷ rest → take i raw ++ (x ∷ rest) ≡ thinned raw₀ ms
    done_next x rest e = ap (λ (l : List ℕ). take i raw ++ l) (sym e) ∙ h.done

    -- it does not stand
    pub carry-past : (get_or raw i 0 ≡ 0 → ⊥) → CarryInv raw₀ ms raw (i + 1) k
    carry-past z =
        let m : ℕ = get_or raw₀ i 0 in
        let e : thinned (drop i raw₀) (drop k ms) ≡ m ∷ thinned (drop (i + 1) raw₀) (drop k ms) =
        ap (λ (l : List ℕ). thinned l (drop k ms)) (drop-one raw₀ i in-raw) ∙ thinned-past m (drop (i + 1) raw₀) (drop k ms) (ne_eqb m 0 (λ q. z (move-is ∙ q))) in
        record {
          i≤ = omega (arith, in-raw);
          k≤ = h.k≤;
          long = h.long;
          ahead = ahead-on;
          done =
              ap (λ (l : List ℕ). l ++ thinned (drop (i + 1) raw₀) (drop k ms)) (take_next raw i a ∙ ap (λ (x : ℕ). take i raw ++ (x ∷ [])) move-is)
              ∙ append_assoc (take i raw) (m ∷ []) (thinned (drop (i + 1) raw₀) (drop k ms)) ∙ done_next m (thinned (drop (i + 1) raw₀) (drop k ms)) e;
        }

    module _ (b : k < length ms) (z : get_or raw i 0 ≡ 0) where
      -- it stands, and the pass moves it
      thinned-first : thinned (drop i raw₀) (drop k ms) ≡ sent_by (drop (i + 1) raw) (get_or ms k 0) ∷ thinned (drop (i + 1) raw₀) (drop (k + 1) ms)
      thinned-first =
          ap (λ (l : List ℕ). thinned l (drop k ms)) (drop-one raw₀ i in-raw) ∙ ap (thinned (get_or raw₀ i 0 ∷ drop (i + 1) raw₀)) (drop-one ms k b)
          ∙ thinned-here (get_or raw₀ i 0) (get_or ms k 0) (drop (i + 1) raw₀) (drop (k + 1) ms) (eq-eqb (get_or raw₀ i 0) 0 (sym move-is ∙ z))
          ∙ ap (λ (l : List ℕ). sent_by l (get_or ms k 0) ∷ thinned (drop (i + 1) raw₀) (drop (k + 1) ms)) (sym ahead-on)

      pub carry-goes : (s : ℕ) → s ≡ sent_by (drop (i + 1) raw) (get_or ms k 0) → CarryInv raw₀ ms (set raw i s) (i + 1) (k + 1)
      carry-goes s e = record {
        i≤ = omega (arith, in-raw);
        k≤ = omega (arith, b);
        long = length-set raw i s ∙ h.long;
        ahead = drop-set-lt (i + 1) raw i s (omega arith) ∙ ahead-on;
        done =
            ap (λ (l : List ℕ). l ++ thinned (drop (i + 1) raw₀) (drop (k + 1) ms)) (take_put raw i s a)
            ∙ append_assoc (take i raw) (s ∷ []) (thinned (drop (i + 1) raw₀) (drop (k + 1) ms))
            ∙ ap (λ (x : ℕ). take i raw ++ (x ∷ thinned (drop (i + 1) raw₀) (drop (k + 1) ms))) e
            ∙ done_next (sent_by (drop (i + 1) raw) (get_or ms k 0)) (thinned (drop (i + 1) raw₀) (drop (k + 1) ms)) thinned-first;
      }

      pub carry-stays : get_or ms k 0 ≡ 0 → CarryInv raw₀ ms raw (i + 1) (k + 1)
      carry-stays e = record {
        i≤ = omega (arith, in-raw);
        k≤ = omega (arith, b);
        long = h.long;
        ahead = ahead-on;
        done =
            ap (λ (l : List ℕ). l ++ thinned (drop (i + 1) raw₀) (drop (k + 1) ms)) (take_next raw i a)
            ∙ append_assoc (take i raw) (get_or raw i 0 ∷ []) (thinned (drop (i + 1) raw₀) (drop (k + 1) ms))
            ∙ ap (λ (x : ℕ). take i raw ++ (x ∷ thinned (drop (i + 1) raw₀) (drop (k + 1) ms))) (z ∙ ap (sent_by (drop (i + 1) raw)) (sym e))
            ∙ done_next (sent_by (drop (i + 1) raw) (get_or ms k 0)) (thinned (drop (i + 1) raw₀) (drop (k + 1) ms)) thinned-first;
      }

-- the same under other names
pub carry-at : {raw₀ ms raw raw' : List ℕ} {i k k' : ℕ} → CarryInv raw₀ ms raw i k → raw' ≡ raw → k' ≡ k → CarryInv raw₀ ms raw' i k'
carry-at {raw₀} {ms} {raw} {raw'} {i} {k} {k'} h p q = subst (λ (l : List ℕ). CarryInv raw₀ ms l i k') (sym p) (subst (λ (n : ℕ). CarryInv raw₀ ms raw i n) (sym q) h)

-- the lines below a place, as a part up to the end
pub sent-below : (raw : List ℕ) (i d : ℕ) {s : ℕ} → s ≡ sent_by (take (length raw - (i + 1)) (drop (i + 1) raw)) d → s ≡ sent_by (drop (i + 1) raw) d
sent-below raw i d e = e ∙ ap (λ (l : List ℕ). sent_by l d) (ap (λ (j : ℕ). take j (drop (i + 1) raw)) (sym (length-drop (i + 1) raw)) ∙ take-length (drop (i + 1) raw))
