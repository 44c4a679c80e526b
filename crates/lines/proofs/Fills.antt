-- One value over all of a list, block by block. Assumes nothing.
use Rattle.std.proofs.Common.{◌≡◌, ℕ, zero, suc, ◌+◌, ◌-◌, ◌<◌, ◌≤◌, min, List, [], ◌∷◌, ◌++◌, length, take, drop, set, replicate, sym, refl, ap, ◌∙◌, add-one, arith, append_assoc, append-nil, Bool, true, false, leb, leb-true, leb-false, length-drop, length-take-le, drop-drop, drop_of_length-le, take_at, drop_at}
use lib.ListN.{length-replicate, replicate-append-replicate}
use borrow.Rule.Slice.PartMut.{put_mid}

module _ {X : Type 0} (x : X) where
  fill_suc : (i : ℕ) (d : List X) → i < length d → set (replicate i x ++ drop i d) i x ≡ replicate (suc i) x ++ drop (suc i) d
  fill_suc zero [] h = absurd (omega arith)
  fill_suc zero (y ∷ d) h = refl
  fill_suc (suc i) [] h = absurd (omega arith)
  fill_suc (suc i) (y ∷ d) h = ap (λ (l : List X). x ∷ l) (fill_suc i d (omega arith))

  -- one entry more
  pub fill-more : (i : ℕ) (d : List X) → i < length d → set (replicate i x ++ drop i d) i x ≡ replicate (i + 1) x ++ drop (i + 1) d
  fill-more i d h = rw (add-one i) (fill_suc i d h)

  -- one block more
  pub block-more : (i e : ℕ) (d s block : List X) → i ≤ e → e ≤ length d → s ≡ replicate i x ++ drop i d → block ≡ replicate (e - i) x → put_mid i (e - i) s block ≡ replicate e x ++ drop e d
  block-more i e d s block h k p q =
      let z : i + (e - i) ≡ e = omega arith in
      let l : length (replicate i x) ≡ i = length-replicate {A = X} i x in
      let t : take i s ≡ replicate i x = ap (take i) p ∙ take_at (replicate i x) (drop i d) i l in
      let u : drop (e - i) (drop i s) ≡ drop e d = ap (λ (r : List X). drop (e - i) (drop i r)) p ∙ ap (drop (e - i)) (drop_at (replicate i x) (drop i d) i l) ∙ drop-drop (e - i) i d ∙ ap (λ (n : ℕ). drop n d) z in
      let r : replicate i x ++ replicate (e - i) x ≡ replicate e x = replicate-append-replicate {A = X} i (e - i) x ∙ ap (λ (n : ℕ). replicate n x) z in
      rw (t, q, u) (sym (append_assoc (replicate i x) (replicate (e - i) x) (drop e d)) ∙ ap (λ (r : List X). r ++ drop e d) r)

  -- the block from the place i on, of at most m entries
  module _ (i m e : ℕ) (d s block : List X) (h : i < length d) (n : length s ≡ length d) (z : e ≡ min (i + m) (length s))
      (p : s ≡ replicate (min i (length d)) x ++ drop i d) (q : block ≡ replicate (length (take (e - i) (drop i s))) x) where
    up_to_e : put_mid i (e - i) s block ≡ replicate e x ++ drop e d
    up_to_e =
        let k : min i (length d) ≡ i = omega arith in
        let l : length (take (e - i) (drop i s)) ≡ e - i = length-take-le (e - i) (drop i s) (omega (arith, length-drop i s)) in
        block-more i e d s block (omega arith) (omega arith) (p ∙ ap (λ (j : ℕ). replicate j x ++ drop i d) k) (q ∙ ap (λ (j : ℕ). replicate j x) l)

    pub blocks-on : put_mid i (e - i) s block ≡ replicate (min (i + m) (length d)) x ++ drop (i + m) d
    blocks-on = let k : e ≡ min (i + m) (length d) = omega arith in up_to_e ∙ ap (λ (j : ℕ). replicate j x ++ drop j d) k ∙ ap (λ (l : List X). replicate (min (i + m) (length d)) x ++ l) (go (leb (i + m) (length d)) refl)
      where
        go : (t : Bool) → leb (i + m) (length d) ≡ t → drop (min (i + m) (length d)) d ≡ drop (i + m) d
        go true r = let f = leb-true (i + m) (length d) r in let k : min (i + m) (length d) ≡ i + m = omega arith in ap (λ (j : ℕ). drop j d) k
        go false r = let f = leb-false (i + m) (length d) r in drop_of_length-le d (omega arith) ∙ sym (drop_of_length-le d (omega arith))

    pub blocks-end : length d ≤ i + m → put_mid i (e - i) s block ≡ replicate (length d) x
    blocks-end k =
        let f : e ≡ length d = omega arith in
        up_to_e ∙ ap (λ (j : ℕ). replicate j x ++ drop j d) f ∙ ap (λ (l : List X). replicate (length d) x ++ l) (drop_of_length-le d (omega arith)) ∙ append-nil _
