-- What a search by many bytes at a time finds. Assumes nothing.
use Prim.Native.Nat.{ℕ, zero, suc, ◌+◌, ◌-◌, ◌≤◌, ◌<◌, min}
use mathlib.Core.Path.{◌≡◌, refl, sym, ap, ◌∙◌}
use mathlib.Core.Bool.{true}
use mathlib.Core.List.{List, [], ◌∷◌}
use native.Mathlib.Omega.{arith}
use lib.ListN.{length, take, drop, length-drop}
use lib.Seq.{drop-drop}
use Rattle.lines.specs.Lf.{part, up_to}
use Rattle.lines.specs.Inner.Lf.{lacks}
use Rattle.lines.proofs.LfLaws.{lacks-cons, up-skip, up-front}

-- bytes that lack b stand before it
lacks-up : (b n : ℕ) (l : List ℕ) → n ≤ length l → lacks b (take n l) ≡ true → n ≤ up_to b l
unfolding up_to
lacks-up b zero l k h = omega arith
lacks-up b (suc n) [] k h = absurd (omega arith)
lacks-up b (suc n) (x ∷ l) k h = let w = lacks-cons b x (take n l) h in let r = lacks-up b n l (omega arith) w.1 in rw w.0 (omega arith)

-- n bytes from j on stand before it
skip_at : (b n j : ℕ) (s : List ℕ) → n ≤ up_to b (drop j s) → j + n + up_to b (drop (j + n) s) ≡ j + up_to b (drop j s)
skip_at b n j s h = omega (arith, up-skip b n (drop j s) h, ap (up_to b) (drop-drop n j s))

pub record FarInv (s : List ℕ) (b i j : ℕ) : Type 0 where
  pub so_far : j + up_to b (drop j s) ≡ i + up_to b (drop i s)

pub far-start : (s : List ℕ) (b i : ℕ) → FarInv s b i i
far-start s b i = record { so_far = refl }

pub far-on : {s : List ℕ} {b i j : ℕ} → FarInv s b i j → (n : ℕ) → j + n ≤ length s → lacks b (part j (j + n) s) ≡ true → FarInv s b i (j + n)
far-on {s} {b} {i} {j} h n k l = record {
  so_far =
      let d : j + n - j ≡ n = omega arith in
      skip_at b n j s (lacks-up b n (drop j s) (omega (arith, length-drop j s)) (ap (λ (x : ℕ). lacks b (take x (drop j s))) (sym d) ∙ l)) ∙ h.so_far;
}

-- the first n bytes from i on, alone
none-taken : (n : ℕ) → ◌≡◌ {A = List ℕ} (take n []) []
none-taken zero = refl
none-taken (suc n) = refl

none_dropped : (i : ℕ) → ◌≡◌ {A = List ℕ} (drop i []) []
none_dropped zero = refl
none_dropped (suc i) = refl

near-drop : (i n : ℕ) (s : List ℕ) → drop i (take (i + n) s) ≡ take n (drop i s)
near-drop zero n s = let d : 0 + n ≡ n = omega arith in ap (λ (x : ℕ). take x s) d
near-drop (suc i) n [] =
    ap (λ (x : List ℕ). drop (suc i) x) (none-taken (suc i + n)) ∙ none_dropped (suc i) ∙ sym (none-taken n) ∙ ap (λ (x : List ℕ). take n x) (sym (none_dropped (suc i)))
near-drop (suc i) n (x ∷ s) = let d : suc i + n ≡ suc (i + n) = omega arith in ap (λ (y : ℕ). drop (suc i) (take y (x ∷ s))) d ∙ near-drop i n s

module _ (s : List ℕ) (b i n e : ℕ) (q : e ≡ i + up_to b (drop i (part 0 (i + n) s))) where
  pub near-is : e ≡ i + min (up_to b (drop i s)) n
  near-is =
      let d : i + n - 0 ≡ i + n = omega arith in
      q ∙ ap (λ (x : ℕ). i + up_to b (drop i (take x s))) d ∙ ap (λ (x : List ℕ). i + up_to b x) (near-drop i n s) ∙ ap (λ (x : ℕ). i + x) (up-front b n (drop i s))

  pub near-found : e < i + n → e ≡ i + up_to b (drop i s)
  near-found h = omega (arith, near-is)

  pub near-not : i + n ≤ e → (r : ℕ) → r ≡ e + up_to b (drop e s) → r ≡ i + up_to b (drop i s)
  near-not h r f =
      let d : e ≡ i + n = omega (arith, near-is) in
      f ∙ ap (λ (x : ℕ). x + up_to b (drop x s)) d ∙ skip_at b n i s (omega (arith, near-is))
