-- Laws of scratch that is wiped after use. Assumes nothing.
use Prim.Native.Nat.{ℕ, ◌+◌, ◌-◌, ◌≤◌}
use mathlib.Core.Path.{◌≡◌, refl, sym, ap, ◌∙◌}
use mathlib.Core.List.{List, ◌++◌}
use native.Mathlib.Omega.{arith}
use lib.ListN.{length, take, drop, replicate, length-replicate, take-append-drop}
use lib.Seq.{take-take, drop-drop, drop-append-add}
use Rattle.lines.specs.Inner.Out.{put_at, Wrote}
use Rattle.lines.proofs.OutLaws.{put-length, wrote-length, wrote-part}
use Rattle.slots.proofs.SlotLaws.{zeros-take, wiped-past}
use Rattle.once.specs.Inner.Tables.{Zeroed}

past : (t d : List ℕ) (n : ℕ) → length t ≤ n → drop n (t ++ drop (length t) d) ≡ drop n d
past t d n h =
    let q : n ≡ length t + (n - length t) = omega arith in
    ap (λ (k : ℕ). drop k (t ++ drop (length t) d)) q
    ∙ drop-append-add t (drop (length t) d) (n - length t)
    ∙ drop-drop (n - length t) (length t) d
    ∙ ap (λ (k : ℕ). drop k d) (sym q)

-- what was written is gone, where it was wiped as far as it reached
pub wiped-over : {n : ℕ} {d d₁ d₂ : List ℕ} (t : List ℕ) → n ≤ length d → length t ≤ n → d₁ ≡ put_at d 0 t → Wrote d₁ 0 (replicate n 0) d₂ n → Wrote d 0 (replicate n 0) d₂ n
unfolding put_at
wiped-over {n} {d} {d₁} {d₂} t r h e w =
    let y : 0 + length t ≡ length t = omega arith in
    wiped-past n d d₁ d₂ (ap (drop n) (e ∙ ap (λ (k : ℕ). t ++ drop k d) y) ∙ past t d n h) (ap length e ∙ put-length d 0 t (omega arith)) w

-- zeros that are wiped stay as they are
pub zeroed-kept : {n : ℕ} {d d' : List ℕ} → Zeroed n d → Wrote d 0 (replicate n 0) d' n → d' ≡ d
unfolding put_at
zeroed-kept {n} {d} {d'} b w =
    let z : 0 + length (replicate {A = ℕ} n 0) ≡ n = omega (arith, length-replicate {A = ℕ} n 0) in
    w.holds
    ∙ ap (λ (k : ℕ). replicate n 0 ++ drop k d) z
    ∙ ap (λ (l : List ℕ). l ++ drop n d) (sym b.zeros)
    ∙ take-append-drop n d

-- room for more is room for less
pub zeroed-less : {m n : ℕ} {d : List ℕ} → n ≤ m → Zeroed m d → Zeroed n d
zeroed-less {m} {n} {d} h b = record {
  room = omega (arith, b.room);
  zeros = sym (take-take n m d h) ∙ ap (take n) b.zeros ∙ zeros-take n m refl h;
}

pub zeroed-as : {n : ℕ} {d d' : List ℕ} → d' ≡ d → Zeroed n d → Zeroed n d'
zeroed-as e b = rw e b

-- scratch that was wiped is blank
pub zeroed-wiped : {n : ℕ} {d₀ d : List ℕ} → Wrote d₀ 0 (replicate n 0) d n → Zeroed n d
zeroed-wiped {n} {d₀} {d} w = record { room = omega (arith, wrote-length w, w.fits, length-replicate {A = ℕ} n 0); zeros = wrote-part w }
