-- Laws of `Filled`, and of filling a table entry by entry. Assumes nothing.
use Prim.Native.Nat.{ℕ, suc, ◌+◌, ◌-◌, ◌≤◌, ◌<◌}
use mathlib.Core.Path.{◌≡◌, refl, sym, ap, ◌∙◌, subst}
use mathlib.Core.Bool.{Bool}
use mathlib.Core.List.{List, [], ◌∷◌, ◌++◌}
use native.Mathlib.Omega.{arith}
use native.Mathlib.Numerals.{add-one}
use lib.ListN.{length, set, take, drop, length-append, length-drop, take-append-drop}
use lib.Seq.{set_split, append_snoc, length-take-le, take_at, drop-drop, drop-append-add}
use Rattle.lines.specs.Inner.Out.{put_at, Wrote}
use Rattle.lines.proofs.OutLaws.{wrote-byte, Writing, writing-as, writing-put, writing-room, writing-end}
use Rattle.place.specs.Inner.Fill.{Filled, flags_of}

-- ---- `Filled` says all

pub filled-once : {d xs d₁ d₂ : List ℕ} {r₁ r₂ : ℕ} → Filled d xs d₁ r₁ → Filled d xs d₂ r₂ → (d₁ ≡ d₂) × (r₁ ≡ r₂)
filled-once f g = (f.holds ∙ sym g.holds, f.place ∙ sym g.place)

pub filled-wrote : {d xs d' : List ℕ} {r : ℕ} → Filled d xs d' r → length xs ≤ length d → Wrote d 0 xs d' r
unfolding put_at
filled-wrote {d} {xs} {d'} {r} f h =
    let z : length xs ≡ 0 + length xs = omega arith in
    record { fits = omega arith; place = f.place ∙ z; holds = f.holds ∙ ap (λ (n : ℕ). xs ++ drop n d) z }

pub wrote-filled : {d xs d' : List ℕ} {r : ℕ} → Wrote d 0 xs d' r → Filled d xs d' r
unfolding put_at
wrote-filled {d} {xs} {d'} {r} w =
    let z : 0 + length xs ≡ length xs = omega arith in
    record { place = w.place ∙ z; holds = w.holds ∙ ap (λ (n : ℕ). xs ++ drop n d) z }

pub filled-take : {d xs d' : List ℕ} {r : ℕ} → Filled d xs d' r → take r d' ≡ xs
filled-take {d} {xs} {d'} {r} f = ap (take r) f.holds ∙ take_at xs (drop (length xs) d) r (sym f.place)

pub filled-length : {d xs d' : List ℕ} {r : ℕ} → Filled d xs d' r → length xs ≤ length d → length d' ≡ length d
filled-length {d} {xs} {d'} {r} f h = ap length f.holds ∙ (let a = length-append xs (drop (length xs) d) in let b = length-drop (length xs) d in omega arith)

-- ---- making one

pub filled_none : (d : List ℕ) (n : ℕ) → n ≤ length d → Filled d (take n d) d n
filled_none d n h = record {
  place = sym (length-take-le n d h);
  holds = sym (ap (λ (k : ℕ). take n d ++ drop k d) (length-take-le n d h) ∙ take-append-drop n d);
}

pub filled-set : (d : List ℕ) (n c : ℕ) → n < length d → Filled d (take n d ++ c ∷ []) (set d n c) (n + 1)
filled-set d n c r =
    let k : length (take n d ++ c ∷ []) ≡ n + 1 = omega (arith, length-append (take n d) (c ∷ []), length-take-le n d (omega arith)) in
    record {
      place = sym k;
      holds = set_split d n c r ∙ sym (append_snoc (take n d) c (drop (suc n) d)) ∙ ap (λ (m : ℕ). take n d ++ (c ∷ []) ++ drop m d) (sym (k ∙ add-one n));
    }

-- one after the other, where the second has all of the first
pub filled-then : {d xs d' ys d'' : List ℕ} {r s : ℕ} → Filled d xs d' r → Filled d' ys d'' s → length xs ≤ length ys → Filled d ys d'' s
filled-then {d} {xs} {d'} {ys} {d''} {r} {s} f g h =
    let k : length xs + (length ys - length xs) ≡ length ys = omega arith in
    record {
      place = g.place;
      holds = g.holds ∙ ap (λ (x : List ℕ). ys ++ x)
          (ap (drop (length ys)) f.holds ∙ ap (λ (n : ℕ). drop n (xs ++ drop (length xs) d)) (sym k) ∙ drop-append-add xs (drop (length xs) d) (length ys - length xs)
          ∙ drop-drop (length ys - length xs) (length xs) d ∙ ap (λ (n : ℕ). drop n d) k);
    }

pub filled-as : {d xs d' ys : List ℕ} {r : ℕ} → xs ≡ ys → Filled d xs d' r → Filled d ys d' r
filled-as {d} {xs} {d'} {ys} {r} e f = subst (λ (x : List ℕ). Filled d x d' r) e f

-- ---- a table that is filled entry by entry, by `Writing` from its first entry on

pub entry-on : {d₀ d : List ℕ} {k : ℕ} {whole rest : List ℕ} (x : ℕ) → Writing 0 whole (x ∷ rest) d₀ d k → Writing 0 whole rest d₀ (set d k x) (k + 1)
entry-on {d₀} {d} {k} {whole} {rest} x w = writing-put {xs = x ∷ []} w (wrote-byte d k x (let r = writing-room w in omega arith))

pub entry-end : {d₀ d : List ℕ} {k : ℕ} {whole rest : List ℕ} → rest ≡ [] → Writing 0 whole rest d₀ d k → Filled d₀ whole d k
unfolding put_at
entry-end {d₀} {d} {k} {whole} {rest} e w =
    let v = writing-end (writing-as e w) in
    let z : 0 + length whole ≡ length whole = omega arith in
    record { place = v.place ∙ z; holds = v.holds ∙ ap (λ (n : ℕ). whole ++ drop n d₀) z }

pub flags-length : (bs : List Bool) → length (flags_of bs) ≡ length bs
unfolding flags_of
flags-length [] = refl
flags-length (b ∷ bs) = ap suc (flags-length bs)
