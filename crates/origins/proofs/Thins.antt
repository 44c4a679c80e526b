-- Laws of acts after acts, and of their moves in one table. Assumes nothing.
use Prim.Native.Nat.{ℕ, zero, suc, ◌+◌, ◌-◌, ◌≤◌, ◌<◌}
use mathlib.Core.Path.{◌≡◌, refl, sym, ap, ◌∙◌}
use mathlib.Core.Bool.{Bool, true, false, cond}
use mathlib.Core.List.{List, [], ◌∷◌, ◌++◌, append_assoc}
use native.Mathlib.Omega.{arith}
use borrow.Author.Tests.{eqb-true}
use lib.Dec.{eqb}
use Rattle.std.proofs.Common.{take_all}
use lib.ListN.{length, take, drop, replicate, length-append, length-drop}
use lib.Seq.{drop-drop, take-add, take_at, drop_at, length-take-le}
use Rattle.lines.specs.Acts.{Act, keep, become, into, gone, act, apply}
use Rattle.lines.specs.Lf.{up_to, all}
use Rattle.lines.specs.Inner.Out.{put_at, Wrote}
use Rattle.lines.proofs.Tests.{no, and_left, and_right, and_both}
use Rattle.origins.specs.Fates.{Fate, lost, fate_at, fates_go, fates_of, onward, follow}
use Rattle.origins.specs.Inner.Codes.{far_move, move_of, moves_of, standing}
use Rattle.origins.specs.Thin.{stays, on_act, then_acts}
use Rattle.origins.specs.Inner.Thin.{thin}
use Rattle.origins.proofs.FateLaws.{outs-apply}
use Rattle.origins.proofs.CodeLaws.{sound, standing-outs}
use Rattle.origins.proofs.Notes.{plainly}

-- ---- one list of acts after the other is the one and then the other

then-none : (xs : List Act) → then_acts xs [] ≡ xs
unfolding then_acts
then-none [] = refl
then-none (a ∷ more) = refl

pub then-length : (xs bs : List Act) → length (then_acts xs bs) ≡ length xs
unfolding then_acts
then-length [] bs = refl
then-length (a ∷ more) [] = refl
then-length (a ∷ more) (b ∷ bs) = go (stays a) (then-length more bs) (then-length more (b ∷ bs))
  where
    go : (t : Bool) → length (then_acts more bs) ≡ length more → length (then_acts more (b ∷ bs)) ≡ length more → length (cond t (on_act a b ∷ then_acts more bs) (a ∷ then_acts more (b ∷ bs))) ≡ suc (length more)
    go true h k = ap suc h
    go false h k = ap suc k

pub then-plain : (xs bs : List Act) → all plainly xs ≡ true → all plainly bs ≡ true → all plainly (then_acts xs bs) ≡ true
unfolding then_acts stays on_act
then-plain [] bs h k = refl
then-plain (a ∷ more) [] h k = h
then-plain (keep ∷ more) (b ∷ bs) h k = and_both (and_left (plainly b) (all plainly bs) k) (then-plain more bs h (and_right (plainly b) (all plainly bs) k))
then-plain (become x ∷ more) (keep ∷ bs) h k = then-plain more bs h k
then-plain (become x ∷ more) (become y ∷ bs) h k = then-plain more bs h k
then-plain (become x ∷ more) (into n ∷ bs) h k = no k
then-plain (become x ∷ more) (gone ∷ bs) h k = then-plain more bs h k
then-plain (into n ∷ more) (b ∷ bs) h k = no h
then-plain (gone ∷ more) (b ∷ bs) h k = then-plain more (b ∷ bs) h k

on-keep : (b : Act) (l : List ℕ) → act (on_act keep b) l ≡ act b l
unfolding on_act
on-keep b l = refl

on-become : (x : List ℕ) (b : Act) (l : List ℕ) → act (on_act (become x) b) l ≡ act b x
unfolding on_act act
on-become x keep l = refl
on-become x (become y) l = refl
on-become x (into n) l = refl
on-become x gone l = refl

pub then-apply : (xs bs : List Act) (ls : List (List ℕ)) → length xs ≡ length ls → length bs ≡ length (apply xs ls) → apply (then_acts xs bs) ls ≡ apply bs (apply xs ls)
unfolding then_acts stays apply act
then-apply [] [] [] h k = refl
then-apply [] [] (l ∷ ls) h k = refl
then-apply [] (b ∷ bs) [] h k = refl
then-apply [] (b ∷ bs) (l ∷ ls) h k = refl
then-apply (a ∷ more) bs [] h k = absurd (omega arith)
then-apply (keep ∷ more) [] (l ∷ ls) h k = absurd (omega arith)
then-apply (keep ∷ more) (b ∷ bs) (l ∷ ls) h k = ap (λ (r : List (List ℕ)). act b l ++ r) (then-apply more bs ls (omega arith) (omega arith))
then-apply (become x ∷ more) [] (l ∷ ls) h k = absurd (omega arith)
then-apply (become x ∷ more) (b ∷ bs) (l ∷ ls) h k =
    ap (λ (r : List (List ℕ)). r ++ apply (then_acts more bs) ls) (on-become x b l) ∙ ap (λ (r : List (List ℕ)). act b x ++ r) (then-apply more bs ls (omega arith) (omega arith))
then-apply (into n ∷ more) [] (l ∷ ls) h k = ap (λ (r : List Act). apply r ls) (sym (then-none more)) ∙ then-apply more [] ls (omega arith) k
then-apply (into n ∷ more) (b ∷ bs) (l ∷ ls) h k = then-apply more (b ∷ bs) ls (omega arith) k
then-apply (gone ∷ more) [] (l ∷ ls) h k = ap (λ (r : List Act). apply r ls) (sym (then-none more)) ∙ then-apply more [] ls (omega arith) k
then-apply (gone ∷ more) (b ∷ bs) (l ∷ ls) h k = then-apply more (b ∷ bs) ls (omega arith) k

-- the moves of the two, one after the other, in one table
on-move : (x : List ℕ) (b : Act) → move_of (on_act (become x) b) ≡ move_of b
unfolding on_act move_of
on-move x keep = refl
on-move x (become y) = refl
on-move x (into n) = refl
on-move x gone = refl

pub then-moves : (xs bs : List Act) → all plainly xs ≡ true → moves_of (then_acts xs bs) ≡ thin (moves_of xs) (moves_of bs)
unfolding then_acts stays on_act moves_of move_of thin
then-moves [] bs h = refl
then-moves (a ∷ more) [] h = refl
then-moves (keep ∷ more) (b ∷ bs) h = ap (λ (r : List ℕ). move_of b ∷ r) (then-moves more bs h)
then-moves (become x ∷ more) (b ∷ bs) h = ap (λ (n : ℕ). n ∷ moves_of (then_acts more bs)) (on-move x b) ∙ ap (λ (r : List ℕ). move_of b ∷ r) (then-moves more bs h)
then-moves (into n ∷ more) (b ∷ bs) h = no h
then-moves (gone ∷ more) (b ∷ bs) h = ap (λ (r : List ℕ). far_move ∷ r) (then-moves more (b ∷ bs) h)

plain-sound : (xs : List Act) → all plainly xs ≡ true → all sound xs ≡ true
plain-sound [] h = refl
plain-sound (keep ∷ more) h = plain-sound more h
plain-sound (become x ∷ more) h = plain-sound more h
plain-sound (into n ∷ more) h = no h
plain-sound (gone ∷ more) h = plain-sound more h

-- the lines that stand
pub standing-acts : (xs : List Act) (ls : List (List ℕ)) → all plainly xs ≡ true → length xs ≡ length ls → standing (moves_of xs) ≡ length (apply xs ls)
standing-acts xs ls h k = standing-outs xs (plain-sound xs h) ∙ sym (outs-apply xs ls k)

-- ---- and the fates are those of the one followed by those of the other

at_drop : (gs : List Fate) (s : ℕ) (f : Fate) (fs : List Fate) → drop s gs ≡ f ∷ fs → fate_at gs s ≡ f
unfolding fate_at
at_drop [] s f fs e = absurd (omega (arith, ap length e, length-drop {A = Fate} s []))
at_drop (g ∷ gs) zero f fs e = ap (λ (l : List Fate). fate_at l 0) e
at_drop (g ∷ gs) (suc s) f fs e = at_drop gs s f fs e

on-drop : (gs : List Fate) (s : ℕ) (f : Fate) (fs : List Fate) → drop s gs ≡ f ∷ fs → drop (suc s) gs ≡ fs
on-drop gs s f fs e = let q : suc s ≡ s + 1 = omega arith in ap (λ (n : ℕ). drop n gs) q ∙ sym (drop-drop 1 s gs) ∙ ap (drop 1) e

then-go : (xs bs : List Act) (gs : List Fate) (s o : ℕ) → all plainly xs ≡ true → all plainly bs ≡ true → standing (moves_of xs) ≡ length bs → drop s gs ≡ fates_go bs o →
    fates_go (then_acts xs bs) o ≡ follow (fates_go xs s) gs
unfolding then_acts stays on_act fates_go follow onward standing moves_of move_of
then-go [] bs gs s o h k c d = refl
then-go (keep ∷ more) [] gs s o h k c d = absurd (omega arith)
then-go (keep ∷ more) (keep ∷ bs) gs s o h k c d =
    ap (λ (f : Fate). f ∷ fates_go (then_acts more bs) (suc o)) (sym (at_drop gs s _ _ d)) ∙ ap (λ (r : List Fate). fate_at gs s ∷ r) (then-go more bs gs (suc s) (suc o) h k (omega arith) (on-drop gs s _ _ d))
then-go (keep ∷ more) (become y ∷ bs) gs s o h k c d =
    ap (λ (f : Fate). f ∷ fates_go (then_acts more bs) (suc o)) (sym (at_drop gs s _ _ d)) ∙ ap (λ (r : List Fate). fate_at gs s ∷ r) (then-go more bs gs (suc s) (suc o) h k (omega arith) (on-drop gs s _ _ d))
then-go (keep ∷ more) (into n ∷ bs) gs s o h k c d = no k
then-go (keep ∷ more) (gone ∷ bs) gs s o h k c d =
    ap (λ (f : Fate). f ∷ fates_go (then_acts more bs) o) (sym (at_drop gs s _ _ d)) ∙ ap (λ (r : List Fate). fate_at gs s ∷ r) (then-go more bs gs (suc s) o h k (omega arith) (on-drop gs s _ _ d))
then-go (become x ∷ more) [] gs s o h k c d = absurd (omega arith)
then-go (become x ∷ more) (keep ∷ bs) gs s o h k c d =
    ap (λ (f : Fate). f ∷ fates_go (then_acts more bs) (suc o)) (sym (at_drop gs s _ _ d)) ∙ ap (λ (r : List Fate). fate_at gs s ∷ r) (then-go more bs gs (suc s) (suc o) h k (omega arith) (on-drop gs s _ _ d))
then-go (become x ∷ more) (become y ∷ bs) gs s o h k c d =
    ap (λ (f : Fate). f ∷ fates_go (then_acts more bs) (suc o)) (sym (at_drop gs s _ _ d)) ∙ ap (λ (r : List Fate). fate_at gs s ∷ r) (then-go more bs gs (suc s) (suc o) h k (omega arith) (on-drop gs s _ _ d))
then-go (become x ∷ more) (into n ∷ bs) gs s o h k c d = no k
then-go (become x ∷ more) (gone ∷ bs) gs s o h k c d =
    ap (λ (f : Fate). f ∷ fates_go (then_acts more bs) o) (sym (at_drop gs s _ _ d)) ∙ ap (λ (r : List Fate). fate_at gs s ∷ r) (then-go more bs gs (suc s) o h k (omega arith) (on-drop gs s _ _ d))
then-go (into n ∷ more) bs gs s o h k c d = no h
then-go (gone ∷ more) [] gs s o h k c d = ap (λ (r : List Act). lost ∷ fates_go r o) (sym (then-none more)) ∙ ap (λ (r : List Fate). lost ∷ r) (then-go more [] gs s o h k c d)
then-go (gone ∷ more) (b ∷ bs) gs s o h k c d = ap (λ (r : List Fate). lost ∷ r) (then-go more (b ∷ bs) gs s o h k c d)

pub then-fates : (xs bs : List Act) → all plainly xs ≡ true → all plainly bs ≡ true → standing (moves_of xs) ≡ length bs → fates_of (then_acts xs bs) ≡ follow (fates_of xs) (fates_of bs)
unfolding fates_of
then-fates xs bs h k c = then-go xs bs (fates_go bs 0) 0 0 h k c refl

-- ---- a table that is gone through: from k on, the next that stands

thin-up : (l : List ℕ) (x : ℕ) (ns : List ℕ) → up_to 0 l < length l → thin l (x ∷ ns) ≡ take (up_to 0 l) l ++ (x ∷ thin (drop (suc (up_to 0 l)) l) ns)
unfolding thin up_to
thin-up [] x ns h = absurd (omega arith)
thin-up (y ∷ l) x ns h = go (eqb y 0) h (thin-up l x ns)
  where
    go : (t : Bool) → cond t 0 (suc (up_to 0 l)) < suc (length l) → (up_to 0 l < length l → thin l (x ∷ ns) ≡ take (up_to 0 l) l ++ (x ∷ thin (drop (suc (up_to 0 l)) l) ns)) →
        cond t (x ∷ thin l ns) (y ∷ thin l (x ∷ ns)) ≡ take (cond t 0 (suc (up_to 0 l))) (y ∷ l) ++ (x ∷ thin (drop (suc (cond t 0 (suc (up_to 0 l)))) (y ∷ l)) ns)
    go true g f = refl
    go false g f = ap (λ (r : List ℕ). y ∷ r) (f (omega arith))

stand-up : (l : List ℕ) → up_to 0 l < length l → standing l ≡ suc (standing (drop (suc (up_to 0 l)) l))
unfolding standing up_to
stand-up [] h = absurd (omega arith)
stand-up (y ∷ l) h = go (eqb y 0) h (stand-up l)
  where
    go : (t : Bool) → cond t 0 (suc (up_to 0 l)) < suc (length l) → (up_to 0 l < length l → standing l ≡ suc (standing (drop (suc (up_to 0 l)) l))) →
        cond t (suc (standing l)) (standing l) ≡ suc (standing (drop (suc (cond t 0 (suc (up_to 0 l)))) (y ∷ l)))
    go true g f = refl
    go false g f = f (omega arith)

stand-some : (l : List ℕ) → 0 < standing l → up_to 0 l < length l
unfolding standing up_to
stand-some [] h = absurd (omega arith)
stand-some (y ∷ l) h = go (eqb y 0) h (stand-some l)
  where
    go : (t : Bool) → 0 < cond t (suc (standing l)) (standing l) → (0 < standing l → up_to 0 l < length l) → cond t 0 (suc (up_to 0 l)) < suc (length l)
    go true g f = omega arith
    go false g f = omega (arith, f g)

-- there is one from k on
pub next-in : (m : List ℕ) (k j : ℕ) → 0 < standing (drop k m) → j ≡ k + up_to 0 (drop k m) → j < length m
next-in m k j h q = omega (arith, stand-some (drop k m) h, length-drop k m)

pub k-in : (m : List ℕ) (k : ℕ) → 0 < standing (drop k m) → k < length m
k-in m k h = omega (arith, next-in m k _ h refl)

pub next-at : (m : List ℕ) (k r : ℕ) → r ≡ up_to 0 (take (length m - k) (drop k m)) → k + r ≡ k + up_to 0 (drop k m)
next-at m k r q =
    let e : length (drop k m) ≤ length m - k = omega (arith, length-drop k m) in
    ap (λ (n : ℕ). k + n) (q ∙ ap (up_to 0) (take_all (length m - k) (drop k m) e))

-- it is noted
module _ {m m' : List ℕ} {x r : ℕ} (k : ℕ) (h : 0 < standing (drop k m)) (w : Wrote m (k + up_to 0 (drop k m)) (x ∷ []) m' r) where
  past : drop r m' ≡ drop (suc (up_to 0 (drop k m))) (drop k m)
  unfolding put_at
  past =
      let j : ℕ = k + up_to 0 (drop k m) in
      let l : length (take j m) ≡ j = length-take-le j m (omega (arith, next-in m k j h refl)) in
      let e : length (take j m ++ (x ∷ [])) ≡ r = omega (arith, l, length-append (take j m) (x ∷ []), w.place) in
      let g : j + length (x ∷ []) ≡ suc (up_to 0 (drop k m)) + k = omega arith in
      ap (drop r) w.holds ∙ drop_at (take j m ++ (x ∷ [])) (drop (j + length (x ∷ [])) m) r e ∙ ap (λ (n : ℕ). drop n m) g ∙ swap (suc (up_to 0 (drop k m)))
    where
      swap : (n : ℕ) → drop (n + k) m ≡ drop n (drop k m)
      swap n = let q : n + k ≡ k + n = omega arith in ap (λ (i : ℕ). drop i m) q ∙ sym (drop-drop n k m)

  front : take r m' ≡ take k m ++ (take (up_to 0 (drop k m)) (drop k m) ++ (x ∷ []))
  unfolding put_at
  front =
      let j : ℕ = k + up_to 0 (drop k m) in
      let l : length (take j m) ≡ j = length-take-le j m (omega (arith, next-in m k j h refl)) in
      let e : length (take j m ++ (x ∷ [])) ≡ r = omega (arith, l, length-append (take j m) (x ∷ []), w.place) in
      ap (take r) w.holds ∙ take_at (take j m ++ (x ∷ [])) (drop (j + length (x ∷ [])) m) r e
      ∙ ap (λ (s : List ℕ). s ++ (x ∷ [])) (take-add k (up_to 0 (drop k m)) m) ∙ append_assoc (take k m) (take (up_to 0 (drop k m)) (drop k m)) (x ∷ [])

  pub thin-step : (ns : List ℕ) → take r m' ++ thin (drop r m') ns ≡ take k m ++ thin (drop k m) (x ∷ ns)
  thin-step ns =
      let u : List ℕ = take (up_to 0 (drop k m)) (drop k m) in
      let v : List ℕ = thin (drop (suc (up_to 0 (drop k m))) (drop k m)) ns in
      ap (λ (s : List ℕ). s ++ thin (drop r m') ns) front
      ∙ ap (λ (s : List ℕ). (take k m ++ (u ++ (x ∷ []))) ++ thin s ns) past
      ∙ append_assoc (take k m) (u ++ (x ∷ [])) v
      ∙ ap (λ (s : List ℕ). take k m ++ s) (append_assoc u (x ∷ []) v)
      ∙ ap (λ (s : List ℕ). take k m ++ s) (sym (thin-up (drop k m) x ns (stand-some (drop k m) h)))

  pub thin-left : suc (standing (drop r m')) ≡ standing (drop k m)
  thin-left = ap (λ (s : List ℕ). suc (standing s)) past ∙ sym (stand-up (drop k m) (stand-some (drop k m) h))

-- ---- tables

pub thin-none : (m : List ℕ) → thin m [] ≡ m
unfolding thin
thin-none [] = refl
thin-none (x ∷ m) = refl

-- acts that all stay change no move
pub thin-stay : (m : List ℕ) (n : ℕ) → thin m (replicate n 0) ≡ m
unfolding thin
thin-stay [] n = refl
thin-stay (x ∷ m) zero = refl
thin-stay (x ∷ m) (suc n) = go (eqb x 0) refl (thin-stay m n) (thin-stay m (suc n))
  where
    go : (t : Bool) → eqb x 0 ≡ t → thin m (replicate n 0) ≡ m → thin m (replicate (suc n) 0) ≡ m → cond t (0 ∷ thin m (replicate n 0)) (x ∷ thin m (replicate (suc n) 0)) ≡ x ∷ m
    go true e h k = ap (λ (r : List ℕ). 0 ∷ r) h ∙ ap (λ (y : ℕ). y ∷ m) (sym (eqb-true x 0 e))
    go false e h k = ap (λ (r : List ℕ). x ∷ r) k

pub thin-length : (m ns : List ℕ) → length (thin m ns) ≡ length m
unfolding thin
thin-length [] ns = refl
thin-length (x ∷ m) [] = refl
thin-length (x ∷ m) (n ∷ ns) = go (eqb x 0) (thin-length m ns) (thin-length m (n ∷ ns))
  where
    go : (t : Bool) → length (thin m ns) ≡ length m → length (thin m (n ∷ ns)) ≡ length m → length (cond t (n ∷ thin m ns) (x ∷ thin m (n ∷ ns))) ≡ suc (length m)
    go true h k = ap suc h
    go false h k = ap suc k

-- of lines that all stand it leaves the second
pub thin-zeros : (n : ℕ) (ns : List ℕ) → length ns ≡ n → thin (replicate n 0) ns ≡ ns
unfolding thin
thin-zeros zero [] h = refl
thin-zeros zero (x ∷ ns) h = absurd (omega arith)
thin-zeros (suc n) [] h = absurd (omega arith)
thin-zeros (suc n) (x ∷ ns) h = ap (λ (r : List ℕ). x ∷ r) (thin-zeros n ns (omega arith))

-- what stands behind those that it asks for is left
pub thin-front : (m t ns : List ℕ) → length ns ≤ standing m → thin (m ++ t) ns ≡ thin m ns ++ t
unfolding thin standing
thin-front [] t [] h = thin-none t
thin-front [] t (n ∷ ns) h = absurd (omega arith)
thin-front (x ∷ m) t [] h = refl
thin-front (x ∷ m) t (n ∷ ns) h = go (eqb x 0) h (thin-front m t ns) (thin-front m t (n ∷ ns))
  where
    go : (b : Bool) → length (n ∷ ns) ≤ cond b (suc (standing m)) (standing m) → (length ns ≤ standing m → thin (m ++ t) ns ≡ thin m ns ++ t) → (length (n ∷ ns) ≤ standing m → thin (m ++ t) (n ∷ ns) ≡ thin m (n ∷ ns) ++ t) →
        cond b (n ∷ thin (m ++ t) ns) (x ∷ thin (m ++ t) (n ∷ ns)) ≡ cond b (n ∷ thin m ns) (x ∷ thin m (n ∷ ns)) ++ t
    go true g f k = ap (λ (r : List ℕ). n ∷ r) (f (omega arith))
    go false g f k = ap (λ (r : List ℕ). x ∷ r) (k g)

-- how many stand then
pub thin-standing : (m ns : List ℕ) → length ns ≤ standing m → standing (thin m ns) + length ns ≡ standing m + standing ns
unfolding thin standing
thin-standing [] [] h = refl
thin-standing [] (n ∷ ns) h = absurd (omega arith)
thin-standing (x ∷ m) [] h = refl
thin-standing (x ∷ m) (n ∷ ns) h = go (eqb x 0) refl h (thin-standing m ns) (thin-standing m (n ∷ ns))
  where
    by : (c : Bool) → standing (thin m ns) + length ns ≡ standing m + standing ns → cond c (suc (standing (thin m ns))) (standing (thin m ns)) + suc (length ns) ≡ suc (standing m) + cond c (suc (standing ns)) (standing ns)
    by true e = omega (arith, e)
    by false e = omega (arith, e)

    go : (b : Bool) → eqb x 0 ≡ b → length (n ∷ ns) ≤ cond b (suc (standing m)) (standing m) → (length ns ≤ standing m → standing (thin m ns) + length ns ≡ standing m + standing ns) → (length (n ∷ ns) ≤ standing m → standing (thin m (n ∷ ns)) + suc (length ns) ≡ standing m + standing (n ∷ ns)) →
        standing (cond b (n ∷ thin m ns) (x ∷ thin m (n ∷ ns))) + suc (length ns) ≡ cond b (suc (standing m)) (standing m) + cond (eqb n 0) (suc (standing ns)) (standing ns)
    go true e g f k = by (eqb n 0) (f (omega arith))
    go false e g f k = rw e (k g)

pub standing-zeros : (n : ℕ) (t : List ℕ) → n ≤ standing (replicate n 0 ++ t)
unfolding standing
standing-zeros zero t = omega arith
standing-zeros (suc n) t = omega (arith, standing-zeros n t)
