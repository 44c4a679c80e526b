-- The moves that `prune_dead_phis` hands out: each round goes on with the lines that stand. Assumes nothing.
use Prim.Native.Nat.{ℕ, suc, ◌+◌, ◌≤◌, ◌<◌, min}
use mathlib.Core.Path.{◌≡◌, refl, sym, ap, ◌∙◌}
use mathlib.Core.Bool.{Bool, true, false, cond}
use mathlib.Core.List.{List, [], ◌∷◌, ◌++◌, append-nil}
use native.Mathlib.Omega.{arith}
use lib.ListN.{length, take, drop, replicate, take-append-drop, length-replicate}
use Rattle.lines.specs.Lf.{part, up_to, lines_of, unlines, all}
use Rattle.lines.specs.Acts.{Act, act, apply}
use Rattle.lines.specs.Inner.Out.{put_at, Wrote}
use Rattle.lines.proofs.Tests.{and_both}
use Rattle.lines.proofs.LfLaws.{lines-at, lines_end}
use Rattle.lines.proofs.OutLaws.{wrote_as, wrote-length}
use Rattle.origins.specs.Fates.{fates_of, follow}
use Rattle.origins.specs.Inner.Codes.{move_of, moves_of, note_of, standing}
use Rattle.origins.specs.Thin.{then_acts}
use Rattle.origins.specs.Inner.Thin.{thin}
use Rattle.origins.proofs.Notes.{plainly, note-act, moves-length}
use Rattle.origins.proofs.Thins.{then-length, then-plain, then-apply, then-moves, then-fates, standing-acts, thin-step, thin-left, thin-none, thin-stay, thin-zeros, thin-front, thin-standing, standing-zeros}
use Rattle.reading.specs.Reading.{Reading}
use Rattle.phis.specs.Phis.{any_dead, phi_act, phi_acts, keeps, round_acts, round, prune_dead_phis}
use Rattle.phis.specs.Inner.Rounds.{change_text}
use Rattle.phis.specs.Moves.{prune_dead_phis_acts}
use Rattle.phis.proofs.Keeps.{none-into, none-dead}

-- ---- the acts of a round

acts-plain : (R : Reading) (ls ms : List (List ℕ)) → all plainly (phi_acts R ls ms) ≡ true
unfolding phi_acts
acts-plain R ls [] = refl
acts-plain R ls (m ∷ ms) = and_both (none-into R ls m) (acts-plain R ls ms)

acts-length : (R : Reading) (ls ms : List (List ℕ)) → length (phi_acts R ls ms) ≡ length ms
unfolding phi_acts
acts-length R ls [] = refl
acts-length R ls (m ∷ ms) = ap suc (acts-length R ls ms)

keeps-plain : (ls : List (List ℕ)) → all plainly (keeps ls) ≡ true
unfolding keeps
keeps-plain [] = refl
keeps-plain (l ∷ ls) = keeps-plain ls

keeps-length : (ls : List (List ℕ)) → length (keeps ls) ≡ length ls
unfolding keeps
keeps-length [] = refl
keeps-length (l ∷ ls) = ap suc (keeps-length ls)

keeps-moves : (ls : List (List ℕ)) → moves_of (keeps ls) ≡ replicate (length ls) 0
unfolding keeps moves_of move_of
keeps-moves [] = refl
keeps-moves (l ∷ ls) = ap (λ (r : List ℕ). 0 ∷ r) (keeps-moves ls)

pub round-plain : (R : Reading) (ls : List (List ℕ)) → all plainly (round_acts R ls) ≡ true
unfolding round_acts
round-plain R ls = go (any_dead ls ls)
  where
    go : (b : Bool) → all plainly (cond b (phi_acts R ls ls) (keeps ls)) ≡ true
    go true = acts-plain R ls ls
    go false = keeps-plain ls

pub round-length : (R : Reading) (ls : List (List ℕ)) → length (round_acts R ls) ≡ length ls
unfolding round_acts
round-length R ls = go (any_dead ls ls)
  where
    go : (b : Bool) → length (cond b (phi_acts R ls ls) (keeps ls)) ≡ length ls
    go true = acts-length R ls ls
    go false = keeps-length ls

round-standing : (R : Reading) (ls : List (List ℕ)) → standing (moves_of (round_acts R ls)) ≡ length (round R ls)
unfolding round
round-standing R ls = standing-acts (round_acts R ls) ls (round-plain R ls) (round-length R ls)

made : (R : Reading) (ms : List (List ℕ)) → apply (round_acts R ms) ms ≡ round R ms
unfolding round
made R ms = refl

-- ---- the three rounds as one list of acts

module _ (R : Reading) (ls : List (List ℕ)) where
  two-standing : standing (moves_of (then_acts (round_acts R ls) (round_acts R (round R ls)))) ≡ length (round R (round R ls))
  two-standing =
      let ns : List ℕ = moves_of (round_acts R ls) in
      let ks : List ℕ = moves_of (round_acts R (round R ls)) in
      let l : length ks ≡ length (round R ls) = moves-length (round_acts R (round R ls)) ∙ round-length R (round R ls) in
      let e : standing (thin ns ks) + length ks ≡ standing ns + standing ks = thin-standing ns ks (omega (arith, l, round-standing R ls)) in
      ap standing (then-moves (round_acts R ls) (round_acts R (round R ls)) (round-plain R ls)) ∙ omega (arith, e, l, round-standing R ls, round-standing R (round R ls))

  pub phis-length : length (prune_dead_phis_acts R ls) ≡ length ls
  unfolding prune_dead_phis_acts
  phis-length =
      then-length (then_acts (round_acts R ls) (round_acts R (round R ls))) (round_acts R (round R (round R ls)))
      ∙ then-length (round_acts R ls) (round_acts R (round R ls)) ∙ round-length R ls

  pub phis-plain : all plainly (prune_dead_phis_acts R ls) ≡ true
  unfolding prune_dead_phis_acts
  phis-plain =
      then-plain (then_acts (round_acts R ls) (round_acts R (round R ls))) (round_acts R (round R (round R ls)))
      (then-plain (round_acts R ls) (round_acts R (round R ls)) (round-plain R ls) (round-plain R (round R ls))) (round-plain R (round R (round R ls)))

  -- they make the lines that the pass makes
  pub phis-apply : apply (prune_dead_phis_acts R ls) ls ≡ prune_dead_phis R ls
  unfolding prune_dead_phis_acts prune_dead_phis
  phis-apply =
      let xs : List Act = round_acts R ls in
      let ys : List Act = round_acts R (round R ls) in
      let zs : List Act = round_acts R (round R (round R ls)) in
      let p : apply (then_acts xs ys) ls ≡ round R (round R ls) =
      then-apply xs ys ls (round-length R ls) (round-length R (round R ls) ∙ ap length (sym (made R ls))) ∙ ap (apply ys) (made R ls) ∙ made R (round R ls) in
      then-apply (then_acts xs ys) zs ls (then-length xs ys ∙ round-length R ls) (round-length R (round R (round R ls)) ∙ ap length (sym p))
      ∙ ap (apply zs) p ∙ made R (round R (round R ls))

  -- and the fates of the lines are those of the rounds, one after the other
  pub phis-fates : fates_of (prune_dead_phis_acts R ls) ≡ follow (follow (fates_of (round_acts R ls)) (fates_of (round_acts R (round R ls)))) (fates_of (round_acts R (round R (round R ls))))
  unfolding prune_dead_phis_acts
  phis-fates =
      then-fates (then_acts (round_acts R ls) (round_acts R (round R ls))) (round_acts R (round R (round R ls)))
      (then-plain (round_acts R ls) (round_acts R (round R ls)) (round-plain R ls) (round-plain R (round R ls))) (round-plain R (round R (round R ls)))
      (two-standing ∙ sym (round-length R (round R (round R ls))))
      ∙ ap (λ fs. follow fs (fates_of (round_acts R (round R (round R ls)))))
      (then-fates (round_acts R ls) (round_acts R (round R ls)) (round-plain R ls) (round-plain R (round R ls)) (round-standing R ls ∙ sym (round-length R (round R ls))))

  phis-moves : moves_of (prune_dead_phis_acts R ls) ≡ thin (thin (moves_of (round_acts R ls)) (moves_of (round_acts R (round R ls)))) (moves_of (round_acts R (round R (round R ls))))
  unfolding prune_dead_phis_acts
  phis-moves =
      then-moves (then_acts (round_acts R ls) (round_acts R (round R ls))) (round_acts R (round R (round R ls))) (then-plain (round_acts R ls) (round_acts R (round R ls)) (round-plain R ls) (round-plain R (round R ls)))
      ∙ ap (λ (r : List ℕ). thin r (moves_of (round_acts R (round R (round R ls))))) (then-moves (round_acts R ls) (round_acts R (round R ls)) (round-plain R ls))

-- ---- one round in the table

-- one that finds no dead phi
pub none-thin : (R : Reading) (t m : List ℕ) → any_dead (lines_of t) (lines_of t) ≡ false → m ≡ thin m (moves_of (round_acts R (lines_of t)))
unfolding round_acts
none-thin R t m h = rw h (sym (ap (thin m) (keeps-moves (lines_of t)) ∙ thin-stay m (length (lines_of t))))

abbrev to_move : Reading → List (List ℕ) → List (List ℕ) → List ℕ
to_move R ls ms = moves_of (phi_acts R ls ms)

move-cons : (R : Reading) (ls : List (List ℕ)) (m : List ℕ) (ms : List (List ℕ)) → to_move R ls (m ∷ ms) ≡ move_of (phi_act R ls m) ∷ to_move R ls ms
unfolding phi_acts moves_of
move-cons R ls m ms = refl

move-nil : (R : Reading) (ls : List (List ℕ)) → to_move R ls [] ≡ []
unfolding phi_acts moves_of
move-nil R ls = refl

move_all : (R : Reading) (ls : List (List ℕ)) → any_dead ls ls ≡ true → to_move R ls ls ≡ moves_of (round_acts R ls)
unfolding round_acts
move_all R ls e = rw e

change-act : (R : Reading) (ls : List (List ℕ)) (l : List ℕ) → change_text R ls l ≡ unlines (act (phi_act R ls l) l)
unfolding change_text
change-act R ls l = refl

pub record ThinInv (R : Reading) (t m₀ m : List ℕ) (i k : ℕ) : Type 0 where
  pub same : length m ≡ length m₀
  pub enough : length (lines_of (drop i t)) ≤ standing (drop k m)
  pub moved : take k m ++ thin (drop k m) (to_move R (lines_of t) (lines_of (drop i t))) ≡ thin m₀ (moves_of (round_acts R (lines_of t)))

pub thin-start : (R : Reading) (t m : List ℕ) → any_dead (lines_of t) (lines_of t) ≡ true → length (lines_of t) ≤ standing m → ThinInv R t m m 0 0
thin-start R t m e h = record { same = refl; enough = h; moved = ap (thin m) (move_all R (lines_of t) e) }

module _ {R : Reading} {t m₀ m : List ℕ} {i k : ℕ} (h : ThinInv R t m₀ m i k) where
  module _ (e : ℕ) (b : i < length t) (q : e ≡ i + up_to 10 (drop i t)) (l : List ℕ) (z : l ≡ part i e t) where
    next-count : length (lines_of (drop i t)) ≡ suc (length (lines_of (drop (min (e + 1) (length t)) t)))
    next-count = ap length (lines-at t i e b q)

    pub thin-room : 0 < standing (drop k m)
    thin-room = omega (arith, h.enough, next-count)

    pub thin-on : {d d' m' : List ℕ} {o r k' : ℕ} (j : ℕ) → Wrote d o (change_text R (lines_of t) l) d' r → Wrote m (k + up_to 0 (drop k m)) (note_of o r ∷ []) m' k' → j ≡ min (e + 1) (length t) → ThinInv R t m₀ m' j k'
    thin-on {d} {d'} {m'} {o} {r} {k'} j w v x =
        let ls : List (List ℕ) = lines_of t in
        let rest : List (List ℕ) = lines_of (drop (min (e + 1) (length t)) t) in
        let y : note_of o r ≡ move_of (phi_act R ls l) = note-act (phi_act R ls l) l d d' o r (none-into R ls l) (wrote_as (change-act R ls l) w) in
        let to : to_move R ls (lines_of (drop i t)) ≡ note_of o r ∷ to_move R ls rest =
        ap (to_move R ls) (lines-at t i e b q) ∙ move-cons R ls (part i e t) rest ∙ ap (λ (s : List ℕ). move_of (phi_act R ls s) ∷ to_move R ls rest) (sym z) ∙ ap (λ (n : ℕ). n ∷ to_move R ls rest) (sym y) in
        record {
          same = wrote-length v ∙ h.same;
          enough = rw x (omega (arith, h.enough, next-count, thin-left k thin-room v));
          moved = rw x (thin-step k thin-room v (to_move R ls rest) ∙ ap (λ (ns : List ℕ). take k m ++ thin (drop k m) ns) (sym to) ∙ h.moved);
        }

  pub thin-end : length t ≤ i → m ≡ thin m₀ (moves_of (round_acts R (lines_of t)))
  thin-end b =
      sym (take-append-drop k m)
      ∙ ap (λ (r : List ℕ). take k m ++ r) (sym (thin-none (drop k m)))
      ∙ ap (λ (ns : List ℕ). take k m ++ thin (drop k m) ns) (sym (ap (to_move R (lines_of t)) (lines_end t i b) ∙ move-nil R (lines_of t)))
      ∙ h.moved

-- ---- the three rounds in the table

-- m₀ after it was noted of all lines that they stay
pub first-enough : {m m₀ : List ℕ} {r : ℕ} (n : ℕ) → Wrote m 0 (replicate n 0) m₀ r → n ≤ standing m₀
unfolding put_at
first-enough {m} n w = omega (arith, ap standing w.holds, standing-zeros n (drop (0 + length (replicate {A = ℕ} n 0)) m))

-- after a round there is a place for each line that it wrote
pub next-enough : (R : Reading) (ls : List (List ℕ)) (m m' : List ℕ) → length ls ≤ standing m → m' ≡ thin m (moves_of (round_acts R ls)) → length (round R ls) ≤ standing m'
next-enough R ls m m' h e =
    let ns : List ℕ = moves_of (round_acts R ls) in
    let l : length ns ≡ length ls = moves-length (round_acts R ls) ∙ round-length R ls in
    omega (arith, ap standing e, thin-standing m ns (omega (arith, l)), l, round-standing R ls)

three : (R : Reading) (ls : List (List ℕ)) {m m₀ m₁ m₂ m₃ : List ℕ} {r : ℕ} → Wrote m 0 (replicate (length ls) 0) m₀ r → m₁ ≡ thin m₀ (moves_of (round_acts R ls)) → m₂ ≡ thin m₁ (moves_of (round_acts R (round R ls))) →
    m₃ ≡ thin m₂ (moves_of (round_acts R (round R (round R ls)))) → Wrote m 0 (moves_of (prune_dead_phis_acts R ls)) m₃ (length ls)
unfolding put_at
three R ls {m} {m₀} {m₁} {m₂} {m₃} w a b c =
    let n : ℕ = length ls in
    let z : List ℕ = replicate n 0 in
    let t : List ℕ = drop (0 + length z) m in
    let xs : List ℕ = moves_of (round_acts R ls) in
    let ys : List ℕ = moves_of (round_acts R (round R ls)) in
    let zs : List ℕ = moves_of (round_acts R (round R (round R ls))) in
    let lx : length xs ≡ n = moves-length (round_acts R ls) ∙ round-length R ls in
    let ly : length ys ≡ length (round R ls) = moves-length (round_acts R (round R ls)) ∙ round-length R (round R ls) in
    let lz : length zs ≡ length (round R (round R ls)) = moves-length (round_acts R (round R (round R ls))) ∙ round-length R (round R (round R ls)) in
    let s₀ : n ≤ standing z = omega (arith, standing-zeros n [], ap standing (append-nil z)) in
    let s₁ : standing xs ≡ length ys = round-standing R ls ∙ sym ly in
    let s₂ : standing (thin xs ys) ≡ length zs = omega (arith, thin-standing xs ys (omega (arith, s₁)), s₁, round-standing R (round R ls), lz) in
    let h₀ : m₀ ≡ z ++ t = w.holds in
    let h₁ : m₁ ≡ xs ++ t = a ∙ ap (λ (l : List ℕ). thin l xs) h₀ ∙ thin-front z t xs (omega (arith, s₀, lx)) ∙ ap (λ (l : List ℕ). l ++ t) (thin-zeros n xs lx) in
    let h₂ : m₂ ≡ thin xs ys ++ t = b ∙ ap (λ (l : List ℕ). thin l ys) h₁ ∙ thin-front xs t ys (omega (arith, s₁)) in
    let h₃ : m₃ ≡ thin (thin xs ys) zs ++ t = c ∙ ap (λ (l : List ℕ). thin l zs) h₂ ∙ thin-front (thin xs ys) t zs (omega (arith, s₂)) in
    let e : moves_of (prune_dead_phis_acts R ls) ≡ thin (thin xs ys) zs = phis-moves R ls in
    let g : length (moves_of (prune_dead_phis_acts R ls)) ≡ n = moves-length (prune_dead_phis_acts R ls) ∙ phis-length R ls in
    let k : length z ≡ n = length-replicate {A = ℕ} n 0 in
    record {
      fits = omega (arith, w.fits, g, k);
      place = omega (arith, g);
      holds =
          let q : 0 + length z ≡ 0 + length (moves_of (prune_dead_phis_acts R ls)) = omega (arith, g, k) in
          h₃ ∙ ap (λ (l : List ℕ). l ++ t) (sym e) ∙ ap (λ (i : ℕ). moves_of (prune_dead_phis_acts R ls) ++ drop i m) q;
    }

-- the second round read the lines xs, and the third ys
pub three-moves : (R : Reading) (ls xs ys : List (List ℕ)) {m m₀ m₁ m₂ m₃ : List ℕ} {r : ℕ} → xs ≡ round R ls → ys ≡ round R xs → Wrote m 0 (replicate (length ls) 0) m₀ r → m₁ ≡ thin m₀ (moves_of (round_acts R ls)) → m₂ ≡ thin m₁ (moves_of (round_acts R xs)) →
    m₃ ≡ thin m₂ (moves_of (round_acts R ys)) → Wrote m 0 (moves_of (prune_dead_phis_acts R ls)) m₃ (length ls)
three-moves R ls xs ys {m₁ = m₁} {m₂ = m₂} e f w a b c =
    three R ls w a (b ∙ ap (λ (z : List (List ℕ)). thin m₁ (moves_of (round_acts R z))) e) (c ∙ ap (λ (z : List (List ℕ)). thin m₂ (moves_of (round_acts R z))) (f ∙ ap (round R) e))

-- ---- lines of which no phi is dead: nothing moves

module _ (R : Reading) (ls : List (List ℕ)) (h : any_dead ls ls ≡ false) where
  pub calm_lines : prune_dead_phis R ls ≡ ls
  unfolding prune_dead_phis
  calm_lines = let e : round R ls ≡ ls = none-dead R ls h in ap (λ (r : List (List ℕ)). round R (round R r)) e ∙ ap (round R) e ∙ e

  calm-round : moves_of (round_acts R ls) ≡ replicate (length ls) 0
  unfolding round_acts
  calm-round = rw h (keeps-moves ls)

  pub calm-moves : moves_of (prune_dead_phis_acts R ls) ≡ replicate (length ls) 0
  calm-moves =
      let e : round R ls ≡ ls = none-dead R ls h in
      let n : ℕ = length ls in
      let stay : (m : List ℕ) → thin m (moves_of (round_acts R ls)) ≡ m = λ m. ap (thin m) calm-round ∙ thin-stay m n in
      phis-moves R ls
      ∙ ap (λ (r : List (List ℕ)). thin (thin (moves_of (round_acts R ls)) (moves_of (round_acts R r))) (moves_of (round_acts R (round R r)))) e
      ∙ ap (λ (r : List (List ℕ)). thin (thin (moves_of (round_acts R ls)) (moves_of (round_acts R ls))) (moves_of (round_acts R r))) e
      ∙ stay (thin (moves_of (round_acts R ls)) (moves_of (round_acts R ls))) ∙ stay (moves_of (round_acts R ls)) ∙ calm-round
