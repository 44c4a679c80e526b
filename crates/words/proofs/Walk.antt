-- A walk over the runs of a text, byte by byte or by the runs that begin with `r`, that folds them into a state: what it still has to do is what
-- the runs from here on do. Assumes nothing.
use Prim.Native.Nat.{ℕ, suc, ◌+◌, ◌≤◌, ◌<◌}
use mathlib.Core.Path.{◌≡◌, refl, sym, ap, ◌∙◌}
use mathlib.Core.Bool.{Bool, true, false, cond}
use mathlib.Core.List.{List, [], ◌∷◌, ◌++◌, append-nil}
use native.Mathlib.Omega.{arith}
use native.Mathlib.Numerals.{add-one}
use lib.Dec.{eqb}
use lib.ListN.{length, drop, get_or, drop_of_length-le}
use lib.Seq.{drop-cons}
use Rattle.lines.specs.Lf.{part}
use Rattle.lines.proofs.LfLaws.{part-more, part_none}
use Rattle.text.specs.Class.{is_name}
use Rattle.words.specs.Runs.{flush, runs_go, runs}
use Rattle.words.specs.Inner.Runs.{gap_len, run_len, reg_gap, walk_runs}
use Rattle.words.proofs.RunLaws.{walk-next, walk-regs, run-some, reg-stands}

-- a name byte goes on with the open run, another one ends it
pub go-name : (x : ℕ) (xs cur : List ℕ) → is_name x ≡ true → runs_go (x ∷ xs) cur ≡ runs_go xs (cur ++ (x ∷ []))
unfolding runs_go
go-name x xs cur e = rw e

pub go-gap : (x : ℕ) (xs cur : List ℕ) → is_name x ≡ false → runs_go (x ∷ xs) cur ≡ flush cur ++ runs_go xs []
unfolding runs_go
go-gap x xs cur e = rw e

pub go-none : (cur : List ℕ) → runs_go [] cur ≡ flush cur
unfolding runs_go
go-none cur = refl

-- `over` folds runs into a state; the run from a to i is open, d₀ is the state at the start and d that here
pub record Walk {S : Type 0} (over : List (List ℕ) → S → S) (s : List ℕ) (d₀ d : S) (a i : ℕ) : Type 0 where
  pub a≤ : a ≤ i
  pub i≤ : i ≤ length s
  pub so_far : over (runs_go (drop i s) (part a i s)) d ≡ over (runs s) d₀

pub walk_start : {S : Type 0} (over : List (List ℕ) → S → S) (s : List ℕ) (d : S) → Walk over s d d 0 0
unfolding runs
walk_start over s d = record { a≤ = omega arith; i≤ = omega arith; so_far = refl }

pub walk-name : {S : Type 0} {over : List (List ℕ) → S → S} {s : List ℕ} {d₀ d : S} {a i : ℕ} → Walk over s d₀ d a i → i < length s → is_name (get_or s i 0) ≡ true → Walk over s d₀ d a (i + 1)
walk-name {over = over} {s = s} {d = d} {a = a} {i = i} h k e = record {
  a≤ = omega (arith, h.a≤);
  i≤ = omega arith;
  so_far =
      ap (λ (c : List ℕ). over (runs_go (drop (i + 1) s) c) d) (part-more s a i h.a≤ k)
      ∙ ap (λ (n : ℕ). over (runs_go (drop n s) (part a i s ++ (get_or s i 0 ∷ []))) d) (add-one i)
      ∙ ap (λ (r : List (List ℕ)). over r d) (sym (go-name (get_or s i 0) (drop (suc i) s) (part a i s) e))
      ∙ ap (λ (l : List ℕ). over (runs_go l (part a i s)) d) (sym (drop-cons s i 0 k))
      ∙ h.so_far;
}

-- `step` is what one run does, an empty one nothing
module _ {S : Type 0} (over : List (List ℕ) → S → S) (step : List ℕ → S → S)
    (flushed : (cur : List ℕ) (rs : List (List ℕ)) (d : S) → over (flush cur ++ rs) d ≡ over rs (step cur d)) where
  pub walk-gap : {s : List ℕ} {d₀ d d' : S} {a i : ℕ} → Walk over s d₀ d a i → i < length s → is_name (get_or s i 0) ≡ false → (w : List ℕ) → w ≡ part a i s → d' ≡ step w d → Walk over s d₀ d' (i + 1) (i + 1)
  walk-gap {s} {d₀} {d} {d'} {a} {i} h k e w p q = record {
    a≤ = omega arith;
    i≤ = omega arith;
    so_far =
        ap (λ (c : List ℕ). over (runs_go (drop (i + 1) s) c) d') (part_none s (i + 1))
        ∙ ap (λ (n : ℕ). over (runs_go (drop n s) []) d') (add-one i)
        ∙ ap (λ (x : S). over (runs_go (drop (suc i) s) []) x) (q ∙ ap (λ (c : List ℕ). step c d) p)
        ∙ sym (flushed (part a i s) (runs_go (drop (suc i) s) []) d)
        ∙ ap (λ (r : List (List ℕ)). over r d) (sym (go-gap (get_or s i 0) (drop (suc i) s) (part a i s) e))
        ∙ ap (λ (l : List ℕ). over (runs_go l (part a i s)) d) (sym (drop-cons s i 0 k))
        ∙ h.so_far;
  }

  pub walk_end : ((d : S) → over [] d ≡ d) → {s : List ℕ} {d₀ d d' : S} {a i : ℕ} → Walk over s d₀ d a i → length s ≤ i → (w : List ℕ) → w ≡ part a i s → d' ≡ step w d → d' ≡ over (runs s) d₀
  walk_end ended {s} {d₀} {d} {d'} {a} {i} h k w p q =
      q ∙ ap (λ (c : List ℕ). step c d) p
      ∙ sym (ended (step (part a i s) d)) ∙ sym (flushed (part a i s) [] d)
      ∙ ap (λ (r : List (List ℕ)). over r d) (append-nil (flush (part a i s)) ∙ sym (go-none (part a i s)))
      ∙ ap (λ (l : List ℕ). over (runs_go l (part a i s)) d) (sym (drop_of_length-le s k))
      ∙ h.so_far

-- ---- the same by the runs that begin with `r`, where the others do nothing

-- a run that has ended, where it begins with `r`
abbrev flush_reg : ℕ → List ℕ → List (List ℕ)
flush_reg e [] = []
flush_reg e (x ∷ c) = cond (eqb x 114) ((x ∷ c) ∷ []) []

-- the walk has come to the run at i
pub record RegWalk {S : Type 0} (over : List (List ℕ) → S → S) (s : List ℕ) (d₀ d : S) (i : ℕ) : Type 0 where
  pub stands : gap_len (drop i s) ≡ 0
  pub so_far : over (walk_runs flush_reg (drop i s) i []) d ≡ over (runs s) d₀

module _ {S : Type 0} (over : List (List ℕ) → S → S) (step : List ℕ → S → S)
    (flushed : (cur : List ℕ) (rs : List (List ℕ)) (d : S) → over (flush cur ++ rs) d ≡ over rs (step cur d))
    (other : (x : ℕ) (c : List ℕ) (d : S) → eqb x 114 ≡ false → step (x ∷ c) d ≡ d) where
  reg-flushed : (e : ℕ) (cur : List ℕ) (rs : List (List ℕ)) (d : S) → over (flush_reg e cur ++ rs) d ≡ over rs (step cur d)
  reg-flushed e [] rs d = flushed [] rs d
  reg-flushed e (x ∷ c) rs d = go (eqb x 114) refl
    where
      go : (t : Bool) → eqb x 114 ≡ t → over (cond t ((x ∷ c) ∷ []) [] ++ rs) d ≡ over rs (step (x ∷ c) d)
      go true q = flushed (x ∷ c) rs d
      go false q = ap (over rs) (sym (other x c d q))

  reg-ended : (e : ℕ) (cur : List ℕ) (d : S) → over (flush_reg e cur) d ≡ over (flush cur) d
  reg-ended e cur d =
      ap (λ (r : List (List ℕ)). over r d) (sym (append-nil (flush_reg e cur))) ∙ reg-flushed e cur [] d
      ∙ sym (flushed cur [] d) ∙ ap (λ (r : List (List ℕ)). over r d) (append-nil (flush cur))

  over-regs : (l : List ℕ) (i : ℕ) (cur : List ℕ) (d : S) → over (walk_runs flush_reg l i cur) d ≡ over (runs_go l cur) d
  unfolding walk_runs runs_go
  over-regs [] i cur d = reg-ended i cur d
  over-regs (x ∷ xs) i cur d = go (is_name x) (over-regs xs (suc i) (cur ++ (x ∷ [])) d) (over-regs xs (suc i) [] (step cur d))
    where
      go : (t : Bool) → over (walk_runs flush_reg xs (suc i) (cur ++ (x ∷ []))) d ≡ over (runs_go xs (cur ++ (x ∷ []))) d →
          over (walk_runs flush_reg xs (suc i) []) (step cur d) ≡ over (runs_go xs []) (step cur d) →
          over (cond t (walk_runs flush_reg xs (suc i) (cur ++ (x ∷ []))) (flush_reg i cur ++ walk_runs flush_reg xs (suc i) [])) d
          ≡ over (cond t (runs_go xs (cur ++ (x ∷ []))) (flush cur ++ runs_go xs [])) d
      go true p q = p
      go false p q = reg-flushed i cur (walk_runs flush_reg xs (suc i) []) d ∙ q ∙ sym (flushed cur (runs_go xs []) d)

  regs-skip : (s : List ℕ) (d : S) (i j : ℕ) → j ≡ i + reg_gap false (drop i s) → over (walk_runs flush_reg (drop j s) j []) d ≡ over (walk_runs flush_reg (drop i s) i []) d
  regs-skip s d i j q = ap (λ (r : List (List ℕ)). over r d) (sym (walk-regs flush_reg (λ (e : ℕ). refl) (λ e x c t. rw t) s i j q))

  pub regs-start : (s : List ℕ) (d : S) (i : ℕ) → i ≡ 0 + reg_gap false (drop 0 s) → RegWalk over s d d i
  unfolding runs
  regs-start s d i q = record { stands = reg-stands s 0 i q; so_far = regs-skip s d 0 i q ∙ over-regs s 0 [] d }

  module _ {s : List ℕ} {d₀ d : S} {i : ℕ} (h : RegWalk over s d₀ d i) where
    module _ (l : i < length s) (e : ℕ) (p : e ≡ i + run_len (drop i s)) (k : ℕ) (q : k ≡ e + reg_gap false (drop e s)) where
      pub regs-less : i < k
      regs-less = omega (arith, run-some s i l h.stands)

      pub regs-on : {d' : S} (w : List ℕ) → w ≡ part i e s → d' ≡ step w d → RegWalk over s d₀ d' k
      regs-on {d'} w y z = record {
        stands = reg-stands s e k q;
        so_far =
            regs-skip s d' e k q
            ∙ ap (over (walk_runs flush_reg (drop e s) e [])) (z ∙ ap (λ (c : List ℕ). step c d) y)
            ∙ sym (reg-flushed e (part i e s) (walk_runs flush_reg (drop e s) e []) d)
            ∙ ap (λ (r : List (List ℕ)). over r d) (sym (walk-next flush_reg (λ (e : ℕ). refl) s i e p))
            ∙ h.so_far;
      }

    pub regs-end : ((d : S) → over [] d ≡ d) → length s ≤ i → d ≡ over (runs s) d₀
    unfolding walk_runs
    regs-end ended l = sym (ended d) ∙ ap (λ (r : List ℕ). over (walk_runs flush_reg r i []) d) (sym (drop_of_length-le s l)) ∙ h.so_far
