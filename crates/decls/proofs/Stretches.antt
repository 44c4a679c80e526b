-- Lines that are no declarations, one after the other, are marked at once: the runs of a stretch of lines are the runs of its lines. Assumes nothing.
use Prim.Native.Nat.{ℕ, ◌+◌, ◌<◌, min}
use mathlib.Core.Path.{◌≡◌, refl, sym, ap, ◌∙◌}
use mathlib.Core.Bool.{Bool, true, false}
use mathlib.Core.List.{List, [], ◌∷◌, ◌++◌, append_assoc}
use native.Mathlib.Omega.{arith}
use borrow.Author.Tests.{ltb-true, ltb-false}
use lib.Dec.{ltb}
use lib.ListN.{length, drop, length-drop}
use Rattle.lines.specs.Lf.{part, up_to}
use Rattle.lines.proofs.LfLaws.{up_to-le, part_none}
use Rattle.text.specs.Trim.{trim_of}
use Rattle.names.specs.Names.{reg_of}
use Rattle.parse.specs.Parse.{is_decl}
use Rattle.words.specs.Runs.{runs_go, runs}
use Rattle.place.specs.Region.{is_header}
use Rattle.decls.specs.Inner.Seen.{mark_name, mark_runs, Quiet, quiet_none, quiet-more}
use Rattle.decls.proofs.TrimRuns.{back-runs}
use Rattle.decls.proofs.SeenLaws.{RegionInv, runs-length, region-on, quiet-le}
use Rattle.decls.proofs.LineRuns.{mid-runs, line-runs-marked}
use Rattle.decls.proofs.Chunks.{part_join, chunk-lf}

-- runs after others
runs-both : (own : List ℕ) (m : ℕ) (x y : List (List ℕ)) (d : List ℕ) → mark_runs own m (x ++ y) d ≡ mark_runs own m y (mark_runs own m x d)
unfolding mark_runs
runs-both own m [] y d = refl
runs-both own m (r ∷ x) y d = runs-both own m x y (mark_name own m (reg_of r) d)

-- no line
none-marked : (own : List ℕ) (m : ℕ) (t d : List ℕ) (j : ℕ) → mark_runs own m (runs (part j j t)) d ≡ d
unfolding mark_runs runs runs_go
none-marked own m t d j = ap (λ (l : List ℕ). mark_runs own m (runs l) d) (part_none t j)

-- the runs of a text stand apart from those of what follows it
abbrev Apart : List ℕ → Type 0
Apart l = (x : List ℕ) → runs (l ++ x) ≡ runs l ++ runs x

apart_none : (t : List ℕ) (j : ℕ) → Apart (part j j t)
unfolding runs runs_go
apart_none t j = rw (part_none t j) (λ x. refl)

-- a line with its LF after such a text
lf-runs : (l : List ℕ) → runs (l ++ 10 ∷ []) ≡ runs l
unfolding runs
lf-runs l = back-runs l (10 ∷ []) [] refl

apart-lf : (a l : List ℕ) → Apart a → Apart (a ++ (l ++ 10 ∷ []))
unfolding runs
apart-lf a l h = λ x.
    ap runs (append_assoc a (l ++ 10 ∷ []) x ∙ ap (λ (r : List ℕ). a ++ r) (append_assoc l (10 ∷ []) x))
    ∙ h (l ++ 10 ∷ x)
    ∙ ap (λ (r : List (List ℕ)). runs a ++ r) (mid-runs l 10 x [] refl)
    ∙ sym (append_assoc (runs a) (runs l) (runs x))
    ∙ ap (λ (r : List (List ℕ)). r ++ runs x) (ap (λ (r : List (List ℕ)). runs a ++ r) (sym (lf-runs l)) ∙ sym (h (l ++ 10 ∷ [])))

-- the line at j is that at i
pub decl-here : (t l : List ℕ) (i j f : ℕ) → l ≡ part j f t → f ≡ j + up_to 10 (drop j t) → j < length t → j ≡ i → (i < length t → is_decl (trim_of (part i (i + up_to 10 (drop i t)) t)) ≡ true) → is_decl (trim_of l) ≡ true
decl-here t l i j f p e k z d =
    ap (λ (r : List ℕ). is_decl (trim_of r)) p ∙ ap (λ (n : ℕ). is_decl (trim_of (part j n t))) e ∙ ap (λ (n : ℕ). is_decl (trim_of (part n (n + up_to 10 (drop n t)) t))) z ∙ d (omega (arith, k, z))

-- ---- the loop over a region: the lines from q up to j are no declarations, and not marked yet; the rest is as RegionInv says

pub record StretchInv (own : List ℕ) (m : ℕ) (t d₀ d : List ℕ) (a k q j : ℕ) : Type 0 where
  pub marked : RegionInv own m t d₀ (mark_runs own m (runs (part q j t)) d) a k j
  pub quiet : Quiet t q j
  pub apart : j < length t → Apart (part q j t)

-- no line is left
pub stretch-new : {own : List ℕ} {m : ℕ} {t d₀ d : List ℕ} {a k j : ℕ} → RegionInv own m t d₀ d a k j → StretchInv own m t d₀ d a k j j
stretch-new {own} {m} {t} {d₀} {d} {a} {k} {j} h = record { marked = rw (none-marked own m t d j) h; quiet = quiet_none j; apart = λ b. apart_none t j }

module _ {own : List ℕ} {m : ℕ} {t d₀ d : List ℕ} {a b q j : ℕ} (h : StretchInv own m t d₀ d a b q j) where
  pub stretch-long : length d ≡ length d₀
  stretch-long = sym (runs-length own m (runs (part q j t)) d) ∙ h.marked.long

  -- they are marked, all at once
  pub stretch-shut : (w d' : List ℕ) → w ≡ part q j t → d' ≡ mark_runs own m (runs w) d → RegionInv own m t d₀ d' a b j
  stretch-shut w d' p x = rw (x ∙ ap (λ (l : List ℕ). mark_runs own m (runs l) d) p) h.marked

  -- one more line: that from j up to f, and n is the place after it
  module _ (f n : ℕ) (l : List ℕ) (k : j < length t) (e : f ≡ j + up_to 10 (drop j t)) (p : l ≡ part j f t) (z : n ≡ min (f + 1) (length t)) where
    line-more : runs (part q n t) ≡ runs (part q j t) ++ runs (part j f t)
    line-more = go (ltb f (length t)) refl
      where
        go : (c : Bool) → ltb f (length t) ≡ c → runs (part q n t) ≡ runs (part q j t) ++ runs (part j f t)
        go true c =
            ap runs (sym (chunk-lf t q j f n (quiet-le h.quiet) k e z (ltb-true f (length t) c)))
            ∙ h.apart k (part j f t ++ 10 ∷ [])
            ∙ ap (λ (r : List (List ℕ)). runs (part q j t) ++ r) (lf-runs (part j f t))
        go false c =
            let g = ltb-false f (length t) c in
            let y : n ≡ f = omega (arith, up_to-le 10 (drop j t), length-drop j t) in
            ap (λ (i : ℕ). runs (part q i t)) y ∙ ap runs (part_join t q j f (quiet-le h.quiet) (omega arith)) ∙ h.apart k (part j f t)

    pub stretch-on : is_header l ≡ false → is_decl (trim_of l) ≡ false → StretchInv own m t d₀ d a b q n
    stretch-on x y = record {
      marked =
          region-on h.marked f l k e p x (mark_runs own m (runs (part q n t)) d) n
          (ap (λ (r : List (List ℕ)). mark_runs own m r d) (line-more ∙ ap (λ (r : List ℕ). runs (part q j t) ++ runs r) (sym p)) ∙ runs-both own m (runs (part q j t)) (runs l) d
          ∙ line-runs-marked own m l (mark_runs own m (runs (part q j t)) d) y)
          z;
      quiet = quiet-more q j f n h.quiet k e (ap is_header (sym p) ∙ x) (ap (λ (r : List ℕ). is_decl (trim_of r)) (sym p) ∙ y) z;
      apart = λ g. rw (sym (chunk-lf t q j f n (quiet-le h.quiet) k e z (omega arith))) (apart-lf (part q j t) (part j f t) (h.apart k));
    }
