-- prune_decls as a pass: a text may be cut above a header, no line comes in, and what goes is said. Assumes nothing.
use Prim.Native.Nat.{ℕ, suc, ◌≤◌}
use mathlib.Core.Path.{◌≡◌, refl, sym, ap, ◌∙◌}
use mathlib.Core.Bool.{Bool, true, false, cond, not, ◌&&◌}
use mathlib.Core.List.{List, [], ◌∷◌, ◌++◌}
use native.Mathlib.Omega.{arith}
use lib.ListN.{length, take}
use Rattle.lines.specs.Lf.{parts_of, all}
use Rattle.lines.specs.Acts.{Act, keep, become, gone, apply}
use Rattle.lines.proofs.ActLaws.{apply-append, apply-length}
use Rattle.text.specs.Trim.{from_of, trim_of}
use Rattle.parse.specs.Parse.{body_of, is_decl}
use Rattle.place.specs.Region.{is_header, until_header, region, region_at}
use Rattle.place.specs.Inner.Region.{headed, regions}
use Rattle.place.proofs.Regions.{until-upper, at-upper, at-header}
use Rattle.place.proofs.Numbers.{runs_by, runs_go, runs, by-numbers}
use Rattle.decls.specs.Decls.{decl_act, keep_names, act_of, acts_go, prune_decls_acts, prune_decls}
use Rattle.decls.specs.Inner.Decls.{stays}
use Rattle.decls.specs.Inner.Print.{one, kept}
use Rattle.decls.proofs.Writes.{names-kept}

-- ---- the law of a cut: above a header the two parts are decided apart

module _ (h : List ℕ) (t : List (List ℕ)) (e : is_header h ≡ true) where
  -- any run for the header: it looks at none
  acts-upper : (u run run' : List (List ℕ)) → acts_go (u ++ h ∷ t) run ≡ acts_go u run ++ acts_go (h ∷ t) run'
  unfolding acts_go
  acts-upper [] run run' = ap (λ (r : List (List ℕ)). act_of r h ∷ acts_go t r) (at-header h t e run run')
  acts-upper (l ∷ u) run run' =
      ap (λ (r : List (List ℕ)). act_of r l ∷ acts_go (u ++ h ∷ t) r) (at-upper h t e l u run)
      ∙ ap (λ (r : List Act). act_of (region_at l u run) l ∷ r) (acts-upper u (region_at l u run) run')

  pub acts-cut : (u : List (List ℕ)) → prune_decls_acts (u ++ h ∷ t) ≡ prune_decls_acts u ++ prune_decls_acts (h ∷ t)
  unfolding prune_decls_acts region acts_go
  acts-cut [] = refl
  acts-cut (l ∷ u) =
      ap (λ (r : List (List ℕ)). acts_go (l ∷ u ++ h ∷ t) (l ∷ r)) (until-upper h t e u)
      ∙ acts-upper (l ∷ u) (l ∷ until_header u) (h ∷ until_header t)

acts-go : (ls run : List (List ℕ)) → length (acts_go ls run) ≡ length ls
unfolding acts_go
acts-go [] run = refl
acts-go (l ∷ ls) run = ap suc (acts-go ls (region_at l ls run))

-- an act for each line
pub acts-length : (ls : List (List ℕ)) → length (prune_decls_acts ls) ≡ length ls
unfolding prune_decls_acts
acts-length ls = acts-go ls (region ls)

pub cut-law : (upper tail : List (List ℕ)) → headed tail ≡ true → prune_decls (upper ++ tail) ≡ prune_decls upper ++ prune_decls tail
unfolding headed prune_decls
cut-law upper [] e = cc
cut-law upper (h ∷ t) e =
    ap (λ (r : List Act). apply r (upper ++ h ∷ t)) (acts-cut h t e upper)
    ∙ apply-append (prune_decls_acts upper) upper (prune_decls_acts (h ∷ t)) (h ∷ t) (acts-length upper)

-- there are no more lines than before
pub prune-lines : (ls : List (List ℕ)) → length (prune_decls ls) ≤ length ls
unfolding prune_decls
prune-lines ls = apply-length (prune_decls_acts ls) ls

-- ---- regions by number

-- the act of each line, by the lines that it is held against
unfoldable pub acts_on : List (List (List ℕ)) → List (List ℕ) → List Act
acts_on [] ls = []
acts_on (r ∷ rs) [] = []
acts_on (r ∷ rs) (l ∷ ls) = act_of r l ∷ acts_on rs ls

runs-acts : (ls run : List (List ℕ)) → acts_on (runs_go ls run) ls ≡ acts_go ls run
unfolding acts_on acts_go runs_go
runs-acts [] run = refl
runs-acts (l ∷ ls) run = ap (λ (r : List Act). act_of (region_at l ls run) l ∷ r) (runs-acts ls (region_at l ls run))

-- as in the Rust: each line is held against the lines that have its region's number
pub acts-by-numbers : (ls : List (List ℕ)) → acts_on (runs_by (regions ls) (regions ls) ls) ls ≡ prune_decls_acts ls
unfolding prune_decls_acts runs
acts-by-numbers ls = ap (λ (rs : List (List (List ℕ))). acts_on rs ls) (by-numbers ls) ∙ runs-acts ls (region ls)

-- ---- nothing is lost unsaid

never : {A : Type 0} {x : List ℕ} → become x ≡ gone → A
never h = let z : ◌≡◌ {A = ℕ} 0 1 = cc in absurd (omega arith)

-- no piece stays
abbrev pub none_stays : List (List ℕ) → List (List ℕ) → Bool
none_stays run ps = all (λ (p : List ℕ). not (stays run (trim_of p))) ps

kept-none : (run ps : List (List ℕ)) → kept (stays run) 1 ps ≡ [] → none_stays run ps ≡ true
unfolding kept
kept-none run [] h = refl
kept-none run (p ∷ ps) h = go (stays run (trim_of p)) h (kept-none run ps)
  where
    go : (b : Bool) → one b 1 (trim_of p) ++ kept (stays run) 1 ps ≡ [] → (kept (stays run) 1 ps ≡ [] → none_stays run ps ≡ true) → not b && none_stays run ps ≡ true
    go true g f = let z : ◌≡◌ {A = ℕ} 0 1 = cc in absurd (omega arith)
    go false g f = f g

decl-gone : (indent : List ℕ) (xs : List (List ℕ)) → decl_act indent xs ≡ gone → xs ≡ []
unfolding decl_act
decl-gone indent [] h = refl
decl-gone indent (x ∷ xs) h = never h

-- a line that goes is a declaration, and its region uses none of its registers
pub gone-only : (run : List (List ℕ)) (l : List ℕ) → act_of run l ≡ gone → (is_decl (trim_of l) ≡ true) × (none_stays run (parts_of 44 (body_of (trim_of l))) ≡ true)
unfolding act_of
gone-only run l h = go (is_decl (trim_of l)) h
  where
    go : (b : Bool) → cond b (decl_act (take (from_of l) l) (keep_names run (parts_of 44 (body_of (trim_of l))))) keep ≡ gone → (b ≡ true) × (none_stays run (parts_of 44 (body_of (trim_of l))) ≡ true)
    go true g = (
      refl,
      kept-none run (parts_of 44 (body_of (trim_of l)))
          (sym (names-kept run (parts_of 44 (body_of (trim_of l)))) ∙ decl-gone (take (from_of l) l) (keep_names run (parts_of 44 (body_of (trim_of l)))) g),
    )
    go false g = let z : ◌≡◌ {A = ℕ} 0 1 = cc in absurd (omega arith)

-- and all line that is no declaration stays
pub keep-other : (run : List (List ℕ)) (l : List ℕ) → is_decl (trim_of l) ≡ false → act_of run l ≡ keep
unfolding act_of
keep-other run l e = rw e
