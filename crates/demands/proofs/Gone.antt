-- Request 1: a line with fate 3 went for a reason. In one of the steps it, or the line that held its value by then, goes for one of the reasons of that step.
-- Assumes nothing.
use Prim.Native.Nat.{ℕ, zero, suc, ◌<◌}
use mathlib.Core.Path.{◌≡◌, refl, sym, ap, ◌∙◌, subst}
use mathlib.Core.Bool.{Bool, true, false, cond, ◌||◌}
use mathlib.Core.List.{List, [], ◌∷◌}
use native.Mathlib.Omega.{arith}
use borrow.Author.Tests.{eqb-true}
use lib.Dec.{eqb}
use lib.ListN.{length, get_or, drop}
use Rattle.lines.specs.Lf.{all, parts_of, same}
use Rattle.lines.specs.Acts.{Act, keep, become, into, gone, apply}
use Rattle.lines.proofs.Tests.{no, and_right}
use Rattle.text.specs.Trim.{trim_of}
use Rattle.parse.specs.Parse.{body_of, is_decl}
use Rattle.origins.specs.declared.Went.TheVariants.{Equal, Changed, Away}
use Rattle.origins.specs.Fates.{Fate, at, held, lost, taken, fate_at, fates_go, fates_of, onward, follow, staying, went_of, wents_of}
use Rattle.origins.specs.Thin.{stays}
use Rattle.origins.proofs.FateLaws.{fates-length, follow-at, follow-assoc, under, Under, under_at}
use Rattle.origins.proofs.Notes.{plainly}
use Rattle.place.specs.Region.{region, region_at}
use Rattle.reading.specs.Reading.{Reading, reading_of}
use Rattle.reading.proofs.Lined.{Lined, mode-lined}
use Rattle.globals.specs.Globals.{is_globals, globals_acts}
use Rattle.globals.proofs.Laws as globals
use Rattle.temps.specs.Temps.{temp_acts, prune_dead_temps_acts}
use Rattle.temps.specs.Inner.Scratch.{temp_goes}
use Rattle.temps.proofs.Keeps.{temp-act, Dead, goes-dead}
use Rattle.temps.proofs.PassLaws.{temps-length}
use Rattle.once.specs.Once.{Spot, spots, once_acts}
use Rattle.once.proofs.Reasons.{Reason, Said, ended, stayed, went, moved, once-said}
use Rattle.phis.specs.Phis.{any_dead, phi_act, phi_acts, keeps, round_acts, round}
use Rattle.phis.specs.Moves.{prune_dead_phis_acts}
use Rattle.phis.proofs.Keeps as phis
use Rattle.phis.proofs.Moves.{round-length, phis-fates}
use Rattle.decls.specs.Decls.{act_of, acts_go, prune_decls_acts}
use Rattle.decls.proofs.Passes as decls
use Rattle.decls.proofs.Moves as decl-moves
use Rattle.calls.specs.LeavesOf.{leaves_of}
use Rattle.calls.specs.Calls.{rebuild_calls_acts}
use Rattle.calls.proofs.Instance.{calls-length}
use Rattle.calls.proofs.Moves.{found, calls_found}
use Rattle.bind.specs.Bind.{BlockLine, block_lines, until_head, pieces_of, mark_all, marked, bind_act, above_in, bind_go, bind_declarators_acts}
use Rattle.bind.proofs.Cut.{bind-length}
use Rattle.bind.proofs.Moves as bind-moves
use Rattle.bind.proofs.Passes as bind
use Rattle.steps.specs.Step.{step_of, step_fates}
use Rattle.steps.proofs.Goings.{goes-acts, step-goes}
use Rattle.steps.proofs.Traces.{once-many}
use Rattle.passes.specs.Inner.Passes.{steps_of, steps_fates}

-- line i stands as line j afterwards, or line j holds its value
pub data Leads (fs : List Fate) (i j : ℕ) : Type 0 where
  stands : fate_at fs i ≡ at j → Leads fs i j
  inside : fate_at fs i ≡ held j → Leads fs i j

-- ---- the reasons, pass by pass

-- optimize_once: a line goes as a scratch load or as a dead store
pub data Drops (R : Reading) : List Spot → ℕ → Type 0 where
  here : {d : Spot} {ss : List Spot} → Reason R d ss → Drops R (d ∷ ss) 0
  down : {d : Spot} {ss : List Spot} {i : ℕ} → Drops R ss i → Drops R (d ∷ ss) (suc i)

-- prune_decls: it is a declaration of which no register is read or stored in its region; `run` is the region of the line above
pub data Unused : List (List ℕ) → List (List ℕ) → ℕ → Type 0 where
  here : {l : List ℕ} {ls run : List (List ℕ)} → is_decl (trim_of l) ≡ true → decls.none_stays (region_at l ls run) (parts_of 44 (body_of (trim_of l))) ≡ true → Unused (l ∷ ls) run 0
  down : {l : List ℕ} {ls run : List (List ℕ)} {i : ℕ} → Unused ls (region_at l ls run) i → Unused (l ∷ ls) run (suc i)

-- prune_dead_phis: in one of n rounds it stores a dead phi, with a value that has no effect, or declares dead phis alone
pub data DeadPhi (R : Reading) : ℕ → List (List ℕ) → ℕ → Type 0 where
  now : {n : ℕ} {ls : List (List ℕ)} {i : ℕ} → phis.store_goes R ls (get_or ls i []) || phis.decl_goes ls (get_or ls i []) ≡ true → DeadPhi R (suc n) ls i
  later : {n : ℕ} {ls : List (List ℕ)} {i j : ℕ} → Leads (fates_of (round_acts R ls)) i j → DeadPhi R n (round R ls) j → DeadPhi R (suc n) ls i

-- bind_declarators: it is a declaration all of whose registers are declared at their stores; `above` are the lines of its region above the first
pub data Bound : List BlockLine → List (List ℕ) → ℕ → Type 0 where
  here : {d : BlockLine} {sp : List BlockLine} {above : List (List ℕ)} → is_decl (trim_of d.line) ≡ true →
      bind.all_bound (parts_of 44 (body_of (trim_of d.line))) (above_in d above) d (until_head sp) ≡ true → Bound (d ∷ sp) above 0
  down : {d : BlockLine} {sp : List BlockLine} {above : List (List ℕ)} {i : ℕ} → Bound sp (d.line ∷ above_in d above) i → Bound (d ∷ sp) above (suc i)

-- the reason for which line i goes in step k; optimize_once ends with prune_decls, and rebuild_calls has none
pub data Cause (R : Reading) : ℕ → List (List ℕ) → ℕ → Type 0 where
  declares-globals : {ls : List (List ℕ)} {i : ℕ} → is_globals (get_or ls i []) ≡ true → Cause R 0 ls i
  dead-temp : {ls : List (List ℕ)} {i : ℕ} → Dead R ls (get_or ls i []) → Cause R 1 ls i
  dropped : {ls : List (List ℕ)} {i : ℕ} → Drops R (spots ls) i → Cause R 2 ls i
  then-unused : {ls : List (List ℕ)} {i j : ℕ} → Leads (fates_of (once_acts R ls)) i j → Unused (apply (once_acts R ls) ls) (region (apply (once_acts R ls) ls)) j → Cause R 2 ls i
  dead-phi : {ls : List (List ℕ)} {i : ℕ} → DeadPhi R 3 ls i → Cause R 3 ls i
  unused : {ls : List (List ℕ)} {i : ℕ} → Unused ls (region ls) i → Cause R 5 ls i
  all-bound : {ls : List (List ℕ)} {i : ℕ} → Bound (block_lines R ls) [] i → Cause R 6 ls i

-- why line i is gone after n steps from step k on: it goes in the first of them, or the line that it is by then, or that holds its value, goes later
pub data Why (R : Reading) : ℕ → ℕ → List (List ℕ) → ℕ → Type 0 where
  now : {k n : ℕ} {ls : List (List ℕ)} {i : ℕ} → Cause R k ls i → Why R k (suc n) ls i
  later : {k n : ℕ} {ls : List (List ℕ)} {i j : ℕ} → Leads (step_fates R k ls) i j → Why R (suc k) n (step_of R k ls) j → Why R k (suc n) ls i

-- ---- a line that is lost in one list of acts

at-lost : {A : Type 0} {n : ℕ} → at n ≡ lost → A
at-lost h = let z : ◌≡◌ {A = ℕ} 0 1 = cc in absurd (omega arith)

held-lost : {A : Type 0} {n : ℕ} → held n ≡ lost → A
held-lost h = let z : ◌≡◌ {A = ℕ} 0 1 = cc in absurd (omega arith)

unfoldable act_at : List Act → ℕ → Act
act_at [] i = keep
act_at (a ∷ more) zero = a
act_at (a ∷ more) (suc i) = act_at more i

-- its act lets it go
lost-goes : (acts : List Act) (o i : ℕ) → i < length acts → fate_at (fates_go acts o) i ≡ lost → stays (act_at acts i) ≡ false
unfolding fates_go fate_at act_at stays
lost-goes [] o i h e = absurd (omega arith)
lost-goes (keep ∷ more) o zero h e = at-lost e
lost-goes (keep ∷ more) o (suc i) h e = lost-goes more (suc o) i (omega arith) e
lost-goes (become x ∷ more) o zero h e = at-lost e
lost-goes (become x ∷ more) o (suc i) h e = lost-goes more (suc o) i (omega arith) e
lost-goes (into n ∷ more) o zero h e = refl
lost-goes (into n ∷ more) o (suc i) h e = lost-goes more o i (omega arith) e
lost-goes (gone ∷ more) o zero h e = refl
lost-goes (gone ∷ more) o (suc i) h e = lost-goes more o i (omega arith) e

-- an act that moves nothing into another line, and lets a line go
plain-gone : (a : Act) → plainly a ≡ true → stays a ≡ false → a ≡ gone
unfolding stays
plain-gone keep p e = no (sym e)
plain-gone (become x) p e = no (sym e)
plain-gone (into n) p e = no p
plain-gone gone p e = refl

-- ---- each pass

globals-why : (ls : List (List ℕ)) (i : ℕ) → stays (act_at (globals_acts ls) i) ≡ false → is_globals (get_or ls i []) ≡ true
unfolding globals_acts act_at stays
globals-why [] i e = no (sym e)
globals-why (l ∷ ls) zero e = go (is_globals l) e
  where
    go : (b : Bool) → stays (cond b gone keep) ≡ false → b ≡ true
    go true q = refl
    go false q = no (sym q)
globals-why (l ∷ ls) (suc i) e = globals-why ls i e

temps-why : (R : Reading) (ls ms : List (List ℕ)) (i : ℕ) → stays (act_at (temp_acts R ls ms) i) ≡ false → Dead R ls (get_or ms i [])
unfolding temp_acts act_at stays
temps-why R ls [] i e = no (sym e)
temps-why R ls (m ∷ ms) zero e = go (temp_goes R ls m) refl (ap stays (sym (temp-act R ls m)) ∙ e)
  where
    go : (b : Bool) → temp_goes R ls m ≡ b → stays (cond b gone keep) ≡ false → Dead R ls m
    go true p q = goes-dead R ls m p
    go false p q = no (sym q)
temps-why R ls (m ∷ ms) (suc i) e = temps-why R ls ms i e

once-why : (R : Reading) {ss : List Spot} {acts : List Act} → Said R ss acts → (o i : ℕ) → i < length acts → fate_at (fates_go acts o) i ≡ lost → Drops R ss i
unfolding fates_go fate_at taken
once-why R ended o i h e = absurd (omega arith)
once-why R (stayed s) o zero h e = at-lost e
once-why R (stayed s) o (suc i) h e = down (once-why R s (suc o) i (omega arith) e)
once-why R (went r s) o zero h e = here r
once-why R (went r s) o (suc i) h e = down (once-why R s o i (omega arith) e)
once-why R (moved t s) o zero h e = held-lost e
once-why R (moved t s) o (suc zero) h e = at-lost e
once-why R (moved t s) o (suc (suc i)) h e = down (down (once-why R s (suc o) i (omega arith) e))

decls-why : (ls run : List (List ℕ)) (i : ℕ) → stays (act_at (acts_go ls run) i) ≡ false → Unused ls run i
unfolding acts_go act_at stays
decls-why [] run i e = no (sym e)
decls-why (l ∷ ls) run zero e =
    let w = decls.gone-only (region_at l ls run) l (plain-gone (act_of (region_at l ls run) l) (decl-moves.act-plain (region_at l ls run) l) e) in
    here w.0 w.1
decls-why (l ∷ ls) run (suc i) e = down (decls-why ls (region_at l ls run) i e)

bind-why : (sp : List BlockLine) (above : List (List ℕ)) (ms : List Bool) (i : ℕ) → stays (act_at (bind_go sp above ms) i) ≡ false → Bound sp above i
unfolding bind_go act_at stays
bind-why [] above ms i e = no (sym e)
bind-why (d ∷ sp) above ms zero e =
    let w = bind.gone-only (above_in d above) d (until_head sp) (marked ms) (plain-gone (bind_act d (above_in d above) (until_head sp) (marked ms)) (bind-moves.act-plain d (above_in d above) (until_head sp) (marked ms)) e) in
    here w.0 w.1
bind-why (d ∷ sp) above ms (suc i) e = down (bind-why sp (d.line ∷ above_in d above) (mark_all (pieces_of d.line) (above_in d above) d (until_head sp) (drop 1 ms)) i e)

acts-why : (R : Reading) (ls ms : List (List ℕ)) (i : ℕ) → stays (act_at (phi_acts R ls ms) i) ≡ false → phis.store_goes R ls (get_or ms i []) || phis.decl_goes ls (get_or ms i []) ≡ true
unfolding phi_acts act_at stays
acts-why R ls [] i e = no (sym e)
acts-why R ls (m ∷ ms) zero e = phis.gone-only R ls m (plain-gone (phi_act R ls m) (phis.none-into R ls m) e)
acts-why R ls (m ∷ ms) (suc i) e = acts-why R ls ms i e

keeps-stay : {A : Type 0} (ls : List (List ℕ)) (i : ℕ) → stays (act_at (keeps ls) i) ≡ false → A
unfolding keeps act_at stays
keeps-stay [] i e = no (sym e)
keeps-stay (l ∷ ls) zero e = no (sym e)
keeps-stay (l ∷ ls) (suc i) e = keeps-stay ls i e

round-why : (R : Reading) (ls : List (List ℕ)) (i : ℕ) → i < length ls → fate_at (fates_of (round_acts R ls)) i ≡ lost →
    phis.store_goes R ls (get_or ls i []) || phis.decl_goes ls (get_or ls i []) ≡ true
unfolding fates_of round_acts
round-why R ls i h e = go (any_dead ls ls) (lost-goes (round_acts R ls) 0 i (omega (arith, round-length R ls)) e)
  where
    go : (b : Bool) → stays (act_at (cond b (phi_acts R ls ls) (keeps ls)) i) ≡ false → phis.store_goes R ls (get_or ls i []) || phis.decl_goes ls (get_or ls i []) ≡ true
    go true q = acts-why R ls ls i q
    go false q = keeps-stay ls i q

found-not : {A : Type 0} (fs : List Fate) (i : ℕ) → all found fs ≡ true → i < length fs → fate_at fs i ≡ lost → A
unfolding fate_at found
found-not [] i p h e = absurd (omega arith)
found-not (at n ∷ fs) zero p h e = at-lost e
found-not (held n ∷ fs) zero p h e = held-lost e
found-not (lost ∷ fs) zero p h e = no p
found-not (f ∷ fs) (suc i) p h e = found-not fs i (and_right (found f) (all found fs) p) (omega arith) e

stay-not : {A : Type 0} (n o i : ℕ) → i < n → fate_at (staying n o) i ≡ lost → A
unfolding staying fate_at
stay-not zero o i h e = absurd (omega arith)
stay-not (suc n) o zero h e = at-lost e
stay-not (suc n) o (suc i) h e = stay-not n (suc o) i (omega arith) e

-- ---- passes one after the other

-- a line that is lost in two: in the first, or where that leads
data Falls (fs gs : List Fate) (i : ℕ) : Type 0 where
  first : fate_at fs i ≡ lost → Falls fs gs i
  second : (j : ℕ) → Leads fs i j → fate_at gs j ≡ lost → Falls fs gs i

taken-lost : (f : Fate) → taken f ≡ lost → f ≡ lost
unfolding taken
taken-lost (at n) e = held-lost e
taken-lost (held n) e = held-lost e
taken-lost lost e = refl

falls : (fs gs : List Fate) (i : ℕ) → fate_at (follow fs gs) i ≡ lost → Falls fs gs i
unfolding onward
falls fs gs i e = go (fate_at fs i) refl (sym (follow-at fs gs i) ∙ e)
  where
    go : (f : Fate) → fate_at fs i ≡ f → onward gs f ≡ lost → Falls fs gs i
    go (at j) q w = second j (stands q) w
    go (held j) q w = second j (inside q) (taken-lost (fate_at gs j) w)
    go lost q w = first q

-- where it leads is a line that comes out
leads-under : (m : ℕ) (fs : List Fate) (i j : ℕ) → Under m fs → Leads fs i j → j < m
unfolding under
leads-under m fs i j h (stands q) = subst (under m) q (under_at m i fs h)
leads-under m fs i j h (inside q) = subst (under m) q (under_at m i fs h)

round_under : (R : Reading) (ls : List (List ℕ)) {i j : ℕ} → Leads (fates_of (round_acts R ls)) i j → j < length (round R ls)
unfolding round
round_under R ls {i} {j} w = leads-under (length (apply (round_acts R ls) ls)) (fates_of (round_acts R ls)) i j (goes-acts (round_acts R ls) ls (round-length R ls)).below w

phis-why : (R : Reading) (ls : List (List ℕ)) (i : ℕ) → i < length ls → fate_at (fates_of (prune_dead_phis_acts R ls)) i ≡ lost → DeadPhi R 3 ls i
phis-why R ls i h e = one (falls F₁ (follow F₂ F₃) i (ap (λ (fs : List Fate). fate_at fs i) (sym (phis-fates R ls ∙ follow-assoc F₁ F₂ F₃)) ∙ e))
  where
    F₁ : List Fate
    F₁ = fates_of (round_acts R ls)

    F₂ : List Fate
    F₂ = fates_of (round_acts R (round R ls))

    F₃ : List Fate
    F₃ = fates_of (round_acts R (round R (round R ls)))

    three : (k : ℕ) → k < length (round R (round R ls)) → fate_at F₃ k ≡ lost → DeadPhi R 1 (round R (round R ls)) k
    three k p q = now (round-why R (round R (round R ls)) k p q)

    two : (j : ℕ) → j < length (round R ls) → Falls F₂ F₃ j → DeadPhi R 2 (round R ls) j
    two j p (first q) = now (round-why R (round R ls) j p q)
    two j p (second k w q) = later w (three k (round_under R (round R ls) w) q)

    one : Falls F₁ (follow F₂ F₃) i → DeadPhi R 3 ls i
    one (first q) = now (round-why R ls i h q)
    one (second j w q) = let p = round_under R ls w in later w (two j p (falls F₂ F₃ j q))

once-cause : (R : Reading) (ls : List (List ℕ)) (i : ℕ) → i < length ls → fate_at (follow (fates_of (once_acts R ls)) (fates_of (prune_decls_acts (apply (once_acts R ls) ls)))) i ≡ lost → Cause R 2 ls i
unfolding fates_of prune_decls_acts
once-cause R ls i h e = go (falls (fates_of (once_acts R ls)) (fates_of (prune_decls_acts ms)) i e)
  where
    ms : List (List ℕ)
    ms = apply (once_acts R ls) ls

    go : Falls (fates_of (once_acts R ls)) (fates_of (prune_decls_acts ms)) i → Cause R 2 ls i
    go (first q) = dropped (once-why R (once-said R ls) 0 i (omega (arith, once-many R ls)) q)
    go (second j w q) =
        let p = leads-under (length ms) (fates_of (once_acts R ls)) i j (goes-acts (once_acts R ls) ls (once-many R ls)).below w in
        then-unused w (decls-why ms (region ms) j (lost-goes (prune_decls_acts ms) 0 j (omega (arith, p, decls.acts-length ms)) q))

-- one test more of a step's number
choose : {A : Type 0} (i : ℕ) (b : Bool) (x y : List Fate) → (b ≡ true → fate_at x i ≡ lost → A) → (fate_at y i ≡ lost → A) → fate_at (cond b x y) i ≡ lost → A
choose i true x y f g e = f refl e
choose i false x y f g e = g e

cause-at : (R : Reading) (k n : ℕ) (ls : List (List ℕ)) (i : ℕ) → eqb k n ≡ true → Cause R n ls i → Cause R k ls i
cause-at R k n ls i e c = subst (λ (m : ℕ). Cause R m ls i) (sym (eqb-true k n e)) c

module _ {R : Reading} {shut : List (List ℕ) → Bool} (c : Lined R shut) where
  -- a line that is lost in a step goes for a reason of that step
  pub step-why : (k : ℕ) (ls : List (List ℕ)) (i : ℕ) → i < length ls → fate_at (step_fates R k ls) i ≡ lost → Cause R k ls i
  unfolding step_fates fates_of prune_dead_temps_acts prune_decls_acts bind_declarators_acts
  step-why k ls i h =
      let calls : List Act = rebuild_calls_acts (leaves_of R) ls in
      choose i (eqb k 0) _ _ (λ q e. cause-at R k 0 ls i q (declares-globals (globals-why ls i (lost-goes (globals_acts ls) 0 i (omega (arith, globals.acts-length ls)) e))))
      (choose i (eqb k 1) _ _ (λ q e. cause-at R k 1 ls i q (dead-temp (temps-why R ls ls i (lost-goes (prune_dead_temps_acts R ls) 0 i (omega (arith, temps-length R ls)) e))))
      (choose i (eqb k 2) _ _ (λ q e. cause-at R k 2 ls i q (once-cause R ls i h e))
      (choose i (eqb k 3) _ _ (λ q e. cause-at R k 3 ls i q (dead-phi (phis-why R ls i h e)))
      (choose i (eqb k 4) _ _ (λ q e. found-not (fates_of calls) i (calls_found (leaves_of R) ls) (omega (arith, fates-length calls 0, calls-length c ls)) e)
      (choose i (eqb k 5) _ _ (λ q e. cause-at R k 5 ls i q (unused (decls-why ls (region ls) i (lost-goes (prune_decls_acts ls) 0 i (omega (arith, decls.acts-length ls)) e))))
      (choose i (eqb k 6) _ _ (λ q e. cause-at R k 6 ls i q (all-bound (bind-why (block_lines R ls) [] [] i (lost-goes (bind_declarators_acts R ls) 0 i (omega (arith, bind-length c ls)) e))))
      (λ e. stay-not (length ls) 0 i h e)))))))

  -- and one that is lost in steps one after the other, in one of them
  pub steps-why : (k n : ℕ) (ls : List (List ℕ)) (i : ℕ) → i < length ls → fate_at (steps_fates R k n ls) i ≡ lost → Why R k n ls i
  unfolding steps_fates
  steps-why k zero ls i h e = stay-not (length ls) 0 i h e
  steps-why k (suc n) ls i h e = go (falls (step_fates R k ls) (steps_fates R (suc k) n (step_of R k ls)) i e) (steps-why (suc k) n (step_of R k ls))
    where
      go : Falls (step_fates R k ls) (steps_fates R (suc k) n (step_of R k ls)) i →
          ((j : ℕ) → j < length (step_of R k ls) → fate_at (steps_fates R (suc k) n (step_of R k ls)) j ≡ lost → Why R (suc k) n (step_of R k ls) j) → Why R k (suc n) ls i
      go (first q) more = now (step-why k ls i h q)
      go (second j w q) more = later w (more j (leads-under (length (step_of R k ls)) (step_fates R k ls) i j (step-goes c ls k).below w) q)

-- ---- by what is said of a line

kept-away : {A : Type 0} (b : Bool) (n : ℕ) → cond b (Equal n) (Changed n) ≡ Away → A
kept-away true n h = let z : ◌≡◌ {A = ℕ} 0 1 = cc in absurd (omega arith)
kept-away false n h = let z : ◌≡◌ {A = ℕ} 0 1 = cc in absurd (omega arith)

away-lost : (out : List (List ℕ)) (l : List ℕ) (f : Fate) → went_of out l f ≡ Away → f ≡ lost
unfolding went_of
away-lost out l (at n) e = kept-away (same l (get_or out n [])) n e
away-lost out l (held n) e = let z : ◌≡◌ {A = ℕ} 0 1 = cc in absurd (omega arith)
away-lost out l lost e = refl

-- line i is among some lines, and is lost
record Gone (ls : List (List ℕ)) (fs : List Fate) (i : ℕ) : Type 0 where
  among : i < length ls
  fate : fate_at fs i ≡ lost

gone_at : (out ls : List (List ℕ)) (fs : List Fate) (i : ℕ) → get_or (wents_of out ls fs) i (Equal 0) ≡ Away → Gone ls fs i
unfolding wents_of fate_at
gone_at out [] fs i e = let z : ◌≡◌ {A = ℕ} 0 1 = cc in absurd (omega arith)
gone_at out (l ∷ ls) [] i e = let z : ◌≡◌ {A = ℕ} 0 1 = cc in absurd (omega arith)
gone_at out (l ∷ ls) (f ∷ fs) zero e = record { among = omega arith; fate = away-lost out l f e }
gone_at out (l ∷ ls) (f ∷ fs) (suc i) e = let g = gone_at out ls fs i e in record { among = omega (arith, g.among); fate = g.fate }

-- where the record of line i says that it is gone: of any steps, and so of the whole, in every mode
pub records-why : (mode k n : ℕ) (ls : List (List ℕ)) (i : ℕ) →
    get_or (wents_of (steps_of (reading_of mode) k n ls) ls (steps_fates (reading_of mode) k n ls)) i (Equal 0) ≡ Away → Why (reading_of mode) k n ls i
records-why mode k n ls i e =
    let g = gone_at (steps_of (reading_of mode) k n ls) ls (steps_fates (reading_of mode) k n ls) i e in
    steps-why (mode-lined mode) k n ls i g.among g.fate

-- and of each pass
pub pass-why : (mode k : ℕ) (ls : List (List ℕ)) (i : ℕ) →
    get_or (wents_of (step_of (reading_of mode) k ls) ls (step_fates (reading_of mode) k ls)) i (Equal 0) ≡ Away → Cause (reading_of mode) k ls i
pass-why mode k ls i e =
    let g = gone_at (step_of (reading_of mode) k ls) ls (step_fates (reading_of mode) k ls) i e in
    step-why (mode-lined mode) k ls i g.among g.fate
