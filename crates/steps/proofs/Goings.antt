-- Where the lines of a step go: there is a fate for each, none names a line that does not come out, and each line that comes out is one that stands, in order.
-- Assumes nothing.
use Prim.Native.Nat.{ℕ, zero, suc, ◌+◌, ◌≤◌}
use mathlib.Core.Path.{◌≡◌, refl, sym, ap, ◌∙◌}
use mathlib.Core.Bool.{Bool, true, false, cond}
use mathlib.Core.List.{List, [], ◌∷◌}
use native.Mathlib.Omega.{arith}
use lib.Dec.{eqb}
use lib.ListN.{length}
use Rattle.lines.specs.Acts.{Act, apply}
use Rattle.origins.specs.Fates.{Fate, at, held, lost, taken, fate_at, fates_of, onward, follow, staying}
use Rattle.origins.specs.Thin.{then_acts}
use Rattle.origins.proofs.FateLaws.{fates-length, outs-apply, follow-length, under, Under, nil, cons, stands, count_up, stands-all, under_at, fates-under, stands-follow}
use Rattle.origins.proofs.Thins.{then-length, then-apply}
use Rattle.reading.specs.Reading.{Reading}
use Rattle.reading.proofs.Lined.{Lined}
use Rattle.globals.specs.Globals.{globals_acts, remove_globals}
use Rattle.globals.proofs.Laws as globals-laws
use Rattle.temps.specs.Temps.{prune_dead_temps_acts, prune_dead_temps}
use Rattle.temps.proofs.PassLaws.{temps-length}
use Rattle.once.specs.Once.{once_acts, optimize_once}
use Rattle.phis.specs.Phis.{round_acts, round, prune_dead_phis}
use Rattle.phis.specs.Moves.{prune_dead_phis_acts}
use Rattle.phis.proofs.Moves.{round-length}
use Rattle.calls.specs.LeavesOf.{leaves_of}
use Rattle.calls.specs.Calls.{rebuild_calls_acts, rebuild_calls}
use Rattle.calls.proofs.Instance.{calls-length}
use Rattle.decls.specs.Decls.{prune_decls_acts, prune_decls}
use Rattle.decls.proofs.Passes.{acts-length}
use Rattle.bind.specs.Bind.{bind_declarators_acts, bind_declarators}
use Rattle.bind.proofs.Cut.{bind-length}
use Rattle.steps.specs.Step.{step_of, step_fates}
use Rattle.steps.proofs.Traces.{once-many}

-- the fates of n lines, of which m come out
pub record Goes (n m : ℕ) (fs : List Fate) : Type 0 where
  pub many : length fs ≡ n
  pub below : Under m fs
  pub each : stands fs ≡ count_up m 0

under_more : {m k : ℕ} → m ≤ k → (fs : List Fate) → Under m fs → Under k fs
unfolding under
under_more h [] nil = nil
under_more h (at n ∷ fs) (cons p r) = cons {f = at n} (omega arith) (under_more h fs r)
under_more h (held n ∷ fs) (cons p r) = cons {f = held n} (omega arith) (under_more h fs r)
under_more h (lost ∷ fs) (cons p r) = cons {f = lost} tt (under_more h fs r)

pub goes-under : {n m k : ℕ} {fs : List Fate} → Goes n m fs → m ≤ k → Under k fs
goes-under {fs = fs} p h = under_more h fs p.below

-- ---- by acts

pub goes-acts : (acts : List Act) (ls : List (List ℕ)) → length acts ≡ length ls → Goes (length ls) (length (apply acts ls)) (fates_of acts)
unfolding fates_of
goes-acts acts ls q =
    let e = outs-apply acts ls q in
    record {
      many = fates-length acts 0 ∙ q;
      below = fates-under acts 0 (length (apply acts ls)) (omega (arith, e));
      each = stands-all acts 0 ∙ ap (λ (k : ℕ). count_up k 0) (sym e);
    }

-- ---- one after the other

under-onward : (k : ℕ) (gs : List Fate) (f : Fate) → Under k gs → under k (onward gs f)
unfolding onward under taken
under-onward k gs (at n) h = under_at k n gs h
under-onward k gs (held n) h = go (fate_at gs n) (under_at k n gs h)
  where
    go : (g : Fate) → under k g → under k (taken g)
    go (at m) p = p
    go (held m) p = p
    go lost p = p
under-onward k gs lost h = tt

under-follow : (k : ℕ) (fs gs : List Fate) → Under k gs → Under k (follow fs gs)
unfolding follow
under-follow k [] gs h = nil
under-follow k (f ∷ fs) gs h = cons (under-onward k gs f h) (under-follow k fs gs h)

pub goes_then : {n m k : ℕ} {fs gs : List Fate} → Goes n m fs → Goes m k gs → Goes n k (follow fs gs)
goes_then {n} {m} {k} {fs} {gs} p q = record {
  many = follow-length fs gs ∙ p.many;
  below = under-follow k fs gs q.below;
  each = stands-follow fs gs (p.each ∙ ap (λ (j : ℕ). count_up j 0) (sym q.many)) ∙ q.each;
}

-- ---- lines that stay

staying-many : (n o : ℕ) → length (staying n o) ≡ n
unfolding staying
staying-many zero o = refl
staying-many (suc n) o = ap suc (staying-many n (suc o))

staying-below : (n o k : ℕ) → o + n ≤ k → Under k (staying n o)
unfolding staying under
staying-below zero o k h = nil
staying-below (suc n) o k h = cons {f = at o} (omega arith) (staying-below n (suc o) k (omega arith))

staying-each : (n o : ℕ) → stands (staying n o) ≡ count_up n o
unfolding staying stands count_up
staying-each zero o = refl
staying-each (suc n) o = ap (λ (ns : List ℕ). o ∷ ns) (staying-each n (suc o))

pub goes-stay : (n : ℕ) → Goes n n (staying n 0)
goes-stay n = record { many = staying-many n 0; below = staying-below n 0 n (omega arith); each = staying-each n 0 }

-- ---- each step

-- the lines that f makes of any lines are those that `fates` leads to
record Leads (f : List (List ℕ) → List (List ℕ)) (fates : List (List ℕ) → List Fate) : Type 0 where
  goes : (ls : List (List ℕ)) → Goes (length ls) (length (f ls)) (fates ls)

-- one or the other
leads-if : {f g : List (List ℕ) → List (List ℕ)} {p q : List (List ℕ) → List Fate} (b : Bool) → Leads f p → Leads g q → Leads (λ ls. cond b (f ls) (g ls)) (λ ls. cond b (p ls) (q ls))
leads-if true h k = h
leads-if false h k = k

-- the acts of the three rounds of pass 3 make the lines that the rounds make
rounds-apply : (R : Reading) (ls : List (List ℕ)) → apply (prune_dead_phis_acts R ls) ls ≡ prune_dead_phis R ls
unfolding prune_dead_phis_acts prune_dead_phis round
rounds-apply R ls =
    let xs : List Act = round_acts R ls in
    let ys : List Act = round_acts R (round R ls) in
    let e : apply (then_acts xs ys) ls ≡ apply ys (apply xs ls) = then-apply xs ys ls (round-length R ls) (round-length R (round R ls)) in
    then-apply (then_acts xs ys) (round_acts R (round R (round R ls))) ls (then-length xs ys ∙ round-length R ls) (round-length R (round R (round R ls)) ∙ ap length (sym e))
    ∙ ap (apply (round_acts R (round R (round R ls)))) e

rounds-length : (R : Reading) (ls : List (List ℕ)) → length (prune_dead_phis_acts R ls) ≡ length ls
unfolding prune_dead_phis_acts
rounds-length R ls =
    then-length (then_acts (round_acts R ls) (round_acts R (round R ls))) (round_acts R (round R (round R ls)))
    ∙ then-length (round_acts R ls) (round_acts R (round R ls)) ∙ round-length R ls

globals-lead : Leads remove_globals (λ ls. fates_of (globals_acts ls))
unfolding remove_globals
globals-lead = record { goes = λ ls. goes-acts (globals_acts ls) ls (globals-laws.acts-length ls) }

decls-lead : Leads prune_decls (λ ls. fates_of (prune_decls_acts ls))
unfolding prune_decls
decls-lead = record { goes = λ ls. goes-acts (prune_decls_acts ls) ls (acts-length ls) }

stay-lead : Leads (λ ls. ls) (λ ls. staying (length ls) 0)
stay-lead = record { goes = λ ls. goes-stay (length ls) }

module _ (R : Reading) where
  temps-lead : Leads (prune_dead_temps R) (λ ls. fates_of (prune_dead_temps_acts R ls))
  unfolding prune_dead_temps
  temps-lead = record { goes = λ ls. goes-acts (prune_dead_temps_acts R ls) ls (temps-length R ls) }

  once-lead : Leads (optimize_once R) (λ ls. follow (fates_of (once_acts R ls)) (fates_of (prune_decls_acts (apply (once_acts R ls) ls))))
  unfolding optimize_once
  once-lead = record { goes = λ ls. goes_then (goes-acts (once_acts R ls) ls (once-many R ls)) (decls-lead.goes (apply (once_acts R ls) ls)) }

  phis-lead : Leads (prune_dead_phis R) (λ ls. fates_of (prune_dead_phis_acts R ls))
  phis-lead = record { goes = λ ls. rw (sym (rounds-apply R ls)) (goes-acts (prune_dead_phis_acts R ls) ls (rounds-length R ls)) }

module _ {R : Reading} {shut : List (List ℕ) → Bool} (c : Lined R shut) where
  calls-lead : Leads (rebuild_calls (leaves_of R)) (λ ls. fates_of (rebuild_calls_acts (leaves_of R) ls))
  unfolding rebuild_calls
  calls-lead = record { goes = λ ls. goes-acts (rebuild_calls_acts (leaves_of R) ls) ls (calls-length c ls) }

  bind-lead : Leads (bind_declarators R) (λ ls. fates_of (bind_declarators_acts R ls))
  unfolding bind_declarators
  bind-lead = record { goes = λ ls. goes-acts (bind_declarators_acts R ls) ls (bind-length c ls) }

  step-leads : (k : ℕ) → Leads (step_of R k) (step_fates R k)
  unfolding step_of step_fates
  step-leads k =
      leads-if (eqb k 0) globals-lead
      (leads-if (eqb k 1) (temps-lead R)
      (leads-if (eqb k 2) (once-lead R)
      (leads-if (eqb k 3) (phis-lead R)
      (leads-if (eqb k 4) calls-lead
      (leads-if (eqb k 5) decls-lead
      (leads-if (eqb k 6) bind-lead
      stay-lead))))))

  pub step-goes : (ls : List (List ℕ)) (k : ℕ) → Goes (length ls) (length (step_of R k ls)) (step_fates R k ls)
  step-goes ls k = (step-leads k).goes ls
