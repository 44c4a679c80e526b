-- The raw moves after a step lead where its lines go, and as many lines stand as come out of it. Assumes nothing.
use Prim.Native.Nat.{ℕ, zero, suc, ◌<◌}
use mathlib.Core.Path.{◌≡◌, refl, sym, ap, ◌∙◌}
use mathlib.Core.Bool.{Bool, true, false, cond}
use mathlib.Core.List.{List, ◌∷◌}
use lib.Dec.{eqb}
use lib.ListN.{length, replicate, length-replicate}
use Rattle.lines.specs.Lf.{all}
use Rattle.lines.specs.Acts.{Act, keep, apply}
use Rattle.origins.specs.Fates.{Fate, at, fates_go, fates_of, follow, staying}
use Rattle.origins.specs.Inner.Codes.{half, moves_of, codes_of, land_go, through, standing}
use Rattle.origins.proofs.CodeLaws.{sound}
use Rattle.trails.specs.Inner.Trails.{thinned}
use Rattle.trails.proofs.TrailLaws.{thinned-length, thinned-stay}
use Rattle.reading.specs.Reading.{Reading}
use Rattle.reading.proofs.Lined.{Lined}
use Rattle.globals.specs.Globals.{globals_acts, remove_globals}
use Rattle.globals.proofs.Laws as globals-laws
use Rattle.temps.specs.Temps.{prune_dead_temps_acts, prune_dead_temps}
use Rattle.temps.proofs.PassLaws.{temps-length}
use Rattle.once.specs.Once.{once_acts, optimize_once}
use Rattle.once.proofs.Moves.{once-sound}
use Rattle.phis.specs.Phis.{prune_dead_phis}
use Rattle.phis.specs.Moves.{prune_dead_phis_acts}
use Rattle.phis.proofs.Moves.{phis-length, phis-plain, phis-apply}
use Rattle.calls.specs.LeavesOf.{leaves_of}
use Rattle.calls.specs.Calls.{rebuild_calls_acts, rebuild_calls}
use Rattle.calls.proofs.Instance.{calls-length}
use Rattle.calls.proofs.Moves.{calls-down}
use Rattle.decls.specs.Decls.{prune_decls_acts, prune_decls}
use Rattle.decls.proofs.Passes.{acts-length}
use Rattle.bind.specs.Bind.{bind_declarators_acts, bind_declarators}
use Rattle.bind.proofs.Cut.{bind-length}
use Rattle.steps.specs.Step.{step_of, step_fates}
use Rattle.steps.specs.Inner.Few.{trailed}
use Rattle.steps.proofs.Traces.{plain_down, globals-down, temps-down, decls-down, bind-down, keeps-down, stays-moves, once-many, acts-land, acts-stand, both-land}

-- raw moves t' that were t before lines with these fates, of which m come out
pub record Led (fs : List Fate) (m : ℕ) (t t' : List ℕ) : Type 0 where
  pub leads : land_go t' 0 ≡ through (land_go t 0) (codes_of fs)
  pub left : standing t' ≡ m
  pub long : length t' ≡ length t

led-acts : (xs : List Act) (ls : List (List ℕ)) (t : List ℕ) → all sound xs ≡ true → length xs ≡ length ls → standing t ≡ length ls → length t < half → Led (fates_of xs) (length (apply xs ls)) t (thinned t (moves_of xs))
led-acts xs ls t s q c h = record { leads = acts-land xs t s (c ∙ sym q) h; left = acts-stand xs ls t s q c; long = thinned-length t (moves_of xs) }

-- `trail` takes raw moves on as f takes lines, whose fates are `fates`
record Trails (f : List (List ℕ) → List (List ℕ)) (fates : List (List ℕ) → List Fate) (trail : List (List ℕ) → List ℕ → List ℕ) : Type 0 where
  led : (ls : List (List ℕ)) (t : List ℕ) → standing t ≡ length ls → length t < half → Led (fates ls) (length (f ls)) t (trail ls t)

-- one or the other
trails-if : {f g : List (List ℕ) → List (List ℕ)} {p q : List (List ℕ) → List Fate} {u v : List (List ℕ) → List ℕ → List ℕ} (b : Bool) → Trails f p u → Trails g q v →
    Trails (λ ls. cond b (f ls) (g ls)) (λ ls. cond b (p ls) (q ls)) (λ ls t. cond b (u ls t) (v ls t))
trails-if true h k = h
trails-if false h k = k

globals-trails : Trails remove_globals (λ ls. fates_of (globals_acts ls)) (λ ls t. thinned t (moves_of (globals_acts ls)))
unfolding remove_globals
globals-trails = record { led = λ ls t c h. led-acts (globals_acts ls) ls t (globals-down ls) (globals-laws.acts-length ls) c h }

decls-trails : Trails prune_decls (λ ls. fates_of (prune_decls_acts ls)) (λ ls t. thinned t (moves_of (prune_decls_acts ls)))
unfolding prune_decls
decls-trails = record { led = λ ls t c h. led-acts (prune_decls_acts ls) ls t (decls-down ls) (acts-length ls) c h }

-- lines that stay
stay-go : (n o : ℕ) → fates_go (replicate n keep) o ≡ staying n o
unfolding fates_go staying
stay-go zero o = refl
stay-go (suc n) o = ap (λ (fs : List Fate). at o ∷ fs) (stay-go n (suc o))

stay-fates : (n : ℕ) → fates_of (replicate n keep) ≡ staying n 0
unfolding fates_of
stay-fates n = stay-go n 0

pub stay-led : (ls : List (List ℕ)) (t : List ℕ) → standing t ≡ length ls → length t < half → Led (staying (length ls) 0) (length ls) t t
stay-led ls t c h =
    let n : ℕ = length ls in
    let z = led-acts (replicate n keep) ls t (keeps-down n) (length-replicate {A = Act} n keep) c h in
    let e : thinned t (moves_of (replicate n keep)) ≡ t = ap (thinned t) (stays-moves n) ∙ thinned-stay t n in
    record {
      leads = ap (λ (l : List ℕ). land_go l 0) (sym e) ∙ z.leads ∙ ap (λ (fs : List Fate). through (land_go t 0) (codes_of fs)) (stay-fates n);
      left = c;
      long = refl;
    }

stay-trails : Trails (λ ls. ls) (λ ls. staying (length ls) 0) (λ ls t. t)
stay-trails = record { led = stay-led }

module _ (R : Reading) where
  temps-trails : Trails (prune_dead_temps R) (λ ls. fates_of (prune_dead_temps_acts R ls)) (λ ls t. thinned t (moves_of (prune_dead_temps_acts R ls)))
  unfolding prune_dead_temps
  temps-trails = record { led = λ ls t c h. led-acts (prune_dead_temps_acts R ls) ls t (temps-down R ls) (temps-length R ls) c h }

  once-trails : Trails (optimize_once R) (λ ls. follow (fates_of (once_acts R ls)) (fates_of (prune_decls_acts (apply (once_acts R ls) ls))))
      (λ ls t. thinned (thinned t (moves_of (once_acts R ls))) (moves_of (prune_decls_acts (apply (once_acts R ls) ls))))
  unfolding optimize_once prune_decls
  once-trails = record {
    led = λ ls t c h.
        let xs : List Act = once_acts R ls in
        let ms : List (List ℕ) = apply xs ls in
        let s = (once-sound R ls).0 in
        record {
          leads = both-land xs (prune_decls_acts ms) ls t s (decls-down ms) (once-many R ls) (acts-length ms) c h;
          left = acts-stand (prune_decls_acts ms) ms (thinned t (moves_of xs)) (decls-down ms) (acts-length ms) (acts-stand xs ls t s (once-many R ls) c);
          long = thinned-length (thinned t (moves_of xs)) (moves_of (prune_decls_acts ms)) ∙ thinned-length t (moves_of xs);
        };
  }

  phis-trails : Trails (prune_dead_phis R) (λ ls. fates_of (prune_dead_phis_acts R ls)) (λ ls t. thinned t (moves_of (prune_dead_phis_acts R ls)))
  phis-trails = record {
    led = λ ls t c h. rw (sym (phis-apply R ls)) (led-acts (prune_dead_phis_acts R ls) ls t (plain_down (prune_dead_phis_acts R ls) (phis-plain R ls)) (phis-length R ls) c h);
  }

module _ {R : Reading} {shut : List (List ℕ) → Bool} (b : Lined R shut) where
  calls-trails : Trails (rebuild_calls (leaves_of R)) (λ ls. fates_of (rebuild_calls_acts (leaves_of R) ls)) (λ ls t. thinned t (moves_of (rebuild_calls_acts (leaves_of R) ls)))
  unfolding rebuild_calls
  calls-trails = record { led = λ ls t c h. led-acts (rebuild_calls_acts (leaves_of R) ls) ls t (calls-down (leaves_of R) ls) (calls-length b ls) c h }

  bind-trails : Trails (bind_declarators R) (λ ls. fates_of (bind_declarators_acts R ls)) (λ ls t. thinned t (moves_of (bind_declarators_acts R ls)))
  unfolding bind_declarators
  bind-trails = record { led = λ ls t c h. led-acts (bind_declarators_acts R ls) ls t (bind-down R ls) (bind-length b ls) c h }

  step-trails : (k : ℕ) → Trails (step_of R k) (step_fates R k) (trailed R k)
  unfolding step_of step_fates trailed
  step-trails k =
      trails-if (eqb k 0) globals-trails
      (trails-if (eqb k 1) (temps-trails R)
      (trails-if (eqb k 2) (once-trails R)
      (trails-if (eqb k 3) (phis-trails R)
      (trails-if (eqb k 4) calls-trails
      (trails-if (eqb k 5) decls-trails
      (trails-if (eqb k 6) bind-trails
      stay-trails))))))

  pub step-led : (k : ℕ) (ls : List (List ℕ)) (t : List ℕ) → standing t ≡ length ls → length t < half → Led (step_fates R k ls) (length (step_of R k ls)) t (trailed R k ls t)
  step-led k ls t c h = (step-trails k).led ls t c h
