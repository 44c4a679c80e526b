-- The passes by the numbers of the pass entry, 1 to 6, and the removal as 0. Assumes nothing.
use Rattle.std.specs.Prelude.{ℕ, cond, List, eqb, length}
use Rattle.lines.specs.Acts.{apply}
use Rattle.origins.specs.Fates.{Fate, fates_of, follow, staying}
use Rattle.globals.specs.Globals.{globals_acts, remove_globals}
use Rattle.reading.specs.Reading.{Reading}
use Rattle.temps.specs.Temps.{prune_dead_temps_acts, prune_dead_temps}
use Rattle.once.specs.Once.{once_acts, optimize_once}
use Rattle.phis.specs.Phis.{prune_dead_phis}
use Rattle.phis.specs.Moves.{prune_dead_phis_acts}
use Rattle.calls.specs.Calls.{rebuild_calls_acts, rebuild_calls}
use Rattle.calls.specs.LeavesOf.{leaves_of}
use Rattle.decls.specs.Decls.{prune_decls_acts, prune_decls}
use Rattle.bind.specs.Bind.{bind_declarators_acts, bind_declarators}

-- what step k makes of the lines: 0 is the removal, 1 to 6 are the passes, and another number changes nothing
unfoldable pub step_of : Reading → ℕ → List (List ℕ) → List (List ℕ)
step_of R k ls =
    cond (eqb k 0) (remove_globals ls)
    (cond (eqb k 1) (prune_dead_temps R ls)
    (cond (eqb k 2) (optimize_once R ls)
    (cond (eqb k 3) (prune_dead_phis R ls)
    (cond (eqb k 4) (rebuild_calls (leaves_of R) ls)
    (cond (eqb k 5) (prune_decls ls)
    (cond (eqb k 6) (bind_declarators R ls)
    ls))))))

-- where each line goes in step k
unfoldable pub step_fates : Reading → ℕ → List (List ℕ) → List Fate
step_fates R k ls =
    cond (eqb k 0) (fates_of (globals_acts ls))
    (cond (eqb k 1) (fates_of (prune_dead_temps_acts R ls))
    (cond (eqb k 2) (follow (fates_of (once_acts R ls)) (fates_of (prune_decls_acts (apply (once_acts R ls) ls))))
    (cond (eqb k 3) (fates_of (prune_dead_phis_acts R ls))
    (cond (eqb k 4) (fates_of (rebuild_calls_acts (leaves_of R) ls))
    (cond (eqb k 5) (fates_of (prune_decls_acts ls))
    (cond (eqb k 6) (fates_of (bind_declarators_acts R ls))
    (staying (length ls) 0)))))))
