-- `optimize`: the removal and the six passes in their order. Assumes nothing.
use Rattle.std.specs.Prelude.{ℕ, List}
use Rattle.origins.specs.Fates.{Fate, follow}
use Rattle.globals.specs.Globals.{remove_globals}
use Rattle.reading.specs.Reading.{Reading}
use Rattle.temps.specs.Temps.{prune_dead_temps}
use Rattle.once.specs.Once.{optimize_once}
use Rattle.phis.specs.Phis.{prune_dead_phis}
use Rattle.calls.specs.Calls.{rebuild_calls}
use Rattle.calls.specs.LeavesOf.{leaves_of}
use Rattle.decls.specs.Decls.{prune_decls}
use Rattle.bind.specs.Bind.{bind_declarators}
use Rattle.steps.specs.Step.{step_fates}

-- the removal, and the six passes in their order
unfoldable pub whole : Reading → List (List ℕ) → List (List ℕ)
whole R ls = bind_declarators R (prune_decls (rebuild_calls (leaves_of R) (prune_dead_phis R (optimize_once R (prune_dead_temps R (remove_globals ls))))))

-- where each line goes in them: each pass goes on from where the one before it left the lines
unfoldable pub whole_fates : Reading → List (List ℕ) → List Fate
whole_fates R ls =
    let a = remove_globals ls in
    let b = prune_dead_temps R a in
    let c = optimize_once R b in
    let d = prune_dead_phis R c in
    let e = rebuild_calls (leaves_of R) d in
    let f = prune_decls e in
    follow (step_fates R 0 ls) (follow (step_fates R 1 a) (follow (step_fates R 2 b) (follow (step_fates R 3 c) (follow (step_fates R 4 d) (follow (step_fates R 5 e) (step_fates R 6 f))))))
