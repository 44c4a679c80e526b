-- What becomes of the lines in a step without blocks, and the raw moves after a step. Assumes nothing.
use Rattle.std.specs.Prelude.{ℕ, Bool, false, cond, not, List, eqb, length, replicate}
use Rattle.lines.specs.Lf.{holds}
use Rattle.lines.specs.Inner.Lf.{lacks}
use Rattle.lines.specs.Acts.{Act, keep, apply}
use Rattle.names.specs.Names.{phi_word}
use Rattle.temps.specs.Inner.Scratch.{temp_in}
use Rattle.origins.specs.Inner.Codes.{moves_of}
use Rattle.trails.specs.Inner.Trails.{thinned}
use Rattle.reading.specs.Reading.{Reading}
use Rattle.globals.specs.Globals.{globals_acts}
use Rattle.temps.specs.Temps.{prune_dead_temps_acts}
use Rattle.phis.specs.Moves.{prune_dead_phis_acts}
use Rattle.once.specs.Once.{once_acts}
use Rattle.calls.specs.LeavesOf.{leaves_of}
use Rattle.calls.specs.Calls.{rebuild_calls_acts}
use Rattle.decls.specs.Decls.{prune_decls_acts}
use Rattle.bind.specs.Bind.{bind_declarators_acts}

-- of step k, which is none of 2, 4 and 6
unfoldable pub few_acts : Reading → ℕ → List (List ℕ) → List Act
few_acts R k ls =
    cond (eqb k 0) (globals_acts ls)
    (cond (eqb k 1) (prune_dead_temps_acts R ls)
    (cond (eqb k 3) (prune_dead_phis_acts R ls)
    (cond (eqb k 5) (prune_decls_acts ls)
    (replicate (length ls) keep))))

-- raw moves t after step k, whose lines are those that stand
unfoldable pub trailed : Reading → ℕ → List (List ℕ) → List ℕ → List ℕ
trailed R k ls t =
    cond (eqb k 0) (thinned t (moves_of (globals_acts ls)))
    (cond (eqb k 1) (thinned t (moves_of (prune_dead_temps_acts R ls)))
    (cond (eqb k 2) (thinned (thinned t (moves_of (once_acts R ls))) (moves_of (prune_decls_acts (apply (once_acts R ls) ls))))
    (cond (eqb k 3) (thinned t (moves_of (prune_dead_phis_acts R ls)))
    (cond (eqb k 4) (thinned t (moves_of (rebuild_calls_acts (leaves_of R) ls)))
    (cond (eqb k 5) (thinned t (moves_of (prune_decls_acts ls)))
    (cond (eqb k 6) (thinned t (moves_of (bind_declarators_acts R ls)))
    t))))))

-- a text that step k plainly leaves as it is: no line declares globals where no `_` stands, and so with temps and phis
unfoldable pub idle_in : ℕ → List ℕ → Bool
idle_in k s = cond (eqb k 0) (lacks 95 s) (cond (eqb k 1) (not (temp_in s)) (cond (eqb k 3) (not (holds phi_word s)) false))
