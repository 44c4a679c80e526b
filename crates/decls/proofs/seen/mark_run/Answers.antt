use Prim.Native.Nat.{ℕ, ◌+◌}
use mathlib.Core.Path.{◌≡◌, refl, ap, ◌∙◌}
use mathlib.Core.List.{List}
use native.Mathlib.Omega.{arith}
use lib.ListN.{drop}
use Rattle.names.specs.Names.{reg_of}
use Rattle.words.specs.Inner.Runs.{run_len}
use Rattle.words.proofs.RunLaws.{run_inside}
use Rattle.decls.specs.Inner.Seen.{mark_name}
use Rattle.decls.proofs.MarkRuns.{name-inside, run-two, run-cut}
use Rattle.decls.proofs.seen.mark_run.Goals as goal

pub overflow_add-rest : goal.overflow_add-rest
overflow_add-rest c = let a = c.args in omega (arith, name-inside a.s.now (a.i + 1) c.requires.1)

pub slice_bounds-mark_name-count : goal.slice_bounds-mark_name-count
slice_bounds-mark_name-count c = omega (arith, c.run_end-j.ensures)

pub slice_bounds-mark_name-start : goal.slice_bounds-mark_name-start
slice_bounds-mark_name-start c = omega (arith, c.run_end-j.ensures)

pub slice_bounds-mark_name-end : goal.slice_bounds-mark_name-end
slice_bounds-mark_name-end c =
    let a = c.args in
    let p = c.requires in
    omega (arith, c.run_end-j.ensures, run-two a.s.now a.i p.0 p.1, run_inside a.s.now a.i (omega (arith, name-inside a.s.now a.i p.0)))

pub returns : goal.returns
returns c =
    let a = c.args in
    let j = c.run_end-j in
    let z : j.result ≡ a.i + run_len (drop a.i a.s.now) = j.ensures ∙ run-two a.s.now a.i c.requires.0 c.requires.1 in
    c.mark_name.ensures ∙ ap (λ (w : List ℕ). mark_name a.own.now a.m (reg_of w) a.seen.now) (run-cut a.s.now _ a.i j.result z refl)
