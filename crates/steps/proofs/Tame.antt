-- Passes that bring no LF into a line, add no line and do not raise the weight, whatever a brace weighs; and the room that each then has. Assumes nothing.
use Prim.Native.Nat.{ℕ, ◌≤◌, ◌<◌, ◌^◌}
use mathlib.Core.Path.{◌≡◌, ap}
use mathlib.Core.Bool.{Bool, true, false, cond}
use mathlib.Core.List.{List}
use native.Mathlib.Omega.{arith}
use lib.Dec.{eqb}
use lib.ListN.{length, length-append}
use Rattle.lines.specs.Lf.{lines_of, unlines}
use Rattle.lines.specs.Inner.Lf.{no_lf}
use Rattle.lines.specs.Acts.{apply}
use Rattle.lines.proofs.ActLaws.{apply-length}
use Rattle.lines.proofs.StepLaws.{missing_lf, lines-text}
use Rattle.weight.specs.Inner.Weight.{weight}
use Rattle.weight.proofs.Weigh.{length-weight}
use Rattle.place.specs.Inner.Parents.{ids_parents, path_parents}
use Rattle.lexical.specs.Joined.{rests_in}
use Rattle.place.proofs.Rooms.{ids-parents-text, path-parents-text}
use Rattle.reading.specs.Reading.{Reading, joined_at, reading_of}
use Rattle.globals.specs.Globals.{remove_globals}
use Rattle.globals.proofs.Laws.{remove-no_lf, remove-lines, remove-weight}
use Rattle.temps.specs.Temps.{prune_dead_temps_acts, prune_dead_temps}
use Rattle.temps.proofs.Keeps.{temps-no_lf, temps-weight}
use Rattle.once.specs.Once.{once_acts, optimize_once}
use Rattle.once.proofs.Keeps.{acts-no_lf}
use Rattle.once.proofs.Passes.{once-no_lf, once-lines}
use Rattle.once.proofs.Room.{acts-weight, once-weight}
use Rattle.phis.specs.Phis.{round, prune_dead_phis}
use Rattle.phis.specs.Inner.Rounds.{longest}
use Rattle.phis.proofs.Keeps.{phis-no_lf, phis-lines}
use Rattle.phis.proofs.Room.{round-weight, phis-weight, longest-weight}
use Rattle.calls.specs.LeavesOf.{leaves_of}
use Rattle.calls.specs.Calls.{rebuild_calls_acts, rebuild_calls}
use Rattle.calls.proofs.Room.{calls-weight, calls-no_lf}
use Rattle.bind.specs.Bind.{bind_declarators}
use Rattle.reading.proofs.Lined.{Lined, mode-lined}
use Rattle.bind.proofs.Passes as bind-laws
use Rattle.decls.specs.Decls.{prune_decls}
use Rattle.decls.proofs.Keeps.{keeps-no_lf}
use Rattle.decls.proofs.Decl.{prune-weight}
use Rattle.decls.proofs.Passes.{prune-lines}
use Rattle.steps.specs.Step.{step_of}
use Rattle.limits.specs.declared.Limits.{Limits}
use Rattle.limits.specs.Entry.{byte_size, block_size}
use Rattle.steps.specs.Inner.Bounds.{Bounded}

pub record Tame (f : List (List ℕ) → List (List ℕ)) : Type 0 where
  pub keeps : (ls : List (List ℕ)) → no_lf ls ≡ true → no_lf (f ls) ≡ true
  pub weighs : (H : ℕ) (ls : List (List ℕ)) → weight H (unlines (f ls)) ≤ weight H (unlines ls)
  pub counts : (ls : List (List ℕ)) → length (f ls) ≤ length ls

pub tame-same : Tame (λ ls. ls)
tame-same = record { keeps = λ ls h. h; weighs = λ H ls. omega arith; counts = λ ls. omega arith }

-- one after the other
pub tame-then : {f g : List (List ℕ) → List (List ℕ)} → Tame f → Tame g → Tame (λ ls. g (f ls))
tame-then {f} {g} p q = record {
  keeps = λ ls h. q.keeps (f ls) (p.keeps ls h);
  weighs = λ H ls. omega (arith, q.weighs H (f ls), p.weighs H ls);
  counts = λ ls. omega (arith, q.counts (f ls), p.counts ls);
}

-- one or the other
tame-if : {f g : List (List ℕ) → List (List ℕ)} (b : Bool) → Tame f → Tame g → Tame (λ ls. cond b (f ls) (g ls))
tame-if true p q = p
tame-if false p q = q

-- ---- each pass

pub tame-removal : Tame remove_globals
tame-removal = record { keeps = remove-no_lf; weighs = remove-weight; counts = remove-lines }

temps-count : (R : Reading) (ls : List (List ℕ)) → length (prune_dead_temps R ls) ≤ length ls
unfolding prune_dead_temps
temps-count R ls = apply-length (prune_dead_temps_acts R ls) ls

pub tame-temps : (R : Reading) → Tame (prune_dead_temps R)
tame-temps R = record { keeps = temps-no_lf R; weighs = λ H ls. temps-weight H R ls; counts = temps-count R }

pub tame-decls : Tame prune_decls
tame-decls = record { keeps = keeps-no_lf; weighs = prune-weight; counts = prune-lines }

pub once-acts : (R : Reading) → Tame (λ ls. apply (once_acts R ls) ls)
once-acts R = record { keeps = acts-no_lf R; weighs = λ H ls. acts-weight H R ls; counts = λ ls. apply-length (once_acts R ls) ls }

pub tame-once : (R : Reading) → Tame (optimize_once R)
tame-once R = record { keeps = once-no_lf R; weighs = λ H ls. once-weight H R ls; counts = once-lines R }

pub tame-phis : (R : Reading) → Tame (prune_dead_phis R)
tame-phis R = record { keeps = phis-no_lf R; weighs = λ H ls. phis-weight H R ls; counts = phis-lines R }

calls_count : (R : Reading) (ls : List (List ℕ)) → length (rebuild_calls (leaves_of R) ls) ≤ length ls
unfolding rebuild_calls
calls_count R ls = apply-length (rebuild_calls_acts (leaves_of R) ls) ls

pub tame-calls : (R : Reading) → Tame (rebuild_calls (leaves_of R))
tame-calls R = record { keeps = calls-no_lf R; weighs = λ H ls. calls-weight H R ls; counts = calls_count R }

-- where as many lines are cleaned as there are
pub tame-bind : {R : Reading} {shut : List (List ℕ) → Bool} → Lined R shut → Tame (bind_declarators R)
tame-bind {R} c = record { keeps = bind-laws.keeps-no_lf c; weighs = bind-laws.bind-weight c; counts = bind-laws.bind-lines R }

pub tame-step : {R : Reading} {shut : List (List ℕ) → Bool} → Lined R shut → (k : ℕ) → Tame (step_of R k)
unfolding step_of
tame-step {R} c k =
    tame-if (eqb k 0) tame-removal
    (tame-if (eqb k 1) (tame-temps R)
    (tame-if (eqb k 2) (tame-once R)
    (tame-if (eqb k 3) (tame-phis R)
    (tame-if (eqb k 4) (tame-calls R)
    (tame-if (eqb k 5) tame-decls
    (tame-if (eqb k 6) (tame-bind c)
    tame-same))))))

-- ---- the room that a text within bounds has

-- what a pass makes of it
pub room_fits : {L : Limits} {s : List ℕ} {f : List (List ℕ) → List (List ℕ)} → Tame f → Bounded L s → length (unlines (f (lines_of s))) ≤ byte_size L
room_fits {s = s} {f = f} p r =
    omega (arith, length-weight 0 (unlines (f (lines_of s))), p.weighs 0 (lines_of s), r.heavy)

-- the lines as they are
pub room-lines : {L : Limits} {s : List ℕ} → Bounded L s → length (unlines (lines_of s)) ≤ byte_size L
room-lines r = room_fits tame-same r

pub room-length : {L : Limits} {s : List ℕ} → Bounded L s → length s ≤ byte_size L
room-length {s = s} r = omega (arith, room-lines r, ap length (lines-text s), length-append s (missing_lf s))

-- ---- the room that passes with tables and scratch ask for

pub once-room : (R : Reading) {L : Limits} {s : List ℕ} {loops marks paths up scratch mid out near far stores moves : ℕ} → Bounded L s →
    (byte_size L ≤ scratch) × ((byte_size L ≤ mid) × (byte_size L ≤ out)) → (block_size L ≤ up) × (up < 2 ^ 32) →
    (L.lines ≤ loops) × ((L.lines ≤ marks) × ((L.lines ≤ paths) × (L.lines ≤ moves))) → (far ≡ near) × (far ≡ stores) →
    (length (lines_of s) ≤ loops) × ((length (lines_of s) ≤ marks) × ((length (lines_of s) ≤ paths) × ((length (path_parents (lines_of s)) ≤ up) × ((up < 2 ^ 32)
    × ((length s ≤ scratch) × ((length (unlines (apply (once_acts R (lines_of s)) (lines_of s))) ≤ mid) × ((length (unlines (optimize_once R (lines_of s))) ≤ out) × (((far ≡ near) × (far ≡ stores)) × (length (lines_of s) ≤ moves)))))))))
once-room R {s = s} r b u l w = (
  omega (arith, r.lines, l.0),
  (
    omega (arith, r.lines, l.1.0),
    (
      omega (arith, r.lines, l.1.1.0),
      (
        omega (arith, path-parents-text s, r.braces, u.0),
        (
          u.1,
          (
            omega (arith, room-length r, b.0),
            (
              omega (arith, room_fits (once-acts R) r, b.1.0),
              (omega (arith, room_fits (tame-once R) r, b.1.1), (w, omega (arith, r.lines, l.1.1.1))),
            ),
          ),
        ),
      ),
    ),
  ),
)

pub phis-room : (R : Reading) {L : Limits} {s : List ℕ} {scratch first second out moves : ℕ} → Bounded L s →
    (byte_size L ≤ scratch) × ((byte_size L ≤ first) × ((byte_size L ≤ second) × ((byte_size L ≤ out) × (L.lines ≤ moves)))) →
    (longest R s ≤ scratch) × ((length (unlines (round R (lines_of s))) ≤ first) × ((length (unlines (round R (round R (lines_of s)))) ≤ second) × ((length (unlines (prune_dead_phis R (lines_of s))) ≤ out) × (length (lines_of s) ≤ moves))))
phis-room R {s = s} r b =
    let one : List (List ℕ) = round R (lines_of s) in
    let v = round-weight 0 R (lines_of s) in (
      omega (arith, longest-weight 0 R s, r.heavy, b.0),
      (
        omega (arith, length-weight 0 (unlines one), v, r.heavy, b.1.0),
        (
          omega (arith, length-weight 0 (unlines (round R one)), round-weight 0 R one, v, r.heavy, b.1.1.0),
          (omega (arith, room_fits (tame-phis R) r, b.1.1.1.0), omega (arith, r.lines, b.1.1.1.1)),
        ),
      ),
    )

pub calls-room : (mode : ℕ) {L : Limits} {s : List ℕ} {owner blocks starts up stack cur next out ends : ℕ} → Bounded L s →
    (byte_size L ≤ cur) × ((byte_size L ≤ next) × ((byte_size L ≤ stack) × (byte_size L ≤ out))) → (block_size L ≤ up) × (up < 2 ^ 32) →
    (L.lines ≤ starts) × ((L.lines ≤ owner) × ((L.lines ≤ ends) × (L.lines ≤ blocks))) →
    ((length (lines_of s) ≤ owner) × ((length (lines_of s) ≤ blocks) × (length (lines_of s) ≤ starts)))
    × (((length (ids_parents (rests_in (joined_at mode) (lines_of s))) ≤ up) × (up < 2 ^ 32))
    × (((length (unlines (lines_of s)) ≤ stack) × ((length s ≤ cur) × (length s ≤ next)))
    × ((length (unlines (rebuild_calls (leaves_of (reading_of mode)) (lines_of s))) ≤ out) × (length (lines_of s) ≤ ends))))
calls-room mode {s = s} r b u l = (
  (omega (arith, r.lines, l.1.0), (omega (arith, r.lines, l.1.1.1), omega (arith, r.lines, l.0))),
  (
    (omega (arith, ids-parents-text (joined_at mode) s, r.braces, u.0), u.1),
    (
      (omega (arith, room-lines r, b.1.1.0), (omega (arith, room-length r, b.0), omega (arith, room-length r, b.1.0))),
      (omega (arith, room_fits (tame-calls (reading_of mode)) r, b.1.1.1), omega (arith, r.lines, l.1.1.0)),
    ),
  ),
)

pub bind-room : (mode : ℕ) {L : Limits} {s : List ℕ} {blocks starts up marks out ends : ℕ} → Bounded L s → byte_size L ≤ out → (block_size L ≤ up) × (up < 2 ^ 32) →
    (L.lines ≤ starts) × ((L.lines ≤ marks) × ((L.lines ≤ blocks) × (L.lines ≤ ends))) →
    ((length (lines_of s) ≤ blocks) × ((length (lines_of s) ≤ starts) × ((length (ids_parents (rests_in (joined_at mode) (lines_of s))) ≤ up) × (up < 2 ^ 32))))
    × ((length (lines_of s) ≤ marks) × ((length (unlines (bind_declarators (reading_of mode) (lines_of s))) ≤ out) × (length (lines_of s) ≤ ends)))
bind-room mode {s = s} r b u l = (
  (omega (arith, r.lines, l.1.1.0), (omega (arith, r.lines, l.0), (omega (arith, ids-parents-text (joined_at mode) s, r.braces, u.0), u.1))),
  (omega (arith, r.lines, l.1.0), (omega (arith, room_fits (tame-bind (mode-lined mode)) r, b), omega (arith, r.lines, l.1.1.1))),
)
