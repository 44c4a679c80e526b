-- Laws of the table of origins: where each line goes in a step, by the tables of moves that the passes hand out. Assumes nothing.
use Prim.Native.Nat.{ℕ, zero, suc, ◌≤◌, ◌<◌}
use mathlib.Core.Path.{◌≡◌, refl, sym, ap, ◌∙◌}
use mathlib.Core.Bool.{Bool, true, false, cond, ◌&&◌}
use mathlib.Core.List.{List, [], ◌∷◌}
use native.Mathlib.Omega.{arith}
use borrow.Author.Tests.{eq-eqb, ne_eqb, eqb-true}
use lib.Dec.{eqb}
use lib.ListN.{length, take, drop, replicate, length-take, length-replicate, length-append}
use Rattle.lines.specs.Lf.{all, parts_of, lines_of, unlines}
use Rattle.text.specs.Trim.{from_of, trim_of}
use Rattle.lines.specs.Acts.{Act, keep, become, into, gone, apply}
use Rattle.lines.specs.Inner.Out.{Wrote}
use Rattle.lines.proofs.Tests.{no, and_both}
use Rattle.lines.proofs.ActLaws.{keeps, apply-length}
use Rattle.lines.proofs.OutLaws.{wrote-part}
use Rattle.origins.specs.Fates.{Fate, fates_of, follow}
use Rattle.origins.specs.Inner.Codes.{half, move_of, moves_of, codes_of, land_go, through, standing}
use Rattle.origins.proofs.FateLaws.{outs, outs-apply, Under, fates-under, fates-length}
use Rattle.origins.proofs.CodeLaws.{sound, land-fates, standing-outs, through-follow}
use Rattle.origins.proofs.Notes.{plainly, moves-length, stay-moves}
use Rattle.place.specs.Inner.Fill.{Filled, flags_of}
use Rattle.place.specs.Region.{region, region_at}
use Rattle.place.specs.Loops.{inside_loop}
use Rattle.place.specs.Paths.{block_paths, tops}
use Rattle.place.proofs.Fills.{filled-take}
use Rattle.parse.specs.Parse.{is_decl, body_of}
use Rattle.reading.specs.Reading.{Reading, reading_of, pure_in}
use Rattle.reading.specs.Assign.{is_assign, left_of, right_of}
use Rattle.globals.specs.Globals.{is_globals, globals_acts}
use Rattle.temps.specs.Temps.{dead_temp, temp_act, temp_acts, prune_dead_temps_acts}
use Rattle.decls.specs.Decls.{decl_act, keep_names, act_of, acts_go, prune_decls_acts}
use Rattle.decls.proofs.Moves.{decl-plain}
use Rattle.phis.specs.Moves.{prune_dead_phis_acts}
use Rattle.once.specs.Once.{once_acts}
use Rattle.once.specs.Inner.Tables.{once_marks}
use Rattle.once.specs.Inner.Moves.{move_marks}
use Rattle.once.proofs.Fills.{marks-of, marks-length}
use Rattle.once.proofs.Moves as once-laws
use Rattle.calls.specs.LeavesOf.{leaves_of}
use Rattle.calls.specs.Calls.{rebuild_calls_acts}
use Rattle.calls.specs.Inner.Tables.{owners_of}
use Rattle.calls.proofs.Moves.{calls-moves}
use Rattle.bind.specs.Bind.{BlockLine, block_lines, until_head, any_bound, unbound, mark_all, marked, pieces_of, promoted, above_in, bind_act, bind_go, bind_declarators_acts}
use Rattle.bind.specs.Inner.Steps.{bind_notes, note_moves}
use Rattle.bind.proofs.Moves as bind-laws
use Rattle.limits.specs.declared.Limits.{Limits}
use Rattle.steps.specs.Inner.Bounds.{Bounded}
use Rattle.steps.specs.Inner.Few.{few_acts, trailed}
use Rattle.trails.specs.Inner.Trails.{thinned}
use Rattle.trails.proofs.TrailLaws.{standing-most, thinned-land, thinned-length, thinned-stay, thinned-standing, through-both}
use Rattle.steps.proofs.Tame.{room-lines}

-- ---- no pass takes a line into itself

act-down : (a : Act) → plainly a ≡ true → sound a ≡ true
act-down keep h = refl
act-down (become x) h = refl
act-down (into n) h = no h
act-down gone h = refl

pub plain_down : (xs : List Act) → all plainly xs ≡ true → all sound xs ≡ true
plain_down [] h = refl
plain_down (keep ∷ more) h = plain_down more h
plain_down (become x ∷ more) h = plain_down more h
plain_down (into n ∷ more) h = no h
plain_down (gone ∷ more) h = plain_down more h

goes_down : (b : Bool) → sound (cond b gone keep) ≡ true
goes_down true = refl
goes_down false = refl

pub globals-down : (ls : List (List ℕ)) → all sound (globals_acts ls) ≡ true
unfolding globals_acts
globals-down [] = refl
globals-down (l ∷ ls) = and_both (goes_down (is_globals l)) (globals-down ls)

temp-down : (R : Reading) (ls : List (List ℕ)) (l : List ℕ) → sound (temp_act R ls l) ≡ true
unfolding temp_act
temp-down R ls l = goes_down (is_assign (trim_of l) && (dead_temp (left_of (trim_of l)) ls && pure_in R (right_of (trim_of l))))

temps-go : (R : Reading) (ls ms : List (List ℕ)) → all sound (temp_acts R ls ms) ≡ true
unfolding temp_acts
temps-go R ls [] = refl
temps-go R ls (m ∷ ms) = and_both (temp-down R ls m) (temps-go R ls ms)

pub temps-down : (R : Reading) (ls : List (List ℕ)) → all sound (prune_dead_temps_acts R ls) ≡ true
unfolding prune_dead_temps_acts
temps-down R ls = temps-go R ls ls

decl-down : (run : List (List ℕ)) (l : List ℕ) → sound (act_of run l) ≡ true
unfolding act_of
decl-down run l = go (is_decl (trim_of l))
  where
    go : (b : Bool) → sound (cond b (decl_act (take (from_of l) l) (keep_names run (parts_of 44 (body_of (trim_of l))))) keep) ≡ true
    go true = act-down (decl_act (take (from_of l) l) (keep_names run (parts_of 44 (body_of (trim_of l))))) (decl-plain (take (from_of l) l) (keep_names run (parts_of 44 (body_of (trim_of l)))))
    go false = refl

decls-go : (ls run : List (List ℕ)) → all sound (acts_go ls run) ≡ true
unfolding acts_go
decls-go [] run = refl
decls-go (l ∷ ls) run = and_both (decl-down (region_at l ls run) l) (decls-go ls (region_at l ls run))

pub decls-down : (ls : List (List ℕ)) → all sound (prune_decls_acts ls) ≡ true
unfolding prune_decls_acts
decls-down ls = decls-go ls (region ls)

bind-act : (d : BlockLine) (above : List (List ℕ)) (below : List BlockLine) (m : Bool) → sound (bind_act d above below m) ≡ true
unfolding bind_act
bind-act d above below m = go (any_bound (pieces_of d.line) above d below) m
  where
    go : (a b : Bool) → sound (cond a (decl_act (take (from_of d.line) d.line) (unbound (pieces_of d.line) above d below)) (cond b (become (promoted d.line)) keep)) ≡ true
    go true b = act-down (decl_act (take (from_of d.line) d.line) (unbound (pieces_of d.line) above d below)) (decl-plain (take (from_of d.line) d.line) (unbound (pieces_of d.line) above d below))
    go false true = refl
    go false false = refl

bind-go : (sp : List BlockLine) (above : List (List ℕ)) (ms : List Bool) → all sound (bind_go sp above ms) ≡ true
unfolding bind_go
bind-go [] above ms = refl
bind-go (d ∷ sp) above ms =
    and_both (bind-act d (above_in d above) (until_head sp) (marked ms))
    (bind-go sp (d.line ∷ above_in d above) (mark_all (pieces_of d.line) (above_in d above) d (until_head sp) (drop 1 ms)))

pub bind-down : (R : Reading) (ls : List (List ℕ)) → all sound (bind_declarators_acts R ls) ≡ true
unfolding bind_declarators_acts
bind-down R ls = bind-go (block_lines R ls) [] []

pub keeps-down : (n : ℕ) → all sound (replicate n keep) ≡ true
keeps-down zero = refl
keeps-down (suc n) = keeps-down n

-- ---- which acts a step has

module _ (R : Reading) (k : ℕ) (ls : List (List ℕ)) where
  pub acts-0 : k ≡ 0 → few_acts R k ls ≡ globals_acts ls
  unfolding few_acts
  acts-0 e = rw (eq-eqb k 0 e)

  pub acts-1 : k ≡ 1 → few_acts R k ls ≡ prune_dead_temps_acts R ls
  unfolding few_acts
  acts-1 e = rw e

  pub acts-3 : k ≡ 3 → few_acts R k ls ≡ prune_dead_phis_acts R ls
  unfolding few_acts
  acts-3 e = rw e

  pub acts-5 : k ≡ 5 → few_acts R k ls ≡ prune_decls_acts ls
  unfolding few_acts
  acts-5 e = rw e

  pub acts-else : (k ≡ 0 → ⊥) → (k ≡ 1 → ⊥) → (k ≡ 3 → ⊥) → (k ≡ 5 → ⊥) → few_acts R k ls ≡ replicate (length ls) keep
  unfolding few_acts
  acts-else a b c d = rw (ne_eqb k 0 a, ne_eqb k 1 b, ne_eqb k 3 c, ne_eqb k 5 d)

-- lines of which it is noted that they stay
stays-many : (n : ℕ) → all keeps (replicate n keep) ≡ true
stays-many zero = refl
stays-many (suc n) = stays-many n

pub stays-moves : (n : ℕ) → moves_of (replicate n keep) ≡ replicate n 0
unfolding moves_of move_of
stays-moves zero = refl
stays-moves (suc n) = ap (λ (l : List ℕ). 0 ∷ l) (stays-moves n)

pub stay-noted : (n : ℕ) {d d' : List ℕ} {r : ℕ} → Wrote d 0 (replicate n 0) d' r → Wrote d 0 (moves_of (replicate n keep)) d' n
stay-noted n w = stay-moves (replicate n keep) n (length-replicate {A = Act} n keep) (stays-many n) w

-- ---- raw moves after the moves of a pass, which stand at the front of a table

-- moves of lines that all stand
all-stand : (l : List ℕ) → standing l ≡ length l → l ≡ replicate (length l) 0
unfolding standing
all-stand [] h = refl
all-stand (m ∷ l) h = go (eqb m 0) refl h (all-stand l)
  where
    go : (b : Bool) → eqb m 0 ≡ b → cond b (suc (standing l)) (standing l) ≡ suc (length l) → (standing l ≡ length l → l ≡ replicate (length l) 0) → m ∷ l ≡ 0 ∷ replicate (length l) 0
    go true e k ih = ap (λ (x : ℕ). x ∷ l) (eqb-true m 0 e) ∙ ap (λ (r : List ℕ). 0 ∷ r) (ih (omega arith))
    go false e k ih = absurd (omega (arith, standing-most l))

pub none-moved : (t m : List ℕ) (n : ℕ) {r : ℕ} → n ≤ length m → r ≡ standing (take n m) → r ≡ n → t ≡ thinned t (take n m)
none-moved t m n h e q =
    sym (ap (thinned t) (all-stand (take n m) (omega (arith, e, q, length-take n m))) ∙ thinned-stay t (length (take n m)))

module _ (R : Reading) (k : ℕ) (ls : List (List ℕ)) (t : List ℕ) where
  pub trail-2 : k ≡ 2 → trailed R k ls t ≡ thinned (thinned t (moves_of (once_acts R ls))) (moves_of (prune_decls_acts (apply (once_acts R ls) ls)))
  unfolding trailed
  trail-2 e = rw e

  pub trail-4 : k ≡ 4 → trailed R k ls t ≡ thinned t (moves_of (rebuild_calls_acts (leaves_of R) ls))
  unfolding trailed
  trail-4 e = rw e

  pub trail-6 : k ≡ 6 → trailed R k ls t ≡ thinned t (moves_of (bind_declarators_acts R ls))
  unfolding trailed
  trail-6 e = rw e

  trail-few : (k ≡ 2 → ⊥) → (k ≡ 4 → ⊥) → (k ≡ 6 → ⊥) → thinned t (moves_of (few_acts R k ls)) ≡ trailed R k ls t
  unfolding few_acts trailed
  trail-few n2 n4 n6 = rw (ne_eqb k 2 n2, ne_eqb k 4 n4, ne_eqb k 6 n6) (go (eqb k 0) (eqb k 1) (eqb k 3) (eqb k 5))
    where
      go : (a b c d : Bool) → thinned t (moves_of (cond a (globals_acts ls) (cond b (prune_dead_temps_acts R ls) (cond c (prune_dead_phis_acts R ls) (cond d (prune_decls_acts ls) (replicate (length ls) keep))))))
          ≡ cond a (thinned t (moves_of (globals_acts ls))) (cond b (thinned t (moves_of (prune_dead_temps_acts R ls))) (cond c (thinned t (moves_of (prune_dead_phis_acts R ls))) (cond d (thinned t (moves_of (prune_decls_acts ls))) t)))
      go true b c d = refl
      go false true c d = refl
      go false false true d = refl
      go false false false true = refl
      go false false false false = ap (thinned t) (stays-moves (length ls)) ∙ thinned-stay t (length ls)

  pub few-trail : {n : ℕ} {m₀ m t' : List ℕ} → (k ≡ 2 → ⊥) → (k ≡ 4 → ⊥) → (k ≡ 6 → ⊥) → n ≡ length ls → Wrote m₀ 0 (moves_of (few_acts R k ls)) m (length ls) → t' ≡ thinned t (take n m) → t' ≡ trailed R k ls t
  few-trail {n} {m₀} {m} n2 n4 n6 e w z = z ∙ ap (thinned t) (ap (λ (j : ℕ). take j m) e ∙ wrote-part w) ∙ trail-few n2 n4 n6

pub calls-trail : (mode : ℕ) (ls : List (List ℕ)) (t : List ℕ) {n : ℕ} {m₀ m t' : List ℕ} → n ≡ length ls → Filled m₀ (owners_of (rebuild_calls_acts (leaves_of (reading_of mode)) ls)) m (length ls) →
    t' ≡ thinned t (take n m) → t' ≡ thinned t (moves_of (rebuild_calls_acts (leaves_of (reading_of mode)) ls))
calls-trail mode ls t {n} {m₀} {m} e f z =
    z ∙ ap (thinned t) (ap (λ (j : ℕ). take j m) e ∙ filled-take f ∙ sym (calls-moves (leaves_of (reading_of mode)) ls))

pub bind-trail : (mode : ℕ) (ls : List (List ℕ)) (t : List ℕ) {n r : ℕ} {m₀ m b b' t' : List ℕ} → n ≡ length ls → Filled m₀ (bind_notes (reading_of mode) ls) m (length ls) → Wrote b 0 (note_moves (take n m)) b' r →
    t' ≡ thinned t (take n b') → t' ≡ thinned t (moves_of (bind_declarators_acts (reading_of mode) ls))
bind-trail mode ls t {n} {r} {m₀} {m} {b} {b'} e f w z =
    let q : take n m ≡ bind_notes (reading_of mode) ls = ap (λ (j : ℕ). take j m) e ∙ filled-take f in
    let c : r ≡ n = omega (arith, w.place, bind-laws.moves-many (take n m), ap length q, f.place, e) in
    z ∙ ap (thinned t) (ap (λ (j : ℕ). take j b') (sym c) ∙ wrote-part w ∙ ap note_moves q ∙ sym (bind-laws.bind-moves (reading_of mode) ls))

-- ---- where raw moves lead after acts, and how many lines stand then

outs-most : (acts : List Act) → outs acts ≤ length acts
unfolding outs
outs-most [] = omega arith
outs-most (keep ∷ more) = let h = outs-most more in omega arith
outs-most (become x ∷ more) = let h = outs-most more in omega arith
outs-most (into n ∷ more) = let h = outs-most more in omega arith
outs-most (gone ∷ more) = let h = outs-most more in omega arith

-- no fate names a line that has no code
pub acts-under : (acts : List Act) → length acts < half → Under half (fates_of acts)
unfolding fates_of
acts-under acts h = fates-under acts 0 half (omega (arith, outs-most acts))

fates-many : (acts : List Act) → length (fates_of acts) ≡ length acts
unfolding fates_of
fates-many acts = fates-length acts 0

codes-many : (fs : List Fate) → length (codes_of fs) ≡ length fs
unfolding codes_of
codes-many [] = refl
codes-many (f ∷ fs) = ap suc (codes-many fs)

pub acts-land : (xs : List Act) (t : List ℕ) → all sound xs ≡ true → standing t ≡ length xs → length t < half → land_go (thinned t (moves_of xs)) 0 ≡ through (land_go t 0) (codes_of (fates_of xs))
unfolding fates_of
acts-land xs t s c h =
    thinned-land t (moves_of xs) (c ∙ sym (moves-length xs)) h ∙ ap (through (land_go t 0)) (land-fates xs 0 s (omega (arith, standing-most t, c, h)))

pub acts-stand : (xs : List Act) (ls : List (List ℕ)) (t : List ℕ) → all sound xs ≡ true → length xs ≡ length ls → standing t ≡ length ls → standing (thinned t (moves_of xs)) ≡ length (apply xs ls)
acts-stand xs ls t s q c = thinned-standing t (moves_of xs) (c ∙ sym q ∙ sym (moves-length xs)) ∙ standing-outs xs s ∙ sym (outs-apply xs ls q)

-- after two lists of acts, the second for the lines that the first makes
pub both-land : (xs ys : List Act) (ls : List (List ℕ)) (t : List ℕ) → all sound xs ≡ true → all sound ys ≡ true → length xs ≡ length ls → length ys ≡ length (apply xs ls) → standing t ≡ length ls → length t < half →
    land_go (thinned (thinned t (moves_of xs)) (moves_of ys)) 0 ≡ through (land_go t 0) (codes_of (follow (fates_of xs) (fates_of ys)))
both-land xs ys ls t s u q p c h =
    let t₁ : List ℕ = thinned t (moves_of xs) in
    let few : length ls < half = omega (arith, standing-most t, c, h) in
    let less : length ys < half = omega (arith, p, apply-length xs ls, few) in
    acts-land ys t₁ u (acts-stand xs ls t s q c ∙ sym p) (omega (arith, thinned-length t (moves_of xs), h))
    ∙ ap (λ (l : List ℕ). through l (codes_of (fates_of ys))) (acts-land xs t s (c ∙ sym q) h)
    ∙ through-both (land_go t 0) (codes_of (fates_of xs)) (codes_of (fates_of ys)) (omega (arith, codes-many (fates_of ys), fates-many ys, less))
    ∙ ap (through (land_go t 0)) (through-follow (fates_of xs) (fates_of ys) (acts-under xs (omega (arith, q, few))) (acts-under ys less) (omega (arith, fates-many ys, less)))

-- ---- pass 2: its own acts, then those of declarations

pub marks-many : (R : Reading) (ls : List (List ℕ)) → length (once_marks R ls) ≡ length ls
marks-many R ls = ap length (sym (marks-of R ls)) ∙ marks-length R ls (tops (block_paths ls)) (flags_of (inside_loop ls))

pub once-many : (R : Reading) (ls : List (List ℕ)) → length (once_acts R ls) ≡ length ls
once-many R ls = sym (moves-length (once_acts R ls)) ∙ ap length (once-laws.once-moves R ls) ∙ once-laws.moves-many (once_marks R ls) ∙ marks-many R ls

module _ (R : Reading) (ls : List (List ℕ)) {n r : ℕ} {m₀ m b b' : List ℕ} (e : n ≡ length ls) (f : Filled m₀ (once_marks R ls) m (length (once_marks R ls))) (w : Wrote b 0 (move_marks (take n m)) b' r) where
  once-front : take n b' ≡ moves_of (once_acts R ls)
  once-front =
      let c : n ≡ length (once_marks R ls) = omega (arith, e, marks-many R ls) in
      let q : take n m ≡ once_marks R ls = ap (λ (j : ℕ). take j m) c ∙ filled-take f in
      let d : n ≡ r = omega (arith, w.place, once-laws.moves-many (take n m), ap length q, c) in
      ap (λ (j : ℕ). take j b') d ∙ wrote-part w ∙ ap move_marks q ∙ sym (once-laws.once-moves R ls)

  -- as many lines stand as come out
  pub once-stands : {s : ℕ} → s ≡ standing (take n b') → s ≡ length (apply (once_acts R ls) ls)
  once-stands z = z ∙ ap standing once-front ∙ standing-outs (once_acts R ls) (once-laws.once-sound R ls).0 ∙ sym (outs-apply (once_acts R ls) ls (once-many R ls))

  pub once-trail : (t : List ℕ) {s : ℕ} {p p' t' t'' : List ℕ} → s ≡ standing (take n b') → Wrote p 0 (moves_of (prune_decls_acts (apply (once_acts R ls) ls))) p' (length (apply (once_acts R ls) ls)) →
      t' ≡ thinned t (take n b') → t'' ≡ thinned t' (take s p') → t'' ≡ thinned (thinned t (moves_of (once_acts R ls))) (moves_of (prune_decls_acts (apply (once_acts R ls) ls)))
  once-trail t {s} {p} {p'} {t'} {t''} a v y z =
      z ∙ ap (λ (l : List ℕ). thinned l (take s p')) (y ∙ ap (thinned t) once-front)
      ∙ ap (thinned (thinned t (moves_of (once_acts R ls)))) (ap (λ (j : ℕ). take j p') (once-stands a) ∙ wrote-part v)

-- ---- a text within bounds has few lines

pub lines-most : (ls : List (List ℕ)) → length ls ≤ length (unlines ls)
unfolding unlines
lines-most [] = omega arith
lines-most (l ∷ ls) = let h = lines-most ls in omega (arith, length-append l (10 ∷ unlines ls))

pub lines-half : {L : Limits} {s : List ℕ} → Bounded L s → length (lines_of s) < half
lines-half {L} {s} r = omega (arith, lines-most (lines_of s), room-lines r, r.sane.bytes-reach)
