-- Laws of what one line of `prune_dead_temps` asks and becomes, and of its loop. Assumes nothing.
use Rattle.std.proofs.Common.{◌≡◌, ℕ, zero, suc, ◌+◌, ◌-◌, ◌<◌, ◌≤◌, min, Bool, true, false, cond, not, ◌&&◌, eqb, List, [], ◌∷◌, ◌++◌, length, get_or, take, drop, sym, refl, ap, ◌∙◌, arith, length-append, ne_eqb}
use borrow.Author.Tests.{eqb-false, not-true}
use Rattle.lines.specs.Lf.{part, up_to, prefixed, lines_of, unlines}
use Rattle.lines.specs.Inner.Out.{put_at, Wrote}
use Rattle.lines.specs.Acts.{Act, keep, gone, act, apply}
use Rattle.lines.proofs.Tests.{and-false, and-true, and_left, and_right}
use Rattle.lines.proofs.LfLaws.{lines-at, lines_end}
use Rattle.lines.proofs.ActLaws.{unlines-append}
use Rattle.lines.proofs.OutLaws.{Writing, writing_start, writing-as, writing-room, writing-put, writing-end, wrote_as}
use Rattle.origins.specs.Inner.Codes.{move_of, moves_of, note_of}
use Rattle.origins.proofs.Notes.{plainly, note-act, moves-length, moves-end}
use Rattle.text.specs.Trim.{lead, from_of, end_white, to_of, trim_of}
use Rattle.names.specs.Names.{is_temp}
use Rattle.parse.specs.Inner.Parse.{plain_byte}
use Rattle.parse.proofs.PlainLine.{trim-other}
use Rattle.expr.specs.Pure.{cut_in}
use Rattle.expr.proofs.QuoteLaws.{cut-length}
use Rattle.reading.specs.Reading.{Reading, pure_in}
use Rattle.reading.specs.Assign.{unended, is_assign, left_of, right_of}
use Rattle.reading.proofs.AssignLaws.{part-le, trim-le, right_le}
use Rattle.temps.specs.Temps.{declared_in, temp_read, dead_temp, temp_act, temp_acts, prune_dead_temps_acts, prune_dead_temps}
use Rattle.temps.specs.Inner.Scratch.{temp_goes, temp_text, scratch_line, temp_scratch}

-- ---- a line whose first byte is no white space and no `t` stores no temp

temp-first : (s : List ℕ) → (get_or s 0 0 ≡ 116 → ⊥) → is_temp s ≡ false
unfolding is_temp prefixed
temp-first [] n = refl
temp-first (x ∷ s) n = rw (ne_eqb 116 x (λ e. n (sym e)))

empty-temp : is_temp (trim_of []) ≡ false
unfolding is_temp prefixed trim_of from_of to_of lead end_white
empty-temp = refl

taken-temp : (c : ℕ) → plain_byte c ≡ true → (c ≡ 116 → ⊥) → (r : List ℕ) (k m : ℕ) → is_temp (trim_of (take k (take m (c ∷ r)))) ≡ false
taken-temp c t n r zero m = empty-temp
taken-temp c t n r (suc k) zero = empty-temp
taken-temp c t n r (suc k) (suc m) = let y : List ℕ = c ∷ take k (take m r) in temp-first (trim_of y) (trim-other c 116 t (λ z. absurd (omega arith)) n y refl)

left_other : (t : List ℕ) (c : ℕ) → c ≡ get_or t 0 0 → plain_byte c && not (eqb c 116) ≡ true → is_temp (left_of t) ≡ false
unfolding left_of up_to
left_other [] c p h = empty-temp
left_other (x ∷ r) c p h =
    let k : plain_byte c ≡ true = and_left (plain_byte c) (not (eqb c 116)) h in
    let n : eqb c 116 ≡ false = not-true (eqb c 116) (and_right (plain_byte c) (not (eqb c 116)) h) in
    taken-temp x (ap (λ (y : ℕ). plain_byte y) (sym p) ∙ k) (λ z. eqb-false c 116 n (p ∙ z)) r (up_to 61 (unended (x ∷ r))) (length (x ∷ r) - 1)

-- ---- one line

-- t is the trimmed line, and x its left side
module _ (R : Reading) (ls : List (List ℕ)) (l t : List ℕ) (p : t ≡ trim_of l) where
  -- no assignment
  pub goes_other : is_assign t ≡ false → temp_goes R ls l ≡ false
  unfolding temp_goes
  goes_other e = rw (← p, e)

  -- an assignment of what is no temp
  pub goes-name : (x : List ℕ) → is_assign t ≡ true → x ≡ left_of t → is_temp x ≡ false → temp_goes R ls l ≡ false
  unfolding temp_goes
  goes-name x e q d = rw (← p, e, ← q, d)

  -- a line that begins otherwise
  pub goes_first : (c : ℕ) → c ≡ get_or t 0 0 → plain_byte c && not (eqb c 116) ≡ true → temp_goes R ls l ≡ false
  goes_first c q h = go (is_assign t) refl
    where
      go : (b : Bool) → is_assign t ≡ b → temp_goes R ls l ≡ false
      go true e = goes-name (left_of t) e refl (left_other t c q h)
      go false e = goes_other e

  -- a store of a temp, of a value that is not pure, or that is
  module _ (x v : List ℕ) (e : is_assign t ≡ true) (q : x ≡ left_of t) (d : is_temp x ≡ true) (z : v ≡ right_of t) where
    pub goes-impure : pure_in R v ≡ false → temp_goes R ls l ≡ false
    unfolding temp_goes
    goes-impure f = rw (← p, e, ← q, d, ← z, f) (and-false (declared_in x ls && not (temp_read x ls)))

    pub goes-pure : pure_in R v ≡ true → temp_goes R ls l ≡ declared_in x ls && not (temp_read x ls)
    unfolding temp_goes
    goes-pure f = rw (← p, e, ← q, d, ← z, f) (and-true (declared_in x ls && not (temp_read x ls)))

-- what it leaves in the scratch d
module _ (k : Bool) (d l t : List ℕ) (p : t ≡ trim_of l) where
  pub scratch-other : is_assign t ≡ false → scratch_line k l d ≡ d
  unfolding scratch_line
  scratch-other e = rw (← p, e)

  pub scratch-store : (b : Bool) (x : List ℕ) → is_assign t ≡ true → x ≡ left_of t → is_temp x ≡ b → scratch_line k l d ≡ cond b (put_at d 0 (cut_in k (right_of t))) d
  unfolding scratch_line
  scratch-store b x e q g = rw (← p, e, ← q, g)

  pub scratch-first : (c : ℕ) → c ≡ get_or t 0 0 → plain_byte c && not (eqb c 116) ≡ true → scratch_line k l d ≡ d
  scratch-first c q h = go (is_assign t) refl
    where
      go : (b : Bool) → is_assign t ≡ b → scratch_line k l d ≡ d
      go true e = scratch-store false (left_of t) e refl (left_other t c q h)
      go false e = scratch-other e

pub text-by : (R : Reading) (ls : List (List ℕ)) (l : List ℕ) (b : Bool) → temp_goes R ls l ≡ b → temp_text R ls l ≡ cond b [] (l ++ 10 ∷ [])
unfolding temp_text
text-by R ls l b e = rw e

-- a value without its comments fits where its line does
pub value_room : (k : Bool) (l t v : List ℕ) → t ≡ trim_of l → v ≡ right_of t → length (cut_in k v) ≤ length l
value_room k l t v p q = omega (arith, cut-length k v, ap length q, right_le t, ap length p, trim-le l)

-- ---- the lines that are still to come, as bytes

abbrev to_go : Reading → List (List ℕ) → List (List ℕ) → List ℕ
to_go R ls ms = unlines (apply (temp_acts R ls ms) ms)

act-text : (R : Reading) (ls : List (List ℕ)) (l : List ℕ) → unlines (act (temp_act R ls l) l) ≡ temp_text R ls l
unfolding temp_text temp_act temp_goes act unlines
act-text R ls l = go (is_assign (trim_of l) && (dead_temp (left_of (trim_of l)) ls && pure_in R (right_of (trim_of l))))
  where
    go : (b : Bool) → unlines (act (cond b gone keep) l) ≡ cond b [] (l ++ 10 ∷ [])
    go true = refl
    go false = refl

go-line : (R : Reading) (ls : List (List ℕ)) (m : List ℕ) (ms : List (List ℕ)) → to_go R ls (m ∷ ms) ≡ temp_text R ls m ++ to_go R ls ms
unfolding temp_acts apply
go-line R ls m ms =
    unlines-append (act (temp_act R ls m) m) (apply (temp_acts R ls ms) ms) ∙ ap (λ (t : List ℕ). t ++ to_go R ls ms) (act-text R ls m)

go-none : (R : Reading) (ls : List (List ℕ)) → to_go R ls [] ≡ []
unfolding temp_acts apply unlines
go-none R ls = refl

go_all : (R : Reading) (ls : List (List ℕ)) → unlines (prune_dead_temps R ls) ≡ to_go R ls ls
unfolding prune_dead_temps prune_dead_temps_acts
go_all R ls = refl

-- ---- the moves of lines that are still to come

abbrev to_move : Reading → List (List ℕ) → List (List ℕ) → List ℕ
to_move R ls ms = moves_of (temp_acts R ls ms)

acts-length : (R : Reading) (ls ms : List (List ℕ)) → length (temp_acts R ls ms) ≡ length ms
unfolding temp_acts
acts-length R ls [] = refl
acts-length R ls (m ∷ ms) = ap suc (acts-length R ls ms)

pub temps-length : (R : Reading) (ls : List (List ℕ)) → length (prune_dead_temps_acts R ls) ≡ length ls
unfolding prune_dead_temps_acts
temps-length R ls = acts-length R ls ls

move-line : (R : Reading) (ls : List (List ℕ)) (m : List ℕ) (ms : List (List ℕ)) → to_move R ls (m ∷ ms) ≡ move_of (temp_act R ls m) ∷ to_move R ls ms
unfolding temp_acts moves_of
move-line R ls m ms = refl

move-none : (R : Reading) (ls : List (List ℕ)) → to_move R ls [] ≡ []
unfolding temp_acts moves_of
move-none R ls = refl

move_all : (R : Reading) (ls : List (List ℕ)) → moves_of (prune_dead_temps_acts R ls) ≡ to_move R ls ls
unfolding prune_dead_temps_acts
move_all R ls = refl

act-plain : (R : Reading) (ls : List (List ℕ)) (l : List ℕ) → plainly (temp_act R ls l) ≡ true
unfolding temp_act
act-plain R ls l = go (is_assign (trim_of l) && (dead_temp (left_of (trim_of l)) ls && pure_in R (right_of (trim_of l))))
  where
    go : (b : Bool) → plainly (cond b gone keep) ≡ true
    go true = refl
    go false = refl

scratch-line : (k : Bool) (m : List ℕ) (ms : List (List ℕ)) (d : List ℕ) → temp_scratch k (m ∷ ms) d ≡ temp_scratch k ms (scratch_line k m d)
unfolding temp_scratch
scratch-line k m ms d = refl

scratch-none : (k : Bool) (d : List ℕ) → temp_scratch k [] d ≡ d
unfolding temp_scratch
scratch-none k d = refl

-- ---- the loop of `prune_dead_temps`

pub record TempInv (R : Reading) (s : Bool) (t c₀ d₀ m₀ c d m : List ℕ) (i o n : ℕ) : Type 0 where
  pub room : length t ≤ length c
  pub i≤ : i ≤ length t
  pub same-scratch : length c ≡ length c₀
  pub writing : Writing 0 (unlines (prune_dead_temps R (lines_of t))) (to_go R (lines_of t) (lines_of (drop i t))) d₀ d o
  pub memory : temp_scratch s (lines_of (drop i t)) c ≡ temp_scratch s (lines_of t) c₀
  pub noting : Writing 0 (moves_of (prune_dead_temps_acts R (lines_of t))) (to_move R (lines_of t) (lines_of (drop i t))) m₀ m n

pub temp-start : (R : Reading) (s : Bool) (t c d m : List ℕ) → length t ≤ length c → length (unlines (prune_dead_temps R (lines_of t))) ≤ length d → length (lines_of t) ≤ length m → TempInv R s t c d m c d m 0 0 0
temp-start R s t c d m h k l = record {
  room = h;
  i≤ = omega arith;
  same-scratch = refl;
  writing = writing-as (go_all R (lines_of t)) (writing_start 0 (unlines (prune_dead_temps R (lines_of t))) d (omega arith));
  memory = refl;
  noting = writing-as (move_all R (lines_of t)) (writing_start 0 (moves_of (prune_dead_temps_acts R (lines_of t))) m (omega (arith, moves-length (prune_dead_temps_acts R (lines_of t)), temps-length R (lines_of t))));
}

module _ {R : Reading} {s : Bool} {t c₀ d₀ m₀ c d m : List ℕ} {i o n : ℕ} (h : TempInv R s t c₀ d₀ m₀ c d m i o n) where
  module _ (e : ℕ) (k : i < length t) (q : e ≡ i + up_to 10 (drop i t)) where
    -- the next line and what follows it
    next : Writing 0 (unlines (prune_dead_temps R (lines_of t))) (temp_text R (lines_of t) (part i e t) ++ to_go R (lines_of t) (lines_of (drop (min (e + 1) (length t)) t))) d₀ d o
    next = writing-as (ap (λ (ms : List (List ℕ)). to_go R (lines_of t) ms) (lines-at t i e k q) ∙ go-line R (lines_of t) _ _) h.writing

    pub temp-room : (length (part i e t) ≤ length c) × (o + length (temp_text R (lines_of t) (part i e t)) ≤ length d)
    temp-room = (
      omega (arith, part-le i e t, h.room),
      omega (arith, writing-room next, length-append (temp_text R (lines_of t) (part i e t)) (to_go R (lines_of t) (lines_of (drop (min (e + 1) (length t)) t)))),
    )

    next-move : Writing 0 (moves_of (prune_dead_temps_acts R (lines_of t))) ((move_of (temp_act R (lines_of t) (part i e t)) ∷ []) ++ to_move R (lines_of t) (lines_of (drop (min (e + 1) (length t)) t))) m₀ m n
    next-move = writing-as (ap (λ (ms : List (List ℕ)). to_move R (lines_of t) ms) (lines-at t i e k q) ∙ move-line R (lines_of t) _ _) h.noting

    pub move-room : n < length m
    move-room = omega (arith, writing-room next-move, length-append (move_of (temp_act R (lines_of t) (part i e t)) ∷ []) (to_move R (lines_of t) (lines_of (drop (min (e + 1) (length t)) t))))

    pub temp-on : (c' d' m' : List ℕ) (r j n' : ℕ) → Wrote d o (temp_text R (lines_of t) (part i e t)) d' r → c' ≡ scratch_line s (part i e t) c → length c' ≡ length c → Wrote m n (note_of o r ∷ []) m' n' → j ≡ min (e + 1) (length t) →
        TempInv R s t c₀ d₀ m₀ c' d' m' j r n'
    temp-on c' d' m' r j n' w x g v z = record {
      room = omega (arith, h.room);
      i≤ = omega arith;
      same-scratch = g ∙ h.same-scratch;
      writing = rw z (writing-put next w);
      memory =
          rw (z, x)
          (sym (scratch-line s (part i e t) (lines_of (drop (min (e + 1) (length t)) t)) c)
          ∙ ap (λ (ms : List (List ℕ)). temp_scratch s ms c) (sym (lines-at t i e k q))
          ∙ h.memory);
      noting =
          let a : Act = temp_act R (lines_of t) (part i e t) in
          let y : note_of o r ≡ move_of a = note-act a (part i e t) d d' o r (act-plain R (lines_of t) (part i e t)) (wrote_as (sym (act-text R (lines_of t) (part i e t))) w) in
          rw z (writing-put next-move (wrote_as (ap (λ (b : ℕ). b ∷ []) y) v));
    }

  pub temp-end : length t ≤ i → Wrote d₀ 0 (unlines (prune_dead_temps R (lines_of t))) d o
  temp-end k = writing-end (writing-as (ap (λ (ms : List (List ℕ)). to_go R (lines_of t) ms) (lines_end t i k) ∙ go-none R (lines_of t)) h.writing)

  pub temp-memory : length t ≤ i → c ≡ temp_scratch s (lines_of t) c₀
  temp-memory k = sym (ap (λ (ms : List (List ℕ)). temp_scratch s ms c) (lines_end t i k) ∙ scratch-none s c) ∙ h.memory

  pub temp-moves : length t ≤ i → Wrote m₀ 0 (moves_of (prune_dead_temps_acts R (lines_of t))) m (length (lines_of t))
  temp-moves k =
      moves-end (prune_dead_temps_acts R (lines_of t)) (length (lines_of t)) (temps-length R (lines_of t))
      (writing-end (writing-as (ap (λ (ms : List (List ℕ)). to_move R (lines_of t) ms) (lines_end t i k) ∙ move-none R (lines_of t)) h.noting))
