-- Laws of the removal: its loop, what it keeps, and that a line goes only for its reason. Assumes nothing.
use Prim.Native.Nat.{ℕ, suc, ◌+◌, ◌-◌, ◌≤◌, ◌<◌, min}
use mathlib.Core.Path.{◌≡◌, refl, sym, ap, ◌∙◌}
use mathlib.Core.Bool.{Bool, true, false, cond, not, ◌&&◌}
use mathlib.Core.List.{List, [], ◌∷◌, ◌++◌}
use native.Mathlib.Omega.{arith}
use borrow.Author.Tests.{eq-eqb, eqb-true, not-true, not-false}
use lib.Dec.{eqb}
use lib.ListN.{length, drop, replicate, length-append, length-take, length-drop}
use Rattle.lines.specs.Lf.{part, up_to, prefixed, lines_of, unlines, all}
use Rattle.lines.specs.Inner.Lf.{lacks, no_lf}
use Rattle.lines.specs.Inner.Out.{Wrote}
use Rattle.lines.specs.Acts.{keep, gone, act, apply}
use Rattle.lines.proofs.Tests.{no, and_left, and_right}
use Rattle.lines.proofs.LfLaws.{lines-at, lines_end, short, lacks-cons, front-lacks, rest-lacks}
use Rattle.lines.proofs.Lacking.{lines-lack}
use Rattle.lines.proofs.ActLaws.{keeps, apply-keep, act_no_lf, apply-no_lf, apply-length, unlines-append}
use Rattle.lines.proofs.OutLaws.{Writing, writing_start, writing-as, writing-room, writing-put, writing-end, wrote_as}
use Rattle.origins.specs.Inner.Codes.{move_of, moves_of, note_of}
use Rattle.origins.proofs.Notes.{plainly, note-act, moves-length, moves-end, stay-moves}
use Rattle.text.specs.Trim.{from_of, to_end, trim_of}
use Rattle.text.proofs.Trims.{trim-part}
use Rattle.weight.specs.Inner.Weight.{weight}
use Rattle.weight.proofs.Moves.{Fits, ended, kept, dropped, fits-weight}
use Rattle.globals.specs.Globals.{globals_word, interpreter_word, is_globals, globals_acts, remove_globals}
use Rattle.globals.specs.Inner.Globals.{globals_text}

-- ---- one line

-- t is the trimmed line
pub globals-first : (l t : List ℕ) → t ≡ trim_of l → prefixed globals_word t ≡ true → is_globals l ≡ true
unfolding is_globals
globals-first l t p h = rw (← p, h)

pub globals-second : (l t : List ℕ) → t ≡ trim_of l → prefixed globals_word t ≡ false → is_globals l ≡ prefixed interpreter_word t
unfolding is_globals
globals-second l t p h = rw (← p, h)

-- a line that is too short
pub globals-short : (l : List ℕ) → length l < 25 → is_globals l ≡ false
unfolding is_globals
globals-short l h =
    let k : length (trim_of l) < 25 = omega (arith, ap length (trim-part l), length-take (to_end l - from_of l) (drop (from_of l) l), length-drop (from_of l) l) in
    rw (short globals_word (trim_of l) k, short interpreter_word (trim_of l) (omega arith))

pub text-by : (l : List ℕ) (b : Bool) → is_globals l ≡ b → globals_text l ≡ cond b [] (l ++ 10 ∷ [])
unfolding globals_text
text-by l b e = rw e

-- ---- the lines that are still to come, as bytes

abbrev to_go : List (List ℕ) → List ℕ
to_go ms = unlines (apply (globals_acts ms) ms)

act-text : (l : List ℕ) → unlines (act (cond (is_globals l) gone keep) l) ≡ globals_text l
unfolding globals_text act unlines
act-text l = go (is_globals l)
  where
    go : (b : Bool) → unlines (act (cond b gone keep) l) ≡ cond b [] (l ++ 10 ∷ [])
    go true = refl
    go false = refl

go-line : (m : List ℕ) (ms : List (List ℕ)) → to_go (m ∷ ms) ≡ globals_text m ++ to_go ms
unfolding globals_acts apply
go-line m ms = unlines-append (act (cond (is_globals m) gone keep) m) (apply (globals_acts ms) ms) ∙ ap (λ (t : List ℕ). t ++ to_go ms) (act-text m)

go-none : to_go [] ≡ []
unfolding globals_acts apply unlines
go-none = refl

go_all : (ls : List (List ℕ)) → unlines (remove_globals ls) ≡ to_go ls
unfolding remove_globals
go_all ls = refl

-- ---- the loop of `remove_globals`

-- the moves of the lines that are still to come
abbrev to_move : List (List ℕ) → List ℕ
to_move ms = moves_of (globals_acts ms)

pub record RemoveInv (t d₀ d m₀ m : List ℕ) (i o k : ℕ) : Type 0 where
  pub i≤ : i ≤ length t
  pub writing : Writing 0 (unlines (remove_globals (lines_of t))) (to_go (lines_of (drop i t))) d₀ d o
  pub noting : Writing 0 (to_move (lines_of t)) (to_move (lines_of (drop i t))) m₀ m k

pub acts-length : (ms : List (List ℕ)) → length (globals_acts ms) ≡ length ms
unfolding globals_acts
acts-length [] = refl
acts-length (m ∷ ms) = ap suc (acts-length ms)

move-length : (ms : List (List ℕ)) → length (to_move ms) ≡ length ms
move-length ms = moves-length (globals_acts ms) ∙ acts-length ms

pub remove-start : (t d m : List ℕ) → length (unlines (remove_globals (lines_of t))) ≤ length d → length (lines_of t) ≤ length m → RemoveInv t d d m m 0 0 0
remove-start t d m k l = record {
  i≤ = omega arith;
  writing = writing-as (go_all (lines_of t)) (writing_start 0 (unlines (remove_globals (lines_of t))) d (omega arith));
  noting = writing_start 0 (to_move (lines_of t)) m (omega (arith, move-length (lines_of t)));
}

move-line : (m : List ℕ) (ms : List (List ℕ)) → to_move (m ∷ ms) ≡ move_of (cond (is_globals m) gone keep) ∷ to_move ms
unfolding globals_acts moves_of
move-line m ms = refl

line_plain : (b : Bool) → plainly (cond b gone keep) ≡ true
line_plain true = refl
line_plain false = refl

module _ {t d₀ d m₀ m : List ℕ} {i o k : ℕ} (h : RemoveInv t d₀ d m₀ m i o k) where
  module _ (e : ℕ) (x : i < length t) (q : e ≡ i + up_to 10 (drop i t)) where
    -- the next line and what follows it
    next : Writing 0 (unlines (remove_globals (lines_of t))) (globals_text (part i e t) ++ to_go (lines_of (drop (min (e + 1) (length t)) t))) d₀ d o
    next = writing-as (ap (λ (ms : List (List ℕ)). to_go ms) (lines-at t i e x q) ∙ go-line _ _) h.writing

    next-move : Writing 0 (to_move (lines_of t)) ((move_of (cond (is_globals (part i e t)) gone keep) ∷ []) ++ to_move (lines_of (drop (min (e + 1) (length t)) t))) m₀ m k
    next-move = writing-as (ap (λ (ms : List (List ℕ)). to_move ms) (lines-at t i e x q) ∙ move-line _ _) h.noting

    pub remove-room : o + length (globals_text (part i e t)) ≤ length d
    remove-room = omega (arith, writing-room next, length-append (globals_text (part i e t)) (to_go (lines_of (drop (min (e + 1) (length t)) t))))

    pub move-room : k < length m
    move-room = omega (arith, writing-room next-move, length-append (move_of (cond (is_globals (part i e t)) gone keep) ∷ []) (to_move (lines_of (drop (min (e + 1) (length t)) t))))

    pub remove-on : (d' m' : List ℕ) (r j n : ℕ) → Wrote d o (globals_text (part i e t)) d' r → Wrote m k (note_of o r ∷ []) m' n → j ≡ min (e + 1) (length t) → RemoveInv t d₀ d' m₀ m' j r n
    remove-on d' m' r j n w v z =
        let a = cond (is_globals (part i e t)) gone keep in
        let y : note_of o r ≡ move_of a = note-act a (part i e t) d d' o r (line_plain (is_globals (part i e t))) (wrote_as (sym (act-text (part i e t))) w) in
        record { i≤ = omega arith; writing = rw z (writing-put next w); noting = rw z (writing-put next-move (wrote_as (ap (λ (c : ℕ). c ∷ []) y) v)) }

  pub remove-end : length t ≤ i → Wrote d₀ 0 (unlines (remove_globals (lines_of t))) d o
  remove-end x = writing-end (writing-as (ap (λ (ms : List (List ℕ)). to_go ms) (lines_end t i x) ∙ go-none) h.writing)

  pub move-end : length t ≤ i → Wrote m₀ 0 (to_move (lines_of t)) m (length (lines_of t))
  unfolding globals_acts moves_of
  move-end x =
      moves-end (globals_acts (lines_of t)) (length (lines_of t)) (acts-length (lines_of t))
      (writing-end (writing-as (ap (λ (ms : List (List ℕ)). to_move ms) (lines_end t i x)) h.noting))

-- ---- a text without `_` stays as it is

word-lack : (w t : List ℕ) → lacks 95 t ≡ true → prefixed (95 ∷ w) t ≡ false
unfolding prefixed
word-lack w [] h = refl
word-lack w (x ∷ t) h = go (eqb 95 x) refl
  where
    go : (b : Bool) → eqb 95 x ≡ b → b && prefixed w t ≡ false
    go true e = let q : x ≡ 95 = sym (eqb-true 95 x e) in no (sym (lacks-cons 95 x t h).0 ∙ eq-eqb x 95 q)
    go false e = refl

line-lack : (l : List ℕ) → lacks 95 l ≡ true → is_globals l ≡ false
unfolding is_globals
line-lack l h =
    let k : lacks 95 (trim_of l) ≡ true = ap (lacks 95) (trim-part l) ∙ front-lacks 95 (to_end l - from_of l) (drop (from_of l) l) (rest-lacks 95 (from_of l) l h) in
    rw (word-lack (drop 1 globals_word) (trim_of l) k, word-lack (drop 1 interpreter_word) (trim_of l) k)

keep-acts : (ms : List (List ℕ)) → all (λ (l : List ℕ). not (not (lacks 95 l))) ms ≡ true → all keeps (globals_acts ms) ≡ true
unfolding globals_acts
keep-acts [] h = refl
keep-acts (m ∷ ms) h =
    rw (line-lack m (not-false _ (not-true _ (and_left (not (not (lacks 95 m))) _ h)))) (keep-acts ms (and_right (not (not (lacks 95 m))) _ h))

module _ (t : List ℕ) (h : lacks 95 t ≡ true) where
  pub keeps-all : all keeps (globals_acts (lines_of t)) ≡ true
  keeps-all =
      keep-acts (lines_of t) (lines-lack (λ (l : List ℕ). not (lacks 95 l)) (λ (x : ℕ) (s : List ℕ) e. ap not (lacks-cons 95 x s (not-false _ e)).1) (λ (n : ℕ) (s : List ℕ) e. ap not (front-lacks 95 n s (not-false _ e))) t (ap not h))

  pub lack-text : unlines (lines_of t) ≡ unlines (remove_globals (lines_of t))
  unfolding remove_globals
  lack-text = sym (ap unlines (apply-keep (globals_acts (lines_of t)) (lines_of t) (acts-length (lines_of t)) keeps-all))

  -- none of its lines moves
  pub lack-moves : {d d' : List ℕ} {r : ℕ} → Wrote d 0 (replicate (length (lines_of t)) 0) d' r → Wrote d 0 (moves_of (globals_acts (lines_of t))) d' (length (lines_of t))
  lack-moves w = stay-moves (globals_acts (lines_of t)) (length (lines_of t)) (acts-length (lines_of t)) keeps-all w

-- ---- what it keeps

acts-no_lf : (ms : List (List ℕ)) → all act_no_lf (globals_acts ms) ≡ true
unfolding globals_acts
acts-no_lf [] = refl
acts-no_lf (m ∷ ms) = go (is_globals m) (acts-no_lf ms)
  where
    go : (b : Bool) → all act_no_lf (globals_acts ms) ≡ true → all act_no_lf (cond b gone keep ∷ globals_acts ms) ≡ true
    go true h = h
    go false h = h

-- no LF comes into a line
pub remove-no_lf : (ls : List (List ℕ)) → no_lf ls ≡ true → no_lf (remove_globals ls) ≡ true
unfolding remove_globals
remove-no_lf ls h = apply-no_lf (globals_acts ls) ls (acts-no_lf ls) h

-- there are no more lines than before
pub remove-lines : (ls : List (List ℕ)) → length (remove_globals ls) ≤ length ls
unfolding remove_globals
remove-lines ls = apply-length (globals_acts ls) ls

acts-fit : (h : ℕ) (ms : List (List ℕ)) → Fits h [] (globals_acts ms) ms
unfolding globals_acts
acts-fit h [] = ended
acts-fit h (m ∷ ms) = go (is_globals m) (acts-fit h ms)
  where
    go : (b : Bool) → Fits h [] (globals_acts ms) ms → Fits h [] (cond b gone keep ∷ globals_acts ms) (m ∷ ms)
    go true f = dropped f
    go false f = kept f

-- the weight is not raised
pub remove-weight : (h : ℕ) (ls : List (List ℕ)) → weight h (unlines (remove_globals ls)) ≤ weight h (unlines ls)
unfolding remove_globals
remove-weight h ls = fits-weight (acts-fit h ls)

-- ---- nothing is lost unsaid

-- the lines that declare no globals, each as it was and in order
unfoldable pub others : List (List ℕ) → List (List ℕ)
others [] = []
others (l ∷ ls) = cond (is_globals l) (others ls) (l ∷ others ls)

pub remove-others : (ls : List (List ℕ)) → remove_globals ls ≡ others ls
unfolding remove_globals globals_acts apply act others
remove-others [] = refl
remove-others (m ∷ ms) = go (is_globals m) (remove-others ms)
  where
    go : (b : Bool) → apply (globals_acts ms) ms ≡ others ms → act (cond b gone keep) m ++ apply (globals_acts ms) ms ≡ cond b (others ms) (m ∷ others ms)
    go true h = h
    go false h = ap (λ (r : List (List ℕ)). m ∷ r) h
