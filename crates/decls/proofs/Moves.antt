-- The moves that `prune_decls` hands out: lines that it holds back stay, and a declaration is gone where nothing was written of it. Assumes nothing.
use Prim.Native.Nat.{ℕ, suc, ◌+◌, ◌≤◌, ◌<◌, min}
use mathlib.Core.Path.{◌≡◌, refl, sym, ap, ◌∙◌}
use mathlib.Core.Bool.{Bool, true, false, cond}
use mathlib.Core.List.{List, [], ◌∷◌, ◌++◌, append_assoc, append-nil}
use native.Mathlib.Omega.{arith}
use lib.Dec.{eqb}
use lib.ListN.{length, take, drop, replicate, length-append, length-replicate}
use Rattle.lines.specs.Lf.{part, up_to, lines_of, parts_of, cut_on}
use Rattle.lines.specs.Acts.{keep}
use Rattle.lines.specs.Inner.Out.{Wrote}
use Rattle.lines.proofs.LfLaws.{lines-at, lines_end, part_none}
use Rattle.lines.proofs.OutLaws.{Writing, writing_start, writing-as, writing-put, writing-room, writing-end, wrote_as, zeros-more}
use Rattle.origins.specs.Inner.Codes.{move_of, moves_of, note_of}
use Rattle.origins.proofs.Notes.{plainly, note-act, moves-length, moves-end}
use Rattle.text.specs.Trim.{from_of, trim_of}
use Rattle.parse.specs.Parse.{body_of, is_decl}
use Rattle.place.specs.Region.{region, region_at}
use Rattle.decls.specs.Decls.{decl_act, keep_names, act_of, acts_go, prune_decls_acts}
use Rattle.decls.specs.Inner.Decls.{line_text}
use Rattle.decls.specs.Inner.Seen.{Quiet, quiet_none, quiet-more}
use Rattle.decls.proofs.Chunks.{part_join, one_line, chunk-open}
use Rattle.decls.proofs.Passes.{acts-length}
use Rattle.decls.proofs.Writes.{PruneInv, RunAt, run-same, prune-quiet}

-- ---- lines after others

cut-some : (b : Bool) (y : ℕ) (ls : List (List ℕ)) → 0 < length (cut_on b y ls)
unfolding cut_on
cut-some true y ls = omega arith
cut-some false y [] = omega arith
cut-some false y (l ∷ ls) = omega arith

cut-more : (b : Bool) (y : ℕ) (ls ms : List (List ℕ)) → 0 < length ls → cut_on b y (ls ++ ms) ≡ cut_on b y ls ++ ms
unfolding cut_on
cut-more true y ls ms h = refl
cut-more false y [] ms h = absurd (omega arith)
cut-more false y (l ∷ ls) ms h = refl

lf-some : (l : List ℕ) → 0 < length (lines_of (l ++ 10 ∷ []))
unfolding lines_of
lf-some [] = cut-some (eqb 10 10) 10 []
lf-some (y ∷ l) = cut-some (eqb y 10) y (lines_of (l ++ 10 ∷ []))

-- what follows an LF are lines of its own
lines-lf : (l x : List ℕ) → lines_of (l ++ 10 ∷ x) ≡ lines_of (l ++ 10 ∷ []) ++ lines_of x
unfolding lines_of cut_on
lines-lf [] x = refl
lines-lf (y ∷ l) x =
    ap (cut_on (eqb y 10) y) (lines-lf l x) ∙ cut-more (eqb y 10) y (lines_of (l ++ 10 ∷ [])) (lines_of x) (lf-some l)

-- the lines of a text stand apart from those of what follows it
abbrev pub Apart : List ℕ → Type 0
Apart l = (x : List ℕ) → lines_of (l ++ x) ≡ lines_of l ++ lines_of x

apart_none : (t : List ℕ) (j : ℕ) → Apart (part j j t)
unfolding lines_of
apart_none t j = rw (part_none t j) (λ x. refl)

apart-lf : (a l : List ℕ) → Apart a → Apart (a ++ (l ++ 10 ∷ []))
apart-lf a l h = λ x.
    ap lines_of (append_assoc a (l ++ 10 ∷ []) x ∙ ap (λ (r : List ℕ). a ++ r) (append_assoc l (10 ∷ []) x))
    ∙ h (l ++ 10 ∷ x)
    ∙ ap (λ (r : List (List ℕ)). lines_of a ++ r) (lines-lf l x)
    ∙ sym (append_assoc (lines_of a) (lines_of (l ++ 10 ∷ [])) (lines_of x))
    ∙ ap (λ (r : List (List ℕ)). r ++ lines_of x) (sym (h (l ++ 10 ∷ [])))

-- no line
none-count : (t : List ℕ) (i : ℕ) → length (lines_of (part i i t)) ≡ 0
unfolding lines_of
none-count t i = ap (λ (r : List ℕ). length (lines_of r)) (part_none t i)

-- ---- the moves of lines that are still to come; `run` is the region of the line above

abbrev to_move : List (List ℕ) → List (List ℕ) → List ℕ
to_move ls run = moves_of (acts_go ls run)

move-cons : (l : List ℕ) (ls run : List (List ℕ)) → to_move (l ∷ ls) run ≡ move_of (act_of (region_at l ls run) l) ∷ to_move ls (region_at l ls run)
unfolding acts_go moves_of
move-cons l ls run = refl

move-nil : (run : List (List ℕ)) → to_move [] run ≡ []
unfolding acts_go moves_of
move-nil run = refl

move_all : (ls : List (List ℕ)) → moves_of (prune_decls_acts ls) ≡ to_move ls (region ls)
unfolding prune_decls_acts
move_all ls = refl

-- a line that is no declaration stays
move-keep : (run : List (List ℕ)) (l : List ℕ) → is_decl (trim_of l) ≡ false → move_of (act_of run l) ≡ 0
unfolding act_of move_of
move-keep run l e = rw e

-- a declaration stays, becomes another or is gone
pub decl-plain : (indent : List ℕ) (xs : List (List ℕ)) → plainly (decl_act indent xs) ≡ true
unfolding decl_act
decl-plain indent [] = refl
decl-plain indent (x ∷ xs) = refl

pub act-plain : (run : List (List ℕ)) (l : List ℕ) → plainly (act_of run l) ≡ true
unfolding act_of
act-plain run l = go (is_decl (trim_of l))
  where
    go : (b : Bool) → plainly (cond b (decl_act (take (from_of l) l) (keep_names run (parts_of 44 (body_of (trim_of l))))) keep) ≡ true
    go true = decl-plain (take (from_of l) l) (keep_names run (parts_of 44 (body_of (trim_of l))))
    go false = refl

-- one more of the lines that stay
held_more : (n : ℕ) (rest : List ℕ) → replicate n 0 ++ (0 ∷ rest) ≡ replicate (suc n) 0 ++ rest
held_more n rest = sym (append_assoc (replicate n 0) (0 ∷ []) rest) ∙ ap (λ (r : List ℕ). r ++ rest) (zeros-more n)

-- ---- the loop: the lines from c up to i are held, and not noted yet

pub record MoveInv (t m₀ m : List ℕ) (a c i k : ℕ) : Type 0 where
  pub c≤ : c ≤ i
  pub i≤ : i ≤ length t
  pub apart : i < length t → Apart (part c i t)
  pub noting : Writing 0 (moves_of (prune_decls_acts (lines_of t))) (replicate (length (lines_of (part c i t))) 0 ++ to_move (lines_of (drop i t)) (region (lines_of (drop a t)))) m₀ m k

pub move_start : (t m : List ℕ) → length (lines_of t) ≤ length m → MoveInv t m m 0 0 0 0
move_start t m h = record {
  c≤ = omega arith;
  i≤ = omega arith;
  apart = λ _. apart_none t 0;
  noting =
      writing-as
      (move_all (lines_of t) ∙ ap (λ (n : ℕ). replicate n 0 ++ to_move (lines_of t) (region (lines_of t))) (sym (none-count t 0)))
      (writing_start 0 (moves_of (prune_decls_acts (lines_of t))) m (omega (arith, moves-length (prune_decls_acts (lines_of t)), acts-length (lines_of t))));
}

module _ {t m₀ m : List ℕ} {a c i k : ℕ} (h : MoveInv t m₀ m a c i k) (e : ℕ) (b : i < length t) (q : e ≡ i + up_to 10 (drop i t)) (l : List ℕ) (z : l ≡ part i e t) {a' : ℕ} (v : RunAt t a i e a') where
  -- what is to come after the line
  abbrev to-come : List ℕ
  to-come = to_move (lines_of (drop (min (e + 1) (length t)) t)) (region (lines_of (drop a' t)))

  move_at : to_move (lines_of (drop i t)) (region (lines_of (drop a t))) ≡ move_of (act_of (region (lines_of (drop a' t))) l) ∷ to-come
  move_at =
      ap (λ (ls : List (List ℕ)). to_move ls (region (lines_of (drop a t)))) (lines-at t i e b q)
      ∙ move-cons (part i e t) (lines_of (drop (min (e + 1) (length t)) t)) (region (lines_of (drop a t)))
      ∙ ap (λ (r : List (List ℕ)). move_of (act_of r (part i e t)) ∷ to_move (lines_of (drop (min (e + 1) (length t)) t)) r) (sym v.lines)
      ∙ ap (λ (r : List ℕ). move_of (act_of (region (lines_of (drop a' t))) r) ∷ to-come) (sym z)

  module _ (i' : ℕ) (x : i' ≡ min (e + 1) (length t)) where
    count-more : length (lines_of (part c i' t)) ≡ suc (length (lines_of (part c i t)))
    count-more =
        let g : lines_of (part c i' t) ≡ lines_of (part c i t) ++ (part i e t ∷ []) =
        ap lines_of (part_join t c i i' h.c≤ (omega arith)) ∙ h.apart b (part i i' t) ∙ ap (λ (r : List (List ℕ)). lines_of (part c i t) ++ r) (one_line t c i e i' h.c≤ b q x) in
        omega (arith, ap length g, length-append (lines_of (part c i t)) (part i e t ∷ []))

    -- a line that is no declaration is held too
    pub move-pass : is_decl (trim_of l) ≡ false → MoveInv t m₀ m a' c i' k
    move-pass n = record {
      c≤ = omega (arith, h.c≤);
      i≤ = omega arith;
      apart = λ y. rw (sym (chunk-open t c i e i' h.c≤ b q x y)) (apart-lf (part c i t) (part i e t) (h.apart b));
      noting =
          let y : to_move (lines_of (drop i t)) (region (lines_of (drop a t))) ≡ 0 ∷ to-come = move_at ∙ ap (λ (j : ℕ). j ∷ to-come) (move-keep (region (lines_of (drop a' t))) l n) in
          writing-as
          (ap (λ (r : List ℕ). replicate (length (lines_of (part c i t))) 0 ++ r) y
          ∙ held_more (length (lines_of (part c i t))) to-come
          ∙ ap (λ (j : ℕ). replicate j 0 ++ to-come) (sym count-more)
          ∙ ap (λ (j : ℕ). replicate (length (lines_of (part c i' t))) 0 ++ to_move (lines_of (drop j t)) (region (lines_of (drop a' t)))) (sym x))
          h.noting;
    }

  -- before a declaration what is held is noted, and then the declaration; u is what is held, and run its region
  module _ (u : List ℕ) (y : u ≡ part c i t) (run : List ℕ) (s : lines_of run ≡ region (lines_of (drop a' t))) where
    decl-noting : Writing 0 (moves_of (prune_decls_acts (lines_of t))) ((replicate (length (lines_of u)) 0 ++ (move_of (act_of (lines_of run) l) ∷ [])) ++ to-come) m₀ m k
    decl-noting =
        writing-as
        (ap (λ (r : List ℕ). replicate (length (lines_of (part c i t))) 0 ++ r) move_at
        ∙ ap (λ (r : List ℕ). replicate (length (lines_of r)) 0 ++ (move_of (act_of (region (lines_of (drop a' t))) l) ∷ to-come)) (sym y)
        ∙ ap (λ (r : List (List ℕ)). replicate (length (lines_of u)) 0 ++ (move_of (act_of r l) ∷ to-come)) (sym s)
        ∙ sym (append_assoc (replicate (length (lines_of u)) 0) (move_of (act_of (lines_of run) l) ∷ []) to-come))
        h.noting

    pub move-room : k + length (lines_of u) < length m
    move-room =
        omega (
          arith,
          writing-room decl-noting,
          length-append (replicate (length (lines_of u)) 0 ++ (move_of (act_of (lines_of run) l) ∷ [])) to-come,
          length-append (replicate (length (lines_of u)) 0) (move_of (act_of (lines_of run) l) ∷ []),
          length-replicate {A = ℕ} (length (lines_of u)) 0,
        )

    pub move-on : {d d' m' : List ℕ} {o p k' i' : ℕ} → Wrote d o (line_text (lines_of run) l) d' p → Wrote m k (replicate (length (lines_of u)) 0 ++ (note_of o p ∷ [])) m' k' → i' ≡ min (e + 1) (length t) → MoveInv t m₀ m' a' i' i' k'
    move-on {d} {d'} {m'} {o} {p} {k'} {i'} w n f = record {
      c≤ = omega arith;
      i≤ = omega arith;
      apart = λ _. apart_none t i';
      noting =
          let g : note_of o p ≡ move_of (act_of (lines_of run) l) = note-act (act_of (lines_of run) l) l d d' o p (act-plain (lines_of run) l) w in
          writing-as
          (ap (λ (j : ℕ). to_move (lines_of (drop j t)) (region (lines_of (drop a' t)))) (sym f)
          ∙ ap (λ (j : ℕ). replicate j 0 ++ to_move (lines_of (drop i' t)) (region (lines_of (drop a' t)))) (sym (none-count t i')))
          (writing-put decl-noting (wrote_as (ap (λ (j : ℕ). replicate (length (lines_of u)) 0 ++ (j ∷ [])) g) n));
    }

-- lines that are neither headers nor declarations are held too
pub move-quiet : {t d₀ d m₀ m : List ℕ} {a c i j o k : ℕ} → PruneInv t d₀ d a c i o → MoveInv t m₀ m a c i k → Quiet t i j → MoveInv t m₀ m a c j k
move-quiet g h (quiet_none i) = h
move-quiet {t = t} g h (quiet-more i j e n w l q x y z) =
    move-pass (move-quiet g h w) e l q (part j e t) refl (run-same (prune-quiet g w) e l q (part j e t) refl x) n z y

-- at the end all that is held stays; x is the text from c on
module _ {t m₀ m : List ℕ} {a c i k : ℕ} (h : MoveInv t m₀ m a c i k) (b : length t ≤ i) (x : List ℕ) (y : x ≡ part c (length t) t) where
  end-noting : Writing 0 (moves_of (prune_decls_acts (lines_of t))) (replicate (length (lines_of x)) 0) m₀ m k
  end-noting =
      let g : i ≡ length t = omega (arith, h.i≤) in
      writing-as
      (ap (λ (ls : List (List ℕ)). replicate (length (lines_of (part c i t))) 0 ++ to_move ls (region (lines_of (drop a t)))) (lines_end t i b)
      ∙ ap (λ (r : List ℕ). replicate (length (lines_of (part c i t))) 0 ++ r) (move-nil (region (lines_of (drop a t))))
      ∙ append-nil (replicate (length (lines_of (part c i t))) 0)
      ∙ ap (λ (j : ℕ). replicate (length (lines_of (part c j t))) 0) g
      ∙ ap (λ (r : List ℕ). replicate (length (lines_of r)) 0) (sym y))
      h.noting

  pub move-end-room : k + length (lines_of x) ≤ length m
  move-end-room = omega (arith, writing-room end-noting, length-replicate {A = ℕ} (length (lines_of x)) 0)

  pub move-end : {m' : List ℕ} {r : ℕ} → Wrote m k (replicate (length (lines_of x)) 0) m' r → Wrote m₀ 0 (moves_of (prune_decls_acts (lines_of t))) m' (length (lines_of t))
  move-end v =
      moves-end (prune_decls_acts (lines_of t)) (length (lines_of t)) (acts-length (lines_of t))
      (writing-end (writing-put (writing-as (sym (append-nil (replicate (length (lines_of x)) 0))) end-noting) v))
