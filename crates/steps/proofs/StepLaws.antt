-- Laws of the passes by number: which pass a number is, and what it leaves in the work buffers. Assumes nothing.
use Prim.Native.Nat.{ℕ, ◌+◌}
use mathlib.Core.Path.{◌≡◌, refl, ap, ◌∙◌}
use mathlib.Core.Bool.{Bool, false}
use mathlib.Core.List.{List, ◌++◌}
use native.Mathlib.Omega.{arith}
use borrow.Author.Tests.{eq-eqb, ne_eqb}
use lib.ListN.{length, drop, replicate}
use Rattle.lines.specs.Lf.{lines_of, unlines}
use Rattle.lines.specs.Inner.Out.{put_at, Wrote}
use Rattle.lines.specs.Acts.{apply}
use Rattle.lexical.specs.Joined.{rests_in}
use Rattle.place.specs.Inner.Fill.{Filled}
use Rattle.place.specs.Inner.Parents.{ids_parents, path_parents}
use Rattle.reading.specs.Reading.{Reading, strict_at, joined_at, reading_by, reading_of}
use Rattle.globals.specs.Globals.{remove_globals}
use Rattle.temps.specs.Temps.{prune_dead_temps}
use Rattle.temps.specs.Inner.Scratch.{temp_scratch}
use Rattle.once.specs.Once.{once_acts, optimize_once}
use Rattle.phis.specs.Phis.{round, prune_dead_phis}
use Rattle.phis.specs.Inner.Rounds.{longest}
use Rattle.calls.specs.LeavesOf.{leaves_of, starts_below, blocks_by}
use Rattle.calls.specs.Calls.{rebuild_calls}
use Rattle.decls.specs.Decls.{prune_decls}
use Rattle.bind.specs.Bind.{bind_declarators}
use Rattle.steps.specs.Step.{step_of}
use Rattle.steps.specs.Inner.Left.{left_c, left_d, left_e, left_u, Left, cleared, uses_t, Cleared, Few}

-- ---- which pass a number is

module _ (R : Reading) (k : ℕ) (ls : List (List ℕ)) where
  pub step-0 : k ≡ 0 → step_of R k ls ≡ remove_globals ls
  unfolding step_of
  step-0 e = rw (eq-eqb k 0 e)

  pub step-1 : k ≡ 1 → step_of R k ls ≡ prune_dead_temps R ls
  unfolding step_of
  step-1 e = rw e

  pub step-2 : k ≡ 2 → step_of R k ls ≡ optimize_once R ls
  unfolding step_of
  step-2 e = rw e

  pub step-3 : k ≡ 3 → step_of R k ls ≡ prune_dead_phis R ls
  unfolding step_of
  step-3 e = rw e

  pub step-4 : k ≡ 4 → step_of R k ls ≡ rebuild_calls (leaves_of R) ls
  unfolding step_of
  step-4 e = rw e

  pub step-5 : k ≡ 5 → step_of R k ls ≡ prune_decls ls
  unfolding step_of
  step-5 e = rw e

  pub step-6 : k ≡ 6 → step_of R k ls ≡ bind_declarators R ls
  unfolding step_of
  step-6 e = rw e

  pub step-else : (k ≡ 0 → ⊥) → (k ≡ 1 → ⊥) → (k ≡ 2 → ⊥) → (k ≡ 3 → ⊥) → (k ≡ 4 → ⊥) → (k ≡ 5 → ⊥) → (k ≡ 6 → ⊥) → step_of R k ls ≡ ls
  unfolding step_of
  step-else a b c d e f g = rw (ne_eqb k 0 a, ne_eqb k 1 b, ne_eqb k 2 c, ne_eqb k 3 d, ne_eqb k 4 e, ne_eqb k 5 f, ne_eqb k 6 g)

-- ---- two passes that ask no value's purity: strict or not, they are the same

pub calls-mode : (strict joined : Bool) (ls : List (List ℕ)) → rebuild_calls (leaves_of (reading_by false joined)) ls ≡ rebuild_calls (leaves_of (reading_by strict joined)) ls
unfolding starts_below blocks_by
calls-mode strict joined ls = refl

pub bind-mode : (strict joined : Bool) (ls : List (List ℕ)) → bind_declarators (reading_by false joined) ls ≡ bind_declarators (reading_by strict joined) ls
unfolding bind_declarators
bind-mode strict joined ls = refl

-- ---- what a pass leaves

filled_at : {d xs d' : List ℕ} {r : ℕ} → Filled d xs d' r → d' ≡ put_at d 0 xs
unfolding put_at
filled_at {d} {xs} f = let z : length xs ≡ 0 + length xs = omega arith in f.holds ∙ ap (λ (n : ℕ). xs ++ drop n d) z

module _ {mode : ℕ} {s c d e f g q r : List ℕ} where
  pub few-0 : Few mode 0 s c d e f g q r c d e f g q r
  unfolding left_c left_d left_e cleared
  few-0 = record { c-left = refl; d-left = refl; e-left = refl; f-left = refl; g-left = refl; q-left = refl; r-left = refl }

  pub few-1 : {c' f' g' q' : List ℕ} → c' ≡ left_c mode 1 s c → (f' ≡ replicate (length f) 0) × ((g' ≡ replicate (length g) 0) × (q' ≡ replicate (length q) 0)) → Few mode 1 s c d e f g q r c' d e f' g' q' r
  unfolding left_d left_e cleared
  few-1 b z = record { c-left = b; d-left = refl; e-left = refl; f-left = z.0; g-left = z.1.0; q-left = z.1.1; r-left = refl }

  pub few-3 : {c' d' e' f' : List ℕ} → (c' ≡ left_c mode 3 s c) × ((d' ≡ left_d mode 3 s d) × (e' ≡ left_e mode 3 s e)) → f' ≡ replicate (length f) 0 → Few mode 3 s c d e f g q r c' d' e' f' g q r
  unfolding cleared
  few-3 b z = record { c-left = b.0; d-left = b.1.0; e-left = b.1.1; f-left = z; g-left = refl; q-left = refl; r-left = refl }

  pub few-5 : {r' : List ℕ} → r' ≡ replicate (length r) 0 → Few mode 5 s c d e f g q r c d e f g q r'
  unfolding left_c left_d left_e cleared
  few-5 z = record { c-left = refl; d-left = refl; e-left = refl; f-left = refl; g-left = refl; q-left = refl; r-left = z }

  pub few-else : {k : ℕ} → (k ≡ 1 → ⊥) → (k ≡ 3 → ⊥) → (k ≡ 5 → ⊥) → (k ≡ 2 → ⊥) × ((k ≡ 4 → ⊥) × (k ≡ 6 → ⊥)) → Few mode k s c d e f g q r c d e f g q r
  unfolding left_c left_d left_e cleared
  few-else {k} n1 n3 n5 n = record {
    c-left = rw (ne_eqb k 1 n1, ne_eqb k 2 n.0, ne_eqb k 3 n3, ne_eqb k 4 n.1.0);
    d-left = rw (ne_eqb k 2 n.0, ne_eqb k 3 n3, ne_eqb k 4 n.1.0);
    e-left = rw (ne_eqb k 3 n3, ne_eqb k 4 n.1.0);
    f-left = rw (ne_eqb k 1 n1, ne_eqb k 2 n.0, ne_eqb k 3 n3, ne_eqb k 4 n.1.0, ne_eqb k 6 n.1.1);
    g-left = rw (ne_eqb k 1 n1, ne_eqb k 2 n.0, ne_eqb k 6 n.1.1);
    q-left = rw (ne_eqb k 1 n1, ne_eqb k 2 n.0, ne_eqb k 4 n.1.0, ne_eqb k 6 n.1.1);
    r-left = rw (ne_eqb k 2 n.0, ne_eqb k 4 n.1.0, ne_eqb k 5 n5, ne_eqb k 6 n.1.1);
  }

  -- at the number that is k
  pub few-as : {k j : ℕ} {c' d' e' f' g' q' r' : List ℕ} → k ≡ j → Few mode j s c d e f g q r c' d' e' f' g' q' r' → Few mode k s c d e f g q r c' d' e' f' g' q' r'
  few-as z w = rw z w

-- what every step leaves
abbrev pub Leaves : (mode k : ℕ) → (s c d e u f g h v w x p q r c' d' e' u' f' g' h' v' w' x' p' q' r' : List ℕ) → Type 0
Leaves mode k s c d e u f g h v w x p q r c' d' e' u' f' g' h' v' w' x' p' q' r' =
    Left mode k s c d e u c' d' e' u' × Cleared k f g h v w x p q r f' g' h' v' w' x' p' q' r'

module _ {mode : ℕ} {s c d e u f g h v w x p q r : List ℕ} where
  pub leaves-2 : {c' d' u' f' g' h' v' w' x' p' q' r' : List ℕ} → (c' ≡ left_c mode 2 s c) × ((d' ≡ left_d mode 2 s d) × (u' ≡ left_u mode 2 s u)) →
      (f' ≡ replicate (length f) 0) × ((g' ≡ replicate (length g) 0) × ((h' ≡ replicate (length h) 0) × ((v' ≡ replicate (length v) 0) × ((w' ≡ replicate (length w) 0) × ((x' ≡ replicate (length x) 0)
      × ((p' ≡ replicate (length p) 0) × ((q' ≡ replicate (length q) 0) × (r' ≡ replicate (length r) 0)))))))) →
      Leaves mode 2 s c d e u f g h v w x p q r c' d' e u' f' g' h' v' w' x' p' q' r'
  unfolding left_e cleared
  leaves-2 b z = (
    record { c-left = b.0; d-left = b.1.0; e-left = refl; u-left = b.1.1 },
    record {
      f-left = z.0;
      g-left = z.1.0;
      h-left = z.1.1.0;
      v-left = z.1.1.1.0;
      w-left = z.1.1.1.1.0;
      x-left = z.1.1.1.1.1.0;
      p-left = z.1.1.1.1.1.1.0;
      q-left = z.1.1.1.1.1.1.1.0;
      r-left = z.1.1.1.1.1.1.1.1;
    },
  )

  pub leaves-4 : {c' d' e' u' f' v' w' x' p' q' r' : List ℕ} → (c' ≡ left_c mode 4 s c) × ((d' ≡ left_d mode 4 s d) × ((e' ≡ left_e mode 4 s e) × (u' ≡ left_u mode 4 s u))) →
      (f' ≡ replicate (length f) 0) × ((v' ≡ replicate (length v) 0) × ((w' ≡ replicate (length w) 0) × ((x' ≡ replicate (length x) 0)
      × ((p' ≡ replicate (length p) 0) × ((q' ≡ replicate (length q) 0) × (r' ≡ replicate (length r) 0)))))) →
      Leaves mode 4 s c d e u f g h v w x p q r c' d' e' u' f' g h v' w' x' p' q' r'
  unfolding cleared
  leaves-4 b z = (
    record { c-left = b.0; d-left = b.1.0; e-left = b.1.1.0; u-left = b.1.1.1 },
    record {
      f-left = z.0;
      g-left = refl;
      h-left = refl;
      v-left = z.1.0;
      w-left = z.1.1.0;
      x-left = z.1.1.1.0;
      p-left = z.1.1.1.1.0;
      q-left = z.1.1.1.1.1.0;
      r-left = z.1.1.1.1.1.1;
    },
  )

  pub leaves-6 : {u' f' g' p' q' r' : List ℕ} → u' ≡ left_u mode 6 s u →
      (f' ≡ replicate (length f) 0) × ((g' ≡ replicate (length g) 0) × ((p' ≡ replicate (length p) 0) × ((q' ≡ replicate (length q) 0) × (r' ≡ replicate (length r) 0)))) →
      Leaves mode 6 s c d e u f g h v w x p q r c d e u' f' g' h v w x p' q' r'
  unfolding left_c left_d left_e cleared
  leaves-6 b z = (
    record { c-left = refl; d-left = refl; e-left = refl; u-left = b },
    record {
      f-left = z.0;
      g-left = z.1.0;
      h-left = refl;
      v-left = refl;
      w-left = refl;
      x-left = refl;
      p-left = z.1.1.0;
      q-left = z.1.1.1.0;
      r-left = z.1.1.1.1;
    },
  )

  pub leaves-few : {k : ℕ} {c' d' e' f' g' p' q' r' : List ℕ} → (k ≡ 2 → ⊥) → (k ≡ 4 → ⊥) → (k ≡ 6 → ⊥) → Few mode k s c d e f g q r c' d' e' f' g' q' r' → p' ≡ replicate (length p) 0 →
      Leaves mode k s c d e u f g h v w x p q r c' d' e' u f' g' h v w x p' q' r'
  unfolding left_u cleared
  leaves-few {k} n2 n4 n6 y z = (
    record { c-left = y.c-left; d-left = y.d-left; e-left = y.e-left; u-left = rw (ne_eqb k 2 n2, ne_eqb k 4 n4, ne_eqb k 6 n6) },
    record {
      f-left = y.f-left;
      g-left = y.g-left;
      h-left = rw (ne_eqb k 2 n2);
      v-left = rw (ne_eqb k 2 n2, ne_eqb k 4 n4);
      w-left = rw (ne_eqb k 2 n2, ne_eqb k 4 n4);
      x-left = rw (ne_eqb k 2 n2, ne_eqb k 4 n4);
      p-left = z;
      q-left = y.q-left;
      r-left = y.r-left;
    },
  )

  -- at the number that is k
  pub leaves-as : {k j : ℕ} {c' d' e' u' f' g' h' v' w' x' p' q' r' : List ℕ} → k ≡ j → Leaves mode j s c d e u f g h v w x p q r c' d' e' u' f' g' h' v' w' x' p' q' r' → Leaves mode k s c d e u f g h v w x p q r c' d' e' u' f' g' h' v' w' x' p' q' r'
  leaves-as z y = rw z y

-- the table that passes 2 and 6 alone have
pub last-two : {k : ℕ} (t : List ℕ) {t' : List ℕ} → k ≡ 2 → t' ≡ replicate (length t) 0 → t' ≡ cleared (uses_t k) t
unfolding cleared
last-two {k} t e z = rw e z

pub last-six : {k : ℕ} (t : List ℕ) {t' : List ℕ} → k ≡ 6 → t' ≡ replicate (length t) 0 → t' ≡ cleared (uses_t k) t
unfolding cleared
last-six {k} t e z = rw e z

pub last-kept : {k : ℕ} (t : List ℕ) → (k ≡ 2 → ⊥) → (k ≡ 6 → ⊥) → t ≡ cleared (uses_t k) t
unfolding cleared
last-kept {k} t n2 n6 = rw (ne_eqb k 2 n2, ne_eqb k 6 n6)

-- by what the passes with tables ensure
pub temps-left : (mode : ℕ) (s c : List ℕ) {c' : List ℕ} → c' ≡ temp_scratch (strict_at mode) (lines_of s) c → c' ≡ left_c mode 1 s c
unfolding left_c
temps-left mode s c p = p

pub once-left : (mode : ℕ) (s : List ℕ) {c d u c' d' u' : List ℕ} {n m l : ℕ} → Wrote c 0 (replicate (length s) 0) c' n → Wrote d 0 (unlines (apply (once_acts (reading_of mode) (lines_of s)) (lines_of s))) d' m →
    Filled u (path_parents (lines_of s)) u' l → (c' ≡ left_c mode 2 s c) × ((d' ≡ left_d mode 2 s d) × (u' ≡ left_u mode 2 s u))
unfolding left_c left_d left_u
once-left mode s p q f = (p.holds, (q.holds, filled_at f))

pub phis-left : (mode : ℕ) (s : List ℕ) {c d e c' d' e' : List ℕ} {n m l : ℕ} → Wrote c 0 (replicate (longest (reading_of mode) s) 0) c' n → Wrote d 0 (unlines (round (reading_of mode) (lines_of s))) d' m →
    Wrote e 0 (unlines (round (reading_of mode) (round (reading_of mode) (lines_of s)))) e' l → (c' ≡ left_c mode 3 s c) × ((d' ≡ left_d mode 3 s d) × (e' ≡ left_e mode 3 s e))
unfolding left_c left_d left_e
phis-left mode s p q r = (p.holds, (q.holds, r.holds))

pub calls-left : (mode : ℕ) (s : List ℕ) {c d e u c' d' e' u' : List ℕ} {n m l o : ℕ} → Wrote e 0 (replicate (length (unlines (lines_of s))) 0) e' l → Wrote c 0 (replicate (length s) 0) c' n → Wrote d 0 (replicate (length s) 0) d' m →
    Filled u (ids_parents (rests_in (joined_at mode) (lines_of s))) u' o → (c' ≡ left_c mode 4 s c) × ((d' ≡ left_d mode 4 s d) × ((e' ≡ left_e mode 4 s e) × (u' ≡ left_u mode 4 s u)))
unfolding left_c left_d left_e left_u
calls-left mode s z p q f = (p.holds, (q.holds, (z.holds, filled_at f)))

pub bind_left : (mode : ℕ) (s : List ℕ) {u u' : List ℕ} {n : ℕ} → Filled u (ids_parents (rests_in (joined_at mode) (lines_of s))) u' n → u' ≡ left_u mode 6 s u
unfolding left_u
bind_left mode s f = filled_at f
