-- Laws of texts without the letters `phi`: they store, declare and mention no phi. Assumes nothing.
use Prim.Native.Nat.{ℕ, zero, suc, ◌+◌, ◌-◌, min}
use mathlib.Core.Path.{◌≡◌, refl, sym, ap, ◌∙◌}
use mathlib.Core.Bool.{Bool, true, false, cond, not, ◌&&◌, ◌||◌}
use mathlib.Core.List.{List, [], ◌∷◌, ◌++◌}
use native.Mathlib.Omega.{arith}
use lib.Dec.{eqb}
use lib.ListN.{length, take, drop}
use lib.Seq.{drop-drop}
use borrow.Author.Tests.{not-true}
use Rattle.lines.specs.Lf.{part, up_to, lines_of, parts_of, prefixed, holds, all}
use Rattle.lines.proofs.Tests.{no, and-false, and_left, and_right, eqb-sym}
use Rattle.lines.proofs.LfLaws.{rest_of, drop_min}
use Rattle.lines.proofs.Compare.{hold-here}
use Rattle.text.specs.Trim.{from_of, to_of, trim_start, trim_of}
use Rattle.names.specs.Names.{phi_word, phi_text, decimal, phi_of}
use Rattle.std.specs.declared.option.Option.{Option}
use Rattle.names.specs.declared.Phi.{Phi}
use Rattle.std.specs.declared.option.Option.TheVariants.{Some, None}
use Rattle.parse.specs.Parse.{body_of, is_let}
use Rattle.words.specs.Hits.{hits_go, hits}
use Rattle.reading.specs.Assign.{unended, is_assign, left_of}
use Rattle.lines.proofs.Lacking.{lines-lack}
use Rattle.phis.specs.Phis.{is_phi, all_phis, phi_decl, phi_store, phi_reads, any_dead}
use Rattle.phis.proofs.Searches.{phis-not}

-- ---- parts of a text

pub or_off : (a b : Bool) → a || b ≡ false → (a ≡ false) × (b ≡ false)
or_off true b h = no (sym h)
or_off false b h = (refl, h)

-- one test after another that both have
if-both : (b u v : Bool) → (u ≡ false → v ≡ false) → b && u ≡ false → b && v ≡ false
if-both true u v f h = f h
if-both false u v f h = refl

prefix-take : (p s : List ℕ) (n : ℕ) → prefixed p s ≡ false → prefixed p (take n s) ≡ false
unfolding prefixed
prefix-take [] s n h = no (sym h)
prefix-take (y ∷ p) [] zero h = refl
prefix-take (y ∷ p) [] (suc n) h = refl
prefix-take (y ∷ p) (x ∷ s) zero h = refl
prefix-take (y ∷ p) (x ∷ s) (suc n) h = if-both (eqb y x) (prefixed p s) (prefixed p (take n s)) (λ k. prefix-take p s n k) h

prefix-append : (p q s : List ℕ) → prefixed p s ≡ false → prefixed (p ++ q) s ≡ false
unfolding prefixed
prefix-append [] q s h = no (sym h)
prefix-append (y ∷ p) q [] h = refl
prefix-append (y ∷ p) q (x ∷ s) h = if-both (eqb y x) (prefixed p s) (prefixed (p ++ q) s) (λ k. prefix-append p q s k) h

held-front : (s : List ℕ) → holds phi_word s ≡ false → prefixed phi_word s ≡ false
unfolding holds
held-front [] h = h
held-front (x ∷ s) h = (or_off (prefixed phi_word (x ∷ s)) (holds phi_word s) h).0

held-rest : (x : ℕ) (s : List ℕ) → holds phi_word (x ∷ s) ≡ false → holds phi_word s ≡ false
unfolding holds
held-rest x s h = (or_off (prefixed phi_word (x ∷ s)) (holds phi_word s) h).1

held-drop : (n : ℕ) (s : List ℕ) → holds phi_word s ≡ false → holds phi_word (drop n s) ≡ false
held-drop zero s h = h
held-drop (suc n) [] h = h
held-drop (suc n) (x ∷ s) h = held-drop n s (held-rest x s h)

held-take : (n : ℕ) (s : List ℕ) → holds phi_word s ≡ false → holds phi_word (take n s) ≡ false
unfolding holds prefixed
held-take zero s h = refl
held-take (suc n) [] h = refl
held-take (suc n) (x ∷ s) h = rw (prefix-take phi_word (x ∷ s) (suc n) (held-front (x ∷ s) h)) (held-take n s (held-rest x s h))

held-trim : (s : List ℕ) → holds phi_word s ≡ false → holds phi_word (trim_of s) ≡ false
unfolding trim_of
held-trim s h = held-take (to_of (trim_start s)) (trim_start s) (held-drop (from_of s) s h)

-- ---- a text that names no phi, stores none, declares none

phi_none : (s : List ℕ) → holds phi_word s ≡ false → phi_of s ≡ None
unfolding phi_of
phi_none s h = rw (held-front s h)

store-none : (t : List ℕ) → holds phi_word t ≡ false → phi_store t ≡ None
unfolding phi_store left_of
store-none t h = rw (phi_none (left_of t) (held-trim _ (held-take (up_to 61 (unended t)) (unended t) (held-take (length t - 1) t h)))) (go (not (is_let t) && is_assign t))
  where
    go : (b : Bool) → ◌≡◌ {A = Option Phi} (cond b None None) None
    go true = refl
    go false = refl

phis-none : (s : List ℕ) → holds phi_word s ≡ false → all_phis (parts_of 44 s) ≡ false
phis-none s h =
    let e : ℕ = 0 + up_to 44 (drop 0 s) in
    phis-not s e refl (ap (λ (n : Option Phi). is_phi n) (phi_none (trim_of (part 0 e s)) (held-trim (part 0 e s) (held-take (e - 0) s h))))

decl-none : (t : List ℕ) → holds phi_word t ≡ false → phi_decl t ≡ false
unfolding phi_decl
decl-none t h = rw (phis-none (body_of t) (held-take (length t - 1 - 4) (drop 4 t) (held-drop 4 t h))) (and-false (is_let t))

-- ---- a line

module _ (l : List ℕ) (h : holds phi_word l ≡ false) where
  pub held-store : phi_store (trim_start l) ≡ None
  held-store = store-none (trim_start l) (held-drop (from_of l) l h)

  pub held-decl : phi_decl (trim_start l) ≡ false
  held-decl = decl-none (trim_start l) (held-drop (from_of l) l h)

  -- no phi is found in it
  pub held_reads : (p : ℕ) → phi_reads p l ≡ false
  unfolding phi_reads hits hits_go
  held_reads p = rw (go l h 0 false)
    where
      go : (s : List ℕ) → holds phi_word s ≡ false → (i : ℕ) (b : Bool) → hits_go s (phi_text p) 0 i b ≡ []
      go [] h i b = refl
      go (x ∷ s) h i b = rw (prefix-append phi_word (decimal p) (x ∷ s) (held-front (x ∷ s) h)) (go s (held-rest x s h) (suc i) _)

-- ---- a text: none of its lines holds the letters

lines_none : (ls ms : List (List ℕ)) → all (λ (l : List ℕ). not (holds phi_word l)) ms ≡ true → any_dead ls ms ≡ false
unfolding any_dead
lines_none ls [] h = refl
lines_none ls (m ∷ ms) h = rw (held-store m (not-true _ (and_left (not (holds phi_word m)) _ h))) (lines_none ls ms (and_right (not (holds phi_word m)) _ h))

pub held-dead : (t : List ℕ) → holds phi_word t ≡ false → any_dead (lines_of t) (lines_of t) ≡ false
held-dead t h = lines_none (lines_of t) (lines_of t) (lines-lack (holds phi_word) held-rest held-take t h)

-- ---- the search

hold-on : (l : List ℕ) → prefixed phi_word l ≡ false → holds phi_word l ≡ holds phi_word (drop 1 l)
unfolding holds
hold-on [] e = refl
hold-on (x ∷ l) e = rw e

up-held : (l : List ℕ) → holds phi_word (drop (up_to 112 l) l) ≡ holds phi_word l
unfolding up_to holds prefixed
up-held [] = refl
up-held (x ∷ l) = go (eqb x 112) refl (up-held l)
  where
    go : (b : Bool) → eqb x 112 ≡ b → holds phi_word (drop (up_to 112 l) l) ≡ holds phi_word l → holds phi_word (drop (cond b 0 (suc (up_to 112 l))) (x ∷ l)) ≡ holds phi_word (x ∷ l)
    go true e on = refl
    go false e on = rw (eqb-sym 112 x, e) on

-- j is the place of the next `p`, and t the text from there on
module _ (s : List ℕ) (i j : ℕ) (q : j ≡ i + up_to 112 (drop i s)) (t : List ℕ) (z : t ≡ part j (length s) s) where
  find-held : holds phi_word t ≡ holds phi_word (drop i s)
  find-held = ap (holds phi_word) (z ∙ rest_of s j ∙ ap (λ (n : ℕ). drop n s) q ∙ sym (drop-drop (up_to 112 (drop i s)) i s)) ∙ up-held (drop i s)

  pub find-hit : prefixed phi_word t ≡ true → holds phi_word (drop i s) ≡ true
  find-hit e = sym find-held ∙ ap (holds phi_word) (z ∙ rest_of s j) ∙ hold-here phi_word s j (ap (prefixed phi_word) (sym z) ∙ e)

  pub find-on : (k : ℕ) → k ≡ min (j + 1) (length s) → prefixed phi_word t ≡ false → holds phi_word (drop i s) ≡ holds phi_word (drop k s)
  find-on k y e = sym find-held ∙ hold-on t e ∙ ap (holds phi_word) (ap (drop 1) (z ∙ rest_of s j) ∙ drop-drop 1 j s ∙ sym (drop_min (j + 1) s) ∙ ap (λ (n : ℕ). drop n s) (sym y))
