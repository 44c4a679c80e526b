-- What prune_dead_phis keeps: no LF comes in, lines do not grow in number, and a line goes only for its reason. Assumes nothing.
use Prim.Native.Nat.{ℕ, suc, ◌-◌, ◌≤◌, ◌<◌}
use mathlib.Core.Path.{◌≡◌, refl, sym, ap, ◌∙◌}
use mathlib.Core.Bool.{Bool, true, false, cond, not, ◌&&◌, ◌||◌}
use mathlib.Core.List.{List, [], ◌∷◌, ◌++◌}
use native.Mathlib.Omega.{arith}
use lib.ListN.{length, take, drop}
use Rattle.lines.specs.Lf.{up_to, lines_of, parts_of, unlines, same, all}
use Rattle.lines.specs.Inner.Lf.{lacks, no_lf}
use Rattle.lines.specs.Acts.{keep, become, gone, act, apply}
use Rattle.lines.proofs.Tests.{and_left, and_right, and_both}
use Rattle.lines.proofs.LfLaws.{lines-no_lf, lines-unlines, lacks-append, lacks-take, lacks-drop, parts-no_lf}
use Rattle.lines.proofs.ActLaws.{act_no_lf, apply-no_lf, apply-length}
use Rattle.text.specs.Trim.{from_of, trim_start, trim_of}
use Rattle.names.specs.Names.{phi_word, phi_text}
use Rattle.names.specs.Inner.Names.{zeros}
use Rattle.names.proofs.Decimal.{prints-not}
use Rattle.parse.specs.Parse.{body_of}
use Rattle.lexical.specs.Phi.{phi_rhs_pure}
use Rattle.origins.proofs.Notes.{plainly}
use Rattle.decls.proofs.Moves.{decl-plain}
use Rattle.decls.specs.Decls.{decl_act}
use Rattle.decls.specs.Inner.Print.{one, kept}
use Rattle.decls.proofs.Keeps.{lacks-trim, lacks-body, kept-no_lf, decl-no_lf}
use Rattle.reading.specs.Reading.{Reading, pure_in}
use Rattle.reading.specs.Assign.{unended, right_of}
use Rattle.phis.specs.Phis.{phi_decl, phi_store, phi_dead, any_dead, live_phis, store_act, phi_act, phi_acts, keeps, round_acts, round, prune_dead_phis}
use Rattle.phis.specs.Inner.Rounds.{live}
use Rattle.phis.proofs.Writes.{names-live}

-- ---- no LF comes in

lacks-right : (t : List ℕ) → lacks 10 t ≡ true → lacks 10 (right_of t) ≡ true
unfolding right_of
lacks-right t h =
    lacks-trim (drop (suc (up_to 61 (unended t))) (unended t)) (lacks-drop (suc (up_to 61 (unended t))) (unended t) (lacks-take (length t - 1) t h))

store-no_lf : (R : Reading) (indent rhs : List ℕ) → lacks 10 indent ≡ true → lacks 10 rhs ≡ true → act_no_lf (store_act R indent rhs) ≡ true
unfolding lacks
store-no_lf R indent rhs p q = go (pure_in R rhs || phi_rhs_pure rhs)
  where
    go : (b : Bool) → act_no_lf (cond b gone (become (indent ++ rhs ++ 59 ∷ []))) ≡ true
    go true = refl
    go false = lacks-append (indent ++ rhs) (59 ∷ []) (lacks-append indent rhs p q) refl

act-no_lf : (R : Reading) (ls : List (List ℕ)) (l : List ℕ) → lacks 10 l ≡ true → act_no_lf (phi_act R ls l) ≡ true
unfolding phi_act
act-no_lf R ls l h = go (phi_dead (phi_store (trim_start l)) ls) (phi_decl (trim_start l))
  where
    go : (a b : Bool) → act_no_lf (cond a (store_act R (take (from_of l) l) (right_of (trim_start l))) (cond b (decl_act (take (from_of l) l) (live_phis ls (parts_of 44 (body_of (trim_start l))))) keep)) ≡ true
    go true b = store-no_lf R (take (from_of l) l) (right_of (trim_start l)) (lacks-take (from_of l) l h) (lacks-right (trim_start l) (lacks-drop (from_of l) l h))
    go false true =
        decl-no_lf (take (from_of l) l) (live_phis ls (parts_of 44 (body_of (trim_start l)))) (lacks-take (from_of l) l h)
        (ap no_lf (names-live ls (parts_of 44 (body_of (trim_start l))))
        ∙ kept-no_lf (live ls) 3 (parts_of 44 (body_of (trim_start l))) (parts-no_lf 44 (body_of (trim_start l)) (lacks-body (trim_start l) (lacks-drop (from_of l) l h))))
    go false false = refl

acts-no_lf : (R : Reading) (ls ms : List (List ℕ)) → no_lf ms ≡ true → all act_no_lf (phi_acts R ls ms) ≡ true
unfolding phi_acts no_lf
acts-no_lf R ls [] h = refl
acts-no_lf R ls (m ∷ ms) h = and_both (act-no_lf R ls m (and_left (lacks 10 m) (no_lf ms) h)) (acts-no_lf R ls ms (and_right (lacks 10 m) (no_lf ms) h))

keeps-no_lf : (ls : List (List ℕ)) → all act_no_lf (keeps ls) ≡ true
unfolding keeps
keeps-no_lf [] = refl
keeps-no_lf (l ∷ ls) = keeps-no_lf ls

pub round-no_lf : (R : Reading) (ls : List (List ℕ)) → no_lf ls ≡ true → no_lf (round R ls) ≡ true
unfolding round round_acts
round-no_lf R ls h = go (any_dead ls ls)
  where
    go : (b : Bool) → no_lf (apply (cond b (phi_acts R ls ls) (keeps ls)) ls) ≡ true
    go true = apply-no_lf (phi_acts R ls ls) ls (acts-no_lf R ls ls h) h
    go false = apply-no_lf (keeps ls) ls (keeps-no_lf ls) h

pub phis-no_lf : (R : Reading) (ls : List (List ℕ)) → no_lf ls ≡ true → no_lf (prune_dead_phis R ls) ≡ true
unfolding prune_dead_phis
phis-no_lf R ls h = round-no_lf R (round R (round R ls)) (round-no_lf R (round R ls) (round-no_lf R ls h))

-- what a round writes, read again, is the lines of the definition
pub round-reads : (R : Reading) (t : List ℕ) → lines_of (unlines (round R (lines_of t))) ≡ round R (lines_of t)
round-reads R t = lines-unlines (round R (lines_of t)) (round-no_lf R (lines_of t) (lines-no_lf t))

pub phis-reads : (R : Reading) (t : List ℕ) → lines_of (unlines (prune_dead_phis R (lines_of t))) ≡ prune_dead_phis R (lines_of t)
phis-reads R t = lines-unlines (prune_dead_phis R (lines_of t)) (phis-no_lf R (lines_of t) (lines-no_lf t))

-- ---- there are no more lines than before

round-lines : (R : Reading) (ls : List (List ℕ)) → length (round R ls) ≤ length ls
unfolding round
round-lines R ls = apply-length (round_acts R ls) ls

pub phis-lines : (R : Reading) (ls : List (List ℕ)) → length (prune_dead_phis R ls) ≤ length ls
unfolding prune_dead_phis
phis-lines R ls = omega (arith, round-lines R ls, round-lines R (round R ls), round-lines R (round R (round R ls)))

-- ---- nothing is lost unsaid

-- a line stores a phi that is dead in ls, and its value has no effect
unfoldable pub store_goes : Reading → List (List ℕ) → List ℕ → Bool
store_goes R ls l = phi_dead (phi_store (trim_start l)) ls && (pure_in R (right_of (trim_start l)) || phi_rhs_pure (right_of (trim_start l)))

-- a line declares phis, and each of them is dead in ls
unfoldable pub decl_goes : List (List ℕ) → List ℕ → Bool
decl_goes ls l = phi_decl (trim_start l) && all (λ (p : List ℕ). not (live ls (trim_of p))) (parts_of 44 (body_of (trim_start l)))

never : {A : Type 0} {x : List ℕ} → become x ≡ gone → A
never h = let z : ◌≡◌ {A = ℕ} 0 1 = cc in absurd (omega arith)

stays : {A : Type 0} → keep ≡ gone → A
stays h = let z : ◌≡◌ {A = ℕ} 0 1 = cc in absurd (omega arith)

store-gone : (R : Reading) (indent rhs : List ℕ) → store_act R indent rhs ≡ gone → pure_in R rhs || phi_rhs_pure rhs ≡ true
store-gone R indent rhs h = go (pure_in R rhs || phi_rhs_pure rhs) h
  where
    go : (b : Bool) → cond b gone (become (indent ++ rhs ++ 59 ∷ [])) ≡ gone → b ≡ true
    go true g = refl
    go false g = never g

decl-gone : (indent : List ℕ) (xs : List (List ℕ)) → decl_act indent xs ≡ gone → xs ≡ []
unfolding decl_act
decl-gone indent [] h = refl
decl-gone indent (x ∷ xs) h = never h

kept-none : (f : List ℕ → Bool) (k : ℕ) (ps : List (List ℕ)) → kept f k ps ≡ [] → all (λ (p : List ℕ). not (f (trim_of p))) ps ≡ true
unfolding kept
kept-none f k [] h = refl
kept-none f k (p ∷ ps) h = go (f (trim_of p)) h (kept-none f k ps)
  where
    go : (b : Bool) → one b k (trim_of p) ++ kept f k ps ≡ [] → (kept f k ps ≡ [] → all (λ (p : List ℕ). not (f (trim_of p))) ps ≡ true) → not b && all (λ (p : List ℕ). not (f (trim_of p))) ps ≡ true
    go true g r = let z : ◌≡◌ {A = ℕ} 0 1 = cc in absurd (omega arith)
    go false g r = r g

-- a line goes only as a store of a dead phi whose value has no effect, or as a declaration of dead phis alone
pub gone-only : (R : Reading) (ls : List (List ℕ)) (l : List ℕ) → phi_act R ls l ≡ gone → store_goes R ls l || decl_goes ls l ≡ true
unfolding phi_act store_goes decl_goes
gone-only R ls l h = go (phi_dead (phi_store (trim_start l)) ls) (phi_decl (trim_start l)) h
  where
    go : (a b : Bool) → cond a (store_act R (take (from_of l) l) (right_of (trim_start l))) (cond b (decl_act (take (from_of l) l) (live_phis ls (parts_of 44 (body_of (trim_start l))))) keep) ≡ gone →
        (a && (pure_in R (right_of (trim_start l)) || phi_rhs_pure (right_of (trim_start l)))) || (b && all (λ (p : List ℕ). not (live ls (trim_of p))) (parts_of 44 (body_of (trim_start l)))) ≡ true
    go true b g = rw (store-gone R (take (from_of l) l) (right_of (trim_start l)) g)
    go false true g =
        kept-none (live ls) 3 (parts_of 44 (body_of (trim_start l)))
        (sym (names-live ls (parts_of 44 (body_of (trim_start l)))) ∙ decl-gone (take (from_of l) l) (live_phis ls (parts_of 44 (body_of (trim_start l)))) g)
    go false false g = stays g

-- a line that neither stores a dead phi nor declares phis alone stays as it is
pub keep-other : (R : Reading) (ls : List (List ℕ)) (l : List ℕ) → phi_dead (phi_store (trim_start l)) ls ≡ false → phi_decl (trim_start l) ≡ false → phi_act R ls l ≡ keep
unfolding phi_act
keep-other R ls l a b = rw (a, b)

-- a line stays, becomes another or is gone: no value goes into another line
pub none-into : (R : Reading) (ls : List (List ℕ)) (l : List ℕ) → plainly (phi_act R ls l) ≡ true
unfolding phi_act
none-into R ls l = go (phi_dead (phi_store (trim_start l)) ls) (phi_decl (trim_start l)) (pure_in R (right_of (trim_start l)) || phi_rhs_pure (right_of (trim_start l)))
  where
    go : (a b v : Bool) → plainly (cond a (cond v gone (become (take (from_of l) l ++ right_of (trim_start l) ++ 59 ∷ []))) (cond b (decl_act (take (from_of l) l) (live_phis ls (parts_of 44 (body_of (trim_start l))))) keep)) ≡ true
    go true b true = refl
    go true b false = refl
    go false true v = decl-plain (take (from_of l) l) (live_phis ls (parts_of 44 (body_of (trim_start l))))
    go false false v = refl

-- where no phi is dead, nothing changes
keep_all : (ls : List (List ℕ)) → apply (keeps ls) ls ≡ ls
unfolding keeps apply act
keep_all [] = refl
keep_all (l ∷ ls) = ap (λ (r : List (List ℕ)). l ∷ r) (keep_all ls)

pub none-dead : (R : Reading) (ls : List (List ℕ)) → any_dead ls ls ≡ false → round R ls ≡ ls
unfolding round round_acts
none-dead R ls e = rw e (keep_all ls)

-- ---- a phi is looked for as it is printed: a text with leading zeros, as `phi007`, is never the text of a phi

pub zeros-never : (ds : List ℕ) (p : ℕ) → 0 < zeros ds → same (phi_word ++ ds) (phi_text p) ≡ false
unfolding same
zeros-never ds p h = prints-not ds p h
