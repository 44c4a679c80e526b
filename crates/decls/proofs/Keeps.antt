-- No line that is made holds an LF, so its bytes are its lines, and passes can follow each other in LF form. Assumes nothing.
use Prim.Native.Nat.{ℕ, ◌+◌, ◌-◌}
use mathlib.Core.Path.{◌≡◌, refl, ap, ◌∙◌}
use mathlib.Core.Bool.{Bool, true, false, cond}
use mathlib.Core.List.{List, [], ◌∷◌, ◌++◌}
use lib.ListN.{length, take, drop}
use Rattle.lines.specs.Lf.{lines_of, parts_of, unlines, all}
use Rattle.lines.specs.Inner.Lf.{lacks, no_lf}
use Rattle.lines.specs.Acts.{keep}
use Rattle.lines.proofs.Tests.{and_left, and_right, and_both}
use Rattle.lines.proofs.LfLaws.{lines-no_lf, lines-unlines, no_lf-append, lacks-append, lacks-take, lacks-drop, parts-no_lf}
use Rattle.lines.proofs.ActLaws.{act_no_lf, apply-no_lf}
use Rattle.text.specs.Trim.{from_of, to_of, trim_of}
use Rattle.names.specs.Inner.Names.{zeros}
use Rattle.parse.specs.Parse.{let_word, body_of, is_decl}
use Rattle.place.specs.Region.{region, region_at}
use Rattle.decls.specs.Decls.{commas, decl_act, keep_names, act_of, acts_go, prune_decls_acts, prune_decls}
use Rattle.decls.specs.Inner.Decls.{stays}
use Rattle.decls.specs.Inner.Print.{bare_name, one, kept}
use Rattle.decls.proofs.Writes.{names-kept}

-- ---- a declaration, over any test of what stays

pub lacks-trim : (l : List ℕ) → lacks 10 l ≡ true → lacks 10 (trim_of l) ≡ true
unfolding trim_of
lacks-trim l h = lacks-take (to_of (drop (from_of l) l)) (drop (from_of l) l) (lacks-drop (from_of l) l h)

pub lacks-body : (t : List ℕ) → lacks 10 t ≡ true → lacks 10 (body_of t) ≡ true
lacks-body t h = lacks-take (length t - 1 - 4) (drop 4 t) (lacks-drop 4 t h)

lacks-bare : (k : ℕ) (t : List ℕ) → lacks 10 t ≡ true → lacks 10 (bare_name k t) ≡ true
unfolding bare_name
lacks-bare k t h = lacks-append (take k t) (drop (k + zeros (drop k t)) t) (lacks-take k t h) (lacks-drop (k + zeros (drop k t)) t h)

pub kept-no_lf : (f : List ℕ → Bool) (k : ℕ) (ps : List (List ℕ)) → no_lf ps ≡ true → no_lf (kept f k ps) ≡ true
unfolding kept no_lf
kept-no_lf f k [] h = refl
kept-no_lf f k (p ∷ ps) h =
    no_lf-append (one (f (trim_of p)) k (trim_of p)) (kept f k ps) (go (f (trim_of p)) (lacks-bare k (trim_of p) (lacks-trim p (and_left (lacks 10 p) (no_lf ps) h))))
    (kept-no_lf f k ps (and_right (lacks 10 p) (no_lf ps) h))
  where
    go : (b : Bool) → lacks 10 (bare_name k (trim_of p)) ≡ true → no_lf (one b k (trim_of p)) ≡ true
    go true g = and_both g refl
    go false g = refl

lacks-commas : (x : List ℕ) (xs : List (List ℕ)) → lacks 10 x ≡ true → no_lf xs ≡ true → lacks 10 (commas x xs) ≡ true
unfolding commas no_lf lacks
lacks-commas x [] p q = p
lacks-commas x (y ∷ ys) p q = lacks-append x (44 ∷ 32 ∷ commas y ys) p (lacks-commas y ys (and_left (lacks 10 y) (no_lf ys) q) (and_right (lacks 10 y) (no_lf ys) q))

pub decl-no_lf : (indent : List ℕ) (xs : List (List ℕ)) → lacks 10 indent ≡ true → no_lf xs ≡ true → act_no_lf (decl_act indent xs) ≡ true
unfolding decl_act no_lf lacks
decl-no_lf indent [] p q = refl
decl-no_lf indent (x ∷ xs) p q =
    lacks-append (indent ++ let_word ++ commas x xs) (59 ∷ [])
    (lacks-append (indent ++ let_word) (commas x xs) (lacks-append indent let_word p refl) (lacks-commas x xs (and_left (lacks 10 x) (no_lf xs) q) (and_right (lacks 10 x) (no_lf xs) q))) refl

-- ---- the pass

act-no_lf : (run : List (List ℕ)) (l : List ℕ) → lacks 10 l ≡ true → act_no_lf (act_of run l) ≡ true
unfolding act_of
act-no_lf run l h = go (is_decl (trim_of l))
  where
    go : (b : Bool) → act_no_lf (cond b (decl_act (take (from_of l) l) (keep_names run (parts_of 44 (body_of (trim_of l))))) keep) ≡ true
    go true =
        decl-no_lf (take (from_of l) l) (keep_names run (parts_of 44 (body_of (trim_of l)))) (lacks-take (from_of l) l h)
        (ap no_lf (names-kept run (parts_of 44 (body_of (trim_of l))))
        ∙ kept-no_lf (stays run) 1 (parts_of 44 (body_of (trim_of l))) (parts-no_lf 44 (body_of (trim_of l)) (lacks-body (trim_of l) (lacks-trim l h))))
    go false = refl

acts-no_lf : (ls run : List (List ℕ)) → no_lf ls ≡ true → all act_no_lf (acts_go ls run) ≡ true
unfolding acts_go no_lf
acts-no_lf [] run h = refl
acts-no_lf (l ∷ ls) run h =
    and_both (act-no_lf (region_at l ls run) l (and_left (lacks 10 l) (no_lf ls) h)) (acts-no_lf ls (region_at l ls run) (and_right (lacks 10 l) (no_lf ls) h))

pub keeps-no_lf : (ls : List (List ℕ)) → no_lf ls ≡ true → no_lf (prune_decls ls) ≡ true
unfolding prune_decls prune_decls_acts
keeps-no_lf ls h = apply-no_lf (acts_go ls (region ls)) ls (acts-no_lf ls (region ls) h) h

-- what is written, read again, is the lines of the definition
pub prune-reads : (t : List ℕ) → lines_of (unlines (prune_decls (lines_of t))) ≡ prune_decls (lines_of t)
prune-reads t = lines-unlines (prune_decls (lines_of t)) (keeps-no_lf (lines_of t) (lines-no_lf t))
