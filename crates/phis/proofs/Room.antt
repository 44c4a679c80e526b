-- prune_dead_phis raises no weight, whatever a `{` weighs, and so its three texts need no more room than the weight of the first. Assumes nothing.
use Prim.Native.Nat.{ℕ, suc, ◌+◌, ◌-◌, ◌≤◌, ◌<◌}
use mathlib.Core.Path.{◌≡◌, refl, sym, ap, ◌∙◌}
use mathlib.Core.Bool.{Bool, true, false, cond, ◌&&◌, ◌||◌}
use mathlib.Core.List.{List, [], ◌∷◌, ◌++◌}
use native.Mathlib.Omega.{arith}
use borrow.Author.Tests.{ltb-true, le-leb}
use lib.Dec.{eqb, ltb}
use lib.ListN.{length, take, drop, length-append, take-append-drop}
use lib.Seq.{take-length}
use Rattle.lines.specs.Lf.{up_to, lines_of, parts_of, unlines, prefixed, ends_in, all}
use Rattle.lines.specs.Acts.{keep, become, gone, act, apply}
use Rattle.lines.proofs.Tests.{no, and_left, and_right, and_both}
use Rattle.lines.proofs.StepLaws.{missing_lf, lines-text}
use Rattle.text.specs.Trim.{from_of, trim_start, trim_of}
use Rattle.names.specs.Names.{read_number, phi_by, phi_of}
use Rattle.std.specs.declared.option.Option.TheVariants.{Some, None}
use Rattle.parse.specs.Parse.{let_word, body_of, is_let}
use Rattle.lexical.specs.Phi.{phi_rhs_pure}
use Rattle.weight.specs.Inner.Weight.{spaced, extra, weight}
use Rattle.weight.proofs.Weigh.{length-weight, weight-append, weight-cut, weight-take, weight-drop, weight-line, nothing}
use Rattle.weight.proofs.Pays.{Pays, done, step, pays}
use Rattle.weight.proofs.Moves.{from-clean}
use Rattle.decls.specs.Decls.{decl_act}
use Rattle.decls.specs.Inner.Print.{kept}
use Rattle.decls.proofs.Decl.{long_piece, left_out, trim-le, decl-pays, declares-by, picks-kept}
use Rattle.reading.specs.Reading.{Reading, pure_in}
use Rattle.reading.specs.Assign.{unended, is_assign, right_of}
use Rattle.phis.specs.Phis.{is_phi, all_phis, phi_decl, phi_store, phi_dead, any_dead, live_phis, store_act, phi_act, phi_acts, keeps, round_acts, round, prune_dead_phis}
use Rattle.phis.specs.Inner.Rounds.{live, longest}
use Rattle.phis.proofs.Writes.{names-live, dead-assign}

-- ---- declarations of phis

phi-long : (t : List ℕ) → is_phi (phi_of t) ≡ true → 2 ≤ length t
unfolding phi_of prefixed
phi-long [] h = no h
phi-long (x ∷ []) h = go (eqb 112 x) h
  where
    go : (b : Bool) → is_phi (cond (b && false) (phi_by (read_number [])) None) ≡ true → 2 ≤ 1
    go true g = no g
    go false g = no g
phi-long (x ∷ y ∷ t) h = omega arith

phis-long : (ps : List (List ℕ)) → all_phis ps ≡ true → all long_piece ps ≡ true
unfolding all_phis
phis-long [] h = refl
phis-long (p ∷ ps) h =
    and_both (le-leb 2 (length (trim_of p)) (phi-long (trim_of p) (and_left (is_phi (phi_of (trim_of p))) (all_phis ps) h)))
    (phis-long ps (and_right (is_phi (phi_of (trim_of p))) (all_phis ps) h))

-- what a declaration of phis is made of
record DeclParts (t : List ℕ) : Type 0 where
  long : 4 < length t
  lets : prefixed let_word t ≡ true
  ends : ends_in 59 t ≡ true
  phis : all_phis (parts_of 44 (body_of t)) ≡ true

decl-parts : (t : List ℕ) → phi_decl t ≡ true → DeclParts t
unfolding phi_decl is_let
decl-parts t h =
    let a = and_left (ltb 4 (length t) && (prefixed let_word t && ends_in 59 t)) (all_phis (parts_of 44 (body_of t))) h in
    let b = and_right (ltb 4 (length t)) (prefixed let_word t && ends_in 59 t) a in
    record {
      long = ltb-true 4 (length t) (and_left (ltb 4 (length t)) (prefixed let_word t && ends_in 59 t) a);
      lets = and_left (prefixed let_word t) (ends_in 59 t) b;
      ends = and_right (prefixed let_word t) (ends_in 59 t) b;
      phis = and_right (ltb 4 (length t) && (prefixed let_word t && ends_in 59 t)) (all_phis (parts_of 44 (body_of t))) h;
    }

-- ---- laws for every weight of `{`: H is what each weighs more than another byte

module _ (H : ℕ) where
  decl-weight : (f : List ℕ → Bool) (l : List ℕ) → phi_decl (trim_start l) ≡ true →
      weight H (unlines (act (decl_act (take (from_of l) l) (kept f 3 (parts_of 44 (body_of (trim_start l))))) l)) ≤ weight H l + 1
  decl-weight f l h =
      let p = decl-parts (trim_start l) h in
      let ps : List (List ℕ) = parts_of 44 (body_of (trim_start l)) in
      let r = decl-pays H (take (from_of l) l) (body_of (trim_start l)) l (kept f 3 ps) (left_out f ps)
      (declares-by H l (trim_start l) (length (trim_start l)) (sym (take-length (trim_start l))) p.long p.lets p.ends)
      (picks-kept H f 3 ps (phis-long ps p.phis)) in
      omega arith

  -- the value of an assignment weighs less than the assignment
  right-weight : (t : List ℕ) → is_assign t ≡ true → weight H (right_of t) + 1 ≤ weight H t
  unfolding is_assign right_of
  right-weight t h =
      let u : List ℕ = unended t in
      let k = ltb-true (up_to 61 u) (length u) (and_right (ends_in 59 t) (ltb (up_to 61 u) (length u)) h) in
      omega (arith, trim-le H (drop (suc (up_to 61 u)) u), weight-drop H (suc (up_to 61 u)) u (omega arith), weight-take H (length t - 1) t)

  value-weight : (l : List ℕ) → is_assign (trim_start l) ≡ true → weight H (take (from_of l) l ++ right_of (trim_start l) ++ 59 ∷ []) ≤ weight H l
  unfolding weight spaced extra
  value-weight l h =
      let i : List ℕ = take (from_of l) l in
      let v : List ℕ = right_of (trim_start l) in
      let c : weight H l ≡ weight H i + weight H (trim_start l) = ap (weight H) (sym (take-append-drop (from_of l) l)) ∙ weight-cut H i (trim_start l) (from-clean l) in
      omega (arith, right-weight (trim_start l) h, weight-append H (i ++ v) (59 ∷ []), weight-append H i v)

  line-weight : (x l : List ℕ) → weight H x ≤ weight H l → weight H (unlines (x ∷ [])) ≤ weight H l + 1
  line-weight x l h = omega (arith, weight-line H x [], nothing H)

  store-weight : (R : Reading) (l : List ℕ) → is_assign (trim_start l) ≡ true → weight H (unlines (act (store_act R (take (from_of l) l) (right_of (trim_start l))) l)) ≤ weight H l + 1
  unfolding act
  store-weight R l h = go (pure_in R (right_of (trim_start l)) || phi_rhs_pure (right_of (trim_start l)))
    where
      go : (b : Bool) → weight H (unlines (act (cond b gone (become (take (from_of l) l ++ right_of (trim_start l) ++ 59 ∷ []))) l)) ≤ weight H l + 1
      go true = omega (arith, nothing H)
      go false = line-weight (take (from_of l) l ++ right_of (trim_start l) ++ 59 ∷ []) l (value-weight l h)

  act-weight : (R : Reading) (ls : List (List ℕ)) (l : List ℕ) → weight H (unlines (act (phi_act R ls l) l)) ≤ weight H l + 1
  unfolding phi_act act
  act-weight R ls l = go (phi_dead (phi_store (trim_start l)) ls) refl (phi_decl (trim_start l)) refl
    where
      go : (a : Bool) → phi_dead (phi_store (trim_start l)) ls ≡ a → (b : Bool) → phi_decl (trim_start l) ≡ b →
          weight H (unlines (act (cond a (store_act R (take (from_of l) l) (right_of (trim_start l))) (cond b (decl_act (take (from_of l) l) (live_phis ls (parts_of 44 (body_of (trim_start l))))) keep)) l)) ≤ weight H l + 1
      go true e b f = store-weight R l (dead-assign ls (trim_start l) e)
      go false e true f = rw (names-live ls (parts_of 44 (body_of (trim_start l)))) (decl-weight (live ls) l f)
      go false e false f = line-weight l l (omega arith)

  acts-pay : (R : Reading) (ls ms : List (List ℕ)) → Pays H 0 (phi_acts R ls ms) ms
  unfolding phi_acts
  acts-pay R ls [] = done
  acts-pay R ls (m ∷ ms) = let a = act-weight R ls m in step {c = 0} {a = phi_act R ls m} {l = m} 0 (omega arith) (acts-pay R ls ms)

  keeps-pay : (ms : List (List ℕ)) → Pays H 0 (keeps ms) ms
  unfolding keeps act
  keeps-pay [] = done
  keeps-pay (m ∷ ms) = let a = line-weight m m (omega arith) in step {c = 0} {a = keep} {l = m} 0 (omega arith) (keeps-pay ms)

  pub round-weight : (R : Reading) (ls : List (List ℕ)) → weight H (unlines (round R ls)) ≤ weight H (unlines ls)
  unfolding round round_acts
  round-weight R ls = go (any_dead ls ls)
    where
      go : (b : Bool) → weight H (unlines (apply (cond b (phi_acts R ls ls) (keeps ls)) ls)) ≤ weight H (unlines ls)
      go true = let r = pays (acts-pay R ls ls) in omega arith
      go false = let r = pays (keeps-pay ls) in omega arith

  pub phis-weight : (R : Reading) (ls : List (List ℕ)) → weight H (unlines (prune_dead_phis R ls)) ≤ weight H (unlines ls)
  unfolding prune_dead_phis
  phis-weight R ls = omega (arith, round-weight R ls, round-weight R (round R ls), round-weight R (round R (round R ls)))

  -- the scratch that the rounds use
  pub longest-weight : (R : Reading) (t : List ℕ) → longest R t ≤ weight H (unlines (lines_of t))
  unfolding longest
  longest-weight R t =
      let ls : List (List ℕ) = lines_of t in
      omega (
        arith,
        ap length (lines-text t),
        length-append t (missing_lf t),
        length-weight H (unlines ls),
        round-weight R ls,
        length-weight H (unlines (round R ls)),
        round-weight R (round R ls),
        length-weight H (unlines (round R (round R ls))),
      )
