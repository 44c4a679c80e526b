-- A declaration of phis mentions no phi but those that it declares. Assumes nothing.
use Prim.Native.Nat.{ℕ, suc, ◌+◌, ◌-◌, ◌≤◌, ◌<◌, ◌^◌}
use mathlib.Core.Path.{◌≡◌, refl, sym, ap, ◌∙◌}
use mathlib.Core.Bool.{Bool, true, false, cond, not, ◌&&◌, ◌||◌}
use mathlib.Core.List.{List, [], ◌∷◌, ◌++◌, append-nil, append_assoc}
use native.Mathlib.Omega.{arith}
use borrow.Author.Tests.{eq-eqb, eqb-true}
use lib.Dec.{eqb, ltb}
use lib.ListN.{length, take, drop, take-append-drop, drop_of_length-le}
use lib.Seq.{drop-cons, drop-drop}
use Rattle.lines.specs.Lf.{cut_on, parts_of, prefixed, same, ends_in}
use Rattle.lines.proofs.Compare.{same-eq}
use Rattle.lines.proofs.Tests.{no, and_left, and_right, and-false}
use Rattle.text.specs.Class.{is_name}
use Rattle.text.specs.Trim.{trim_start, trim_of}
use Rattle.names.specs.Names.{phi_text, phi_of, phi_is}
use Rattle.names.specs.declared.Phi.{Phi}
use Rattle.std.specs.declared.option.Option.{Option}
use Rattle.std.specs.declared.option.Option.TheVariants.{Some, None}
use Rattle.names.proofs.Equal.{front_of}
use Rattle.names.proofs.Texts.{phi-names, phi-text-value}
use Rattle.parse.specs.Parse.{let_word, body_of, is_let}
use Rattle.words.specs.Runs.{flush, runs_go, runs, count_by}
use Rattle.words.specs.Inner.Runs.{words_of}
use Rattle.words.specs.Hits.{hits}
use Rattle.words.proofs.RunLaws.{count-append}
use Rattle.phis.specs.Phis.{is_phi, all_phis, phi_decl, any_phi, phi_store, phi_own, phi_reads}
use Rattle.phis.proofs.Lines.{let-long, phi-hits}
use Rattle.phis.proofs.Held.{or_off}
use Rattle.words.proofs.Walk.{go-gap}
use Rattle.decls.proofs.TrimRuns.{back-runs, name_runs, start-runs, trim-runs}

-- ---- the runs of a text, piece by piece

abbrev piece_runs : List (List ℕ) → List ℕ → List (List ℕ)
piece_runs [] cur = []
piece_runs (p ∷ ps) cur = runs_go p cur ++ piece_runs ps []

-- a byte in front of pieces that are not none
cut-runs : (y : ℕ) (b : Bool) (s cur : List ℕ) (ps : List (List ℕ)) → eqb y 44 ≡ b → 0 < length ps → ((c : List ℕ) → runs_go s c ≡ piece_runs ps c) → runs_go (y ∷ s) cur ≡ piece_runs (cut_on b y ps) cur
unfolding cut_on runs_go
cut-runs y true s cur ps e h on =
    let z : is_name y ≡ false = ap (λ (n : ℕ). is_name n) (eqb-true y 44 e) in
    go-gap y s cur z ∙ ap (λ (r : List (List ℕ)). flush cur ++ r) (on [])
cut-runs y false s cur [] e h on = absurd (omega arith)
cut-runs y false s cur (p ∷ ps) e h on = go (is_name y) (on (cur ++ (y ∷ []))) (on [])
  where
    go : (t : Bool) → runs_go s (cur ++ (y ∷ [])) ≡ runs_go p (cur ++ (y ∷ [])) ++ piece_runs ps [] → runs_go s [] ≡ runs_go p [] ++ piece_runs ps [] →
        cond t (runs_go s (cur ++ (y ∷ []))) (flush cur ++ runs_go s []) ≡ cond t (runs_go p (cur ++ (y ∷ []))) (flush cur ++ runs_go p []) ++ piece_runs ps []
    go true u v = u
    go false u v = ap (λ (r : List (List ℕ)). flush cur ++ r) v ∙ sym (append_assoc (flush cur) (runs_go p []) (piece_runs ps []))

cut-some : (b : Bool) (y : ℕ) (ps : List (List ℕ)) → 0 < length (cut_on b y ps)
unfolding cut_on
cut-some true y ps = omega arith
cut-some false y [] = omega arith
cut-some false y (p ∷ ps) = omega arith

parts-some : (s : List ℕ) → 0 < length (parts_of 44 s)
unfolding parts_of
parts-some [] = omega arith
parts-some (y ∷ s) = cut-some (eqb y 44) y (parts_of 44 s)

parts-runs : (s cur : List ℕ) → runs_go s cur ≡ piece_runs (parts_of 44 s) cur
unfolding parts_of runs_go
parts-runs [] cur = sym (append-nil (flush cur))
parts-runs (y ∷ s) cur = cut-runs y (eqb y 44) s cur (parts_of 44 s) refl (parts-some s) (λ c. parts-runs s c)

-- ---- phi n, which no piece is

module _ (n : ℕ) (fits : n < 2 ^ 64) where
  -- how many runs are phi n
  abbrev many : List (List ℕ) → ℕ
  many rs = count_by (λ (x : List ℕ). same x (phi_text n)) rs

  flush-none : (m : List ℕ) → same m (phi_text n) ≡ false → many (flush m) ≡ 0
  unfolding count_by
  flush-none [] e = refl
  flush-none (y ∷ m) e = rw e

  piece-none : (x : List ℕ) → is_phi (phi_of (trim_of x)) ≡ true → phi_is n (phi_of (trim_of x)) ≡ false → many (runs x) ≡ 0
  unfolding runs
  piece-none x p o = go (phi_of (trim_of x)) refl p o
    where
      other : (b : Bool) → same (trim_of x) (phi_text n) ≡ b → (q : Phi) → phi_of (trim_of x) ≡ Some q → eqb q.0 n ≡ false → same (trim_of x) (phi_text n) ≡ false
      other false e q f k = e
      other true e q f k = no (sym k ∙ ap (phi_is n) (sym f ∙ ap phi_of (same-eq (trim_of x) (phi_text n) e) ∙ phi-text-value n fits) ∙ eq-eqb n n refl)

      go : (m : Option Phi) → phi_of (trim_of x) ≡ m → is_phi m ≡ true → phi_is n m ≡ false → many (runs x) ≡ 0
      go None f a b = no a
      go (Some q) f a b =
          ap (λ (rs : List (List ℕ)). many rs) (trim-runs x ∙ name_runs (trim_of x) [] (phi-names (trim_of x) q f))
          ∙ flush-none (trim_of x) (other (same (trim_of x) (phi_text n)) refl q f b)

  pieces_none : (ps : List (List ℕ)) → all_phis ps ≡ true → any_phi n ps ≡ false → many (piece_runs ps []) ≡ 0
  unfolding all_phis any_phi count_by runs
  pieces_none [] a b = refl
  pieces_none (p ∷ ps) a b =
      let u = and_left (is_phi (phi_of (trim_of p))) (all_phis ps) a in
      let v = and_right (is_phi (phi_of (trim_of p))) (all_phis ps) a in
      let w = or_off (phi_is n (phi_of (trim_of p))) (any_phi n ps) b in
      count-append (λ (x : List ℕ). same x (phi_text n)) (runs_go p []) (piece_runs ps [])
      ∙ omega (arith, piece-none p u w.0, pieces_none ps v w.1)

  -- ---- a declaration

  module _ (t : List ℕ) (d : is_let t ≡ true) where
    is-long : 4 < length t
    is-long = let-long t d

    ends : drop (length t - 1) t ≡ 59 ∷ []
    unfolding is_let
    ends =
        let k : length t ≤ suc (length t - 1) = omega arith in
        let e = and_right (prefixed let_word t) (ends_in 59 t) (and_right (ltb 4 (length t)) (prefixed let_word t && ends_in 59 t) d) in
        drop-cons t (length t - 1) 0 (omega (arith, is-long))
        ∙ ap (λ (x : ℕ). x ∷ drop (suc (length t - 1)) t) (eqb-true _ 59 e)
        ∙ ap (λ (r : List ℕ). 59 ∷ r) (drop_of_length-le t k)

    begins-let : t ≡ let_word ++ drop 4 t
    unfolding is_let
    begins-let = front_of let_word t (and_left (prefixed let_word t) (ends_in 59 t) (and_right (ltb 4 (length t)) (prefixed let_word t && ends_in 59 t) d))

    -- what follows `let ` is the body and its end
    body_end : drop 4 t ≡ body_of t ++ (59 ∷ [])
    body_end =
        let k : ℕ = length t - 1 - 4 in
        let z : 4 + k ≡ length t - 1 = omega (arith, is-long) in
        sym (take-append-drop k (drop 4 t)) ∙ ap (λ (r : List ℕ). take k (drop 4 t) ++ r) (drop-drop k 4 t ∙ ap (λ (m : ℕ). drop m t) z ∙ ends)

    let_runs : (s : List ℕ) → many (runs (let_word ++ s)) ≡ many (runs s)
    unfolding runs runs_go count_by same
    let_runs s = refl

    decl-none : all_phis (parts_of 44 (body_of t)) ≡ true → any_phi n (parts_of 44 (body_of t)) ≡ false → many (runs t) ≡ 0
    unfolding runs
    decl-none a b =
        ap (λ (s : List ℕ). many (runs s)) begins-let ∙ let_runs (drop 4 t)
        ∙ ap (λ (s : List ℕ). many (runs s)) body_end
        ∙ ap (λ (rs : List (List ℕ)). many rs) (back-runs (body_of t) (59 ∷ []) [] refl ∙ parts-runs (body_of t) [])
        ∙ pieces_none (parts_of 44 (body_of t)) a b

-- ---- the law

pub decl-reads : (n : ℕ) → n < 2 ^ 64 → (l : List ℕ) → phi_decl (trim_start l) ≡ true → phi_reads n l ≡ false
unfolding phi_reads phi_own phi_decl
decl-reads n k l e = go (any_phi n (parts_of 44 (body_of (trim_start l)))) refl
  where
    t : List ℕ
    t = trim_start l

    all_of : (b : Bool) → b || true ≡ true
    all_of true = refl
    all_of false = refl

    go : (b : Bool) → any_phi n (parts_of 44 (body_of t)) ≡ b → ltb 0 (length (hits (phi_text n) l)) && not (phi_is n (phi_store t) || ((is_let t && all_phis (parts_of 44 (body_of t))) && any_phi n (parts_of 44 (body_of t)))) ≡ false
    go true f = rw (e, f, all_of (phi_is n (phi_store t))) (and-false (ltb 0 (length (hits (phi_text n) l))))
    go false f =
        let u = and_left (is_let t) (all_phis (parts_of 44 (body_of t))) e in
        let v = and_right (is_let t) (all_phis (parts_of 44 (body_of t))) e in
        let z : words_of (phi_text n) l ≡ 0 = ap (λ (rs : List (List ℕ)). count_by (λ (x : List ℕ). same x (phi_text n)) rs) (start-runs l) ∙ decl-none n k t u v f in
        rw (phi-hits n k l (words_of (phi_text n) l) refl, z)
