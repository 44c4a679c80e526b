-- Laws of the walk that writes the records. Assumes nothing.
use Prim.Native.Nat.{ℕ, suc, ◌+◌, ◌-◌, ◌≤◌, ◌<◌, min}
use mathlib.Core.Path.{◌≡◌, refl, sym, ap, subst, ◌∙◌}
use mathlib.Core.Bool.{Bool, true, false, cond, ◌&&◌}
use mathlib.Core.List.{List, [], ◌∷◌, ◌++◌}
use native.Mathlib.Omega.{arith}
use borrow.Author.Tests.{eq-eqb, ne_eqb, lt-ltb, le-ltb, ltb-true, ltb-false}
use lib.Dec.{eqb, ltb}
use lib.ListN.{length, take, drop, get_or, length-drop, length-append, drop_of_length-le}
use lib.Seq.{get_or-drop, drop-drop, drop-cons}
use Rattle.lines.specs.Lf.{up_to, part, lines_of, same}
use Rattle.lines.specs.Steps.{drop_cr, split_lines}
use Rattle.lines.specs.Inner.Lf.{lacks}
use Rattle.lines.specs.Inner.Out.{Wrote}
use Rattle.lines.proofs.Tests.{and-false}
use Rattle.lines.proofs.LfLaws.{lines-at, lines_end, drop_min, find-le}
use Rattle.lines.proofs.OutLaws.{Writing, writing_start, writing-as, writing-room, writing-put, writing-end}
use Rattle.origins.specs.declared.Went.{Went}
use Rattle.origins.specs.declared.Went.TheVariants.{Equal, Changed, Inside, Away}
use Rattle.origins.specs.Form.{Shape, size_of, record_bytes, records_from, file_of}
use Rattle.origins.specs.Inner.Codes.{far_move, half}
use Rattle.origins.specs.Inner.Written.{said_one, left_over, wents_by, bare_len, bare_by, first_end, said_first}
use Rattle.origins.proofs.RawLines.{split-first, bare-is}
use Rattle.origins.proofs.RoundTrip.{record-length}
use Rattle.origins.proofs.Firsts.{up-lacks, told-said, told-next}

-- ---- where a raw line ends

module _ (t : List ℕ) (i e : ℕ) (a : i ≤ e) (b : e ≤ length t) where
  pub bare-empty : e ≤ i → e ≡ i + bare_by (drop i t) (e - i)
  unfolding bare_by
  bare-empty h = let q : e - i ≡ 0 = omega arith in rw q (omega arith)

  pub bare-open : length t ≤ e → e ≡ i + bare_by (drop i t) (e - i)
  unfolding bare_by
  bare-open h = rw (le-ltb (e - i) (length (drop i t)) (omega (arith, length-drop i t)), and-false (ltb 0 (e - i))) (omega arith)

  last-at : i < e → get_or (drop i t) (e - i - 1) 0 ≡ get_or t (e - 1) 0
  last-at h = let q : i + (e - i - 1) ≡ e - 1 = omega arith in get_or-drop i t (e - i - 1) 0 ∙ ap (λ (n : ℕ). get_or t n 0) q

  pub bare-cut : i < e → e < length t → get_or t (e - 1) 0 ≡ 13 → e - 1 ≡ i + bare_by (drop i t) (e - i)
  unfolding bare_by
  bare-cut h k z = rw (lt-ltb 0 (e - i) (omega arith), lt-ltb (e - i) (length (drop i t)) (omega (arith, length-drop i t)), last-at h, eq-eqb (get_or t (e - 1) 0) 13 z) (omega arith)

  pub bare-kept : i < e → (get_or t (e - 1) 0 ≡ 13 → ⊥) → e ≡ i + bare_by (drop i t) (e - i)
  unfolding bare_by
  bare-kept h z = rw (last-at h, ne_eqb (get_or t (e - 1) 0) 13 z, and-false (ltb (e - i) (length (drop i t))), and-false (ltb 0 (e - i))) (omega arith)

pub bare-le : (s : List ℕ) (n : ℕ) → bare_by s n ≤ n
unfolding bare_by
bare-le s n = go (ltb 0 n && (ltb n (length s) && eqb (get_or s (n - 1) 0) 13))
  where
    go : (b : Bool) → cond b (n - 1) n ≤ n
    go true = omega arith
    go false = omega arith

-- ---- what is said of a line

-- by whether the line stands
abbrev said_by : Bool → List ℕ → List ℕ → ℕ → Went
said_by b l o c = cond b (cond (same l o) (Equal c) (Changed c)) (cond (eqb c far_move) Away (Inside (c - half)))

-- ---- the lines that came out

none-up : up_to 10 [] ≡ 0
unfolding up_to
none-up = refl

next-lines : (lf : List ℕ) (p q : ℕ) → p ≤ length lf → q ≡ p + up_to 10 (drop p lf) → (get_or (lines_of (drop p lf)) 0 [] ≡ part p q lf) × (lines_of (drop (min (q + 1) (length lf)) lf) ≡ drop 1 (lines_of (drop p lf)))
next-lines lf p q h z = go (ltb p (length lf)) refl
  where
    go : (b : Bool) → ltb p (length lf) ≡ b → (get_or (lines_of (drop p lf)) 0 [] ≡ part p q lf) × (lines_of (drop (min (q + 1) (length lf)) lf) ≡ drop 1 (lines_of (drop p lf)))
    go true e =
        let l = lines-at lf p q (ltb-true p (length lf) e) z in
        (ap (λ (ls : List (List ℕ)). get_or ls 0 []) l, sym (ap (drop 1) l))
    go false e =
        let k = ltb-false p (length lf) e in
        let l = lines_end lf p k in
        let u : q - p ≡ 0 = omega (arith, ap (up_to 10) (drop_of_length-le lf k), z, none-up) in
        (ap (λ (ls : List (List ℕ)). get_or ls 0 []) l ∙ sym (ap (λ (n : ℕ). take n (drop p lf)) u), lines_end lf (min (q + 1) (length lf)) (omega arith) ∙ sym (ap (drop 1) l))

-- nothing is said without lines, or without codes
said-none : (out : List (List ℕ)) (ls : List (List ℕ)) → wents_by out ls [] ≡ []
unfolding wents_by
said-none out [] = refl
said-none out (l ∷ ls) = refl

split-none : split_lines [] ≡ []
unfolding split_lines lines_of drop_cr
split-none = refl

-- ---- the walk

-- what is yet to be written
abbrev rest : Shape → List ℕ → List ℕ → List ℕ → ℕ → ℕ → ℕ → List ℕ
rest F t lf cs i p k = records_from F k (wents_by (lines_of (drop p lf)) (split_lines (drop i t)) (drop k cs))

pub record WalkInv (F : Shape) (t lf cs d₀ d : List ℕ) (i p k o : ℕ) : Type 0 where
  pub i≤ : i ≤ length t
  pub p≤ : p ≤ length lf
  pub k≤ : k ≤ length cs
  pub writing : Writing 0 (file_of F (wents_by (lines_of lf) (split_lines t) cs)) (rest F t lf cs i p k) d₀ d o

pub walk_start : (F : Shape) (t lf cs d : List ℕ) → length (file_of F (wents_by (lines_of lf) (split_lines t) cs)) ≤ length d → WalkInv F t lf cs d d 0 0 0 0
unfolding file_of
walk_start F t lf cs d h = record { i≤ = omega arith; p≤ = omega arith; k≤ = omega arith; writing = writing_start 0 (file_of F (wents_by (lines_of lf) (split_lines t) cs)) d (omega arith) }

module _ {F : Shape} {t lf cs d₀ d : List ℕ} {i p k o : ℕ} (h : WalkInv F t lf cs d₀ d i p k o) where
  module _ (a : i < length t) (b : k < length cs) (e q x : ℕ) (y : e ≡ i + up_to 10 (drop i t)) (z : q ≡ cond (ltb (get_or cs k 0) half) (p + up_to 10 (drop p lf)) p) (u : x ≡ i + bare_by (drop i t) (e - i)) where
    e-le : e ≤ length t
    e-le = find-le 10 t i e h.i≤ y

    q-in : (c : Bool) → q ≡ cond c (p + up_to 10 (drop p lf)) p → (p ≤ q) × (q ≤ length lf)
    q-in true v = (omega arith, find-le 10 lf p q h.p≤ v)
    q-in false v = (omega arith, omega (arith, h.p≤))

    pub q-le : q ≤ length lf
    q-le = (q-in (ltb (get_or cs k 0) half) z).1

    pub q-from : p ≤ q
    q-from = (q-in (ltb (get_or cs k 0) half) z).0

    pub x-from : i ≤ x
    x-from = omega arith

    pub x-le : x ≤ length t
    x-le = omega (arith, e-le, bare-le (drop i t) (e - i))

    -- the raw line
    line-is : split_lines (drop i t) ≡ part i x t ∷ split_lines (drop (min (e + 1) (length t)) t)
    line-is =
        let m : e - i ≡ up_to 10 (drop i t) = omega arith in
        let n : x - i ≡ bare_len (drop i t) = omega (arith, bare-is (drop i t), ap (bare_by (drop i t)) m) in
        let v : i + suc (up_to 10 (drop i t)) ≡ e + 1 = omega arith in
        split-first (drop i t) (omega (arith, length-drop i t))
        ∙ ap (λ (j : ℕ). take j (drop i t) ∷ split_lines (drop (suc (up_to 10 (drop i t))) (drop i t))) (sym n)
        ∙ ap (λ (l : List ℕ). part i x t ∷ split_lines l) (drop-drop (suc (up_to 10 (drop i t))) i t ∙ ap (λ (j : ℕ). drop j t) v ∙ sym (drop_min (e + 1) t))

    -- what is written next
    abbrev now-said : Went
    now-said = said_one (part i x t) (part p q lf) (get_or cs k 0)

    -- the line that came out, where this one stands as it, and those below it
    step_is : (r : ℕ) → r ≡ cond (ltb (get_or cs k 0) half) (min (q + 1) (length lf)) q →
        (said_one (part i x t) (get_or (lines_of (drop p lf)) 0 []) (get_or cs k 0) ≡ now-said) × (left_over (get_or cs k 0) (lines_of (drop p lf)) ≡ lines_of (drop r lf))
    unfolding left_over said_one
    step_is r w = go (ltb (get_or cs k 0) half) z w
      where
        go : (c : Bool) → q ≡ cond c (p + up_to 10 (drop p lf)) p → r ≡ cond c (min (q + 1) (length lf)) q →
            (said_by c (part i x t) (get_or (lines_of (drop p lf)) 0 []) (get_or cs k 0) ≡ said_by c (part i x t) (part p q lf) (get_or cs k 0)) × (cond c (drop 1 (lines_of (drop p lf))) (lines_of (drop p lf)) ≡ lines_of (drop r lf))
        go true v g =
            let n = next-lines lf p q h.p≤ v in
            (ap (λ (o : List ℕ). said_by true (part i x t) o (get_or cs k 0)) n.0, sym n.1 ∙ ap (λ (j : ℕ). lines_of (drop j lf)) (sym g))
        go false v g = (refl, ap (λ (j : ℕ). lines_of (drop j lf)) (sym (g ∙ v)))

    rest-is : (r : ℕ) → r ≡ cond (ltb (get_or cs k 0) half) (min (q + 1) (length lf)) q →
        rest F t lf cs i p k ≡ record_bytes F k now-said ++ rest F t lf cs (min (e + 1) (length t)) r (k + 1)
    unfolding wents_by records_from
    rest-is r w =
        let n : suc k ≡ k + 1 = omega arith in
        ap (λ (ls : List (List ℕ)). records_from F k (wents_by (lines_of (drop p lf)) ls (drop k cs))) line-is
        ∙ ap (λ (c : List ℕ). records_from F k (wents_by (lines_of (drop p lf)) (part i x t ∷ split_lines (drop (min (e + 1) (length t)) t)) c)) (drop-cons cs k 0 b)
        ∙ ap (λ (m : Went). record_bytes F k m ++ records_from F (suc k) (wents_by (left_over (get_or cs k 0) (lines_of (drop p lf))) (split_lines (drop (min (e + 1) (length t)) t)) (drop (suc k) cs))) (step_is r w).0
        ∙ ap (λ (ls : List (List ℕ)). record_bytes F k now-said ++ records_from F (suc k) (wents_by ls (split_lines (drop (min (e + 1) (length t)) t)) (drop (suc k) cs))) (step_is r w).1
        ∙ ap (λ (j : ℕ). record_bytes F k now-said ++ records_from F j (wents_by (lines_of (drop r lf)) (split_lines (drop (min (e + 1) (length t)) t)) (drop j cs))) n

    out-le : (r : ℕ) → r ≡ cond (ltb (get_or cs k 0) half) (min (q + 1) (length lf)) q → r ≤ length lf
    out-le r w = go (ltb (get_or cs k 0) half) w
      where
        go : (c : Bool) → r ≡ cond c (min (q + 1) (length lf)) q → r ≤ length lf
        go true v = omega arith
        go false v = omega (arith, q-le)

    next : (r : ℕ) → r ≡ cond (ltb (get_or cs k 0) half) (min (q + 1) (length lf)) q →
        Writing 0 (file_of F (wents_by (lines_of lf) (split_lines t) cs)) (record_bytes F k now-said ++ rest F t lf cs (min (e + 1) (length t)) r (k + 1)) d₀ d o
    next r w = writing-as (rest-is r w) h.writing

    pub walk-room : o + size_of F ≤ length d
    walk-room =
        let w = next _ refl in
        omega (arith, writing-room w, length-append (record_bytes F k now-said) (rest F t lf cs (min (e + 1) (length t)) (cond (ltb (get_or cs k 0) half) (min (q + 1) (length lf)) q) (k + 1)), record-length F k now-said [])

    walk-on : (m : Went) (d' : List ℕ) (n r j : ℕ) → m ≡ now-said → Wrote d o (record_bytes F k m) d' n → r ≡ cond (ltb (get_or cs k 0) half) (min (q + 1) (length lf)) q → j ≡ min (e + 1) (length t) → WalkInv F t lf cs d₀ d' j r (k + 1) n
    walk-on m d' n r j s w v g = record {
      i≤ = omega arith;
      p≤ = out-le r v;
      k≤ = omega arith;
      writing = rw g (writing-put (next r v) (subst (λ (y : Went). Wrote d o (record_bytes F k y) d' n) s w));
    }

    lacking : lacks 10 (part i x t) ≡ true
    lacking = up-lacks 10 (x - i) (drop i t) (omega (arith, u, y, bare-le (drop i t) (e - i)))

    -- the same by what is said of it and of the lines that came out from the next on
    pub walk-told : (m : Went) (d' : List ℕ) (n r j : ℕ) → m ≡ said_first (part i x t) (drop p lf) (get_or cs k 0) → Wrote d o (record_bytes F k m) d' n →
        r ≡ cond (ltb (get_or cs k 0) half) (min (p + first_end (part i x t) (drop p lf) + 1) (length lf)) p → j ≡ min (e + 1) (length t) → WalkInv F t lf cs d₀ d' j r (k + 1) n
    walk-told m d' n r j s w v g = walk-on m d' n r j (s ∙ told-said (part i x t) lf p q (get_or cs k 0) z lacking) w (told-next (part i x t) lf p q (get_or cs k 0) z lacking r v) g

  -- no line is left
  pub walk-over : length t ≤ i → Wrote d₀ 0 (file_of F (wents_by (lines_of lf) (split_lines t) cs)) d o
  unfolding records_from wents_by
  walk-over z =
      writing-end
      (writing-as
      (ap (λ (l : List ℕ). records_from F k (wents_by (lines_of (drop p lf)) (split_lines l) (drop k cs))) (drop_of_length-le t z)
      ∙ ap (λ (ls : List (List ℕ)). records_from F k (wents_by (lines_of (drop p lf)) ls (drop k cs))) split-none)
      h.writing)

  -- no code is left
  pub walk-out : length cs ≤ k → Wrote d₀ 0 (file_of F (wents_by (lines_of lf) (split_lines t) cs)) d o
  unfolding records_from wents_by
  walk-out z =
      writing-end
      (writing-as
      (ap (λ (c : List ℕ). records_from F k (wents_by (lines_of (drop p lf)) (split_lines (drop i t)) c)) (drop_of_length-le cs z)
      ∙ ap (records_from F k) (said-none (lines_of (drop p lf)) (split_lines (drop i t))))
      h.writing)

  -- the same under other names
  pub walk-as : {j n : ℕ} → j ≡ i → n ≡ k → WalkInv F t lf cs d₀ d j p n o
  walk-as {j} {n} e q = subst (λ (y : ℕ). WalkInv F t lf cs d₀ d y p n o) (sym e) (subst (λ (y : ℕ). WalkInv F t lf cs d₀ d i p y o) (sym q) h)
