-- A line that is no declaration uses the registers that its runs name, the one that it stores with them. Assumes nothing.
use Prim.Native.Nat.{ℕ, suc, ◌+◌, ◌-◌, ◌≤◌, ◌<◌}
use mathlib.Core.Path.{◌≡◌, refl, sym, ap, ◌∙◌}
use mathlib.Core.Bool.{Bool, true, false, cond, not, ◌&&◌}
use mathlib.Core.List.{List, [], ◌∷◌, ◌++◌, append_assoc}
use native.Mathlib.Omega.{arith}
use native.Mathlib.Numerals.{add-one}
use borrow.Author.Tests.{eqb-true, ltb-true}
use lib.Dec.{eqb, ltb}
use lib.ListN.{length, take, drop, get_or, length-take, length-drop, take-append-drop, drop_of_length-le}
use lib.Seq.{drop-cons, drop-drop, take-take}
use Rattle.lines.specs.Lf.{part, up_to, ends_in}
use Rattle.lines.proofs.Tests.{no, and_left}
use Rattle.text.specs.Class.{is_name}
use Rattle.text.specs.Trim.{from_of, to_end, trim_of}
use Rattle.text.proofs.Trims.{to_end-le, trim-part}
use Rattle.names.specs.Names.{reg_of}
use Rattle.std.specs.declared.option.Option.{Option}
use Rattle.std.specs.declared.option.Option.TheVariants.{Some, None}
use Rattle.names.specs.declared.Register.{Register}
use Rattle.names.proofs.Texts.{reg-names}
use Rattle.parse.specs.Parse.{is_decl, store_by, split_store, store_in, parse_of, text_of}
use Rattle.parse.specs.declared.Line.{Line}
use Rattle.parse.specs.declared.Line.TheVariants as line
use Rattle.parse.proofs.Shut.{drop-take}
use Rattle.words.specs.Runs.{flush, runs_go, runs}
use Rattle.words.proofs.Walk.{go-gap}
use Rattle.slots.specs.Inner.Slots.{with_entry}
use Rattle.decls.specs.Inner.Seen.{mark_name, mark_runs, mark_store, mark_line}
use Rattle.decls.proofs.TrimRuns.{back-runs, name_runs, trim-runs}
use Rattle.decls.proofs.SeenLaws.{runs-flush}

-- ---- a text cut in two at a byte that is no name byte

pub mid-runs : (a : List ℕ) (x : ℕ) (b cur : List ℕ) → is_name x ≡ false → runs_go (a ++ x ∷ b) cur ≡ runs_go a cur ++ runs_go b []
unfolding runs_go
mid-runs [] x b cur h = go-gap x b cur h
mid-runs (y ∷ a) x b cur h =
    ap (λ (r : List (List ℕ)). cond (is_name y) r (flush cur ++ runs_go (a ++ x ∷ b) [])) (mid-runs a x b (cur ++ (y ∷ [])) h)
    ∙ ap (λ (r : List (List ℕ)). cond (is_name y) (runs_go a (cur ++ (y ∷ [])) ++ runs_go b []) (flush cur ++ r)) (mid-runs a x b [] h)
    ∙ go (is_name y)
  where
    go : (t : Bool) →
        cond t (runs_go a (cur ++ (y ∷ [])) ++ runs_go b []) (flush cur ++ (runs_go a [] ++ runs_go b [])) ≡ cond t (runs_go a (cur ++ (y ∷ []))) (flush cur ++ runs_go a []) ++ runs_go b []
    go true = refl
    go false = sym (append_assoc (flush cur) (runs_go a []) (runs_go b []))

-- a text at its first byte b
split-at : (b : ℕ) (l : List ℕ) → up_to b l < length l → l ≡ take (up_to b l) l ++ b ∷ drop (suc (up_to b l)) l
unfolding up_to
split-at b [] h = absurd (omega arith)
split-at b (x ∷ l) h = go (eqb x b) refl h (split-at b l)
  where
    go : (t : Bool) → eqb x b ≡ t → cond t 0 (suc (up_to b l)) < suc (length l) → (up_to b l < length l → l ≡ take (up_to b l) l ++ b ∷ drop (suc (up_to b l)) l) →
        x ∷ l ≡ take (cond t 0 (suc (up_to b l))) (x ∷ l) ++ b ∷ drop (suc (cond t 0 (suc (up_to b l)))) (x ∷ l)
    go true e k f = ap (λ (n : ℕ). n ∷ l) (eqb-true x b e)
    go false e k f = ap (λ (r : List ℕ). x ∷ r) (f (omega arith))

-- a text and its last byte
last-at : (t : List ℕ) → ends_in 59 t ≡ true → t ≡ take (length t - 1) t ++ (59 ∷ [])
last-at [] h = no h
last-at (x ∷ t) h =
    let k : length (x ∷ t) ≤ suc (length (x ∷ t) - 1) = omega arith in
    sym (take-append-drop (length (x ∷ t) - 1) (x ∷ t))
    ∙ ap (λ (r : List ℕ). take (length (x ∷ t) - 1) (x ∷ t) ++ r)
    (drop-cons (x ∷ t) (length (x ∷ t) - 1) 0 (omega arith) ∙ ap (λ (b : ℕ). b ∷ drop (suc (length (x ∷ t) - 1)) (x ∷ t)) (eqb-true _ 59 h) ∙ ap (λ (r : List ℕ). 59 ∷ r) (drop_of_length-le (x ∷ t) k))

-- a part of a part
part_in : (a n p q : ℕ) (l : List ℕ) → q ≤ n → part p q (take n (drop a l)) ≡ part (a + p) (a + q) l
part_in a n p q l h =
    let z : q - p ≡ a + q - (a + p) = omega arith in
    ap (take (q - p)) (drop-take p n (drop a l) ∙ ap (take (n - p)) (drop-drop p a l)) ∙ take-take (q - p) (n - p) (drop (a + p) l) (omega arith) ∙ ap (λ (m : ℕ). take m (drop (a + p) l)) z

-- ---- a store: t is the trimmed line without its `;`, with its first `=` at the place k

module _ (own : List ℕ) (m : ℕ) (l d : List ℕ) (e : ends_in 59 (trim_of l) ≡ true) where
  abbrev u : List ℕ
  u = take (length (trim_of l) - 1) (trim_of l)

  line-runs : runs l ≡ runs u
  unfolding runs
  line-runs = trim-runs l ∙ ap runs (last-at (trim_of l) e) ∙ back-runs u (59 ∷ []) [] refl

  module _ (h : up_to 61 u < length u) where
    abbrev rhs : List ℕ
    rhs = drop (up_to 61 u + 1) u

    side-runs : runs u ≡ runs (take (up_to 61 u) u) ++ runs rhs
    unfolding runs
    side-runs = ap runs (split-at 61 u h) ∙ mid-runs (take (up_to 61 u) u) 61 (drop (suc (up_to 61 u)) u) [] refl ∙ ap (λ (n : ℕ). runs (take (up_to 61 u) u) ++ runs (drop n u)) (sym (add-one (up_to 61 u)))

    -- the value is a part of the line
    value-is : part (from_of l + (up_to 61 u + 1) + from_of rhs) (from_of l + (up_to 61 u + 1) + to_end rhs) l ≡ trim_of rhs
    value-is =
        let a : ℕ = from_of l in
        let b : ℕ = up_to 61 u + 1 in
        let n : ℕ = length (trim_of l) - 1 in
        let w : ℕ = to_end l - a in
        let s : u ≡ take n (drop a l) = ap (take n) (trim-part l) ∙ take-take n w (drop a l) (omega (arith, ap length (trim-part l), length-take w (drop a l))) in
        let g : b + to_end rhs ≤ n = omega (arith, to_end-le rhs, length-drop b u, length-take n (trim_of l)) in
        let z : b + to_end rhs - (b + from_of rhs) ≡ to_end rhs - from_of rhs = omega arith in
        let x : a + b + from_of rhs ≡ a + (b + from_of rhs) = omega arith in
        let y : a + b + to_end rhs ≡ a + (b + to_end rhs) = omega arith in
        rw (x, y)
        (sym (part_in a n (b + from_of rhs) (b + to_end rhs) l g) ∙ ap (part (b + from_of rhs) (b + to_end rhs)) (sym s)
        ∙ ap (λ (i : ℕ). take i (drop (b + from_of rhs) u)) z ∙ ap (take (to_end rhs - from_of rhs)) (sym (drop-drop (from_of rhs) b u)) ∙ sym (trim-part rhs))

    store-runs : (q : Register) → reg_of (trim_of (take (up_to 61 u) u)) ≡ Some q → mark_runs own m (runs l) d ≡ mark_runs own m (runs (trim_of rhs)) (with_entry own q.0 m d)
    unfolding runs
    store-runs q r =
        let x : List ℕ = trim_of (take (up_to 61 u) u) in
        ap (λ (rs : List (List ℕ)). mark_runs own m rs d) (line-runs ∙ side-runs ∙ ap (λ (rs : List (List ℕ)). rs ++ runs rhs) (trim-runs (take (up_to 61 u) u) ∙ name_runs x [] (reg-names x q r)))
        ∙ runs-flush own m x (runs rhs) d
        ∙ ap (λ (n : Option Register). mark_runs own m (runs rhs) (mark_name own m n d)) r
        ∙ ap (λ (rs : List (List ℕ)). mark_runs own m rs (with_entry own q.0 m d)) (trim-runs rhs)

-- ---- a line

module _ (own : List ℕ) (m : ℕ) (l d : List ℕ) where
  -- what is read so
  abbrev marked : Line → List ℕ
  marked p = mark_runs own m (runs (text_of l p)) (mark_store own m p d)

  pub line-decl-marked : is_decl (trim_of l) ≡ true → d ≡ mark_line own m l d
  unfolding mark_line parse_of text_of runs runs_go mark_runs
  line-decl-marked e = rw e

  by_name : (e : ends_in 59 (trim_of l) ≡ true) (h : up_to 61 (u own m l d e) < length (u own m l d e)) (r : Option Register) → reg_of (trim_of (take (up_to 61 (u own m l d e)) (u own m l d e))) ≡ r →
      mark_runs own m (runs l) d ≡ marked (store_by r (from_of l + (up_to 61 (u own m l d e) + 1)) (rhs own m l d e h))
  unfolding text_of
  by_name e h None q = refl
  by_name e h (Some g) q = store-runs own m l d e h g q ∙ ap (λ (s : List ℕ). mark_runs own m (runs s) (with_entry own g.0 m d)) (sym (value-is own m l d e h))

  pub line-runs-marked : is_decl (trim_of l) ≡ false → mark_runs own m (runs l) d ≡ mark_line own m l d
  unfolding mark_line parse_of store_in text_of
  line-runs-marked n = rw n (go (ends_in 59 (trim_of l)) refl)
    where
      w : List ℕ
      w = take (length (trim_of l) - 1) (trim_of l)

      sides : (e : ends_in 59 (trim_of l) ≡ true) (b : Bool) → ltb (up_to 61 w) (length w) && not (eqb (get_or w (up_to 61 w + 1) 0) 61) ≡ b →
          mark_runs own m (runs l) d ≡ marked (cond b (store_by (reg_of (trim_of (take (up_to 61 w) w))) (from_of l + (up_to 61 w + 1)) (drop (up_to 61 w + 1) w)) line.Other)
      sides e true f = by_name e (ltb-true _ _ (and_left (ltb (up_to 61 w) (length w)) _ f)) (reg_of (trim_of (take (up_to 61 w) w))) refl
      sides e false f = refl

      go : (b : Bool) → ends_in 59 (trim_of l) ≡ b → mark_runs own m (runs l) d ≡ marked (cond b (split_store (from_of l) w) line.Other)
      go true e = sides e (ltb (up_to 61 w) (length w) && not (eqb (get_or w (up_to 61 w + 1) 0) 61)) refl
      go false e = refl
