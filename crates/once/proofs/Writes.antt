-- Laws of what a line is written as. Assumes nothing.
use Prim.Native.Nat.{ℕ, zero, suc, ◌+◌, ◌≤◌, ◌<◌, min}
use mathlib.Core.Path.{◌≡◌, refl, sym, ap, ◌∙◌}
use mathlib.Core.Bool.{Bool, true, false, not, ◌&&◌}
use mathlib.Core.List.{List, [], ◌∷◌, ◌++◌, append_assoc}
use native.Mathlib.Omega.{arith}
use borrow.Author.Tests.{eq-eqb, ne_eqb}
use lib.Dec.{eqb}
use lib.ListN.{length, drop, get_or, length-append}
use lib.Seq.{drop-drop}
use Rattle.lines.specs.Lf.{part, up_to, lines_of, unlines}
use Rattle.lines.proofs.LfLaws.{lines-at, lines_end, part_none}
use Rattle.lines.proofs.ActLaws.{unlines-append}
use Rattle.lines.specs.Inner.Out.{Wrote}
use Rattle.lines.proofs.OutLaws.{Writing, writing_start, writing-as, writing-put, writing-end}
use Rattle.decls.proofs.Chunks.{chunk-open, chunk-shut, chunk-none}
use Rattle.decls.proofs.PrintLaws.{writing-fits}
use Rattle.lines.specs.Acts.{Act, act, apply}
use Rattle.place.specs.Blocks.{top}
use Rattle.parse.specs.Parse.{parse_of, text_of}
use Rattle.parse.specs.declared.Line.{Line}
use Rattle.parse.specs.declared.Line.TheVariants as line
use Rattle.parse.specs.declared.Store.{Store}
use Rattle.text.specs.declared.Span.{Span}
use Rattle.words.specs.Hits.{reg_hit, replace_reg, replaced_at}
use Rattle.std.specs.declared.option.Option.TheVariants.{Some, None}
use Rattle.once.specs.Once.{first_of, taken_by}
use Rattle.once.specs.Inner.Tables.{sends, act_by, acts_by}

-- room for a text is room for an equal one
pub fits-as : (o : ℕ) {n : ℕ} {xs ys : List ℕ} → xs ≡ ys → o + length ys ≤ n → o + length xs ≤ n
fits-as o {n} {xs} {ys} e h = let q : length xs ≡ length ys = ap (λ (z : List ℕ). length z) e in omega arith

-- ---- one line

pub line-is : (l : List ℕ) → l ++ (10 ∷ []) ≡ unlines (l ∷ [])
unfolding unlines
line-is l = refl

pub line-long : (l : List ℕ) → length (unlines (l ∷ [])) ≡ length l + 1
unfolding unlines
line-long l = length-append l (10 ∷ [])

-- ---- a line with a value in it

module _ (v : ℕ) (l x : List ℕ) where
  pub into_one : (w : Span) → reg_hit v l ≡ Some w → unlines (replaced_at w.from w.to l x ∷ []) ≡ unlines (first_of (replace_reg v l x) l ∷ [])
  unfolding replace_reg
  into_one w e = rw e

  pub into-not : reg_hit v l ≡ None → unlines (l ∷ []) ≡ unlines (first_of (replace_reg v l x) l ∷ [])
  unfolding replace_reg
  into-not e = rw e

module _ (above l : List ℕ) where
  pub taken_as : (k : Line) → k ≡ parse_of above → unlines (taken_by above k l ∷ []) ≡ unlines (taken_by above (parse_of above) l ∷ [])
  taken_as k q = ap (λ (z : Line). unlines (taken_by above z l ∷ [])) q

  pub taken-store : (s : Store) (x : List ℕ) → x ≡ part s.from s.to above → line.Store s ≡ parse_of above →
      unlines (first_of (replace_reg s.reg.0 l x) l ∷ []) ≡ unlines (taken_by above (parse_of above) l ∷ [])
  unfolding text_of
  taken-store s x e q = ap (λ (z : List ℕ). unlines (first_of (replace_reg s.reg.0 l z) l ∷ [])) e ∙ taken_as (line.Store s) q

-- ---- what becomes of a line by its mark

module _ (m n : ℕ) (given : Bool) (above l : List ℕ) where
  pub act-goes : m ≡ 1 → [] ≡ unlines (act (act_by m n given above l) l)
  unfolding act unlines
  act-goes h = rw (eq-eqb m 1 h)

  module _ (a : m ≡ 1 → ⊥) where
    pub act-waits : m ≡ 2 → n ≡ 2 → unlines (l ∷ []) ≡ unlines (act (act_by m n given above l) l)
    unfolding act
    act-waits h k = rw (ne_eqb m 1 a, eq-eqb m 2 h, eq-eqb n 2 k)

    pub act-sent : m ≡ 2 → (n ≡ 2 → ⊥) → [] ≡ unlines (act (act_by m n given above l) l)
    unfolding act unlines
    act-sent h k = rw (ne_eqb m 1 a, eq-eqb m 2 h, ne_eqb n 2 k)

    module _ (b : m ≡ 2 → ⊥) where
      pub act-taken : given ≡ true → unlines (taken_by above (parse_of above) l ∷ []) ≡ unlines (act (act_by m n given above l) l)
      unfolding act
      act-taken h = rw (ne_eqb m 1 a, ne_eqb m 2 b, h)

      pub act-kept : given ≡ false → unlines (l ∷ []) ≡ unlines (act (act_by m n given above l) l)
      unfolding act
      act-kept h = rw (ne_eqb m 1 a, ne_eqb m 2 b, h)

-- ---- the lines below a place, written by their marks

-- what is still to come: the lines from i on with the marks from k on
abbrev pub to_come : List ℕ → List ℕ → ℕ → ℕ → Bool → List ℕ → List ℕ
to_come t ms i k given above = unlines (apply (acts_by (lines_of (drop i t)) (drop k ms) given above) (lines_of (drop i t)))

pub top-drop : (ms : List ℕ) (k : ℕ) → top (drop k ms) ≡ get_or ms k 0
unfolding top
top-drop [] zero = refl
top-drop [] (suc k) = refl
top-drop (m ∷ ms) zero = refl
top-drop (m ∷ ms) (suc k) = top-drop ms k

acts-cons : (l : List ℕ) (ls : List (List ℕ)) (ms : List ℕ) (given : Bool) (above : List ℕ) (m n : ℕ) → m ≡ top ms → n ≡ top (drop 1 ms) →
    unlines (apply (acts_by (l ∷ ls) ms given above) (l ∷ ls)) ≡ unlines (act (act_by m n given above l) l) ++ unlines (apply (acts_by ls (drop 1 ms) (sends m n) l) ls)
unfolding acts_by apply
acts-cons l ls ms given above m n p q = rw (p, q) (unlines-append (act (act_by (top ms) (top (drop 1 ms)) given above l) l) _)

module _ (t ms : List ℕ) (i e k : ℕ) (given : Bool) (above : List ℕ) (h : i < length t) (q : e ≡ i + up_to 10 (drop i t)) where
  come-on : (m n r : ℕ) → m ≡ get_or ms k 0 → n ≡ get_or ms (k + 1) 0 → r ≡ min (e + 1) (length t) →
      to_come t ms i k given above ≡ unlines (act (act_by m n given above (part i e t)) (part i e t)) ++ to_come t ms r (k + 1) (sends m n) (part i e t)
  come-on m n r x y z =
      let d : drop 1 (drop k ms) ≡ drop (k + 1) ms = drop-drop 1 k ms in
      ap (λ (ls : List (List ℕ)). unlines (apply (acts_by ls (drop k ms) given above) ls)) (lines-at t i e h q)
      ∙ acts-cons (part i e t) _ (drop k ms) given above m n (x ∙ sym (top-drop ms k)) (y ∙ sym (top-drop ms (k + 1)) ∙ ap top (sym d))
      ∙ ap (λ (ns : List ℕ). unlines (act (act_by m n given above (part i e t)) (part i e t)) ++ unlines (apply (acts_by (lines_of (drop (min (e + 1) (length t)) t)) ns (sends m n) (part i e t)) (lines_of (drop (min (e + 1) (length t)) t)))) d
      ∙ ap (λ (j : ℕ). unlines (act (act_by m n given above (part i e t)) (part i e t)) ++ to_come t ms j (k + 1) (sends m n) (part i e t)) (sym z)

come-end : (t ms : List ℕ) (i k : ℕ) (given : Bool) (above : List ℕ) → length t ≤ i → to_come t ms i k given above ≡ []
unfolding acts_by apply unlines
come-end t ms i k given above h = ap (λ (ls : List (List ℕ)). unlines (apply (acts_by ls (drop k ms) given above) ls)) (lines_end t i h)

-- where no line above goes into the first, what that one is matters not
come-any : (t ms : List ℕ) (i k : ℕ) (above l : List ℕ) → to_come t ms i k false above ≡ to_come t ms i k false l
unfolding acts_by
come-any t ms i k above l = ap (λ (xs : List Act). unlines (apply xs (lines_of (drop i t)))) (go (lines_of (drop i t)))
  where
    go : (ls : List (List ℕ)) → acts_by ls (drop k ms) false above ≡ acts_by ls (drop k ms) false l
    go [] = refl
    go (x ∷ ls) = refl

-- ---- the loop: the lines from c up to i stay and are yet to be written, those from i on are still to come

pub record ActsInv (t ms d₀ d : List ℕ) (c i k o : ℕ) (given : Bool) (above : List ℕ) : Type 0 where
  pub c≤ : c ≤ i
  pub i≤ : i ≤ length t
  pub k≤ : k ≤ i
  pub rows : lines_of (drop i t) ≡ drop k (lines_of t)
  pub held : List ℕ
  pub ahead : i < length t → held ≡ part c i t
  pub shut : length t ≤ i → held ≡ unlines (lines_of (part c (length t) t))
  pub writing : Writing 0 (to_come t ms 0 0 false []) (held ++ to_come t ms i k given above) d₀ d o

pub acts-start : (t ms d above : List ℕ) → length (to_come t ms 0 0 false []) ≤ length d → ActsInv t ms d d 0 0 0 0 false above
acts-start t ms d above h = record {
  c≤ = omega arith;
  i≤ = omega arith;
  k≤ = omega arith;
  rows = refl;
  held = [];
  ahead = λ _. sym (part_none t 0);
  shut = λ k. chunk-none t 0 k;
  writing = writing-as (come-any t ms 0 0 [] above) (writing_start 0 (to_come t ms 0 0 false []) d (omega arith));
}

module _ {t ms d₀ d : List ℕ} {c i k o : ℕ} {given : Bool} {above : List ℕ} (v : ActsInv t ms d₀ d c i k o given above) (h : i < length t) (e : ℕ) (q : e ≡ i + up_to 10 (drop i t))
    (r : ℕ) (z : r ≡ min (e + 1) (length t)) (rows : lines_of (drop r t) ≡ drop (k + 1) (lines_of t)) (m : ℕ) (x : m ≡ get_or ms k 0) where
  -- a line that stays is held too
  pub acts-pass : m ≡ 0 → given ≡ false → ActsInv t ms d₀ d c r (k + 1) o given above
  unfolding unlines act
  acts-pass p g = record {
    c≤ = omega (arith, v.c≤);
    i≤ = omega arith;
    k≤ = omega (arith, v.k≤);
    rows = rows;
    held = part c i t ++ (part i e t ++ 10 ∷ []);
    ahead = λ y. chunk-open t c i e r v.c≤ h q z y;
    shut = λ y. chunk-shut t c i e r v.c≤ h q z y;
    writing =
        writing-as
        (ap (λ (w : List ℕ). w ++ to_come t ms i k given above) (v.ahead h)
        ∙ ap (λ (w : List ℕ). part c i t ++ w) come
        ∙ sym (append_assoc (part c i t) (part i e t ++ 10 ∷ []) (to_come t ms r (k + 1) given above)))
        v.writing;
  }
    where
      n : ℕ
      n = get_or ms (k + 1) 0

      come : to_come t ms i k given above ≡ (part i e t ++ 10 ∷ []) ++ to_come t ms r (k + 1) given above
      come =
          come-on t ms i e k given above h q m n r x refl z
          ∙ ap (λ (w : List ℕ). w ++ to_come t ms r (k + 1) (sends m n) (part i e t))
          (sym (act-kept m n given above (part i e t) (λ (y : m ≡ 1). omega arith) (λ (y : m ≡ 2). omega arith) g) ∙ sym (line-is (part i e t)))
          ∙ ap (λ (w : Bool). (part i e t ++ 10 ∷ []) ++ to_come t ms r (k + 1) w (part i e t)) (ap (λ (y : Bool). y && not (eqb n 2)) (ne_eqb m 2 (λ (y : m ≡ 2). omega arith)))
          ∙ ap (λ (w : List ℕ). (part i e t ++ 10 ∷ []) ++ w) (come-any t ms r (k + 1) (part i e t) above)
          ∙ ap (λ (w : Bool). (part i e t ++ 10 ∷ []) ++ to_come t ms r (k + 1) w above) (sym g)

  -- before another what is held is written; s is that
  module _ (n : ℕ) (y : n ≡ get_or ms (k + 1) 0) (up : List ℕ) (u : up ≡ above) (s : List ℕ) (b : s ≡ part c i t) where
    -- what the line becomes
    abbrev acted : List ℕ
    acted = unlines (act (act_by m n given up (part i e t)) (part i e t))

    held_next : Writing 0 (to_come t ms 0 0 false []) (s ++ (acted ++ to_come t ms r (k + 1) (sends m n) (part i e t))) d₀ d o
    held_next =
        rw u
        (writing-as
        (ap (λ (w : List ℕ). w ++ to_come t ms i k given above) (v.ahead h ∙ sym b) ∙ ap (λ (w : List ℕ). s ++ w) (come-on t ms i e k given above h q m n r x y z))
        v.writing)

    pub held_fits : o + length s ≤ length d
    held_fits = writing-fits s _ held_next

    -- then the line
    module _ {d₁ : List ℕ} {p : ℕ} (w : Wrote d o s d₁ p) where
      pub acts-fit : p + length acted ≤ length d₁
      acts-fit = writing-fits acted _ (writing-put held_next w)

      pub acts-go : {d₂ : List ℕ} {f : ℕ} → Wrote d₁ p acted d₂ f → ActsInv t ms d₀ d₂ r r (k + 1) f (sends m n) (part i e t)
      acts-go {d₂} {f} g = record {
        c≤ = omega arith;
        i≤ = omega arith;
        k≤ = omega (arith, v.k≤);
        rows = rows;
        held = [];
        ahead = λ _. sym (part_none t r);
        shut = λ j. chunk-none t r j;
        writing = writing-put (writing-put held_next w) g;
      }

-- at the end what is held is all that is to come; s is the text from c on
module _ {t ms d₀ d : List ℕ} {c i k o : ℕ} {given : Bool} {above : List ℕ} (v : ActsInv t ms d₀ d c i k o given above) (h : length t ≤ i) (s : List ℕ) (b : s ≡ part c (length t) t) where
  last-writing : Writing 0 (to_come t ms 0 0 false []) (unlines (lines_of s) ++ []) d₀ d o
  last-writing =
      writing-as
      (ap (λ (w : List ℕ). w ++ to_come t ms i k given above) (v.shut h ∙ ap (λ (w : List ℕ). unlines (lines_of w)) (sym b))
      ∙ ap (λ (w : List ℕ). unlines (lines_of s) ++ w) (come-end t ms i k given above h))
      v.writing

  pub last_fits : o + length (unlines (lines_of s)) ≤ length d
  last_fits = writing-fits (unlines (lines_of s)) [] last-writing

  pub acts-end : {d' : List ℕ} {r : ℕ} → Wrote d o (unlines (lines_of s)) d' r → Wrote d₀ 0 (to_come t ms 0 0 false []) d' r
  acts-end w = writing-end (writing-put last-writing w)
