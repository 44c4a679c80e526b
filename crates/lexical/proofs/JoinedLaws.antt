-- What a line leaves open, place by place; and the rests of lines that are cut in two. Assumes nothing.
use Prim.Native.Nat.{ℕ, zero, suc, ◌+◌, ◌-◌, ◌≤◌, ◌<◌}
use mathlib.Core.Path.{◌≡◌, refl, sym, ap, ◌∙◌}
use mathlib.Core.Bool.{Bool, true, false, cond, not}
use mathlib.Core.List.{List, [], ◌∷◌, ◌++◌}
use native.Mathlib.Omega.{arith}
use borrow.Author.Tests.{ne_eqb}
use lib.Dec.{eqb}
use lib.ListN.{length, drop, get_or, length-drop, drop_of_length-le}
use lib.Seq.{drop-drop}
use Rattle.lines.specs.Lf.{prefixed, holds}
use Rattle.lines.specs.Inner.Lf.{lacks}
use Rattle.lines.proofs.LfLaws.{lacks-cons}
use Rattle.lexical.specs.declared.Token.{Token}
use Rattle.lexical.specs.declared.Tail.{Tail}
use Rattle.lexical.specs.declared.Step.{Step}
use Rattle.lexical.specs.declared.Open.{Open}
use Rattle.lexical.specs.declared.Open.TheVariants.{Nothing, Comment, Template}
use Rattle.lexical.specs.Lex.{quote_shut, last_of, token_of, leaves}
use Rattle.lexical.specs.Inner.Lex.{token_at, tail_of, clean_step}
use Rattle.lexical.specs.Joined.{taken, shut_in, rest_at, opens_comment, opens_template, open_go, open_of, open_below, rests_from, open_after, rests_in}
use Rattle.lexical.specs.Inner.Joined.{rest_in, rests_by}
use Rattle.lexical.proofs.EndLaws.{cons-at, quote-le, comment-le}
use Rattle.lexical.proofs.TokenLaws.{next-is, size-some}
use Rattle.lexical.proofs.LexLaws.{step-on, step-tail}

-- ---- what begins at a place and is not closed

module _ (s : List ℕ) (i : ℕ) where
  pub comment-other : (get_or s i 0 ≡ 47 → ⊥) → opens_comment (get_or s i 0) (drop (i + 1) s) ≡ false
  unfolding opens_comment
  comment-other n = rw (ne_eqb (get_or s i 0) 47 n)

  pub comment-slash : get_or s i 0 ≡ 47 → (get_or s (i + 1) 0 ≡ 42 → ⊥) → opens_comment (get_or s i 0) (drop (i + 1) s) ≡ false
  unfolding opens_comment
  comment-slash e n =
      let p : prefixed (42 ∷ []) (drop (i + 1) s) ≡ false = next-is s i 42 (omega arith) ∙ ne_eqb (get_or s (i + 1) 0) 42 n in
      rw (e, p)

  pub comment-is : get_or s i 0 ≡ 47 → get_or s (i + 1) 0 ≡ 42 → opens_comment (get_or s i 0) (drop (i + 1) s) ≡ not (holds (42 ∷ 47 ∷ []) (drop (i + 1 + 1) s))
  unfolding opens_comment
  comment-is e n =
      let p : prefixed (42 ∷ []) (drop (i + 1) s) ≡ true = next-is s i 42 (omega arith) ∙ ap (λ (y : ℕ). eqb y 42) n in
      let d : drop 1 (drop (i + 1) s) ≡ drop (i + 1 + 1) s = drop-drop 1 (i + 1) s in
      rw (e, p, d)

  pub template-other : (get_or s i 0 ≡ 96 → ⊥) → opens_template (get_or s i 0) (drop (i + 1) s) ≡ false
  unfolding opens_template
  template-other n = rw (ne_eqb (get_or s i 0) 96 n)

  pub template-is : get_or s i 0 ≡ 96 → opens_template (get_or s i 0) (drop (i + 1) s) ≡ not (quote_shut (drop (i + 1) s) 96)
  unfolding opens_template
  template-is e = rw e

-- ---- token by token

open-skip : (k : ℕ) (l out : List ℕ) → open_go l k out ≡ open_go (drop k l) 0 out
unfolding open_go
open-skip zero l out = refl
open-skip (suc k) [] out = refl
open-skip (suc k) (x ∷ xs) out = open-skip k xs out

-- what is left open by a text that x begins, where what comes after its first token leaves `on` open
abbrev opened : ℕ → List ℕ → Open → Open
opened x xs on = cond (opens_comment x xs) Comment (cond (opens_template x xs) Template on)

open-first : (x : ℕ) (xs out : List ℕ) → open_go (x ∷ xs) 0 out
    ≡ opened x xs (open_go (drop ((token_of (last_of out) x xs).size - 1) xs) 0 (out ++ leaves (token_of (last_of out) x xs).kind x))
unfolding open_go
open-first x xs out =
    ap (opened x xs) (open-skip ((token_of (last_of out) x xs).size - 1) xs (out ++ leaves (token_of (last_of out) x xs).kind x))

-- what a line leaves open is what is left open from the place i on, where `out` is left so far
pub record OpenInv (s : List ℕ) (i : ℕ) (t : Tail) : Type 0 where
  pub out : List ℕ
  pub tail : t ≡ tail_of out
  pub is : open_go (drop i s) 0 out ≡ open_of s

pub open-start : (s : List ℕ) (t : Tail) → t ≡ tail_of [] → OpenInv s 0 t
unfolding open_of
open-start s t e = record { out = []; tail = e; is = refl }

module _ {s : List ℕ} {i : ℕ} {t : Tail} (v : OpenInv s i t) (h : i < length s) where
  open-here : open_of s ≡ opened (get_or s i 0) (drop (i + 1) s)
      (open_go (drop (clean_step i t (drop i s)).next s) 0 (v.out ++ leaves (clean_step i t (drop i s)).kind (get_or s i 0)))
  unfolding clean_step token_at tail_of
  open-here =
      let k : Token = token_at t.last (drop i s) in
      let x : ℕ = get_or s i 0 in
      let xs : List ℕ = drop (i + 1) s in
      let same : token_at t.last (drop i s) ≡ token_of (last_of v.out) x xs = rw (cons-at s i h, v.tail) in
      let b = size-some t.last (drop i s) (omega (arith, length-drop i s)) in
      let p : i + 1 + (k.size - 1) ≡ i + k.size = omega arith in
      sym v.is
      ∙ ap (λ (l : List ℕ). open_go l 0 v.out) (cons-at s i h)
      ∙ open-first x xs v.out
      ∙ ap (λ (m : Token). opened x xs (open_go (drop (m.size - 1) xs) 0 (v.out ++ leaves m.kind x))) (sym same)
      ∙ ap (λ (l : List ℕ). opened x xs (open_go l 0 (v.out ++ leaves k.kind x))) (drop-drop (k.size - 1) (i + 1) s ∙ ap (λ (n : ℕ). drop n s) p)

  pub open-on : (r : Step) → r ≡ clean_step i t (drop i s) → i < r.next
  open-on r q = rw q (step-on s i t h)

  pub open-comment : opens_comment (get_or s i 0) (drop (i + 1) s) ≡ true → Comment ≡ open_of s
  open-comment e = sym (open-here ∙ rw e)

  module _ (e : opens_comment (get_or s i 0) (drop (i + 1) s) ≡ false) where
    pub open-template : opens_template (get_or s i 0) (drop (i + 1) s) ≡ true → Template ≡ open_of s
    open-template f = sym (open-here ∙ rw (e, f))

    pub open_next : (r : Step) → r ≡ clean_step i t (drop i s) → opens_template (get_or s i 0) (drop (i + 1) s) ≡ false → OpenInv s r.next r.tail
    open_next r q f = record {
      out = v.out ++ leaves (clean_step i t (drop i s)).kind (get_or s i 0);
      tail = ap (λ (z : Step). z.tail) q ∙ step-tail s i t h v.out v.tail;
      is = ap (λ (z : Step). open_go (drop z.next s) 0 (v.out ++ leaves (clean_step i t (drop i s)).kind (get_or s i 0))) q ∙ sym (open-here ∙ rw (e, f));
    }

pub open-end : {s : List ℕ} {i : ℕ} {t : Tail} → OpenInv s i t → length s ≤ i → Nothing ≡ open_of s
unfolding open_go
open-end {s} {i} v h = sym (ap (λ (l : List ℕ). open_go l 0 v.out) (drop_of_length-le s h)) ∙ v.is

-- ---- a text with no backtick and no `/`

none_open : (l : List ℕ) (k : ℕ) (out : List ℕ) → lacks 96 l ≡ true → lacks 47 l ≡ true → open_go l k out ≡ Nothing
unfolding open_go opens_comment opens_template
none_open [] k out a b = refl
none_open (x ∷ xs) (suc k) out a b = none_open xs k out (lacks-cons 96 x xs a).1 (lacks-cons 47 x xs b).1
none_open (x ∷ xs) zero out a b =
    let p : eqb x 96 ≡ false = (lacks-cons 96 x xs a).0 in
    let q : eqb x 47 ≡ false = (lacks-cons 47 x xs b).0 in
    let t : Token = token_of (last_of out) x xs in
    rw (p, q) (none_open xs (t.size - 1) (out ++ leaves t.kind x) (lacks-cons 96 x xs a).1 (lacks-cons 47 x xs b).1)

pub open_none : (s : List ℕ) → lacks 96 s ≡ true → lacks 47 s ≡ true → Nothing ≡ open_of s
unfolding open_of
open_none s a b = sym (none_open s 0 [] a b)

-- ---- what a line hands on

module _ (o : Open) (s : List ℕ) where
  pub below-open : shut_in o s ≡ false → o ≡ open_below o s
  unfolding open_below
  below-open e = sym (rw e)

  pub below-shut : shut_in o s ≡ true → open_of (rest_at o s) ≡ open_below o s
  unfolding open_below
  below-shut e = sym (rw e)

-- ---- lines

pub rests-append : (o : Open) (us ts : List (List ℕ)) → rests_from o (us ++ ts) ≡ rests_from o us ++ rests_from (open_after o us) ts
unfolding rests_from open_after
rests-append o [] ts = refl
rests-append o (l ∷ us) ts = ap (λ (r : List (List ℕ)). rest_at o l ∷ r) (rests-append (open_below o l) us ts)

pub rests-length : (o : Open) (ls : List (List ℕ)) → length (rests_from o ls) ≡ length ls
unfolding rests_from
rests-length o [] = refl
rests-length o (l ∷ ls) = ap suc (rests-length (open_below o l) ls)

-- a rest begins in its line, or at its end
taken-le : (o : Open) (l : List ℕ) → taken o l ≤ length l
unfolding taken
taken-le Nothing l = omega arith
taken-le Comment l = comment-le l
taken-le Template l = quote-le l 96

pub rest_le : (joined : Bool) (o : Open) (l : List ℕ) → (rest_in joined o l).from ≤ length l
rest_le true o l = taken-le o l
rest_le false o l = omega arith

-- what a loop carries gives what is cleaned
rests-joined : (o : Open) (ls : List (List ℕ)) → rests_by true o ls ≡ rests_from o ls
unfolding rests_by rests_from
rests-joined o [] = refl
rests-joined o (l ∷ ls) = ap (λ (r : List (List ℕ)). rest_at o l ∷ r) (rests-joined (open_below o l) ls)

rests-alone : (ls : List (List ℕ)) → rests_by false Nothing ls ≡ ls
unfolding rests_by taken
rests-alone [] = refl
rests-alone (l ∷ ls) = ap (λ (r : List (List ℕ)). l ∷ r) (rests-alone ls)

pub rests-by : (joined : Bool) (ls : List (List ℕ)) → rests_by joined Nothing ls ≡ rests_in joined ls
rests-by true ls = rests-joined Nothing ls
rests-by false ls = rests-alone ls
