-- What rebuild_calls keeps: there are no more lines than before, and a value that goes into a line stands in it. Assumes nothing.
use Prim.Native.Nat.{ℕ, ◌≤◌}
use mathlib.Core.Path.{◌≡◌, refl, sym, ap, ◌∙◌}
use mathlib.Core.Bool.{Bool, true, false, cond, ◌||◌}
use mathlib.Core.List.{List, [], ◌∷◌, ◌++◌, append_assoc, append-nil}
use borrow.Author.Tests.{eq-eqb}
use lib.ListN.{length, take, drop}
use Rattle.lines.specs.Lf.{prefixed, holds}
use Rattle.lines.specs.Acts.{Act}
use Rattle.lines.proofs.ActLaws.{apply-length}
use Rattle.lines.proofs.Tests.{or-true}
use Rattle.words.specs.Hits.{glue_left, glue_right, glued, replaced_at}
use Rattle.forms.specs.Primary.{bare, paren_if_needed}
use Rattle.reading.specs.Reading.{Reading}
use Rattle.calls.specs.Leaves.{Leaves}
use Rattle.calls.specs.LeavesOf.{starts_below, blocks_by, leaves_of}
use Rattle.calls.specs.Calls.{rebuild_calls_acts, rebuild_calls}
use Rattle.calls.proofs.Room.{Put, put_is}
use Rattle.calls.proofs.Told.{Absorbs}

-- there are no more lines than before
pub calls-lines : (L : Leaves) (ls : List (List ℕ)) → length (rebuild_calls L ls) ≤ length ls
unfolding rebuild_calls
calls-lines L ls = apply-length (rebuild_calls_acts L ls) ls

-- ---- a text stands in another

prefixed-self : (x b : List ℕ) → prefixed x (x ++ b) ≡ true
unfolding prefixed
prefixed-self [] b = refl
prefixed-self (y ∷ x) b = rw (eq-eqb y y refl) (prefixed-self x b)

holds-self : (x b : List ℕ) → holds x (x ++ b) ≡ true
unfolding holds prefixed
holds-self [] [] = refl
holds-self [] (y ∷ b) = refl
holds-self (y ∷ x) b = ap (λ (t : Bool). t || holds (y ∷ x) (x ++ b)) (prefixed-self (y ∷ x) b)

holds_after : (a s x : List ℕ) → holds x s ≡ true → holds x (a ++ s) ≡ true
unfolding holds
holds_after [] s x h = h
holds_after (y ∷ a) s x h = rw (holds_after a s x h) (or-true (prefixed x (y ∷ a ++ s)))

-- in the middle
holds-in : (a x b : List ℕ) → holds x (a ++ (x ++ b)) ≡ true
holds-in a x b = holds_after a (x ++ b) x (holds-self x b)

-- in parentheses or not, it stands in what is put in, with bytes before and after it
record Around (x s : List ℕ) : Type 0 where
  before : List ℕ
  after : List ℕ
  is : s ≡ before ++ (x ++ after)

bare-around : (x : List ℕ) → Around x x
bare-around x = record { before = []; after = []; is = sym (append-nil x) }

paren-around : (x s : List ℕ) → Around x s → Around x (40 ∷ s ++ 41 ∷ [])
paren-around x s a = record {
  before = 40 ∷ a.before;
  after = a.after ++ 41 ∷ [];
  is = ap (λ (t : List ℕ). 40 ∷ t ++ 41 ∷ []) a.is
      ∙ ap (λ (t : List ℕ). 40 ∷ t) (append_assoc a.before (x ++ a.after) (41 ∷ []) ∙ ap (λ (t : List ℕ). a.before ++ t) (append_assoc x a.after (41 ∷ [])));
}

cond-around : (t : Bool) (x s : List ℕ) → Around x s → Around x (cond t s (40 ∷ s ++ 41 ∷ []))
cond-around true x s a = a
cond-around false x s a = paren-around x s a

glue-around : (t : Bool) (x s : List ℕ) → Around x s → Around x (cond t (40 ∷ s ++ 41 ∷ []) s)
glue-around true x s a = paren-around x s a
glue-around false x s a = a

value-around : (cur : List ℕ) (from to : ℕ) (x : List ℕ) (b : Bool) → Around x (glued (take from cur) (paren_if_needed x b) (drop to cur))
unfolding glued paren_if_needed
value-around cur from to x b =
    glue-around (glue_left (take from cur) (paren_if_needed x b) || glue_right (paren_if_needed x b) (drop to cur)) x (paren_if_needed x b) (cond-around (bare x b) x x (bare-around x))

-- the value of a store that is put into a line stands in the line that it makes
pub put_holds : (cur : List ℕ) (v : ℕ) (value next : List ℕ) → Put cur v value next → holds value next ≡ true
unfolding replaced_at
put_holds cur v value next p =
    let a = value-around cur p.span.from p.span.to value p.after in
    let l : List ℕ = take p.span.from cur in
    let r : List ℕ = drop p.span.to cur in
    ap (holds value)
    (p.is ∙ append_assoc l (glued l (paren_if_needed value p.after) r) r ∙ ap (λ (t : List ℕ). l ++ (t ++ r)) a.is ∙ ap (λ (t : List ℕ). l ++ t) (append_assoc a.before (value ++ a.after) r)
    ∙ sym (append_assoc l a.before (value ++ a.after ++ r)) ∙ ap (λ (t : List ℕ). (l ++ a.before) ++ t) (append_assoc value a.after r))
    ∙ holds-in (l ++ a.before) value (a.after ++ r)

-- so a step that drops a line leaves its value in the line that takes it in
pub absorbed-holds : (R : Reading) {a : Act} {l cur next : List ℕ} (p : Absorbs (leaves_of R) a l cur next) → holds p.value next ≡ true
absorbed-holds R {a} {l} {cur} {next} p = put_holds cur p.reg p.value next (put_is (starts_below R) (blocks_by R) cur p.reg p.value next p.puts)
