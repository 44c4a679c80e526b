-- Laws of bytes at the end that hold no `(`, in which no call stands. Assumes nothing.
use Prim.Native.Nat.{ℕ, zero, suc, ◌+◌, ◌-◌, ◌≤◌}
use mathlib.Core.Path.{◌≡◌, refl, sym, ap, subst, ◌∙◌}
use mathlib.Core.Bool.{Bool, true, false, cond}
use mathlib.Core.List.{List, [], ◌∷◌}
use native.Mathlib.Omega.{arith}
use lib.Dec.{eqb}
use lib.ListN.{length, take, drop, length-drop, drop_of_length-le}
use lib.Seq.{drop-drop}
use Rattle.lines.specs.Lf.{all, part, up_to, cut_on, lines_of}
use Rattle.lines.specs.Inner.Lf.{lacks}
use Rattle.lines.proofs.Tests.{and_left, and_right, and_both}
use Rattle.lines.proofs.LfLaws.{rest_of, rest-lacks, lacks-cons, lacks-with}
use Rattle.place.specs.Region.{is_header}
use Rattle.once.specs.Inner.Tables.{any_call}
use Rattle.once.specs.Inner.Noted.{CalmIn, Calm}
use Rattle.once.proofs.CallLaws.{no_call}

-- nothing holds no `(`
pub calm-nothing : (s : List ℕ) → CalmIn s 0
unfolding lacks
calm-nothing [] h = refl
calm-nothing (x ∷ s) h = absurd (omega arith)

-- ---- lines without `(`

up-lacks : (b : ℕ) (s : List ℕ) → lacks b s ≡ true → length s ≤ up_to b s
unfolding up_to
up-lacks b [] h = omega arith
up-lacks b (a ∷ s) h = let u = lacks-cons b a s h in rw u.0 (let m = up-lacks b s u.1 in omega arith)

calm-cut : (t : Bool) (a : ℕ) (ls : List (List ℕ)) → eqb a 40 ≡ false → all (lacks 40) ls ≡ true → all (lacks 40) (cut_on t a ls) ≡ true
unfolding cut_on lacks
calm-cut true a ls e h = h
calm-cut false a [] e h = rw e refl
calm-cut false a (l ∷ ls) e h = and_both (lacks-with 40 a l false e ∙ and_left (lacks 40 l) _ h) (and_right (lacks 40 l) _ h)

calm_lines : (s : List ℕ) → lacks 40 s ≡ true → all (lacks 40) (lines_of s) ≡ true
unfolding lines_of
calm_lines [] h = refl
calm_lines (a ∷ s) h = let u = lacks-cons 40 a s h in calm-cut (eqb a 10) a (lines_of s) u.0 (calm_lines s u.1)

any-lacks : (x : List ℕ) (ls : List (List ℕ)) → all (lacks 40) ls ≡ true → any_call x ls ≡ false
unfolding any_call
any-lacks x [] h = refl
any-lacks x (l ∷ ls) h =
    rw (no_call x l (up-lacks 40 l (and_left (lacks 40 l) _ h)), any-lacks x ls (and_right (lacks 40 l) _ h)) (go (is_header l))
  where
    go : (b : Bool) → cond b false false ≡ false
    go true = refl
    go false = refl

-- no line of such a text holds a call
pub calm-none : (x s : List ℕ) (c : ℕ) → CalmIn s c → length s ≤ c → any_call x (lines_of s) ≡ false
calm-none x s c h p = any-lacks x (lines_of s) (calm_lines s (h p))

-- what follows a place in a text
pub calm-rest : (s : List ℕ) (c j : ℕ) → Calm s c → CalmIn (part j (length s) s) c
calm-rest s c j h = subst (λ (r : List ℕ). CalmIn r c) (sym (rest_of s j)) (h j)

-- ---- the loop, from the end

pub calm-start : (s : List ℕ) → lacks 40 (drop (length s) s) ≡ true
unfolding lacks
calm-start s = let h : length s ≤ length s = omega arith in rw (drop_of_length-le s h) refl

-- a list lacks what its front and its rest lack
both-lack : (n : ℕ) (xs : List ℕ) → lacks 40 (take n xs) ≡ true → lacks 40 (drop n xs) ≡ true → lacks 40 xs ≡ true
both-lack zero xs p q = q
both-lack (suc n) [] p q = q
both-lack (suc n) (x ∷ xs) p q = let e = lacks-cons 40 x (take n xs) p in lacks-with 40 x xs false e.0 ∙ both-lack n xs e.1 q

-- a block of n bytes further up
pub calm-block : (s : List ℕ) (n i : ℕ) → n ≤ i → lacks 40 (part (i - n) i s) ≡ true → lacks 40 (drop i s) ≡ true → lacks 40 (drop (i - n) s) ≡ true
calm-block s n i z p h =
    let m : i - n + (i - (i - n)) ≡ i = omega arith in
    both-lack (i - (i - n)) (drop (i - n) s) p (ap (lacks 40) (drop-drop (i - (i - n)) (i - n) s) ∙ ap (λ (k : ℕ). lacks 40 (drop k s)) m ∙ h)

pub calm-found : (s : List ℕ) (i : ℕ) → i ≤ length s → lacks 40 (drop i s) ≡ true → Calm s (length s - i)
calm-found s i p h j q =
    let y = length-drop j s in
    let m : i + (j - i) ≡ j = omega arith in
    sym (ap (lacks 40) (drop-drop (j - i) i s) ∙ ap (λ (k : ℕ). lacks 40 (drop k s)) m) ∙ rest-lacks 40 (j - i) (drop i s) h
