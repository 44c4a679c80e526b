-- A text is valid exactly where it is a row of characters; trimmed at both ends, it is that row without the white ones at its ends.
-- Assumes nothing.
use mathlib.Core.Path.{◌≡◌, refl, sym, ap, ◌∙◌}
use mathlib.Core.Bool.{Bool, true, false, cond, ◌&&◌, false≢true}
use mathlib.Core.List.{List, [], ◌∷◌, ◌++◌, reverse, reverse-cons, append_assoc, append-nil}
use Prim.Native.Nat.{ℕ, zero, suc, ◌+◌, ◌≤◌, ◌<◌}
use native.Mathlib.Omega.{arith}
use lib.ListN.{length, take, drop, length-drop, take-append-drop}
use lib.Seq.{length-take-le, drop-append_seam}
use Rattle.lines.specs.Lf.{within}
use Rattle.text.specs.Utf8Form.{seq_len, begins, grammar, scan, utf8_of}
use Rattle.std.specs.declared.result.Result.TheVariants.{Ok}
use Rattle.text.specs.Trim.{white_char, trim_end, trim_of}
use Rattle.text.proofs.Rows.{seq_len-fits}
use Rattle.text.proofs.Scan.{first-bad, first_on}
use Rattle.text.proofs.Chars.{Led, bad, good, led, formed, formed-append, Chars, none, char, text, stripped, trim-chars}
use Rattle.text.proofs.CharsEnd.{backtext, trim-chars-end}

-- ---- a row of characters is valid

scan-char : (c t : List ℕ) (i : ℕ) → seq_len c ≡ length c → 0 < length c → scan 0 i (c ++ t) ≡ scan 0 (i + length c) t
scan-char [] t i e h = absurd (omega arith)
scan-char (x ∷ ys) t i e h =
    first_on i (length ys) x (ys ++ t) (formed-append x ys (formed x ys e) t) ∙ ap (scan 0 (i + suc (length ys))) (drop-append_seam ys t)

scan-chars : {cs : List (List ℕ)} → Chars cs → (i : ℕ) → scan 0 i (text cs) ≡ Ok tt
unfolding scan
scan-chars none i = refl
scan-chars (char {c} {cs} e h r) i = scan-char c (text cs) i e h ∙ scan-chars r (i + length c)

pub valid-chars : {cs : List (List ℕ)} → Chars cs → utf8_of (text cs) ≡ Ok tt
unfolding utf8_of
valid-chars r = scan-chars r 0

-- ---- a valid text is a row of characters

begins-take : (g : List (ℕ × ℕ)) (xs : List ℕ) → begins g xs ≡ true → begins g (take (length g) xs) ≡ true
begins-take [] xs e = refl
begins-take (r ∷ g) [] e = e
begins-take (r ∷ g) (x ∷ xs) e = go (within r.0 r.1 x) e (begins-take g xs)
  where
    go : (b : Bool) → b && begins g xs ≡ true → (begins g xs ≡ true → begins g (take (length g) xs) ≡ true) → b && begins g (take (length g) xs) ≡ true
    go true e f = f e
    go false e f = absurd (false≢true e)

-- the sequence at the head, by itself
cut : (x k : ℕ) (xs : List ℕ) → seq_len (x ∷ xs) ≡ suc k → seq_len (x ∷ take k xs) ≡ suc k
unfolding seq_len
cut x k xs e = go (led 0 x grammar tt)
  where
    go : Led grammar x → seq_len (x ∷ take k xs) ≡ suc k
    go (bad f) = let z = sym (f xs) ∙ e in absurd (omega arith)
    go (good g t h f) = at (begins g xs) refl
      where
        at : (b : Bool) → begins g xs ≡ b → seq_len (x ∷ take k xs) ≡ suc k
        at true q =
            let z : suc (length g) ≡ suc k = sym (f xs ∙ ap (λ (b : Bool). cond b (suc (length g)) 0) q) ∙ e in
            let l : length g ≡ k = omega arith in
            rw (← l) (f (take (length g) xs) ∙ ap (λ (b : Bool). cond b (suc (length g)) 0) (begins-take g xs q))
        at false q = let z : 0 ≡ suc k = sym (f xs ∙ ap (λ (b : Bool). cond b (suc (length g)) 0) q) ∙ e in absurd (omega arith)

parts : (m : ℕ) (l : List ℕ) (i : ℕ) → length l ≤ m → scan 0 i l ≡ Ok tt → (cs : List (List ℕ)) × Chars cs × (text cs ≡ l)
parts zero [] i h v = ([], none, refl)
parts zero (x ∷ xs) i h v = absurd (omega arith)
parts (suc m) [] i h v = ([], none, refl)
parts (suc m) (x ∷ xs) i h v = go (seq_len (x ∷ xs)) refl (λ l j. parts m l j)
  where
    go : (n : ℕ) → seq_len (x ∷ xs) ≡ n → ((l : List ℕ) (i : ℕ) → length l ≤ m → scan 0 i l ≡ Ok tt → (cs : List (List ℕ)) × Chars cs × (text cs ≡ l)) → (cs : List (List ℕ)) × Chars cs × (text cs ≡ x ∷ xs)
    go zero e f = let b = first-bad i x xs e in let z : ◌≡◌ {A = ℕ} 0 1 = cc in absurd (omega arith)
    go (suc k) e f =
        let b = seq_len-fits (x ∷ xs) in
        let lk : length (take k xs) ≡ k = length-take-le k xs (omega arith) in
        let d = length-drop k xs in
        let r = f (drop k xs) (i + suc k) (omega arith) (sym (first_on i k x xs e) ∙ v) in (
          (x ∷ take k xs) ∷ r.0,
          char (cut x k xs e ∙ ap suc (sym lk)) (omega arith) r.1,
          ap (λ (t : List ℕ). x ∷ (take k xs ++ t)) r.2 ∙ ap (λ (t : List ℕ). x ∷ t) (take-append-drop k xs),
        )

pub chars-of : (l : List ℕ) → utf8_of l ≡ Ok tt → (cs : List (List ℕ)) × Chars cs × (text cs ≡ l)
unfolding utf8_of
chars-of l v = parts (length l) l 0 (omega arith) v

-- ---- both ends

chars-append : {cs ds : List (List ℕ)} → Chars cs → Chars ds → Chars (cs ++ ds)
chars-append none s = s
chars-append (char e h r) s = char e h (chars-append r s)

chars-reverse : {cs : List (List ℕ)} → Chars cs → Chars (reverse cs)
chars-reverse none = none
chars-reverse (char {c} {cs} e h r) = rw reverse-cons (chars-append (chars-reverse r) (char e h none))

chars-stripped : {cs : List (List ℕ)} → Chars cs → Chars (stripped cs)
chars-stripped none = none
chars-stripped (char {c} {cs} e h r) = go (white_char c) (chars-stripped r)
  where
    go : (b : Bool) → Chars (stripped cs) → Chars (cond b (stripped cs) (c ∷ cs))
    go true i = i
    go false i = char e h r

backtext-append : (cs ds : List (List ℕ)) → backtext (cs ++ ds) ≡ backtext ds ++ backtext cs
backtext-append [] ds = sym (append-nil (backtext ds))
backtext-append (c ∷ cs) ds = ap (λ (t : List ℕ). t ++ c) (backtext-append cs ds) ∙ append_assoc (backtext ds) (backtext cs) c

text-back : (cs : List (List ℕ)) → text cs ≡ backtext (reverse cs)
text-back [] = refl
text-back (c ∷ cs) = rw reverse-cons (ap (λ (t : List ℕ). c ++ t) (text-back cs) ∙ sym (backtext-append (reverse cs) (c ∷ [])))

-- the characters without the white ones at both ends
pub trim-both : {cs : List (List ℕ)} → Chars cs → trim_of (text cs) ≡ backtext (stripped (reverse (stripped cs)))
unfolding trim_of
trim-both {cs} r =
    ap trim_end (trim-chars r ∙ text-back (stripped cs)) ∙ trim-chars-end (chars-reverse (chars-stripped r))
