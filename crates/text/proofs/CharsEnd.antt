-- The same at the back.
-- Assumes nothing.
use mathlib.Core.Path.{◌≡◌, refl, sym, ap, ◌∙◌}
use mathlib.Core.Bool.{Bool, true, false, cond, ◌&&◌, false≢true}
use mathlib.Core.List.{List, [], ◌∷◌, ◌++◌}
use Prim.Native.Nat.{ℕ, zero, suc, ◌+◌, ◌-◌, ◌≤◌, ◌<◌}
use native.Mathlib.Omega.{arith}
use borrow.Author.Tests.{leb-true, le-leb, eqb-true}
use lib.Dec.{T, leb, eqb, leb→le}
use lib.ListN.{length, take, get_or, length-append}
use lib.Seq.{take-append-le, take_all, get_or-append-add}
use Rattle.lines.specs.Lf.{all}
use Rattle.text.specs.White.{is_white}
use Rattle.text.specs.Utf8Form.{seq_len, begins}
use Rattle.text.specs.Trim.{white_char, white_tail, point, or_on, end_white, to_of, trim_end}
use Rattle.lines.proofs.Tests.{T-left, T-right}
use Rattle.text.proofs.Rows.{seq_len-le}
use Rattle.text.proofs.Whites.{tail_at}
use Rattle.text.proofs.Trims.{back-stop, back_on, to_of-le}
use Rattle.text.proofs.Chars.{Formed, formed, tail_ok, four, Chars, none, char, stripped}

-- ---- first bytes and tails

abbrev Tail : ℕ → Type 0
Tail y = (0x80 ≤ y) × (y ≤ 0xBF)

abbrev Tails : List ℕ → Type 0
Tails [] = Unit {0}
Tails (y ∷ ys) = Tail y × Tails ys

tails-of : (g : List (ℕ × ℕ)) (zs : List ℕ) → T (all tail_ok g) → begins g zs ≡ true → length g ≡ length zs → Tails zs
tails-of g [] t e l = tt
tails-of [] (z ∷ zs) t e l = absurd (omega arith)
tails-of (r ∷ g) (z ∷ zs) t e l = go (leb r.0 z) refl (leb z r.1) refl e (λ q. tails-of g zs (T-right (tail_ok r) _ t) q (omega arith))
  where
    ok : T (tail_ok r)
    ok = T-left (tail_ok r) (all tail_ok g) t

    go : (a : Bool) → leb r.0 z ≡ a → (b : Bool) → leb z r.1 ≡ b → a && b && begins g zs ≡ true → (begins g zs ≡ true → Tails zs) → Tails (z ∷ zs)
    go true p true q e f =
        let l1 = leb-true r.0 z p in
        let l2 = leb-true z r.1 q in
        let l3 = leb→le 0x80 r.0 (T-left (leb 0x80 r.0) _ ok) in
        let l4 = leb→le r.1 0xBF (T-right (leb 0x80 r.0) _ ok) in
        ((omega arith, omega arith), f e)
    go true p false q e f = absurd (false≢true e)
    go false p b q e f = absurd (false≢true e)

formed-tails : {x : ℕ} {ys : List ℕ} → Formed x ys → Tails ys
formed-tails {x} {ys} F = tails-of F.g ys F.tails F.fits F.size

white-formed : (a : ℕ) (zs : List ℕ) → white_char (a ∷ zs) ≡ true → Formed a zs
unfolding white_char
white-formed a zs e = go (eqb (seq_len (a ∷ zs)) (suc (length zs))) refl e
  where
    go : (b : Bool) → eqb (seq_len (a ∷ zs)) (suc (length zs)) ≡ b → b && is_white (point (a ∷ zs)) ≡ true → Formed a zs
    go true q w = formed a zs (eqb-true (seq_len (a ∷ zs)) (suc (length zs)) q)
    go false q w = absurd (false≢true w)

-- bytes of which no character can be made are no white space
not_white : (a : ℕ) (zs : List ℕ) → (Formed a zs → ⊥) → white_char (a ∷ zs) ≡ false
not_white a zs n = go (white_char (a ∷ zs)) refl
  where
    go : (b : Bool) → white_char (a ∷ zs) ≡ b → white_char (a ∷ zs) ≡ false
    go true e = absurd (n (white-formed a zs e))
    go false e = e

tail-first : (y : ℕ) (zs : List ℕ) → Tail y → white_char (y ∷ zs) ≡ false
tail-first y zs t = not_white y zs (λ F. F.head t.0 t.1)

-- ---- the last bytes of a text whose last character is x ∷ ys

rear : (p : List ℕ) (x : ℕ) (ys : List ℕ) → Formed x ys → white_tail (p ++ x ∷ ys) (length (p ++ x ∷ ys)) ≡ cond (white_char (x ∷ ys)) (suc (length ys)) 0
rear p x [] F =
    let s = p ++ x ∷ [] in
    let l = length-append p (x ∷ []) in
    let q : length s - 1 ≡ length p + 0 = omega arith in
    let ex : x ≡ cond (leb 1 (length s)) (get_or s (length s - 1) 0) 0 = rw (le-leb 1 (length s) (omega arith), q) (sym (get_or-append-add p (x ∷ []) 0 0)) in
    let b = cond (leb 2 (length s)) (get_or s (length s - 2) 0) 0 in
    let a = cond (leb 3 (length s)) (get_or s (length s - 3) 0) 0 in
    tail_at s (length s) a b x (omega arith) (omega arith) ex refl refl
    ∙ simp (not_white b (x ∷ []) (λ G. let t = formed-tails G in F.head t.0.0 t.0.1), not_white a (b ∷ x ∷ []) (λ G. let t = formed-tails G in F.head t.1.0.0 t.1.0.1))
rear p x (y ∷ []) F =
    let s = p ++ x ∷ y ∷ [] in
    let l = length-append p (x ∷ y ∷ []) in
    let q1 : length s - 1 ≡ length p + 1 = omega arith in
    let q2 : length s - 2 ≡ length p + 0 = omega arith in
    let ey : y ≡ cond (leb 1 (length s)) (get_or s (length s - 1) 0) 0 = rw (le-leb 1 (length s) (omega arith), q1) (sym (get_or-append-add p (x ∷ y ∷ []) 1 0)) in
    let ex : x ≡ cond (leb 2 (length s)) (get_or s (length s - 2) 0) 0 = rw (le-leb 2 (length s) (omega arith), q2) (sym (get_or-append-add p (x ∷ y ∷ []) 0 0)) in
    let a = cond (leb 3 (length s)) (get_or s (length s - 3) 0) 0 in
    tail_at s (length s) a x y (omega arith) (omega arith) ey ex refl
    ∙ simp (tail-first y [] (formed-tails F).0, not_white a (x ∷ y ∷ []) (λ G. let t = formed-tails G in F.head t.0.0 t.0.1))
rear p x (y ∷ z ∷ []) F =
    let s = p ++ x ∷ y ∷ z ∷ [] in
    let l = length-append p (x ∷ y ∷ z ∷ []) in
    let q1 : length s - 1 ≡ length p + 2 = omega arith in
    let q2 : length s - 2 ≡ length p + 1 = omega arith in
    let q3 : length s - 3 ≡ length p + 0 = omega arith in
    let ez : z ≡ cond (leb 1 (length s)) (get_or s (length s - 1) 0) 0 = rw (le-leb 1 (length s) (omega arith), q1) (sym (get_or-append-add p (x ∷ y ∷ z ∷ []) 2 0)) in
    let ey : y ≡ cond (leb 2 (length s)) (get_or s (length s - 2) 0) 0 = rw (le-leb 2 (length s) (omega arith), q2) (sym (get_or-append-add p (x ∷ y ∷ z ∷ []) 1 0)) in
    let ex : x ≡ cond (leb 3 (length s)) (get_or s (length s - 3) 0) 0 = rw (le-leb 3 (length s) (omega arith), q3) (sym (get_or-append-add p (x ∷ y ∷ z ∷ []) 0 0)) in
    tail_at s (length s) x y z (omega arith) (omega arith) ez ey ex
    ∙ simp (tail-first z [] (formed-tails F).1.0, tail-first y (z ∷ []) (formed-tails F).0)
rear p x (y ∷ z ∷ u ∷ []) F =
    let s = p ++ x ∷ y ∷ z ∷ u ∷ [] in
    let l = length-append p (x ∷ y ∷ z ∷ u ∷ []) in
    let q1 : length s - 1 ≡ length p + 3 = omega arith in
    let q2 : length s - 2 ≡ length p + 2 = omega arith in
    let q3 : length s - 3 ≡ length p + 1 = omega arith in
    let eu : u ≡ cond (leb 1 (length s)) (get_or s (length s - 1) 0) 0 = rw (le-leb 1 (length s) (omega arith), q1) (sym (get_or-append-add p (x ∷ y ∷ z ∷ u ∷ []) 3 0)) in
    let ez : z ≡ cond (leb 2 (length s)) (get_or s (length s - 2) 0) 0 = rw (le-leb 2 (length s) (omega arith), q2) (sym (get_or-append-add p (x ∷ y ∷ z ∷ u ∷ []) 2 0)) in
    let ey : y ≡ cond (leb 3 (length s)) (get_or s (length s - 3) 0) 0 = rw (le-leb 3 (length s) (omega arith), q3) (sym (get_or-append-add p (x ∷ y ∷ z ∷ u ∷ []) 1 0)) in
    tail_at s (length s) y z u (omega arith) (omega arith) eu ez ey
    ∙ simp (tail-first u [] (formed-tails F).1.1.0, tail-first z (u ∷ []) (formed-tails F).1.0, tail-first y (z ∷ u ∷ []) (formed-tails F).0, four x y z u)
rear p x (y ∷ z ∷ u ∷ v ∷ ys) F =
    let k = seq_len-le (x ∷ y ∷ z ∷ u ∷ v ∷ ys) in
    let e : seq_len (x ∷ y ∷ z ∷ u ∷ v ∷ ys) ≡ suc (length (y ∷ z ∷ u ∷ v ∷ ys)) = F.law (y ∷ z ∷ u ∷ v ∷ ys) ∙ simp (F.fits, F.size) in
    absurd (omega arith)

-- ---- what stands after the place e does not count

pub tail-append : (p c : List ℕ) (e : ℕ) → e ≤ length p → white_tail (p ++ c) e ≡ white_tail p e
unfolding white_tail
tail-append p c e h = simp (take-append-le e p c h)

pub end-append : (p c : List ℕ) (k e : ℕ) → e ≤ length p → end_white (p ++ c) k e ≡ end_white p k e
unfolding end_white
end-append p c k zero h = refl
end-append p c (suc k) (suc e) h = end-append p c k e (omega arith)
end-append p c zero (suc e) h = rw (tail-append p c (suc e) h) (go (white_tail p (suc e)) (λ k. end-append p c k e (omega arith)))
  where
    go : (n : ℕ) → ((k : ℕ) → end_white (p ++ c) k e ≡ end_white p k e) → or_on n (suc e) (λ k. end_white (p ++ c) k e) ≡ or_on n (suc e) (λ k. end_white p k e)
    go zero f = refl
    go (suc k) f = f k

to-char : (p c : List ℕ) → seq_len c ≡ length c → 0 < length c → to_of (p ++ c) ≡ cond (white_char c) (to_of p) (length (p ++ c))
unfolding to_of
to-char p [] e h = absurd (omega arith)
to-char p (x ∷ ys) e h = go (white_char (x ∷ ys)) (rear p x ys (formed x ys e))
  where
    s : List ℕ
    s = p ++ x ∷ ys

    go : (b : Bool) → white_tail s (length s) ≡ cond b (suc (length ys)) 0 → end_white s 0 (length s) ≡ cond b (end_white p 0 (length p)) (length s)
    go true w =
        let l = length-append p (x ∷ ys) in
        let q : length s - suc (length ys) ≡ length p = omega arith in
        back_on s (length s) (suc (length ys)) (omega arith) w (omega arith)
        ∙ ap (end_white s 0) q
        ∙ end-append p (x ∷ ys) 0 (length p) (omega arith)
    go false w = let l = length-append p (x ∷ ys) in back-stop s (length s) (omega arith) w

-- a text as its characters, the last one first
abbrev pub backtext : List (List ℕ) → List ℕ
backtext [] = []
backtext (c ∷ cs) = backtext cs ++ c

-- trimming at the back takes away the white characters there
pub trim-chars-end : {cs : List (List ℕ)} → Chars cs → trim_end (backtext cs) ≡ backtext (stripped cs)
unfolding to_of end_white
trim-chars-end none = refl
trim-chars-end (char {c} {cs} e h r) = rw (to-char (backtext cs) c e h) (go (white_char c) (trim-chars-end r))
  where
    p : List ℕ
    p = backtext cs

    go : (b : Bool) → trim_end p ≡ backtext (stripped cs) → take (cond b (to_of p) (length (p ++ c))) (p ++ c) ≡ backtext (cond b (stripped cs) (c ∷ cs))
    go true i = take-append-le (to_of p) p c (to_of-le p) ∙ i
    go false i = take_all (length (p ++ c)) (p ++ c) (omega arith)
