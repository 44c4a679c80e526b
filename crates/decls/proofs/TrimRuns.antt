-- The white space at the ends of a text is no part of its runs of name bytes. Assumes nothing.
use Prim.Native.Nat.{ℕ, zero, suc, ◌-◌, ◌≤◌, ◌<◌}
use mathlib.Core.Path.{◌≡◌, refl, sym, ap, ◌∙◌}
use mathlib.Core.Bool.{Bool, true, false, cond, not, ◌&&◌}
use mathlib.Core.List.{List, [], ◌∷◌, ◌++◌, append-nil, append_assoc}
use native.Mathlib.Omega.{arith}
use borrow.Author.Tests.{ne_eqb, eqb-true, leb-true, ltb-true, ltb-false, not-true}
use lib.Dec.{eqb, leb, ltb}
use lib.ListN.{length, take, drop, take-append-drop, drop_of_length-le}
use lib.Seq.{slice}
use Rattle.lines.specs.Lf.{within, all}
use Rattle.lines.proofs.Tests.{no, and_left, and_right, and_both, is_below, is-above}
use Rattle.text.specs.Class.{is_name}
use Rattle.text.specs.White.{is_white}
use Rattle.text.specs.Utf8Form.{begins, grammar, seq_by, seq_len}
use Rattle.text.specs.Trim.{white_char, white_head, white_tail, or_on, lead, from_of, end_white, to_of, trim_start, trim_end, trim_of}
use Rattle.text.proofs.Whites.{ascii-dark}
use Rattle.names.specs.Names.{all_names}
use Rattle.names.proofs.Digits.{all_append}
use Rattle.words.specs.Runs.{flush, runs_go, runs}
use Rattle.words.proofs.Walk.{go-name, go-gap}

-- no name bytes
abbrev pub gap : List ℕ → Bool
gap l = all (λ (x : ℕ). not (is_name x)) l

-- ---- a white space has no name byte

low-name : (x : ℕ) → x < 36 → is_name x ≡ false
low-name x h = rw (is_below 48 57 x (omega arith), is_below 65 90 x (omega arith), is_below 97 122 x (omega arith), ne_eqb x 95 (λ e. absurd (omega arith)), ne_eqb x 36 (λ e. absurd (omega arith)))

high-name : (x : ℕ) → 122 < x → is_name x ≡ false
high-name x h = rw (is-above 48 57 x (omega arith), is-above 65 90 x (omega arith), is-above 97 122 x (omega arith), ne_eqb x 95 (λ e. absurd (omega arith)), ne_eqb x 36 (λ e. absurd (omega arith)))

white-name : (x : ℕ) → is_white x ≡ true → is_name x ≡ false
white-name x h = go (ltb x 36) refl (ltb 122 x) refl
  where
    go : (a : Bool) → ltb x 36 ≡ a → (b : Bool) → ltb 122 x ≡ b → is_name x ≡ false
    go true p b q = low-name x (ltb-true x 36 p)
    go false p true q = high-name x (ltb-true 122 x q)
    go false p false q = let a = ltb-false x 36 p in let b = ltb-false 122 x q in no (sym (ascii-dark x (omega arith) (omega arith)) ∙ h)

-- the ranges of a row are from 128 on
abbrev high : List (ℕ × ℕ) → Bool
high [] = true
high (g ∷ gs) = leb 128 g.0 && high gs

abbrev all_high : List (List (ℕ × ℕ)) → Bool
all_high [] = true
all_high (r ∷ rs) = high r && all_high rs

row-gap : (g : List (ℕ × ℕ)) (c : List ℕ) → high g ≡ true → begins g c ≡ true → length g ≡ length c → gap c ≡ true
row-gap [] [] p b s = refl
row-gap [] (x ∷ c) p b s = absurd (omega arith)
row-gap (r ∷ g) [] p b s = refl
row-gap (r ∷ g) (x ∷ c) p b s =
    let w : within r.0 r.1 x ≡ true = and_left (within r.0 r.1 x) (begins g c) b in
    let lo : 128 ≤ r.0 = leb-true 128 r.0 (and_left (leb 128 r.0) (high g) p) in
    let at : r.0 ≤ x = leb-true r.0 x (and_left (leb r.0 x) (leb x r.1) w) in
    and_both (ap not (high-name x (omega arith))) (row-gap g c (and_right (leb 128 r.0) (high g) p) (and_right (within r.0 r.1 x) (begins g c) b) (omega arith))

row-or : (g : List (ℕ × ℕ)) (n : ℕ) (c : List ℕ) → high g ≡ true → (n ≡ length c → gap c ≡ true) → (b : Bool) → begins g c ≡ b → cond b (length g) n ≡ length c → gap c ≡ true
row-or g n c p on true e h = row-gap g c p e h
row-or g n c p on false e h = on h

rows-gap : (gs : List (List (ℕ × ℕ))) (c : List ℕ) → all_high gs ≡ true → seq_by gs c ≡ length c → gap c ≡ true
rows-gap [] [] p h = refl
rows-gap [] (x ∷ c) p h = absurd (omega arith)
rows-gap (g ∷ gs) c p h = row-or g (seq_by gs c) c (and_left (high g) (all_high gs) p) (λ k. rows-gap gs c (and_right (high g) (all_high gs) p) k) (begins g c) refl h

white-gap : (c : List ℕ) → white_char c ≡ true → gap c ≡ true
unfolding white_char seq_len
white-gap [] h = refl
white-gap (x ∷ []) h = ap (λ (b : Bool). not b && true) (white-name x (and_right (eqb (seq_len (x ∷ [])) 1) (is_white x) h))
white-gap (x ∷ y ∷ c) h = go (within 0x00 0x7F x && true) (eqb-true _ _ (and_left (eqb (seq_len (x ∷ y ∷ c)) (length (x ∷ y ∷ c))) _ h))
  where
    go : (b : Bool) → cond b 1 (seq_by (drop 1 grammar) (x ∷ y ∷ c)) ≡ length (x ∷ y ∷ c) → gap (x ∷ y ∷ c) ≡ true
    go true e = absurd (omega arith)
    go false e = rows-gap (drop 1 grammar) (x ∷ y ∷ c) refl e

-- ---- at the front

head-gap : (l : List ℕ) (k : ℕ) → white_head l ≡ suc k → gap (take (suc k) l) ≡ true
unfolding white_head
head-gap l k h = go (white_char (take 1 l)) refl (white_char (take 2 l)) refl (white_char (take 3 l)) refl h
  where
    at : (n : ℕ) → white_char (take n l) ≡ true → n ≡ suc k → gap (take (suc k) l) ≡ true
    at n e z = ap (λ (m : ℕ). gap (take m l)) (sym z) ∙ white-gap (take n l) e

    go : (a : Bool) → white_char (take 1 l) ≡ a → (b : Bool) → white_char (take 2 l) ≡ b → (c : Bool) → white_char (take 3 l) ≡ c → cond a 1 (cond b 2 (cond c 3 0)) ≡ suc k → gap (take (suc k) l) ≡ true
    go true p b q c r z = at 1 p z
    go false p true q c r z = at 2 q z
    go false p false q true r z = at 3 r z
    go false p false q false r z = absurd (omega arith)

more-gap : (x n m : ℕ) (l : List ℕ) → (gap (take n l) ≡ true → gap (take m l) ≡ true) → gap (take (suc n) (x ∷ l)) ≡ true → gap (take (suc m) (x ∷ l)) ≡ true
more-gap x n m l on h = and_both (and_left (not (is_name x)) (gap (take n l)) h) (on (and_right (not (is_name x)) (gap (take n l)) h))

head-or : (x : ℕ) (l : List ℕ) → ((k : ℕ) → gap (take k l) ≡ true → gap (take (lead k l) l) ≡ true) → (n : ℕ) → white_head (x ∷ l) ≡ n → gap (take (or_on n 0 (λ k. suc (lead k l))) (x ∷ l)) ≡ true
head-or x l on zero e = refl
head-or x l on (suc k) e = more-gap x k (lead k l) l (on k) (head-gap (x ∷ l) k e)

lead-gap : (k : ℕ) (l : List ℕ) → gap (take k l) ≡ true → gap (take (lead k l) l) ≡ true
unfolding lead
lead-gap k [] h = refl
lead-gap (suc k) (x ∷ l) h = more-gap x k (lead k l) l (λ z. lead-gap k l z) h
lead-gap zero (x ∷ l) h = head-or x l (λ k z. lead-gap k l z) (white_head (x ∷ l)) refl

front-gap : (l : List ℕ) → gap (take (from_of l) l) ≡ true
unfolding from_of
front-gap l = lead-gap 0 l refl

-- ---- at the end

tail-gap : (l : List ℕ) (e k : ℕ) → white_tail l e ≡ suc k → gap (slice (e - suc k) e l) ≡ true
unfolding white_tail
tail-gap l e k h = go (white_char (slice (e - 1) e l)) refl (white_char (slice (e - 2) e l)) refl (white_char (slice (e - 3) e l)) refl h
  where
    at : (n : ℕ) → white_char (slice (e - n) e l) ≡ true → n ≡ suc k → gap (slice (e - suc k) e l) ≡ true
    at n w z = ap (λ (m : ℕ). gap (slice (e - m) e l)) (sym z) ∙ white-gap (slice (e - n) e l) w

    go : (a : Bool) → white_char (slice (e - 1) e l) ≡ a → (b : Bool) → white_char (slice (e - 2) e l) ≡ b → (c : Bool) → white_char (slice (e - 3) e l) ≡ c → cond a 1 (cond b 2 (cond c 3 0)) ≡ suc k →
        gap (slice (e - suc k) e l) ≡ true
    go true p b q c r z = at 1 p z
    go false p true q c r z = at 2 q z
    go false p false q true r z = at 3 r z
    go false p false q false r z = absurd (omega arith)

join-gap : (a b : ℕ) (l : List ℕ) → a ≤ b → gap (slice a b l) ≡ true → gap (drop b l) ≡ true → gap (drop a l) ≡ true
join-gap zero b l k p q = ap gap (sym (take-append-drop b l)) ∙ all_append (λ (x : ℕ). not (is_name x)) (take b l) (drop b l) p q
join-gap (suc a) b [] k p q = refl
join-gap (suc a) zero (x ∷ l) k p q = absurd (omega arith)
join-gap (suc a) (suc b) (x ∷ l) k p q = join-gap a b l (omega arith) p q

tail-or : (l : List ℕ) (e : ℕ) → ((k : ℕ) → gap (drop (e - k) l) ≡ true → gap (drop (end_white l k e) l) ≡ true) → gap (drop (suc e) l) ≡ true → (n : ℕ) → white_tail l (suc e) ≡ n →
    gap (drop (or_on n (suc e) (λ k. end_white l k e)) l) ≡ true
tail-or l e on h zero q = h
tail-or l e on h (suc k) q =
    let z : suc e - suc k ≡ e - k = omega arith in
    on k (join-gap (e - k) (suc e) l (omega arith) (ap (λ (n : ℕ). gap (slice n (suc e) l)) (sym z) ∙ tail-gap l (suc e) k q) h)

end-gap : (l : List ℕ) (k e : ℕ) → gap (drop (e - k) l) ≡ true → gap (drop (end_white l k e) l) ≡ true
unfolding end_white
end-gap l k zero h = let z : 0 - k ≡ 0 = omega arith in ap (λ (n : ℕ). gap (drop n l)) (sym z) ∙ h
end-gap l (suc k) (suc e) h = let z : suc e - suc k ≡ e - k = omega arith in end-gap l k e (ap (λ (n : ℕ). gap (drop n l)) (sym z) ∙ h)
end-gap l zero (suc e) h = let z : suc e - 0 ≡ suc e = omega arith in tail-or l e (λ k w. end-gap l k e w) (ap (λ (n : ℕ). gap (drop n l)) (sym z) ∙ h) (white_tail l (suc e)) refl

back-gap : (l : List ℕ) → gap (drop (to_of l) l) ≡ true
unfolding to_of
back-gap l = let z : length l ≤ length l - 0 = omega arith in end-gap l 0 (length l) (ap gap (drop_of_length-le l z))

-- ---- runs

front-runs : (w s : List ℕ) → gap w ≡ true → runs_go (w ++ s) [] ≡ runs_go s []
front-runs [] s h = refl
front-runs (x ∷ w) s h = go-gap x (w ++ s) [] (not-true _ (and_left (not (is_name x)) (gap w) h)) ∙ front-runs w s (and_right (not (is_name x)) (gap w) h)

none_runs : (w cur : List ℕ) → gap w ≡ true → runs_go w cur ≡ flush cur
unfolding runs_go
none_runs [] cur h = refl
none_runs (x ∷ w) cur h =
    go-gap x w cur (not-true _ (and_left (not (is_name x)) (gap w) h)) ∙ ap (λ (r : List (List ℕ)). flush cur ++ r) (none_runs w [] (and_right (not (is_name x)) (gap w) h)) ∙ append-nil (flush cur)

pub back-runs : (a w cur : List ℕ) → gap w ≡ true → runs_go (a ++ w) cur ≡ runs_go a cur
unfolding runs_go
back-runs [] w cur h = none_runs w cur h
back-runs (x ∷ a) w cur h =
    ap (λ (r : List (List ℕ)). cond (is_name x) r (flush cur ++ runs_go (a ++ w) [])) (back-runs a w (cur ++ (x ∷ [])) h)
    ∙ ap (λ (r : List (List ℕ)). cond (is_name x) (runs_go a (cur ++ (x ∷ []))) (flush cur ++ r)) (back-runs a w [] h)

-- a text of name bytes is one run
pub name_runs : (m cur : List ℕ) → all_names m ≡ true → runs_go m cur ≡ flush (cur ++ m)
unfolding runs_go
name_runs [] cur h = ap flush (sym (append-nil cur))
name_runs (x ∷ m) cur h =
    go-name x m cur (and_left (is_name x) (all_names m) h) ∙ name_runs m (cur ++ (x ∷ [])) (and_right (is_name x) (all_names m) h) ∙ ap flush (append_assoc cur (x ∷ []) m)

pub start-runs : (l : List ℕ) → runs l ≡ runs (trim_start l)
unfolding runs
start-runs l = ap (λ (s : List ℕ). runs_go s []) (sym (take-append-drop (from_of l) l)) ∙ front-runs (take (from_of l) l) (drop (from_of l) l) (front-gap l)

end-runs : (l : List ℕ) → runs l ≡ runs (trim_end l)
unfolding runs
end-runs l = ap (λ (s : List ℕ). runs_go s []) (sym (take-append-drop (to_of l) l)) ∙ back-runs (take (to_of l) l) (drop (to_of l) l) [] (back-gap l)

pub trim-runs : (l : List ℕ) → runs l ≡ runs (trim_of l)
unfolding trim_of
trim-runs l = start-runs l ∙ end-runs (trim_start l)
