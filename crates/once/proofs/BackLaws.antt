-- Laws of walking over the lines of a text from the last to the first. Assumes nothing.
use Prim.Native.Nat.{ℕ, zero, suc, ◌+◌, ◌-◌, ◌≤◌, ◌<◌, min}
use mathlib.Core.Path.{◌≡◌, refl, sym, ap, subst, ◌∙◌}
use mathlib.Core.Bool.{Bool, true, false, cond}
use mathlib.Core.List.{List, [], ◌∷◌, ◌++◌}
use native.Mathlib.Omega.{arith}
use native.Mathlib.Numerals.{add-one}
use borrow.Author.Tests.{eq-eqb, ne_eqb, eqb-true, eqb-false, ltb-true, ltb-false}
use lib.Dec.{eqb, ltb}
use lib.ListN.{length, take, drop, get_or, set, length-append, length-drop}
use lib.Seq.{drop-append_seam, drop-drop, length-take-le, get_or-drop, get_or-set_same, get_or-set_other}
use Rattle.lines.specs.Lf.{part, up_to, cut_on, lines_of, unlines}
use Rattle.lines.specs.Inner.Lf.{line_start}
use Rattle.lines.proofs.LfLaws.{up_to-le, find-here, find-on, drop_min, lines-at, lines_end}
use Rattle.place.specs.Inner.Ends.{ends_from}
use Rattle.decls.specs.Inner.Seen.{AtMost}
use Rattle.decls.proofs.SeenLaws.{set_past}
use Rattle.once.specs.Inner.Noted.{Begins, StartOf, EndIs, EndsOf, first_line}

-- ---- the search for the front of a line

back_start : (s : List ℕ) (e : ℕ) → e < length s → get_or s e 0 ≡ 10 → e ≡ e + up_to 10 (drop e s)
back_start s e h q = let z = find-here 10 s e h q in omega arith

back_on : (s : List ℕ) (e i : ℕ) → 0 < i → i ≤ length s → (get_or s (i - 1) 0 ≡ 10 → ⊥) → e ≡ i + up_to 10 (drop i s) → e ≡ i - 1 + up_to 10 (drop (i - 1) s)
back_on s e i h k n q =
    let z = find-on 10 s (i - 1) (omega arith) n in
    let y : i - 1 + 1 ≡ i = omega arith in
    let x : up_to 10 (drop (i - 1 + 1) s) ≡ up_to 10 (drop i s) = ap (λ (j : ℕ). up_to 10 (drop j s)) y in
    omega arith

pub begins-lf : (s : List ℕ) (i : ℕ) → get_or s (i - 1) 0 ≡ 10 → Begins s i
begins-lf s i q = λ k e. let z : i - 1 ≡ k = omega arith in ap (λ (j : ℕ). get_or s j 0) (sym z) ∙ q

begins-none : (s : List ℕ) (i : ℕ) → i ≤ 0 → Begins s i
begins-none s i h = λ k e. absurd (omega arith)

-- ---- the lines before a place where one begins, and those from it on

cut-append : (t : Bool) (x : ℕ) (us vs : List (List ℕ)) → 0 < length us → cut_on t x (us ++ vs) ≡ cut_on t x us ++ vs
unfolding cut_on
cut-append true x us vs h = refl
cut-append false x [] vs h = absurd (omega arith)
cut-append false x (u ∷ us) vs h = refl

cut-some : (t : Bool) (x : ℕ) (us : List (List ℕ)) → 0 < length (cut_on t x us)
unfolding cut_on
cut-some true x us = omega arith
cut-some false x [] = omega arith
cut-some false x (u ∷ us) = omega arith

lines-some : (s : List ℕ) → 0 < length s → 0 < length (lines_of s)
unfolding lines_of
lines-some [] h = absurd (omega arith)
lines-some (x ∷ s) h = cut-some (eqb x 10) x (lines_of s)

take-some : (n : ℕ) (s : List ℕ) → 0 < length s → 0 < length (take (suc n) s)
take-some n [] h = absurd (omega arith)
take-some n (x ∷ s) h = omega arith

lines_split : (s : List ℕ) (r : ℕ) → r ≤ length s → Begins s r → lines_of s ≡ lines_of (take r s) ++ lines_of (drop r s)
unfolding lines_of cut_on
lines_split s zero h b = refl
lines_split [] (suc r) h b = absurd (omega arith)
lines_split (x ∷ s) (suc zero) h b = rw (eq-eqb x 10 (b 0 refl))
lines_split (x ∷ s) (suc (suc r)) h b =
    ap (cut_on (eqb x 10) x) (lines_split s (suc r) (omega arith) (λ k q. b (suc k) (ap suc q)))
    ∙ cut-append (eqb x 10) x (lines_of (take (suc r) s)) (lines_of (drop (suc r) s)) (lines-some (take (suc r) s) (take-some r s (omega arith)))

-- so how many there are from it on says how many there are before it
pub rows_back : (s : List ℕ) (r c : ℕ) → r ≤ length s → Begins s r → c ≡ length (lines_of (drop r s)) →
    (c ≤ length (lines_of s)) × (drop (length (lines_of s) - c) (lines_of s) ≡ lines_of (drop r s))
rows_back s r c h b q =
    let us : List (List ℕ) = lines_of (take r s) in
    let vs : List (List ℕ) = lines_of (drop r s) in
    let z : lines_of s ≡ us ++ vs = lines_split s r h b in
    let l : length (lines_of s) ≡ length us + length vs = ap length z ∙ length-append us vs in
    let n : length (lines_of s) - c ≡ length us = omega arith in
    (omega arith, ap (λ (k : ℕ). drop k (lines_of s)) n ∙ ap (drop (length us)) z ∙ drop-append_seam us vs)

-- ---- the line that ends just before a place where one begins

pub line-back : (s : List ℕ) (i a : ℕ) → 0 < i → i ≤ length s → StartOf s (i - 1) a → lines_of (drop a s) ≡ part a (i - 1) s ∷ lines_of (drop i s)
line-back s i a h k b =
    let e : min (i - 1 + 1) (length s) ≡ i = omega arith in
    lines-at s a (i - 1) (omega (arith, b.0)) b.0 ∙ ap (λ (j : ℕ). part a (i - 1) s ∷ lines_of (drop j s)) e

-- ---- where lines end

cut-length : (t : Bool) (x : ℕ) (us : List (List ℕ)) → 0 < length us → length (unlines (cut_on t x us)) ≡ suc (length (unlines us))
unfolding cut_on unlines
cut-length true x us h = refl
cut-length false x [] h = absurd (omega arith)
cut-length false x (u ∷ us) h = refl

-- a text with a last LF is its lines
lf-length : (s : List ℕ) → Begins s (length s) → length (unlines (lines_of s)) ≡ length s
unfolding lines_of unlines cut_on
lf-length [] b = refl
lf-length (x ∷ []) b = rw (eq-eqb x 10 (b 0 refl))
lf-length (x ∷ y ∷ s) b = cut-length (eqb x 10) x (lines_of (y ∷ s)) (lines-some (y ∷ s) (omega arith)) ∙ ap suc (lf-length (y ∷ s) (λ k q. b (suc k) (ap suc q)))

-- and one without it is a byte shorter
cut_short : (s : List ℕ) → 0 < length s → ((k : ℕ) → length s ≡ suc k → get_or s k 0 ≡ 10 → ⊥) → length (unlines (lines_of s)) ≡ suc (length s)
unfolding lines_of unlines cut_on
cut_short [] h n = absurd (omega arith)
cut_short (x ∷ []) h n = rw (ne_eqb x 10 (n 0 refl))
cut_short (x ∷ y ∷ s) h n = cut-length (eqb x 10) x (lines_of (y ∷ s)) (lines-some (y ∷ s) (omega arith)) ∙ ap suc (cut_short (y ∷ s) (omega arith) (λ k q. n (suc k) (ap suc q)))

-- so the lines from a place on say which place that is
place_of : (s : List ℕ) (j a : ℕ) → a < length s → lines_of (drop j s) ≡ lines_of (drop a s) → j ≡ a
place_of s j a h e = go (eqb (get_or s (length s - 1) 0) 10) refl (ltb j (length s)) refl
  where
    same : length (unlines (lines_of (drop j s))) ≡ length (unlines (lines_of (drop a s)))
    same = ap (λ (ls : List (List ℕ)). length (unlines ls)) e

    with-lf : Begins s (length s) → (i : ℕ) → length (unlines (lines_of (drop i s))) ≡ length s - i
    with-lf b i = lf-length (drop i s) (λ k q. get_or-drop i s k 0 ∙ b (i + k) (omega (arith, length-drop i s))) ∙ length-drop i s

    without : (get_or s (length s - 1) 0 ≡ 10 → ⊥) → (i : ℕ) → i < length s → length (unlines (lines_of (drop i s))) ≡ suc (length s - i)
    without n i k =
        cut_short (drop i s) (omega (arith, length-drop i s))
        (λ c q w. let z : length s - 1 ≡ i + c = omega (arith, length-drop i s) in n (ap (λ (x : ℕ). get_or s x 0) z ∙ sym (get_or-drop i s c 0) ∙ w))
        ∙ ap suc (length-drop i s)

    go : (b : Bool) → eqb (get_or s (length s - 1) 0) 10 ≡ b → (c : Bool) → ltb j (length s) ≡ c → j ≡ a
    go b q false k =
        let z : length (lines_of (drop a s)) ≡ 0 = ap (λ (ls : List (List ℕ)). length ls) (sym e ∙ lines_end s j (ltb-false j (length s) k)) in
        let y = lines-some (drop a s) (omega (arith, length-drop a s)) in
        absurd (omega arith)
    go true q true k =
        let l = ltb-true j (length s) k in
        let b = begins-lf s (length s) (eqb-true (get_or s (length s - 1) 0) 10 q) in
        omega (arith, same, with-lf b j, with-lf b a)
    go false q true k =
        let l = ltb-true j (length s) k in
        let n = eqb-false (get_or s (length s - 1) 0) 10 q in
        omega (arith, same, without n j l, without n a h)

ends-none : (s d : List ℕ) → AtMost 0 d → EndsOf s d
ends-none s d h = λ k j q z. let y = h k in absurd (omega arith)

-- the line from a to e, with k above it
ends-put : (s d : List ℕ) (k e a : ℕ) → a < length s → e ≡ a + up_to 10 (drop a s) → drop k (lines_of s) ≡ lines_of (drop a s) → EndsOf s d → EndsOf s (set d k e)
ends-put s d k e a g u r h = λ c j q. go c j q (eqb c k) refl
  where
    same : (j : ℕ) → lines_of (drop j s) ≡ drop k (lines_of s) → (t : Bool) → ltb k (length d) ≡ t → EndIs s j (get_or (set d k e) k 0)
    same j q true t = λ z. get_or-set_same d k e 0 (ltb-true k (length d) t) ∙ u ∙ ap (λ (x : ℕ). x + up_to 10 (drop x s)) (sym (place_of s j a g (q ∙ r)))
    same j q false t = subst (EndIs s j) (ap (λ (x : List ℕ). get_or x k 0) (set_past d k e (ltb-false k (length d) t))) (h k j q)

    go : (c j : ℕ) → lines_of (drop j s) ≡ drop c (lines_of s) → (t : Bool) → eqb c k ≡ t → EndIs s j (get_or (set d k e) c 0)
    go c j q true t =
        let n : c ≡ k = eqb-true c k t in
        subst (λ (x : ℕ). EndIs s j (get_or (set d k e) x 0)) (sym n) (same j (q ∙ ap (λ (x : ℕ). drop x (lines_of s)) n) (ltb k (length d)) refl)
    go c j q false t = subst (EndIs s j) (sym (get_or-set_other d k c e 0 (eqb-false c k t))) (h c j q)

-- a line begins before the end
inside : (s : List ℕ) (i : ℕ) (l : List ℕ) (ls : List (List ℕ)) → l ∷ ls ≡ lines_of (drop i s) → i < length s
inside s i l ls p = go (ltb i (length s)) refl
  where
    go : (b : Bool) → ltb i (length s) ≡ b → i < length s
    go true e = ltb-true i (length s) e
    go false e = let z : suc (length ls) ≡ 0 = ap (λ (us : List (List ℕ)). length us) (p ∙ lines_end s i (ltb-false i (length s) e)) in absurd (omega arith)

-- the lines from i on, which have k above them
ends-go : (s : List ℕ) (ls : List (List ℕ)) (k i : ℕ) (d : List ℕ) → ls ≡ lines_of (drop i s) → ls ≡ drop k (lines_of s) → EndsOf s d → EndsOf s (ends_from k i ls d)
unfolding ends_from
ends-go s [] k i d p q h = h
ends-go s (l ∷ ls) k i d p q h =
    let g = inside s i l ls p in
    let u : ℕ = up_to 10 (drop i s) in
    let z : l ∷ ls ≡ part i (i + u) s ∷ lines_of (drop (min (i + u + 1) (length s)) s) = p ∙ lines-at s i (i + u) g refl in
    let n : length (part i (i + u) s) ≡ i + u - i = length-take-le (i + u - i) (drop i s) (omega (arith, up_to-le 10 (drop i s))) in
    let m : length l ≡ length (part i (i + u) s) = ap (λ (us : List (List ℕ)). length (first_line us)) z in
    let w : i + length l ≡ i + u = omega arith in
    let r : ls ≡ lines_of (drop (i + length l + 1) s) =
    ap (λ (us : List (List ℕ)). drop 1 us) z ∙ ap lines_of (drop_min (i + u + 1) s) ∙ ap (λ (x : ℕ). lines_of (drop (x + 1) s)) (sym w) in
    let y : ls ≡ drop (suc k) (lines_of s) = ap (λ (us : List (List ℕ)). drop 1 us) q ∙ drop-drop 1 k (lines_of s) ∙ ap (λ (x : ℕ). drop x (lines_of s)) (add-one k) in
    ends-go s ls (suc k) (i + length l + 1) (set d k (i + length l)) r y (ends-put s d k (i + length l) i g w (sym q ∙ p) h)

-- the table that `block_paths` makes of zeros
pub ends_of : (s d d' : List ℕ) → AtMost 0 d → d' ≡ ends_from 0 0 (lines_of s) d → EndsOf s d'
ends_of s d d' h q = subst (EndsOf s) (sym q) (ends-go s (lines_of s) 0 0 d refl refl (ends-none s d h))

-- an entry that says where
end-some : (e : ℕ) → (e ≡ 0 → ⊥) → 0 < e
end-some zero n = absurd (n refl)
end-some (suc e) n = omega arith

pub end_by : (s : List ℕ) (j m e : ℕ) → EndIs s j m → e ≡ m → (e ≡ 0 → ⊥) → e ≡ j + up_to 10 (drop j s)
end_by s j m e h q n = let z = end-some e n in q ∙ h (omega arith)

-- ---- where the line begins that ends at e, before an LF

start-from : (s : List ℕ) (e i : ℕ) → i ≤ length s → e ≡ i + up_to 10 (drop i s) → StartOf s e (line_start s i)
unfolding line_start
start-from s e zero h q = (q, begins-none s 0 (omega arith))
start-from s e (suc i) h q = go (eqb (get_or s i 0) 10) refl (λ a b. start-from s e i a b)
  where
    z : suc i - 1 ≡ i
    z = omega arith

    go : (b : Bool) → eqb (get_or s i 0) 10 ≡ b → (i ≤ length s → e ≡ i + up_to 10 (drop i s) → StartOf s e (line_start s i)) → StartOf s e (cond b (suc i) (line_start s i))
    go true y f = (q, begins-lf s (suc i) (ap (λ (j : ℕ). get_or s j 0) z ∙ eqb-true (get_or s i 0) 10 y))
    go false y f =
        f (omega arith)
        (subst (λ (j : ℕ). e ≡ j + up_to 10 (drop j s)) z (back_on s e (suc i) (omega arith) h (λ w. eqb-false (get_or s i 0) 10 y (ap (λ (j : ℕ). get_or s j 0) (sym z) ∙ w)) q))

pub start_of : (s : List ℕ) (e : ℕ) → e < length s → get_or s e 0 ≡ 10 → StartOf s e (line_start s e)
start_of s e h q = start-from s e e (omega arith) (back_start s e h q)

-- how many lines there are from there on
rows-from : (s : List ℕ) (e a : ℕ) → e < length s → StartOf s e a → length (lines_of (drop a s)) ≡ suc (length (lines_of (drop (e + 1) s)))
rows-from s e a h b =
    let z : min (e + 1) (length s) ≡ e + 1 = omega arith in
    ap (λ (ls : List (List ℕ)). length ls) (lines-at s a e (omega (arith, b.0)) b.0 ∙ ap (λ (j : ℕ). part a e s ∷ lines_of (drop j s)) z)

-- with k lines above it
module _ (s : List ℕ) (e k : ℕ) (h : e < length s) (q : get_or s e 0 ≡ 10) (c : k + 1 + length (lines_of (drop (e + 1) s)) ≡ length (lines_of s)) where
  rows_before : (a : ℕ) → StartOf s e a → length (lines_of (take a s)) ≡ k
  rows_before a b =
      let w = ap (λ (ls : List (List ℕ)). length ls) (lines_split s a (omega (arith, b.0)) b.1) ∙ length-append (lines_of (take a s)) (lines_of (drop a s)) in
      omega (arith, rows-from s e a h b)

  pub start_first : k ≡ 0 → StartOf s e 0
  start_first z = go (line_start s e) (start_of s e h q)
    where
      go : (a : ℕ) → StartOf s e a → StartOf s e 0
      go zero b = b
      go (suc a) b = let y = rows_before (suc a) b in let x = lines-some (take (suc a) s) (take-some a s (omega arith)) in absurd (omega arith)

  -- after the line above it, which ends at m
  pub start-after : (d : List ℕ) (m : ℕ) → EndsOf s d → (k ≡ 0 → ⊥) → m ≡ get_or d (k - 1) 0 → (m ≡ 0 → ⊥) → StartOf s e (m + 1)
  unfolding lines_of
  start-after d m n g y o = go (line_start s e) (start_of s e h q)
    where
      go : (a : ℕ) → StartOf s e a → StartOf s e (m + 1)
      go zero b = absurd (g (sym (rows_before zero b)))
      go (suc a) b =
          let w = b.0 in
          let f : ℕ = line_start s a in
          let p = start_of s a (omega arith) (b.1 a refl) in
          let x : length (lines_of (drop (a + 1) s)) ≡ length (lines_of (drop (suc a) s)) = ap (λ (j : ℕ). length (lines_of (drop j s))) (add-one a) in
          let i = p.0 in
          let r = rows_back s f (length (lines_of (drop f s))) (omega arith) p.1 refl in
          let g' : length (lines_of s) - length (lines_of (drop f s)) ≡ k - 1 = omega (arith, rows-from s a f (omega arith) p, rows-from s e (suc a) h b) in
          let l : lines_of (drop f s) ≡ drop (k - 1) (lines_of s) = sym r.1 ∙ ap (λ (j : ℕ). drop j (lines_of s)) g' in
          let u = end-some m o in
          let v : m ≡ a = y ∙ n (k - 1) f l (omega arith) ∙ sym i in
          let t : suc a ≡ m + 1 = omega arith in
          subst (StartOf s e) t b
