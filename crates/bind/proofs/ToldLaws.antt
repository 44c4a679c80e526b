-- What the index of a region says of a register that has a place in its tables. Assumes nothing.
use Prim.Native.Nat.{ℕ, zero, suc, ◌+◌, ◌-◌, ◌≤◌, ◌<◌}
use mathlib.Core.Path.{◌≡◌, refl, sym, ap, ◌∙◌, subst}
use mathlib.Core.Bool.{Bool, true, false, cond, not, ◌&&◌, ◌||◌}
use mathlib.Core.List.{List, [], ◌∷◌, ◌++◌}
use native.Mathlib.Omega.{arith}
use borrow.Author.Tests.{lt-ltb, le-ltb, ltb-true, ltb-false, eq-eqb, ne_eqb, eqb-true, eqb-false}
use lib.Dec.{eqb, ltb}
use lib.ListN.{length, get_or, set, take, replicate}
use Rattle.lines.specs.Lf.{parts_of}
use Rattle.lines.proofs.Tests.{no, and-false}
use Rattle.text.specs.Trim.{trim_of}
use Rattle.names.specs.Names.{reg_of, reg_is}
use Rattle.std.specs.declared.option.Option.{Option}
use Rattle.names.specs.declared.Register.{Register}
use Rattle.std.specs.declared.option.Option.TheVariants.{Some, None}
use Rattle.parse.specs.Parse.{body_of, is_decl, parse_of, text_of}
use Rattle.parse.specs.declared.Line.{Line}
use Rattle.parse.specs.declared.Line.TheVariants as line
use Rattle.words.specs.Runs.{runs_go, runs, count_by, reads_of}
use Rattle.reading.specs.Uses.{line_reads, stores_by, line_stores, line_uses, used_in}
use Rattle.slots.specs.Inner.Slots.{slot_of, entry_of, with_entry}
use Rattle.slots.proofs.SlotLaws.{Placed, slot_kept, entry-same, entry_other, zeros-long, zeros-take}
use Rattle.decls.specs.Inner.Seen.{mark_name, AtMost}
use Rattle.decls.proofs.SeenLaws.{name-length, zeros-most}
use Rattle.bind.specs.Bind.{piece_count, decl_count, store_count, pieces_of}
use Rattle.bind.specs.declared.Site.{Site}
use Rattle.bind.specs.Inner.Steps.{use_row, stores_at, bound_at}
use Rattle.bind.specs.Inner.Index.{after_store, after_read, read_name, read_runs, store_line, use_line, use_lines, again_reg, again_name, seen_pieces, again_pieces, seen_lines, again_lines, asked, Told, ReadyFor}
use Rattle.bind.proofs.CountLaws.{piece-cons, piece-nil, decl-cons, decl-nil, store-cons, store-nil, use-here, use-next, use-nil}
use Rattle.bind.proofs.IndexLaws.{read_length, store_length, use-length, uses-length, again-length, seen-pieces-length, again-pieces-length, agains-length}

-- ---- the entry of register v, step by step

set-by : (own : List ℕ) (f : ℕ → ℕ) (k v : ℕ) (u : List ℕ) → Placed own v u → entry_of own v (with_entry own k (f (entry_of own k u)) u) ≡ cond (eqb k v) (f (entry_of own v u)) (entry_of own v u)
set-by own f k v u h = go (eqb k v) refl
  where
    go : (t : Bool) → eqb k v ≡ t → entry_of own v (with_entry own k (f (entry_of own k u)) u) ≡ cond t (f (entry_of own v u)) (entry_of own v u)
    go true e = ap (λ (n : ℕ). entry_of own v (with_entry own n (f (entry_of own n u)) u)) (eqb-true k v e) ∙ entry-same own u v (f (entry_of own v u)) h
    go false e = entry_other own u k (f (entry_of own k u)) v h (eqb-false k v e)

read_at : (own : List ℕ) (b v : ℕ) (r : Option Register) (u : List ℕ) → Placed own v u → entry_of own v (read_name own b r u) ≡ cond (reg_is v r) (after_read b (entry_of own v u)) (entry_of own v u)
read_at own b v None u h = refl
read_at own b v (Some q) u h = set-by own (λ (x : ℕ). after_read b x) q.0 v u h

read_twice : (b x : ℕ) → after_read b (after_read b x) ≡ after_read b x
read_twice b x = go (ltb x b) refl
  where
    go : (t : Bool) → ltb x b ≡ t → cond (ltb (cond t b x) b) b (cond t b x) ≡ cond t b x
    go true e = let z : b ≤ b = omega arith in rw (le-ltb b b z)
    go false e = rw e

runs-at : (own : List ℕ) (b v : ℕ) (rs : List (List ℕ)) (u : List ℕ) → Placed own v u →
    entry_of own v (read_runs own b rs u) ≡ cond (ltb 0 (count_by (λ (r : List ℕ). reg_is v (reg_of r)) rs)) (after_read b (entry_of own v u)) (entry_of own v u)
unfolding read_runs count_by
runs-at own b v [] u h = refl
runs-at own b v (r ∷ rs) u h =
    runs-at own b v rs (read_name own b (reg_of r) u) (slot_kept own u (read_name own b (reg_of r) u) v (read_length own b (reg_of r) u) h)
    ∙ ap (λ (y : ℕ). cond (ltb 0 (count_by (λ (r : List ℕ). reg_is v (reg_of r)) rs)) (after_read b y) y) (read_at own b v (reg_of r) u h)
    ∙ go (reg_is v (reg_of r)) (count_by (λ (r : List ℕ). reg_is v (reg_of r)) rs)
  where
    same : (t : Bool) → cond t (after_read b (after_read b (entry_of own v u))) (after_read b (entry_of own v u)) ≡ after_read b (entry_of own v u)
    same true = read_twice b (entry_of own v u)
    same false = refl

    go : (a : Bool) (n : ℕ) → cond (ltb 0 n) (after_read b (cond a (after_read b (entry_of own v u)) (entry_of own v u))) (cond a (after_read b (entry_of own v u)) (entry_of own v u))
        ≡ cond (ltb 0 (cond a (suc n) n)) (after_read b (entry_of own v u)) (entry_of own v u)
    go true n = let z : 0 < suc n = omega arith in same (ltb 0 n) ∙ sym (ap (λ (t : Bool). cond t (after_read b (entry_of own v u)) (entry_of own v u)) (lt-ltb 0 (suc n) z))
    go false n = refl

store-at : (own : List ℕ) (b c v : ℕ) (p : Line) (u : List ℕ) → Placed own v u → entry_of own v (store_line own b c p u) ≡ cond (stores_by v p) (after_store b c (entry_of own v u)) (entry_of own v u)
store-at own b c v line.Decl u h = refl
store-at own b c v (line.Store s) u h = set-by own (λ (x : ℕ). after_store b c x) s.reg.0 v u h
store-at own b c v line.Other u h = refl

-- after the store of a line, then after its reads
abbrev stored : ℕ → ℕ → ℕ → List ℕ → ℕ → ℕ
stored v b c l x = cond (line_stores v l) (after_store b c x) x

abbrev line_at : ℕ → ℕ → ℕ → List ℕ → ℕ → ℕ
line_at v b c l x = cond (ltb 0 (line_reads v l)) (after_read b (stored v b c l x)) (stored v b c l x)

-- after lines, of which the first has the row k
unfoldable pub use_at : ℕ → ℕ → ℕ → List (List ℕ) → ℕ → ℕ
use_at v b k [] x = x
use_at v b k (l ∷ ls) x = use_at v b (k + 1) ls (line_at v b (k + 1) l x)

line-at : (own : List ℕ) (v b c : ℕ) (l u : List ℕ) → Placed own v u → entry_of own v (use_line own b c l u) ≡ line_at v b c l (entry_of own v u)
unfolding use_line line_stores line_reads
line-at own v b c l u h =
    runs-at own b v (runs (text_of l (parse_of l))) (store_line own b c (parse_of l) u) (slot_kept own u (store_line own b c (parse_of l) u) v (store_length own b c (parse_of l) u) h)
    ∙ ap (λ (y : ℕ). cond (ltb 0 (reads_of v (text_of l (parse_of l)))) (after_read b y) y) (store-at own b c v (parse_of l) u h)

lines-at : (own : List ℕ) (v b k : ℕ) (ls : List (List ℕ)) (u : List ℕ) → Placed own v u → entry_of own v (use_lines own b k ls u) ≡ use_at v b k ls (entry_of own v u)
unfolding use_lines use_at
lines-at own v b k [] u h = refl
lines-at own v b k (l ∷ ls) u h = lines-at own v b (k + 1) ls (use_line own b (k + 1) l u) (slot_kept own u (use_line own b (k + 1) l u) v (use-length own b (k + 1) l u) h) ∙ ap (use_at v b (k + 1) ls) (line-at own v b (k + 1) l u h)

-- ---- one line

module _ (v b c : ℕ) (l : List ℕ) (x : ℕ) where
  reads-high : (y : ℕ) (t : Bool) → b ≤ y → cond t (after_read b y) y ≡ y
  reads-high y true h = rw (le-ltb y b h)
  reads-high y false h = refl

  at_store : line_stores v l ≡ true → b ≤ c → x < b → line_at v b c l x ≡ c
  at_store e h k = rw (e, lt-ltb x b k) (reads-high c (ltb 0 (line_reads v l)) h)

  at_again : line_stores v l ≡ true → b ≤ x → line_at v b c l x ≡ b
  at_again e k = let z : b ≤ b = omega arith in rw (e, le-ltb x b k) (reads-high b (ltb 0 (line_reads v l)) z)

  at_high : line_stores v l ≡ false → b ≤ x → line_at v b c l x ≡ x
  at_high e k = rw e (reads-high x (ltb 0 (line_reads v l)) k)

  at_read : line_stores v l ≡ false → ltb 0 (line_reads v l) ≡ true → x < b → line_at v b c l x ≡ b
  at_read e f k = rw (e, f, lt-ltb x b k)

  at_none : line_stores v l ≡ false → ltb 0 (line_reads v l) ≡ false → line_at v b c l x ≡ x
  at_none e f = rw (e, f)

uses-is : (v : ℕ) (l : List ℕ) → line_uses v l ≡ line_stores v l || ltb 0 (line_reads v l)
unfolding line_uses
uses-is v l = refl

-- ---- lines

at-nil : (v b k x : ℕ) → use_at v b k [] x ≡ x
unfolding use_at
at-nil v b k x = refl

use-cons : (v b k : ℕ) (l : List ℕ) (ls : List (List ℕ)) (x y : ℕ) → line_at v b (k + 1) l x ≡ y → use_at v b k (l ∷ ls) x ≡ use_at v b (k + 1) ls y
unfolding use_at
use-cons v b k l ls x y e = ap (use_at v b (k + 1) ls) e

use-append : (v b k : ℕ) (xs ys : List (List ℕ)) (x : ℕ) → use_at v b k (xs ++ ys) x ≡ use_at v b (k + length xs) ys (use_at v b k xs x)
unfolding use_at
use-append v b k [] ys x = let z : k ≡ k + 0 = omega arith in ap (λ (n : ℕ). use_at v b n ys x) z
use-append v b k (l ∷ xs) ys x =
    let z : k + 1 + length xs ≡ k + suc (length xs) = omega arith in
    use-append v b (k + 1) xs ys (line_at v b (k + 1) l x) ∙ ap (λ (n : ℕ). use_at v b n ys (use_at v b (k + 1) xs (line_at v b (k + 1) l x))) z

same-either : (t : Bool) (x : ℕ) → cond t x x ≡ x
same-either true x = refl
same-either false x = refl

-- an entry of the region stays until the next store
use-high : (v b k : ℕ) (ls : List (List ℕ)) (x : ℕ) → b ≤ x → use_at v b k ls x ≡ cond (ltb 0 (store_count v ls)) b x
use-high v b k [] x h = let z : store_count v [] ≤ 0 = omega (arith, store-nil v) in at-nil v b k x ∙ sym (rw (le-ltb 0 (store_count v []) z))
use-high v b k (l ∷ ls) x h = go (line_stores v l) refl (λ y g. use-high v b (k + 1) ls y g)
  where
    go : (s : Bool) → line_stores v l ≡ s → ((y : ℕ) → b ≤ y → use_at v b (k + 1) ls y ≡ cond (ltb 0 (store_count v ls)) b y) → use_at v b k (l ∷ ls) x ≡ cond (ltb 0 (store_count v (l ∷ ls))) b x
    go true e r =
        let z : 0 < store_count v (l ∷ ls) = omega (arith, store-cons v l ls true (sym e)) in
        let w : b ≤ b = omega arith in
        use-cons v b k l ls x b (at_again v b (k + 1) l x e h) ∙ r b w ∙ same-either (ltb 0 (store_count v ls)) b ∙ sym (rw (lt-ltb 0 (store_count v (l ∷ ls)) z))
    go false e r =
        let z : store_count v (l ∷ ls) ≡ store_count v ls = omega (arith, store-cons v l ls false (sym e)) in
        use-cons v b k l ls x x (at_high v b (k + 1) l x e h) ∙ r x h ∙ ap (λ (n : ℕ). cond (ltb 0 n) b x) (sym z)

-- what the first use makes of an entry that is none of the region
abbrev first_of : ℕ → ℕ → ℕ → List (List ℕ) → ℕ
first_of v b k ls = cond (line_stores v (get_or ls (use_row v ls) []) && eqb (store_count v ls) 1) (k + 1 + use_row v ls) b

used-cons : (v : ℕ) (l : List ℕ) (ls : List (List ℕ)) → used_in v (l ∷ ls) ≡ line_uses v l || used_in v ls
unfolding used_in
used-cons v l ls = refl

used-nil : (v : ℕ) → used_in v [] ≡ false
unfolding used_in
used-nil v = refl

use-low : (v b k : ℕ) (ls : List (List ℕ)) (x : ℕ) → b ≤ k + 1 → x < b → use_at v b k ls x ≡ cond (used_in v ls) (first_of v b k ls) x
use-low v b k [] x g h = at-nil v b k x ∙ sym (rw (used-nil v))
use-low v b k (l ∷ ls) x g h = go (line_stores v l) (ltb 0 (line_reads v l)) refl refl (use-low v b (k + 1) ls x (omega arith) h)
  where
    first-here : line_uses v l ≡ true → (s : Bool) → line_stores v l ≡ s → first_of v b k (l ∷ ls) ≡ cond (s && eqb (store_count v (l ∷ ls)) 1) (k + 1) b
    first-here e s f =
        let z : k + 1 + 0 ≡ k + 1 = omega arith in
        ap (λ (n : ℕ). cond (line_stores v (get_or (l ∷ ls) n []) && eqb (store_count v (l ∷ ls)) 1) (k + 1 + n) b) (use-here v l ls e) ∙ rw (f, z)

    once : (n m : ℕ) → m ≡ suc n → cond (ltb 0 n) b (k + 1) ≡ cond (eqb m 1) (k + 1) b
    once zero m e = sym (rw (eq-eqb m 1 (omega (arith, e))))
    once (suc n) m e = let z : 0 < suc n = omega arith in rw (lt-ltb 0 (suc n) z, ne_eqb m 1 (λ q. absurd (omega (arith, e, q))))

    go : (s r : Bool) → line_stores v l ≡ s → ltb 0 (line_reads v l) ≡ r → use_at v b (k + 1) ls x ≡ cond (used_in v ls) (first_of v b (k + 1) ls) x → use_at v b k (l ∷ ls) x ≡ cond (used_in v (l ∷ ls)) (first_of v b k (l ∷ ls)) x
    go true r e f i =
        let y : line_uses v l ≡ true = uses-is v l ∙ rw e in
        use-cons v b k l ls x (k + 1) (at_store v b (k + 1) l x e g h) ∙ use-high v b (k + 1) ls (k + 1) g
        ∙ once (store_count v ls) (store_count v (l ∷ ls)) (omega (arith, store-cons v l ls true (sym e)))
        ∙ sym (first-here y true e)
        ∙ sym (rw (used-cons v l ls, y))
    go false true e f i =
        let y : line_uses v l ≡ true = uses-is v l ∙ rw (e, f) in
        let w : b ≤ b = omega arith in
        use-cons v b k l ls x b (at_read v b (k + 1) l x e f h) ∙ use-high v b (k + 1) ls b w ∙ same-either (ltb 0 (store_count v ls)) b
        ∙ sym (first-here y false e)
        ∙ sym (rw (used-cons v l ls, y))
    go false false e f i =
        let y : line_uses v l ≡ false = uses-is v l ∙ rw (e, f) in
        let z : store_count v (l ∷ ls) ≡ store_count v ls = omega (arith, store-cons v l ls false (sym e)) in
        let w : k + 1 + suc (use_row v ls) ≡ k + 1 + 1 + use_row v ls = omega arith in
        use-cons v b k l ls x x (at_none v b (k + 1) l x e f) ∙ i
        ∙ sym (rw (used-cons v l ls, y, use-next v l ls y, z, w))

-- ---- declarations

seen_at : (own : List ℕ) (m v : ℕ) (r : Option Register) (d : List ℕ) → Placed own v d → ltb (entry_of own v (mark_name own m r d)) m ≡ cond (reg_is v r) false (ltb (entry_of own v d) m)
seen_at own m v None d h = refl
seen_at own m v (Some q) d h = ap (λ (x : ℕ). ltb x m) (set-by own (λ (x : ℕ). m) q.0 v d h) ∙ go (eqb q.0 v)
  where
    go : (t : Bool) → ltb (cond t m (entry_of own v d)) m ≡ cond t false (ltb (entry_of own v d) m)
    go true = let z : m ≤ m = omega arith in le-ltb m m z
    go false = refl

again-at : (own : List ℕ) (m b v : ℕ) (r : Option Register) (d u : List ℕ) → Placed own v u → entry_of own v (again_name own m b r d u) ≡ cond (reg_is v r && not (ltb (entry_of own v d) m)) b (entry_of own v u)
again-at own m b v None d u h = refl
again-at own m b v (Some q) d u h = go (eqb q.0 v) refl
  where
    other : (t : Bool) → (q.0 ≡ v → ⊥) → entry_of own v (cond t u (with_entry own q.0 b u)) ≡ entry_of own v u
    other true n = refl
    other false n = entry_other own u q.0 b v h n

    this : (t : Bool) → entry_of own v (cond t u (with_entry own v b u)) ≡ cond (not t) b (entry_of own v u)
    this true = refl
    this false = entry-same own u v b h

    go : (t : Bool) → eqb q.0 v ≡ t → entry_of own v (again_reg own m b q.0 d u) ≡ cond (t && not (ltb (entry_of own v d) m)) b (entry_of own v u)
    go true e = ap (λ (n : ℕ). entry_of own v (again_reg own m b n d u)) (eqb-true q.0 v e) ∙ this (ltb (entry_of own v d) m)
    go false e = other (ltb (entry_of own q.0 d) m) (eqb-false q.0 v e)

-- how often a register was named that has an entry below m, or not
abbrev times : Bool → ℕ
times t = cond t 0 1

over : (n b x : ℕ) → 1 < n → cond (ltb 1 n) b x ≡ b
over n b x h = rw (lt-ltb 1 n h)

under : (n b x : ℕ) → n ≤ 1 → cond (ltb 1 n) b x ≡ x
under n b x h = rw (le-ltb 1 n h)

-- named n times, and then k times more
twice-more : (t : Bool) (n k b x : ℕ) → cond (ltb 1 (times (cond (ltb 0 n) false t) + k)) b (cond (ltb 1 (times t + n)) b x) ≡ cond (ltb 1 (times t + (n + k))) b x
twice-more t zero k b x =
    let z : times t + 0 ≤ 1 = small t in
    let w : times t + (0 + k) ≡ times t + k = omega arith in
    ap (λ (y : ℕ). cond (ltb 1 (times t + k)) b y) (under (times t + 0) b x z) ∙ ap (λ (y : ℕ). cond (ltb 1 y) b x) (sym w)
  where
    small : (t : Bool) → times t + 0 ≤ 1
    small true = omega arith
    small false = omega arith
twice-more true (suc zero) k b x = let w : 1 + k ≡ 0 + (1 + k) = omega arith in ap (λ (n : ℕ). cond (ltb 1 n) b x) w
twice-more true (suc (suc n)) k b x =
    let z : 1 < 0 + suc (suc n) = omega arith in
    let w : 1 < 0 + (suc (suc n) + k) = omega arith in
    ap (λ (y : ℕ). cond (ltb 1 (times (cond (ltb 0 (suc (suc n))) false true) + k)) b y) (over (0 + suc (suc n)) b x z) ∙ same-either (ltb 1 (times (cond (ltb 0 (suc (suc n))) false true) + k)) b ∙ sym (over (0 + (suc (suc n) + k)) b x w)
twice-more false (suc n) k b x =
    let z : 1 < 1 + suc n = omega arith in
    let w : 1 < 1 + (suc n + k) = omega arith in
    ap (λ (y : ℕ). cond (ltb 1 (times (cond (ltb 0 (suc n)) false false) + k)) b y) (over (1 + suc n) b x z) ∙ same-either (ltb 1 (times (cond (ltb 0 (suc n)) false false) + k)) b ∙ sym (over (1 + (suc n + k)) b x w)

seen_more : (t : Bool) (n k : ℕ) → cond (ltb 0 k) false (cond (ltb 0 n) false t) ≡ cond (ltb 0 (n + k)) false t
seen_more t zero k = let w : 0 + k ≡ k = omega arith in ap (λ (y : ℕ). cond (ltb 0 y) false t) (sym w)
seen_more t (suc n) k =
    let w : 0 < suc n + k = omega arith in
    let z : 0 < suc n = omega arith in
    ap (λ (y : Bool). cond (ltb 0 k) false (cond y false t)) (lt-ltb 0 (suc n) z) ∙ same (ltb 0 k) ∙ sym (rw (lt-ltb 0 (suc n + k) w))
  where
    same : (t : Bool) → cond t false false ≡ false
    same true = refl
    same false = refl

one-is : (a : Bool) (t : Bool) → cond a false t ≡ cond (ltb 0 (cond a 1 0)) false t
one-is true t = refl
one-is false t = refl

one_again : (a t : Bool) (b x : ℕ) → cond (a && not t) b x ≡ cond (ltb 1 (times t + cond a 1 0)) b x
one_again true true b x = refl
one_again true false b x = refl
one_again false true b x = refl
one_again false false b x = refl

pieces-seen : (own : List ℕ) (m v : ℕ) (ps : List (List ℕ)) (d : List ℕ) → Placed own v d → ltb (entry_of own v (seen_pieces own m ps d)) m ≡ cond (ltb 0 (piece_count v ps)) false (ltb (entry_of own v d) m)
unfolding seen_pieces
pieces-seen own m v [] d h = let z : piece_count v [] ≤ 0 = omega (arith, piece-nil v) in sym (rw (le-ltb 0 (piece_count v []) z))
pieces-seen own m v (p ∷ ps) d h =
    pieces-seen own m v ps (mark_name own m (reg_of (trim_of p)) d) (slot_kept own d (mark_name own m (reg_of (trim_of p)) d) v (name-length own m (reg_of (trim_of p)) d) h)
    ∙ ap (λ (t : Bool). cond (ltb 0 (piece_count v ps)) false t) (seen_at own m v (reg_of (trim_of p)) d h ∙ one-is (reg_is v (reg_of (trim_of p))) (ltb (entry_of own v d) m))
    ∙ seen_more (ltb (entry_of own v d) m) (cond (reg_is v (reg_of (trim_of p))) 1 0) (piece_count v ps)
    ∙ ap (λ (n : ℕ). cond (ltb 0 n) false (ltb (entry_of own v d) m)) (sym (piece-cons v p ps (reg_is v (reg_of (trim_of p))) refl))

pieces-again : (own : List ℕ) (m b v : ℕ) (ps : List (List ℕ)) (d u : List ℕ) → Placed own v d → Placed own v u → entry_of own v (again_pieces own m b ps d u) ≡ cond (ltb 1 (times (ltb (entry_of own v d) m) + piece_count v ps)) b (entry_of own v u)
unfolding again_pieces
pieces-again own m b v [] d u g h = sym (under (times (ltb (entry_of own v d) m) + piece_count v []) b (entry_of own v u) (go (ltb (entry_of own v d) m)))
  where
    go : (t : Bool) → times t + piece_count v [] ≤ 1
    go true = omega (arith, piece-nil v)
    go false = omega (arith, piece-nil v)
pieces-again own m b v (p ∷ ps) d u g h =
    pieces-again own m b v ps (mark_name own m (reg_of (trim_of p)) d) (again_name own m b (reg_of (trim_of p)) d u) (slot_kept own d (mark_name own m (reg_of (trim_of p)) d) v (name-length own m (reg_of (trim_of p)) d) g) (slot_kept own u (again_name own m b (reg_of (trim_of p)) d u) v (again-length own m b (reg_of (trim_of p)) d u) h)
    ∙ ap (λ (t : Bool). cond (ltb 1 (times t + piece_count v ps)) b (entry_of own v (again_name own m b (reg_of (trim_of p)) d u))) (seen_at own m v (reg_of (trim_of p)) d g ∙ one-is (reg_is v (reg_of (trim_of p))) (ltb (entry_of own v d) m))
    ∙ ap (λ (y : ℕ). cond (ltb 1 (times (cond (ltb 0 (cond (reg_is v (reg_of (trim_of p))) 1 0)) false (ltb (entry_of own v d) m)) + piece_count v ps)) b y)
    (again-at own m b v (reg_of (trim_of p)) d u h ∙ one_again (reg_is v (reg_of (trim_of p))) (ltb (entry_of own v d) m) b (entry_of own v u))
    ∙ twice-more (ltb (entry_of own v d) m) (cond (reg_is v (reg_of (trim_of p))) 1 0) (piece_count v ps) b (entry_of own v u)
    ∙ ap (λ (n : ℕ). cond (ltb 1 (times (ltb (entry_of own v d) m) + n)) b (entry_of own v u)) (sym (piece-cons v p ps (reg_is v (reg_of (trim_of p))) refl))

decl-more : (v : ℕ) (l : List ℕ) (ls : List (List ℕ)) → decl_count v (l ∷ ls) ≡ piece_count v (pieces_of l) + decl_count v ls
unfolding decl_count pieces_of
decl-more v l ls = go (is_decl (trim_of l))
  where
    go : (t : Bool) → cond t (piece_count v (parts_of 44 (body_of (trim_of l)))) 0 + decl_count v ls ≡ piece_count v (cond t (parts_of 44 (body_of (trim_of l))) []) + decl_count v ls
    go true = refl
    go false = omega (arith, piece-nil v)

lines-seen : (own : List ℕ) (m v : ℕ) (ls : List (List ℕ)) (d : List ℕ) → Placed own v d → ltb (entry_of own v (seen_lines own m ls d)) m ≡ cond (ltb 0 (decl_count v ls)) false (ltb (entry_of own v d) m)
unfolding seen_lines
lines-seen own m v [] d h = let z : decl_count v [] ≤ 0 = omega (arith, decl-nil v) in sym (rw (le-ltb 0 (decl_count v []) z))
lines-seen own m v (l ∷ ls) d h =
    lines-seen own m v ls (seen_pieces own m (pieces_of l) d) (slot_kept own d (seen_pieces own m (pieces_of l) d) v (seen-pieces-length own m (pieces_of l) d) h)
    ∙ ap (λ (t : Bool). cond (ltb 0 (decl_count v ls)) false t) (pieces-seen own m v (pieces_of l) d h)
    ∙ seen_more (ltb (entry_of own v d) m) (piece_count v (pieces_of l)) (decl_count v ls)
    ∙ ap (λ (n : ℕ). cond (ltb 0 n) false (ltb (entry_of own v d) m)) (sym (decl-more v l ls))

lines-again : (own : List ℕ) (m b v : ℕ) (ls : List (List ℕ)) (d u : List ℕ) → Placed own v d → Placed own v u → entry_of own v (again_lines own m b ls d u) ≡ cond (ltb 1 (times (ltb (entry_of own v d) m) + decl_count v ls)) b (entry_of own v u)
unfolding again_lines
lines-again own m b v [] d u g h = sym (under (times (ltb (entry_of own v d) m) + decl_count v []) b (entry_of own v u) (go (ltb (entry_of own v d) m)))
  where
    go : (t : Bool) → times t + decl_count v [] ≤ 1
    go true = omega (arith, decl-nil v)
    go false = omega (arith, decl-nil v)
lines-again own m b v (l ∷ ls) d u g h =
    lines-again own m b v ls (seen_pieces own m (pieces_of l) d) (again_pieces own m b (pieces_of l) d u) (slot_kept own d (seen_pieces own m (pieces_of l) d) v (seen-pieces-length own m (pieces_of l) d) g) (slot_kept own u (again_pieces own m b (pieces_of l) d u) v (again-pieces-length own m b (pieces_of l) d u) h)
    ∙ ap (λ (t : Bool). cond (ltb 1 (times t + decl_count v ls)) b (entry_of own v (again_pieces own m b (pieces_of l) d u))) (pieces-seen own m v (pieces_of l) d g)
    ∙ ap (λ (y : ℕ). cond (ltb 1 (times (cond (ltb 0 (piece_count v (pieces_of l))) false (ltb (entry_of own v d) m)) + decl_count v ls)) b y) (pieces-again own m b v (pieces_of l) d u g h)
    ∙ twice-more (ltb (entry_of own v d) m) (piece_count v (pieces_of l)) (decl_count v ls) b (entry_of own v u)
    ∙ ap (λ (n : ℕ). cond (ltb 1 (times (ltb (entry_of own v d) m) + n)) b (entry_of own v u)) (sym (decl-more v l ls))

-- ---- the entries of a register after its region: a is the place at which the region begins, and k the row

pub record Entry (v a k : ℕ) (run : List (List ℕ)) (x y : ℕ) : Type 0 where
  pub was : ℕ
  pub low : was < k + 1
  pub seen : ltb a x ≡ ltb 0 (decl_count v run)
  pub first : y ≡ cond (ltb 1 (decl_count v run)) (k + 1) (use_at v (k + 1) k run was)

abbrev pub Tells : List ℕ → ℕ → ℕ → List (List ℕ) → List ℕ → List ℕ → Type 0
Tells own a k run d u = (v : ℕ) → Placed own v u → Entry v a k run (entry_of own v d) (entry_of own v u)

above-by : (a x : ℕ) (t : Bool) → ltb x (a + 1) ≡ cond t false true → ltb a x ≡ t
above-by a x true e = let z = ltb-false x (a + 1) e in lt-ltb a x (omega arith)
above-by a x false e = let z = ltb-true x (a + 1) e in le-ltb a x (omega arith)

pub tells-new : (own : List ℕ) (a k : ℕ) (run : List (List ℕ)) (d u : List ℕ) → length d ≡ length u → AtMost a d → AtMost k u → Tells own a k run (seen_lines own (a + 1) run d) (again_lines own (a + 1) (k + 1) run d (use_lines own (k + 1) k run u))
tells-new own a k run d u s f g v h =
    let n : length (use_lines own (k + 1) k run u) ≡ length u = uses-length own (k + 1) k run u in
    let h₁ : Placed own v u = slot_kept own (again_lines own (a + 1) (k + 1) run d (use_lines own (k + 1) k run u)) u v (sym (agains-length own (a + 1) (k + 1) run d (use_lines own (k + 1) k run u) ∙ n)) h in
    let h₂ : Placed own v d = slot_kept own u d v s h₁ in
    let p = f (slot_of (length d) own v) in
    let q = g (slot_of (length u) own v) in
    let z : ltb (entry_of own v d) (a + 1) ≡ true = lt-ltb (entry_of own v d) (a + 1) (omega arith) in
    record {
      was = entry_of own v u;
      low = omega arith;
      seen = above-by a (entry_of own v (seen_lines own (a + 1) run d)) (ltb 0 (decl_count v run)) (lines-seen own (a + 1) v run d h₂ ∙ rw z);
      first =
          lines-again own (a + 1) (k + 1) v run d (use_lines own (k + 1) k run u) h₂ (slot_kept own u (use_lines own (k + 1) k run u) v n h₁)
          ∙ ap (λ (t : Bool). cond (ltb 1 (times t + decl_count v run)) (k + 1) (entry_of own v (use_lines own (k + 1) k run u))) z
          ∙ ap (λ (n : ℕ). cond (ltb 1 n) (k + 1) (entry_of own v (use_lines own (k + 1) k run u))) zero-add
          ∙ ap (λ (y : ℕ). cond (ltb 1 (decl_count v run)) (k + 1) y) (lines-at own v (k + 1) k run u h₁);
    }
  where
    zero-add : 0 + decl_count v run ≡ decl_count v run
    zero-add = omega arith

-- ---- where the line l declares, and the lines above and below it are those of its region

decl-line : (v : ℕ) (l : List ℕ) → is_decl (trim_of l) ≡ true → (line_stores v l ≡ false) × (ltb 0 (line_reads v l) ≡ false)
unfolding line_stores line_reads parse_of text_of runs runs_go count_by reg_of
decl-line v l e = (rw e, rw e)

decl-append : (v : ℕ) (xs ys : List (List ℕ)) → decl_count v (xs ++ ys) ≡ decl_count v xs + decl_count v ys
decl-append v [] ys = let n = decl-nil v in omega arith
decl-append v (l ∷ xs) ys = omega (arith, decl-cons v l (xs ++ ys), decl-cons v l xs, decl-append v xs ys)

or_left : (a b : Bool) → a || b ≡ false → a ≡ false
or_left true b e = e
or_left false b e = refl

or_right : (a b : Bool) → a || b ≡ false → b ≡ false
or_right true b e = no (sym e)
or_right false b e = e

unused-stores : (v : ℕ) (ls : List (List ℕ)) → used_in v ls ≡ false → store_count v ls ≡ 0
unused-stores v [] e = store-nil v
unused-stores v (l ∷ ls) e =
    let f : line_uses v l || used_in v ls ≡ false = sym (used-cons v l ls) ∙ e in
    let g : line_stores v l ≡ false = or_left (line_stores v l) (ltb 0 (line_reads v l)) (sym (uses-is v l) ∙ or_left (line_uses v l) (used_in v ls) f) in
    omega (arith, store-cons v l ls false (sym g), unused-stores v ls (or_right (line_uses v l) (used_in v ls) f))

row-le : (v : ℕ) (ls : List (List ℕ)) → use_row v ls ≤ length ls
row-le v [] = let n = use-nil v in omega arith
row-le v (l ∷ ls) = go (line_uses v l) refl (row-le v ls)
  where
    go : (t : Bool) → line_uses v l ≡ t → use_row v ls ≤ length ls → use_row v (l ∷ ls) ≤ suc (length ls)
    go true e h = let n = use-here v l ls e in omega arith
    go false e h = let n = use-next v l ls e in omega arith

-- either entry is no more than n
cond-le : (t : Bool) (x y n : ℕ) → x ≤ n → y ≤ n → cond t x y ≤ n
cond-le true x y n h g = h
cond-le false x y n h g = g

module _ (v k : ℕ) (above : List (List ℕ)) (l : List ℕ) (below : List (List ℕ)) (x : ℕ) (low : x < k + 1) where
  -- used above: the entry is no row below the line
  used-above : used_in v above ≡ true → use_at v (k + 1) k (above ++ l ∷ below) x ≤ k + length above + 1
  used-above e =
      let y : ℕ = first_of v (k + 1) k above in
      let p : use_at v (k + 1) k above x ≡ y = use-low v (k + 1) k above x (omega arith) low ∙ rw e in
      let r = row-le v above in
      let w : y ≤ k + length above + 1 = cond-le (line_stores v (get_or above (use_row v above) []) && eqb (store_count v above) 1) (k + 1 + use_row v above) (k + 1) (k + length above + 1) (omega arith) (omega arith) in
      let h : k + 1 ≤ y = high (line_stores v (get_or above (use_row v above) []) && eqb (store_count v above) 1) in
      let q : use_at v (k + 1) k (above ++ l ∷ below) x ≡ cond (ltb 0 (store_count v (l ∷ below))) (k + 1) y =
      use-append v (k + 1) k above (l ∷ below) x ∙ ap (use_at v (k + 1) (k + length above) (l ∷ below)) p ∙ use-high v (k + 1) (k + length above) (l ∷ below) y h in
      let z = cond-le (ltb 0 (store_count v (l ∷ below))) (k + 1) y (k + length above + 1) (omega arith) w in
      omega (arith, q, z)
    where
      high : (t : Bool) → k + 1 ≤ cond t (k + 1 + use_row v above) (k + 1)
      high true = omega arith
      high false = omega arith

  -- not used above: the lines below say it
  unused-above : is_decl (trim_of l) ≡ true → used_in v above ≡ false → use_at v (k + 1) k (above ++ l ∷ below) x ≡ cond (used_in v below) (first_of v (k + 1) (k + length above + 1) below) x
  unused-above d e =
      let n = decl-line v l d in
      use-append v (k + 1) k above (l ∷ below) x
      ∙ ap (use_at v (k + 1) (k + length above) (l ∷ below)) (use-low v (k + 1) k above x (omega arith) low ∙ rw e)
      ∙ use-cons v (k + 1) (k + length above) l below x x (at_none v (k + 1) (k + length above + 1) l x n.0 n.1)
      ∙ use-low v (k + 1) (k + length above + 1) below x (omega arith) low

-- the question and the definition, and where they say yes, the row
abbrev Agree : Bool → Bool → ℕ → ℕ → Type 0
Agree p q y n = (p ≡ q) × (q ≡ true → y ≡ n)

agree-no : (p q : Bool) (y n : ℕ) → p ≡ false → q ≡ false → Agree p q y n
agree-no p q y n e f = (e ∙ sym f, λ g. no (sym f ∙ g))

module _ (v a k r : ℕ) (above : List (List ℕ)) (l : List ℕ) (below : List (List ℕ)) (bs ss : List ℕ) (x y : ℕ) (h : Entry v a k (above ++ l ∷ below) x y) (dc : is_decl (trim_of l) ≡ true) (rows : r ≡ k + length above) where
  abbrev tests : ℕ → Bool
  tests w = eqb (get_or bs (w - 1) 0) (get_or bs r 0) && eqb (get_or ss (w - 1) 0) 1

  abbrev decls : ℕ
  decls = decl_count v above + (decl_count v (l ∷ []) + decl_count v below)

  abbrev defined : Bool
  defined = eqb decls 1 && (eqb (store_count v above + store_count v below) 1 && (not (used_in v above) && stores_at v below bs ss r (use_row v below)))

  abbrev last : ℕ
  last = suc (r + suc (use_row v below))

  decls-is : decl_count v (above ++ l ∷ below) ≡ decls
  decls-is = omega (arith, decl-append v above (l ∷ below), decl-cons v l below)

  asked_is : asked bs ss a r x y ≡ ltb a x && (ltb (r + 1) y && tests y)
  unfolding asked
  asked_is = refl

  asked-late : ltb (r + 1) y ≡ false → asked bs ss a r x y ≡ false
  asked-late e = asked_is ∙ rw e (and-false (ltb a x))

  not_late : y ≤ r + 1 → asked bs ss a r x y ≡ false
  not_late e = asked-late (le-ltb (r + 1) y e)

  -- the line of the store is row n
  stores-is : (n : ℕ) → stores_at v below bs ss r n ≡ line_stores v (get_or below n []) && (eqb (get_or bs (r + suc n) 0) (get_or bs r 0) && eqb (get_or ss (r + suc n) 0) 1)
  unfolding stores_at
  stores-is n = refl

  one-decl : decls ≡ 1 → Agree (asked bs ss a r x y) defined y (suc (r + suc (use_row v below)))
  one-decl e = by (used_in v above) refl
    where
      entry : y ≡ use_at v (k + 1) k (above ++ l ∷ below) h.was
      entry = h.first ∙ under (decl_count v (above ++ l ∷ below)) (k + 1) (use_at v (k + 1) k (above ++ l ∷ below) h.was) (omega (arith, decls-is, e))

      seen-yes : ltb a x ≡ true
      seen-yes = h.seen ∙ lt-ltb 0 (decl_count v (above ++ l ∷ below)) (omega (arith, decls-is, e))

      once_is : eqb decls 1 ≡ true
      once_is = eq-eqb decls 1 e

      found : (p s : Bool) → line_stores v (get_or below (use_row v below) []) ≡ p → eqb (store_count v below) 1 ≡ s → used_in v above ≡ false → y ≡ cond (p && s) (k + length above + 1 + 1 + use_row v below) (k + 1) → Agree (asked bs ss a r x y) defined y last
      found p false f g u z = agree-no _ _ y last (not_late (omega (arith, z ∙ ap (λ (t : Bool). cond t (k + length above + 1 + 1 + use_row v below) (k + 1)) (and-false p), rows))) (stores-no g)
        where
          stores-no : eqb (store_count v below) 1 ≡ false → defined ≡ false
          stores-no g = let n : store_count v above + store_count v below ≡ store_count v below = omega (arith, unused-stores v above u) in rw (once_is, n, g)
      found false true f g u z = agree-no _ _ y last (not_late (omega (arith, z, rows))) (line-no f)
        where
          line-no : line_stores v (get_or below (use_row v below) []) ≡ false → defined ≡ false
          line-no f = rw (once_is, u, stores-is (use_row v below), f) (and-false (eqb (store_count v above + store_count v below) 1))
      found true true f g u z = (both, λ _. row)
        where
          row : y ≡ last
          row = omega (arith, z, rows)

          both : asked bs ss a r x y ≡ defined
          both =
              let n : store_count v above + store_count v below ≡ store_count v below = omega (arith, unused-stores v above u) in
              let q : y - 1 ≡ r + suc (use_row v below) = omega (arith, row) in
              let w : r + 1 < y = omega (arith, row) in
              asked_is ∙ rw (seen-yes, lt-ltb (r + 1) y w, q, once_is, n, g, u, stores-is (use_row v below), f)

      below_by : (t : Bool) → used_in v below ≡ t → used_in v above ≡ false → y ≡ cond t (first_of v (k + 1) (k + length above + 1) below) h.was → Agree (asked bs ss a r x y) defined y last
      below_by true f u z = found (line_stores v (get_or below (use_row v below) [])) (eqb (store_count v below) 1) refl refl u z
      below_by false f u z = agree-no _ _ y last (not_late (omega (arith, z, rows, h.low))) none
        where
          none : defined ≡ false
          none = let n : store_count v above + store_count v below ≡ 0 = omega (arith, unused-stores v above u, unused-stores v below f) in rw (once_is, n)

      by : (t : Bool) → used_in v above ≡ t → Agree (asked bs ss a r x y) defined y last
      by true u = agree-no _ _ y last (not_late (omega (arith, entry, used-above v k above l below h.was h.low u, rows))) above-no
        where
          above-no : defined ≡ false
          above-no = rw (once_is, u) (and-false (eqb (store_count v above + store_count v below) 1))
      by false u = below_by (used_in v below) refl u (entry ∙ unused-above v k above l below h.was h.low dc u)

  pub entry-says : Agree (asked bs ss a r x y) defined y (suc (r + suc (use_row v below)))
  entry-says = go decls refl
    where
      none : decls ≡ 0 → asked bs ss a r x y ≡ false
      none e = asked_is ∙ rw (h.seen ∙ le-ltb 0 (decl_count v (above ++ l ∷ below)) (omega (arith, decls-is, e)))

      other : (n : ℕ) → decls ≡ n → (n ≡ 1 → ⊥) → defined ≡ false
      other n e f = rw (ne_eqb decls 1 (λ q. f (sym e ∙ q)))

      go : (n : ℕ) → decls ≡ n → Agree (asked bs ss a r x y) defined y (suc (r + suc (use_row v below)))
      go zero e = agree-no _ _ y _ (none e) (other 0 e (λ q. absurd (omega (arith, q))))
      go (suc zero) e = one-decl e
      go (suc (suc n)) e =
          agree-no _ _ y _
          (not_late (omega (arith, h.first ∙ over (decl_count v (above ++ l ∷ below)) (k + 1) (use_at v (k + 1) k (above ++ l ∷ below) h.was) (omega (arith, decls-is, e)), rows)))
          (other (suc (suc n)) e (λ q. absurd (omega (arith, q))))

-- ---- the question of the code, at the place i of a register

pub told-says : {own t : List ℕ} {s : Site} {bs ss d u : List ℕ} (v : ℕ) {i : ℕ} → Told own t s bs ss d u → i ≡ slot_of (length u) own v → i < length u → asked bs ss s.top s.row (get_or d i 0) (get_or u i 0) ≡ bound_at t s bs ss v
told-says {own} {t} {s} {bs} {ss} {d} {u} v {i} h p l =
    ap (λ (x : ℕ). asked bs ss s.top s.row x (get_or u i 0)) (ap (λ (n : ℕ). get_or d n 0) (p ∙ ap (λ (n : ℕ). slot_of n own v) (sym h.same)))
    ∙ ap (λ (n : ℕ). asked bs ss s.top s.row (entry_of own v d) (get_or u n 0)) p ∙ h.says v (subst (λ (n : ℕ). n < length u) p l)

pub row-entry : (own : List ℕ) (v : ℕ) (u : List ℕ) {i x : ℕ} → i ≡ slot_of (length u) own v → i < length u → (Placed own v u → entry_of own v u ≡ x) → get_or u i 0 ≡ x
row-entry own v u p l f = ap (λ (n : ℕ). get_or u n 0) p ∙ f (subst (λ (n : ℕ). n < length u) p l)

pub ready-as : {own t : List ℕ} (l : List ℕ) {s : Site} {bs ss d u d' u' : List ℕ} → d' ≡ d → u' ≡ u → ReadyFor l own t s bs ss d u → ReadyFor l own t s bs ss d' u'
ready-as l p q h = rw (p, q) h

-- ---- the front of a table of zeros

pub zeros-cut : (k n : ℕ) {d : List ℕ} → d ≡ replicate n 0 → k ≤ n → (length (take k d) ≡ k) × (AtMost 0 (take k d))
zeros-cut k n {d} e h = let z : take k d ≡ replicate k 0 = zeros-take k n e h in (zeros-long k z, subst (AtMost 0) (sym z) (zeros-most k))

-- ---- no entry is above n

set-most : (n k v x : ℕ) (d : List ℕ) → x ≤ n → get_or d v 0 ≤ n → get_or (set d k x) v 0 ≤ n
set-most n k v x [] g h = h
set-most n zero zero x (y ∷ d) g h = g
set-most n zero (suc v) x (y ∷ d) g h = h
set-most n (suc k) zero x (y ∷ d) g h = h
set-most n (suc k) (suc v) x (y ∷ d) g h = set-most n k v x d g h

read-most : (own : List ℕ) (b n : ℕ) (r : Option Register) (u : List ℕ) → b ≤ n → AtMost n u → AtMost n (read_name own b r u)
read-most own b n None u g h = h
read-most own b n (Some q) u g h = λ i. set-most n (slot_of (length u) own q.0) i (after_read b (entry_of own q.0 u)) u (cond-le (ltb (entry_of own q.0 u) b) b (entry_of own q.0 u) n g (h (slot_of (length u) own q.0))) (h i)

runs-most : (own : List ℕ) (b n : ℕ) (rs : List (List ℕ)) (u : List ℕ) → b ≤ n → AtMost n u → AtMost n (read_runs own b rs u)
unfolding read_runs
runs-most own b n [] u g h = h
runs-most own b n (r ∷ rs) u g h = runs-most own b n rs (read_name own b (reg_of r) u) g (read-most own b n (reg_of r) u g h)

store-most : (own : List ℕ) (b c n : ℕ) (p : Line) (u : List ℕ) → b ≤ n → c ≤ n → AtMost n u → AtMost n (store_line own b c p u)
store-most own b c n line.Decl u f g h = h
store-most own b c n (line.Store s) u f g h = λ i. set-most n (slot_of (length u) own s.reg.0) i (after_store b c (entry_of own s.reg.0 u)) u (cond-le (ltb (entry_of own s.reg.0 u) b) c b n g f) (h i)
store-most own b c n line.Other u f g h = h

uses-most : (own : List ℕ) (b k : ℕ) (ls : List (List ℕ)) (u : List ℕ) → b ≤ k + 1 → AtMost k u → AtMost (k + length ls) (use_lines own b k ls u)
unfolding use_lines use_line
uses-most own b k [] u g h = λ v. let z = h v in omega arith
uses-most own b k (l ∷ ls) u g h =
    let f = uses-most own b (k + 1) ls (use_line own b (k + 1) l u) (omega arith) (runs-most own b (k + 1) (runs (text_of l (parse_of l))) (store_line own b (k + 1) (parse_of l) u) g (store-most own b (k + 1) (k + 1) (parse_of l) u g (omega arith) (λ v. let z = h v in omega arith))) in
    λ v. let z = f v in omega arith

again-most : (own : List ℕ) (m b n : ℕ) (r : Option Register) (d u : List ℕ) → b ≤ n → AtMost n u → AtMost n (again_name own m b r d u)
again-most own m b n None d u g h = h
again-most own m b n (Some q) d u g h = go (ltb (entry_of own q.0 d) m)
  where
    go : (t : Bool) → AtMost n (cond t u (with_entry own q.0 b u))
    go true = h
    go false = λ i. set-most n (slot_of (length u) own q.0) i b u g (h i)

pieces-most : (own : List ℕ) (m b n : ℕ) (ps : List (List ℕ)) (d u : List ℕ) → b ≤ n → AtMost n u → AtMost n (again_pieces own m b ps d u)
unfolding again_pieces
pieces-most own m b n [] d u g h = h
pieces-most own m b n (p ∷ ps) d u g h = pieces-most own m b n ps (mark_name own m (reg_of (trim_of p)) d) (again_name own m b (reg_of (trim_of p)) d u) g (again-most own m b n (reg_of (trim_of p)) d u g h)

agains-most : (own : List ℕ) (m b n : ℕ) (ls : List (List ℕ)) (d u : List ℕ) → b ≤ n → AtMost n u → AtMost n (again_lines own m b ls d u)
unfolding again_lines
agains-most own m b n [] d u g h = h
agains-most own m b n (l ∷ ls) d u g h = agains-most own m b n ls (seen_pieces own m (pieces_of l) d) (again_pieces own m b (pieces_of l) d u) g (pieces-most own m b n (pieces_of l) d u g h)

mark-most : (own : List ℕ) (m n : ℕ) (r : Option Register) (d : List ℕ) → m ≤ n → AtMost n d → AtMost n (mark_name own m r d)
mark-most own m n None d g h = h
mark-most own m n (Some q) d g h = λ i. set-most n (slot_of (length d) own q.0) i m d g (h i)

marks-most : (own : List ℕ) (m n : ℕ) (ps : List (List ℕ)) (d : List ℕ) → m ≤ n → AtMost n d → AtMost n (seen_pieces own m ps d)
unfolding seen_pieces
marks-most own m n [] d g h = h
marks-most own m n (p ∷ ps) d g h = marks-most own m n ps (mark_name own m (reg_of (trim_of p)) d) g (mark-most own m n (reg_of (trim_of p)) d g h)

pub seen_most : (own : List ℕ) (m n : ℕ) (ls : List (List ℕ)) (d : List ℕ) → m ≤ n → AtMost n d → AtMost n (seen_lines own m ls d)
unfolding seen_lines
seen_most own m n [] d g h = h
seen_most own m n (l ∷ ls) d g h = seen_most own m n ls (seen_pieces own m (pieces_of l) d) g (marks-most own m n (pieces_of l) d g h)

-- after a region of one line or more
pub first-most : (own : List ℕ) (m k : ℕ) (ls : List (List ℕ)) (d u : List ℕ) → 0 < length ls → AtMost k u → AtMost (k + length ls) (again_lines own m (k + 1) ls d (use_lines own (k + 1) k ls u))
first-most own m k ls d u g h = agains-most own m (k + 1) (k + length ls) ls d (use_lines own (k + 1) k ls u) (omega arith) (uses-most own (k + 1) k ls u (omega arith) h)
