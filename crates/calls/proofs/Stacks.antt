-- Laws of the stack of lines and the table of owners, as lists. Assumes nothing.
use Prim.Native.Nat.{ℕ, zero, suc, ◌+◌, ◌-◌, ◌≤◌, ◌<◌}
use mathlib.Core.Path.{◌≡◌, refl, sym, ap, ◌∙◌}
use mathlib.Core.Bool.{true}
use mathlib.Core.List.{List, [], ◌∷◌, ◌++◌, append_assoc, reverse, reverse_aux}
use native.Mathlib.Omega.{arith}
use lib.ListN.{length, take, drop, get_or, set, length-append, length-take, length-drop, take-append-drop}
use lib.Seq.{take-suc, drop-cons, take_at, drop_at, drop-drop, take-add, length-take-le, get_or-set_same, drop-set-lt}
use Rattle.lines.specs.Lf.{part, unlines}
use Rattle.lines.specs.Inner.Lf.{line_start, lacks}
use Rattle.lines.specs.Acts.{Act}
use Rattle.lines.proofs.ActLaws.{unlines-append}
use Rattle.calls.specs.Calls.{Row, row_lines, acts_up}
use Rattle.calls.specs.Inner.Tables.{owner_of, owners_of}
use Rattle.calls.proofs.Cut.{acts-more, acts-length}
use Rattle.calls.proofs.Edges.{given, owner_back}
use Rattle.calls.proofs.StepLaws.{back-line}
use Rattle.calls.proofs.WalkLaws.{owners_in}

-- ---- the last line of a stack

-- below h the bytes of s are those of ls and then l: l begins at q
pub record LastLine (s : List ℕ) (h : ℕ) (ls : List (List ℕ)) (l : List ℕ) (q : ℕ) : Type 0 where
  pub upper : take q s ≡ unlines ls
  pub line : part q (h - 1) s ≡ l
  pub ended : part q h s ≡ l ++ 10 ∷ []
  pub whole : h ≡ q + length l + 1

pub last_line : (s : List ℕ) (h : ℕ) (ls : List (List ℕ)) (l : List ℕ) → h ≤ length s → take h s ≡ unlines (ls ++ (l ∷ [])) → lacks 10 l ≡ true →
    (q : ℕ) → q ≡ line_start s (h - 1) → LastLine s h ls l q
unfolding unlines
last_line s h ls l k e f q z =
    let u : List ℕ = unlines ls in
    let a : take h s ≡ u ++ (l ++ 10 ∷ []) = e ∙ unlines-append ls (l ∷ []) in
    let n : h ≡ length u + (length l + 1) = omega (arith, length-take-le h s k, ap length a, length-append u (l ++ 10 ∷ []), length-append l (10 ∷ [])) in
    let m : h - 1 ≡ length u + length l = omega arith in
    let w : s ≡ u ++ (l ++ 10 ∷ drop h s) =
    sym (take-append-drop h s) ∙ ap (λ (x : List ℕ). x ++ drop h s) a ∙ append_assoc u (l ++ 10 ∷ []) (drop h s)
    ∙ ap (λ (x : List ℕ). u ++ x) (append_assoc l (10 ∷ []) (drop h s)) in
    let v : q ≡ length u =
    z ∙ ap (line_start s) m ∙ ap (λ (x : List ℕ). line_start x (length u + length l)) w ∙ back-line ls l (10 ∷ drop h s) f in
    let r : drop q s ≡ l ++ 10 ∷ drop h s = ap (λ (x : ℕ). drop x s) v ∙ ap (drop (length u)) w ∙ drop_at u (l ++ 10 ∷ drop h s) (length u) refl in
    record {
      upper = ap (λ (x : ℕ). take x s) v ∙ ap (take (length u)) w ∙ take_at u (l ++ 10 ∷ drop h s) (length u) refl;
      line = ap (take (h - 1 - q)) r ∙ take_at l (10 ∷ drop h s) (h - 1 - q) (omega arith);
      ended = ap (take (h - q)) (r ∙ sym (append_assoc l (10 ∷ []) (drop h s))) ∙ take_at (l ++ 10 ∷ []) (drop h s) (h - q) (omega (arith, length-append l (10 ∷ [])));
      whole = omega arith;
    }

-- ---- parts

pub part_join : (s : List ℕ) (a j e : ℕ) → a ≤ j → j ≤ e → part a e s ≡ part a j s ++ part j e s
part_join s a j e h k =
    let p : a + (j - a) ≡ j = omega arith in
    let q : e - a ≡ j - a + (e - j) = omega arith in
    let r : drop (j - a) (drop a s) ≡ drop j s = drop-drop (j - a) a s ∙ ap (λ (n : ℕ). drop n s) p in
    ap (λ (n : ℕ). take n (drop a s)) q ∙ take-add (j - a) (e - j) (drop a s) ∙ ap (λ (l : List ℕ). take (j - a) (drop a s) ++ take (e - j) l) r

-- one entry more at the front
pub part-cons : (s : List ℕ) (j n : ℕ) → j < n → j < length s → part j n s ≡ get_or s j 0 ∷ part (suc j) n s
part-cons s j n h k =
    let q : n - j ≡ suc (n - suc j) = omega arith in
    ap (λ (m : ℕ). take m (drop j s)) q ∙ ap (take (suc (n - suc j))) (drop-cons s j 0 k)

-- an entry set just above a part is its first
pub part-set : (s : List ℕ) (j n x : ℕ) → j < n → j < length s → part j n (set s j x) ≡ x ∷ part (suc j) n s
part-set s j n x h k =
    let l : length (set s j x) ≡ length s = simp lib.ListN.length-set in
    part-cons (set s j x) j n h (omega arith)
    ∙ ap (λ (y : ℕ). y ∷ part (suc j) n (set s j x)) (get_or-set_same s j x 0 k)
    ∙ ap (λ (y : List ℕ). x ∷ take (n - suc j) y) (drop-set-lt (suc j) s j x (omega arith))

-- ---- a list that ends in one more

module _ {A : Type 0} (s xs : List A) (x d : A) (j : ℕ) (k : j < length s) (e : take (suc j) s ≡ xs ++ (x ∷ [])) (n : length xs ≡ j) where
  both : take j s ++ (get_or s j d ∷ []) ≡ xs ++ (x ∷ [])
  both = sym (take-suc s j d k) ∙ e

  front : length (take j s) ≡ j
  front = length-take-le j s (omega arith)

  pub snoc-front : take j s ≡ xs
  snoc-front = sym (take_at (take j s) (get_or s j d ∷ []) j front) ∙ ap (take j) both ∙ take_at xs (x ∷ []) j n

  pub snoc-last : get_or s j d ≡ x
  snoc-last = ap (λ (l : List A). get_or l 0 d) (sym (drop_at (take j s) (get_or s j d ∷ []) j front) ∙ ap (drop j) both ∙ drop_at xs (x ∷ []) j n)

-- ---- owners

owners-append : (xs ys : List Act) → owners_of (xs ++ ys) ≡ owners_of xs ++ owners_of ys
unfolding owners_of
owners-append [] ys = refl
owners-append (x ∷ xs) ys = ap (λ (l : List ℕ). owner_of x ∷ l) (owners-append xs ys)

owners-many : (xs : List Act) → length (owners_of xs) ≡ length xs
unfolding owners_of
owners-many [] = refl
owners-many (x ∷ xs) = ap suc (owners-many xs)

-- one row more
pub owners-snoc : (r : Row) (rs : List Row) → owners_of (acts_up (r ∷ rs) []) ≡ owners_of (acts_up rs []) ++ (owner_of r.act ∷ [])
unfolding acts_up owners_of
owners-snoc r rs = ap owners_of (acts-more rs (r.act ∷ [])) ∙ owners-append (acts_up rs []) (r.act ∷ [])

pub owners-rows : (rs : List Row) → length (owners_of (acts_up rs [])) ≡ length rs
owners-rows rs = owners-many (acts_up rs []) ∙ acts-length rs [] ∙ omega arith

-- the table of the rows passed, read at one of them
pub owner-back : (back : List Row) (i : ℕ) → owner_back back i ≡ get_or (owners_in back) i 0
unfolding owner_back owners_in
owner-back [] i = refl
owner-back (r ∷ rs) zero = refl
owner-back (r ∷ rs) (suc i) = owner-back rs i

-- ---- the lines of rows, both ways round

reverse_snoc : (xs : List (List ℕ)) (x : List ℕ) → reverse (xs ++ (x ∷ [])) ≡ x ∷ reverse xs
reverse_snoc xs x = go xs []
  where
    go : (xs ys : List (List ℕ)) → reverse_aux (xs ++ (x ∷ [])) ys ≡ x ∷ reverse_aux xs ys
    go [] ys = refl
    go (z ∷ xs) ys = go xs (z ∷ ys)

pub lines-given : (rs : List Row) → row_lines rs ≡ reverse (given rs)
unfolding row_lines given
lines-given [] = refl
lines-given (r ∷ rs) = ap (λ (l : List (List ℕ)). r.item.line ∷ l) (lines-given rs) ∙ sym (reverse_snoc (given rs) r.item.line)

pub lines-many : (rs : List Row) → length (row_lines rs) ≡ length rs
unfolding row_lines
lines-many [] = refl
lines-many (r ∷ rs) = ap suc (lines-many rs)
