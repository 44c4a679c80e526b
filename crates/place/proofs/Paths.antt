-- `block_paths`: the innermost open block decides the path. Assumes nothing.
use Prim.Native.Nat.{ℕ, zero, suc, ◌≤◌, ◌<◌}
use mathlib.Core.Path.{◌≡◌, refl, sym, ap, ◌∙◌}
use mathlib.Core.Bool.{Bool, true, false, cond}
use mathlib.Core.List.{List, [], ◌∷◌, ◌++◌}
use native.Mathlib.Omega.{arith}
use borrow.Author.Tests.{eq-eqb, eqb-true, leb-true, leb-false}
use lib.ListN.{length, get_or, drop, replicate}
use lib.Seq.{drop-nil}
use lib.Dec.{eqb, leb}
use Rattle.lines.specs.Lf.{same, ends_in}
use Rattle.lines.proofs.Tests.{eqb-sym, no}
use Rattle.lines.proofs.Compare.{same-eq, same_refl}
use Rattle.text.specs.Trim.{trim_of}
use Rattle.place.specs.Blocks.{opens, closes, push, count, top}
use Rattle.place.specs.Paths.{path_closes, path_after, path_next, paths_go, block_paths, tops}
use Rattle.place.specs.Inner.Parents.{path_pre, path_open, path_post}
use Rattle.place.proofs.Stacks.{walk, tally, walk-append, tally-append, noted, noted-same, noted-length, given-first, tops-at, tops-length}

-- ---- the braces of a line do what the definition says

walk-closes : (k n : ℕ) (s : List ℕ) → walk (replicate k closes) n s ≡ drop k s
unfolding walk push count
walk-closes zero n s = refl
walk-closes (suc k) n [] = walk-closes k n [] ∙ drop-nil k
walk-closes (suc k) n (x ∷ s) = walk-closes k n s

tally-closes : (k n : ℕ) → tally (replicate k closes) n ≡ n
unfolding tally count
tally-closes zero n = refl
tally-closes (suc k) n = tally-closes k n

walk-open : (t : List ℕ) (n : ℕ) (s : List ℕ) → walk (path_open t) n s ≡ path_after t n s
unfolding walk path_open path_after push count
walk-open t n s = go (ends_in 123 t)
  where
    go : (b : Bool) → walk (cond b (opens ∷ []) []) n s ≡ cond b (n ∷ s) s
    go true = refl
    go false = refl

tally-open : (t : List ℕ) (n : ℕ) → tally (path_open t) n ≡ path_next t n
unfolding tally path_open path_next count
tally-open t n = go (ends_in 123 t)
  where
    go : (b : Bool) → tally (cond b (opens ∷ []) []) n ≡ cond b (suc n) n
    go true = refl
    go false = refl

module _ (l : List ℕ) (n : ℕ) (s : List ℕ) where
  pre-walk : walk (path_pre l) n s ≡ drop (path_closes (trim_of l)) s
  unfolding path_pre
  pre-walk = walk-closes (path_closes (trim_of l)) n s

  pre-tally : tally (path_pre l) n ≡ n
  unfolding path_pre
  pre-tally = tally-closes (path_closes (trim_of l)) n

  line_walk : walk (path_pre l ++ path_post l) n s ≡ path_after (trim_of l) n (drop (path_closes (trim_of l)) s)
  unfolding path_post
  line_walk =
      walk-append (path_pre l) (path_post l) n s
      ∙ ap (λ (m : ℕ). walk (path_post l) m (walk (path_pre l) n s)) pre-tally
      ∙ ap (walk (path_post l) n) pre-walk
      ∙ walk-open (trim_of l) n (drop (path_closes (trim_of l)) s)

  line-tally : tally (path_pre l ++ path_post l) n ≡ path_next (trim_of l) n
  unfolding path_post
  line-tally = tally-append (path_pre l) (path_post l) n ∙ ap (tally (path_post l)) pre-tally ∙ tally-open (trim_of l) n

-- the definition is the reading by `path_pre` and `path_post`
pub paths-noted : (ls : List (List ℕ)) (n : ℕ) (s : List ℕ) → paths_go ls n s ≡ noted path_pre path_post ls n s
unfolding paths_go noted
paths-noted [] n s = refl
paths-noted (l ∷ ls) n s =
    ap (λ (w : List ℕ). w ∷ paths_go ls (path_next (trim_of l) n) (path_after (trim_of l) n (drop (path_closes (trim_of l)) s))) (sym (pre-walk l n s))
    ∙ ap (λ (r : List (List ℕ)). walk (path_pre l) n s ∷ r)
    (paths-noted ls (path_next (trim_of l) n) (path_after (trim_of l) n (drop (path_closes (trim_of l)) s))
    ∙ ap (λ (k : ℕ). noted path_pre path_post ls k (path_after (trim_of l) n (drop (path_closes (trim_of l)) s))) (sym (line-tally l n s))
    ∙ ap (noted path_pre path_post ls (tally (path_pre l ++ path_post l) n)) (sym (line_walk l n s)))

pub length-paths : (ls : List (List ℕ)) → length (block_paths ls) ≡ length ls
unfolding block_paths
length-paths ls = ap length (paths-noted ls 1 []) ∙ noted-length path_pre path_post ls 1 []

pub length-tops : (ls : List (List ℕ)) → length (tops (block_paths ls)) ≡ length ls
length-tops ls = tops-length (block_paths ls) ∙ length-paths ls

-- ---- the path by its innermost block

-- the same innermost block, the same path
pub path-same : (ls : List (List ℕ)) (i j : ℕ) → i ≤ j → j < length ls →
    get_or (tops (block_paths ls)) j 0 ≡ get_or (tops (block_paths ls)) i 0 → get_or (block_paths ls) j [] ≡ get_or (block_paths ls) i []
unfolding block_paths
path-same ls i j p q e =
    let z = paths-noted ls 1 [] in
    ap (λ (r : List (List ℕ)). get_or r j []) z
    ∙ noted-same path_pre path_post ls i j given-first p q
    (ap (λ (r : List (List ℕ)). top (get_or r j [])) (sym z) ∙ sym (tops-at (paths_go ls 1 []) j) ∙ e
    ∙ tops-at (paths_go ls 1 []) i ∙ ap (λ (r : List (List ℕ)). top (get_or r i [])) z)
    ∙ ap (λ (r : List (List ℕ)). get_or r i []) (sym z)

same-sym : (a b : List ℕ) → same a b ≡ same b a
unfolding same
same-sym [] [] = refl
same-sym [] (y ∷ b) = refl
same-sym (x ∷ a) [] = refl
same-sym (x ∷ a) (y ∷ b) = rw (eqb-sym x y, same-sym a b)

paths-up : (ls : List (List ℕ)) (i j : ℕ) → i ≤ j → j < length ls →
    same (get_or (block_paths ls) i []) (get_or (block_paths ls) j []) ≡ eqb (get_or (tops (block_paths ls)) i 0) (get_or (tops (block_paths ls)) j 0)
paths-up ls i j p q = go (same a b) refl (eqb x y) refl
  where
    a : List ℕ
    a = get_or (block_paths ls) i []

    b : List ℕ
    b = get_or (block_paths ls) j []

    x : ℕ
    x = get_or (tops (block_paths ls)) i 0

    y : ℕ
    y = get_or (tops (block_paths ls)) j 0

    go : (u : Bool) → same a b ≡ u → (v : Bool) → eqb x y ≡ v → same a b ≡ eqb x y
    go true e true f = e ∙ sym f
    go true e false f =
        let z : eqb x y ≡ true = eq-eqb x y (tops-at (block_paths ls) i ∙ ap top (same-eq a b e) ∙ sym (tops-at (block_paths ls) j)) in
        no (sym f ∙ z)
    go false e true f =
        let w : a ≡ b = sym (path-same ls i j p q (sym (eqb-true x y f))) in
        let z : same a b ≡ true = ap (same a) (sym w) ∙ same_refl a in
        no (sym e ∙ z)
    go false e false f = e ∙ sym f

-- two paths are equal exactly where their entries in the table are
pub paths-same : (ls : List (List ℕ)) (i j : ℕ) → i < length ls → j < length ls →
    same (get_or (block_paths ls) i []) (get_or (block_paths ls) j []) ≡ eqb (get_or (tops (block_paths ls)) i 0) (get_or (tops (block_paths ls)) j 0)
paths-same ls i j p q = go (leb i j) refl
  where
    go : (t : Bool) → leb i j ≡ t →
        same (get_or (block_paths ls) i []) (get_or (block_paths ls) j []) ≡ eqb (get_or (tops (block_paths ls)) i 0) (get_or (tops (block_paths ls)) j 0)
    go true e = paths-up ls i j (leb-true i j e) q
    go false e =
        let h = leb-false i j e in
        same-sym (get_or (block_paths ls) i []) (get_or (block_paths ls) j []) ∙ paths-up ls j i (omega arith) p
        ∙ eqb-sym (get_or (tops (block_paths ls)) j 0) (get_or (tops (block_paths ls)) i 0)
