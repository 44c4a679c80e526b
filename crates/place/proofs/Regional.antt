-- A pass that looks at nothing but the region of a line, and asks of blocks only which lines share the line's own, may be cut above a header.
-- Assumes nothing.
use Prim.Native.Nat.{ℕ, zero, suc, ◌≤◌, ◌<◌}
use mathlib.Core.Path.{◌≡◌, refl, ap, ◌∙◌}
use mathlib.Core.Bool.{Bool, true, false, cond}
use mathlib.Core.List.{List, [], ◌∷◌, ◌++◌}
use native.Mathlib.Omega.{arith}
use lib.ListN.{length, take}
use lib.Seq.{take-append-le}
use lib.Dec.{eqb}
use Rattle.place.specs.Region.{is_header, until_header}
use Rattle.place.specs.Blocks.{blocks}
use Rattle.place.specs.Inner.Blocks.{own}
use Rattle.place.proofs.Blocks.{blocks-cut, rename, renamed, block_below, next_below, below-lt, same-renamed, length-blocks}

-- which lines share the block b
unfoldable pub same_as : ℕ → List ℕ → List Bool
same_as b [] = []
same_as b (x ∷ xs) = eqb b x ∷ same_as b xs

module _ (t d : ℕ) (h : t < d) where
  pub same-as : (b : ℕ) (xs : List ℕ) → same_as (rename t d b) (renamed t d xs) ≡ same_as b xs
  unfolding same_as renamed
  same-as b [] = refl
  same-as b (x ∷ xs) = rw (same-renamed t d b x h, same-as b xs)

renamed-take : (t d n : ℕ) (xs : List ℕ) → take n (renamed t d xs) ≡ renamed t d (take n xs)
unfolding renamed
renamed-take t d zero xs = refl
renamed-take t d (suc n) [] = refl
renamed-take t d (suc n) (x ∷ xs) = ap (λ (r : List ℕ). rename t d x ∷ r) (renamed-take t d n xs)

renamed-cond : (t d : ℕ) (b : Bool) (xs : List ℕ) → cond b [] (renamed t d xs) ≡ renamed t d (cond b [] xs)
unfolding renamed
renamed-cond t d true xs = refl
renamed-cond t d false xs = refl

-- ---- rows are whatever a pass goes over: a line, or a line with what was made of it; `head` says which rows open a region

module _ {R : Type 0} (head : R → Bool) where
  -- the rows above the first header
  unfoldable pub until : List R → List R
  until [] = []
  until (l ∷ ls) = cond (head l) [] (l ∷ until ls)

  pub until-le : (ls : List R) → length (until ls) ≤ length ls
  unfolding until
  until-le [] = omega arith
  until-le (l ∷ ls) = go (head l) (until-le ls)
    where
      go : (b : Bool) → length (until ls) ≤ length ls → length (cond b [] (l ∷ until ls)) ≤ suc (length ls)
      go true h = omega arith
      go false h = omega arith

  pub until-above : (h : R) (t : List R) → head h ≡ true → (u : List R) → until (u ++ h ∷ t) ≡ until u
  unfolding until
  until-above h t e [] = rw e
  until-above h t e (l ∷ u) = rw (until-above h t e u)

-- for lines these are the lines above the first header
pub until-header : (ls : List (List ℕ)) → until is_header ls ≡ until_header ls
unfolding until until_header
until-header [] = refl
until-header (l ∷ ls) = ap (λ (r : List (List ℕ)). cond (is_header l) [] (l ∷ r)) (until-header ls)

-- decide: the state, which a header resets; the rows above in the region, nearest first, and which share the block; those below, and which share it; the row
module _ {R A S : Type 0} (head : R → Bool) (s₀ : S) (decide : S → List R → List Bool → List R → List Bool → R → A × S) where
  unfoldable pub here : R → List R → ℕ → List ℕ → S → List R → List ℕ → A × S
  here l ls b bs st us vs =
      decide (cond (head l) s₀ st) (cond (head l) [] us) (same_as b (cond (head l) [] vs)) (until head ls) (same_as b (take (length (until head ls)) bs)) l

  -- us and vs: the rows above in the region, and their blocks
  unfoldable pub go_acts : List R → List ℕ → S → List R → List ℕ → List A
  go_acts [] bs st us vs = []
  go_acts (l ∷ ls) [] st us vs = []
  go_acts (l ∷ ls) (b ∷ bs) st us vs = (here l ls b bs st us vs).0 ∷ go_acts ls bs (here l ls b bs st us vs).1 (l ∷ cond (head l) [] us) (b ∷ cond (head l) [] vs)

  module _ (t d : ℕ) (h : t < d) where
    here-renamed : (l : R) (ls : List R) (b : ℕ) (bs : List ℕ) (st : S) (us : List R) (vs : List ℕ) →
        here l ls (rename t d b) (renamed t d bs) st us (renamed t d vs) ≡ here l ls b bs st us vs
    unfolding here
    here-renamed l ls b bs st us vs =
        rw (renamed-cond t d (head l) vs, renamed-take t d (length (until head ls)) bs, same-as t d h b (cond (head l) [] vs), same-as t d h b (take (length (until head ls)) bs))

    go-renamed : (ls : List R) (bs : List ℕ) (st : S) (us : List R) (vs : List ℕ) → go_acts ls (renamed t d bs) st us (renamed t d vs) ≡ go_acts ls bs st us vs
    unfolding go_acts renamed
    go-renamed [] bs st us vs = refl
    go-renamed (l ∷ ls) [] st us vs = refl
    go-renamed (l ∷ ls) (b ∷ bs) st us vs =
        rw (here-renamed l ls b bs st us vs, renamed-cond t d (head l) vs)
        (ap (λ (r : List A). (here l ls b bs st us vs).0 ∷ r) (go-renamed ls bs (here l ls b bs st us vs).1 (l ∷ cond (head l) [] us) (b ∷ cond (head l) [] vs)))

  module _ (h : R) (t : List R) (e : head h ≡ true) where
    here-header : (b : ℕ) (bs : List ℕ) (st : S) (us : List R) (vs : List ℕ) → here h t b bs st us vs ≡ here h t b bs s₀ [] []
    unfolding here
    here-header b bs st us vs = rw e

    go-header : (bs : List ℕ) (st : S) (us : List R) (vs : List ℕ) → go_acts (h ∷ t) bs st us vs ≡ go_acts (h ∷ t) bs s₀ [] []
    unfolding go_acts
    go-header [] st us vs = refl
    go-header (b ∷ bs) st us vs = rw (here-header b bs st us vs, e)

    here-upper : (l : R) (u : List R) (b : ℕ) (bu bt : List ℕ) (st : S) (us : List R) (vs : List ℕ) → length bu ≡ length u →
        here l (u ++ h ∷ t) b (bu ++ bt) st us vs ≡ here l u b bu st us vs
    unfolding here
    here-upper l u b bu bt st us vs q =
        let n : length (until head u) ≤ length bu = omega (arith, until-le head u) in
        rw (until-above head h t e u, take-append-le (length (until head u)) bu bt n)

    go-upper : (u : List R) (bu bt : List ℕ) (st : S) (us : List R) (vs : List ℕ) → length bu ≡ length u →
        go_acts (u ++ h ∷ t) (bu ++ bt) st us vs ≡ go_acts u bu st us vs ++ go_acts (h ∷ t) bt s₀ [] []
    unfolding go_acts
    go-upper [] [] bt st us vs q = go-header bt st us vs
    go-upper [] (b ∷ bu) bt st us vs q = absurd (omega arith)
    go-upper (l ∷ u) [] bt st us vs q = absurd (omega arith)
    go-upper (l ∷ u) (b ∷ bu) bt st us vs q =
        rw (here-upper l u b bu bt st us vs (omega arith))
        (ap (λ (r : List A). (here l u b bu st us vs).0 ∷ r) (go-upper u bu bt (here l u b bu st us vs).1 (l ∷ cond (head l) [] us) (b ∷ cond (head l) [] vs) (omega arith)))

  -- cs: the cleaned lines, whatever cleaned them, one for each row
  unfoldable pub regional : List R → List (List ℕ) → List A
  regional ls cs = go_acts ls (blocks cs) s₀ [] []

  go-length : (ls : List R) (bs : List ℕ) (st : S) (us : List R) (vs : List ℕ) → length bs ≡ length ls → length (go_acts ls bs st us vs) ≡ length ls
  unfolding go_acts
  go-length [] bs st us vs e = refl
  go-length (l ∷ ls) [] st us vs e = absurd (omega arith)
  go-length (l ∷ ls) (b ∷ bs) st us vs e = ap suc (go-length ls bs (here l ls b bs st us vs).1 (l ∷ cond (head l) [] us) (b ∷ cond (head l) [] vs) (omega arith))

  pub regional-length : (ls : List R) (cs : List (List ℕ)) → length cs ≡ length ls → length (regional ls cs) ≡ length ls
  unfolding regional
  regional-length ls cs q = go-length ls (blocks cs) s₀ [] [] (length-blocks cs ∙ q)

  -- it may be cut above a header, where the tail closes no brace that it did not open
  pub regional-cut : (u : List R) (h : R) (t : List R) (cu ct : List (List ℕ)) → head h ≡ true → length cu ≡ length u → own ct ≡ true →
      regional (u ++ h ∷ t) (cu ++ ct) ≡ regional u cu ++ regional (h ∷ t) ct
  unfolding regional renamed
  regional-cut u h t cu ct e q o =
      ap (λ (r : List ℕ). go_acts (u ++ h ∷ t) r s₀ [] []) (blocks-cut cu ct o)
      ∙ go-upper h t e u (blocks cu) (renamed (block_below cu) (next_below cu) (blocks ct)) s₀ [] [] (length-blocks cu ∙ q)
      ∙ ap (λ (r : List A). go_acts u (blocks cu) s₀ [] [] ++ r) (last (block_below cu) (next_below cu) (below-lt cu))
    where
      last : (k d : ℕ) → k < d → go_acts (h ∷ t) (renamed k d (blocks ct)) s₀ [] [] ≡ go_acts (h ∷ t) (blocks ct) s₀ [] []
      last k d p = go-renamed k d p (h ∷ t) (blocks ct) s₀ [] []
