-- The columns of the records: the regions are those of `regions`, and the blocks those of the table. Assumes nothing.
use Prim.Native.Nat.{ℕ, suc, ◌+◌, ◌≤◌}
use mathlib.Core.Path.{◌≡◌, refl, ap}
use mathlib.Core.Bool.{cond}
use mathlib.Core.List.{List, [], ◌∷◌}
use native.Mathlib.Omega.{arith}
use lib.ListN.{length, take}
use Rattle.place.specs.Region.{is_header}
use Rattle.place.specs.Inner.Region.{regions_go, regions}
use Rattle.records.specs.declared.LineRec.{LineRec}
use Rattle.records.specs.Inner.Records.{records_go, records_of}

-- the region of each record
pub regions_in : List LineRec → List ℕ
regions_in [] = []
regions_in (r ∷ rs) = r.region.0 ∷ regions_in rs

-- and its block
pub blocks_in : List LineRec → List ℕ
blocks_in [] = []
blocks_in (r ∷ rs) = r.block ∷ blocks_in rs

regions-go : (ls : List (List ℕ)) (bs : List ℕ) (i c : ℕ) → length ls ≤ length bs → regions_in (records_go ls bs i c) ≡ regions_go ls c
unfolding regions_in records_go regions_go
regions-go [] bs i c h = refl
regions-go (l ∷ ls) [] i c h = absurd (omega (arith, h))
regions-go (l ∷ ls) (b ∷ bs) i c h = ap (λ (r : List ℕ). cond (is_header l) (suc c) c ∷ r) (regions-go ls bs (suc (i + length l)) (cond (is_header l) (suc c) c) (omega (arith, h)))

pub records-regions : (ls : List (List ℕ)) (bs : List ℕ) → length ls ≤ length bs → regions_in (records_of ls bs) ≡ regions ls
unfolding records_of regions
records-regions ls bs h = regions-go ls bs 0 0 h

blocks-go : (ls : List (List ℕ)) (bs : List ℕ) (i c : ℕ) → length ls ≤ length bs → blocks_in (records_go ls bs i c) ≡ take (length ls) bs
unfolding blocks_in records_go
blocks-go [] bs i c h = refl
blocks-go (l ∷ ls) [] i c h = absurd (omega (arith, h))
blocks-go (l ∷ ls) (b ∷ bs) i c h = ap (λ (r : List ℕ). b ∷ r) (blocks-go ls bs (suc (i + length l)) (cond (is_header l) (suc c) c) (omega (arith, h)))

pub records-blocks : (ls : List (List ℕ)) (bs : List ℕ) → length ls ≤ length bs → blocks_in (records_of ls bs) ≡ take (length ls) bs
unfolding records_of
records-blocks ls bs h = blocks-go ls bs 0 0 h
