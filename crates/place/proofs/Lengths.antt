-- Every table has as many entries as there are lines. Assumes nothing.
use Prim.Native.Nat.{ℕ}
use mathlib.Core.Path.{◌≡◌, ◌∙◌}
use mathlib.Core.Bool.{true}
use mathlib.Core.List.{List}
use lib.ListN.{length}
use Rattle.place.specs.Inner.Region.{regions}
use Rattle.place.specs.Blocks.{cleaned}
use Rattle.place.specs.Inner.Blocks.{block_ids}
use Rattle.place.specs.Paths.{block_paths, tops}
use Rattle.place.specs.Loops.{inside_loop}
use Rattle.place.specs.Starts.{starts_go}
use Rattle.place.specs.Inner.Fill.{flags_of}
use Rattle.place.proofs.Numbers.{length-regions}
use Rattle.place.proofs.Blocks.{length_ids, cleaned-length}
use Rattle.place.proofs.Paths.{length-tops}
use Rattle.place.proofs.Nests.{length-loops}
use Rattle.place.proofs.Starts.{length-starts}
use Rattle.place.proofs.Fills.{flags-length}

pub record Lengths (ls : List (List ℕ)) : Type 0 where
  pub by-region : length (regions ls) ≡ length ls
  pub by-block : length (block_ids ls) ≡ length ls
  pub by-path : length (tops (block_paths ls)) ≡ length ls
  pub by_loop : length (flags_of (inside_loop ls)) ≡ length ls
  pub by-start : length (flags_of (starts_go (cleaned ls) true)) ≡ length ls

pub lengths : (ls : List (List ℕ)) → Lengths ls
unfolding regions
lengths ls = record {
  by-region = length-regions ls 0;
  by-block = length_ids ls;
  by-path = length-tops ls;
  by_loop = flags-length (inside_loop ls) ∙ length-loops ls;
  by-start = flags-length (starts_go (cleaned ls) true) ∙ length-starts (cleaned ls) true ∙ cleaned-length ls;
}
