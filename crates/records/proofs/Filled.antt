-- The tables that `place::place_lines` fills, of joined lines or not. Assumes nothing.
use Prim.Native.Nat.{ℕ}
use mathlib.Core.Path.{◌≡◌, refl, ◌∙◌, subst}
use mathlib.Core.Bool.{Bool, true, false}
use mathlib.Core.List.{List}
use lib.ListN.{length}
use Rattle.lines.specs.Lf.{lines_of}
use Rattle.lexical.specs.declared.Open.TheVariants.{Nothing}
use Rattle.lexical.specs.Joined.{rests_in}
use Rattle.lexical.proofs.JoinedLaws.{rests-length}
use Rattle.place.specs.Blocks.{cleaned}
use Rattle.place.specs.Inner.Blocks.{block_ids}
use Rattle.place.specs.Starts.{starts_go}
use Rattle.place.specs.Inner.Fill.{Filled, flags_of}
use Rattle.place.specs.Inner.Parents.{ids_parents}
use Rattle.place.proofs.Lengths.{lengths}

-- blocks, starts of statements, and the block around each block
abbrev pub FilledBy : Bool → (t b₀ b s₀ s u₀ u : List ℕ) → ℕ → Type 0
FilledBy joined t b₀ b s₀ s u₀ u r =
    Filled b₀ (block_ids (rests_in joined (lines_of t))) b r
    × (Filled s₀ (flags_of (starts_go (cleaned (rests_in joined (lines_of t))) true)) s r
    × Filled u₀ (ids_parents (rests_in joined (lines_of t))) u (length (ids_parents (rests_in joined (lines_of t)))))

-- by a test that is the same
pub filled-by : {j k : Bool} → j ≡ k → (t : List ℕ) {b₀ b s₀ s u₀ u : List ℕ} {r : ℕ} → FilledBy j t b₀ b s₀ s u₀ u r → FilledBy k t b₀ b s₀ s u₀ u r
filled-by e t {b₀} {b} {s₀} {s} {u₀} {u} {r} f = subst (λ (x : Bool). FilledBy x t b₀ b s₀ s u₀ u r) e f

-- each has as many entries as there are lines
module _ (joined : Bool) (ls : List (List ℕ)) where
  pub rest-count : length (rests_in joined ls) ≡ length ls
  rest-count = go joined
    where
      go : (b : Bool) → length (rests_in b ls) ≡ length ls
      go true = rests-length Nothing ls
      go false = refl

  pub block-count : length (block_ids (rests_in joined ls)) ≡ length ls
  block-count = (lengths (rests_in joined ls)).by-block ∙ rest-count

  pub start-count : length (flags_of (starts_go (cleaned (rests_in joined ls)) true)) ≡ length ls
  start-count = (lengths (rests_in joined ls)).by-start ∙ rest-count
