-- The room that every pass has: how large a text between two passes is, and the work buffers. Assumes nothing.
use Rattle.std.specs.Prelude.{ℕ, ◌≤◌, ◌<◌, ◌^◌, ◌≡◌, List, length}
use Prim.Native.Char.{code}
use Rattle.lines.specs.Lf.{lines_of, unlines, count_of}
use Rattle.weight.specs.Inner.Weight.{weight}
use Rattle.limits.specs.declared.Limits.{Limits}
use Rattle.limits.specs.Entry.{byte_size, block_size}
use Rattle.limits.specs.Inner.Sane.{Sane}

-- the lines of a text are within the bounds of the work buffers: in weight, in number, and in the blocks that they can open
pub record Bounded (L : Limits) (s : List ℕ) : Type 0 where
  pub sane : Sane L
  pub heavy : weight 0 (unlines (lines_of s)) ≤ byte_size L
  pub lines : length (lines_of s) ≤ L.lines
  pub braces : count_of (code "{") s ≤ block_size L

-- the work buffers have their stated sizes at least, and the places of u have numbers of 32 bits
pub record Sized (L : Limits) (b c d e u : List ℕ) : Type 0 where
  pub b-size : byte_size L ≤ length b
  pub c-size : byte_size L ≤ length c
  pub d-size : byte_size L ≤ length d
  pub e-size : byte_size L ≤ length e
  pub u-size : block_size L ≤ length u
  pub u-narrow : length u < 2 ^ 32

-- the tables that have an entry for each line, and the three over registers that are of one length
pub record Tabled (L : Limits) (f g v w x p q r t : List ℕ) : Type 0 where
  pub f-lines : L.lines ≤ length f
  pub g-lines : L.lines ≤ length g
  pub p-lines : L.lines ≤ length p
  pub q-lines : L.lines ≤ length q
  pub r-lines : L.lines ≤ length r
  pub t-lines : L.lines ≤ length t
  pub w-as-v : length w ≡ length v
  pub w-as-x : length w ≡ length x
