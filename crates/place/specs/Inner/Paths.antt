-- What inner functions and laws ask beside Paths: no promise of an entry hangs on it. Assumes nothing.
use Rattle.std.specs.Prelude.{ℕ, ◌-◌, Bool, not, ◌&&◌, List, length, get_or, eqb, ltb}
use Prim.Native.Char.{code}
use Rattle.text.specs.Trim.{from_of}

-- ---- lines that plainly neither close a block nor open one

-- an ASCII byte above the space other than `{`
abbrev pub flat_end : ℕ → Bool
flat_end c = ltb (code " ") c && (ltb c 0x80 && not (eqb c (code "{")))

-- a line that ends in such a byte, and whose first byte after its indent is not `}`
unfoldable pub is_flat : List ℕ → Bool
is_flat l = flat_end (get_or l (length l - 1) 0) && not (eqb (get_or l (from_of l) 0) (code "}"))
