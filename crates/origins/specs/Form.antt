-- Origin records as bytes: request 1's form, and that of request 8, by one statement over the width of a line number. Assumes nothing.
use Rattle.std.specs.Prelude.{ℕ, suc, ◌+◌, ◌-◌, ◌^◌, List, [], ◌∷◌, ◌++◌}
use Prim.Native.Char.{code}
use Rattle.lines.specs.Lf.{low_bytes}
use Rattle.origins.specs.declared.Went.{Went}
use Rattle.origins.specs.declared.Went.TheVariants.{Equal, Changed, Inside, Away}
use Rattle.origins.specs.declared.Form.{Form}
use Rattle.origins.specs.declared.Form.TheVariants as form

-- the shape of a form: how many bytes a line number has, and the second byte of the mark
pub record Shape : Type 0 where
  pub width : ℕ
  pub letter : ℕ

-- `OL` has 2 bytes for each line, `OM` 4
abbrev pub form_shape : Form → Shape
form_shape form.Ol = record { width = 2; letter = code "L" }
form_shape form.Om = record { width = 4; letter = code "M" }

-- the number that stands for a line that is gone: the largest that fits
abbrev pub gone_of : Shape → ℕ
gone_of F = 256 ^ F.width - 1

-- how long a record is: the mark, the input line, the fate, the output line
abbrev pub size_of : Shape → ℕ
size_of F = 2 + 1 + (F.width + F.width)

-- the fates: kept with equal bytes, kept with other bytes, its value taken into another line, gone
abbrev pub equal_fate : ℕ
equal_fate = 0

abbrev pub changed_fate : ℕ
changed_fate = 1

abbrev pub inside_fate : ℕ
inside_fate = 2

abbrev pub gone_fate : ℕ
gone_fate = 3

unfoldable pub fate_byte : Went → ℕ
fate_byte (Equal n) = equal_fate
fate_byte (Changed n) = changed_fate
fate_byte (Inside n) = inside_fate
fate_byte Away = gone_fate

-- the output line
unfoldable pub out_line : Shape → Went → ℕ
out_line F (Equal n) = n
out_line F (Changed n) = n
out_line F (Inside n) = n
out_line F Away = gone_of F

-- the record of input line i
unfoldable pub record_bytes : Shape → ℕ → Went → List ℕ
unfolding low_bytes fate_byte out_line
record_bytes F i w = code "O" ∷ F.letter ∷ low_bytes F.width i ++ (fate_byte w ∷ low_bytes F.width (out_line F w))

-- the records of lines, the first of which is line i
unfoldable pub records_from : Shape → ℕ → List Went → List ℕ
unfolding record_bytes
records_from F i [] = []
records_from F i (w ∷ ws) = record_bytes F i w ++ records_from F (suc i) ws

-- a file
unfoldable pub file_of : Shape → List Went → List ℕ
unfolding records_from
file_of F ws = records_from F 0 ws
