-- What an answer stores for the caller in C: a length and a place. Assumes nothing.
use Rattle.std.specs.Prelude.{ℕ}
use Rattle.po.specs.Answers.{Po, Strings}
use Rattle.po.specs.declared.PoRefusal.TheVariants as po
use Rattle.std.specs.declared.result.Result.TheVariants.{Ok, Err}
use Rattle.po.specs.declared.StringsRefusal.TheVariants as strings

-- the length of what was written, 0 where nothing was
unfoldable pub po_size : Po → ℕ
po_size (Ok n) = n
po_size (Err (po.BadName i)) = 0
po_size (Err (po.NotUtf8 i)) = 0
po_size (Err (po.OtherEscape i)) = 0
po_size (Err (po.Open i)) = 0
po_size (Err (po.Short n)) = 0

-- where the refusal is, or the length that is needed
unfoldable pub po_place : Po → ℕ
po_place (Ok n) = 0
po_place (Err (po.BadName i)) = i
po_place (Err (po.NotUtf8 i)) = i
po_place (Err (po.OtherEscape i)) = i
po_place (Err (po.Open i)) = i
po_place (Err (po.Short n)) = n

-- ---- the same of the reader's answers; a place is the number of a line, from 0

unfoldable pub strings_size : Strings → ℕ
strings_size (Ok n) = n
strings_size (Err (strings.BadLine n)) = 0
strings_size (Err (strings.Short n)) = 0

unfoldable pub strings_place : Strings → ℕ
strings_place (Ok n) = 0
strings_place (Err (strings.BadLine n)) = n
strings_place (Err (strings.Short n)) = n
