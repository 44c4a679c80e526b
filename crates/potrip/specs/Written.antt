-- What the writer can write, with other translations. Assumes nothing.
use Rattle.std.specs.Prelude.{ℕ, ◌^◌, ◌<◌, ◌≡◌, List, [], ◌∷◌, ◌++◌, length}
use Rattle.lines.specs.Lf.{lines_of, unlines}
use Rattle.text.specs.Utf8Form.{utf8_of}
use Rattle.std.specs.declared.result.Result.TheVariants.{Ok, Err}
use Rattle.po.specs.declared.PoRefusal.TheVariants as po
use Rattle.po.specs.declared.StringsRefusal.TheVariants as strings
use Rattle.po.specs.Found.{Entry, entries}
use Rattle.po.specs.Form.{head_lines, entry_lines}
use Rattle.po.specs.Answers.{po_text, po_answer, read_answer}

-- an entry and its translation
pub record Message : Type 0 where
  pub entry : Entry
  pub str : List ℕ

abbrev pub entries_of : List Message → List Entry
entries_of [] = []
entries_of (r ∷ rs) = r.entry ∷ entries_of rs

-- every translation is UTF-8
pub data Translated : List Message → Type 0 where
  no-string : Translated []
  string-on : {r : Message} {rs : List Message} → utf8_of r.str ≡ Ok tt → Translated rs → Translated (r ∷ rs)

-- the lines of entries, with their translations
abbrev pub message_lines : List ℕ → List Message → List (List ℕ)
message_lines name [] = []
message_lines name (r ∷ rs) = entry_lines name r.entry r.str ++ message_lines name rs

-- the literals and the translations of messages, the last first, in front of others
abbrev pub ids_on : List Message → List (List ℕ) → List (List ℕ)
ids_on [] ids = ids
ids_on (r ∷ rs) ids = ids_on rs (r.entry.text ∷ ids)

abbrev pub strs_on : List Message → List (List ℕ) → List (List ℕ)
strs_on [] strs = strs
strs_on (r ∷ rs) strs = strs_on rs (r.str ∷ strs)

-- a file that `write_po` writes of a listing, under a name, but for its msgstrs, which are any texts in UTF-8. The listing is one that is not
-- refused, and its lines have numbers of 64 bits
pub record Written (file : List ℕ) : Type 0 where
  pub name : List ℕ
  pub listing : List ℕ
  pub done : po_answer name listing (length (po_text name listing)) ≡ Ok (length (po_text name listing))
  pub few : length (lines_of listing) < 2 ^ 64
  pub rows : List Message
  pub same_entries : entries_of rows ≡ entries listing
  pub translated : Translated rows
  pub bytes : file ≡ unlines (head_lines ++ message_lines name rows)

-- `read_po` refuses no line of a file
abbrev pub Taken : List ℕ → ℕ → Type 0
Taken file room = (n : ℕ) → read_answer file room ≡ Err (strings.BadLine n) → ⊥
