-- What the entries answer, and what stands in the lent buffers afterwards. Assumes nothing.
use Rattle.std.specs.Prelude.{ℕ, ◌+◌, ◌*◌, Bool, false, cond, ◌||◌, List, ◌++◌, ltb, length, drop, replicate}
use Prim.Native.Char.{code}
use Rattle.std.specs.declared.option.Option.{Option}
use Rattle.std.specs.declared.option.Option.TheVariants.{Some, None}
use Rattle.lines.specs.Lf.{within}
use Rattle.lines.specs.Steps.{split_lines, over_from}
use Rattle.text.specs.Utf8Form.{Utf8, utf8_of}
use Rattle.std.specs.declared.result.Result.TheVariants.{Ok, Err}
use Rattle.origins.specs.declared.Form.{Form}
use Rattle.origins.specs.declared.Form.TheVariants as form
use Rattle.origins.specs.Form.{form_shape, size_of}
use Rattle.flaws.specs.declared.Flaw as flaw
use Rattle.flaws.specs.declared.Flaw.TheVariants as flaw-is
use Rattle.flaws.specs.Flaws.{flaw_of}
use Rattle.limits.specs.declared.Limits.{Limits}
use Rattle.limits.specs.declared.Refusal.TheVariants.{BadPass, TooLong, ShortWork, NotUtf8, TooManyLines, Crowded, ShortResult, Cut, Overlong, Outside, BadMode, ShortRecords, WideLines}
use Rattle.limits.specs.Answer.{Answer, passes_ran, is_done}

-- the most bytes and the most lines of a text that `optimize` and `run_pass` take
abbrev pub small : Limits
small = record { bytes = 16384; lines = 1024 }

-- and those of `optimize_large` and `run_pass_large`
abbrev pub large : Limits
large = record { bytes = 1048576; lines = 100000 }

-- the stated size of each of the five work buffers of bytes, and of the one of numbers
abbrev pub byte_size : Limits → ℕ
byte_size L = 2 * L.bytes + 1

abbrev pub block_size : Limits → ℕ
block_size L = L.bytes

-- the stated sizes of the tables that the second pair is lent beside these: one entry a line, two notes a line, an entry for each number below 131,072 and for
-- each of so many owners, which are the numbers from there on that have one, and these owners
abbrev pub line_size : Limits → ℕ
line_size L = L.lines

abbrev pub note_size : Limits → ℕ
note_size L = 2 * L.lines

abbrev pub owners : ℕ
owners = 131071

abbrev pub places : ℕ
places = 131072 + owners

-- there are so many modes, with the numbers from 0 on: plain, strict, joined, and both
abbrev pub modes : ℕ
modes = 4

-- a lent work buffer is shorter than its stated size: the lengths of the six
abbrev pub is_short : Limits → ℕ → ℕ → ℕ → ℕ → ℕ → ℕ → Bool
is_short L a b c d e u =
    ltb a (byte_size L) || (ltb b (byte_size L) || (ltb c (byte_size L) || (ltb d (byte_size L) || (ltb e (byte_size L) || ltb u (block_size L)))))

-- and one of the twelve tables
abbrev pub tables_short : Limits → ℕ → ℕ → ℕ → ℕ → ℕ → ℕ → ℕ → ℕ → ℕ → ℕ → ℕ → ℕ → Bool
tables_short L f g h v w x p q r t own table =
    ltb f places || (ltb g places || (ltb h (line_size L) || (ltb v (note_size L) || (ltb w (note_size L) || (ltb x (note_size L)
    || (ltb p (line_size L) || (ltb q (line_size L) || (ltb r places || (ltb t places || (ltb own owners || ltb table (line_size L)))))))))))

-- ---- the checks, in their order; `fine` where none refuses

-- what is wrong where the first bad sequence begins, at the place i
abbrev pub by_flaw : flaw.Flaw → ℕ → Answer
by_flaw flaw-is.Other i = Err (NotUtf8 i)
by_flaw flaw-is.Cut i = Err (Cut i)
by_flaw flaw-is.Overlong i = Err (Overlong i)
by_flaw flaw-is.Outside i = Err (Outside i)

abbrev pub by_utf8 : Utf8 → List ℕ → Answer → Answer
by_utf8 (Ok tt) t fine = fine
by_utf8 (Err i) t fine = by_flaw (flaw_of (drop i t)) i

abbrev pub by_crowd : Option ℕ → Answer → Answer
by_crowd None fine = fine
by_crowd (Some n) fine = Err (Crowded n)

-- a form of records has no numbers for so many lines: `OL` has those of 2 bytes, and 65,535 stands for gone; no text has too many for `OM`
abbrev pub is_wide : Form → ℕ → Bool
is_wide form.Ol n = ltb 65535 n
is_wide form.Om n = false

-- by its lines
unfoldable pub checked_lines : Limits → Form → List ℕ → Answer → Answer
checked_lines L F t fine =
    cond (ltb L.lines (length (split_lines t))) (Err (TooManyLines L.lines))
    (cond (is_wide F (length (split_lines t))) (Err WideLines)
    (by_crowd (over_from 64 (code "[") 0 (split_lines t)) fine))

unfoldable pub checked : Limits → Form → Bool → List ℕ → Answer → Answer
unfolding checked_lines
checked L F short t fine =
    cond (ltb L.bytes (length t)) (Err (TooLong L.bytes))
    (cond short (Err ShortWork)
    (by_utf8 (utf8_of t) t (checked_lines L F t fine)))

-- how many bytes the records of a text take in a form: those of a record for each line
abbrev pub records_need : Form → List ℕ → ℕ
records_need F t = size_of (form_shape F) * length (split_lines t)

-- the result is n bytes long, and the result buffer `room`; the records take `need` bytes, and their buffer has `have`
abbrev pub roomed : ℕ → ℕ → ℕ → ℕ → Answer
roomed n room need have = cond (ltb room n) (Err (ShortResult n)) (cond (ltb have need) (Err (ShortRecords need)) (Ok n))

-- F: the form of the records; `short`: whether a work buffer is too short; t: the text; result: what it becomes; room, have: the lengths of the result buffer
-- and of that for records
unfoldable pub answer_of : Limits → Form → Bool → List ℕ → List ℕ → ℕ → ℕ → Answer
unfolding checked
answer_of L F short t result room have = checked L F short t (roomed (length result) room (records_need F t) have)

-- by its mode: what follows where there is such a one
abbrev pub in_mode : ℕ → Answer → Answer
in_mode mode follows = cond (ltb mode modes) follows (Err BadMode)

-- of the entry for all passes
unfoldable pub whole_answer : Limits → Form → ℕ → Bool → List ℕ → List ℕ → ℕ → ℕ → Answer
unfolding answer_of
whole_answer L F mode short t result room have = in_mode mode (answer_of L F short t result room have)

-- and of the one for one pass
unfoldable pub pass_answer : Limits → Form → ℕ → ℕ → Bool → List ℕ → List ℕ → ℕ → ℕ → Answer
unfolding whole_answer
pass_answer L F k mode short t result room have = cond (within 1 6 k) (whole_answer L F mode short t result room have) (Err BadPass)

-- ---- memory

unfoldable pub blank : ℕ → List ℕ
blank n = replicate n 0

-- a work buffer d whose first n places are used: these are 0 where the passes ran, and the rest is as it was
unfoldable pub work_after : Answer → ℕ → List ℕ → List ℕ
unfolding passes_ran blank
work_after r n d = cond (passes_ran r) (blank n ++ drop n d) d

-- the result buffer d: the result at its front where it was written, and the rest is as it was; the records in their buffer likewise
unfoldable pub out_after : Answer → List ℕ → List ℕ → List ℕ
unfolding is_done
out_after r result d = cond (is_done r) (result ++ drop (length result) d) d
