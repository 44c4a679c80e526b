-- What `rebuild_calls` asks of lines, by any reading: `parse`, `reads_in`, `replace_reg`, `occurrence_context`, `paren_if_needed`,
-- `breaks_dependency`, `is_control_header`, `starts_statement`, `block_ids`. Assumes nothing.
use Rattle.std.specs.Prelude.{ℕ, Bool, cond, List, reverse}
use Rattle.lines.specs.Ascii.{ascii}
use Rattle.lines.specs.Lf.{part, holds}
use Rattle.text.specs.Trim.{trim_start}
use Rattle.parse.specs.Parse.{parse_of}
use Rattle.parse.specs.declared.Line.{Line}
use Rattle.parse.specs.declared.Line.TheVariants as line
use Rattle.std.specs.declared.option.Option.{Option}
use Rattle.text.specs.declared.Span.{Span}
use Rattle.std.specs.declared.option.Option.TheVariants.{Some, None}
use Rattle.words.specs.Hits.{reg_hit, after_new, as_target, replace_reg}
use Rattle.place.specs.Region.{is_header}
use Rattle.place.specs.Blocks.{blocks}
use Rattle.place.specs.Starts.{starts_above}
use Rattle.forms.specs.Control.{is_control}
use Rattle.forms.specs.Primary.{paren_if_needed}
use Rattle.forms.specs.Breaks.{breaks}
use Rattle.reading.specs.Reading.{Reading}
use Rattle.reading.specs.Uses.{line_reads}
use Rattle.calls.specs.Leaves.{Leaves, Parsed, store, other, Context, unclear, target, newed, operand}

-- a line that was read, as far as the pass looks
abbrev pub parsed_by : List ℕ → Line → Parsed
parsed_by l line.Decl = other
parsed_by l (line.Store s) = store s.reg.0 (part s.from s.to l)
parsed_by l line.Other = other

-- `parse`
unfoldable pub parsed_of : List ℕ → Parsed
parsed_of l = parsed_by l (parse_of l)

-- what stands around the one place of a register
abbrev pub context_by : List ℕ → Option Span → Context
context_by l None = unclear
context_by l (Some w) = cond (as_target w.to l) target (cond (after_new w.from l) newed operand)

-- `occurrence_context`
unfoldable pub context_of : List ℕ → ℕ → Context
context_of l v = context_by l (reg_hit v l)

-- `lines[li].contains('(')`
unfoldable pub is_call : List ℕ → Bool
is_call l = holds (ascii "(") l

-- `is_control_header` of a line without the white space at its front
unfoldable pub is_control_line : List ℕ → Bool
is_control_line l = is_control (trim_start l)

-- `starts_statement` of a line, given the lines above it, the nearest first: they are cleaned as they stand in the text
unfoldable pub starts_below : Reading → List (List ℕ) → Bool
starts_below R above = starts_above (reverse (R.clean (reverse above)))

-- `block_ids`
unfoldable pub blocks_by : Reading → List (List ℕ) → List ℕ
blocks_by R ls = blocks (R.clean ls)

-- the leaves by what tells whether a line starts a statement, given the lines above it, and the blocks
abbrev pub leaves_by : (List (List ℕ) → Bool) → (List (List ℕ) → List ℕ) → Leaves
leaves_by starts blocks =
    record {
      call = is_call;
      control = is_control_line;
      header = is_header;
      starts = starts;
      parse = parsed_of;
      reads = line_reads;
      breaks = breaks;
      context = context_of;
      paren = paren_if_needed;
      replace = λ (l : List ℕ) (v : ℕ) (rep : List ℕ). replace_reg v l rep;
      blocks = blocks;
    }

-- the leaves by a reading; the purity of values is not asked
abbrev pub leaves_of : Reading → Leaves
leaves_of R = leaves_by (starts_below R) (blocks_by R)
