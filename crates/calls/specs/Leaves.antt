-- What `rebuild_calls` asks of single lines, as a record: `parse`, `reads_in`, `replace_reg`, `occurrence_context` and the others. Assumes nothing.
use Rattle.std.specs.Prelude.{ℕ, Bool, List}

-- `parse`, as far as the pass looks: a store with its register and value, or not
pub data Parsed : Type 0 where
  store : ℕ → List ℕ → Parsed
  other : Parsed

-- `occurrence_context`: no single occurrence, one as a target, one as what `new` makes, or any other
pub data Context : Type 0 where
  unclear : Context
  target : Context
  newed : Context
  operand : Context

-- what is asked of lines, one field for each function of the Rust
pub record Leaves : Type 0 where
  pub call : List ℕ → Bool  -- lines[li].contains('(')
  pub control : List ℕ → Bool  -- is_control_header(line.trim_start())
  pub header : List ℕ → Bool  -- opens a region
  pub starts : List (List ℕ) → Bool  -- starts_statement, of the lines above, the nearest first
  pub parse : List ℕ → Parsed
  pub reads : ℕ → List ℕ → ℕ  -- reads_in(&parse(line)).get(&reg), 0 for none
  pub breaks : List ℕ → List ℕ → Bool  -- breaks_dependency, of a value and one absorbed line
  pub context : List ℕ → ℕ → Context  -- occurrence_context(line, reg)
  pub paren : List ℕ → Bool → List ℕ  -- paren_if_needed(rhs, after_new)
  pub replace : List ℕ → ℕ → List ℕ → List (List ℕ)  -- replace_reg(line, reg, text): the line that it makes, or none
  pub blocks : List (List ℕ) → List ℕ  -- block_ids, a number for each line
