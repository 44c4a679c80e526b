-- What inner functions and laws ask beside Decls: no promise of an entry hangs on it. Assumes nothing.
use Rattle.std.specs.Prelude.{ℕ, Bool, false, List}
use Rattle.lines.specs.Lf.{unlines}
use Rattle.lines.specs.Acts.{act}
use Rattle.names.specs.Names.{reg_of}
use Rattle.std.specs.declared.option.Option.{Option}
use Rattle.names.specs.declared.Register.{Register}
use Rattle.std.specs.declared.option.Option.TheVariants.{Some, None}
use Rattle.reading.specs.Uses.{used_in}
use Rattle.decls.specs.Decls.{act_of}

-- some line of the region reads or stores the register that a name is
abbrev pub stays_by : List (List ℕ) → Option Register → Bool
stays_by run None = false
stays_by run (Some q) = used_in q.0 run

-- the same of a text that names it
abbrev pub stays : List (List ℕ) → List ℕ → Bool
stays run t = stays_by run (reg_of t)

-- what a line of the region is written as, with its LF
abbrev pub line_text : List (List ℕ) → List ℕ → List ℕ
line_text run l = unlines (act (act_of run l) l)
