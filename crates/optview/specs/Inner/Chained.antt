-- The raw lines that an iterator over a chain has still to give. Assumes nothing.
use Rattle.std.specs.Prelude.{ℕ, List}
use Rattle.reader.specs.Chains.{along}
use Rattle.optview.specs.declared.chain.Chain.{Chain}

abbrev pub lines_left : Chain → List ℕ
lines_left c = along c.end c.next.now c.left c.at
