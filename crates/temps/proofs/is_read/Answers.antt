use Rattle.std.proofs.Common.{ℕ, List, sym}
use Rattle.lines.specs.Lf.{lines_of}
use Rattle.temps.specs.Temps.{temp_read}
use Rattle.temps.proofs.TableLaws.{told}
use Rattle.temps.proofs.is_read.Goals as goal

pub temp_read-requires : goal.temp_read-requires
temp_read-requires c = c.requires.0.0

pub returns-in-Some : goal.returns-in-Some
returns-in-Some c = let a = c.args in told a.own.now (λ (x : List ℕ). temp_read x (lines_of a.text.now)) a.name.now a.read.now _ (λ n q h. c.requires.1 a.name.now n c.requires.0.0 c.requires.0.1.1 q h) _ c.requires.0.1.0 (sym c.in-Some.ensures)
