use Rattle.std.proofs.Common.{ℕ, List, sym}
use Rattle.lines.specs.Lf.{lines_of}
use Rattle.temps.specs.Temps.{declared_in}
use Rattle.temps.proofs.TableLaws.{told}
use Rattle.temps.proofs.is_declared.Goals as goal

pub returns-in-Some : goal.returns-in-Some
returns-in-Some c = let a = c.args in told a.own.now (λ (x : List ℕ). declared_in x (lines_of a.text.now)) a.name.now a.declared.now _ (λ n q h. c.requires.1 a.name.now n c.requires.0.0 q h) _ c.requires.0.1 (sym c.in-Some.ensures)
