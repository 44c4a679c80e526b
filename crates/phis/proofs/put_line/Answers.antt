use native.Mathlib.Omega.{arith}
use mathlib.Core.Path.{refl, sym, ap}
use lib.ListN.{length}
use Rattle.lines.specs.Lf.{lines_of}
use Rattle.lines.proofs.Tests.{so}
use Rattle.lines.proofs.OutLaws.{wrote_as}
use Rattle.reading.specs.Reading.{reading_of}
use Rattle.phis.proofs.Whole.{held-change}
use Rattle.phis.proofs.put_line.Goals as goal

pub put_line-requires : goal.put_line-requires
put_line-requires c = let a = c.args in omega (arith, c.requires.1.1, ap length (held-change (reading_of a.mode.0) (lines_of a.text.now) a.line.now (so c.has_phi.ensures c.if-has_phi.false)))

pub returns : goal.returns
returns c =
    let a = c.args in
    record { answer = wrote_as (sym (held-change (reading_of a.mode.0) (lines_of a.text.now) a.line.now (so c.has_phi.ensures c.if-has_phi.false))) c.put_line.ensures; memory = refl }
