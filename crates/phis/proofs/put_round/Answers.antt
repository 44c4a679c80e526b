use Prim.Native.Nat.{ℕ}
use native.Mathlib.Omega.{arith}
use mathlib.Core.Path.{refl, sym, ap, ◌∙◌}
use lib.ListN.{length, length-replicate}
use Rattle.lines.specs.Lf.{lines_of}
use Rattle.lines.proofs.Tests.{so}
use Rattle.lines.proofs.OutLaws.{wrote_as, wrote-whole}
use Rattle.phis.specs.Inner.Table.{note_lines}
use Rattle.phis.proofs.TableLaws.{table-tells}
use Rattle.reading.specs.Reading.{reading_of}
use Rattle.phis.proofs.Whole.{none-round, calm-dead}
use Rattle.phis.proofs.Moves.{none-thin}
use Rattle.phis.proofs.put_round.Goals as goal

pub put_lines-p-requires : goal.put_lines-p-requires
put_lines-p-requires c =
    let a = c.args in
    omega (arith, c.requires.1.1.0, ap length (none-round (reading_of a.mode.0) a.text.now (calm-dead a.text.now a.dead c.requires.0 (so c.may_change.ensures c.if-not-may_change.true))))

pub returns-then-not-may_change : goal.returns-then-not-may_change
returns-then-not-may_change c =
    let a = c.args in
    let k = calm-dead a.text.now a.dead c.requires.0 (so c.may_change.ensures c.if-not-may_change.true) in
    record { answer = wrote_as (none-round (reading_of a.mode.0) a.text.now k) c.put_lines-p.ensures; found = sym k; memory = refl; moves = none-thin (reading_of a.mode.0) a.text.now a.moves.now k }

pub put_with-requires : goal.put_with-requires
put_with-requires c =
    let a = c.args in
    let n = length a.table.now in
    (table-tells a.own.now (lines_of a.text.now) n _ (c.note_lines.ensures ∙ ap (note_lines a.own.now (lines_of a.text.now)) (wrote-whole c.wipe.ensures (length-replicate {A = ℕ} n 0))), c.requires.1)
