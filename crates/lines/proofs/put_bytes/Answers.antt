use Rattle.std.proofs.Common.{sym, ◌∙◌}
use Rattle.lines.proofs.StepLaws.{splitting-start, splitting-cr, splitting-room, splitting-put, splitting-last}
use Rattle.lines.proofs.put_bytes.Goals as goal
use Rattle.lines.proofs.put_bytes.Goals.{then-not-cr_lf, else-not-cr_lf}

pub loop-i-init : goal.loop-i-init
loop-i-init c = splitting-start _ _ c.requires

pub put_byte-o-requires : goal.put_byte-o-requires
put_byte-o-requires c = let l = c.loop-i in splitting-room c.args.text.now l.i l.invariant c.loop-i-test.true (sym c.cr_lf.ensures ∙ c.if-not-cr_lf.true)

pub loop-i-preserved : goal.loop-i-preserved
loop-i-preserved c =
    let l = c.loop-i in
    elim c.if-not-cr_lf.branch [
      | then-not-cr_lf w ↦ rw (w.out-is, w.o-is) (splitting-put c.args.text.now l.i l.invariant c.loop-i-test.true (sym c.cr_lf.ensures ∙ w.if-not-cr_lf.true) w.put_byte-o.ensures)
      | else-not-cr_lf w ↦ rw (w.out-is, w.o-is) (splitting-cr _ l.i l.invariant c.loop-i-test.true (sym c.cr_lf.ensures ∙ w.if-not-cr_lf.false))
    ]

pub returns : goal.returns
returns c = let l = c.loop-i in splitting-last c.args.text.now l.i l.invariant c.loop-i-test.false
