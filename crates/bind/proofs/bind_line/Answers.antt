use native.Mathlib.Omega.{arith}
use Rattle.bind.specs.Inner.Steps.{line_of, bound_at, mark_row}
use Rattle.bind.proofs.Moves.{site-gone, site_left}
use Rattle.bind.proofs.bind_line.Goals as goal

pub bind_site-p-requires : goal.bind_site-p-requires
bind_site-p-requires c = c.requires

pub bounds-marks-row : goal.bounds-marks-row
bounds-marks-row c = omega (arith, c.requires.1.0, c.bind_site-p.auto.marks)

pub returns-then-p-o : goal.returns-then-p-o
returns-then-p-o c =
    let a = c.args in
    let w = c.bind_site-p.ensures in
    record { answer = w.answer; memory = site-gone (bound_at a.text.now a.s a.blocks.now a.starts.now) (mark_row a.text.now a.s) (line_of a.text.now a.s) a.marks.now _ a.s.row a.o _ w.answer.place w.memory c.if-p-o.true }

pub returns : goal.returns
returns c =
    let a = c.args in
    let w = c.bind_site-p.ensures in
    record { answer = w.answer; memory = site_left (bound_at a.text.now a.s a.blocks.now a.starts.now) (mark_row a.text.now a.s) (line_of a.text.now a.s) a.marks.now _ a.s.row a.o _ w.answer.place w.memory c.if-p-o.false }
