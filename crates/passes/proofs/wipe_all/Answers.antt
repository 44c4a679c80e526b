use mathlib.Core.Path.{refl}
use Rattle.passes.proofs.WorkLaws.{wiped-all, wiped-numbers}
use Rattle.passes.proofs.wipe_all.Goals as goal

pub returns : goal.returns
returns c = let g = c.args in record { a-blank = wiped-all g.a.now refl c.wipe.ensures; b-blank = wiped-all g.b.now refl c.wipe-2.ensures; c-blank = wiped-all g.c.now refl c.wipe-3.ensures; d-blank = wiped-all g.d.now refl c.wipe-4.ensures; e-blank = wiped-all g.e.now refl c.wipe-5.ensures; u-blank = wiped-numbers g.u.now c.wipe_numbers.ensures }
