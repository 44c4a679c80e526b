use mathlib.Core.Path.{refl}
use Rattle.passes.proofs.WorkLaws.{wiped-all, wiped-numbers}
use Rattle.passes.proofs.wipe_tables.Goals as goal

pub returns : goal.returns
returns c = let g = c.args in record { f-unused = wiped-all g.f.now refl c.wipe.ensures; g-unused = wiped-all g.g.now refl c.wipe-2.ensures; h-unused = wiped-all g.h.now refl c.wipe-3.ensures; v-unused = wiped-numbers g.v.now c.wipe_numbers.ensures; w-unused = wiped-numbers g.w.now c.wipe_numbers-2.ensures; x-unused = wiped-numbers g.x.now c.wipe_numbers-3.ensures; p-unused = wiped-numbers g.p.now c.wipe-4.ensures; q-unused = wiped-numbers g.q.now c.wipe-5.ensures; r-unused = wiped-numbers g.r.now c.wipe-6.ensures; t-unused = wiped-numbers g.t.now c.wipe-7.ensures; o-unused = wiped-numbers g.own.now c.wipe-8.ensures; z-unused = wiped-numbers g.table.now c.wipe-9.ensures }
