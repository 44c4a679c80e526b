use mathlib.Core.Path.{refl, sym, ◌∙◌}
use native.Mathlib.Omega.{arith}
use Rattle.lines.proofs.EachLaws.{at-front, goes, stops}
use Rattle.reading.specs.Reading.{reading_of}
use Rattle.once.proofs.Zeros.{zeroed-as, zeroed-less}
use Rattle.once.proofs.Decides.{value_room}
use Rattle.engines.proofs.EngineLaws.{flags-start, row-there, flag-place, flags-on, flags-end}
use Rattle.engines.proofs.flag_lines.Goals as goal

pub loop-line-init : goal.loop-line-init
loop-line-init c = let a = c.args in let p = c.requires in let e = c.into_iter-line-iterator.ensures.into_iter_gives in let g = c.each-line-items.ensures in (at-front e g.text g.front, rw (e, g.front) (refl, (p.0, flags-start (reading_of a.mode.0) a.text.now a.paths.now a.loops.now a.flags.now p.1.0)))

pub bounds-paths-k : goal.bounds-paths-k
bounds-paths-k c = let k = goes c.loop-line.invariant.0 c.in-Some.ensures.steps in omega (arith, c.requires.1.1.0, row-there c.loop-line.invariant.1.1.1 k.here.starts c.in-Some.line.to k.here.to)

pub bounds-loops-k : goal.bounds-loops-k
bounds-loops-k c = let k = goes c.loop-line.invariant.0 c.in-Some.ensures.steps in omega (arith, c.requires.1.1.1, row-there c.loop-line.invariant.1.1.1 k.here.starts c.in-Some.line.to k.here.to)

pub slice_bounds-line_goes-count-in-loop-line : goal.slice_bounds-line_goes-count-in-loop-line
slice_bounds-line_goes-count-in-loop-line c = let k = goes c.loop-line.invariant.0 c.in-Some.ensures.steps in omega (arith, c.requires.1.1.0, row-there c.loop-line.invariant.1.1.1 k.here.starts c.in-Some.line.to k.here.to)

pub slice_bounds-line_goes-start-in-loop-line : goal.slice_bounds-line_goes-start-in-loop-line
slice_bounds-line_goes-start-in-loop-line c = let k = goes c.loop-line.invariant.0 c.in-Some.ensures.steps in omega (arith, c.requires.1.1.0, row-there c.loop-line.invariant.1.1.1 k.here.starts c.in-Some.line.to k.here.to)

pub line_goes-goes-requires : goal.line_goes-goes-requires
line_goes-goes-requires c = let l = c.loop-line in let k = goes l.invariant.0 c.in-Some.ensures.steps in rw k.here.bytes (zeroed-less (value_room l.line-iterator.at c.in-Some.line.to c.args.text.now) l.invariant.1.1.0)

pub bounds-flags-k : goal.bounds-flags-k
bounds-flags-k c = let k = goes c.loop-line.invariant.0 c.in-Some.ensures.steps in flag-place c.loop-line.invariant.1.1.1 k.here.starts c.in-Some.line.to k.here.to

pub loop-line-preserved : goal.loop-line-preserved
loop-line-preserved c =
    let l = c.loop-line in
    let m = c.line_goes-goes in
    let k = goes l.invariant.0 c.in-Some.ensures.steps in
    let below = c.after-below in
    let p = c.requires.1.1.0 in
    let r = row-there l.invariant.1.1.1 k.here.starts c.in-Some.line.to k.here.to in (
      k.on,
      (
        m.ensures.memory ∙ l.invariant.1.0,
        (
          zeroed-as m.ensures.memory l.invariant.1.1.0,
          rw (k.here.next ∙ sym below.ensures)
              (flags-on l.invariant.1.1.1 k.here.starts c.in-Some.line.to k.here.to below.result m.result c.flag.result below.ensures (omega arith) (rw k.here.bytes at m.ensures.answer) c.flag.ensures),
        ),
      ),
    )

pub returns-clause-answer : goal.returns-clause-answer
returns-clause-answer c = flags-end c.loop-line.invariant.1.1.1 (stops c.loop-line.invariant.0 c.in-None.ensures.steps)
