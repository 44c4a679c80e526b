use mathlib.Core.Path.{sym, ◌∙◌}
use native.Mathlib.Omega.{arith}
use lib.ListN.{length}
use lib.Seq.{length-take-le, length_front}
use Rattle.slots.proofs.SlotLaws.{zeros-long, zeros-again}
use Rattle.bind.proofs.ToldLaws.{zeros-cut}
use Rattle.bind.proofs.walk.Goals as goal

pub slice_bounds-walk_window-end : goal.slice_bounds-walk_window-end
slice_bounds-walk_window-end c = omega (arith, c.shorter-h.ensures, zeros-long (length c.args.seen.now) c.wipe.ensures.0)

pub slice_bounds-walk_window-end-2 : goal.slice_bounds-walk_window-end-2
slice_bounds-walk_window-end-2 c = sym (length-take-le _ _ (omega (arith, c.shorter-h.ensures, zeros-long (length c.args.seen.now) c.wipe.ensures.0)))

pub slice_bounds-walk_window-end-3 : goal.slice_bounds-walk_window-end-3
slice_bounds-walk_window-end-3 c = omega (arith, c.shorter-h.ensures, zeros-long (length c.args.first.now) c.wipe.ensures.1)

pub slice_bounds-walk_window-end-4 : goal.slice_bounds-walk_window-end-4
slice_bounds-walk_window-end-4 c = sym (length-take-le _ _ (omega (arith, c.shorter-h.ensures, zeros-long (length c.args.first.now) c.wipe.ensures.1)))

pub walk_window-o-requires : goal.walk_window-o-requires
walk_window-o-requires c =
    let h = c.shorter-h.ensures in
    let p = zeros-cut c.shorter-h.result (length c.args.seen.now) c.wipe.ensures.0 (omega (arith, h)) in
    let q = zeros-cut c.shorter-h.result (length c.args.first.now) c.wipe.ensures.1 (omega (arith, h)) in
    ((p.0 ∙ sym q.0, (p.1, q.1)), c.requires)

pub returns : goal.returns
returns c =
    let w = c.walk_window-o in
    let h = c.shorter-h.result in
    record {
      answer = w.ensures.answer;
      memory = w.ensures.memory;
      index = (
        zeros-again h (length c.args.seen.now) w.new.seen c.wipe.ensures.0 (length_front _ w.new.seen h w.auto.seen) c.wipe-2.ensures.0,
        zeros-again h (length c.args.first.now) w.new.first c.wipe.ensures.1 (length_front _ w.new.first h w.auto.first) c.wipe-2.ensures.1,
      );
    }
