use Rattle.std.proofs.Common.{ℕ, length, replicate, sym, ap, ◌∙◌, arith, length-take-le}
use lib.Seq.{length_front}
use Rattle.lines.proofs.Tests.{so}
use Rattle.lines.proofs.OutLaws.{wrote_as}
use Rattle.slots.proofs.SlotLaws.{zeros-long, zeros-take, zeros-again}
use Rattle.reading.specs.Reading.{strict_at, reading_of}
use Rattle.temps.proofs.Lacks.{lack-text, lack-moves, lack-scratch}
use Rattle.temps.proofs.prune_dead_temps.Goals as goal

pub stay_lines-requires : goal.stay_lines-requires
stay_lines-requires c = omega (arith, c.requires.1.1)

pub put_lines-requires : goal.put_lines-requires
put_lines-requires c = omega (arith, c.requires.1.0, ap length (lack-text c.args.text.now (so c.has_temp.ensures c.if-not-has_temp.true) (reading_of c.args.mode.0)))

pub returns-then-not-has_temp : goal.returns-then-not-has_temp
returns-then-not-has_temp c =
    let t = c.args.text.now in
    let k = so c.has_temp.ensures c.if-not-has_temp.true in
    let m = c.args.mode.0 in
    record { answer = wrote_as (lack-text t k (reading_of m)) c.put_lines.ensures; memory = lack-scratch t k (strict_at m) c.args.scratch.now; tables = c.wipe.ensures; moves = lack-moves t k (reading_of m) c.stay_lines.ensures }

pub slice_bounds-prune_tables-end : goal.slice_bounds-prune_tables-end
slice_bounds-prune_tables-end c = omega (arith, c.shorter-n.ensures, zeros-long (length c.args.declared.now) c.wipe.ensures.1.0, zeros-long (length c.args.read.now) c.wipe.ensures.1.1)

pub slice_bounds-prune_tables-end-2 : goal.slice_bounds-prune_tables-end-2
slice_bounds-prune_tables-end-2 c = sym (length-take-le _ _ (omega (arith, c.shorter-n.ensures, zeros-long (length c.args.declared.now) c.wipe.ensures.1.0, zeros-long (length c.args.read.now) c.wipe.ensures.1.1)))

pub slice_bounds-prune_tables-end-3 : goal.slice_bounds-prune_tables-end-3
slice_bounds-prune_tables-end-3 c = omega (arith, c.shorter-n.ensures, zeros-long (length c.args.declared.now) c.wipe.ensures.1.0, zeros-long (length c.args.read.now) c.wipe.ensures.1.1)

pub slice_bounds-prune_tables-end-4 : goal.slice_bounds-prune_tables-end-4
slice_bounds-prune_tables-end-4 c = sym (length-take-le _ _ (omega (arith, c.shorter-n.ensures, zeros-long (length c.args.declared.now) c.wipe.ensures.1.0, zeros-long (length c.args.read.now) c.wipe.ensures.1.1)))

pub prune_tables-o-requires : goal.prune_tables-o-requires
prune_tables-o-requires c =
    let n = c.shorter-n.result in
    let h = c.shorter-n.ensures in
    let d = zeros-long (length c.args.declared.now) c.wipe.ensures.1.0 in
    let r = zeros-long (length c.args.read.now) c.wipe.ensures.1.1 in
    let p = zeros-take n (length c.args.declared.now) c.wipe.ensures.1.0 (omega (arith, h, d, r)) in
    let q = zeros-take n (length c.args.read.now) c.wipe.ensures.1.1 (omega (arith, h, d, r)) in
    let e = ap (λ (m : ℕ). replicate {A = ℕ} m 0) (sym (zeros-long n q)) in
    ((p ∙ e, q ∙ e), c.requires)

pub returns : goal.returns
returns c =
    let n = c.shorter-n.result in
    let w = c.prune_tables-o in
    let a = c.args in
    let v = c.wipe.ensures in
    let z = c.wipe-2.ensures in
    record {
      answer = w.ensures.answer;
      memory = w.ensures.memory;
      tables = (
        z.0 ∙ ap (λ (m : ℕ). replicate m 0) (w.auto.own ∙ zeros-long (length a.own.now) v.0),
        (
          zeros-again n (length a.declared.now) w.new.declared v.1.0 (length_front _ w.new.declared n w.auto.declared) z.1.0,
          zeros-again n (length a.read.now) w.new.read v.1.1 (length_front _ w.new.read n w.auto.read) z.1.1,
        ),
      );
      moves = w.ensures.moves;
    }
