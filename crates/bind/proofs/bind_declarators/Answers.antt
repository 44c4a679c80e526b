use Prim.Native.Nat.{◌≤◌}
use mathlib.Core.Path.{sym, ap, subst}
use mathlib.Core.Bool.{Bool}
use native.Mathlib.Omega.{arith}
use lib.ListN.{length}
use Rattle.lines.specs.Lf.{lines_of}
use Rattle.lines.proofs.OutLaws.{wrote_as}
use Rattle.lexical.specs.Joined.{rests_in}
use Rattle.place.specs.Inner.Parents.{ids_parents}
use Rattle.place.proofs.Fills.{filled-then, filled-as, wrote-filled}
use Rattle.records.proofs.Shown.{told-ids}
use Rattle.records.proofs.Filled.{filled-by, block-count}
use Rattle.reading.specs.Reading.{joined_at}
use Rattle.bind.proofs.WalkLaws.{tabled-rows, tabled_lines, tabled-text, tabled-notes, row_count, cleared, filled_at}
use Rattle.bind.proofs.bind_declarators.Goals as goal

pub place_lines-n-requires : goal.place_lines-n-requires
place_lines-n-requires c = let p = c.requires in (p.0.0, (p.0.1.0, ((subst (λ (j : Bool). length (ids_parents (rests_in j (lines_of c.args.text.now))) ≤ length c.args.up.now) (sym c.is_joined.ensures) p.0.1.1.0, p.0.1.1.1), p.1.1.1)))

pub wipe-requires : goal.wipe-requires
wipe-requires c = let f = filled-by c.is_joined.ensures c.args.text.now c.place_lines-n.ensures.tables in omega (arith, c.requires.1.0, row_count c.args.mode.0 c.args.text.now f)

pub walk-requires : goal.walk-requires
walk-requires c = let a = c.args in
    let q = c.requires in
    let f = filled-by c.is_joined.ensures a.text.now c.place_lines-n.ensures.tables in
    let n = row_count a.mode.0 a.text.now f in
    record {
      told = told-ids a.text.now q.0.0 (block-count (joined_at a.mode.0) (lines_of a.text.now)) f.0 c.place_lines-n.ensures.ends;
      rows = tabled-rows a.mode.0 a.text.now f;
      lines = tabled_lines a.mode.0 a.text.now f;
      fits = omega (arith, q.1.0, (wrote-filled c.wipe.ensures).place);
      unmarked = cleared n (wrote-filled c.wipe.ensures);
      room = omega (arith, ap length (tabled-text a.mode.0 a.text.now f), q.1.1.0);
    }

pub returns : goal.returns
returns c =
    let a = c.args in
    let f = filled-by c.is_joined.ensures a.text.now c.place_lines-n.ensures.tables in
    let w = c.walk.ensures in
    let m = wrote-filled c.wipe.ensures in
    let n = row_count a.mode.0 a.text.now f in
    let k = filled-as (tabled-notes a.mode.0 a.text.now f) w.memory in
    record { answer = wrote_as (tabled-text a.mode.0 a.text.now f) w.answer; tables = (filled_at n f.0, (filled_at n f.1.0, f.1.1)); marked = filled-then m k (omega (arith, n, m.place, k.place)); index = w.index; ends = filled_at n c.place_lines-n.ensures.ends }
