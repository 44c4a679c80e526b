use Prim.Native.Nat.{ℕ}
use native.Mathlib.Omega.{arith}
use mathlib.Core.Path.{sym, ap, ◌∙◌}
use mathlib.Core.List.{List}
use lib.ListN.{length, replicate, length-replicate}
use Rattle.lines.specs.Lf.{lines_of, unlines}
use Rattle.lines.proofs.Tests.{no}
use Rattle.lines.proofs.OutLaws.{wrote_as, wrote-length, wrote-whole, wipe-end}
use Rattle.reading.specs.Reading.{reading_of}
use Rattle.phis.specs.Phis.{round}
use Rattle.phis.proofs.Rounds.{passed, next-calm, next-lines, next-length, longest-first, longest-fits, third-text, first-wrote, second-wrote, wiped-length, scratch-end}
use Rattle.phis.proofs.Moves.{first-enough, next-enough, three-moves}
use Rattle.phis.proofs.prune_dead_phis.Goals as goal

pub stay_lines-requires : goal.stay_lines-requires
stay_lines-requires c = omega (arith, c.requires.1.1.1.1)

pub put_round-a-requires : goal.put_round-a-requires
put_round-a-requires c =
    let a = c.args in
    let pre = c.requires in
    (λ e. no (sym e), (omega (arith, (longest-first (reading_of a.mode.0) a.text.now).0, pre.0), (pre.1.0, first-enough (length (lines_of a.text.now)) c.stay_lines.ensures)))

pub put_round-b-requires : goal.put_round-b-requires
put_round-b-requires c =
    let a = c.args in
    let R = reading_of a.mode.0 in
    let t = a.text.now in
    let pre = c.requires in
    let put-round = c.put_round-a in
    let cut = c.cut in
    let e = next-lines R t cut.result.now _ _ _ put-round.ensures.answer cut.ensures in (
      next-calm R t cut.result.now _ _ _ put-round.ensures.answer cut.ensures put-round.result.dead put-round.ensures.found,
      (
        omega (arith, next-length R t cut.result.now _ _ _ put-round.ensures.answer cut.ensures, (longest-first R t).1, pre.0),
        (
          omega (arith, ap (λ (ls : List (List ℕ)). length (unlines (round R ls))) e, pre.1.1.0),
          omega (arith, ap length e, next-enough R (lines_of t) _ _ (first-enough (length (lines_of t)) c.stay_lines.ensures) put-round.ensures.moves),
        ),
      ),
    )

pub put_round-c-requires : goal.put_round-c-requires
put_round-c-requires c =
    let a = c.args in
    let R = reading_of a.mode.0 in
    let t = a.text.now in
    let pre = c.requires in
    let put-round = c.put_round-a in
    let cut = c.cut in
    let put-round2 = c.put_round-b in
    let cut2 = c.cut-2 in
    let h = passed R t cut.result.now cut2.result.now put-round.ensures.answer cut.ensures put-round2.ensures.answer cut2.ensures in
    let e = next-lines R t cut.result.now _ _ _ put-round.ensures.answer cut.ensures in
    let f = next-lines R cut.result.now cut2.result.now _ _ _ put-round2.ensures.answer cut2.ensures in
    let n = next-enough R (lines_of t) _ _ (first-enough (length (lines_of t)) c.stay_lines.ensures) put-round.ensures.moves in (
      next-calm R cut.result.now cut2.result.now _ _ _ put-round2.ensures.answer cut2.ensures put-round2.result.dead put-round2.ensures.found,
      (
        omega (arith, (longest-fits h).1.1, pre.0),
        (
          omega (arith, ap length (third-text h), pre.1.1.1.0),
          omega (arith, ap length f, next-enough R (lines_of cut.result.now) _ _ (omega (arith, ap length e, n)) put-round2.ensures.moves),
        ),
      ),
    )

pub wipe-requires-2 : goal.wipe-requires-2
wipe-requires-2 c =
    let a = c.args in
    let put-round = c.put_round-a in
    let cut = c.cut in
    let put-round2 = c.put_round-b in
    let cut2 = c.cut-2 in
    let h = passed (reading_of a.mode.0) a.text.now cut.result.now cut2.result.now put-round.ensures.answer cut.ensures put-round2.ensures.answer cut2.ensures in
    omega (arith, wiped-length h _ _ c.larger.ensures c.larger-2.ensures, c.put_round-c.auto.scratch ∙ put-round2.auto.scratch ∙ put-round.auto.scratch, c.requires.0)

pub shape_of-table : goal.shape_of-table
shape_of-table c = c.wipe.auto.s ∙ c.put_round-c.auto.table ∙ c.put_round-b.auto.table ∙ c.put_round-a.auto.table

pub shape_of-scratch : goal.shape_of-scratch
shape_of-scratch c = c.wipe-2.auto.s ∙ c.put_round-c.auto.scratch ∙ c.put_round-b.auto.scratch ∙ c.put_round-a.auto.scratch

pub shape_of-first : goal.shape_of-first
shape_of-first c = c.put_round-a.auto.out

pub shape_of-second : goal.shape_of-second
shape_of-second c = c.put_round-b.auto.out

pub shape_of-out : goal.shape_of-out
shape_of-out c = c.put_round-c.auto.out

pub shape_of-moves : goal.shape_of-moves
shape_of-moves c = c.put_round-c.auto.moves ∙ c.put_round-b.auto.moves ∙ c.put_round-a.auto.moves ∙ wrote-length c.stay_lines.ensures

pub returns : goal.returns
returns c =
    let a = c.args in
    let R = reading_of a.mode.0 in
    let t = a.text.now in
    let put-round = c.put_round-a in
    let cut = c.cut in
    let put-round2 = c.put_round-b in
    let cut2 = c.cut-2 in
    let put-round3 = c.put_round-c in
    let h = passed R t cut.result.now cut2.result.now put-round.ensures.answer cut.ensures put-round2.ensures.answer cut2.ensures in
    let q = wiped-length h _ _ c.larger.ensures c.larger-2.ensures in
    let e = next-lines R t cut.result.now _ _ _ put-round.ensures.answer cut.ensures in
    let f = next-lines R cut.result.now cut2.result.now _ _ _ put-round2.ensures.answer cut2.ensures in
    record {
      answer = wrote_as (third-text h) put-round3.ensures.answer;
      one = first-wrote h;
      two = second-wrote h;
      memory = scratch-end _ _ _ _ _ _ _ _ _ put-round.ensures.memory put-round2.ensures.memory put-round3.ensures.memory (put-round3.auto.scratch ∙ put-round2.auto.scratch ∙ put-round.auto.scratch) (longest-fits h) (wipe-end q c.wipe-2.ensures);
      noted = wrote-whole c.wipe.ensures (length-replicate {A = ℕ} (length put-round3.new.table) 0) ∙ ap (λ (n : ℕ). replicate n 0) (put-round3.auto.table ∙ put-round2.auto.table ∙ put-round.auto.table);
      moves = three-moves R (lines_of t) (lines_of cut.result.now) (lines_of cut2.result.now) e f c.stay_lines.ensures put-round.ensures.moves put-round2.ensures.moves put-round3.ensures.moves;
    }
