use mathlib.Core.Path.{sym, ap}
use native.Mathlib.Omega.{arith}
use lib.ListN.{length}
use Rattle.lines.specs.Lf.{lines_of, unlines}
use Rattle.lines.proofs.OutLaws.{wrote_as}
use Rattle.origins.specs.Inner.Codes.{moves_of}
use Rattle.reading.specs.Reading.{reading_of}
use Rattle.steps.proofs.Tame.{tame-removal, tame-decls, room_fits, room-lines}
use Rattle.steps.proofs.StepLaws.{step-0, step-1, step-3, step-5, step-else, few-0, few-1, few-3, few-5, few-else, few-as}
use Rattle.steps.proofs.Traces.{acts-0, acts-1, acts-3, acts-5, acts-else, stay-noted}
use Rattle.steps.proofs.few_step.Goals as goal

pub remove_globals-requires : goal.remove_globals-requires
remove_globals-requires c = let p = c.requires.1 in (omega (arith, room_fits tame-removal p.0, p.1.0), omega (arith, p.0.lines, p.1.1.1.1.1))

pub returns-then-k-eq0 : goal.returns-then-k-eq0
returns-then-k-eq0 c =
    let p = c.remove_globals.ensures in
    let a = c.args in
    let t = c.if-k-eq0.true in
    record { answer = wrote_as (ap unlines (sym (step-0 (reading_of a.m.mode.0) a.k (lines_of a.src.now) t))) p.answer; memory = few-as t few-0; moves = wrote_as (ap moves_of (sym (acts-0 (reading_of a.m.mode.0) a.k (lines_of a.src.now) t))) p.moves }

pub temps_step-requires : goal.temps_step-requires
temps_step-requires c = let p = c.requires.1 in (p.0, (p.1.1.0, (p.1.0, p.1.1.1.1.1)))

pub returns-then-k-eq1 : goal.returns-then-k-eq1
returns-then-k-eq1 c =
    let p = c.temps_step.ensures in
    let a = c.args in
    let t = c.if-k-eq1.true in
    record { answer = wrote_as (ap unlines (sym (step-1 (reading_of a.m.mode.0) a.k (lines_of a.src.now) t))) p.answer; memory = few-as t (few-1 p.memory p.tables); moves = wrote_as (ap moves_of (sym (acts-1 (reading_of a.m.mode.0) a.k (lines_of a.src.now) t))) p.moves }

pub phis_step-requires : goal.phis_step-requires
phis_step-requires c = let p = c.requires.1 in (p.0, (p.1.1.0, (p.1.1.1.0, (p.1.1.1.1.0, (p.1.0, p.1.1.1.1.1)))))

pub returns-then-k-eq3 : goal.returns-then-k-eq3
returns-then-k-eq3 c =
    let p = c.phis_step.ensures in
    let a = c.args in
    let t = c.if-k-eq3.true in
    record { answer = wrote_as (ap unlines (sym (step-3 (reading_of a.m.mode.0) a.k (lines_of a.src.now) t))) p.answer; memory = few-as t (few-3 p.memory p.tables); moves = wrote_as (ap moves_of (sym (acts-3 (reading_of a.m.mode.0) a.k (lines_of a.src.now) t))) p.moves }

pub prune_decls-requires : goal.prune_decls-requires
prune_decls-requires c = let p = c.requires.1 in (omega (arith, room_fits tame-decls p.0, p.1.0), omega (arith, p.0.lines, p.1.1.1.1.1))

pub returns-then-k-eq5 : goal.returns-then-k-eq5
returns-then-k-eq5 c =
    let p = c.prune_decls.ensures in
    let a = c.args in
    let t = c.if-k-eq5.true in
    record { answer = wrote_as (ap unlines (sym (step-5 (reading_of a.m.mode.0) a.k (lines_of a.src.now) t))) p.answer; memory = few-as t (few-5 p.memory); moves = wrote_as (ap moves_of (sym (acts-5 (reading_of a.m.mode.0) a.k (lines_of a.src.now) t))) p.moves }

pub stay_lines-requires : goal.stay_lines-requires
stay_lines-requires c = let p = c.requires.1 in omega (arith, p.0.lines, p.1.1.1.1.1)

pub put_lines-requires : goal.put_lines-requires
put_lines-requires c = let p = c.requires.1 in omega (arith, room-lines p.0, p.1.0)

pub returns : goal.returns
returns c =
    let n = c.requires.0 in
    let a = c.args in
    record { answer = wrote_as (ap unlines (sym (step-else (reading_of a.m.mode.0) a.k (lines_of a.src.now) c.if-k-eq0.false c.if-k-eq1.false n.0 c.if-k-eq3.false n.1.0 c.if-k-eq5.false n.1.1))) c.put_lines.ensures; memory = few-else c.if-k-eq1.false c.if-k-eq3.false c.if-k-eq5.false n; moves = wrote_as (ap moves_of (sym (acts-else (reading_of a.m.mode.0) a.k (lines_of a.src.now) c.if-k-eq0.false c.if-k-eq1.false c.if-k-eq3.false c.if-k-eq5.false))) (stay-noted (length (lines_of a.src.now)) c.stay_lines.ensures) }
