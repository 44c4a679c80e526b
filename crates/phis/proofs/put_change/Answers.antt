use native.Mathlib.Omega.{arith}
use mathlib.Core.Path.{refl, sym, ap, ◌∙◌}
use lib.ListN.{length}
use Rattle.lines.specs.Lf.{lines_of}
use Rattle.lines.proofs.Tests.{so}
use Rattle.lines.proofs.OutLaws.{wrote_as}
use Rattle.reading.specs.Reading.{reading_of}
use Rattle.std.specs.declared.option.Option.{Option}
use Rattle.names.specs.declared.Phi.{Phi}
use Rattle.phis.specs.Phis.{phi_dead}
use Rattle.phis.proofs.Lines.{decl-long}
use Rattle.phis.proofs.Writes.{dead-assign, change-store, change-decl, change-keep, start-le, drop_more}
use Rattle.phis.proofs.put_change.Goals as goal

pub put_store-requires : goal.put_store-requires
put_store-requires c =
    let a = c.args in
    let pre = c.requires.1 in
    let trim_start = c.trim_start-t in
    let trim-from = c.trim_from in
    let cut = c.cut-indent in
    let phi-store = c.phi_store in
    let dead-by = c.dead_by in
    let if1 = c.if-dead_by in (
      dead-assign (lines_of a.text.now) trim_start.result.now (ap (λ (n : Option Phi). phi_dead n (lines_of a.text.now)) (sym phi-store.ensures) ∙ so dead-by.ensures if1.true),
      (omega (arith, start-le a.line.now trim_start.result.now trim_start.ensures, pre.0), omega (arith, pre.1, ap length (change-store (reading_of a.mode.0) (lines_of a.text.now) a.line.now trim_start.result.now cut.result.now trim-from.result trim_start.ensures trim-from.ensures cut.ensures phi-store.result phi-store.ensures (so dead-by.ensures if1.true)))),
    )

pub returns-then-dead_by : goal.returns-then-dead_by
returns-then-dead_by c =
    let a = c.args in
    let trim_start = c.trim_start-t in
    let trim-from = c.trim_from in
    let cut = c.cut-indent in
    let phi-store = c.phi_store in
    let put-store = c.put_store in
    record { answer = wrote_as (sym (change-store (reading_of a.mode.0) (lines_of a.text.now) a.line.now trim_start.result.now cut.result.now trim-from.result trim_start.ensures trim-from.ensures cut.ensures phi-store.result phi-store.ensures (so c.dead_by.ensures c.if-dead_by.true))) put-store.ensures.answer; memory = drop_more (length trim_start.result.now) (length a.line.now) _ _ (start-le a.line.now trim_start.result.now trim_start.ensures) put-store.ensures.memory }

pub overflow_sub-t : goal.overflow_sub-t
overflow_sub-t c = omega (arith, decl-long c.trim_start-t.result.now (so c.phi_decl.ensures c.if-phi_decl.true))

pub put_decl-requires : goal.put_decl-requires
put_decl-requires c =
    let a = c.args in
    let trim_start = c.trim_start-t in
    let trim-from = c.trim_from in
    let cut = c.cut-indent in
    let phi-store = c.phi_store in
    (c.requires.0, omega (arith, c.requires.1.1, ap length (change-decl (reading_of a.mode.0) (lines_of a.text.now) a.line.now trim_start.result.now cut.result.now trim-from.result trim_start.ensures trim-from.ensures cut.ensures phi-store.result phi-store.ensures (so c.dead_by.ensures c.if-dead_by.false) (so c.phi_decl.ensures c.if-phi_decl.true) c.cut.result.now c.cut.ensures)))

pub returns-then-phi_decl : goal.returns-then-phi_decl
returns-then-phi_decl c =
    let a = c.args in
    let trim_start = c.trim_start-t in
    let trim-from = c.trim_from in
    let cut = c.cut-indent in
    let phi-store = c.phi_store in
    let cut2 = c.cut in
    record { answer = wrote_as (sym (change-decl (reading_of a.mode.0) (lines_of a.text.now) a.line.now trim_start.result.now cut.result.now trim-from.result trim_start.ensures trim-from.ensures cut.ensures phi-store.result phi-store.ensures (so c.dead_by.ensures c.if-dead_by.false) (so c.phi_decl.ensures c.if-phi_decl.true) cut2.result.now cut2.ensures)) c.put_decl.ensures; memory = refl }

pub put_line-requires : goal.put_line-requires
put_line-requires c =
    let a = c.args in
    let trim_start = c.trim_start-t in
    let trim-from = c.trim_from in
    let cut = c.cut-indent in
    let phi-store = c.phi_store in
    omega (arith, c.requires.1.1, ap length (change-keep (reading_of a.mode.0) (lines_of a.text.now) a.line.now trim_start.result.now cut.result.now trim-from.result trim_start.ensures trim-from.ensures cut.ensures phi-store.result phi-store.ensures (so c.dead_by.ensures c.if-dead_by.false) (so c.phi_decl.ensures c.if-phi_decl.false)))

pub returns : goal.returns
returns c =
    let a = c.args in
    let trim_start = c.trim_start-t in
    let trim-from = c.trim_from in
    let cut = c.cut-indent in
    let phi-store = c.phi_store in
    record { answer = wrote_as (sym (change-keep (reading_of a.mode.0) (lines_of a.text.now) a.line.now trim_start.result.now cut.result.now trim-from.result trim_start.ensures trim-from.ensures cut.ensures phi-store.result phi-store.ensures (so c.dead_by.ensures c.if-dead_by.false) (so c.phi_decl.ensures c.if-phi_decl.false))) c.put_line.ensures; memory = refl }
