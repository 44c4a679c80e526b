use Rattle.std.proofs.Common.{ℕ, Bool, true, false, List, sym, ap, ◌∙◌, arith}
use Rattle.lines.specs.Lf.{lines_of}
use Rattle.lines.specs.Inner.Out.{put_at}
use Rattle.lines.proofs.Tests.{so}
use Rattle.expr.specs.Pure.{is_pure, cut_in, purity_in}
use Rattle.reading.specs.Reading.{strict_at, reading_of}
use Rattle.reading.proofs.AssignLaws.{assign-split, assign-not}
use Rattle.temps.proofs.PassLaws.{goes_first, goes_other, goes-name, goes-impure, goes-pure, scratch-first, scratch-other, scratch-store, value_room}
use Rattle.temps.proofs.goes.Goals as goal

pub returns-then-c : goal.returns-then-c
returns-then-c c =
    let a = c.args in
    let p = c.trim-t.ensures.0 in
    record { answer = sym (goes_first (reading_of a.mode.0) (lines_of a.text.now) a.line.now _ p _ c.byte_at-c.ensures c.if-c.true); memory = sym (scratch-first (strict_at a.mode.0) a.scratch.now a.line.now _ p _ c.byte_at-c.ensures c.if-c.true) }

pub returns-then-not-is_temp_name : goal.returns-then-not-is_temp_name
returns-then-not-is_temp_name c =
    let a = c.args in
    let p = c.trim-t.ensures.0 in
    let w = assign-split _ _ (sym c.in-Some.ensures) in
    let q = c.left_of-name.ensures ∙ w.is-left in
    let d = so c.is_temp_name.ensures c.if-not-is_temp_name.true in
    record { answer = sym (goes-name (reading_of a.mode.0) (lines_of a.text.now) a.line.now _ p _ w.assigns q d); memory = sym (scratch-store (strict_at a.mode.0) a.scratch.now a.line.now _ p false _ w.assigns q d) }

pub purity-requires : goal.purity-requires
purity-requires c =
    let a = c.args in
    let w = assign-split _ _ (sym c.in-Some.ensures) in
    omega (arith, c.requires.0, value_room c.is_strict.result a.line.now _ _ c.trim-t.ensures.0 (c.right_of.ensures ∙ w.is_right))

pub returns-then-not-is_pure : goal.returns-then-not-is_pure
returns-then-not-is_pure c =
    let a = c.args in
    let k = c.is_strict.ensures in
    let x = c.right_of.result.now in
    let p = c.trim-t.ensures.0 in
    let w = assign-split _ _ (sym c.in-Some.ensures) in
    let q = c.left_of-name.ensures ∙ w.is-left in
    let v = c.right_of.ensures ∙ w.is_right in
    let d = so c.is_temp_name.ensures c.if-not-is_temp_name.false in
    let e = c.purity.ensures in
    let f = so (c.is_pure.ensures ∙ ap (λ y. is_pure y) (e.answer ∙ ap (λ (b : Bool). purity_in b x) k)) c.if-not-is_pure.true in
    record {
      answer = sym (goes-impure (reading_of a.mode.0) (lines_of a.text.now) a.line.now _ p _ _ w.assigns q d v f);
      memory = e.memory ∙ ap (λ (b : Bool). put_at a.scratch.now 0 (cut_in b x)) k ∙ ap (λ (y : List ℕ). put_at a.scratch.now 0 (cut_in (strict_at a.mode.0) y)) v
          ∙ sym (scratch-store (strict_at a.mode.0) a.scratch.now a.line.now _ p true _ w.assigns q d);
    }

pub is_dead-requires : goal.is_dead-requires
is_dead-requires c = (so c.is_temp_name.ensures c.if-not-is_temp_name.false, c.requires.1)

pub returns-else-not-is_pure : goal.returns-else-not-is_pure
returns-else-not-is_pure c =
    let a = c.args in
    let k = c.is_strict.ensures in
    let x = c.right_of.result.now in
    let p = c.trim-t.ensures.0 in
    let w = assign-split _ _ (sym c.in-Some.ensures) in
    let q = c.left_of-name.ensures ∙ w.is-left in
    let v = c.right_of.ensures ∙ w.is_right in
    let d = so c.is_temp_name.ensures c.if-not-is_temp_name.false in
    let e = c.purity.ensures in
    let f = so (c.is_pure.ensures ∙ ap (λ y. is_pure y) (e.answer ∙ ap (λ (b : Bool). purity_in b x) k)) c.if-not-is_pure.false in
    record {
      answer = c.is_dead.ensures ∙ sym (goes-pure (reading_of a.mode.0) (lines_of a.text.now) a.line.now _ p _ _ w.assigns q d v f);
      memory = e.memory ∙ ap (λ (b : Bool). put_at a.scratch.now 0 (cut_in b x)) k ∙ ap (λ (y : List ℕ). put_at a.scratch.now 0 (cut_in (strict_at a.mode.0) y)) v
          ∙ sym (scratch-store (strict_at a.mode.0) a.scratch.now a.line.now _ p true _ w.assigns q d);
    }

pub returns-in-None : goal.returns-in-None
returns-in-None c =
    let a = c.args in
    let p = c.trim-t.ensures.0 in
    let n = assign-not _ (sym c.in-None.ensures) in
    record { answer = sym (goes_other (reading_of a.mode.0) (lines_of a.text.now) a.line.now _ p n); memory = sym (scratch-other (strict_at a.mode.0) a.scratch.now a.line.now _ p n) }
