use Rattle.std.proofs.Common.{rules, false, ◌≡◌, sym, refl, ◌∙◌}
use Rattle.std.specs.declared.result.Result.TheVariants.{Err}
use Rattle.pruned.specs.Judged.{judged_number}
use Rattle.pruned.proofs.EntryCode.{small-checked, raw-stops, raw-passes, number-not, number-none}
use Rattle.pruned.proofs.refused.Goals as goal

pub returns-in_err-by_raw : goal.returns-in_err-by_raw
returns-in_err-by_raw c =
    let s = c.args in
    let q = c.by_raw in
    let e : c.from_residual.result ≡ Err c.in_err-by_raw.field-0.0 = search rules in
    e ∙ sym c.in_err-by_raw.was
    ∙ raw-stops s.short s.raw.now s.pruned.now c.refused.result (small-checked s.short s.raw.now c.small-m.ensures c.refused.ensures) q.result q.ensures (judged_number q.result) refl (number-not c.in_err-by_raw.was)

pub returns : goal.returns
returns c =
    let s = c.args in
    let q = c.by_raw in
    raw-passes s.short s.raw.now s.pruned.now c.refused.result (small-checked s.short s.raw.now c.small-m.ensures c.refused.ensures) q.result q.ensures (judged_number q.result) refl (number-none c.in_ok-by_raw.was) c.refused-2.result (small-checked false s.pruned.now c.small-m.ensures c.refused-2.ensures) c.by_pruned.result c.by_pruned.ensures
