use Rattle.lines.proofs.Tests.{so}
use Rattle.lines.specs.Lf.{part}
use mathlib.Core.Path.{refl, ap, ◌∙◌}
use native.Mathlib.Omega.{arith}
use Prim.Native.Nat.{ℕ, ◌+◌}
use Rattle.pruned.proofs.FitCode.{print-indent, print-let, print-by, print-room}
use Rattle.pruned.proofs.fit.reprints.Goals as goal

pub returns-then-not-starts_with : goal.returns-then-not-starts_with
returns-then-not-starts_with c = let s = c.args in print-indent s.line.now s.marks.now s.p.now c.trim_from-a.result c.trim_from-a.ensures c.cut.result.now c.cut.ensures (so c.starts_with.ensures c.if-not-starts_with.true)

pub returns-then-not-starts_with-2 : goal.returns-then-not-starts_with-2
returns-then-not-starts_with-2 c = let s = c.args in print-let s.line.now s.marks.now s.p.now c.trim_from-a.result c.trim_from-a.ensures c.cut.result.now c.cut.ensures (so c.starts_with.ensures c.if-not-starts_with.false) c.cut-2.result.now c.cut-2.ensures (so c.starts_with-2.ensures c.if-not-starts_with-2.true)

pub overflow_add-a : goal.overflow_add-a
overflow_add-a c = omega (arith, print-room c.args.p.now c.cut-2.result.now c.trim_from-a.result c.cut-2.ensures (so c.starts_with-2.ensures c.if-not-starts_with-2.false))

pub names_fit-requires : goal.names_fit-requires
names_fit-requires c = omega (arith, print-room c.args.p.now c.cut-2.result.now c.trim_from-a.result c.cut-2.ensures (so c.starts_with-2.ensures c.if-not-starts_with-2.false))

pub returns : goal.returns
returns c = let s = c.args in c.names_fit.ensures ∙ print-by s.line.now s.marks.now s.p.now c.trim_from-a.result c.trim_from-a.ensures c.cut.result.now c.cut.ensures (so c.starts_with.ensures c.if-not-starts_with.false) c.cut-2.result.now c.cut-2.ensures (so c.starts_with-2.ensures c.if-not-starts_with-2.false) c.trim-t.result.now c.trim-t.ensures.0 c.cut-3.result.now (c.cut-3.ensures ∙ ap (λ (n : ℕ). part 4 n c.trim-t.result.now) c.last_of.ensures) (c.trim_from-a.result + 2) refl
