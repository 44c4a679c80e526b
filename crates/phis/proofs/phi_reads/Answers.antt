use Prim.Native.Nat.{ℕ}
use native.Mathlib.Omega.{arith}
use borrow.Author.Tests.{lt-ltb}
use mathlib.Core.Path.{sym, ap, ◌∙◌}
use mathlib.Core.Bool.{Bool, not, ◌&&◌}
use lib.Dec.{ltb}
use Rattle.text.specs.Trim.{trim_start}
use Rattle.phis.specs.Phis.{phi_own, phi_reads}
use Rattle.phis.proofs.Lines.{phi-hits}
use Rattle.phis.proofs.phi_reads.Goals as goal

pub returns-then-count_phi-eq0 : goal.returns-then-count_phi-eq0
unfolding phi_reads
returns-then-count_phi-eq0 c =
    let a = c.args in
    let n = c.count_phi in
    let h = phi-hits a.phi.0 (omega arith) a.line.now n.result n.ensures in
    sym (ap (λ (k : ℕ). ltb 0 k && not (phi_own a.phi.0 (trim_start a.line.now))) (h ∙ c.if-count_phi-eq0.true))

pub returns : goal.returns
unfolding phi_reads
returns c =
    let a = c.args in
    let n = c.count_phi in
    let h = phi-hits a.phi.0 (omega arith) a.line.now n.result n.ensures in
    ap not (c.phi_own.ensures ∙ ap (phi_own a.phi.0) c.trim_start.ensures)
    ∙ sym
    (ap (λ (k : ℕ). ltb 0 k && not (phi_own a.phi.0 (trim_start a.line.now))) h
    ∙ ap (λ (b : Bool). b && not (phi_own a.phi.0 (trim_start a.line.now))) (lt-ltb 0 n.result (omega (arith, c.if-count_phi-eq0.false))))
