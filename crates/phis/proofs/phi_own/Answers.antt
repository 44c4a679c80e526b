use native.Mathlib.Omega.{arith}
use mathlib.Core.Path.{sym, ◌∙◌}
use Rattle.lines.proofs.Tests.{so}
use Rattle.phis.proofs.Lines.{decl-long, own-store, own-other, own-decl}
use Rattle.phis.proofs.phi_own.Goals as goal

pub returns-then-is_phi : goal.returns-then-is_phi
returns-then-is_phi c =
    let a = c.args in
    let phi-store = c.phi_store in
    sym (own-store a.t.now a.phi.0 phi-store.result phi-store.ensures (so c.is_phi.ensures c.if-is_phi.true))

pub returns-then-not-phi_decl : goal.returns-then-not-phi_decl
returns-then-not-phi_decl c =
    let a = c.args in
    let phi-store = c.phi_store in
    sym (own-other a.t.now a.phi.0 phi-store.result phi-store.ensures (so c.is_phi.ensures c.if-is_phi.false) (so c.phi_decl.ensures c.if-not-phi_decl.true))

pub overflow_sub-t : goal.overflow_sub-t
overflow_sub-t c = omega (arith, decl-long c.args.t.now (so c.phi_decl.ensures c.if-not-phi_decl.false))

pub returns : goal.returns
returns c =
    let a = c.args in
    let phi-store = c.phi_store in
    c.any_phi.ensures ∙ sym (own-decl a.t.now a.phi.0 phi-store.result phi-store.ensures (so c.is_phi.ensures c.if-is_phi.false) (so c.phi_decl.ensures c.if-not-phi_decl.false) c.cut.result.now c.cut.ensures)
