use Rattle.lines.proofs.Tests.{so}
use Rattle.phis.proofs.TableLaws.{line-held, line-decl, line-noted}
use Rattle.phis.proofs.table.note_line.Goals as goal

pub returns-then-not-has_phi : goal.returns-then-not-has_phi
returns-then-not-has_phi c = let a = c.args in line-held a.own.now a.line.now a.table.now (so c.has_phi.ensures c.if-not-has_phi.true)

pub returns-then-phi_decl : goal.returns-then-phi_decl
returns-then-phi_decl c = let a = c.args in let t = c.trim_start-t in line-decl a.own.now a.line.now a.table.now t.result.now t.ensures (so c.has_phi.ensures c.if-not-has_phi.false) (so c.phi_decl.ensures c.if-phi_decl.true)

pub returns : goal.returns
returns c = let a = c.args in let t = c.trim_start-t in let o = c.phi_store-stored in line-noted a.own.now a.line.now a.table.now t.result.now t.ensures (so c.has_phi.ensures c.if-not-has_phi.false) (so c.phi_decl.ensures c.if-phi_decl.false) o.result _ _ o.ensures c.note_store.ensures c.note_runs.ensures
