use mathlib.Core.Path.{sym, ◌∙◌}
use native.Mathlib.Omega.{arith}
use Rattle.lines.proofs.Tests.{so}
use Rattle.lines.proofs.Compare.{hold-end}
use Rattle.names.specs.Names.{phi_word}
use Rattle.phis.proofs.Held.{find-hit, find-on}
use Rattle.phis.proofs.table.has_phi.Goals as goal

pub returns-then-starts_with : goal.returns-then-starts_with
returns-then-starts_with c = sym (find-hit c.args.s.now c.loop-i.i c.find_byte-j.result c.find_byte-j.ensures c.cut.result.now c.cut.ensures (so c.starts_with.ensures c.if-starts_with.true)) ∙ c.loop-i.invariant

pub loop-i-smaller : goal.loop-i-smaller
loop-i-smaller c = omega (arith, c.after-i.ensures, c.find_byte-j.ensures, c.loop-i-test.true)

pub loop-i-preserved : goal.loop-i-preserved
loop-i-preserved c = sym (find-on c.args.s.now c.loop-i.i c.find_byte-j.result c.find_byte-j.ensures c.cut.result.now c.cut.ensures c.after-i.result c.after-i.ensures (so c.starts_with.ensures c.if-starts_with.false)) ∙ c.loop-i.invariant

pub returns : goal.returns
returns c = sym (hold-end phi_word c.args.s.now c.loop-i.i c.loop-i-test.false) ∙ c.loop-i.invariant
