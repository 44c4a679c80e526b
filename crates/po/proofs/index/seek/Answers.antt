use Prim.Native.Nat.{◌+◌}
use native.Mathlib.Omega.{arith}
use mathlib.Core.Path.{sym, ap, ◌∙◌}
use mathlib.Core.Bool.{Bool, cond}
use lib.ListN.{drop}
use Rattle.po.specs.Found.{decoded}
use Rattle.po.specs.Inner.Index.{seek_go}
use Rattle.po.specs.declared.Seek.TheVariants as sought
use Rattle.po.proofs.IndexLaws.{seek-free, seek-unsure, seek-key, seek-end, seek-none, seek-starts}
use Rattle.po.proofs.index.seek.Goals as goal

pub returns-then-own-eq0 : goal.returns-then-own-eq0
returns-then-own-eq0 c = let a = c.args in sym (seek-none a.t.now a.own.now (decoded a.s.now a.q) c.if-own-eq0.true)

pub loop-i-init : goal.loop-i-init
loop-i-init c = let a = c.args in seek-starts a.t.now a.own.now (decoded a.s.now a.q) _ c.hash_text.ensures

pub returns-then-v-eq0 : goal.returns-then-v-eq0
returns-then-v-eq0 c = let a = c.args in let l = c.loop-i in sym (l.invariant ∙ seek-free a.t.now a.own.now (decoded a.s.now a.q) l.i c.loop-i-test.true c.if-v-eq0.true)

pub returns-then-t-v : goal.returns-then-t-v
returns-then-t-v c = let a = c.args in let l = c.loop-i in sym (l.invariant ∙ seek-unsure a.t.now a.own.now (decoded a.s.now a.q) l.i c.loop-i-test.true c.if-v-eq0.false c.if-t-v.true)

pub overflow_sub-v : goal.overflow_sub-v
overflow_sub-v c = let z = c.if-v-eq0.false in omega (arith, z)

pub is_at-requires : goal.is_at-requires
is_at-requires c = let z = c.if-t-v.false in omega (arith, z)

pub returns-then-is_at : goal.returns-then-is_at
returns-then-is_at c = let a = c.args in let l = c.loop-i in let x = decoded a.s.now a.q in sym (l.invariant ∙ seek-key a.t.now a.own.now x l.i c.loop-i-test.true c.if-v-eq0.false c.if-t-v.false _ c.is_at.ensures ∙ ap (λ (b : Bool). cond b sought.Held (seek_go a.t.now (drop (l.i + 1) a.own.now) (l.i + 1) x)) c.if-is_at.true)

pub loop-i-preserved : goal.loop-i-preserved
loop-i-preserved c = let a = c.args in let l = c.loop-i in let x = decoded a.s.now a.q in l.invariant ∙ seek-key a.t.now a.own.now x l.i c.loop-i-test.true c.if-v-eq0.false c.if-t-v.false _ c.is_at.ensures ∙ ap (λ (b : Bool). cond b sought.Held (seek_go a.t.now (drop (l.i + 1) a.own.now) (l.i + 1) x)) c.if-is_at.false

pub returns : goal.returns
returns c = let a = c.args in let l = c.loop-i in sym (l.invariant ∙ seek-end a.t.now a.own.now (decoded a.s.now a.q) l.i c.loop-i-test.false)
