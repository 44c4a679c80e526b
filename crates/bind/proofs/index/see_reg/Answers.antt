use Rattle.bind.proofs.IndexLaws.{entry-put, entry_past, seen-place, again-past, again-low, again-high}
use native.Mathlib.Omega.{arith}
use Rattle.bind.proofs.index.see_reg.Goals as goal

pub returns-then-first-v : goal.returns-then-first-v
returns-then-first-v c =
    let a = c.args in
    let s = c.requires in
    let p = c.slot-v.ensures in
    let q = seen-place a.own.now a.m a.b a.reg.0 a.seen.now a.first.now s p in
    record { marked = entry_past a.own.now a.reg.0 a.seen.now q a.m (omega (arith, s, c.if-first-v.true)); again = again-past a.own.now a.m a.b a.reg.0 a.seen.now a.first.now s p c.if-first-v.true }

pub returns-then-x-m : goal.returns-then-x-m
returns-then-x-m c =
    let a = c.args in
    let s = c.requires in
    let p = c.slot-v.ensures in
    let q = seen-place a.own.now a.m a.b a.reg.0 a.seen.now a.first.now s p in
    record { marked = entry-put a.own.now a.reg.0 a.seen.now q a.m; again = again-low a.own.now a.m a.b a.reg.0 a.seen.now a.first.now s p c.if-x-m.true }

pub returns : goal.returns
returns c =
    let a = c.args in
    let s = c.requires in
    let p = c.slot-v.ensures in
    let q = seen-place a.own.now a.m a.b a.reg.0 a.seen.now a.first.now s p in
    record { marked = entry-put a.own.now a.reg.0 a.seen.now q a.m; again = again-high a.own.now a.m a.b a.reg.0 a.seen.now a.first.now s p c.if-x-m.false }
