use mathlib.Core.Path.{refl}
use borrow.Author.Tests.{lt-ltb, le-ltb}
use Rattle.decls.specs.Inner.Seen.{Quiet, quiet_none}
use Rattle.decls.proofs.seen.mark_once.Goals as goal

pub returns-then-a-m : goal.returns-then-a-m
returns-then-a-m c =
    let a = c.args in
    record { answer = rw (lt-ltb a.a a.m c.if-a-m.true) (refl, (refl, quiet_none a.n)); memory = rw (lt-ltb a.a a.m c.if-a-m.true) refl }

pub returns-then-n-z : goal.returns-then-n-z
returns-then-n-z c =
    let a = c.args in
    let r = c.mark_region-z in
    let w : Quiet a.text.now a.n r.result.end = rw c.if-n-z.true r.ensures.answer.1 in
    record { answer = rw (le-ltb a.a a.m c.if-a-m.false) (refl, (r.ensures.answer.0, w)); memory = rw (le-ltb a.a a.m c.if-a-m.false) r.ensures.memory }

pub returns : goal.returns
returns c =
    let a = c.args in
    let r = c.mark_region-z in
    record { answer = rw (le-ltb a.a a.m c.if-a-m.false) (refl, (r.ensures.answer.0, quiet_none a.n)); memory = rw (le-ltb a.a a.m c.if-a-m.false) r.ensures.memory }
