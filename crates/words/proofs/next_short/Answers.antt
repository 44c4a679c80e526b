use mathlib.Core.Path.{sym, ◌∙◌}
use Rattle.words.proofs.Short.{short-start, short_none, short_on, short-end, short-found}
use Rattle.words.proofs.next_short.Goals as goal

pub returns-then-s-i : goal.returns-then-s-i
returns-then-s-i c =
    let a = c.args in
    let p = c.requires in
    short_none a.d p.0 p.1 a.s.now a.i c.if-s-i.true

pub loop-j-init : goal.loop-j-init
loop-j-init c =
    let a = c.args in
    let p = c.requires in
    short-start a.d p.0 p.1 a.s.now a.i c.find_byte-j.result c.if-s-i.false c.find_byte-j.ensures

pub returns-then-short_at : goal.returns-then-short_at
returns-then-short_at c =
    let a = c.args in
    let p = c.requires in
    short-found a.d p.0 p.1 a.s.now a.i c.loop-j.invariant c.loop-j-test.true (sym c.short_at.ensures ∙ c.if-short_at.true)

pub loop-j-preserved : goal.loop-j-preserved
loop-j-preserved c =
    let a = c.args in
    let p = c.requires in
    short_on a.d p.0 p.1 a.s.now a.i c.loop-j.invariant c.loop-j-test.true (sym c.short_at.ensures ∙ c.if-short_at.false) _ c.find_byte-j-in-loop-j.ensures

pub returns : goal.returns
returns c =
    let a = c.args in
    let p = c.requires in
    short-end a.d p.0 p.1 a.s.now a.i c.loop-j.invariant c.loop-j-test.false
