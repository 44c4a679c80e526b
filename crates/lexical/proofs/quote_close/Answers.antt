use Rattle.std.proofs.Common.{refl, sym, ◌∙◌, arith}
use Rattle.lexical.proofs.EndLaws.{quote-after, quote-close, quote-more, quote-none}
use Rattle.lexical.proofs.ShutLaws.{shut-after, shut-close, shut-more, shut_none}
use Rattle.lexical.proofs.quote_close.Goals as goal

pub loop-j-init : goal.loop-j-init
loop-j-init c = record { on = omega arith; inside = omega arith; shut = refl; len = refl }

pub loop-j-smaller-then-b-eq92 : goal.loop-j-smaller-then-b-eq92
loop-j-smaller-then-b-eq92 c = omega (arith, c.after-j.ensures)

pub loop-j-preserved-then-b-eq92 : goal.loop-j-preserved-then-b-eq92
loop-j-preserved-then-b-eq92 c =
    let a = c.args in
    let l = c.loop-j in
    let v = l.invariant in
    record {
      on = omega (arith, v.on, c.after-j.ensures);
      inside = omega (arith, v.on, c.after-j.ensures);
      shut = sym (shut-after a.q a.s.now l.j _ c.after-j.ensures c.loop-j-test.true c.if-b-eq92.true) ∙ v.shut;
      len = sym (quote-after a.q a.s.now l.j _ c.after-j.ensures c.loop-j-test.true c.if-b-eq92.true) ∙ v.len;
    }

pub returns-then-b-q : goal.returns-then-b-q
returns-then-b-q c =
    let a = c.args in
    let l = c.loop-j in
    let v = l.invariant in (
      sym v.shut ∙ shut-close a.q a.s.now l.j c.loop-j-test.true c.if-b-eq92.false c.if-b-q.true,
      sym (quote-close a.q a.s.now l.j c.loop-j-test.true c.if-b-eq92.false c.if-b-q.true) ∙ v.len,
    )

pub loop-j-preserved : goal.loop-j-preserved
loop-j-preserved c =
    let a = c.args in
    let l = c.loop-j in
    let v = l.invariant in
    record {
      on = omega (arith, v.on);
      inside = omega (arith, v.on);
      shut = sym (shut-more a.q a.s.now l.j c.loop-j-test.true c.if-b-eq92.false c.if-b-q.false) ∙ v.shut;
      len = sym (quote-more a.q a.s.now l.j c.loop-j-test.true c.if-b-eq92.false c.if-b-q.false) ∙ v.len;
    }

pub returns : goal.returns
returns c =
    let a = c.args in
    let l = c.loop-j in
    let v = l.invariant in (
      sym v.shut ∙ shut_none a.q a.s.now l.j c.loop-j-test.false,
      omega (arith, v.on, v.inside, v.len, quote-none a.q a.s.now l.j c.loop-j-test.false),
    )
