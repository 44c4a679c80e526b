use Prim.Native.Nat.{suc}
use mathlib.Core.Path.{sym, ap, ◌∙◌}
use mathlib.Core.Bool.{Bool, cond, ◌&&◌}
use native.Mathlib.Omega.{arith}
use lib.Dec.{eqb}
use Rattle.lines.proofs.Tests.{so}
use Rattle.forms.proofs.PrimaryLaws.{bare-start, bare-quote, bare-stop, bare-on, bare-end, token-some, token-in}
use Rattle.forms.proofs.no_operator.Goals as goal

pub loop-i-init : goal.loop-i-init
loop-i-init c = bare-start c.args.t.now

pub is_quote-requires : goal.is_quote-requires
is_quote-requires c = tt

pub token_at-quote-requires : goal.token_at-quote-requires
token_at-quote-requires c = tt

pub overflow_add-i : goal.overflow_add-i
overflow_add-i c = let k = c.token_at-quote in omega (arith, token-in c.args.t.now c.loop-i.i c.loop-i-test.true k.result k.ensures)

pub loop-i-smaller-then-is_quote : goal.loop-i-smaller-then-is_quote
loop-i-smaller-then-is_quote c = let k = c.token_at-quote in omega (arith, token-some c.args.t.now c.loop-i.i c.loop-i-test.true k.result k.ensures)

pub loop-i-preserved-then-is_quote : goal.loop-i-preserved-then-is_quote
loop-i-preserved-then-is_quote c = let k = c.token_at-quote in bare-quote c.loop-i.invariant c.loop-i-test.true (so c.is_quote.ensures c.if-is_quote.true) k.result k.ensures

pub is_operator-requires : goal.is_operator-requires
is_operator-requires c = tt

pub returns-then-is_operator-opened : goal.returns-then-is_operator-opened
returns-then-is_operator-opened c = bare-stop c.loop-i.invariant c.loop-i-test.true (so c.is_quote.ensures c.if-is_quote.false) (ap (λ (b : Bool). b && eqb c.loop-i.opened c.loop-i.closed) (sym c.is_operator.ensures) ∙ c.if-is_operator-opened.true)

pub opens-requires : goal.opens-requires
opens-requires c = tt

pub bump-opened-requires : goal.bump-opened-requires
bump-opened-requires c = let l = c.loop-i.invariant.o≤ in omega arith

pub closes-requires : goal.closes-requires
closes-requires c = tt

pub bump-closed-requires : goal.bump-closed-requires
bump-closed-requires c = let l = c.loop-i.invariant.c≤ in omega arith

pub loop-i-preserved : goal.loop-i-preserved
loop-i-preserved c =
    let l = c.loop-i in
    bare-on l.invariant c.loop-i-test.true (so c.is_quote.ensures c.if-is_quote.false) (ap (λ (b : Bool). b && eqb l.opened l.closed) (sym c.is_operator.ensures) ∙ c.if-is_operator-opened.false) _ _
    (c.bump-opened.ensures ∙ ap (λ (b : Bool). cond b (suc l.opened) l.opened) c.opens.ensures)
    (c.bump-closed.ensures ∙ ap (λ (b : Bool). cond b (suc l.closed) l.closed) c.closes.ensures)

pub returns : goal.returns
returns c = bare-end c.loop-i.invariant c.loop-i-test.false
