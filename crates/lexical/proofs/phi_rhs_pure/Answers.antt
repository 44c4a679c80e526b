use Rattle.std.proofs.Common.{ℕ, ap, ◌∙◌}
use Rattle.lexical.specs.Lex.{leaves}
use Rattle.lexical.specs.Inner.Phi.{sees_all, unseen}
use Rattle.lexical.proofs.EachLaws.{step_of, goes, stops, front}
use Rattle.lexical.proofs.PhiLaws.{PhiInv, phi-start, phi-next, phi-end}
use Rattle.lexical.proofs.phi_rhs_pure.Goals as goal

pub loop-token-init : goal.loop-token-init
loop-token-init c =
    let s = c.args.s.now in
    let k = c.each-token-items.ensures in
    front (λ i t. PhiInv s i t unseen) c.into_iter-token-iterator.ensures.into_iter_gives k.text k.front (phi-start s) k.none_left

pub loop-token-preserved : goal.loop-token-preserved
loop-token-preserved c =
    let l = c.loop-token in
    let k = c.in-Some.token in
    let g = goes l.invariant.0 c.in-Some.ensures.steps in
    (g.0, phi-next l.invariant.1 (step_of k c.next.new.self) g.1.step g.1.starts c.see_left-seen.result (c.see_left-seen.ensures ∙ ap (λ (b : ℕ). sees_all l.seen (leaves k.kind b)) g.1.byte))

pub returns : goal.returns
returns c = let l = c.loop-token in phi-end l.invariant.1 (stops l.invariant.0 c.in-None.ensures.steps)
