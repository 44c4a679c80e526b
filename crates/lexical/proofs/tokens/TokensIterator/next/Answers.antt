use Rattle.std.proofs.Common.{ap, arith}
use Rattle.lexical.specs.declared.Step.{Step}
use Rattle.lexical.proofs.LexLaws.{step-on}
use Rattle.lexical.proofs.tokens.TokensIterator.next.Goals as goal

pub returns-clause-goes : goal.returns-clause-goes
returns-clause-goes c =
    let s = c.args.self.now in
    let e = ap (λ (r : Step). r.next) c.step_at-step.ensures in
    let k = step-on s.text.now s.at s.tail (omega (arith, c.if-at-text.false)) in
    record { on = λ _. (tt, tt, omega (arith, e, k)); keeps = tt; rests = λ _. tt }
