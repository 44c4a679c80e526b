use Rattle.lexical.proofs.MildLaws.{mild-at}
use Rattle.lexical.proofs.mild_eight.Goals as goal

pub returns : goal.returns
returns c =
    let a = c.before.before.before.before.before.before.before.before.before.before.before.before.before.before.before.before.before in
    rw (c.is_mild.ensures, c.is_mild-2.ensures, c.is_mild-3.ensures, c.is_mild-4.ensures, c.is_mild-5.ensures, c.is_mild-6.ensures, c.is_mild-7.ensures, c.is_mild-8.ensures) (mild-at a.args.s.now a.args.j a.requires)
