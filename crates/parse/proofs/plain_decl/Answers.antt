use native.Mathlib.Omega.{arith}
use Rattle.lines.proofs.Tests.{no}
use Rattle.parse.proofs.Shut.{plain-decl-is}
use Rattle.parse.proofs.plain_decl.Goals as goal

pub returns-then-n-lt6 : goal.returns-then-n-lt6
returns-then-n-lt6 c = λ h. no h

pub returns-then-n-a : goal.returns-then-n-a
returns-then-n-a c = λ h. no h

pub returns-then-not-line-a : goal.returns-then-not-line-a
returns-then-not-line-a c = λ h. no h

pub returns-then-line-n-ne59 : goal.returns-then-line-n-ne59
returns-then-line-n-ne59 c = λ h. no h

pub plain_names-requires : goal.plain_names-requires
plain_names-requires c = (omega arith, c.if-line-n-ne59.false)

pub returns : goal.returns
returns c =
    let f = c.before.before.before.before.before.before.before.before.before.before.before in
    λ h. plain-decl-is f.args.line.now f.args.a (omega arith) (c.if-not-line-a.false) f.requires c.if-line-n-ne59.false (c.plain_names.ensures h)
