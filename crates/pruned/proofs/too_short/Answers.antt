use Rattle.pruned.specs.Judged.{judged_size}
use borrow.Author.Tests.{lt-ltb, le-ltb}
use Rattle.pruned.proofs.too_short.Goals as goal

pub returns-then-a-lt-BYTES : goal.returns-then-a-lt-BYTES
returns-then-a-lt-BYTES c = rw (lt-ltb c.args.a judged_size c.if-a-lt-BYTES.true)

pub returns-then-b-lt-BYTES : goal.returns-then-b-lt-BYTES
returns-then-b-lt-BYTES c = rw (le-ltb c.args.a judged_size c.if-a-lt-BYTES.false, lt-ltb c.args.b judged_size c.if-b-lt-BYTES.true)

pub returns-then-c-lt-BYTES : goal.returns-then-c-lt-BYTES
returns-then-c-lt-BYTES c = rw (le-ltb c.args.a judged_size c.if-a-lt-BYTES.false, le-ltb c.args.b judged_size c.if-b-lt-BYTES.false, lt-ltb c.args.c judged_size c.if-c-lt-BYTES.true)

pub returns : goal.returns
returns c = rw (le-ltb c.args.a judged_size c.if-a-lt-BYTES.false, le-ltb c.args.b judged_size c.if-b-lt-BYTES.false, le-ltb c.args.c judged_size c.if-c-lt-BYTES.false)
