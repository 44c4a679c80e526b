use borrow.Author.Rules.{rules}
use Rattle.text.proofs.Classes.{classes, class-at}
use Rattle.text.proofs.class.Goals as goal

pub returns : goal.returns
unfolding classes
returns c = class-at c.args.b (search rules)
