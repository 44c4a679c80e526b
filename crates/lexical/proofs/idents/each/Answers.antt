use Rattle.std.proofs.Common.{refl}
use Rattle.lexical.specs.Idents.{words_in}
use Rattle.lexical.specs.Inner.Words.{words_from}
use Rattle.lexical.proofs.idents.each.Goals as goal

pub returns : goal.returns
unfolding words_in words_from
returns c = refl
