use Rattle.lexical.specs.Inner.Plain.{all_mild}
use Rattle.lexical.proofs.tame_eight.Goals as goal

pub returns : goal.returns
unfolding all_mild
returns c = rw (c.mild_eight.ensures, c.lacks_eight.ensures, c.lacks_eight-2.ensures)
