use Rattle.origins.proofs.Notes.{stay-part}
use Rattle.origins.proofs.stay.Goals as goal

pub returns : goal.returns
returns c = let a = c.args in stay-part a.moves.now _ a.k a.n c.requires c.wipe_words.ensures
