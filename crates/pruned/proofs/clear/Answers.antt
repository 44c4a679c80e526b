use Rattle.pruned.proofs.EntryCode.{blanked}
use Rattle.pruned.proofs.clear.Goals as goal

pub returns : goal.returns
returns c = ((blanked c.wipe.ensures, blanked c.wipe-2.ensures), (blanked c.wipe-3.ensures, blanked c.wipe-4.ensures))
