use mathlib.Core.Path.{refl}
use Rattle.bind.specs.Inner.Sites.{first_site}
use Rattle.bind.proofs.first_site.Goals as goal

pub returns : goal.returns
unfolding first_site
returns c = refl
