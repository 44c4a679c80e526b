use Rattle.text.proofs.Trims.{back-told}
use Rattle.text.proofs.trim_to.Goals as goal

pub returns-then-c-lt128 : goal.returns-then-c-lt128
returns-then-c-lt128 c = let k = c.spaces_back-e.ensures in back-told _ _ _ k.0 k.1 c.back-c.ensures c.if-c-gt32.true c.if-c-lt128.true
