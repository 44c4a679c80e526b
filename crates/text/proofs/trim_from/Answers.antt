use Rattle.text.proofs.Trims.{front-told}
use Rattle.text.proofs.trim_from.Goals as goal

pub returns-then-a-lt128 : goal.returns-then-a-lt128
returns-then-a-lt128 c = let k = c.spaces-i.ensures in front-told _ _ _ k.0 k.1 c.byte-a.ensures c.if-a-gt32.true c.if-a-lt128.true
