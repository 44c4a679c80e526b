use Rattle.std.proofs.Common.{◌≡◌, ◌∙◌, ap, length, arith}
use Rattle.lines.specs.Lf.{low_bytes}
use Rattle.po.proofs.StateLaws.{low-length, low_eight}
use Rattle.po.proofs.reader.put_size.Goals as goal

pub put-requires : goal.put-requires
put-requires c = let a = c.args in omega (arith, c.requires, low-length 8 a.n, ap length (c.to_le_bytes.ensures ∙ low_eight a.n))

pub returns : goal.returns
returns c = let e : c.to_le_bytes.result ≡ low_bytes 8 c.args.n = c.to_le_bytes.ensures ∙ low_eight c.args.n in rw (← e) c.put.ensures
