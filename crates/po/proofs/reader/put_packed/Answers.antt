use native.Mathlib.Omega.{arith}
use mathlib.Core.Path.{ap}
use Rattle.lines.specs.Lf.{low_bytes}
use Rattle.lines.proofs.OutLaws.{wrote_then, wrote_as, wrote-length}
use Rattle.po.specs.Found.{decoded}
use Rattle.po.proofs.StateLaws.{packed-length, low-length}
use Rattle.po.proofs.reader.put_packed.Goals as goal

pub put_size-p-requires : goal.put_size-p-requires
put_size-p-requires c = let a = c.args in omega (arith, c.requires, packed-length (decoded a.s.now a.q))

pub put_plain-requires : goal.put_plain-requires
put_plain-requires c = let a = c.args in let w = c.put_size-p in omega (arith, c.requires, packed-length (decoded a.s.now a.q), w.ensures.place, wrote-length w.ensures, low-length 8 c.plain_len.result)

pub returns : goal.returns
returns c = wrote_then (wrote_as (ap (low_bytes 8) c.plain_len.ensures) c.put_size-p.ensures) c.put_plain.ensures
