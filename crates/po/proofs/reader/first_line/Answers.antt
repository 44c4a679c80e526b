use mathlib.Core.Path.{refl}
use Rattle.po.proofs.StateLaws.{at_first}
use Rattle.po.proofs.reader.first_line.Goals as goal

pub returns : goal.returns
returns c =
    record { at = at_first c.args.file.now c.find_byte-end.result c.find_byte-end.ensures; number_value = (refl, refl) }
