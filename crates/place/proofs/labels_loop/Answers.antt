use mathlib.Core.Path.{sym}
use Rattle.place.proofs.LoopTests.{label-none}
use Rattle.place.proofs.labels_loop.Goals as goal

pub returns-then-find_byte-t : goal.returns-then-find_byte-t
returns-then-find_byte-t c = sym (label-none c.args.t.now c.find_byte.result c.find_byte.ensures c.if-find_byte-t.true)

pub returns : goal.returns
returns c = rw (c.contains.ensures, c.contains-2.ensures)
