use mathlib.Core.Path.{sym}
use Rattle.once.proofs.Scratches.{member-none, member-some}
use Rattle.once.proofs.is_member.Goals as goal

pub returns-then-k-n : goal.returns-then-k-n
returns-then-k-n c = sym (member-none c.args.x.now c.find_byte-k.result c.find_byte-k.ensures c.if-k-n.true)

pub returns : goal.returns
returns c = rw (c.is_simple_ident.ensures, c.is_simple_ident-2.ensures, c.cut.ensures, c.cut-2.ensures) (member-some c.args.x.now c.find_byte-k.result c.find_byte-k.ensures c.if-k-n.false)
