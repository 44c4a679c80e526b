use mathlib.Core.Path.{sym}
use Rattle.place.proofs.Parents.{brace-open, brace-close, brace-plain, room_as, moved_as, moved-close, moved_plain}
use Rattle.place.proofs.brace.Goals as goal

pub enter-requires : goal.enter-requires
enter-requires c = room_as (brace-open c.args.b c.if-b-eq123.true) c.requires

pub returns-then-b-eq123 : goal.returns-then-b-eq123
returns-then-b-eq123 c = moved_as (sym (brace-open c.args.b c.if-b-eq123.true)) c.enter.ensures

pub returns-then-b-eq125 : goal.returns-then-b-eq125
returns-then-b-eq125 c = moved_as (sym (brace-close c.args.b c.if-b-eq125.true)) (moved-close c.args.c c.args.up.now c.args.n c.requires.known c.around-a.result c.around-a.ensures)

pub returns : goal.returns
returns c = moved_as (sym (brace-plain c.args.b c.if-b-eq123.false c.if-b-eq125.false)) (moved_plain c.args.c c.args.up.now c.args.n c.requires.known)
