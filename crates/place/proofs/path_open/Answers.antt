use mathlib.Core.Path.{sym, ◌∙◌}
use Rattle.place.proofs.Parents.{room_as, moved_as, moved_none}
use Rattle.place.proofs.Tables.{open-yes, open_no}
use Rattle.place.proofs.path_open.Goals as goal

pub enter-requires : goal.enter-requires
enter-requires c = room_as (open-yes c.args.t.now (sym c.ends_open.ensures ∙ c.if-ends_open.true)) c.requires

pub returns-then-ends_open : goal.returns-then-ends_open
returns-then-ends_open c = moved_as (sym (open-yes c.args.t.now (sym c.ends_open.ensures ∙ c.if-ends_open.true))) c.enter.ensures

pub returns : goal.returns
returns c = moved_as (sym (open_no c.args.t.now (sym c.ends_open.ensures ∙ c.if-ends_open.false))) (moved_none c.args.c c.args.up.now c.args.n c.requires.known)
