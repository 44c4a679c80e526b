use mathlib.Core.Path.{sym, ◌∙◌}
use Rattle.place.proofs.Tables.{path-cur, path_room, path-moved}
use Rattle.place.proofs.Flats.{flat_line}
use Rattle.place.proofs.path_line.Goals as goal

pub returns-then-is_flat : goal.returns-then-is_flat
returns-then-is_flat c = flat_line c.args.line.now (sym c.is_flat.ensures ∙ c.if-is_flat.true) c.args.seen c.requires

pub path_open-x-requires : goal.path_open-x-requires
path_open-x-requires c = path_room c.args.line.now _ c.trim-t.ensures.0 c.requires c.path_closes.ensures c.outward-b.ensures

pub returns : goal.returns
returns c =
    let a = c.before.before.before.before.before.before.before.before.before.before.before.before.before in
    let p = c.trim-t.ensures.0 in
    let k = c.path_closes.ensures in
    let o = c.outward-b.ensures in
    (path-cur a.args.line.now _ p a.requires k o, (path-moved a.args.line.now _ p a.requires k o c.path_open-x.ensures, c.loop_by.ensures))
