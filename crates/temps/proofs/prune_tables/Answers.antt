use Rattle.std.proofs.Common.{length, ap, ◌∙◌}
use Rattle.lines.specs.Lf.{lines_of}
use Rattle.temps.specs.Inner.Table.{flag_decls, reads_if}
use Rattle.temps.proofs.TableLaws.{tells-declared, tells-read}
use Rattle.temps.proofs.prune_tables.Goals as goal

pub prune_with-requires : goal.prune_with-requires
prune_with-requires c =
    let p = c.requires in
    let ls = lines_of c.args.text.now in
    let k = length c.args.read.now in
    let o = c.claim_decls.new.own in
    let d = c.flag_decls.ensures ∙ ap (flag_decls o ls) p.0.0 in
    let u = c.flag_used.ensures ∙ ap (reads_if o c.flag_decls.new.table ls) p.0.1 in
    ((p.1.0, (tells-declared o ls k _ d, tells-read o ls k _ _ d u)), p.1.1)
