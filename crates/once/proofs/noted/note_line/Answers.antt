use mathlib.Core.Path.{ap, ◌∙◌}
use lib.ListN.{length}
use Rattle.once.proofs.NoteFills.{alone-length, line-reads}
use Rattle.once.proofs.noted.note_line.Goals as goal

pub note_store-requires : goal.note_store-requires
note_store-requires c = c.requires.1

pub note_runs-requires : goal.note_runs-requires
note_runs-requires c = ap length c.note_store.ensures.alone ∙ alone-length c.args.own.now c.args.m c.args.x c.args.p c.args.far.now ∙ c.requires.0

pub returns : goal.returns
returns c =
    record { rows = line-reads c.args.own.now c.args.line.now _ c.args.near.now c.args.far.now _ c.args.notes.now c.args.n c.args.h c.args.m c.args.x c.args.p _ c.text_of.ensures c.note_store.ensures.alone c.note_runs.ensures; stores = c.note_store.ensures.stores }
