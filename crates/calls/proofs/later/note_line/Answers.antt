use Rattle.calls.proofs.Notes.{line-noted}
use Rattle.calls.proofs.later.note_line.Goals as goal

pub returns : goal.returns
returns c =
    let a = c.args in
    let whole = line-noted a.own.now a.line.now a.k a.c a.h a.near.now a.stores.now a.notes.now c.parse-p.ensures c.put_line_note.ensures c.enter_store.ensures c.enter_store-2.ensures c.text_of.ensures c.note_runs.ensures in
    record { reads = whole.0; stores = whole.1.0; notes = whole.1.1 }
