use Rattle.calls.proofs.Notes.{read_past, read_kept, read-put}
use Rattle.calls.proofs.later.note_read.Goals as goal

pub returns-then-near-v : goal.returns-then-near-v
returns-then-near-v c = let a = c.args in read_past a.own.now a.near.now a.reg.0 a.c a.h _ c.slot-v.ensures c.if-near-v.true

pub returns-then-h-near : goal.returns-then-h-near
returns-then-h-near c = let a = c.args in read_kept a.own.now a.near.now a.reg.0 a.c a.h _ c.slot-v.ensures c.if-h-near.true

pub returns : goal.returns
returns c = let a = c.args in read-put a.own.now a.near.now a.reg.0 a.c a.h _ c.slot-v.ensures c.if-h-near.false
