use Rattle.lines.proofs.Tests.{so}
use Rattle.lines.proofs.OutLaws.{wrote-byte}
use Rattle.reader.proofs.Laws.{one-put, one_none, one-room}
use Rattle.reader.proofs.put_in.Goals as goal

pub bounds-room-k : goal.bounds-room-k
bounds-room-k c = one-room c.args.n c.args.i c.args.w c.args.room.now c.args.k (so c.is_in.ensures c.if-is_in.true) c.requires

pub returns-then-is_in : goal.returns-then-is_in
returns-then-is_in c = one-put c.args.n c.args.i c.args.w c.args.room.now c.args.k (so c.is_in.ensures c.if-is_in.true) (one-room c.args.n c.args.i c.args.w c.args.room.now c.args.k (so c.is_in.ensures c.if-is_in.true) c.requires) _ _ (wrote-byte c.args.room.now c.args.k c.args.i (one-room c.args.n c.args.i c.args.w c.args.room.now c.args.k (so c.is_in.ensures c.if-is_in.true) c.requires))

pub returns : goal.returns
returns c = one_none c.args.n c.args.i c.args.w c.args.room.now c.args.k (so c.is_in.ensures c.if-is_in.false) c.requires
