use Rattle.po.specs.Found.{decoded}
use Rattle.po.proofs.IndexLaws.{entered_by}
use Rattle.po.proofs.index.meet.Goals as goal

pub seek-found-requires : goal.seek-found-requires
seek-found-requires c = tt

pub free_or-i-requires : goal.free_or-i-requires
free_or-i-requires c = tt

pub hint_of-requires : goal.hint_of-requires
hint_of-requires c = tt

pub put_entry-requires : goal.put_entry-requires
put_entry-requires c = tt

pub returns : goal.returns
returns c =
    let a = c.args in
    record { value = c.seek-found.ensures; own_after = entered_by a.t.now a.p (decoded a.s.now a.q) a.own.now c.seek-found.ensures c.free_or-i.ensures c.hint_of.ensures c.put_entry.ensures }
