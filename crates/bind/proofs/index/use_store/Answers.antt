use Rattle.bind.proofs.IndexLaws.{store-used}
use Rattle.bind.proofs.index.use_store.Goals as goal

pub returns : goal.returns
returns c = let a = c.args in store-used a.own.now a.b a.c a.line.now a.first.now _ _ c.value_of.result.now a.s c.store_reg.ensures c.value_of.ensures c.read_runs.ensures
