use mathlib.Core.Path.{sym, ap}
use Rattle.reading.specs.Uses.{stores_by}
use Rattle.reading.proofs.stores_in.Goals as goal

pub returns-in-Store : goal.returns-in-Store
returns-in-Store c = sym (ap (stores_by c.args.reg.0) c.in-Store.is)
