use Rattle.std.proofs.Common.{arith, inl}
use Rattle.optview.proofs.Counts.{along-short}
use Rattle.optview.proofs.chain.Chain.len.Goals as goal

pub count-requires-clause-fits : goal.count-requires-clause-fits
count-requires-clause-fits c = inl (omega (arith, along-short c.args.self.end c.args.self.next.now c.args.self.left c.args.self.at, c.well_formed.0.1.1.1.0))
