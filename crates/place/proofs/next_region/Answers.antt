use mathlib.Core.Path.{sym, ◌∙◌}
use Rattle.place.proofs.Regions.{space-head}
use Rattle.place.proofs.Numbers.{next-same, next-new, next-most}
use Rattle.place.proofs.next_region.Goals as goal

pub returns-then-byte_at-eq32 : goal.returns-then-byte_at-eq32
returns-then-byte_at-eq32 c = next-same c.args.r.0 c.args.line.now (sym (space-head c.args.line.now c.byte_at.result c.byte_at.ensures c.if-byte_at-eq32.true))

pub returns-then-not-opens_region : goal.returns-then-not-opens_region
returns-then-not-opens_region c = next-same c.args.r.0 c.args.line.now (sym c.opens_region.ensures ∙ c.if-not-opens_region.true)

pub returns-then-r-lt18446744073709551615 : goal.returns-then-r-lt18446744073709551615
returns-then-r-lt18446744073709551615 c = next-new c.args.r.0 c.args.line.now (sym c.opens_region.ensures ∙ c.if-not-opens_region.false) c.if-r-lt18446744073709551615.true

pub returns : goal.returns
returns c = next-most c.args.r.0 c.args.line.now (sym c.opens_region.ensures ∙ c.if-not-opens_region.false) c.if-r-lt18446744073709551615.false
