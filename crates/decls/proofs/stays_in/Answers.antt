use mathlib.Core.Path.{ap, ◌∙◌}
use Rattle.lines.specs.Lf.{lines_of}
use Rattle.decls.specs.Inner.Seen.{seen_stays}
use Rattle.decls.proofs.stays_in.Goals as goal

pub returns-in-Some : goal.returns-in-Some
returns-in-Some c = let a = c.args in c.used_in.ensures ∙ ap (seen_stays a.own.now a.m a.seen.now (lines_of a.region.now)) c.in-Some.ensures

pub returns-in-None : goal.returns-in-None
returns-in-None c = let a = c.args in ap (seen_stays a.own.now a.m a.seen.now (lines_of a.region.now)) c.in-None.ensures
