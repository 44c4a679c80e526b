use Prim.Native.Nat.{ℕ}
use mathlib.Core.Path.{ap, ◌∙◌}
use mathlib.Core.Bool.{cond}
use lib.Dec.{eqb}
use lib.ListN.{length}
use Rattle.bind.specs.Inner.Sites.{site_of}
use Rattle.bind.proofs.site_by.Goals as goal

pub end_at-end-requires : goal.end_at-end-requires
end_at-end-requires c = c.requires

pub top_at-top-requires : goal.top_at-top-requires
top_at-top-requires c = tt

pub site_at-requires : goal.site_at-requires
site_at-requires c = tt

pub returns : goal.returns
returns c = let a = c.args in c.site_at.ensures ∙ ap (λ (x : ℕ). site_of (length a.text.now) a.rec x c.end_at-end.result a.k) c.top_at-top.ensures ∙ ap (λ (x : ℕ). site_of (length a.text.now) a.rec (cond (eqb a.rec.region.0 a.c.0) a.s.top a.rec.start) x a.k) c.end_at-end.ensures
