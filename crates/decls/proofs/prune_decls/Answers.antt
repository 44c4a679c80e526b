use Prim.Native.Nat.{ℕ}
use mathlib.Core.Path.{ap, ◌∙◌}
use lib.ListN.{length, replicate}
use Rattle.decls.proofs.SeenLaws.{wiped-most}
use Rattle.decls.proofs.prune_decls.Goals as goal

pub prune_with-n-requires : goal.prune_with-n-requires
prune_with-n-requires c = (wiped-most (length c.args.seen.now) _ c.wipe.ensures, c.requires)

pub returns : goal.returns
returns c =
    record { answer = c.prune_with-n.ensures.answer; memory = c.wipe-2.ensures ∙ ap (λ (n : ℕ). replicate n 0) (c.prune_with-n.auto.seen ∙ c.wipe.auto.table); moves = c.prune_with-n.ensures.moves }
