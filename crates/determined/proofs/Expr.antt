-- Each public function of crate expr: its contract fixes its outcome. Assumes nothing.
use mathlib.Core.Path.{sym, ◌∙◌}
use Rattle.lines.proofs.OutLaws.{wrote-once}
use Rattle.expr.proofs as expr
use Rattle.expr.specs.contracts as said
use Rattle.determined.proofs.Outcomes.{Determined, fixed, fixed-by, one, more}

pub strip-comments-fixed : Determined said.strip_comments.ended (λ κs z. z) expr.strip_comments.Reads.ensures
strip-comments-fixed = fixed expr.strip_comments.Reads.Learnt (λ κs a x y l m. wrote-once l m)

pub is-pure-fixed : Determined said.is_pure.ended (λ κs z. z) expr.is_pure.Reads.ensures
is-pure-fixed = fixed expr.is_pure.Reads.Learnt (λ κs a x y l m. l ∙ sym m)

pub purity-fixed : Determined said.purity.ended (λ κs z. z) expr.purity.Reads.ensures
purity-fixed = fixed-by expr.purity.Reads.Learnt (λ w κs a x. more w (one w)) (λ κs a x y l m. (l.1 ∙ sym m.1, l.0 ∙ sym m.0))
