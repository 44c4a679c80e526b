-- Each public function of crate forms: its contract fixes its outcome. Assumes nothing.
use mathlib.Core.Path.{sym, ◌∙◌}
use Rattle.lines.proofs.OutLaws.{wrote-once}
use Rattle.forms.proofs as forms
use Rattle.forms.specs.contracts as said
use Rattle.determined.proofs.Outcomes.{Determined, fixed}

pub is-control-header-fixed : Determined said.is_control_header.ended (λ κs z. z) forms.is_control_header.Reads.ensures
is-control-header-fixed = fixed forms.is_control_header.Reads.Learnt (λ κs a x y l m. l ∙ sym m)

pub is-plain-ref-fixed : Determined said.is_plain_ref.ended (λ κs z. z) forms.is_plain_ref.Reads.ensures
is-plain-ref-fixed = fixed forms.is_plain_ref.Reads.Learnt (λ κs a x y l m. l ∙ sym m)

pub is-primary-expr-fixed : Determined said.is_primary_expr.ended (λ κs z. z) forms.is_primary_expr.Reads.ensures
is-primary-expr-fixed = fixed forms.is_primary_expr.Reads.Learnt (λ κs a x y l m. l ∙ sym m)

pub bare-fixed : Determined said.bare.ended (λ κs z. z) forms.bare.Reads.ensures
bare-fixed = fixed forms.bare.Reads.Learnt (λ κs a x y l m. l ∙ sym m)

pub put-paren-fixed : Determined said.put_paren.ended (λ κs z. z) forms.put_paren.Reads.ensures
put-paren-fixed = fixed forms.put_paren.Reads.Learnt (λ κs a x y l m. wrote-once l m)

pub breaks-fixed : Determined said.breaks.ended (λ κs z. z) forms.breaks.Reads.ensures
breaks-fixed = fixed forms.breaks.Reads.Learnt (λ κs a x y l m. l ∙ sym m)
