-- Each public function of crate names: its contract fixes its outcome. Assumes nothing.
use mathlib.Core.Path.{sym, ◌∙◌}
use Rattle.names.proofs as names
use Rattle.names.specs.contracts as said
use Rattle.determined.proofs.Outcomes.{Determined, fixed}

pub read-number-fixed : Determined said.read_number.ended (λ κs z. z) names.read_number.Reads.ensures
read-number-fixed = fixed names.read_number.Reads.Learnt (λ κs a x y l m. l ∙ sym m)

pub skip-zeros-fixed : Determined said.skip_zeros.ended (λ κs z. z) names.skip_zeros.Reads.ensures
skip-zeros-fixed = fixed names.skip_zeros.Reads.Learnt (λ κs a x y l m. l ∙ sym m)

pub reg-name-fixed : Determined said.reg_name.ended (λ κs z. z) names.reg_name.Reads.ensures
reg-name-fixed = fixed names.reg_name.Reads.Learnt (λ κs a x y l m. l ∙ sym m)

pub phi-name-fixed : Determined said.phi_name.ended (λ κs z. z) names.phi_name.Reads.ensures
phi-name-fixed = fixed names.phi_name.Reads.Learnt (λ κs a x y l m. l ∙ sym m)

pub is-temp-name-fixed : Determined said.is_temp_name.ended (λ κs z. z) names.is_temp_name.Reads.ensures
is-temp-name-fixed = fixed names.is_temp_name.Reads.Learnt (λ κs a x y l m. l ∙ sym m)

pub names-reg-fixed : Determined said.names_reg.ended (λ κs z. z) names.names_reg.Reads.ensures
names-reg-fixed = fixed names.names_reg.Reads.Learnt (λ κs a x y l m. l ∙ sym m)

pub is-reg-text-fixed : Determined said.is_reg_text.ended (λ κs z. z) names.is_reg_text.Reads.ensures
is-reg-text-fixed = fixed names.is_reg_text.Reads.Learnt (λ κs a x y l m. l ∙ sym m)

pub is-phi-text-fixed : Determined said.is_phi_text.ended (λ κs z. z) names.is_phi_text.Reads.ensures
is-phi-text-fixed = fixed names.is_phi_text.Reads.Learnt (λ κs a x y l m. l ∙ sym m)

pub is-simple-ident-fixed : Determined said.is_simple_ident.ended (λ κs z. z) names.is_simple_ident.Reads.ensures
is-simple-ident-fixed = fixed names.is_simple_ident.Reads.Learnt (λ κs a x y l m. l ∙ sym m)
