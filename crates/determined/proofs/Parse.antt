-- Each public function of crate parse: its contract fixes its outcome. Assumes nothing.
use mathlib.Core.Path.{sym, ◌∙◌}
use Rattle.parse.proofs as parse
use Rattle.parse.specs.contracts as said
use Rattle.determined.proofs.Outcomes.{Determined, fixed}

pub is-decl-fixed : Determined said.is_decl.ended (λ κs z. z) parse.is_decl.Reads.ensures
is-decl-fixed = fixed parse.is_decl.Reads.Learnt (λ κs a x y l m. l ∙ sym m)

pub declares-fixed : Determined said.declares.ended (λ κs z. z) parse.declares.Reads.ensures
declares-fixed = fixed parse.declares.Reads.Learnt (λ κs a x y l m. l ∙ sym m)

pub parse-fixed : Determined said.parse.ended (λ κs z. z) parse.parse.Reads.ensures
parse-fixed = fixed parse.parse.Reads.Learnt (λ κs a x y l m. l ∙ sym m)

pub value-of-fixed : Determined said.value_of.ended (λ κs z. z.now) parse.value_of.Reads.ensures
value-of-fixed = fixed parse.value_of.Reads.Learnt (λ κs a x y l m. l ∙ sym m)

pub text-of-fixed : Determined said.text_of.ended (λ κs z. z.now) parse.text_of.Reads.ensures
text-of-fixed = fixed parse.text_of.Reads.Learnt (λ κs a x y l m. l ∙ sym m)
