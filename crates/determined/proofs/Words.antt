-- Each public function of crate words: its contract fixes its outcome. Assumes nothing.
use mathlib.Core.Path.{sym, ◌∙◌}
use Rattle.lines.proofs.OutLaws.{wrote-once}
use Rattle.words.proofs as words
use Rattle.words.specs.contracts as said
use Rattle.determined.proofs.Outcomes.{Determined, fixed}

pub run-end-fixed : Determined said.run_end.ended (λ κs z. z) words.run_end.Reads.ensures
run-end-fixed = fixed words.run_end.Reads.Learnt (λ κs a x y l m. l ∙ sym m)

pub reg-start-fixed : Determined said.reg_start.ended (λ κs z. z) words.reg_start.Reads.ensures
reg-start-fixed = fixed words.reg_start.Reads.Learnt (λ κs a x y l m. l ∙ sym m)

pub count-reg-fixed : Determined said.count_reg.ended (λ κs z. z) words.count_reg.Reads.ensures
count-reg-fixed = fixed words.count_reg.Reads.Learnt (λ κs a x y l m. l ∙ sym m)

pub count-word-fixed : Determined said.count_word.ended (λ κs z. z) words.count_word.Reads.ensures
count-word-fixed = fixed words.count_word.Reads.Learnt (λ κs a x y l m. l ∙ sym m)

pub count-phi-fixed : Determined said.count_phi.ended (λ κs z. z) words.count_phi.Reads.ensures
count-phi-fixed = fixed words.count_phi.Reads.Learnt (λ κs a x y l m. l ∙ sym m)

pub find-reg-fixed : Determined said.find_reg.ended (λ κs z. z) words.find_reg.Reads.ensures
find-reg-fixed = fixed words.find_reg.Reads.Learnt (λ κs a x y l m. l ∙ sym m)

pub after-new-fixed : Determined said.after_new.ended (λ κs z. z) words.after_new.Reads.ensures
after-new-fixed = fixed words.after_new.Reads.Learnt (λ κs a x y l m. l ∙ sym m)

pub as-target-fixed : Determined said.as_target.ended (λ κs z. z) words.as_target.Reads.ensures
as-target-fixed = fixed words.as_target.Reads.Learnt (λ κs a x y l m. l ∙ sym m)

pub put-replaced-fixed : Determined said.put_replaced.ended (λ κs z. z) words.put_replaced.Reads.ensures
put-replaced-fixed = fixed words.put_replaced.Reads.Learnt (λ κs a x y l m. wrote-once l m)
