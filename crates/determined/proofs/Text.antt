-- Each public function of crate text: its contract fixes its outcome. Assumes nothing.
use mathlib.Core.Path.{sym, ◌∙◌}
use Rattle.text.proofs as text
use Rattle.text.specs.contracts as said
use Rattle.determined.proofs.Outcomes.{Determined, fixed}

pub is-name-byte-fixed : Determined said.is_name_byte.ended (λ κs z. z) text.is_name_byte.Reads.ensures
is-name-byte-fixed = fixed text.is_name_byte.Reads.Learnt (λ κs a x y l m. l ∙ sym m)

pub is-quote-fixed : Determined said.is_quote.ended (λ κs z. z) text.is_quote.Reads.ensures
is-quote-fixed = fixed text.is_quote.Reads.Learnt (λ κs a x y l m. l ∙ sym m)

pub opens-pattern-fixed : Determined said.opens_pattern.ended (λ κs z. z) text.opens_pattern.Reads.ensures
opens-pattern-fixed = fixed text.opens_pattern.Reads.Learnt (λ κs a x y l m. l ∙ sym m)

pub is-white-fixed : Determined said.is_white.ended (λ κs z. z) text.is_white.Reads.ensures
is-white-fixed = fixed text.is_white.Reads.Learnt (λ κs a x y l m. l ∙ sym m)

pub seq-at-fixed : Determined said.seq_at.ended (λ κs z. z) text.seq_at.Reads.ensures
seq-at-fixed = fixed text.seq_at.Reads.Learnt (λ κs a x y l m. l ∙ sym m)

pub check-utf8-fixed : Determined said.check_utf8.ended (λ κs z. z) text.check_utf8.Reads.ensures
check-utf8-fixed = fixed text.check_utf8.Reads.Learnt (λ κs a x y l m. l ∙ sym m)

pub trim-from-fixed : Determined said.trim_from.ended (λ κs z. z) text.trim_from.Reads.ensures
trim-from-fixed = fixed text.trim_from.Reads.Learnt (λ κs a x y l m. l ∙ sym m)

pub trim-to-fixed : Determined said.trim_to.ended (λ κs z. z) text.trim_to.Reads.ensures
trim-to-fixed = fixed text.trim_to.Reads.Learnt (λ κs a x y l m. l ∙ sym m)

pub trim-start-fixed : Determined said.trim_start.ended (λ κs z. z.now) text.trim_start.Reads.ensures
trim-start-fixed = fixed text.trim_start.Reads.Learnt (λ κs a x y l m. l ∙ sym m)

pub trim-end-fixed : Determined said.trim_end.ended (λ κs z. z.now) text.trim_end.Reads.ensures
trim-end-fixed = fixed text.trim_end.Reads.Learnt (λ κs a x y l m. l ∙ sym m)

pub trim-fixed : Determined said.trim.ended (λ κs z. z.now) text.trim.Reads.ensures
trim-fixed = fixed text.trim.Reads.Learnt (λ κs a x y l m. l.0 ∙ sym m.0)

pub trim-span-fixed : Determined said.trim_span.ended (λ κs z. z) text.trim_span.Reads.ensures
trim-span-fixed = fixed text.trim_span.Reads.Learnt (λ κs a x y l m. λ i. record { from = (l.0 ∙ sym m.0) i; to = (l.1 ∙ sym m.1) i })
