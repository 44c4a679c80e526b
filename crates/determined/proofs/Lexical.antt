-- Each public function of crate lexical: its contract fixes its outcome. Assumes nothing.
use Prim.Native.Nat.{ℕ}
use mathlib.Core.List.{List}
use mathlib.Core.Path.{sym, ◌∙◌}
use Rattle.lexical.specs.declared.Tail.{Tail}
use Rattle.lines.proofs.OutLaws.{wrote-once}
use Rattle.lexical.proofs as lexical
use Rattle.lexical.specs.contracts as said
use Rattle.lexical.specs.Inner.Words.{words_left}
use Rattle.determined.proofs.Outcomes.{Determined, fixed, fixed-by, one, more, pair-same}

pub token-at-fixed : Determined said.token_at.ended (λ κs z. z) lexical.token_at.Reads.ensures
token-at-fixed = fixed lexical.token_at.Reads.Learnt (λ κs a x y l m. l ∙ sym m)

pub quote-end-fixed : Determined said.quote_end.ended (λ κs z. z) lexical.quote_end.Reads.ensures
quote-end-fixed = fixed lexical.quote_end.Reads.Learnt (λ κs a x y l m. l ∙ sym m)

pub quote-shut-fixed : Determined said.quote_shut.ended (λ κs z. z) lexical.quote_shut.Reads.ensures
quote-shut-fixed = fixed lexical.quote_shut.Reads.Learnt (λ κs a x y l m. l ∙ sym m)

pub push-fixed : Determined said.push.ended (λ κs z. z) lexical.push.Reads.ensures
push-fixed = fixed lexical.push.Reads.Learnt (λ κs a x y l m. l ∙ sym m)

pub step-at-fixed : Determined said.step_at.ended (λ κs z. z) lexical.step_at.Reads.ensures
step-at-fixed = fixed lexical.step_at.Reads.Learnt (λ κs a x y l m. l ∙ sym m)

pub strip-lexical-fixed : Determined said.strip_lexical.ended (λ κs z. z) lexical.strip_lexical.Reads.ensures
strip-lexical-fixed = fixed lexical.strip_lexical.Reads.Learnt (λ κs a x y l m. wrote-once l m)

pub phi-rhs-pure-fixed : Determined said.phi_rhs_pure.ended (λ κs z. z) lexical.phi_rhs_pure.Reads.ensures
phi-rhs-pure-fixed = fixed lexical.phi_rhs_pure.Reads.Learnt (λ κs a x y l m. l ∙ sym m)

pub next-word-fixed : Determined said.next_word.ended (λ κs z. z) lexical.next_word.Reads.ensures
next-word-fixed = fixed lexical.next_word.Reads.Learnt (λ κs a x y l m. l ∙ sym m)

pub plain-end-fixed : Determined said.plain_end.ended (λ κs z. z) lexical.plain_end.Reads.ensures
plain-end-fixed = fixed lexical.plain_end.Reads.Learnt (λ κs a x y l m. l ∙ sym m)

pub plain-to-fixed : Determined said.plain_to.ended (λ κs z. z) lexical.plain_to.Reads.ensures
plain-to-fixed = fixed lexical.plain_to.Reads.Learnt (λ κs a x y l m. l ∙ sym m)

pub plain-run-fixed : Determined said.plain_run.ended (λ κs z. z) lexical.plain_run.Reads.ensures
plain-run-fixed = fixed lexical.plain_run.Reads.Learnt (λ κs a x y l m. λ i. record { end = (l.0 ∙ sym m.0) i; tail = (l.1 ∙ sym m.1) i })

pub low-last-fixed : Determined said.low_last.ended (λ κs z. z) lexical.low_last.Reads.ensures
low-last-fixed = fixed lexical.low_last.Reads.Learnt (λ κs a x y l m. l ∙ sym m)

pub front-tail-fixed : Determined said.front_tail.ended (λ κs z. z) lexical.front_tail.Reads.ensures
front-tail-fixed = fixed lexical.front_tail.Reads.Learnt (λ κs a x y l m. l ∙ sym m)

pub rest-in-fixed : Determined said.rest_in.ended (λ κs z. z) lexical.rest_in.Reads.ensures
rest-in-fixed = fixed lexical.rest_in.Reads.Learnt (λ κs a x y l m. l ∙ sym m)

-- the iterators: what they go over, and where they stand
pub idents-each-fixed : Determined said.idents.each.ended (λ κs z. words_left z) lexical.idents.each.Reads.ensures
idents-each-fixed = fixed lexical.idents.each.Reads.Learnt (λ κs a x y l m. l ∙ sym m)

pub tokens-each-fixed : Determined said.tokens.each.ended {X = List ℕ × (ℕ × Tail)} (λ κs z. (z.text.now, (z.at, z.tail))) lexical.tokens.each.Reads.ensures
tokens-each-fixed = fixed-by lexical.tokens.each.Reads.Learnt (λ w κs a x. more w (more w (one w))) (λ κs a x y l m. pair-same (l.0 ∙ sym m.0) (pair-same (l.1.0 ∙ sym m.1.0) (l.1.1 ∙ sym m.1.1)))
