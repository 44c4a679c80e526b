use mathlib.Core.Path.{sym, ◌∙◌}
use mathlib.Core.List.{[], ◌∷◌}
use Rattle.text.proofs.Whites.{white-yes, white-no}
use Rattle.text.proofs.Rows.{padded}
use Rattle.text.proofs.white1.Goals as goal

pub returns-then-seq_len-eq1 : goal.returns-then-seq_len-eq1
returns-then-seq_len-eq1 c = c.is_white.ensures ∙ sym (white-yes (c.args.a ∷ []) (padded c.args.a ([]) ∙ sym c.seq_len.ensures ∙ c.if-seq_len-eq1.true))

pub returns-else-seq_len-eq1 : goal.returns-else-seq_len-eq1
returns-else-seq_len-eq1 c = sym (white-no (c.args.a ∷ []) (λ q. c.if-seq_len-eq1.false (c.seq_len.ensures ∙ sym (padded c.args.a ([])) ∙ q)))
