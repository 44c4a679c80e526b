use mathlib.Core.Path.{sym, ◌∙◌}
use mathlib.Core.List.{[], ◌∷◌}
use Rattle.text.proofs.Whites.{white-yes, white-no}
use Rattle.text.proofs.Rows.{padded}
use Rattle.text.proofs.white2.Goals as goal

pub returns-then-seq_len-eq2 : goal.returns-then-seq_len-eq2
returns-then-seq_len-eq2 c = c.is_white.ensures ∙ sym (white-yes (c.args.a ∷ c.args.b ∷ []) (padded c.args.a (c.args.b ∷ []) ∙ sym c.seq_len.ensures ∙ c.if-seq_len-eq2.true))

pub returns-else-seq_len-eq2 : goal.returns-else-seq_len-eq2
returns-else-seq_len-eq2 c = sym (white-no (c.args.a ∷ c.args.b ∷ []) (λ q. c.if-seq_len-eq2.false (c.seq_len.ensures ∙ sym (padded c.args.a (c.args.b ∷ [])) ∙ q)))
