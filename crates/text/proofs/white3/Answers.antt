use mathlib.Core.Path.{sym, ◌∙◌}
use mathlib.Core.List.{[], ◌∷◌}
use Rattle.text.proofs.Whites.{white-yes, white-no}
use Rattle.text.proofs.Rows.{padded}
use Rattle.text.proofs.white3.Goals as goal

pub returns-then-seq_len-eq3 : goal.returns-then-seq_len-eq3
returns-then-seq_len-eq3 c = c.is_white.ensures ∙ sym (white-yes (c.args.a ∷ c.args.b ∷ c.args.c ∷ []) (padded c.args.a (c.args.b ∷ c.args.c ∷ []) ∙ sym c.seq_len.ensures ∙ c.if-seq_len-eq3.true))

pub returns-else-seq_len-eq3 : goal.returns-else-seq_len-eq3
returns-else-seq_len-eq3 c = sym (white-no (c.args.a ∷ c.args.b ∷ c.args.c ∷ []) (λ q. c.if-seq_len-eq3.false (c.seq_len.ensures ∙ sym (padded c.args.a (c.args.b ∷ c.args.c ∷ [])) ∙ q)))
