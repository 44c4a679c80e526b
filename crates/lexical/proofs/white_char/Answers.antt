use mathlib.Core.Path.{sym, ap, ◌∙◌}
use Rattle.text.specs.White.{is_white}
use Rattle.text.proofs.Whites.{white-yes, white-no}
use Rattle.lexical.proofs.white_char.Goals as goal

pub returns-then-seq_at-c : goal.returns-then-seq_at-c
returns-then-seq_at-c c = c.is_white.ensures ∙ ap is_white c.code_point.ensures ∙ sym (white-yes c.args.c.now (sym c.seq_at.ensures ∙ c.if-seq_at-c.true))

pub returns : goal.returns
returns c = sym (white-no c.args.c.now (λ e. c.if-seq_at-c.false (c.seq_at.ensures ∙ e)))
