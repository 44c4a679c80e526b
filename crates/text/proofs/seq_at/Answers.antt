use mathlib.Core.Path.{sym, ap, ◌∙◌}
use lib.ListN.{drop_of_length-le}
use Rattle.text.specs.Utf8Form.{seq_len}
use Rattle.text.proofs.Rows.{padded-at, lead1}
use Rattle.text.proofs.seq_at.Goals as goal

pub returns-then-i-s : goal.returns-then-i-s
unfolding seq_len
returns-then-i-s c = sym (ap seq_len (drop_of_length-le c.args.s.now c.if-i-s.true))

pub returns-then-lead-lt128 : goal.returns-then-lead-lt128
returns-then-lead-lt128 c = sym (padded-at c.args.s.now c.args.i c.if-i-s.false ∙ lead1 _ _ _ _ (rw (sym c.byte-lead.ensures) c.if-lead-lt128.true))

pub returns : goal.returns
returns c = cc (padded-at _ _ c.if-i-s.false)
