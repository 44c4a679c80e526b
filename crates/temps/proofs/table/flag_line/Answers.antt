use Rattle.std.proofs.Common.{ℕ, false, List, sym, ap, ◌∙◌}
use Rattle.text.specs.Trim.{trim_of}
use Rattle.temps.specs.Inner.Table.{flag_decl}
use Rattle.temps.proofs.TableLaws.{let-other, decl-not}
use Rattle.temps.proofs.table.flag_line.Goals as goal

pub returns-then-byte_at-ne108 : goal.returns-then-byte_at-ne108
returns-then-byte_at-ne108 c = let a = c.args in sym (decl-not a.own.now (trim_of a.line.now) a.table.now false (let-other a.line.now c.trim_from-a.result c.trim_from-a.ensures (λ z. c.if-byte_at-ne108.true (c.byte_at.ensures ∙ z))))

pub returns : goal.returns
returns c = let a = c.args in c.flag_decl.ensures ∙ ap (λ (l : List ℕ). flag_decl a.own.now l a.table.now) c.trim.ensures.0
