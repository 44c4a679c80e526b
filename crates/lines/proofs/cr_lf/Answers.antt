use Rattle.std.proofs.Common.{get_or, sym, refl, ◌∙◌, eq-eqb, ne_eqb}
use Rattle.lines.proofs.Compare.{two_at}
use Rattle.lines.proofs.cr_lf.Goals as goal

pub returns-then-byte_at-ne13 : goal.returns-then-byte_at-ne13
returns-then-byte_at-ne13 c = let a = c.args in let n = ne_eqb (get_or a.s.now a.i 0) 13 (λ e. c.if-byte_at-ne13.true (c.byte_at.ensures ∙ e)) in sym (two_at 13 10 refl refl a.s.now a.i ∙ rw n)

pub returns : goal.returns
returns c = let a = c.args in let e = eq-eqb (get_or a.s.now a.i 0) 13 (sym c.byte_at.ensures ∙ c.if-byte_at-ne13.false) in sym (two_at 13 10 refl refl a.s.now a.i ∙ rw (e, c.byte_at-2.ensures))
