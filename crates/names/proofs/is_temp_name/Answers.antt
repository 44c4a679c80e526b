use mathlib.Core.Path.{sym, ap, ◌∙◌}
use native.Mathlib.Omega.{arith}
use Rattle.lines.proofs.LfLaws.{rest_of}
use Rattle.names.specs.Names.{all_digits}
use Rattle.names.proofs.Texts.{temp-none, temp-short, temp-digits}
use Rattle.names.proofs.is_temp_name.Goals as goal

pub returns-then-not-starts_with : goal.returns-then-not-starts_with
returns-then-not-starts_with c = sym (temp-none _ (sym c.starts_with.ensures ∙ c.if-not-starts_with.true))

pub returns-then-s-lt2 : goal.returns-then-s-lt2
returns-then-s-lt2 c = sym (temp-short _ (sym c.starts_with.ensures ∙ c.if-not-starts_with.false) (omega arith))

pub returns : goal.returns
returns c =
    let s = c.args.s.now in
    c.all_digits.ensures ∙ ap (λ l. all_digits l) (c.cut.ensures ∙ rest_of s 1)
    ∙ sym (temp-digits s (sym c.starts_with.ensures ∙ c.if-not-starts_with.false) (omega arith))
