use Rattle.std.proofs.Common.{[], ◌∷◌, length, sym, ap, ◌∙◌, arith, length-append}
use Rattle.lines.specs.Steps.{drop_cr}
use Rattle.lines.proofs.OutLaws.{wrote_as, wrote_then, wrote-length}
use Rattle.lines.proofs.StepLaws.{missing_lf, missing-ended, missing-empty, missing-open, split_text, split_by, split-whole}
use Rattle.lines.proofs.split_lines.Goals as goal

pub put_bare-o-requires : goal.put_bare-o-requires
put_bare-o-requires c = let t = c.args.text.now in omega (arith, c.requires, ap length (split_text t), length-append (drop_cr t) (missing_lf t))

pub returns-then-ends_lf : goal.returns-then-ends_lf
returns-then-ends_lf c = let t = c.args.text.now in wrote_as (split-whole t (missing-ended t (sym c.ends_lf.ensures ∙ c.if-ends_lf.true))) c.put_bare-o.ensures

pub returns-then-text-eq0 : goal.returns-then-text-eq0
returns-then-text-eq0 c = let t = c.args.text.now in wrote_as (split-whole t (missing-empty t c.if-text-eq0.true)) c.put_bare-o.ensures

pub put_byte-requires : goal.put_byte-requires
put_byte-requires c = let t = c.args.text.now in let w = c.put_bare-o.ensures in omega (arith, c.requires, w.place, wrote-length w, ap length (split_by t (missing-open t (sym c.ends_lf.ensures ∙ c.if-ends_lf.false) c.if-text-eq0.false)), length-append (drop_cr t) (10 ∷ []))

pub returns : goal.returns
returns c = let t = c.args.text.now in wrote_as (split_by t (missing-open t (sym c.ends_lf.ensures ∙ c.if-ends_lf.false) c.if-text-eq0.false)) (wrote_then c.put_bare-o.ensures c.put_byte.ensures)
