use Rattle.std.proofs.Common.{rules, ◌≡◌, sym, refl, ◌∙◌, length}
use Rattle.std.specs.declared.result.Result.TheVariants.{Err}
use Rattle.po.specs.Reader.{read_of}
use Rattle.po.specs.Answers.{read_text}
use Rattle.po.proofs.AnswerLaws.{zeros-as}
use Rattle.po.proofs.StateLaws.{answer-err, kept-by, answer-short, answer-done, text-is, text-room, strings-written}
use Rattle.po.proofs.read_po.Goals as goal

pub returns-in_err-n : goal.returns-in_err-n
returns-in_err-n c =
    let a = c.args in
    let e : c.from_residual.result ≡ Err c.in_err-n.field-0.0 = search rules in
    let w = sym e in
    rw (← w) record { value = answer-err a.file.now (length a.out.now) _ (sym c.in_err-n.was ∙ c.check_file-seen.ensures); index_after = zeros-as c.wipe.ensures c.check_file-seen.auto.own; out_after = kept-by _ (read_text (read_of a.file.now)) a.out.now }

pub returns-then-out-n : goal.returns-then-out-n
returns-then-out-n c =
    let a = c.args in
    record { value = answer-short a.file.now (length a.out.now) _ (sym c.in_ok-n.was ∙ c.check_file-seen.ensures) c.if-out-n.true; index_after = zeros-as c.wipe.ensures c.check_file-seen.auto.own; out_after = refl }

pub put_strings-requires : goal.put_strings-requires
put_strings-requires c = let a = c.args in text-room a.file.now (length a.out.now) _ (sym c.in_ok-n.was ∙ c.check_file-seen.ensures) c.if-out-n.false

pub returns : goal.returns
returns c =
    let a = c.args in
    let e = sym c.in_ok-n.was ∙ c.check_file-seen.ensures in
    record { value = answer-done a.file.now (length a.out.now) _ e c.if-out-n.false; index_after = zeros-as c.wipe.ensures c.check_file-seen.auto.own; out_after = strings-written (text-is a.file.now (length a.out.now) _ e) c.put_strings.ensures }
