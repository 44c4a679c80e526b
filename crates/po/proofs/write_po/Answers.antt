use native.Mathlib.Omega.{arith}
use Rattle.std.proofs.Common.{rules, ◌≡◌, sym, refl, ◌∙◌, length}
use Rattle.std.specs.declared.result.Result.TheVariants.{Err}
use Rattle.lines.proofs.OutLaws.{wrote-length}
use Rattle.po.specs.Answers.{po_text}
use Rattle.po.proofs.AnswerLaws.{refused, too_short, all_done, as_it_was, now-written, index-was, zeros-as, number-not, number-none}
use Rattle.po.proofs.write_po.Goals as goal

pub returns-in_err-refusal : goal.returns-in_err-refusal
returns-in_err-refusal c =
    let a = c.args in
    let f = c.refusal in
    let n = number-not c.in_err-refusal.was in
    let e : c.from_residual.result ≡ Err c.in_err-refusal.field-0.0 = search rules in
    let w = sym (e ∙ sym c.in_err-refusal.was) in
    rw (← w) record { value = refused a.name.now a.t.now (length a.out.now) f.result f.ensures n; index_after = index-was a.name.now a.t.now f.result f.ensures n a.index.now; out_after = as_it_was f.result (po_text a.name.now a.t.now) a.out.now n }

pub shape_of-index-then-out-n : goal.shape_of-index-then-out-n
shape_of-index-then-out-n c = c.wipe.auto.table ∙ c.po_len-n.auto.own

pub returns-then-out-n : goal.returns-then-out-n
returns-then-out-n c =
    let a = c.args in
    let f = c.refusal in
    let n = number-none c.in_ok-refusal.was in
    record { value = too_short a.name.now a.t.now (length a.out.now) f.result f.ensures n c.po_len-n.result c.po_len-n.ensures c.if-out-n.true; index_after = zeros-as c.wipe.ensures c.po_len-n.auto.own; out_after = refl }

pub put_po-requires : goal.put_po-requires
put_po-requires c = let a = c.args in let f = c.refusal in let n = number-none c.in_ok-refusal.was in (all_done a.name.now a.t.now (length a.out.now) f.result f.ensures n c.po_len-n.result c.po_len-n.ensures c.if-out-n.false (omega (arith))).1

pub shape_of-index : goal.shape_of-index
shape_of-index c = c.wipe-2.auto.table ∙ (c.put_po.auto.own ∙ c.po_len-n.auto.own)

pub shape_of-out : goal.shape_of-out
shape_of-out c = wrote-length c.put_po.ensures

pub returns : goal.returns
returns c =
    let a = c.args in
    let f = c.refusal in
    let n = number-none c.in_ok-refusal.was in
    record { value = (all_done a.name.now a.t.now (length a.out.now) f.result f.ensures n c.po_len-n.result c.po_len-n.ensures c.if-out-n.false (omega (arith))).0; index_after = zeros-as c.wipe-2.ensures (c.put_po.auto.own ∙ c.po_len-n.auto.own); out_after = now-written c.po_len-n.result c.put_po.ensures }
