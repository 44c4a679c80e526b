-- Each public function of crate decls: its contract fixes its outcome. Assumes nothing.
use mathlib.Core.Path.{sym, ◌∙◌}
use Rattle.lines.proofs.OutLaws.{wrote-once}
use Rattle.decls.proofs as decls
use Rattle.decls.specs.contracts as said
use Rattle.determined.proofs.Outcomes.{Determined, fixed, fixed-by, one, more}

pub prune-decls-fixed : Determined said.prune_decls.ended (λ κs z. z) decls.prune_decls.Reads.ensures
prune-decls-fixed = fixed-by decls.prune_decls.Reads.Learnt (λ w κs a x. more w (more w (one w))) (λ κs a x y l m.
    let o = wrote-once l.0 m.0 in
    (l.1.0 ∙ sym m.1.0, (o.0, ((wrote-once l.1.1 m.1.1).0, o.1))))

pub put-lead-fixed : Determined said.print.put_lead.ended (λ κs z. z) decls.print.put_lead.Reads.ensures
put-lead-fixed = fixed decls.print.put_lead.Reads.Learnt (λ κs a x y l m. wrote-once l m)

pub put-name-fixed : Determined said.print.put_name.ended (λ κs z. z) decls.print.put_name.Reads.ensures
put-name-fixed = fixed decls.print.put_name.Reads.Learnt (λ κs a x y l m. wrote-once l m)

pub put-part-fixed : Determined said.print.put_part.ended (λ κs z. z) decls.print.put_part.Reads.ensures
put-part-fixed = fixed decls.print.put_part.Reads.Learnt (λ κs a x y l m. wrote-once l m)

pub put-end-fixed : Determined said.print.put_end.ended (λ κs z. z) decls.print.put_end.Reads.ensures
put-end-fixed = fixed decls.print.put_end.Reads.Learnt (λ κs a x y l m. wrote-once l m)

pub stays-in-fixed : Determined said.stays_in.ended (λ κs z. z) decls.stays_in.Reads.ensures
stays-in-fixed = fixed decls.stays_in.Reads.Learnt (λ κs a x y l m. l ∙ sym m)

pub mark-uses-fixed : Determined said.mark_uses.ended (λ κs z. z) decls.mark_uses.Reads.ensures
mark-uses-fixed = fixed-by decls.mark_uses.Reads.Learnt (λ w κs a x. more w (one w)) (λ κs a x y l m.
    (l.1 ∙ sym m.1, λ i. record { mark = (l.0.0 ∙ sym m.0.0) i; end = (l.0.1 ∙ sym m.0.1) i }))
