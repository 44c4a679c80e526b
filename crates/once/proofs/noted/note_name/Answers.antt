use mathlib.Core.Path.{sym, ap, ◌∙◌}
use Rattle.std.specs.declared.option.Option.{Option}
use Rattle.names.specs.declared.Register.{Register}
use Rattle.decls.specs.Inner.Seen.{mark_name}
use Rattle.once.specs.Inner.Noted.{far_name, back_name}
use Rattle.once.proofs.noted.note_name.Goals as goal

pub note_read-requires : goal.note_read-requires
note_read-requires c = c.requires

pub returns-in-Some : goal.returns-in-Some
returns-in-Some c =
    let e = sym c.reg_name.ensures ∙ c.in-Some.is in
    let r = c.note_read.ensures in
    record { rows = r.rows ∙ sym (ap (λ (r : Option Register). mark_name c.args.own.now c.args.m r c.args.near.now) e); seconds = r.seconds ∙ sym (ap (λ (r : Option Register). far_name c.args.own.now r c.args.near.now c.args.far.now) e); notes = r.notes ∙ sym (ap (λ (r : Option Register). back_name c.args.own.now c.args.n c.args.h r c.args.near.now c.args.far.now c.args.notes.now) e) }

pub returns-in-None : goal.returns-in-None
returns-in-None c =
    let e = sym c.reg_name.ensures ∙ c.in-None.is in
    record { rows = sym (ap (λ (r : Option Register). mark_name c.args.own.now c.args.m r c.args.near.now) e); seconds = sym (ap (λ (r : Option Register). far_name c.args.own.now r c.args.near.now c.args.far.now) e); notes = sym (ap (λ (r : Option Register). back_name c.args.own.now c.args.n c.args.h r c.args.near.now c.args.far.now c.args.notes.now) e) }
