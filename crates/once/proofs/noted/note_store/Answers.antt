use mathlib.Core.Path.{sym, ap, ◌∙◌}
use Rattle.parse.specs.declared.Line.{Line}
use Rattle.decls.specs.Inner.Seen.{mark_store}
use Rattle.once.specs.Inner.Noted.{alone_store}
use Rattle.once.proofs.noted.note_store.Goals as goal

pub note_write-requires : goal.note_write-requires
note_write-requires c = c.requires

pub returns-in-Decl : goal.returns-in-Decl
returns-in-Decl c =
    record { alone = sym (ap (λ (p : Line). alone_store c.args.own.now c.args.m c.args.x p c.args.far.now) c.in-Decl.is); stores = sym (ap (λ (p : Line). mark_store c.args.own.now c.args.m p c.args.stores.now) c.in-Decl.is) }

pub returns-in-Store : goal.returns-in-Store
returns-in-Store c =
    record { alone = c.note_write.ensures.alone ∙ sym (ap (λ (p : Line). alone_store c.args.own.now c.args.m c.args.x p c.args.far.now) c.in-Store.is); stores = c.note_write.ensures.stores ∙ sym (ap (λ (p : Line). mark_store c.args.own.now c.args.m p c.args.stores.now) c.in-Store.is) }

pub returns-in-Other : goal.returns-in-Other
returns-in-Other c =
    record { alone = sym (ap (λ (p : Line). alone_store c.args.own.now c.args.m c.args.x p c.args.far.now) c.in-Other.is); stores = sym (ap (λ (p : Line). mark_store c.args.own.now c.args.m p c.args.stores.now) c.in-Other.is) }
