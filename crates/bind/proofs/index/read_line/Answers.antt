use mathlib.Core.Path.{sym, ◌∙◌}
use Rattle.bind.proofs.IndexLaws.{line-decl, read-decl, read-store, read-other}
use Rattle.bind.proofs.index.read_line.Goals as goal

pub see_decl-requires : goal.see_decl-requires
see_decl-requires c = let a = c.args in (line-decl a.own.now a.m a.b a.c a.line.now a.seen.now a.first.now (sym c.parse-p.ensures ∙ c.in-Decl.is), c.requires)

pub returns-in-Decl : goal.returns-in-Decl
returns-in-Decl c =
    let a = c.args in
    let whole = read-decl a.own.now a.m a.b a.c a.line.now a.seen.now a.first.now (sym c.parse-p.ensures ∙ c.in-Decl.is) c.see_decl.ensures.marked c.see_decl.ensures.again in
    record { marked = whole.0; again = whole.1 }

pub returns-in-Store : goal.returns-in-Store
returns-in-Store c =
    let a = c.args in
    let whole = read-store a.own.now a.m a.b a.c a.line.now a.seen.now a.first.now c.in-Store.s (sym c.parse-p.ensures ∙ c.in-Store.is) c.use_store.ensures in
    record { marked = whole.0; again = whole.1 }

pub returns-in-Other : goal.returns-in-Other
returns-in-Other c =
    let a = c.args in
    let whole = read-other a.own.now a.m a.b a.c a.line.now a.seen.now a.first.now (sym c.parse-p.ensures ∙ c.in-Other.is) c.read_runs.ensures in
    record { marked = whole.0; again = whole.1 }
