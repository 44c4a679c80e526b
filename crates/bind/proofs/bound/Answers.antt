use Rattle.bind.proofs.SiteLaws.{bound-decls, bound-stores, bound-used, bound-first, reach-at}
use Rattle.bind.proofs.bound.Goals as goal

pub returns-then-not-declared_once : goal.returns-then-not-declared_once
returns-then-not-declared_once c = let a = c.args in
    bound-decls a.text.now a.s a.blocks.now a.starts.now a.reg.0 c.cut-above.result.now c.cut.result.now c.cut-below.result.now c.cut-above.ensures c.cut.ensures c.cut-below.ensures c.declared_once.result c.declared_once.ensures c.if-not-declared_once.true

pub returns-then-not-stored_once : goal.returns-then-not-stored_once
returns-then-not-stored_once c = let a = c.args in
    bound-stores a.text.now a.s a.blocks.now a.starts.now a.reg.0 c.cut-above.result.now c.cut.result.now c.cut-below.result.now c.cut-above.ensures c.cut.ensures c.cut-below.ensures c.declared_once.result c.declared_once.ensures c.if-not-declared_once.false c.stored_once.result c.stored_once.ensures c.if-not-stored_once.true

pub returns-then-uses : goal.returns-then-uses
returns-then-uses c = let a = c.args in
    bound-used a.text.now a.s a.blocks.now a.starts.now a.reg.0 c.cut-above.result.now c.cut.result.now c.cut-below.result.now c.cut-above.ensures c.cut.ensures c.cut-below.ensures c.declared_once.result c.declared_once.ensures c.if-not-declared_once.false c.stored_once.result c.stored_once.ensures c.if-not-stored_once.false c.uses.result c.uses.ensures c.if-uses.true

pub store_first-requires : goal.store_first-requires
store_first-requires c = reach-at c.args.text.now c.args.s c.args.blocks.now c.args.starts.now c.cut-below.result.now c.cut-below.ensures c.requires

pub returns : goal.returns
returns c = let a = c.args in
    bound-first a.text.now a.s a.blocks.now a.starts.now a.reg.0 c.cut-above.result.now c.cut.result.now c.cut-below.result.now c.cut-above.ensures c.cut.ensures c.cut-below.ensures c.declared_once.result c.declared_once.ensures c.if-not-declared_once.false c.stored_once.result c.stored_once.ensures c.if-not-stored_once.false c.uses.result c.uses.ensures c.if-uses.false c.store_first.result c.store_first.ensures
