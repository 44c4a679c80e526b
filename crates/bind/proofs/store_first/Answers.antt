use native.Mathlib.Omega.{arith}
use Rattle.bind.proofs.CountLaws.{first-none, first-lt, first-other, first_block, first_store}
use Rattle.bind.proofs.store_first.Goals as goal

pub returns-then-f-below : goal.returns-then-f-below
returns-then-f-below c = let a = c.args in
    let f = c.first_use-f in
    first-none a.reg.0 a.below.now f.result.row f.result.place f.ensures.0 f.ensures.1 a.blocks.now a.starts.now a.row c.if-f-below.true

pub returns-then-not-stores_reg : goal.returns-then-not-stores_reg
returns-then-not-stores_reg c = let a = c.args in
    let f = c.first_use-f in
    let e = c.find_byte-e in
    let u = c.stores_reg in
    first-other a.reg.0 a.below.now f.result.row f.result.place f.ensures.0 f.ensures.1 a.blocks.now a.starts.now a.row c.if-f-below.false e.result e.ensures c.cut.result.now c.cut.ensures u.result u.ensures c.if-not-stores_reg.true

pub overflow_add-k : goal.overflow_add-k
overflow_add-k c = let a = c.args in
    let f = c.first_use-f in
    let e = c.find_byte-e in
    omega (arith, c.requires.1, first-lt a.reg.0 a.below.now f.result.row f.result.place f.ensures.0 f.ensures.1 a.blocks.now a.starts.now a.row c.if-f-below.false e.result e.ensures c.cut.result.now c.cut.ensures)

pub overflow_add-k-2 : goal.overflow_add-k-2
overflow_add-k-2 c = let a = c.args in
    let f = c.first_use-f in
    let e = c.find_byte-e in
    omega (arith, c.requires.1, first-lt a.reg.0 a.below.now f.result.row f.result.place f.ensures.0 f.ensures.1 a.blocks.now a.starts.now a.row c.if-f-below.false e.result e.ensures c.cut.result.now c.cut.ensures)

pub offset_bounds-blocks-k : goal.offset_bounds-blocks-k
offset_bounds-blocks-k c = let a = c.args in
    let f = c.first_use-f in
    let e = c.find_byte-e in
    omega (arith, c.requires.0, first-lt a.reg.0 a.below.now f.result.row f.result.place f.ensures.0 f.ensures.1 a.blocks.now a.starts.now a.row c.if-f-below.false e.result e.ensures c.cut.result.now c.cut.ensures)

pub bounds-blocks-k : goal.bounds-blocks-k
bounds-blocks-k c = let a = c.args in
    let f = c.first_use-f in
    let e = c.find_byte-e in
    omega (arith, c.requires.0, first-lt a.reg.0 a.below.now f.result.row f.result.place f.ensures.0 f.ensures.1 a.blocks.now a.starts.now a.row c.if-f-below.false e.result e.ensures c.cut.result.now c.cut.ensures)

pub returns-then-blocks-k : goal.returns-then-blocks-k
returns-then-blocks-k c = let a = c.args in
    let f = c.first_use-f in
    let e = c.find_byte-e in
    let u = c.stores_reg in
    first_block a.reg.0 a.below.now f.result.row f.result.place f.ensures.0 f.ensures.1 a.blocks.now a.starts.now a.row c.if-f-below.false e.result e.ensures c.cut.result.now c.cut.ensures u.result u.ensures c.if-blocks-k.true

pub bounds-starts-k : goal.bounds-starts-k
bounds-starts-k c = let a = c.args in
    let f = c.first_use-f in
    let e = c.find_byte-e in
    omega (arith, c.requires.1, first-lt a.reg.0 a.below.now f.result.row f.result.place f.ensures.0 f.ensures.1 a.blocks.now a.starts.now a.row c.if-f-below.false e.result e.ensures c.cut.result.now c.cut.ensures)

pub returns : goal.returns
returns c = let a = c.args in
    let f = c.first_use-f in
    let e = c.find_byte-e in
    let u = c.stores_reg in
    first_store a.reg.0 a.below.now f.result.row f.result.place f.ensures.0 f.ensures.1 a.blocks.now a.starts.now a.row c.if-f-below.false e.result e.ensures c.cut.result.now c.cut.ensures u.result u.ensures c.if-not-stores_reg.false c.if-blocks-k.false
