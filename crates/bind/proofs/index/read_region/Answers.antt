use Prim.Native.Nat.{ℕ}
use native.Mathlib.Omega.{arith}
use mathlib.Core.Path.{ap}
use mathlib.Core.List.{List}
use lib.ListN.{length}
use Rattle.lines.specs.Lf.{lines_of}
use Rattle.bind.proofs.IndexLaws.{region-kept, region-read}
use Rattle.bind.proofs.index.read_region.Goals as goal

pub returns-then-a-i : goal.returns-then-a-i
returns-then-a-i c =
    let a = c.args in
    let whole = region-kept a.own.now a.text.now a.a a.i a.e a.k a.seen.now a.first.now c.if-a-i.true in
    record { marked = whole.0; again = whole.1 }

pub read_lines-requires : goal.read_lines-requires
read_lines-requires c = (c.requires.0, omega (arith, c.requires.1.1.1 c.if-a-i.false, ap (λ (x : List ℕ). length (lines_of x)) c.cut.ensures))

pub returns : goal.returns
returns c =
    let a = c.args in
    let whole = region-read a.own.now a.text.now a.a a.i a.e a.k a.seen.now a.first.now c.if-a-i.false c.cut.result.now c.cut.ensures c.read_lines.ensures.marked c.read_lines.ensures.again in
    record { marked = whole.0; again = whole.1 }
