use Rattle.parse.specs.Parse.{text_of}
use Prim.Native.Nat.{ℕ}
use mathlib.Core.List.{List}
use mathlib.Core.Path.{refl, sym, ap, ◌∙◌}
use native.Mathlib.Omega.{arith}
use lib.ListN.{length}
use Rattle.reading.specs.Reading.{reading_of}
use Rattle.lines.specs.Lf.{lines_of}
use Rattle.once.specs.Inner.Tables.{drops_by, store_drops}
use Rattle.once.proofs.Zeros.{zeroed-less}
use Rattle.once.proofs.Decides.{drops-at, value_room}
use Rattle.once.proofs.line_drops.Goals as goal

pub store_drops-requires : goal.store_drops-requires
store_drops-requires c =
    let a = c.args in
    let s = c.in-Store.s in
    (zeroed-less (let h = value_room s.from s.to a.line.now in let q = ap length c.value_of-x.ensures in omega arith) c.requires.1.0, (c.requires.1.1.0 s (sym c.requires.0 ∙ c.in-Store.is), c.requires.1.1.1))

pub returns-in-Decl : goal.returns-in-Decl
returns-in-Decl c =
    let a = c.args in
    record { answer = ap (drops_by (reading_of a.mode.0) a.line.now a.p a.in_loop (lines_of a.below.now) a.paths.now) (sym c.in-Decl.is) ∙ drops-at (reading_of a.mode.0) a.line.now a.p a.in_loop (lines_of a.below.now) a.paths.now _ c.requires.0; memory = refl }

pub returns-in-Store : goal.returns-in-Store
unfolding text_of
returns-in-Store c =
    let a = c.args in
    let e = c.store_drops.ensures in
    let s = c.in-Store.s in
    record { answer = e.answer ∙ ap (λ (x : List ℕ). store_drops (reading_of a.mode.0) s.reg.0 x a.p a.in_loop (lines_of a.below.now) a.paths.now) c.value_of-x.ensures ∙ ap (drops_by (reading_of a.mode.0) a.line.now a.p a.in_loop (lines_of a.below.now) a.paths.now) (sym c.in-Store.is) ∙ drops-at (reading_of a.mode.0) a.line.now a.p a.in_loop (lines_of a.below.now) a.paths.now _ c.requires.0; memory = e.memory }

pub returns-in-Other : goal.returns-in-Other
returns-in-Other c =
    let a = c.args in
    record { answer = ap (drops_by (reading_of a.mode.0) a.line.now a.p a.in_loop (lines_of a.below.now) a.paths.now) (sym c.in-Other.is) ∙ drops-at (reading_of a.mode.0) a.line.now a.p a.in_loop (lines_of a.below.now) a.paths.now _ c.requires.0; memory = refl }
