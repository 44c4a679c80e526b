use mathlib.Core.Path.{sym, ap, ◌∙◌}
use mathlib.Core.List.{List}
use Prim.Native.Nat.{ℕ}
use lib.ListN.{take}
use Rattle.po.specs.Found.{literals, known, left_out}
use Rattle.po.specs.Inner.Walk.{texts}
use Rattle.po.proofs.UnitLaws.{text-stop}
use Rattle.po.proofs.LoopLaws.{text_at, left-empty, left-known}
use Rattle.po.proofs.is_left_out.Goals as goal

pub lit_rest-requires : goal.lit_rest-requires
lit_rest-requires c = c.requires.at_in_bounds

pub byte_at-requires : goal.byte_at-requires
byte_at-requires c = tt

pub unit_at-x-requires : goal.unit_at-x-requires
unit_at-x-requires c = tt

pub is_met-met-requires : goal.is_met-met-requires
is_met-met-requires c = record { at_in_bounds = c.requires.at_in_bounds; tells = c.requires.tells }

pub returns-then-x-eq0 : goal.returns-then-x-eq0
returns-then-x-eq0 c =
    let a = c.args in
    let z = text_at a.t.now a.c c.lit_rest.ensures c.byte_at.ensures in
    record { value = left-empty (take a.k (texts (literals a.t.now))) _ (sym z ∙ text-stop _ _ 0 _ c.unit_at-x.ensures c.if-x-eq0.true); tells_2 = c.is_met-met.ensures.tells_2 }

pub returns : goal.returns
returns c =
    let a = c.args in
    let z = text_at a.t.now a.c c.lit_rest.ensures c.byte_at.ensures in
    let ks : List (List ℕ) = take a.k (texts (literals a.t.now)) in
    record { value = c.is_met-met.ensures.value ∙ ap (known ks) (sym z) ∙ left-known _ _ _ c.unit_at-x.ensures c.if-x-eq0.false ks ∙ ap (λ (x : List ℕ). left_out ks x) z; tells_2 = c.is_met-met.ensures.tells_2 }
