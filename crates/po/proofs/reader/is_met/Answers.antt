use mathlib.Core.Path.{refl}
use Rattle.po.proofs.IndexLaws.{met-yes, met-no, met-on, known-first}
use Rattle.po.proofs.reader.is_met.Goals as goal

pub meet-requires : goal.meet-requires
meet-requires c = tt

pub is_above-requires : goal.is_above-requires
is_above-requires c = tt

pub returns-in-Held : goal.returns-in-Held
returns-in-Held c =
    let a = c.args in
    let m = c.meet.ensures in
    record { value = met-yes c.requires refl m.value c.in-Held.is; tells = met-on c.requires refl m.value a.p m.own_after _ (known-first _ _) }

pub returns-in-Free : goal.returns-in-Free
returns-in-Free c =
    let a = c.args in
    let m = c.meet.ensures in
    record { value = met-no c.requires refl m.value _ c.in-Free.is; tells = met-on c.requires refl m.value a.p m.own_after _ (known-first _ _) }

pub returns-in-Unsure : goal.returns-in-Unsure
returns-in-Unsure c =
    let a = c.args in
    let m = c.meet.ensures in
    record { value = c.is_above.ensures; tells = met-on c.requires refl m.value a.p m.own_after _ (known-first _ _) }
