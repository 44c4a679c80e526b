use mathlib.Core.Path.{ap, ◌∙◌}
use lib.ListN.{take}
use Rattle.po.specs.Found.{literals, known}
use Rattle.po.specs.Inner.Walk.{texts}
use Rattle.po.proofs.LoopLaws.{text_at}
use Rattle.po.proofs.IndexLaws.{met-yes, met-no, met-on, known-last}
use Rattle.po.proofs.is_met.Goals as goal

pub lit_rest-s-requires : goal.lit_rest-s-requires
lit_rest-s-requires c = c.requires.at_in_bounds

pub byte_at-q-requires : goal.byte_at-q-requires
byte_at-q-requires c = tt

pub meet-requires : goal.meet-requires
meet-requires c = tt

pub is_known-requires : goal.is_known-requires
is_known-requires c = tt

pub returns-in-Held : goal.returns-in-Held
returns-in-Held c =
    let a = c.args in
    let z = text_at a.t.now a.c c.lit_rest-s.ensures c.byte_at-q.ensures in
    let m = c.meet.ensures in
    record { value = met-yes c.requires.tells z m.value c.in-Held.is; tells_2 = met-on c.requires.tells z m.value a.c.at m.own_after _ (known-last _ _) }

pub returns-in-Free : goal.returns-in-Free
returns-in-Free c =
    let a = c.args in
    let z = text_at a.t.now a.c c.lit_rest-s.ensures c.byte_at-q.ensures in
    let m = c.meet.ensures in
    record { value = met-no c.requires.tells z m.value _ c.in-Free.is; tells_2 = met-on c.requires.tells z m.value a.c.at m.own_after _ (known-last _ _) }

pub returns-in-Unsure : goal.returns-in-Unsure
returns-in-Unsure c =
    let a = c.args in
    let z = text_at a.t.now a.c c.lit_rest-s.ensures c.byte_at-q.ensures in
    let m = c.meet.ensures in
    record { value = c.is_known.ensures ∙ ap (known (take a.k (texts (literals a.t.now)))) z; tells_2 = met-on c.requires.tells z m.value a.c.at m.own_after _ (known-last _ _) }
