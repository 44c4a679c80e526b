-- Acts after acts: what becomes of lines by a second list of acts, for those that stand after a first. Assumes nothing.
use Rattle.std.specs.Prelude.{Bool, true, false, cond, List, [], ◌∷◌}
use Rattle.lines.specs.Acts.{Act, keep, become, into, gone}

-- a line stands
unfoldable pub stays : Act → Bool
stays keep = true
stays (become x) = true
stays (into n) = false
stays gone = false

-- what becomes of a line that stands by the first act
unfoldable pub on_act : Act → Act → Act
on_act keep b = b
on_act (become x) keep = become x
on_act (become x) (become y) = become y
on_act (become x) (into n) = into n
on_act (become x) gone = gone
on_act (into n) b = into n
on_act gone b = gone

-- one list of acts after the other: the second has an act for each line that stands
unfoldable pub then_acts : List Act → List Act → List Act
unfolding stays on_act
then_acts [] bs = []
then_acts (a ∷ more) [] = a ∷ more
then_acts (a ∷ more) (b ∷ bs) = cond (stays a) (on_act a b ∷ then_acts more bs) (a ∷ then_acts more (b ∷ bs))
