-- The public function of crate globals: its contract fixes its outcome. Assumes nothing.
use Rattle.lines.proofs.OutLaws.{wrote-once}
use Rattle.globals.proofs as globals
use Rattle.globals.specs.contracts as said
use Rattle.determined.proofs.Outcomes.{Determined, fixed-by, one, more}

pub remove-globals-fixed : Determined said.remove_globals.ended (λ κs z. z) globals.remove_globals.Reads.ensures
remove-globals-fixed = fixed-by globals.remove_globals.Reads.Learnt (λ w κs a x. more w (one w)) (λ κs a x y l m.
    let o = wrote-once l.0 m.0 in
    (o.0, ((wrote-once l.1 m.1).0, o.1)))
