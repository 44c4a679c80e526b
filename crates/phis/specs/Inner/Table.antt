-- The table of a round: for each phi that has a place in it 2 where some line reads it, else 1 where some line stores it, else 0. Assumes nothing.
use Rattle.std.specs.Prelude.{ℕ, ◌<◌, ◌^◌, ◌≡◌, cond, not, ◌&&◌, List, [], ◌∷◌, length, eqb}
use Rattle.lines.specs.Lf.{same, holds}
use Rattle.text.specs.Trim.{trim_start}
use Rattle.names.specs.Names.{phi_word, phi_of, phi_text, phi_is}
use Rattle.std.specs.declared.option.Option.{Option}
use Rattle.names.specs.declared.Phi.{Phi}
use Rattle.std.specs.declared.option.Option.TheVariants.{Some, None}
use Rattle.words.specs.Runs.{runs}
use Rattle.slots.specs.Inner.Slots.{slot_of, entry_of, with_entry}
use Rattle.phis.specs.Phis.{phi_decl, phi_store, dead_phi}

-- the table d after a store of a phi
abbrev pub note_store : List ℕ → Option Phi → List ℕ → List ℕ
note_store own None d = d
note_store own (Some q) d = cond (eqb (entry_of own q.0 d) 2) d (with_entry own q.0 1 d)

-- after a run r that names a phi: it is a read where r is the phi as it is printed, and not the one that the line stores
abbrev pub note_name : List ℕ → Option Phi → List ℕ → Option Phi → List ℕ → List ℕ
note_name own stored r None d = d
note_name own stored r (Some q) d = cond (not (phi_is q.0 stored) && same r (phi_text q.0)) (with_entry own q.0 2 d) d

-- after runs
unfoldable pub note_runs : List ℕ → Option Phi → List (List ℕ) → List ℕ → List ℕ
note_runs own stored [] d = d
note_runs own stored (r ∷ rs) d = note_runs own stored rs (note_name own stored r (phi_of r) d)

-- after a line: one without the letters `phi`, and a declaration of phis, leave it as it is
unfoldable pub note_line : List ℕ → List ℕ → List ℕ → List ℕ
unfolding note_runs
note_line own l d =
    cond (holds phi_word l && not (phi_decl (trim_start l))) (note_runs own (phi_store (trim_start l)) (runs l) (note_store own (phi_store (trim_start l)) d)) d

-- after lines
unfoldable pub note_lines : List ℕ → List (List ℕ) → List ℕ → List ℕ
unfolding note_line
note_lines own [] d = d
note_lines own (l ∷ ls) d = note_lines own ls (note_line own l d)

-- of the phis that have a place in it, the table says which are dead in the text ls
abbrev pub Tells : List ℕ → List (List ℕ) → List ℕ → Type 0
Tells own ls d = (n : ℕ) → n < 2 ^ 64 → slot_of (length d) own n < length d → eqb (entry_of own n d) 1 ≡ dead_phi n ls
