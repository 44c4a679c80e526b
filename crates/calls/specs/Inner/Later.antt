-- Notes of the lines that store a register, and the tables over registers that they are made with. The number of a line is how many lines there are
-- from it on, and 0 stands for no line. Assumes nothing.
use Rattle.std.specs.Prelude.{ℕ, suc, ◌+◌, ◌-◌, ◌*◌, ◌/◌, ◌≤◌, ◌<◌, max, ◌≡◌, Bool, true, false, cond, ◌&&◌, List, [], ◌∷◌, ltb, length, drop, get_or, set}
use Rattle.lines.specs.Lf.{lines_of}
use Rattle.names.specs.Names.{reg_of}
use Rattle.std.specs.declared.option.Option.{Option}
use Rattle.names.specs.declared.Register.{Register}
use Rattle.std.specs.declared.option.Option.TheVariants.{Some, None}
use Rattle.parse.specs.declared.Line.{Line}
use Rattle.parse.specs.declared.Line.TheVariants as line
use Rattle.reading.specs.Reading.{plain}
use Rattle.reading.specs.Uses.{line_stores}
use Rattle.slots.specs.Inner.Slots.{slot_of, entry_of, with_entry}
use Rattle.calls.specs.LeavesOf.{leaves_of}
use Rattle.calls.specs.Calls.{read_later}
use Rattle.calls.specs.Inner.Tables.{line_at}

-- ---- the table of the lines that read each register last, before it is stored: an entry that is not above the number h of the next header is old

-- after a read of register v by the line with the number c: the entry of a line below stays
abbrev pub read_in : List ℕ → ℕ → ℕ → ℕ → List ℕ → List ℕ
read_in own c h v d = cond (ltb h (entry_of own v d)) d (with_entry own v c d)

-- so of the register that a name is
abbrev pub read_name : List ℕ → ℕ → ℕ → Option Register → List ℕ → List ℕ
read_name own c h None d = d
read_name own c h (Some q) d = read_in own c h q.0 d

-- so of the registers that runs name
unfoldable pub read_runs : List ℕ → ℕ → ℕ → List (List ℕ) → List ℕ → List ℕ
read_runs own c h [] d = d
read_runs own c h (r ∷ rs) d = read_runs own c h rs (read_name own c h (reg_of r) d)

-- ---- the note of a line with k above it and the number c: two entries of a table

-- how far below it the line stands that reads its register last, by that line's number r
abbrev pub read_span : ℕ → ℕ → ℕ → ℕ
read_span c h r = cond (ltb h r) (c - r) 0

-- how far below it the line stands that stores its register next, by that line's number s, or opens a region, or the end
abbrev pub stop_span : ℕ → ℕ → ℕ → ℕ
stop_span c h s = c - max h s

-- both tables have a place for register v, and the notes one for the line
abbrev pub has_places : List ℕ → ℕ → ℕ → List ℕ → List ℕ → List ℕ → Bool
has_places own v k near stores d = ltb (slot_of (length near) own v) (length near) && (ltb (slot_of (length stores) own v) (length stores) && ltb k (length d / 2))

-- the notes after that of a line that stores register v
abbrev pub note_put : List ℕ → ℕ → ℕ → ℕ → ℕ → List ℕ → List ℕ → List ℕ → List ℕ
note_put own v k c h near stores d =
    cond (has_places own v k near stores d)
    (set (set d (2 * k) (read_span c h (entry_of own v near))) (2 * k + 1) (stop_span c h (entry_of own v stores)))
    d

-- so of a line as it was read
abbrev pub note_line : List ℕ → Line → ℕ → ℕ → ℕ → List ℕ → List ℕ → List ℕ → List ℕ
note_line own line.Decl k c h near stores d = d
note_line own (line.Store s) k c h near stores d = note_put own s.reg.0 k c h near stores d
note_line own line.Other k c h near stores d = d

-- ---- what a note says

-- where the line l stores register v, its note r and s is right about the lines `below` the one that is d lines below it: they read v where the
-- last read is further below, and do not where the next store or the region's end alone is
abbrev pub Noted : ℕ → List ℕ → ℕ → ℕ → ℕ → List (List ℕ) → Type 0
Noted v l r s d below = line_stores v l ≡ true → (d < r → read_later (leaves_of plain) v below ≡ true) × (r ≤ d → d < s → read_later (leaves_of plain) v below ≡ false)

-- a table has right notes of the lines of t
abbrev pub Spans : List ℕ → List ℕ → Type 0
Spans t d = (v k n : ℕ) → k ≤ n → Noted v (line_at t k) (get_or d (2 * k) 0) (get_or d (2 * k + 1) 0) (n - k) (drop (suc n) (lines_of t))
