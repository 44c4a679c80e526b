-- Tables over registers, of the next lines that read and store each one, and one over lines, of what each is and of what becomes of what it
-- stores: what lines leave in them, and what they then say. Assumes nothing.
use Rattle.std.specs.Prelude.{ℕ, zero, suc, ◌+◌, ◌-◌, ◌≤◌, ◌<◌, ◌≡◌, Bool, true, false, cond, not, ◌&&◌, ◌||◌, List, [], ◌∷◌, eqb, ltb, length, drop, get_or, set}
use Prim.Native.Char.{code}
use Rattle.names.specs.Names.{reg_of}
use Rattle.std.specs.declared.option.Option.{Option}
use Rattle.names.specs.declared.Register.{Register}
use Rattle.std.specs.declared.option.Option.TheVariants.{Some, None}
use Rattle.lines.specs.Lf.{part, up_to, lines_of}
use Rattle.lines.specs.Inner.Lf.{lacks}
use Rattle.parse.specs.Parse.{parse_of}
use Rattle.parse.specs.declared.Store.{Store}
use Rattle.parse.specs.declared.Line.{Line}
use Rattle.parse.specs.declared.Line.TheVariants as line
use Rattle.place.specs.Region.{region, region_at}
use Rattle.reading.specs.Uses.{line_reads, line_stores}
use Rattle.slots.specs.Inner.Slots.{slot_of, entry_of, with_entry}
use Rattle.decls.specs.Inner.Firsts.{first_by, read_below}
use Rattle.decls.specs.Inner.Seen.{mark_name}
use Rattle.once.specs.Scratch.{live_below}
use Rattle.once.specs.Once.{dead_by, read_count, later_read}
use Rattle.once.specs.Inner.Tables.{next_in}

-- the number of the line that has the second read of register v
unfoldable pub far_from : ℕ → List (List ℕ) → ℕ
unfolding first_by
far_from v [] = 0
far_from v (l ∷ ls) = cond (ltb 0 (line_reads v l)) (cond (ltb 1 (line_reads v l)) (suc (length ls)) (read_below v ls)) (far_from v ls)

-- ---- what a note says of a line, and of what the lines below do with the register that it stores: nothing; a declaration; no store;
abbrev pub note_none : ℕ
note_none = 0

abbrev pub note_decl : ℕ
note_decl = 1

abbrev pub note_other : ℕ
note_other = 2

-- a line of the region reads it next;
abbrev pub note_read : ℕ
note_read = 3

-- the next line does, once, and it is not read again before it is stored: the region reads it elsewhere too, or there alone;
abbrev pub note_sent : ℕ
note_sent = 4

abbrev pub note_alone : ℕ
note_alone = 7

-- a line stores it next that reads it too, or in another block path; or nothing wants its value
abbrev pub note_stored : ℕ
note_stored = 5

abbrev pub note_dead : ℕ
note_dead = 6

-- ---- tables of these numbers. The one of the second reads is right where a register is read before it is stored; a store whose value the
-- region reads once, on the next line, puts its own number there, which is above that of the read

-- the table f of the second reads, where n has the first ones, after a read of the register that a name is
abbrev pub far_name : List ℕ → Option Register → List ℕ → List ℕ → List ℕ
far_name own None n f = f
far_name own (Some q) n f = with_entry own q.0 (entry_of own q.0 n) f

-- after a store of register v by the line with the number m and the note x
abbrev pub alone_in : List ℕ → ℕ → ℕ → ℕ → List ℕ → List ℕ
alone_in own m x v f = cond (eqb x note_alone) (with_entry own v m f) f

-- so of the register that a line, as it was read, stores
abbrev pub alone_store : List ℕ → ℕ → ℕ → Line → List ℕ → List ℕ
alone_store own m x line.Decl f = f
alone_store own m x (line.Store s) f = alone_in own m x s.reg.0 f
alone_store own m x line.Other f = f

-- the notes d of c lines where that of the line with the number f says no more that the region reads its value once
abbrev pub take_back : ℕ → ℕ → List ℕ → List ℕ
take_back c f d = cond (ltb c f) d (cond (eqb (get_or d (c - f) 0) note_alone) (set d (c - f) note_sent) d)

-- after a read of a register with the numbers r and f in the two tables, where h is the number of the next header
abbrev pub back_by : ℕ → ℕ → ℕ → ℕ → List ℕ → List ℕ
back_by c h r f d = cond (ltb h r && ltb r f) (take_back c f d) d

-- so of the register that a name is
abbrev pub back_name : List ℕ → ℕ → ℕ → Option Register → List ℕ → List ℕ → List ℕ → List ℕ
back_name own c h None n f d = d
back_name own c h (Some q) n f d = back_by c h (entry_of own q.0 n) (entry_of own q.0 f) d

-- the tables of the first reads and of the second ones, and the notes
abbrev pub Reads : Type 0
Reads = List ℕ × (List ℕ × List ℕ)

-- after a read of the register that a name is in the line with the number m
abbrev pub read_name : List ℕ → ℕ → ℕ → ℕ → Option Register → Reads → Reads
read_name own c h m r d = (mark_name own m r d.0, (far_name own r d.0 d.1.0, back_name own c h r d.0 d.1.0 d.1.1))

-- after the reads of the registers that runs name
unfoldable pub read_runs : List ℕ → ℕ → ℕ → ℕ → List (List ℕ) → Reads → Reads
read_runs own c h m [] d = d
read_runs own c h m (r ∷ rs) d = read_runs own c h m rs (read_name own c h m (reg_of r) d)

-- ---- the region of a line

-- that of the line with k above it, where run is that of the line above all
unfoldable pub area_of : List (List ℕ) → List (List ℕ) → ℕ → List (List ℕ)
area_of run [] k = run
area_of run (l ∷ ls) zero = region_at l ls run
area_of run (l ∷ ls) (suc k) = area_of (region_at l ls run) ls k

-- ---- calls

-- a text of at most c bytes holds no `(`
abbrev pub CalmIn : List ℕ → ℕ → Type 0
CalmIn s c = length s ≤ c → lacks (code "(") s ≡ true

-- so of every rest of a text
abbrev pub Calm : List ℕ → ℕ → Type 0
Calm s c = (j : ℕ) → CalmIn (drop j s) c

-- ---- a line that is read already

-- the line at i ends at e, and is read as p
abbrev pub LineAt : List ℕ → ℕ → ℕ → Line → Type 0
LineAt s i e p = (e ≡ i + up_to (code "\n") (drop i s)) × (p ≡ parse_of (part i e s))

-- the line at i, which is there, ends at e and has k lines above it
pub record RowAt (s : List ℕ) (i e k : ℕ) : Type 0 where
  pub here : i < length s
  pub end : e ≡ i + up_to (code "\n") (drop i s)
  pub above : k ≤ i
  pub rows : lines_of (drop i s) ≡ drop k (lines_of s)

-- ---- where a line begins

-- a line of a text begins at r: an LF stands before it, where anything does
abbrev pub Begins : List ℕ → ℕ → Type 0
Begins s r = (k : ℕ) → r ≡ suc k → get_or s k 0 ≡ code "\n"

-- the line that ends at e begins at r
abbrev pub StartOf : List ℕ → ℕ → ℕ → Type 0
StartOf s e r = (e ≡ r + up_to (code "\n") (drop r s)) × Begins s r

-- the line that begins at j ends at the place m, where that is not 0
abbrev pub EndIs : List ℕ → ℕ → ℕ → Type 0
EndIs s j m = 0 < m → m ≡ j + up_to (code "\n") (drop j s)

-- a table has the places where the lines of a text end; 0 says nothing
abbrev pub EndsOf : List ℕ → List ℕ → Type 0
EndsOf s d = (k j : ℕ) → lines_of (drop j s) ≡ drop k (lines_of s) → EndIs s j (get_or d k 0)

-- ---- the note of a line

-- the line with k above it, and the one with the number s, are in one block path
abbrev pub same_path : List ℕ → ℕ → ℕ → Bool
same_path ps k s = not (ltb (length ps) s) && eqb (get_or ps k 0) (get_or ps (length ps - s) 0)

-- that of a store above m lines, by the numbers of the first and the second line that read its register, of the first that stores it, and of
-- the first header
abbrev pub note_by : ℕ → ℕ → ℕ → ℕ → ℕ → Bool → ℕ
note_by r f s h m same =
    cond (ltb h r && ltb s r) (cond (eqb r m && not (ltb s f)) (cond (ltb h f) note_sent note_alone) note_read)
    (cond (ltb h r && eqb s r) note_stored
    (cond (ltb h s) (cond same note_dead note_stored)
    (cond (eqb r m) note_none note_dead)))

-- the same by tables of these numbers, of one length; ps are the block paths of all lines, and k lines are above
abbrev pub store_note : List ℕ → ℕ → List ℕ → ℕ → ℕ → ℕ → List ℕ → List ℕ → List ℕ → ℕ
store_note own v ps k m h near far stores =
    cond (ltb (slot_of (length near) own v) (length near))
    (note_by (entry_of own v near) (entry_of own v far) (entry_of own v stores) h m (same_path ps k (entry_of own v stores))) note_none

-- that of a line, as it was read
abbrev pub line_note : List ℕ → Line → List ℕ → ℕ → ℕ → ℕ → List ℕ → List ℕ → List ℕ → ℕ
line_note own line.Decl ps k m h near far stores = note_decl
line_note own (line.Store s) ps k m h near far stores = store_note own s.reg.0 ps k m h near far stores
line_note own line.Other ps k m h near far stores = note_other

-- what a note says of a line is so
abbrev pub KindIs : List ℕ → ℕ → Type 0
KindIs l m = (m ≡ note_decl → line.Decl ≡ parse_of l) × (m ≡ note_other → line.Other ≡ parse_of l)

-- the value of a store is read next in the region
abbrev pub read_next : ℕ → Bool
read_next m = eqb m note_read || (eqb m note_sent || eqb m note_alone)

-- what a note says of a store of register v in block path p, above the lines ls with the block paths ps, is so: whether the value is read, and
-- whether it is dead
pub record DropIs (v p : ℕ) (ls : List (List ℕ)) (ps : List ℕ) (m : ℕ) : Type 0 where
  pub live : read_next m ≡ true → (live_below v ls ≡ true) × (dead_by p (next_in v ls ps) ≡ false)
  pub kept : m ≡ note_stored → (live_below v ls ≡ false) × (dead_by p (next_in v ls ps) ≡ false)
  pub dead : m ≡ note_dead → (live_below v ls ≡ false) × (dead_by p (next_in v ls ps) ≡ true)

-- the first line reads register v once and does not store it, and it is not read again below
unfoldable pub sent_to : ℕ → List (List ℕ) → Bool
sent_to v [] = false
sent_to v (e ∷ ls) = not (line_stores v e) && (eqb (line_reads v e) 1 && not (later_read v ls))

-- the value of a store may go into the next line
abbrev pub may_send : ℕ → Bool
may_send m = eqb m note_sent || eqb m note_alone

-- it does not
abbrev pub no_send : ℕ → Bool
no_send m = not (may_send m) && ltb note_other m

-- what a note says of a store of register v above the lines ls is so: whether its value may go into the next line
pub record SendIs (v : ℕ) (ls : List (List ℕ)) (m : ℕ) : Type 0 where
  pub sent : may_send m ≡ true → sent_to v ls ≡ true
  pub stays : no_send m ≡ true → sent_to v ls ≡ false

-- a note says at once that a line stays as it is: it is no store, or its value is read next in the region and does not go into the next line
abbrev pub told : ℕ → Bool
told m = ltb note_none m && ltb m note_sent

-- a note says at once that a line does not go: it is no store, or its value is read next in the region
abbrev pub settled : ℕ → Bool
settled m = eqb m note_alone || (ltb note_none m && ltb m note_stored)

-- so of the register that a line stores
abbrev pub DropBy : List ℕ → ℕ → List (List ℕ) → List ℕ → ℕ → Type 0
DropBy l p ls ps m = (s : Store) → parse_of l ≡ line.Store s → DropIs s.reg.0 p ls ps m

abbrev pub SendBy : List ℕ → List (List ℕ) → ℕ → Type 0
SendBy l ls m = (s : Store) → parse_of l ≡ line.Store s → SendIs s.reg.0 ls m

-- all that a note says
pub record NoteIs (l : List ℕ) (p : ℕ) (ls : List (List ℕ)) (ps : List ℕ) (m : ℕ) : Type 0 where
  pub kind : KindIs l m
  pub drops : DropBy l p ls ps m
  pub sends : SendBy l ls m

-- the first line, or an empty one
abbrev pub first_line : List (List ℕ) → List ℕ
first_line [] = []
first_line (l ∷ ls) = l

-- a table has notes of lines with the block paths ps
abbrev pub NotesOf : List (List ℕ) → List ℕ → List ℕ → Type 0
NotesOf ls ps d = (k : ℕ) → NoteIs (first_line (drop k ls)) (get_or ps k 0) (drop (k + 1) ls) (drop (k + 1) ps) (get_or d k 0)

-- what a note says of a store of register v in the region run is so: whether the region reads it once
pub record OneIs (v : ℕ) (run : List (List ℕ)) (m : ℕ) : Type 0 where
  pub alone : m ≡ note_alone → read_count v run ≡ 1
  pub more : m ≡ note_sent → read_count v run ≡ 1 → ⊥

-- so of the register that a line stores
abbrev pub OneBy : List ℕ → List (List ℕ) → ℕ → Type 0
OneBy l run m = (s : Store) → parse_of l ≡ line.Store s → OneIs s.reg.0 run m

-- so of all lines by a table of notes
abbrev pub OneOf : List (List ℕ) → List ℕ → Type 0
OneOf ls d = (k : ℕ) → OneBy (first_line (drop k ls)) (area_of (region ls) ls k) (get_or d k 0)
