-- Tables of flags over the keys of temps: what flagging leaves in them, and what they then say. own says where the flags of high keys stand.
-- Assumes nothing.
use Rattle.std.specs.Prelude.{◌≡◌, ℕ, ◌+◌, ◌*◌, ◌^◌, ◌<◌, Bool, true, false, cond, not, ◌&&◌, ◌||◌, List, [], ◌∷◌, length, drop, ◌==◌, nat_lt}
use Prim.Native.Char.{code}
use Rattle.lines.specs.Lf.{parts_of, prefixed, same}
use Rattle.text.specs.Trim.{trim_of}
use Rattle.names.specs.Names.{temp_word, read_number, is_temp}
use Rattle.names.specs.Inner.Names.{zeros}
use Rattle.std.specs.declared.option.Option.{Option}
use Rattle.std.specs.declared.option.Option.TheVariants.{Some, None}
use Rattle.parse.specs.Parse.{let_word, body_of, is_let}
use Rattle.place.specs.Region.{var_word, const_word}
use Rattle.words.specs.Runs.{runs}
use Rattle.reading.specs.Assign.{is_assign, left_of}
use Rattle.slots.specs.Inner.Slots.{slot_of, entry_of, with_entry}

-- the key of the number n behind z zeros, another for each text: the number itself where no zero leads; none where it would be too high. The keys
-- of one number behind more and more zeros fall on places of the owners that are far from each other.
abbrev pub key_by : ℕ → Option ℕ → Option ℕ
key_by z None = None
key_by z (Some n) =
    cond (z == 0) (cond (nat_lt n (2 ^ 63)) (Some n) None) (cond (nat_lt z 63 && nat_lt n (2 ^ 57)) (Some (2 ^ 63 + ((2 ^ 57 + 633) * z + n))) None)

-- the key of a temp: of `t7` it is 7, and of `t07` another
unfoldable pub key_of : List ℕ → Option ℕ
key_of s = cond (prefixed temp_word s) (key_by (zeros (drop 1 s)) (read_number (drop 1 s))) None

-- the table d with a flag at a key; one that has no place in it leaves it as it is
abbrev pub flag_at : List ℕ → Option ℕ → List ℕ → List ℕ
flag_at own None d = d
flag_at own (Some n) d = with_entry own n 1 d

-- ---- declared temps

-- the table after the pieces of a declaration
unfoldable pub flag_pieces : List ℕ → List (List ℕ) → List ℕ → List ℕ
unfolding key_of
flag_pieces own [] d = d
flag_pieces own (p ∷ ps) d = flag_pieces own ps (flag_at own (key_of (trim_of p)) d)

-- after a trimmed line: `let `, names split at commas, `;`
unfoldable pub flag_decl : List ℕ → List ℕ → List ℕ → List ℕ
unfolding is_let flag_pieces
flag_decl own t d = cond (is_let t) (flag_pieces own (parts_of (code ",") (body_of t)) d) d

-- after lines
unfoldable pub flag_decls : List ℕ → List (List ℕ) → List ℕ → List ℕ
unfolding flag_decl
flag_decls own [] d = d
flag_decls own (l ∷ ls) d = flag_decls own ls (flag_decl own (trim_of l) d)

-- ---- temps that are read; the first run that is the left side of a store is no read

-- whether a run that is x is still to be passed over, after the run r
unfoldable pub skip_after : List ℕ → List ℕ → Bool → Bool
skip_after x [] k = k
skip_after x (b ∷ r) k = k && not (same (b ∷ r) x)

-- the table after it
unfoldable pub flag_run : List ℕ → List ℕ → List ℕ → Bool → List ℕ → List ℕ
unfolding key_of
flag_run own x r k d = cond (k && same r x) d (flag_at own (key_of r) d)

-- after runs
unfoldable pub flag_runs : List ℕ → List ℕ → List (List ℕ) → Bool → List ℕ → List ℕ
unfolding skip_after flag_run
flag_runs own x [] k d = d
flag_runs own x (r ∷ rs) k d = flag_runs own x rs (skip_after x r k) (flag_run own x r k d)

-- after a trimmed line: one that begins with `let `, `var ` or `const ` reads nothing
unfoldable pub flag_reads : List ℕ → List ℕ → List ℕ → List ℕ
unfolding flag_runs
flag_reads own t d = cond (prefixed let_word t || (prefixed var_word t || prefixed const_word t)) d (flag_runs own (left_of t) (runs t) (is_assign t) d)

-- after lines
unfoldable pub flag_lines : List ℕ → List (List ℕ) → List ℕ → List ℕ
unfolding flag_reads
flag_lines own [] d = d
flag_lines own (l ∷ ls) d = flag_lines own ls (flag_reads own (trim_of l) d)

-- some flag of a table is set
unfoldable pub any_flag : List ℕ → Bool
any_flag [] = false
any_flag (x ∷ d) = x == 1 || any_flag d

-- the table d after lines, where the table c of declared temps has a flag; else nothing will be asked of it
unfoldable pub reads_if : List ℕ → List ℕ → List (List ℕ) → List ℕ → List ℕ
unfolding any_flag flag_lines
reads_if own c ls d = cond (any_flag c) (flag_lines own ls d) d

-- ---- what a table says

-- of a key: whether its flag is set, or that it has no place
abbrev pub flag_by : List ℕ → Option ℕ → List ℕ → Option Bool
flag_by own None d = None
flag_by own (Some n) d = cond (nat_lt (slot_of (length d) own n) (length d)) (Some (entry_of own n d == 1)) None

-- of the temps that have a place in it, the table flags exactly those that pass a test
abbrev pub Tells : List ℕ → (List ℕ → Bool) → List ℕ → Type 0
Tells own f d = (x : List ℕ) (n : ℕ) → is_temp x ≡ true → key_of x ≡ Some n → slot_of (length d) own n < length d → (entry_of own n d == 1) ≡ f x

-- the same, of the temps that pass the test g
abbrev pub TellsOf : List ℕ → (List ℕ → Bool) → (List ℕ → Bool) → List ℕ → Type 0
TellsOf own g f d = (x : List ℕ) (n : ℕ) → is_temp x ≡ true → g x ≡ true → key_of x ≡ Some n → slot_of (length d) own n < length d → (entry_of own n d == 1) ≡ f x
