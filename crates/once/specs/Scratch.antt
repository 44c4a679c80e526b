-- `call_scratch_lines`: a load of a member whose value nothing reads, where a call of the same member follows. Assumes nothing.
use Rattle.std.specs.Prelude.{ℕ, suc, Bool, false, cond, not, ◌&&◌, ◌||◌, List, [], ◌∷◌, ◌++◌, length, take, drop, ltb}
use Prim.Native.Char.{code}
use Rattle.lines.specs.Ascii.{ascii}
use Rattle.lines.specs.Lf.{up_to, holds}
use Rattle.names.specs.Names.{reg_of, is_ident}
use Rattle.std.specs.declared.option.Option.{Option}
use Rattle.names.specs.declared.Register.{Register}
use Rattle.std.specs.declared.option.Option.TheVariants.{Some, None}
use Rattle.parse.specs.Parse.{parse_of, text_of}
use Rattle.place.specs.Region.{is_header}
use Rattle.words.specs.Hits.{hits}
use Rattle.reading.specs.Uses.{line_reads, line_stores}

-- ---- a bare member read, `A.B` with both simple names

abbrev pub object_of : List ℕ → List ℕ
object_of x = take (up_to (code ".") x) x

unfoldable pub is_member : List ℕ → Bool
is_member x = ltb (up_to (code ".") x) (length x) && (is_ident (object_of x) && is_ident (drop (suc (up_to (code ".") x)) x))

-- ---- below the load, down to the end of its region

-- the value is read before the register is stored again; a store ends it even where it reads the register itself
unfoldable pub live_below : ℕ → List (List ℕ) → Bool
live_below v [] = false
live_below v (l ∷ ls) =
    let more = live_below v ls in
    let on = not (line_stores v l) && (ltb 0 (line_reads v l) || more) in
    cond (is_header l) false on

-- a line changes the object: it stores the register that the object is, or mentions the name that it is
abbrev pub changes_by : Option Register → List ℕ → List ℕ → Bool
changes_by (Some q) obj l = line_stores q.0 l
changes_by None obj l = ltb 0 (length (hits obj (text_of l (parse_of l))))

-- the first line that holds the call `A.B(` comes before any line that changes the object
unfoldable pub called_below : List ℕ → List (List ℕ) → Bool
called_below x [] = false
called_below x (l ∷ ls) =
    let more = called_below x ls in
    let on = holds (x ++ ascii "(") l || (not (changes_by (reg_of (object_of x)) (object_of x) l) && more) in
    cond (is_header l) false on

-- a store of register v with the value x, above ls, is such a load
unfoldable pub scratch_at : ℕ → List ℕ → List (List ℕ) → Bool
unfolding is_member live_below called_below
scratch_at v x ls = is_member x && (not (live_below v ls) && called_below x ls)
