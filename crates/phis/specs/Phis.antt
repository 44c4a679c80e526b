-- `prune_dead_phis`: stores of phis that nothing reads go, and their names leave the declarations; at most 3 rounds. Assumes nothing.
use Rattle.std.specs.Prelude.{ℕ, Bool, true, false, cond, not, ◌&&◌, ◌||◌, List, [], ◌∷◌, ◌++◌, length, take, ltb}
use Prim.Native.Char.{code}
use Rattle.lines.specs.Ascii.{ascii}
use Rattle.lines.specs.Lf.{parts_of}
use Rattle.lines.specs.Acts.{Act, keep, become, gone, apply}
use Rattle.text.specs.Trim.{from_of, trim_start, trim_of}
use Rattle.names.specs.Names.{phi_of, phi_text, phi_is}
use Rattle.std.specs.declared.option.Option.{Option}
use Rattle.names.specs.declared.Phi.{Phi}
use Rattle.std.specs.declared.option.Option.TheVariants.{Some, None}
use Rattle.parse.specs.Parse.{body_of, is_let}
use Rattle.lexical.specs.Phi.{phi_rhs_pure}
use Rattle.words.specs.Hits.{hits}
use Rattle.decls.specs.Decls.{decl_act}
use Rattle.reading.specs.Reading.{Reading, pure_in}
use Rattle.reading.specs.Assign.{is_assign, left_of, right_of}

-- ---- what a line is here. Only its front is trimmed: with white space after the `;` it is neither

abbrev pub is_phi : Option Phi → Bool
is_phi None = false
is_phi (Some q) = true

unfoldable pub all_phis : List (List ℕ) → Bool
all_phis [] = true
all_phis (p ∷ ps) = is_phi (phi_of (trim_of p)) && all_phis ps

-- a declaration of phis alone
unfoldable pub phi_decl : List ℕ → Bool
unfolding is_let all_phis
phi_decl t = is_let t && all_phis (parts_of (code ",") (body_of t))

-- one of the pieces is phi p
unfoldable pub any_phi : ℕ → List (List ℕ) → Bool
any_phi p [] = false
any_phi p (x ∷ xs) = phi_is p (phi_of (trim_of x)) || any_phi p xs

-- the phi that a line stores
unfoldable pub phi_store : List ℕ → Option Phi
unfolding is_let
phi_store t = cond (not (is_let t) && is_assign t) (phi_of (left_of t)) None

-- ---- a phi that nothing reads: every mention of its text, `phi` and its number, stands in a line that stores it or in a declaration of phis
-- that has it (`total <= own + in_decl`)

-- a text, its front trimmed, stores phi p or is a declaration of phis that has it
unfoldable pub phi_own : ℕ → List ℕ → Bool
unfolding phi_store phi_decl any_phi
phi_own p t = phi_is p (phi_store t) || (phi_decl t && any_phi p (parts_of (code ",") (body_of t)))

-- a line mentions phi p, and neither stores nor declares it
unfoldable pub phi_reads : ℕ → List ℕ → Bool
unfolding phi_own
phi_reads p l = ltb 0 (length (hits (phi_text p) l)) && not (phi_own p (trim_start l))

unfoldable pub phi_read : ℕ → List (List ℕ) → Bool
unfolding phi_reads
phi_read p [] = false
phi_read p (l ∷ ls) = phi_reads p l || phi_read p ls

unfoldable pub phi_stored : ℕ → List (List ℕ) → Bool
unfolding phi_store
phi_stored p [] = false
phi_stored p (l ∷ ls) = phi_is p (phi_store (trim_start l)) || phi_stored p ls

-- phi p is stored and nothing reads it
abbrev pub dead_phi : ℕ → List (List ℕ) → Bool
dead_phi p ls = phi_stored p ls && not (phi_read p ls)

abbrev pub phi_dead : Option Phi → List (List ℕ) → Bool
phi_dead None ls = false
phi_dead (Some q) ls = dead_phi q.0 ls

-- some line of ms stores a phi that is dead in ls
unfoldable pub any_dead : List (List ℕ) → List (List ℕ) → Bool
any_dead ls [] = false
any_dead ls (m ∷ ms) = phi_dead (phi_store (trim_start m)) ls || any_dead ls ms

-- ---- one round

-- the names of a declaration that are not dead, as they are printed
abbrev pub live_phi : List (List ℕ) → Option Phi → List (List ℕ)
live_phi ls None = []
live_phi ls (Some q) = cond (dead_phi q.0 ls) [] (phi_text q.0 ∷ [])

unfoldable pub live_phis : List (List ℕ) → List (List ℕ) → List (List ℕ)
live_phis ls [] = []
live_phis ls (p ∷ ps) = live_phi ls (phi_of (trim_of p)) ++ live_phis ls ps

-- a store of a dead phi: it goes where its value is pure by either test, and else its value stays as a statement
abbrev pub store_act : Reading → List ℕ → List ℕ → Act
store_act R indent rhs = cond (pure_in R rhs || phi_rhs_pure rhs) gone (become (indent ++ rhs ++ ascii ";"))

unfoldable pub phi_act : Reading → List (List ℕ) → List ℕ → Act
unfolding live_phis decl_act
phi_act R ls l =
    cond (phi_dead (phi_store (trim_start l)) ls) (store_act R (take (from_of l) l) (right_of (trim_start l)))
    (cond (phi_decl (trim_start l)) (decl_act (take (from_of l) l) (live_phis ls (parts_of (code ",") (body_of (trim_start l))))) keep)

unfoldable pub phi_acts : Reading → List (List ℕ) → List (List ℕ) → List Act
unfolding phi_act
phi_acts R ls [] = []
phi_acts R ls (m ∷ ms) = phi_act R ls m ∷ phi_acts R ls ms

-- all lines stay
unfoldable pub keeps : List (List ℕ) → List Act
keeps [] = []
keeps (l ∷ ls) = keep ∷ keeps ls

-- a round changes nothing where no phi is dead
unfoldable pub round_acts : Reading → List (List ℕ) → List Act
unfolding any_dead phi_acts keeps
round_acts R ls = cond (any_dead ls ls) (phi_acts R ls ls) (keeps ls)

unfoldable pub round : Reading → List (List ℕ) → List (List ℕ)
unfolding round_acts apply
round R ls = apply (round_acts R ls) ls

-- the pass: three rounds
unfoldable pub prune_dead_phis : Reading → List (List ℕ) → List (List ℕ)
unfolding round
prune_dead_phis R ls = round R (round R (round R ls))
