-- `prune_decls`: a declared register stays exactly when some line of its region reads or stores it. Assumes nothing.
use Rattle.std.specs.Prelude.{ℕ, cond, List, [], ◌∷◌, ◌++◌, take}
use Prim.Native.Char.{code}
use Rattle.lines.specs.Ascii.{ascii}
use Rattle.lines.specs.Lf.{parts_of}
use Rattle.lines.specs.Acts.{Act, keep, become, gone, apply}
use Rattle.text.specs.Trim.{from_of, trim_of}
use Rattle.names.specs.Names.{reg_of, reg_text}
use Rattle.std.specs.declared.option.Option.{Option}
use Rattle.names.specs.declared.Register.{Register}
use Rattle.std.specs.declared.option.Option.TheVariants.{Some, None}
use Rattle.parse.specs.Parse.{let_word, body_of, is_decl}
use Rattle.place.specs.Region.{region, region_at}
use Rattle.reading.specs.Uses.{used_in}

-- ---- a declaration anew

-- names joined by `, `
unfoldable pub commas : List ℕ → List (List ℕ) → List ℕ
commas x [] = x
commas x (y ∷ ys) = x ++ code "," ∷ code " " ∷ commas y ys

-- a declaration with the names that are left: it goes with none, and else is its indent, `let `, the names and `;`
unfoldable pub decl_act : List ℕ → List (List ℕ) → Act
unfolding commas
decl_act indent [] = gone
decl_act indent (x ∷ xs) = become (indent ++ let_word ++ commas x xs ++ ascii ";")

-- ---- the pass

-- a register as it is printed, where its region uses it
abbrev pub keep_one : List (List ℕ) → Option Register → List (List ℕ)
keep_one run None = []
keep_one run (Some q) = cond (used_in q.0 run) (reg_text q.0 ∷ []) []

-- the names that stay, of the pieces of a declaration
unfoldable pub keep_names : List (List ℕ) → List (List ℕ) → List (List ℕ)
keep_names run [] = []
keep_names run (p ∷ ps) = keep_one run (reg_of (trim_of p)) ++ keep_names run ps

-- what becomes of a line of the region `run`: a line that is no declaration stays
unfoldable pub act_of : List (List ℕ) → List ℕ → Act
unfolding decl_act keep_names
act_of run l = cond (is_decl (trim_of l)) (decl_act (take (from_of l) l) (keep_names run (parts_of (code ",") (body_of (trim_of l))))) keep

-- the acts of lines; `run` is the region of the line above
unfoldable pub acts_go : List (List ℕ) → List (List ℕ) → List Act
unfolding act_of region_at
acts_go [] run = []
acts_go (l ∷ ls) run = act_of (region_at l ls run) l ∷ acts_go ls (region_at l ls run)

-- the acts of all lines
unfoldable pub prune_decls_acts : List (List ℕ) → List Act
unfolding acts_go region
prune_decls_acts ls = acts_go ls (region ls)

-- the lines that they make
unfoldable pub prune_decls : List (List ℕ) → List (List ℕ)
unfolding prune_decls_acts apply
prune_decls ls = apply (prune_decls_acts ls) ls
