-- Request 7, the checks: what a record file says, or the first record that is wrong, and how. Assumes nothing.
use Rattle.std.specs.Prelude.{ℕ, zero, suc, ◌+◌, Bool, cond, not, ◌&&◌, List, [], ◌∷◌, length, get_or, take, drop, eqb, ltb}
use Prim.Native.Char.{code}
use Rattle.lines.specs.Lf.{word}
use Rattle.origins.specs.declared.Went.{Went}
use Rattle.origins.specs.declared.Went.TheVariants.{Equal, Changed, Inside, Away}
use Rattle.origins.specs.Form.{Shape, gone_of, size_of, equal_fate, changed_fate, inside_fate, gone_fate}

-- ---- one record, which the bytes s begin with

abbrev pub is_marked : Shape → List ℕ → Bool
is_marked F s = eqb (get_or s 0 0) (code "O") && eqb (get_or s 1 0) F.letter

abbrev pub line_in : Shape → List ℕ → ℕ
line_in F s = word (take F.width (drop 2 s))

abbrev pub fate_in : Shape → List ℕ → ℕ
fate_in F s = get_or s (2 + F.width) 0

abbrev pub out_in : Shape → List ℕ → ℕ
out_in F s = word (take F.width (drop (3 + F.width) s))

-- 5 where just one of the two says that the line is gone: its fate, its output line
abbrev pub agree_by : Bool → Bool → ℕ
agree_by fate out = cond fate (cond out 0 5) (cond out 5 0)

-- what is wrong with it as the record of line i: 0, nothing; 1, it is cut; 2, another mark; 3, another line, so that it is out of order;
-- 4, an unknown fate; 5, fate and output line disagree
unfoldable pub fault_in : Shape → ℕ → List ℕ → ℕ
fault_in F i s =
    cond (ltb (length s) (size_of F)) 1
    (cond (not (is_marked F s)) 2
    (cond (not (eqb (line_in F s) i)) 3
    (cond (ltb gone_fate (fate_in F s)) 4
    (agree_by (eqb (fate_in F s) gone_fate) (eqb (out_in F s) (gone_of F))))))

-- what it says
abbrev pub went_by : ℕ → ℕ → Went
went_by k n = cond (eqb k equal_fate) (Equal n) (cond (eqb k changed_fate) (Changed n) (cond (eqb k inside_fate) (Inside n) Away))

unfoldable pub went_in : Shape → List ℕ → Went
went_in F s = went_by (fate_in F s) (out_in F s)

-- ---- a file

-- what its records say; or the number of what is wrong, and the first record that is wrong
pub data Said : Type 0 where
  says : List Went → Said
  wrong : ℕ → ℕ → Said

-- record i in front of what the rest says
unfoldable pub said_by : ℕ → ℕ → Went → Said → Said
said_by zero i w (says ws) = says (w ∷ ws)
said_by zero i w (wrong c j) = wrong c j
said_by (suc c) i w rest = wrong (suc c) i

-- the bytes from line i on; n bounds the number of records
unfoldable pub read_from : Shape → ℕ → ℕ → List ℕ → Said
unfolding said_by fault_in went_in
read_from F zero i s = says []
read_from F (suc n) i s = cond (eqb (length s) 0) (says []) (said_by (fault_in F i s) i (went_in F s) (read_from F n (suc i) (drop (size_of F) s)))

-- there are no more records than bytes
unfoldable pub read_file : Shape → List ℕ → Said
unfolding read_from
read_file F s = read_from F (length s) 0 s
