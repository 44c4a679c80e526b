-- `text.lines()`, `keep_ending` and `lines.join` in `optimize`: from a text to its lines, and from lines to a text. Assumes nothing.
use Rattle.std.specs.Prelude.{ℕ, zero, suc, ◌+◌, ◌-◌, Bool, true, false, cond, not, ◌&&◌, List, [], ◌∷◌, ◌++◌, ◌==◌, nat_lt}
use Prim.Native.Char.{code}
use Rattle.lines.specs.Ascii.{ascii}
use Rattle.std.specs.declared.option.Option.{Option}
use Rattle.std.specs.declared.option.Option.TheVariants.{Some, None}
use Rattle.lines.specs.Lf.{count_of, prefixed, ends_in, lines_of}

-- without each CR that stands just before an LF
unfoldable pub drop_cr : List ℕ → List ℕ
drop_cr [] = []
drop_cr (x ∷ xs) =
    let rest = drop_cr xs in
    let kept = x ∷ rest in
    cond (x == (code "\r") && prefixed (ascii "\n") xs) rest kept

-- `text.lines()`: cut at each LF; a CR just before it goes with it, and a CR that ends a last line without LF stays
unfoldable pub split_lines : List ℕ → List (List ℕ)
split_lines t = lines_of (drop_cr t)

-- `lines.join("\n")`: an LF between lines
unfoldable pub join_lines : List (List ℕ) → List ℕ
join_lines [] = []
join_lines (l ∷ []) = l
join_lines (l ∷ m ∷ ls) = l ++ code "\n" ∷ join_lines (m ∷ ls)

-- where the text ended in LF and the joined text does not, one LF is added
unfoldable pub settle : Bool → List ℕ → List ℕ
settle ended out = cond (ended && not (ends_in (code "\n") out)) (out ++ ascii "\n") out

-- the last step
unfoldable pub joined : Bool → List (List ℕ) → List ℕ
joined ended ls = settle ended (join_lines ls)

-- the first line with more than `most` bytes b, counted from n
unfoldable pub over_from : ℕ → ℕ → ℕ → List (List ℕ) → Option ℕ
over_from most b n [] = None
over_from most b n (l ∷ ls) = cond (nat_lt most (count_of b l)) (Some n) (over_from most b (suc n) ls)
