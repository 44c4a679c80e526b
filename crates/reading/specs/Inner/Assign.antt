-- What inner functions and laws ask beside Assign: no promise of an entry hangs on it. Assumes nothing.
use Rattle.std.specs.Prelude.{ℕ, suc, ◌+◌, ◌-◌, Bool, cond, ◌&&◌, List, length, take, drop, get_or, eqb, leb, ltb}
use Prim.Native.Char.{code}
use Rattle.lines.specs.Lf.{up_to}
use Rattle.text.specs.Trim.{from_of, to_end}
use Rattle.parse.specs.Inner.Parse.{plain_byte}
use Rattle.std.specs.declared.option.Option.{Option}
use Rattle.reading.specs.declared.Sides.{Sides}
use Rattle.std.specs.declared.option.Option.TheVariants.{Some, None}
use Rattle.reading.specs.Assign.{is_assign, unended}

-- the places of the two sides in the text, where the `=` stands at the place k of u
abbrev pub split_at : ℕ → List ℕ → Option Sides
split_at k u =
    Some
    (record {
      left = record { from = from_of (take k u); to = to_end (take k u) };
      right = record { from = suc k + from_of (drop (suc k) u); to = suc k + to_end (drop (suc k) u) };
    })

-- one space stands on either side of the place k, and the two sides without these begin and end with plain bytes
abbrev pub plain_sides : ℕ → List ℕ → Bool
plain_sides k u =
    leb 2 k
    && (leb (k + 3) (length u)
    && (eqb (get_or u (k - 1) 0) (code " ") && (eqb (get_or u (k + 1) 0) (code " ")
    && (plain_byte (get_or u 0 0) && (plain_byte (get_or u (k - 2) 0) && (plain_byte (get_or u (k + 2) 0) && plain_byte (get_or u (length u - 1) 0)))))))

-- the same of a text without its `;`, or none where it holds no `=`
abbrev pub sides_of : List ℕ → Option Sides
sides_of u = cond (ltb (up_to (code "=") u) (length u)) (split_at (up_to (code "=") u) u) None

-- the two sides as places of the text, or none where it is no assignment
unfoldable pub assign_of : List ℕ → Option Sides
unfolding is_assign
assign_of t = cond (is_assign t) (split_at (up_to (code "=") (unended t)) (unended t)) None
