-- What may become of a line, told by the marks of its names. Assumes nothing.
use Rattle.std.specs.Prelude.{ℕ, suc, ◌+◌, ◌-◌, ◌*◌, ◌%◌, min, Bool, false, cond, not, ◌&&◌, ◌||◌, List, [], ◌∷◌, eqb, ltb, length, take, drop, get_or}
use Prim.Native.Char.{code}
use Rattle.lines.specs.Ascii.{ascii}
use Rattle.lines.specs.Lf.{part, up_to, parts_of, prefixed, same}
use Rattle.lines.specs.Inner.Lf.{lacks}
use Rattle.text.specs.Trim.{from_of, trim_of}
use Rattle.names.specs.Inner.Names.{zeros}
use Rattle.words.specs.Inner.Runs.{run_len}
use Rattle.parse.specs.Parse.{let_word, body_of}

-- `,` or `;`
abbrev pub is_stop : ℕ → Bool
is_stop b = eqb b (code ",") || eqb b (code ";")

-- c, a space and `r` stand in front
abbrev pub is_front : ℕ → List ℕ → Bool
is_front c q = eqb (get_or q 0 0) c && (eqb (get_or q 1 0) 32 && eqb (get_or q 2 0) (code "r"))

-- how many bytes the next name takes in q: c, a space, `r` and name bytes, where `,` or `;` follows; 0 where there is none
unfoldable pub next_len : ℕ → List ℕ → ℕ
next_len c q = cond (is_front c q && is_stop (get_or q (3 + run_len (drop 3 q)) 0)) (3 + run_len (drop 3 q)) 0

-- what of it follows the `r`
abbrev pub next_digits : ℕ → List ℕ → List ℕ
next_digits c q = part 3 (next_len c q) q

-- ---- what tells names apart: behind the mark of a name stand its digits

-- the digits of a name as it is printed
abbrev pub digits_of : List ℕ → List ℕ
digits_of t = drop (1 + zeros (drop 1 t)) t

-- the tag of digits, by the last two of them: a number above those of digits, so that it is found where a mark stands; 255, which no name has, of none
unfoldable pub tag_of : List ℕ → ℕ
tag_of d = cond (eqb (length d) 0) 255 (58 + get_or (0 ∷ d) (length d - 1) 0 % 16 * 10 + get_or d (length d - 1) 0 % 16)

-- the digits d, and no more, stand in front
unfoldable pub has_digits : List ℕ → List ℕ → Bool
has_digits d ms = prefixed d ms && eqb (get_or ms (length d) 0) 0

-- how many bytes a piece with the marks ms takes, where the next name takes n and has the tag t and the digits d: n, where it is that one, and else none
abbrev pub takes : ℕ → ℕ → List ℕ → List ℕ → ℕ
takes n t d ms = cond ((eqb (get_or ms 0 0) 1 || eqb (get_or ms 0 0) t) && has_digits d (drop 1 ms)) n 0

-- the byte in front of the next name: `,` once a name was taken
abbrev pub lead_on : ℕ → ℕ → ℕ
lead_on c k = cond (eqb k 0) c 44

-- what q has of the names of a declaration's pieces, and then `;`: a name is taken where q goes on with it, and else must not have the mark 1. A piece has
-- its mark where it begins
unfoldable pub fit_go : ℕ → List (List ℕ) → List ℕ → List ℕ → Bool
unfolding next_len tag_of has_digits
fit_go c [] ms q = same (ascii ";") q
fit_go c (p ∷ ps) ms q =
    let k = takes (next_len c q) (tag_of (next_digits c q)) (next_digits c q) ms in
    let on = fit_go (lead_on c k) ps (drop (suc (length p)) ms) (drop k q) in
    cond (eqb k 0 && eqb (get_or ms 0 0) 1) false on

-- ---- searches, so that most names are passed over unread

-- the first mark 1 from i on; m, where one was found behind i
abbrev pub next_mark : ℕ → ℕ → List ℕ → ℕ
next_mark i m ms = cond (ltb i m) m (i + up_to 1 (drop i ms))

-- how many bytes stand before the tag t with the digits d behind it: all, where there is none
unfoldable pub up_to_name : ℕ → List ℕ → List ℕ → ℕ
unfolding has_digits
up_to_name t d [] = 0
up_to_name t d (x ∷ ms) = cond (eqb x t && has_digits d ms) 0 (suc (up_to_name t d ms))

-- its place from i on, but not behind m
abbrev pub name_from : ℕ → ℕ → ℕ → List ℕ → List ℕ → ℕ
name_from i m t d ms = i + min (up_to_name t d (drop i ms)) (m - i)

-- g, where that is past the end or a piece begins there, and else i
abbrev pub piece_at : List ℕ → ℕ → ℕ → ℕ
piece_at body i g = cond (ltb (length body) g || eqb (get_or body (g - 1) 0) 44) g i

-- the line p is the declaration l with names left out; the `t ` of its `let ` stands before the first name
unfoldable pub reprinted : List ℕ → List ℕ → List ℕ → Bool
unfolding fit_go
reprinted l ms p =
    prefixed (take (from_of l) l) p
    && (prefixed let_word (drop (from_of l) p) && fit_go 116 (parts_of (code ",") (body_of (trim_of l))) ms (drop (from_of l + 2) p))

-- the line l may be the line p: as it was, or, where it is a declaration, which its first mark tells, with names left out
unfoldable pub may_be_by : List ℕ → List ℕ → List ℕ → Bool
unfolding reprinted
may_be_by l ms p = same l p || (not (eqb (get_or ms 0 0) 0) && reprinted l ms p)

-- it may go: a declaration without the mark 1
unfoldable pub may_go_by : List ℕ → List ℕ → Bool
may_go_by l ms = not (eqb (get_or ms 0 0) 0) && lacks 1 ms
