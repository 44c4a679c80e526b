-- Requests 1, 7, 8 and 9 on small cases, computed. Assumes nothing.
use Prim.Native.Nat.{ℕ}
use mathlib.Core.Path.{◌≡◌, refl}
use mathlib.Core.List.{List, [], ◌∷◌, ◌++◌}
use Rattle.lines.specs.Ascii.{ascii}
use Rattle.lines.specs.Acts.{Act, keep, become, into, gone}
use Rattle.lines.specs.Lf.{same, word}
use Rattle.origins.specs.declared.Went.{Went}
use Rattle.origins.specs.declared.Went.TheVariants.{Equal, Changed, Inside, Away}
use Rattle.origins.specs.declared.Form.TheVariants.{Ol, Om}
use Rattle.origins.specs.Fates.{at, held, lost, fates_of, follow, wents_of}
use Rattle.origins.specs.Form.{Shape, form_shape, gone_of, size_of, file_of}
use Rattle.origins.specs.Read.{read_file, says, wrong}
use Rattle.origins.specs.Answers.{lines_for, found, refused, turn, turned, denied}

-- ---- where lines go

-- a pass: line 0 is gone; line 1 goes into line 2, which goes into line 3; line 4 goes into one that is gone
abbrev pub acts : List Act
acts = gone ∷ into 1 ∷ into 1 ∷ become (ascii "A") ∷ into 1 ∷ gone ∷ keep ∷ []

pub one-pass : fates_of acts ≡ lost ∷ held 0 ∷ held 0 ∷ at 0 ∷ lost ∷ lost ∷ at 1 ∷ []
unfolding fates_of
one-pass = refl

-- then a pass that takes the first of the two lines into the second, and one that drops what is left
pub two-passes : follow (fates_of acts) (fates_of (into 1 ∷ keep ∷ [])) ≡ lost ∷ held 0 ∷ held 0 ∷ held 0 ∷ lost ∷ lost ∷ at 0 ∷ []
unfolding fates_of follow
two-passes = refl

pub holder-goes : follow (follow (fates_of acts) (fates_of (into 1 ∷ keep ∷ []))) (fates_of (gone ∷ [])) ≡ lost ∷ lost ∷ lost ∷ lost ∷ lost ∷ lost ∷ lost ∷ []
unfolding fates_of follow
holder-goes = refl

-- ---- records

abbrev pub ol : Shape
ol = form_shape Ol

abbrev pub om : Shape
om = form_shape Om

-- the numbers that stand for gone, and the sizes of records
pub gone-numbers : (gone_of ol ≡ 65535) × (gone_of om ≡ 4294967295)
gone-numbers = (refl, refl)

pub sizes : (size_of ol ≡ 7) × (size_of om ≡ 11)
sizes = (refl, refl)

-- the records of four lines
abbrev pub said : List Went
said = Equal 0 ∷ Inside 1 ∷ Changed 1 ∷ Away ∷ []

-- that is what is said where `A` stays, `x` is taken into the second line that comes out, `B` becomes it, and `y` is lost
pub is_said : wents_of (ascii "A" ∷ ascii "C" ∷ []) (ascii "A" ∷ ascii "x" ∷ ascii "B" ∷ ascii "y" ∷ []) (at 0 ∷ held 1 ∷ at 1 ∷ lost ∷ []) ≡ said
unfolding wents_of same
is_said = refl

-- their file: OL, and OM
abbrev pub old : List ℕ
old = ascii "OL" ++ 0 ∷ 0 ∷ 0 ∷ 0 ∷ 0 ∷ ascii "OL" ++ 1 ∷ 0 ∷ 2 ∷ 1 ∷ 0 ∷ ascii "OL" ++ 2 ∷ 0 ∷ 1 ∷ 1 ∷ 0 ∷ ascii "OL" ++ 3 ∷ 0 ∷ 3 ∷ 255 ∷ 255 ∷ []

pub ol-file : file_of ol said ≡ old
unfolding file_of
ol-file = refl

pub om-gone : file_of om (Away ∷ []) ≡ ascii "OM" ++ 0 ∷ 0 ∷ 0 ∷ 0 ∷ 3 ∷ 255 ∷ 255 ∷ 255 ∷ 255 ∷ []
unfolding file_of
om-gone = refl

pub reads : read_file ol old ≡ says said
unfolding read_file word
reads = refl

-- two lines behind output line 1; none for gone; too little room
pub two-lines : lines_for ol old 1 2 ≡ found (1 ∷ 2 ∷ [])
unfolding lines_for read_file word
two-lines = refl

pub gone-lines : lines_for ol old 65535 0 ≡ found []
unfolding lines_for read_file word
gone-lines = refl

pub short-room : lines_for ol old 1 1 ≡ refused 6 2
unfolding lines_for read_file word
short-room = refl

-- one fault of each kind; a cut record with a wrong mark is cut; the first record wins over a lower number further down
pub cut : read_file ol (ascii "OM") ≡ wrong 1 0
unfolding read_file word
cut = refl

pub mark-wrong : read_file ol (ascii "OM" ++ 0 ∷ 0 ∷ 0 ∷ 0 ∷ 0 ∷ ascii "O") ≡ wrong 2 0
unfolding read_file word
mark-wrong = refl

pub line-wrong : read_file ol (ascii "OL" ++ 1 ∷ 0 ∷ 9 ∷ 0 ∷ 0 ∷ []) ≡ wrong 3 0
unfolding read_file word
line-wrong = refl

pub fate-wrong : read_file ol (ascii "OL" ++ 0 ∷ 0 ∷ 4 ∷ 255 ∷ 255 ∷ []) ≡ wrong 4 0
unfolding read_file word
fate-wrong = refl

-- 5 either way: a number that stands for gone without its fate, and the fate without the number
pub gone-wrong : read_file ol (ascii "OL" ++ 0 ∷ 0 ∷ 2 ∷ 255 ∷ 255 ∷ []) ≡ wrong 5 0
unfolding read_file word
gone-wrong = refl

pub number-wrong : read_file ol (ascii "OL" ++ 0 ∷ 0 ∷ 3 ∷ 254 ∷ 255 ∷ []) ≡ wrong 5 0
unfolding read_file word
number-wrong = refl

-- OM to OL: an output line of 65,535 does not fit, one of 65,534 does
pub no-fit : turn om ol (ascii "OM" ++ 0 ∷ 0 ∷ 0 ∷ 0 ∷ 1 ∷ 255 ∷ 255 ∷ 0 ∷ 0 ∷ []) 7 ≡ denied 6 0
unfolding turn read_file word
no-fit = refl

pub fit : turn om ol (ascii "OM" ++ 0 ∷ 0 ∷ 0 ∷ 0 ∷ 1 ∷ 254 ∷ 255 ∷ 0 ∷ 0 ∷ []) 7 ≡ turned (ascii "OL" ++ 0 ∷ 0 ∷ 1 ∷ 254 ∷ 255 ∷ [])
unfolding turn read_file word file_of
fit = refl

-- gone stays gone; 5 of a later record comes before 6
pub gone-turned : turn om ol (ascii "OM" ++ 0 ∷ 0 ∷ 0 ∷ 0 ∷ 3 ∷ 255 ∷ 255 ∷ 255 ∷ 255 ∷ []) 7 ≡ turned (ascii "OL" ++ 0 ∷ 0 ∷ 3 ∷ 255 ∷ 255 ∷ [])
unfolding turn read_file word file_of
gone-turned = refl

pub five-first : turn om ol (ascii "OM" ++ 0 ∷ 0 ∷ 0 ∷ 0 ∷ 1 ∷ 255 ∷ 255 ∷ 0 ∷ 0 ∷ ascii "OM" ++ 1 ∷ 0 ∷ 0 ∷ 0 ∷ 3 ∷ 255 ∷ 255 ∷ 0 ∷ 0 ∷ []) 7 ≡ denied 5 1
unfolding turn read_file word
five-first = refl

pub short-out : turn om ol (ascii "OM" ++ 0 ∷ 0 ∷ 0 ∷ 0 ∷ 1 ∷ 254 ∷ 255 ∷ 0 ∷ 0 ∷ []) 6 ≡ denied 7 7
unfolding turn read_file word
short-out = refl
