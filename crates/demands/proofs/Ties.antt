-- Rules of the Rust that stand in two forms, as a rule by itself and as the passes ask it: the two are one. That regions by number are those between headers
-- is place/Numbers `by-numbers`. Assumes nothing.
use Prim.Native.Nat.{ℕ, zero, suc, ◌<◌}
use mathlib.Core.Path.{◌≡◌, refl}
use mathlib.Core.Bool.{true}
use mathlib.Core.List.{List, [], ◌∷◌, reverse, reverse_aux}
use native.Mathlib.Omega.{arith}
use lib.ListN.{length, take, get_or}
use Rattle.lexical.specs.Inner.Idents.{ident_words}
use Rattle.lexical.specs.Joined.{rests_in}
use Rattle.place.specs.Blocks.{blocks}
use Rattle.place.specs.Inner.Blocks.{block_ids}
use Rattle.place.specs.Starts.{starts_above, starts_go}
use Rattle.reading.specs.Reading.{joined_at, reading_of}
use Rattle.forms.specs.Breaks.{breaks_with, breaks}

-- `block_ids`: the block numbers that passes 4 and 6 ask in each mode are those of the lines, or of their rests, cleaned
pub block-ids-are : (mode : ℕ) (ls : List (List ℕ)) → block_ids (rests_in (joined_at mode) ls) ≡ blocks ((reading_of mode).clean ls)
block-ids-are mode ls = refl

-- `ident_words`: the words that a value needs are those of the value
pub ident-words-are : (rhs l : List ℕ) → breaks rhs l ≡ breaks_with rhs (ident_words rhs) l
unfolding breaks ident_words
ident-words-are rhs l = refl

-- `starts_statement`: going down the lines (pass 6) says of each what looking up from it does (pass 4)
starts-on : (ts up : List (List ℕ)) (k : ℕ) → k < length ts → get_or (starts_go ts (starts_above up)) k true ≡ starts_above (reverse_aux (take k ts) up)
unfolding starts_go starts_above
starts-on [] up k h = absurd (omega arith)
starts-on (t ∷ ts) up zero h = refl
starts-on (t ∷ ts) up (suc k) h = starts-on ts (t ∷ up) k (omega (arith, h))

pub starts-are : (ts : List (List ℕ)) (k : ℕ) → k < length ts → get_or (starts_go ts true) k true ≡ starts_above (reverse (take k ts))
unfolding starts_above
starts-are ts k h = starts-on ts [] k h
