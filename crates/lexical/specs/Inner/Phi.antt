-- What inner functions and laws ask beside Phi: no promise of an entry hangs on it. Assumes nothing.
use Rattle.std.specs.Prelude.{ℕ, false, not, ◌&&◌, ◌||◌, List, [], ◌∷◌, eqb}
use Prim.Native.Char.{code}
use Rattle.lines.specs.Ascii.{ascii}
use Rattle.lines.specs.Lf.{among}
use Rattle.lexical.specs.declared.Seen.{Seen}

-- ---- the same, byte by byte: what of a text decides, once more bytes stand after it

-- the byte c after the bytes seen: an `=` that waits is an assignment, where c is no `=`
unfoldable pub sees : Seen → ℕ → Seen
sees w c = record {
  prev = c;
  waits = eqb c (code "=") && not (among (ascii "=!<>") w.prev);
  effect = w.effect || (among (ascii "([.") c || (w.waits && not (eqb c (code "="))));
}

-- further bytes after those seen
unfoldable pub sees_all : Seen → List ℕ → Seen
unfolding sees
sees_all w [] = w
sees_all w (c ∷ cs) = sees_all (sees w c) cs

-- nothing seen
abbrev pub unseen : Seen
unseen = record { prev = code " "; waits = false; effect = false }
