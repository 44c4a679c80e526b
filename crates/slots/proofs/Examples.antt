-- Texts with and without a number of four digits. Assumes nothing.
use Rattle.std.proofs.Common.{◌≡◌, true, false, [], ◌∷◌, map, refl}
use Rattle.lines.specs.Ascii.{ascii}
use Rattle.slots.specs.Inner.Gather.{has_long}

-- four digits and more, at the end, in the midst and at the front; no four next to each other
pub long : map has_long (ascii "r1024" ∷ ascii "use(r20000, a)" ∷ ascii "4096;" ∷ ascii "r999" ∷ ascii "12, 34" ∷ ascii "123 4567 " ∷ []) ≡ true ∷ true ∷ true ∷ false ∷ false ∷ true ∷ []
unfolding has_long
long = refl
