-- `char::is_whitespace`: Unicode's White_Space, by ranges of code points.
use Rattle.std.specs.Prelude.{ℕ, Bool, ◌||◌, eqb}
use Rattle.lines.specs.Lf.{within}

-- the 25 code points of White_Space
unfoldable pub is_white : ℕ → Bool
is_white c =
    within 9 13 c || eqb c 32 || eqb c 133 || eqb c 160 || eqb c 5760 || within 8192 8202 c || within 8232 8233 c || eqb c 8239
    || eqb c 8287 || eqb c 12288
