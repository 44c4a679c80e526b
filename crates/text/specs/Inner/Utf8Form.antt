-- What inner functions and laws ask beside Utf8Form: no promise of an entry hangs on it. Assumes nothing.
use Rattle.std.specs.Prelude.{ℕ, Bool, ltb}

-- a byte that is a sequence by itself: UTF8-1
abbrev pub is_ascii : ℕ → Bool
is_ascii x = ltb x 0x80
