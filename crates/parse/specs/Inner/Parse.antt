-- What inner functions and laws ask beside Parse: no promise of an entry hangs on it. Assumes nothing.
use Rattle.std.specs.Prelude.{ℕ, suc, ◌+◌, ◌-◌, ◌<◌, ◌≡◌, Bool, true, cond, ◌&&◌, ◌||◌, List, [], ◌∷◌, length, take, drop, get_or, eqb, leb, ltb}
use Prim.Native.Char.{code}
use Rattle.lines.specs.Lf.{part, up_to}
use Rattle.text.specs.Trim.{trim_of}
use Rattle.names.specs.Names.{is_digit, reg_of, is_reg}

-- how many digits stand at the front
unfoldable pub digits_len : List ℕ → ℕ
digits_len [] = 0
digits_len (x ∷ xs) = cond (is_digit x) (suc (digits_len xs)) 0

-- at the place a stand `r` and a digit, and then a comma or the end
abbrev pub short_reg : ℕ → List ℕ → Bool
short_reg a l = leb (a + 2) (length l) && ((eqb (get_or l a 0) (code "r") && is_digit (get_or l (a + 1) 0)) && (eqb (a + 2) (length l) || eqb (get_or l (a + 2) 0) (code ",")))

-- a text without its last byte
abbrev pub without : List ℕ → List ℕ
without t = take (length t - 1) t

-- the piece at the place i is a register and ends at e, where a comma stands there or the last byte
abbrev pub NameTo : List ℕ → ℕ → ℕ → Type 0
NameTo t i e =
    (e < length t) × ((e + 1 < length t → get_or t e 0 ≡ code ",") → (e ≡ i + up_to (code ",") (drop i (without t))) × (is_reg (reg_of (trim_of (part i e (without t)))) ≡ true))

-- a byte of ASCII above the space: it is no white space, nor part of one
abbrev pub plain_byte : ℕ → Bool
plain_byte b = ltb (code " ") b && ltb b 128

-- at the place e stand ` = `, then a value that begins and ends with such bytes, and then `;`, which is the last byte
abbrev pub plain_value : ℕ → List ℕ → Bool
plain_value e l =
    leb (e + 5) (length l)
    && (eqb (get_or l e 0) (code " ") && (eqb (get_or l (e + 1) 0) (code "=") && (eqb (get_or l (e + 2) 0) (code " ")
    && (plain_byte (get_or l (e + 3) 0) && (plain_byte (get_or l (length l - 2) 0) && eqb (get_or l (length l - 1) 0) (code ";"))))))
