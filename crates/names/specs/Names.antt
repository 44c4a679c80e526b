-- `reg_name`, `phi_name`, `is_temp_name`, `is_simple_ident`: the names of registers, phis, temps and others. Assumes nothing.
use Rattle.std.specs.Prelude.{ℕ, zero, suc, ◌+◌, ◌-◌, ◌*◌, ◌/◌, ◌%◌, ◌^◌, Bool, false, cond, not, ◌&&◌, true, List, [], ◌∷◌, ◌++◌, length, drop, eqb, ltb}
use Prim.Native.Char.{code}
use Rattle.lines.specs.Ascii.{ascii}
use Rattle.lines.specs.Lf.{within, all, prefixed}
use Rattle.text.specs.Class.{is_name}
use Rattle.std.specs.declared.option.Option.{Option}
use Rattle.std.specs.declared.option.Option.TheVariants.{Some, None}
use Rattle.names.specs.declared.Register.{Register}
use Rattle.names.specs.declared.Phi.{Phi}

-- ---- numbers

-- `0` to `9`
abbrev pub is_digit : ℕ → Bool
is_digit d = within (code "0") (code "9") d

-- digits alone
abbrev pub all_digits : List ℕ → Bool
all_digits ds = all (λ (d : ℕ). is_digit d) ds

-- the decimal value of digits, after digits of the value v
abbrev pub value : ℕ → List ℕ → ℕ
value v [] = v
value v (d ∷ ds) = value (v * 10 + (d - code "0")) ds

-- digits alone, after digits of the value v, whose value fits 64 bits
unfoldable pub numbered : ℕ → List ℕ → Option ℕ
numbered v ds = cond (all_digits ds && ltb (value v ds) (2 ^ 64)) (Some (value v ds)) None

-- `n.parse()`: one or more digits whose value fits 64 bits; leading zeros do not count
unfoldable pub read_number : List ℕ → Option ℕ
unfolding numbered
read_number [] = None
read_number (d ∷ ds) = numbered 0 (d ∷ ds)

-- the decimal digits of a number below 10 to the k + 1, without leading zeros
unfoldable pub decimal_by : ℕ → ℕ → List ℕ
decimal_by zero n = (code "0" + n) ∷ []
decimal_by (suc k) n = cond (ltb n 10) ((code "0" + n) ∷ []) (decimal_by k (n / 10) ++ ((code "0" + n % 10) ∷ []))

-- `{n}`: a number of 64 bits as it is printed
unfoldable pub decimal : ℕ → List ℕ
unfolding decimal_by
decimal n = decimal_by 19 n

-- ---- names

-- `r`
abbrev pub reg_word : List ℕ
reg_word = ascii "r"

-- `phi`
abbrev pub phi_word : List ℕ
phi_word = ascii "phi"

-- `t`
abbrev pub temp_word : List ℕ
temp_word = ascii "t"

-- the register, the phi, of a number
abbrev pub reg_by : Option ℕ → Option Register
reg_by (Some n) = Some (record { 0 = n })
reg_by None = None

abbrev pub phi_by : Option ℕ → Option Phi
phi_by (Some n) = Some (record { 0 = n })
phi_by None = None

-- `reg_name`: the register that a text names, `r` and its number
unfoldable pub reg_of : List ℕ → Option Register
unfolding read_number prefixed
reg_of s = cond (prefixed reg_word s) (reg_by (read_number (drop 1 s))) None

-- `phi_name`: the phi that a text names, `phi` and its number
unfoldable pub phi_of : List ℕ → Option Phi
unfolding read_number prefixed
phi_of s = cond (prefixed phi_word s) (phi_by (read_number (drop 3 s))) None

-- `is_temp_name`: `t` and one or more digits
unfoldable pub is_temp : List ℕ → Bool
unfolding prefixed
is_temp s = prefixed temp_word s && (ltb 1 (length s) && all_digits (drop 1 s))

-- `r{v}` and `phi{v}`: a register and a phi as they are printed and looked for
abbrev pub reg_text : ℕ → List ℕ
reg_text v = reg_word ++ decimal v

abbrev pub phi_text : ℕ → List ℕ
phi_text v = phi_word ++ decimal v

-- a name is that of a register
abbrev pub is_reg : Option Register → Bool
is_reg (Some q) = true
is_reg None = false

-- a name is that of register v, or of phi v
abbrev pub reg_is : ℕ → Option Register → Bool
reg_is v None = false
reg_is v (Some q) = eqb q.0 v

abbrev pub phi_is : ℕ → Option Phi → Bool
phi_is v None = false
phi_is v (Some q) = eqb q.0 v

-- name bytes alone
abbrev pub all_names : List ℕ → Bool
all_names l = all (λ (x : ℕ). is_name x) l

-- `is_simple_ident`: a letter, `_` or `$`, then name bytes
unfoldable pub is_ident : List ℕ → Bool
is_ident [] = false
is_ident (x ∷ xs) = (is_name x && not (is_digit x)) && all_names xs
