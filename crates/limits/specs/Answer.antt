-- Each case of an answer as the three numbers that a caller gets. Assumes nothing.
use Rattle.std.specs.Prelude.{ℕ, Bool, ◌||◌, eqb}
use Rattle.std.specs.declared.result.Result.{Result}
use Rattle.limits.specs.declared.Refusal.{Refusal}
use Rattle.limits.specs.declared.Refusal.TheVariants.{BadPass, TooLong, ShortWork, NotUtf8, TooManyLines, Crowded, ShortResult, Cut, Overlong, Outside, BadMode, ShortRecords, WideLines}
use Rattle.std.specs.declared.result.Result.TheVariants.{Ok, Err}

-- what an entry answers: the length of the result, or why there is none
abbrev pub Answer : Type 0
Answer = Result ℕ Refusal

unfoldable pub number_of : Answer → ℕ
number_of (Ok n) = 0
number_of (Err BadPass) = 1
number_of (Err (TooLong n)) = 2
number_of (Err ShortWork) = 3
number_of (Err (NotUtf8 i)) = 4
number_of (Err (TooManyLines n)) = 5
number_of (Err (Crowded n)) = 6
number_of (Err (ShortResult n)) = 7
number_of (Err (Cut i)) = 9
number_of (Err (Overlong i)) = 10
number_of (Err (Outside i)) = 11
number_of (Err BadMode) = 12
number_of (Err (ShortRecords n)) = 8
number_of (Err WideLines) = 13

-- a refusal has length 0
unfoldable pub length_of : Answer → ℕ
length_of (Ok n) = n
length_of (Err e) = 0

unfoldable pub place_of : Answer → ℕ
place_of (Ok n) = 0
place_of (Err BadPass) = 0
place_of (Err (TooLong n)) = n
place_of (Err ShortWork) = 0
place_of (Err (NotUtf8 i)) = i
place_of (Err (TooManyLines n)) = n
place_of (Err (Crowded n)) = n
place_of (Err (ShortResult n)) = n
place_of (Err (Cut i)) = i
place_of (Err (Overlong i)) = i
place_of (Err (Outside i)) = i
place_of (Err BadMode) = 0
place_of (Err (ShortRecords n)) = n
place_of (Err WideLines) = 65535

-- the result was written: number 0
unfoldable pub is_done : Answer → Bool
unfolding number_of
is_done r = eqb (number_of r) 0

-- the passes ran: numbers 0, 7 and 8
unfoldable pub passes_ran : Answer → Bool
unfolding number_of
passes_ran r = eqb (number_of r) 0 || (eqb (number_of r) 7 || eqb (number_of r) 8)
