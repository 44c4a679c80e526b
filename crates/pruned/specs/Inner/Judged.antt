-- What inner functions and laws ask beside Judged: no promise of an entry hangs on it. Assumes nothing.
use Rattle.std.specs.Prelude.{ℕ}
use Rattle.pruned.specs.Judged.{Judged}
use Rattle.pruned.specs.declared.Refusal.TheVariants.{TooLong, ShortWork, NotUtf8, TooManyLines, Crowded, PrunedTooLong, PrunedNotUtf8, PrunedTooManyLines, PrunedCrowded, NotAccepted}
use Rattle.std.specs.declared.result.Result.TheVariants.{Ok, Err}

unfoldable pub judged_place : Judged → ℕ
judged_place (Ok tt) = 0
judged_place (Err (TooLong n)) = n
judged_place (Err ShortWork) = 0
judged_place (Err (NotUtf8 i)) = i
judged_place (Err (TooManyLines n)) = n
judged_place (Err (Crowded n)) = n
judged_place (Err (PrunedTooLong n)) = n
judged_place (Err (PrunedNotUtf8 i)) = i
judged_place (Err (PrunedTooManyLines n)) = n
judged_place (Err (PrunedCrowded n)) = n
judged_place (Err (NotAccepted n)) = n
