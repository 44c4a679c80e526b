-- The entries promise an answer by its cases: the three numbers that a caller gets of those that name a limit, and of a mode that there is not. Assumes nothing.
use Prim.Native.Nat.{ℕ, ◌≤◌, ◌<◌}
use mathlib.Core.Path.{◌≡◌, refl, sym, ap, ◌∙◌}
use mathlib.Core.Bool.{Bool, true, false}
use mathlib.Core.List.{List}
use borrow.Author.Tests.{lt-ltb}
use lib.ListN.{length}
use Rattle.lines.specs.Lf.{within}
use Rattle.lines.specs.Steps.{split_lines}
use Rattle.std.specs.declared.result.Result.TheVariants.{Ok, Err}
use Rattle.text.specs.Utf8Form.{utf8_of}
use Rattle.origins.specs.declared.Form.{Form}
use Rattle.origins.specs.declared.Form.TheVariants as form
use Rattle.limits.specs.declared.Limits.{Limits}
use Rattle.limits.specs.Answer.{Answer, number_of, length_of, place_of}
use Rattle.limits.specs.Entry.{small, large, is_wide, records_need, roomed, answer_of, modes, whole_answer, pass_answer}
use Rattle.limits.proofs.AnswerLaws.{mode-bad, mode-good, lines-many, lines-wide, text-long, text-read}

-- the number, the length and the place of an answer
abbrev pub numbers_of : Answer → ℕ × (ℕ × ℕ)
numbers_of r = (number_of r, (length_of r, place_of r))

-- L: the limits of an entry; F: the form of the records; xs: the result; room, have: the lengths of the result buffer and of that for records
module _ (L : Limits) (F : Form) (t xs : List ℕ) (room have : ℕ) where
  -- a text that is too long: 2, with the most bytes that a text may have
  pub long-numbers : (short : Bool) → L.bytes < length t → numbers_of (answer_of L F short t xs room have) ≡ (2, (0, L.bytes))
  unfolding answer_of number_of length_of place_of
  long-numbers short h = ap numbers_of (sym (text-long L F t (roomed (length xs) room (records_need F t) have) short h))

  -- a text of too many lines that no check before refuses: 5, with the most lines that a text may have
  pub many-numbers : length t ≤ L.bytes → utf8_of t ≡ Ok tt → L.lines < length (split_lines t) → numbers_of (answer_of L F false t xs room have) ≡ (5, (0, L.lines))
  unfolding answer_of number_of length_of place_of
  many-numbers h v k =
      ap numbers_of (sym (lines-many L F t (roomed (length xs) room (records_need F t) have) k ∙ text-read L F t (roomed (length xs) room (records_need F t) have) false h refl {x = (Ok tt)} v))

  -- a text of more lines than the form has numbers for that no check before refuses: 13, with the most lines that `OL` has numbers for
  pub wide-numbers : length t ≤ L.bytes → utf8_of t ≡ Ok tt → length (split_lines t) ≤ L.lines → is_wide F (length (split_lines t)) ≡ true → numbers_of (answer_of L F false t xs room have) ≡ (13, (0, 65535))
  unfolding answer_of number_of length_of place_of
  wide-numbers h v k w =
      ap numbers_of (sym (lines-wide L F t (roomed (length xs) room (records_need F t) have) k w ∙ text-read L F t (roomed (length xs) room (records_need F t) have) false h refl {x = (Ok tt)} v))

  -- the entry for all passes answers so, in a mode that there is
  pub whole_numbers : (mode : ℕ) (short : Bool) → mode < modes → whole_answer L F mode short t xs room have ≡ answer_of L F short t xs room have
  unfolding whole_answer
  whole_numbers mode short h = sym (mode-good mode h refl)

  -- in another: 12, whatever the text is
  pub mode-numbers : (mode : ℕ) (short : Bool) → modes ≤ mode → numbers_of (whole_answer L F mode short t xs room have) ≡ (12, (0, 0))
  unfolding whole_answer number_of length_of place_of
  mode-numbers mode short h = ap numbers_of (sym (mode-bad mode (answer_of L F short t xs room have) h))

  -- the pass entry answers as that for all, of a pass that there is
  pub pass-numbers : (k mode : ℕ) (short : Bool) → within 1 6 k ≡ true → pass_answer L F k mode short t xs room have ≡ whole_answer L F mode short t xs room have
  unfolding pass_answer
  pass-numbers k mode short h = rw h

-- the numbers of `optimize` and `run_pass`
module _ (t xs : List ℕ) (room have : ℕ) where
  pub long-small : (short : Bool) → 16384 < length t → numbers_of (answer_of small form.Ol short t xs room have) ≡ (2, (0, 16384))
  long-small = long-numbers small form.Ol t xs room have

  pub many-small : length t ≤ 16384 → utf8_of t ≡ Ok tt → 1024 < length (split_lines t) → numbers_of (answer_of small form.Ol false t xs room have) ≡ (5, (0, 1024))
  many-small = many-numbers small form.Ol t xs room have

-- and of `optimize_large` and `run_pass_large`
module _ (F : Form) (t xs : List ℕ) (room have : ℕ) where
  pub long-large : (short : Bool) → 1048576 < length t → numbers_of (answer_of large F short t xs room have) ≡ (2, (0, 1048576))
  long-large = long-numbers large F t xs room have

  pub many-large : length t ≤ 1048576 → utf8_of t ≡ Ok tt → 100000 < length (split_lines t) → numbers_of (answer_of large F false t xs room have) ≡ (5, (0, 100000))
  many-large = many-numbers large F t xs room have

pub wide-large : (t xs : List ℕ) (room have : ℕ) → length t ≤ 1048576 → utf8_of t ≡ Ok tt → length (split_lines t) ≤ 100000 → 65535 < length (split_lines t) →
    numbers_of (answer_of large form.Ol false t xs room have) ≡ (13, (0, 65535))
wide-large t xs room have h v k w = wide-numbers large form.Ol t xs room have h v k (lt-ltb 65535 (length (split_lines t)) w)
