-- What the reader answers and gives, of a file that the writer wrote. Assumes nothing.
use Prim.Native.Nat.{ℕ, ◌^◌, ◌<◌}
use mathlib.Core.Path.{◌≡◌, ap}
use mathlib.Core.List.{List, [], reverse}
use lib.ListN.{length, take}
use Rattle.po.specs.declared.PoRefusal.TheVariants as po
use Rattle.std.specs.declared.result.Result.TheVariants.{Ok, Err}
use Rattle.po.specs.Found.{entries}
use Rattle.po.specs.Reader.{Read, good, read_of, given}
use Rattle.po.specs.Answers.{po_text, po_answer, po_after, read_text, by_read, read_answer}
use Rattle.potrip.proofs.Whole.{texts_of, blanks, done-reads}

module _ (name t d : List ℕ) (n : ℕ) (h : length t < 2 ^ 63) (a : po_answer name t (length d) ≡ Ok n) where
  -- by the words of the two contracts: `read_po` of what `write_po` wrote is not refused for a line, and gives the literals, each with nothing
  pub done-answers : (room : ℕ) → read_answer (take n (po_after (Ok n) (po_text name t) d)) room ≡ by_read (good (reverse (texts_of (entries t))) (blanks (entries t))) room
  unfolding read_answer
  done-answers room = ap (λ (r : Read). by_read r room) (done-reads name t d n h a)

  pub done-given : read_text (read_of (take n (po_after (Ok n) (po_text name t) d))) ≡ given (reverse (texts_of (entries t))) (blanks (entries t)) []
  done-given = ap (λ (r : Read). read_text r) (done-reads name t d n h a)
