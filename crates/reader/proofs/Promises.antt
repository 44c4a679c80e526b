-- What the answers promise, by the laws of origins. Assumes nothing.
use Prim.Native.Nat.{ℕ, zero, suc, ◌≤◌}
use mathlib.Core.Path.{◌≡◌, refl, ap, ◌∙◌}
use mathlib.Core.Bool.{true}
use mathlib.Core.List.{List, [], ◌∷◌}
use native.Mathlib.Omega.{arith}
use borrow.Author.Tests.{le-ltb}
use lib.ListN.{length}
use Rattle.origins.specs.declared.Went.{Went}
use Rattle.origins.specs.declared.Went.TheVariants.{Equal, Changed, Inside, Away}
use Rattle.origins.specs.declared.Form.{Form}
use Rattle.origins.specs.declared.Form.TheVariants.{Ol, Om}
use Rattle.origins.specs.Form.{Shape, form_shape, gone_of, file_of}
use Rattle.origins.specs.Read.{read_file}
use Rattle.origins.specs.Answers.{behind_from, behind, lines_by, lines_for, found, refused, denied, fits_from}
use Rattle.origins.proofs.RoundTrip.{bytes, read-file, write-file}
use Rattle.origins.proofs.Behind.{behind-gone}
use Rattle.std.specs.declared.result.Result.TheVariants.{Ok}
use Rattle.reader.specs.Replies.{reply_number, reply_place, form_in, lines_reply, check_reply, wents_in, turned_reply}
use Rattle.reader.specs.Chains.{firsts_from, nexts_from}
use Rattle.reader.proofs.Laws.{said-wents, fine-says}

-- What was written is read: as many records, and the same
pub read-back : (F : Shape) (ws : List Went) → fits_from F 0 ws ≡ true → (check_reply (read_file F (file_of F ws)) ≡ Ok (length ws)) × (wents_in F (file_of F ws) ≡ ws)
read-back F ws h =
    (ap check_reply (read-file F ws h), said-wents F (file_of F ws) ws (read-file F ws h))

-- The number that stands for gone gets no lines
pub gone-lines : (F : Shape) (s : List ℕ) (m room : ℕ) → bytes s ≡ true → Ok m ≡ check_reply (read_file F s) → lines_for F s (gone_of F) room ≡ found []
unfolding lines_for behind
gone-lines F s m room b h =
    let q = (fine-says F s m h).0 in
    let g : behind_from (gone_of F) 0 (wents_in F s) ≡ [] = behind-gone F 0 (wents_in F s) (write-file F s (wents_in F s) b q).1 in
    ap (lines_by (gone_of F) room) q ∙ rw (g, le-ltb room 0 (omega arith))

-- A refusal says the number and the place of its check
pub lines-number : (c i : ℕ) → 1 ≤ c → c ≤ 6 → (reply_number (lines_reply (refused c i)) ≡ c) × (reply_place (lines_reply (refused c i)) ≡ i)
lines-number zero i a b = absurd (omega arith)
lines-number (suc zero) i a b = (refl, refl)
lines-number (suc (suc zero)) i a b = (refl, refl)
lines-number (suc (suc (suc zero))) i a b = (refl, refl)
lines-number (suc (suc (suc (suc zero)))) i a b = (refl, refl)
lines-number (suc (suc (suc (suc (suc zero))))) i a b = (refl, refl)
lines-number (suc (suc (suc (suc (suc (suc zero)))))) i a b = (refl, refl)
lines-number (suc (suc (suc (suc (suc (suc (suc c))))))) i a b = absurd (omega arith)

pub turn-number : (c i : ℕ) → 1 ≤ c → c ≤ 7 → (reply_number (turned_reply (denied c i)) ≡ c) × (reply_place (turned_reply (denied c i)) ≡ i)
turn-number zero i a b = absurd (omega arith)
turn-number (suc zero) i a b = (refl, refl)
turn-number (suc (suc zero)) i a b = (refl, refl)
turn-number (suc (suc (suc zero))) i a b = (refl, refl)
turn-number (suc (suc (suc (suc zero)))) i a b = (refl, refl)
turn-number (suc (suc (suc (suc (suc zero))))) i a b = (refl, refl)
turn-number (suc (suc (suc (suc (suc (suc zero)))))) i a b = (refl, refl)
turn-number (suc (suc (suc (suc (suc (suc (suc zero))))))) i a b = (refl, refl)
turn-number (suc (suc (suc (suc (suc (suc (suc (suc c)))))))) i a b = absurd (omega arith)

-- A file that was written shows its form, where it has a record
pub form-shown : (f : Form) (w : Went) (ws : List Went) → form_in (file_of (form_shape f) (w ∷ ws)) ≡ f
unfolding file_of
form-shown Ol w ws = refl
form-shown Om w ws = refl

-- Chains of four lines: the first stands as tidy line 0, the second is inside tidy line 1, the third is gone, the fourth changed to tidy line 1. Of three tidy lines
-- the last has none, and 4 says so
pub chains-example : let ws = Equal 0 ∷ Inside 1 ∷ Away ∷ Changed 1 ∷ [] in (firsts_from 4 0 ws 0 3 ≡ 0 ∷ 1 ∷ 4 ∷ []) × (nexts_from 4 3 0 ws ≡ 4 ∷ 3 ∷ 4 ∷ 4 ∷ [])
unfolding firsts_from nexts_from behind_from
chains-example = (refl, refl)
