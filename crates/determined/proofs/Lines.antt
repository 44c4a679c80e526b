-- Each public function of crate lines: its contract fixes its outcome. Assumes nothing.
use Prim.Native.Nat.{ℕ}
use mathlib.Core.List.{List}
use mathlib.Core.Path.{refl, sym, ◌∙◌}
use Rattle.lines.proofs.OutLaws.{wrote-once}
use Rattle.lines.proofs as lines
use Rattle.lines.specs.contracts as said
use Rattle.lines.specs.Inner.Pieces.{pieces_left}
use Rattle.determined.proofs.Outcomes.{Determined, fixed, fixed-by, one, more, pair-same}

pub byte-at-fixed : Determined said.byte_at.ended (λ κs z. z) lines.byte_at.Reads.ensures
byte-at-fixed = fixed lines.byte_at.Reads.Learnt (λ κs a x y l m. l ∙ sym m)

pub after-fixed : Determined said.after.ended (λ κs z. z) lines.after.Reads.ensures
after-fixed = fixed lines.after.Reads.Learnt (λ κs a x y l m. l ∙ sym m)

pub cut-fixed : Determined said.cut.ended (λ κs z. z.now) lines.cut.Reads.ensures
cut-fixed = fixed lines.cut.Reads.Learnt (λ κs a x y l m. l ∙ sym m)

pub lacks-fixed : Determined said.lacks.ended (λ κs z. z) lines.lacks.Reads.ensures
lacks-fixed = fixed lines.lacks.Reads.Learnt (λ κs a x y l m. l ∙ sym m)

pub find-byte-fixed : Determined said.find_byte.ended (λ κs z. z) lines.find_byte.Reads.ensures
find-byte-fixed = fixed lines.find_byte.Reads.Learnt (λ κs a x y l m. l ∙ sym m)

pub line-start-fixed : Determined said.line_start.ended (λ κs z. z) lines.line_start.Reads.ensures
line-start-fixed = fixed lines.line_start.Reads.Learnt (λ κs a x y l m. l ∙ sym m)

pub count-byte-fixed : Determined said.count_byte.ended (λ κs z. z) lines.count_byte.Reads.ensures
count-byte-fixed = fixed lines.count_byte.Reads.Learnt (λ κs a x y l m. l ∙ sym m)

pub starts-with-fixed : Determined said.starts_with.ended (λ κs z. z) lines.starts_with.Reads.ensures
starts-with-fixed = fixed lines.starts_with.Reads.Learnt (λ κs a x y l m. l ∙ sym m)

pub ends-with-fixed : Determined said.ends_with.ended (λ κs z. z) lines.ends_with.Reads.ensures
ends-with-fixed = fixed lines.ends_with.Reads.Learnt (λ κs a x y l m. l ∙ sym m)

pub same-fixed : Determined said.same.ended (λ κs z. z) lines.same.Reads.ensures
same-fixed = fixed lines.same.Reads.Learnt (λ κs a x y l m. l ∙ sym m)

pub contains-fixed : Determined said.contains.ended (λ κs z. z) lines.contains.Reads.ensures
contains-fixed = fixed lines.contains.Reads.Learnt (λ κs a x y l m. l ∙ sym m)

pub put-byte-fixed : Determined said.put_byte.ended (λ κs z. z) lines.put_byte.Reads.ensures
put-byte-fixed = fixed lines.put_byte.Reads.Learnt (λ κs a x y l m. wrote-once l m)

pub put-fixed : Determined said.put.ended (λ κs z. z) lines.put.Reads.ensures
put-fixed = fixed lines.put.Reads.Learnt (λ κs a x y l m. wrote-once l m)

pub put-line-fixed : Determined said.put_line.ended (λ κs z. z) lines.put_line.Reads.ensures
put-line-fixed = fixed lines.put_line.Reads.Learnt (λ κs a x y l m. wrote-once l m)

pub wipe-fixed : Determined said.wipe.ended (λ κs z. z) lines.wipe.Reads.ensures
wipe-fixed = fixed lines.wipe.Reads.Learnt (λ κs a x y l m. ((wrote-once l m).0, refl))

pub wipe-numbers-fixed : Determined said.wipe_numbers.ended (λ κs z. z) lines.wipe_numbers.Reads.ensures
wipe-numbers-fixed = fixed lines.wipe_numbers.Reads.Learnt (λ κs a x y l m. (l ∙ sym m, refl))

pub wipe-words-fixed : Determined said.wipe_words.ended (λ κs z. z) lines.wipe_words.Reads.ensures
wipe-words-fixed = fixed lines.wipe_words.Reads.Learnt (λ κs a x y l m. (l ∙ sym m, refl))

pub ends-lf-fixed : Determined said.ends_lf.ended (λ κs z. z) lines.ends_lf.Reads.ensures
ends-lf-fixed = fixed lines.ends_lf.Reads.Learnt (λ κs a x y l m. l ∙ sym m)

pub split-lines-fixed : Determined said.split_lines.ended (λ κs z. z) lines.split_lines.Reads.ensures
split-lines-fixed = fixed lines.split_lines.Reads.Learnt (λ κs a x y l m. wrote-once l m)

pub count-lines-fixed : Determined said.count_lines.ended (λ κs z. z) lines.count_lines.Reads.ensures
count-lines-fixed = fixed lines.count_lines.Reads.Learnt (λ κs a x y l m. l ∙ sym m)

pub crowded-line-fixed : Determined said.crowded_line.ended (λ κs z. z) lines.crowded_line.Reads.ensures
crowded-line-fixed = fixed lines.crowded_line.Reads.Learnt (λ κs a x y l m. l ∙ sym m)

pub joined-len-fixed : Determined said.joined_len.ended (λ κs z. z) lines.joined_len.Reads.ensures
joined-len-fixed = fixed lines.joined_len.Reads.Learnt (λ κs a x y l m. l ∙ sym m)

pub join-lines-fixed : Determined said.join_lines.ended (λ κs z. z) lines.join_lines.Reads.ensures
join-lines-fixed = fixed lines.join_lines.Reads.Learnt (λ κs a x y l m. wrote-once l m)

pub put-lines-fixed : Determined said.put_lines.ended (λ κs z. z) lines.put_lines.Reads.ensures
put-lines-fixed = fixed lines.put_lines.Reads.Learnt (λ κs a x y l m. wrote-once l m)

-- the iterators: what they go over, and where they stand
pub pieces-fixed : Determined said.pieces.ended (λ κs z. pieces_left z) lines.pieces.Reads.ensures
pieces-fixed = fixed lines.pieces.Reads.Learnt (λ κs a x y l m. l ∙ sym m)

pub each-each-fixed : Determined said.each.each.ended {X = List ℕ × ℕ} (λ κs z. (z.text.now, z.at)) lines.each.each.Reads.ensures
each-each-fixed = fixed-by lines.each.each.Reads.Learnt (λ w κs a x. more w (one w)) (λ κs a x y l m. pair-same (l.0 ∙ sym m.0) (l.1 ∙ sym m.1))

pub from-fixed : Determined said.each.from.ended {X = List ℕ × ℕ} (λ κs z. (z.text.now, z.at)) lines.each.from.Reads.ensures
from-fixed = fixed-by lines.each.from.Reads.Learnt (λ w κs a x. more w (one w)) (λ κs a x y l m. pair-same (l.0 ∙ sym m.0) (l.1 ∙ sym m.1))
