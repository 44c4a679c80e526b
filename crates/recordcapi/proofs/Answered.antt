-- What is known of an answer is known of the one that the definition gives: f is the form that the file shows. Assumes nothing.
use Prim.Native.Nat.{ℕ}
use mathlib.Core.Path.{◌≡◌, ◌∙◌, ap}
use mathlib.Core.List.{List}
use lib.ListN.{length, get_or}
use Rattle.origins.specs.declared.Went.{Went}
use Rattle.origins.specs.declared.Went.TheVariants.{Away}
use Rattle.origins.specs.declared.Form.{Form}
use Rattle.origins.specs.Form.{form_shape, fate_byte, out_line}
use Rattle.origins.specs.Read.{read_file}
use Rattle.origins.specs.Answers.{Lines, lines_for, Turned, turn}
use Rattle.reader.specs.Replies.{Reply, reply_number, reply_place, reply_count, form_in, check_reply, lines_reply, lines_after, turned_reply, turned_after, wents_in}
use Rattle.recordcapi.specs.Called.{shown, checked_file, record_in, lines_asked, turned_to}

-- the number, the count and the place of the answer r, which is x
abbrev Handed : Reply → ℕ → ℕ → ℕ → Type 0
Handed x n k p = (n ≡ reply_number x) × ((k ≡ reply_count x) × (p ≡ reply_place x))

handed : {r x : Reply} {n k p : ℕ} → r ≡ x → n ≡ reply_number r → k ≡ reply_count r → p ≡ reply_place r → Handed x n k p
handed is number count place = (number ∙ ap reply_number is, (count ∙ ap reply_count is, place ∙ ap reply_place is))

pub checked-by : (s : List ℕ) (f : Form) {r : Reply} {n k p : ℕ} → f ≡ form_in s → r ≡ check_reply (read_file (form_shape f) s) → n ≡ reply_number r → k ≡ reply_count r → p ≡ reply_place r →
    (n ≡ reply_number (checked_file s)) × ((k ≡ reply_count (checked_file s)) × (p ≡ reply_place (checked_file s)))
checked-by s f form is number count place = handed (is ∙ ap (λ (g : Form). check_reply (read_file (form_shape g) s)) form) number count place

pub recorded-by : (s : List ℕ) (i : ℕ) (f : Form) {w : Went} {n l : ℕ} → f ≡ form_in s → w ≡ get_or (wents_in (form_shape f) s) i Away → n ≡ fate_byte w → l ≡ out_line (form_shape f) w →
    (n ≡ fate_byte (record_in s i)) × (l ≡ out_line (shown s) (record_in s i))
recorded-by s i f {w} form is fate line =
    let q : w ≡ record_in s i = is ∙ ap (λ (g : Form). get_or (wents_in (form_shape g) s) i Away) form in
    (fate ∙ ap fate_byte q, line ∙ ap (λ (g : Form). out_line (form_shape g) w) form ∙ ap (out_line (shown s)) q)

pub lines-by : (s : List ℕ) (n : ℕ) (d : List ℕ) (f : Form) {r : Reply} {d' : List ℕ} {c k p : ℕ} → f ≡ form_in s →
    r ≡ lines_reply (lines_for (form_shape f) s n (length d)) → d' ≡ lines_after (lines_for (form_shape f) s n (length d)) d → c ≡ reply_number r → k ≡ reply_count r → p ≡ reply_place r →
    (c ≡ reply_number (lines_reply (lines_asked s n d))) × ((k ≡ reply_count (lines_reply (lines_asked s n d))) × ((p ≡ reply_place (lines_reply (lines_asked s n d))) × (d' ≡ lines_after (lines_asked s n d) d)))
lines-by s n d f form is memory number count place =
    let q = ap (λ (g : Form). lines_for (form_shape g) s n (length d)) form in
    let h = handed (is ∙ ap lines_reply q) number count place in
    (h.0, (h.1.0, (h.1.1, memory ∙ ap (λ (l : Lines). lines_after l d) q)))

pub turned_by : (g : Form) (s d : List ℕ) (f : Form) {r : Reply} {d' : List ℕ} {c k p : ℕ} → f ≡ form_in s →
    r ≡ turned_reply (turn (form_shape f) (form_shape g) s (length d)) → d' ≡ turned_after (turn (form_shape f) (form_shape g) s (length d)) d → c ≡ reply_number r → k ≡ reply_count r → p ≡ reply_place r →
    (c ≡ reply_number (turned_reply (turned_to g s d))) × ((k ≡ reply_count (turned_reply (turned_to g s d))) × ((p ≡ reply_place (turned_reply (turned_to g s d))) × (d' ≡ turned_after (turned_to g s d) d)))
turned_by g s d f form is memory number count place =
    let q = ap (λ (e : Form). turn (form_shape e) (form_shape g) s (length d)) form in
    let h = handed (is ∙ ap turned_reply q) number count place in
    (h.0, (h.1.0, (h.1.1, memory ∙ ap (λ (l : Turned). turned_after l d) q)))
