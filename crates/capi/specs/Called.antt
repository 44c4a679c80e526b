-- What a call from C or Rust answers: the answers of `opt`, from what is lent. Assumes nothing.
use Rattle.std.specs.Prelude.{ℕ, Bool, cond, ◌||◌, List, eqb, length}
use Rattle.origins.specs.declared.Form.{Form}
use Rattle.origins.specs.declared.Form.TheVariants as form-is
use Rattle.reading.specs.Reading.{reading_of}
use Rattle.limits.specs.Answer.{Answer}
use Rattle.steps.specs.Step.{step_of, step_fates}
use Rattle.passes.specs.Passes.{result_of, origins_of}
use Rattle.opt.specs.Whole.{whole, whole_fates}
use Rattle.limits.specs.Entry.{small, large, is_short, tables_short, whole_answer, pass_answer}

-- the form of a number
abbrev pub form_of : ℕ → Form
form_of n = cond (eqb n 0) form-is.Ol form-is.Om

-- what a text becomes in a mode by all passes, and by one of them
abbrev pub tidied : (mode : ℕ) → List ℕ → List ℕ
tidied mode t = result_of (whole (reading_of mode)) t

abbrev pub passed : (k mode : ℕ) → List ℕ → List ℕ
passed k mode t = result_of (step_of (reading_of mode) k) t

-- and the records that say where its lines went, in a form
abbrev pub tidied_origins : Form → (mode : ℕ) → List ℕ → List ℕ
tidied_origins F mode t = origins_of F (whole (reading_of mode)) (whole_fates (reading_of mode)) t

abbrev pub passed_origins : Form → (k mode : ℕ) → List ℕ → List ℕ
passed_origins F k mode t = origins_of F (step_of (reading_of mode) k) (step_fates (reading_of mode) k) t

-- the answer for all passes, and for one of them: t the text, a to u the work buffers, o the result buffer, z the one for records
abbrev pub tidy_answer : (mode : ℕ) (t a b c d e u o z : List ℕ) → Answer
tidy_answer mode t a b c d e u o z = whole_answer small form-is.Ol mode (is_short small (length a) (length b) (length c) (length d) (length e) (length u)) t (tidied mode t) (length o) (length z)

abbrev pub one_pass_answer : (k mode : ℕ) (t a b c d e u o z : List ℕ) → Answer
one_pass_answer k mode t a b c d e u o z = pass_answer small form-is.Ol k mode (is_short small (length a) (length b) (length c) (length d) (length e) (length u)) t (passed k mode t) (length o) (length z)

-- the work buffers and tables that a call of the second pair was lent: one of them is shorter than its stated size
abbrev pub large_short : (a b c d e f g h u v w x p q r t o z : List ℕ) → Bool
large_short a b c d e f g h u v w x p q r t o z = is_short large (length a) (length b) (length c) (length d) (length e) (length u) || tables_short large (length f) (length g) (length h) (length v) (length w) (length x) (length p) (length q) (length r) (length t) (length o) (length z)

-- its answers: s the text, a to z the work buffers and tables, i the result buffer, j the one for records
abbrev pub tidy_large_answer : (mode : ℕ) (F : Form) (s a b c d e f g h u v w x p q r t o z i j : List ℕ) → Answer
tidy_large_answer mode F s a b c d e f g h u v w x p q r t o z i j = whole_answer large F mode (large_short a b c d e f g h u v w x p q r t o z) s (tidied mode s) (length i) (length j)

abbrev pub one_pass_large_answer : (k mode : ℕ) (F : Form) (s a b c d e f g h u v w x p q r t o z i j : List ℕ) → Answer
one_pass_large_answer k mode F s a b c d e f g h u v w x p q r t o z i j = pass_answer large F k mode (large_short a b c d e f g h u v w x p q r t o z) s (passed k mode s) (length i) (length j)
