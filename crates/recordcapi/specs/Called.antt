-- What a call from C, Rust or Python answers: the answers of `reader`, where the form of a file is the one that it shows. Assumes nothing.
use Rattle.std.specs.Prelude.{ℕ, List, length, get_or}
use Rattle.origins.specs.declared.Went.{Went}
use Rattle.origins.specs.declared.Went.TheVariants.{Away}
use Rattle.origins.specs.declared.Form.{Form}
use Rattle.origins.specs.Form.{Shape, form_shape}
use Rattle.origins.specs.Read.{read_file}
use Rattle.origins.specs.Answers.{Lines, lines_for, Turned, turn}
use Rattle.reader.specs.Replies.{Reply, form_in, check_reply, wents_in}

abbrev pub shown : List ℕ → Shape
shown s = form_shape (form_in s)

-- the check of a file s
abbrev pub checked_file : List ℕ → Reply
checked_file s = check_reply (read_file (shown s) s)

-- what record i of it says
abbrev pub record_in : List ℕ → ℕ → Went
record_in s i = get_or (wents_in (shown s) s) i Away

-- the lines behind its output line n, for the room d
abbrev pub lines_asked : List ℕ → ℕ → List ℕ → Lines
lines_asked s n d = lines_for (shown s) s n (length d)

-- the same records in the form g, for the output d
abbrev pub turned_to : Form → List ℕ → List ℕ → Turned
turned_to g s d = turn (shown s) (form_shape g) s (length d)
