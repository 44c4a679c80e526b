-- `optimize` around its passes: the text is split, its lines go through, and they are joined; and the records that say where each line went. Assumes nothing.
use Rattle.std.specs.Prelude.{ℕ, List}
use Prim.Native.Char.{code}
use Rattle.lines.specs.Lf.{ends_in}
use Rattle.lines.specs.Steps.{split_lines, joined}
use Rattle.origins.specs.declared.Form.{Form}
use Rattle.origins.specs.Form.{form_shape, file_of}
use Rattle.origins.specs.Fates.{Fate, wents_of}

-- the text that a text becomes, where its lines become others
unfoldable pub result_of : (List (List ℕ) → List (List ℕ)) → List ℕ → List ℕ
result_of f t = joined (ends_in (code "\n") t) (f (split_lines t))

-- requests 1 and 8: the records of a text in a form, one for each line, where its lines become others by f and go where `fates` says
unfoldable pub origins_of : Form → (List (List ℕ) → List (List ℕ)) → (List (List ℕ) → List Fate) → List ℕ → List ℕ
origins_of F f fates t = file_of (form_shape F) (wents_of (f (split_lines t)) (split_lines t) (fates (split_lines t)))
