-- Twice the length of a file is room enough for either form. Assumes nothing.
use Prim.Native.Nat.{ℕ, ◌*◌, ◌≤◌}
use mathlib.Core.Path.{◌≡◌, sym, ap, ◌∙◌}
use mathlib.Core.Bool.{true}
use mathlib.Core.List.{List}
use native.Mathlib.Omega.{arith}
use borrow.Author.Tests.{le-ltb}
use lib.ListN.{length}
use Rattle.origins.specs.declared.Went.{Went}
use Rattle.origins.specs.declared.Form.{Form}
use Rattle.origins.specs.declared.Form.TheVariants.{Ol, Om}
use Rattle.origins.specs.Form.{form_shape, size_of, file_of}
use Rattle.origins.specs.Read.{says, read_file}
use Rattle.origins.specs.Answers.{turned, roomed_file}
use Rattle.origins.proofs.RoundTrip.{bytes, write-file, file-length}

file-size : (f : Form) (s : List ℕ) (ws : List Went) → bytes s ≡ true → read_file (form_shape f) s ≡ says ws → size_of (form_shape f) * length ws ≡ length s
file-size f s ws b h = sym (file-length (form_shape f) ws) ∙ ap length (write-file (form_shape f) s ws b h).0

twice : (f g : Form) (s : List ℕ) (n : ℕ) → size_of (form_shape f) * n ≡ length s → size_of (form_shape g) * n ≤ 2 * length s
twice Ol Ol s n e = omega arith
twice Ol Om s n e = omega arith
twice Om Ol s n e = omega arith
twice Om Om s n e = omega arith

-- Of a file that is read, refusal 7 does not come where the output is twice as long
pub room_twice : (f g : Form) (s : List ℕ) (ws : List Went) (room : ℕ) → bytes s ≡ true → read_file (form_shape f) s ≡ says ws → 2 * length s ≤ room →
    roomed_file (form_shape g) ws room ≡ turned (file_of (form_shape g) ws)
room_twice f g s ws room b h k =
    let q = twice f g s (length ws) (file-size f s ws b h) in
    rw (le-ltb room (size_of (form_shape g) * length ws) (omega arith))
