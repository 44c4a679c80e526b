-- Laws of writing a record. Assumes nothing.
use Prim.Native.Nat.{ℕ, ◌+◌, ◌-◌, ◌/◌, ◌%◌, ◌≤◌}
use mathlib.Core.Path.{◌≡◌, refl, sym, ap, ◌∙◌}
use mathlib.Core.List.{List, [], ◌∷◌}
use native.Mathlib.Omega.{arith}
use borrow.Rule.Slice.PartMut.{put_mid}
use Rattle.std.proofs.Math.Nat.{div-div-eq-div-mul}
use lib.ListN.{length, take}
use Rattle.lines.specs.Lf.{low_bytes}
use Rattle.lines.specs.Inner.Out.{Wrote}
use Rattle.lines.proofs.OutLaws.{wrote_part, wrote_then}
use Rattle.origins.specs.declared.Went.{Went}
use Rattle.origins.specs.declared.Form.{Form}
use Rattle.origins.specs.declared.Form.TheVariants.{Ol, Om}
use Rattle.origins.specs.Form.{Shape, form_shape, gone_of, size_of, fate_byte, out_line, record_bytes}
use Rattle.origins.proofs.RoundTrip.{low-length}

-- ---- a number

-- the first of the eight bytes of a number are it in the bytes of a form
pub low_take : (f : Form) (n : ℕ) (bs : List ℕ) → take (form_shape f).width (n % 256 ∷ n / 256 % 256 ∷ n / 65536 % 256 ∷ n / 16777216 % 256 ∷ bs) ≡ low_bytes (form_shape f).width n
unfolding low_bytes
low_take Ol n bs = refl
low_take Om n bs = rw (div-div-eq-div-mul n 256 256, div-div-eq-div-mul n 65536 256)

pub number-put : (f : Form) (n o e : ℕ) (d bs ys : List ℕ) → e ≡ o + (form_shape f).width → e ≤ length d → ys ≡ take (form_shape f).width (n % 256 ∷ n / 256 % 256 ∷ n / 65536 % 256 ∷ n / 16777216 % 256 ∷ bs) →
    Wrote d o (low_bytes (form_shape f).width n) (put_mid o (e - o) d ys) e
number-put f n o e d bs ys q h y =
    let w : ℕ = (form_shape f).width in
    wrote_part d (low_bytes w n) ys o e (omega (arith, low-length w n)) h (y ∙ low_take f n bs)

-- ---- a record: its five parts

pub record-put : (F : Shape) (i : ℕ) (w : Went) {d₀ d₁ d₂ d₃ d₄ d₅ : List ℕ} {o p q r s t : ℕ} → Wrote d₀ o (79 ∷ []) d₁ p → Wrote d₁ p (F.letter ∷ []) d₂ q → Wrote d₂ q (low_bytes F.width i) d₃ r →
    Wrote d₃ r (fate_byte w ∷ []) d₄ s → Wrote d₄ s (low_bytes F.width (out_line F w)) d₅ t → Wrote d₀ o (record_bytes F i w) d₅ t
unfolding record_bytes
record-put F i w a b c d e = wrote_then a (wrote_then b (wrote_then c (wrote_then d e)))

-- ---- what a form and a record say, by their cases

pub gone-as : (f : Form) {x : Form} → f ≡ x → gone_of (form_shape x) ≡ gone_of (form_shape f)
gone-as f e = ap (λ (y : Form). gone_of (form_shape y)) (sym e)

pub size-as : (f : Form) {x : Form} → f ≡ x → size_of (form_shape x) ≡ size_of (form_shape f)
size-as f e = ap (λ (y : Form). size_of (form_shape y)) (sym e)

pub fate-as : (w : Went) {x : Went} → w ≡ x → fate_byte x ≡ fate_byte w
fate-as w e = ap fate_byte (sym e)

pub out-as : (F : Shape) (w : Went) {x : Went} → w ≡ x → out_line F x ≡ out_line F w
out-as F w e = ap (out_line F) (sym e)
