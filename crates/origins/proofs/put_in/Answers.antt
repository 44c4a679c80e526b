use Rattle.lines.specs.Lf.{low_bytes}
use Rattle.origins.proofs.Puts.{record-put}
use Rattle.origins.proofs.RoundTrip.{low-length}
use Rattle.origins.specs.Form.{form_shape}
use Rattle.lines.proofs.OutLaws.{wrote-length, wrote_as}
use mathlib.Core.List.{[], ◌∷◌}
use mathlib.Core.Path.{ap}
use native.Mathlib.Omega.{arith}
use Prim.Native.Nat.{ℕ}
use Rattle.origins.proofs.put_in.Goals as goal

pub put_byte-s-requires : goal.put_byte-s-requires
put_byte-s-requires c = omega (arith, c.requires, c.put_byte-p.ensures.place, wrote-length c.put_byte-p.ensures, c.put_byte-q.ensures.place, wrote-length c.put_byte-q.ensures, c.put_number-r.ensures.place, wrote-length c.put_number-r.ensures, low-length (form_shape c.args.f).width c.args.i)

pub put_number-requires : goal.put_number-requires
put_number-requires c = omega (arith, c.requires, c.put_byte-p.ensures.place, wrote-length c.put_byte-p.ensures, c.put_byte-q.ensures.place, wrote-length c.put_byte-q.ensures, c.put_number-r.ensures.place, wrote-length c.put_number-r.ensures, low-length (form_shape c.args.f).width c.args.i, c.put_byte-s.ensures.place, wrote-length c.put_byte-s.ensures)

pub returns : goal.returns
returns c = let a = c.args in
    record-put (form_shape a.f) a.i a.w c.put_byte-p.ensures (wrote_as (ap (λ (x : ℕ). x ∷ []) c.letter_of.ensures) c.put_byte-q.ensures)
    c.put_number-r.ensures
    (wrote_as (ap (λ (x : ℕ). x ∷ []) c.fate_byte.ensures) c.put_byte-s.ensures)
    (wrote_as (ap (low_bytes (form_shape a.f).width) c.out_line.ensures) c.put_number.ensures)
