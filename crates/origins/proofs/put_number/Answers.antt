use Rattle.std.proofs.Common.{ℕ, ◌∙◌, ap, take, arith, ◌+◌}
use Rattle.origins.specs.Form.{form_shape}
use Rattle.origins.proofs.Puts.{number-put}
use Rattle.origins.proofs.put_number.Goals as goal

pub returns : goal.returns
returns c =
    let a = c.args in
    number-put a.f a.n a.o _ a.out.now _ _ (ap (λ (w : ℕ). a.o + w) c.width_of.ensures) (omega (arith, c.width_of.ensures, c.requires))
    (c.copy_from_slice.ensures.after ∙ ap (λ (w : ℕ). take w c.to_le_bytes.result) c.width_of-2.ensures ∙ ap (take (form_shape a.f).width) c.to_le_bytes.ensures)
