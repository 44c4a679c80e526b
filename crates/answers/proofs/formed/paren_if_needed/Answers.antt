use native.Mathlib.Omega.{arith}
use Rattle.forms.proofs.PrimaryLaws.{paren-length}
use Rattle.answers.proofs.formed.paren_if_needed.Goals as goal

pub put_paren-requires : goal.put_paren-requires
put_paren-requires c = let a = c.args in omega (arith, paren-length a.a.now a.after_new)
