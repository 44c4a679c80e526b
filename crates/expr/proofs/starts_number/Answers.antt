use Rattle.expr.proofs.starts_number.Goals as goal

pub returns : goal.returns
returns c = rw (c.is_digit.ensures, c.byte_at.ensures, c.byte_at-2.ensures, c.is_digit-2.ensures, c.byte_at-3.ensures)
