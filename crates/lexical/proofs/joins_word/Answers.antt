use Rattle.lexical.proofs.joins_word.Goals as goal

pub returns : goal.returns
returns c = rw (c.is_name_byte.ensures, c.code_point-p.ensures)
