use Rattle.words.proofs.Glue.{glue-is}
use Rattle.words.proofs.is_glued.Goals as goal

pub returns : goal.returns
returns c =
    let a = c.args in
    rw (c.last-b.ensures, c.byte_at-c.ensures, c.last-d.ensures, c.byte_at-e.ensures) (glue-is a.before.now a.rep.now a.after.now)
