use Rattle.std.proofs.Common.{rules, ◌≡◌, ◌+◌, replicate}
use Rattle.lines.proofs.OutLaws.{wrote_part}
use Rattle.pruned.proofs.marks.put_zeros.Goals as goal

pub returns : goal.returns
returns c =
    let a = c.args in
    let e : c.fill.new.self ≡ replicate a.n 0 = search rules in
    wrote_part a.out.now (replicate a.n 0) c.fill.new.self a.o (a.o + a.n) (search rules) c.requires e
