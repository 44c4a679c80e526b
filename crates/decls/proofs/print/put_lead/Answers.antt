use mathlib.Core.List.{[], ◌++◌}
use Rattle.lines.proofs.OutLaws.{writing-put, writing-end}
use Rattle.parse.specs.Parse.{let_word}
use Rattle.decls.proofs.PrintLaws.{lead-next, lead-writing, writing-fits, pair-room, pair-more, pair_end}
use Rattle.decls.proofs.print.put_lead.Goals as goal

pub put_byte-p-requires : goal.put_byte-p-requires
put_byte-p-requires c = let s = c in pair-room (lead-next s.args.indent.now s.args.some c.if-some.true) s.args.out.now s.args.o s.requires

pub put_byte-requires : goal.put_byte-requires
put_byte-requires c = let s = c in pair-more (lead-next s.args.indent.now s.args.some c.if-some.true) s.args.out.now s.args.o s.requires c.put_byte-p.ensures

pub returns-then-some : goal.returns-then-some
returns-then-some c = let s = c in pair_end (lead-next s.args.indent.now s.args.some c.if-some.true) s.args.out.now s.args.o s.requires c.put_byte-p.ensures c.put_byte.ensures

pub put-p-requires : goal.put-p-requires
put-p-requires c =
    let s = c in
    let a = s.args in
    writing-fits a.indent.now (let_word ++ []) (lead-writing a.indent.now a.some a.out.now a.o c.if-some.false s.requires)

pub put-requires : goal.put-requires
put-requires c =
    let s = c in
    let a = s.args in
    writing-fits let_word [] (writing-put (lead-writing a.indent.now a.some a.out.now a.o c.if-some.false s.requires) c.put-p.ensures)

pub returns : goal.returns
returns c =
    let s = c in
    let a = s.args in
    writing-end (writing-put (writing-put (lead-writing a.indent.now a.some a.out.now a.o c.if-some.false s.requires) c.put-p.ensures) c.put.ensures)
