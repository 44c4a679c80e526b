use native.Mathlib.Omega.{arith}
use mathlib.Core.Path.{refl, sym, ap, ◌∙◌}
use Rattle.lines.proofs.Tests.{so}
use Rattle.text.proofs.Trims.{from_of-le}
use Rattle.parse.specs.Parse.{is_decl}
use Rattle.parse.proofs.PlainLine.{rest-fits, rest-trimmed}
use Rattle.parse.proofs.Shut.{decl-none}
use Rattle.parse.proofs.declares_at.Goals as goal

pub plain_decl-requires : goal.plain_decl-requires
plain_decl-requires c = c.requires

pub returns-then-plain_decl : goal.returns-then-plain_decl
returns-then-plain_decl c = sym (c.plain_decl.ensures c.if-plain_decl.true)

pub overflow_add-a : goal.overflow_add-a
overflow_add-a c = omega (arith, c.requires, from_of-le c.args.line.now)

pub returns-then-names_none : goal.returns-then-names_none
returns-then-names_none c = let f = c.before.before.before.before.before in sym (decl-none _ (so c.names_none.ensures c.if-names_none.true) f.args.line.now f.args.a f.requires refl)

pub slice_bounds-trim_to-count : goal.slice_bounds-trim_to-count
slice_bounds-trim_to-count c = omega (arith, c.requires, from_of-le c.args.line.now)

pub slice_bounds-trim_to-start : goal.slice_bounds-trim_to-start
slice_bounds-trim_to-start c = omega (arith, c.requires, from_of-le c.args.line.now)

pub overflow_add-a-2 : goal.overflow_add-a-2
overflow_add-a-2 c = let a = c.args in let f = rest-fits a.line.now a.a c.trim_to-n.result c.requires c.trim_to-n.ensures in omega (arith, f.0, f.1)

pub slice_bounds-is_decl-end : goal.slice_bounds-is_decl-end
slice_bounds-is_decl-end c = let a = c.args in let f = rest-fits a.line.now a.a c.trim_to-n.result c.requires c.trim_to-n.ensures in omega (arith, f.0, f.1)

pub returns : goal.returns
returns c = let a = c.args in c.is_decl.ensures ∙ ap is_decl (rest-trimmed a.line.now a.a c.trim_to-n.result c.requires c.trim_to-n.ensures)
