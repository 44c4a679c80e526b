use native.Mathlib.Omega.{arith}
use mathlib.Core.Path.{ap, ◌∙◌}
use Rattle.lexical.specs.Inner.Lex.{clean_step}
use Rattle.po.proofs.WalkLaws.{step_fits, step-on, step-stands, step-spots, turn-stands, turn_on, turn-spots}
use Rattle.po.proofs.advance.Goals as goal

pub overflow_add-result : goal.overflow_add-result
overflow_add-result c = let a = c in let r = c.step_at-step in omega (arith, step_fits a.args.t.now a.args.c a.requires.stands c.if-c.true r.result (r.ensures ∙ ap (clean_step 0 a.args.c.tail) c.cut.ensures), a.requires.stands.within)

pub returns-then-c : goal.returns-then-c
returns-then-c c =
    let a = c in
    let r = c.step_at-step in
    let e = r.ensures ∙ ap (clean_step 0 a.args.c.tail) c.cut.ensures in
    let h = c.if-c.true in
    record { stands_2 = step-stands a.args.t.now a.args.c a.requires.stands h r.result e; at_lt_at = step-on a.args.t.now a.args.c a.requires.stands h r.result e; c_value = step-spots a.args.t.now a.args.c a.requires.stands h r.result e }

pub returns : goal.returns
returns c =
    let a = c in
    let r = c.line_from in
    let h = c.if-c.false in
    record { stands_2 = turn-stands a.args.t.now a.args.c a.requires.stands h a.requires.at_in_bounds r.result r.ensures; at_lt_at = turn_on a.args.t.now a.args.c a.requires.stands h a.requires.at_in_bounds r.result r.ensures; c_value = turn-spots a.args.t.now a.args.c a.requires.stands h a.requires.at_in_bounds r.result r.ensures }
