use Rattle.std.proofs.Common.{ℕ, ◌+◌, length, drop, sym, ap, ◌∙◌}
use Rattle.lines.proofs.Tests.{so}
use Rattle.slots.specs.Inner.Gather.{entered_all}
use Rattle.slots.proofs.GatherLaws.{entered-length, enter-marked, enter-bare, enter-on, enter-end}
use Rattle.slots.proofs.gather.enter_all.Goals as goal
use Rattle.slots.proofs.gather.enter_all.Goals.{then-not-is_ascii_digit, else-not-is_ascii_digit+then-marked, else-not-is_ascii_digit+else-marked}

pub loop-b-preserved : goal.loop-b-preserved
loop-b-preserved c =
    let a = c.args in
    let l = c.loop-b in
    let t = a.text.now in
    let i = l.b-index in
    let d = c.is_ascii_digit.ensures.value in
    let h = c.loop-b-test.true in
    elim c.if-not-is_ascii_digit.branch [
      | then-not-is_ascii_digit w ↦
          let f = w.enter.ensures in
          rw (w.own-is, w.marked-is, w.v-is) (ap length f ∙ entered-length a.low l.v l.own ∙ l.invariant.0, l.invariant.1 ∙ enter-on a.low t i l.marked l.v l.own w.is_mark-marked.result _ h (so d w.if-not-is_ascii_digit.true) f w.is_mark-marked.ensures)
      | else-not-is_ascii_digit+then-marked w ↦
          rw (w.own-is, w.marked-is, w.v-is) (l.invariant.0, l.invariant.1 ∙ enter-marked a.low t i l.marked l.v l.own h (so d w.if-not-is_ascii_digit.false) w.if-marked.true ∙ ap (λ (x : ℕ). entered_all a.low l.marked x (drop (i + 1) t) l.own) (sym w.grow-v.ensures))
      | else-not-is_ascii_digit+else-marked w ↦
          rw (w.own-is, w.marked-is, w.v-is) (l.invariant.0, l.invariant.1 ∙ enter-bare a.low t i l.marked l.v l.own h (so d w.if-not-is_ascii_digit.false) w.if-marked.false)
    ]

pub returns : goal.returns
returns c = let l = c.loop-b in let a = c.args in c.enter-2.ensures ∙ sym (l.invariant.1 ∙ enter-end a.low a.text.now l.b-index l.marked l.v l.own c.loop-b-test.false)
