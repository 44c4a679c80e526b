use Rattle.pruned.specs.Judged.{judged_number, judged_size, live_size, judged, judged_short, judged_after}
use Rattle.std.proofs.Common.{rules, ◌≡◌, sym, refl, ◌∙◌, length}
use Rattle.std.specs.declared.result.Result.TheVariants.{Err}
use Rattle.pruned.proofs.EntryCode.{all-stop, all-fine, all-long, all-run, kept, wiped, number-not, number-none}
use Rattle.pruned.proofs.check_pruning.Goals as goal

pub returns-in_err-refused : goal.returns-in_err-refused
returns-in_err-refused c =
    let s = c.args in
    let q = c.refused in
    let t = c.too_short-short in
    let h = all-stop (length s.a.now) (length s.b.now) (length s.c.now) (length s.live.now) s.raw.now s.pruned.now t.result t.ensures q.result q.ensures (judged_number q.result) refl (number-not c.in_err-refused.was) in
    let e : c.from_residual.result ≡ Err c.in_err-refused.field-0.0 = search rules in
    let w = sym (e ∙ sym c.in_err-refused.was) in
    rw (← w) record { answer = h.0; memory = ((kept q.result judged_size s.a.now h.1, kept q.result judged_size s.b.now h.1), (kept q.result judged_size s.c.now h.1, kept q.result live_size s.live.now h.1)) }

pub run-requires : goal.run-requires
run-requires c = let s = c.args in let q = c.refused in let t = c.too_short-short in let h = all-fine (length s.a.now) (length s.b.now) (length s.c.now) (length s.live.now) s.raw.now s.pruned.now t.result t.ensures q.result q.ensures (judged_number q.result) refl (number-none c.in_ok-refused.was) in ((h.raw-bytes, (h.raw-lines, h.pruned-bytes)), all-long (length s.a.now) (length s.b.now) (length s.c.now) (length s.live.now) s.raw.now s.pruned.now t.result t.ensures q.result q.ensures (judged_number q.result) refl (number-none c.in_ok-refused.was))

pub returns : goal.returns
returns c =
    let s = c.args in
    let q = c.refused in
    let t = c.too_short-short in
    let w = c.run in
    let h = all-run (length s.a.now) (length s.b.now) (length s.c.now) (length s.live.now) s.raw.now s.pruned.now t.result t.ensures q.result q.ensures (judged_number q.result) refl (number-none c.in_ok-refused.was) w.ensures.answer in
    record { answer = h.0; memory = ((wiped w.result judged_size s.a.now h.1 w.ensures.memory.0.0, wiped w.result judged_size s.b.now h.1 w.ensures.memory.0.1), (wiped w.result judged_size s.c.now h.1 w.ensures.memory.1.0, wiped w.result live_size s.live.now h.1 w.ensures.memory.1.1)) }
