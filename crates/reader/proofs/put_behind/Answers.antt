use Rattle.std.proofs.Common.{◌∙◌, ap}
use Rattle.origins.specs.Form.{form_shape}
use Rattle.reader.specs.Replies.{wents_in}
use Rattle.reader.proofs.Laws.{behind-begin, behind-room, behind-on, behind-end, each-all}
use Rattle.reader.proofs.put_behind.Goals as goal

pub loop-i-init : goal.loop-i-init
loop-i-init c =
    let a = c.args in
    let it = c.into_iter-i-iterator.ensures.into_iter_gives in
    let e = c.enumerate-i-items.ensures in
    behind-begin (wents_in (form_shape a.f) a.file.now) a.n _ a.room.now _ c.requires (ap (λ s. s.count) it ∙ e.count)
    (each-all a.f a.file.now (ap (λ s. s.iter) it ∙ e.source) c.each.ensures.form c.each.ensures.bytes)

pub put_in-k-requires : goal.put_in-k-requires
put_in-k-requires c = let h = c.in-Some.ensures.steps in behind-room c.loop-i.invariant h.0 h.1

pub loop-i-preserved : goal.loop-i-preserved
loop-i-preserved c = let h = c.in-Some.ensures.steps in behind-on c.loop-i.invariant h.0 h.1 h.2 c.put_in-k.ensures

pub returns : goal.returns
returns c = behind-end c.loop-i.invariant c.in-None.ensures.steps.0.0
