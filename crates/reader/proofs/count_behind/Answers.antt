use Rattle.std.proofs.Common.{rules, ◌≡◌, ◌∙◌, length}
use Rattle.std.specs.Prelude.{filter}
use Rattle.std.proofs.lemmas.Iterator.Consumers.{YieldsList-from_first, YieldsList-from_filter, count_from_yields_List}
use Rattle.origins.specs.Form.{form_shape}
use Rattle.origins.specs.Answers.{is_in}
use Rattle.reader.specs.Replies.{wents_in}
use Rattle.reader.specs.Inner.Each.{left}
use Rattle.reader.proofs.Laws.{behind-filter, each-all}
use Rattle.reader.proofs.count_behind.Goals as goal

pub returns : goal.returns
returns c =
    let a = c.args in
    let ws = wents_in (form_shape a.f) a.file.now in
    let e : c.count.result ≡ length (filter (is_in a.n) ws) =
    count_from_yields_List _ _ c.count.ensures.ran
    (YieldsList-from_filter _ (is_in a.n) (YieldsList-from_first (λ x. x) left ws (each-all a.f a.file.now c.filter.ensures.source c.each.ensures.form c.each.ensures.bytes)) c.filter.ensures.closure (λ x b q k. search rules)) in
    e ∙ behind-filter a.n ws
