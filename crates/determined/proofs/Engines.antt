-- The public functions of crate engines: their contracts fix their outcomes, and say the same of one text. Assumes nothing.
use Prim.Native.Nat.{ℕ}
use mathlib.Core.Path.{◌≡◌, sym, ap, ◌∙◌}
use mathlib.Core.List.{List, ◌++◌}
use lib.ListN.{length, drop}
use denote.Triple.Entry.{Args}
use Rattle.lines.proofs.OutLaws.{wrote-once}
use Rattle.lines.specs.Lf.{lines_of}
use Rattle.place.specs.Inner.Fill.{Filled, flags_of}
use Rattle.place.proofs.Fills.{filled-once}
use Rattle.reading.specs.Reading.{reading_of}
use Rattle.engines.specs.Engines.{plain_engine}
use Rattle.engines.proofs.Engines.{engines-same}
use Rattle.engines.proofs as engines
use Rattle.engines.specs.contracts as said
use Rattle.determined.proofs.Outcomes.{Lives, Outcome, Met, Determined, fixed-by, one, more}

pub plain-drops-fixed : Determined said.plain_drops.ended (λ κs z. z) engines.plain_drops.Reads.ensures
plain-drops-fixed = fixed-by engines.plain_drops.Reads.Learnt (λ w κs a x. more w (one w)) (λ κs a x y l m.
    let p = l.1 in
    let q = m.1 in
    ((wrote-once p.0 q.0).0, ((filled-once p.1.0 q.1.0).0, ((filled-once p.1.1.0 q.1.1.0).0, ((filled-once p.1.1.1 q.1.1.1).0, filled-once l.0 m.0)))))

pub sweep-drops-fixed : Determined said.sweep_drops.ended (λ κs z. z) engines.sweep_drops.Reads.ensures
sweep-drops-fixed = fixed-by engines.sweep_drops.Reads.Learnt (λ w κs a x. more w (more w (one w))) (λ κs a x y l m.
    let p = l.1.0 in
    let q = m.1.0 in
    let t = l.1.1 in
    let s = m.1.1 in
    ((wrote-once p.0 q.0).0, ((filled-once p.1.0 q.1.0).0, ((filled-once p.1.1.0 q.1.1.0).0, ((filled-once p.1.1.1 q.1.1.1).0, (t.0 ∙ sym s.0, (t.1.0 ∙ sym s.1.0, (t.1.1.0 ∙ sym s.1.1.0, (t.1.1.1.0 ∙ sym s.1.1.1.0, (t.1.1.1.1 ∙ sym s.1.1.1.1, filled-once l.0 m.0))))))))))

-- tables that were equal, filled with the same
filled-same : {d e xs ys d' e' : List ℕ} {r s : ℕ} → d ≡ e → xs ≡ ys → Filled d xs d' r → Filled e ys e' s → (d' ≡ e') × (r ≡ s)
filled-same p q f g = (f.holds ∙ ((λ i. q i ++ drop (length (q i)) (p i)) ∙ sym g.holds), f.place ∙ (ap length q ∙ sym g.place))

-- What the two contracts say of one text in one mode, over flags that were equal: the flags are equal afterwards, and the answers. The mode is the first argument of each, the text the
-- second, and the flags are the last.
pub drops-same-outcome :
    (κs : Lives said.plain_drops.ended) (a : Args (said.plain_drops.ended).signature κs) (x : Outcome said.plain_drops.ended κs a)
    (κt : Lives said.sweep_drops.ended) (b : Args (said.sweep_drops.ended).signature κt) (y : Outcome said.sweep_drops.ended κt b) →
    a.0 ≡ b.0 → a.1.0.now ≡ b.1.0.now → a.1.1.1.1.1.1.0.now ≡ b.1.1.1.1.1.1.1.1.1.1.1.1.0.now →
    Met said.plain_drops.ended engines.plain_drops.Reads.Learnt κs a x → Met said.sweep_drops.ended engines.sweep_drops.Reads.Learnt κt b y →
    (x.lasts.1.1.1.1.1.1.0 ≡ y.lasts.1.1.1.1.1.1.1.1.1.1.1.1.0) × (x.answer ≡ y.answer)
drops-same-outcome κs a x κt b y m t f l n =
    let e = engines-same (reading_of b.0.0) (lines_of b.1.0.now) in
    filled-same f ((λ i. flags_of (plain_engine (reading_of (m i).0) (lines_of (t i)))) ∙ sym (ap flags_of e)) l.0 n.0
