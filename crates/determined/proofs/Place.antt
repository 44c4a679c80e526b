-- Each public function of crate place: its contract fixes its outcome. Assumes nothing.
use mathlib.Core.Path.{sym, ◌∙◌}
use Rattle.place.proofs.Fills.{filled-once}
use Rattle.place.proofs.Parents.{moved-once}
use Rattle.place.proofs as place
use Rattle.place.specs.contracts as said
use Rattle.determined.proofs.Outcomes.{Determined, fixed, fixed-by, one, more}

pub is-header-fixed : Determined said.is_header.ended (λ κs z. z) place.is_header.Reads.ensures
is-header-fixed = fixed place.is_header.Reads.Learnt (λ κs a x y l m. l ∙ sym m)

pub region-end-fixed : Determined said.region_end.ended (λ κs z. z) place.region_end.Reads.ensures
region-end-fixed = fixed place.region_end.Reads.Learnt (λ κs a x y l m. l ∙ sym m)

pub next-region-fixed : Determined said.next_region.ended (λ κs z. z) place.next_region.Reads.ensures
next-region-fixed = fixed place.next_region.Reads.Learnt (λ κs a x y l m. λ i. record { 0 = (l ∙ sym m) i })

pub wide-fixed : Determined said.wide.ended (λ κs z. z) place.wide.Reads.ensures
wide-fixed = fixed place.wide.Reads.Learnt (λ κs a x y l m. l ∙ sym m)

pub flag-fixed : Determined said.flag.ended (λ κs z. z) place.flag.Reads.ensures
flag-fixed = fixed place.flag.Reads.Learnt (λ κs a x y l m. l ∙ sym m)

pub walk-line-fixed : Determined said.walk_line.ended (λ κs z. z) place.walk_line.Reads.ensures
walk-line-fixed = fixed place.walk_line.Reads.Learnt (λ κs a x y l m. let f = moved-once l.0 m.0 in (f.1.0, λ i. record { block = f.0 i; next = f.1.1 i; last = (l.1 ∙ sym m.1) i }))

pub starts-after-fixed : Determined said.starts_after.ended (λ κs z. z) place.starts_after.Reads.ensures
starts-after-fixed = fixed place.starts_after.Reads.Learnt (λ κs a x y l m. l ∙ sym m)

pub place-lines-fixed : Determined said.place_lines.ended (λ κs z. z) place.place_lines.Reads.ensures
place-lines-fixed = fixed-by place.place_lines.Reads.Learnt (λ w κs a x. more w (one w)) (λ κs a x y l m.
    let f = filled-once l.0.0 m.0.0 in (f.0, ((filled-once l.0.1.0 m.0.1.0).0, ((filled-once l.0.1.1 m.0.1.1).0, ((filled-once l.1 m.1).0, f.1)))))

pub block-paths-fixed : Determined said.block_paths.ended (λ κs z. z) place.block_paths.Reads.ensures
block-paths-fixed = fixed-by place.block_paths.Reads.Learnt (λ w κs a x. more w (more w (one w))) (λ κs a x y l m.
    let f = filled-once l.0.0 m.0.0 in (f.0, ((filled-once l.0.1 m.0.1).0, (l.1.1 ∙ sym m.1.1, λ i. record { rows = f.1 i; loops = (l.1.0 ∙ sym m.1.0) i }))))

pub opens-loop-fixed : Determined said.opens_loop.ended (λ κs z. z) place.opens_loop.Reads.ensures
opens-loop-fixed = fixed place.opens_loop.Reads.Learnt (λ κs a x y l m. l ∙ sym m)

pub inside-loop-fixed : Determined said.inside_loop.ended (λ κs z. z) place.inside_loop.Reads.ensures
inside-loop-fixed = fixed place.inside_loop.Reads.Learnt (λ κs a x y l m. filled-once l m)
