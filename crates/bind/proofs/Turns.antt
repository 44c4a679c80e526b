-- The walk down the lines by their records: one turn of the loop. Assumes nothing.
use Prim.Native.Nat.{ℕ, zero, suc, ◌+◌, ◌-◌, ◌*◌, ◌/◌, ◌%◌, ◌≤◌, ◌<◌, ◌^◌, min}
use mathlib.Core.Path.{◌≡◌, refl, sym, ap, ◌∙◌, subst}
use mathlib.Core.Bool.{Bool, true, false, cond}
use mathlib.Core.List.{List, []}
use native.Mathlib.Omega.{arith}
use borrow.Author.Tests.{eq-eqb, ne_eqb}
use lib.Dec.{eqb, ltb}
use lib.ListN.{length, get_or, drop}
use Rattle.lines.specs.Lf.{part, up_to, lines_of, unlines}
use Rattle.lines.specs.Acts.{apply}
use Rattle.lines.specs.Inner.Out.{Wrote}
use Rattle.text.specs.Trim.{trim_of}
use Rattle.place.specs.Region.{is_header}
use Rattle.place.specs.Inner.Region.{up_header, region_len}
use Rattle.place.proofs.Regions.{past, end-stop, end_on, end-end}
use Rattle.place.specs.Inner.Fill.{Filled}
use Rattle.place.proofs.Marks.{Marked, marked-here, marked-on}
use Rattle.records.specs.declared.LineRec.{LineRec}
use Rattle.records.specs.Inner.Records.{no_rec, rec_at, records_of, Above, last_record, window_at, Told}
use Rattle.records.proofs.Down.{Down, down-start, down-some, down-none, down_lt, down-here, down-on}
use Rattle.records.proofs.Shown.{Shows, Has, told-long, shows-start, shows-asks, shows-filled}
use Rattle.decls.specs.Inner.Seen.{AtMost}
use Rattle.bind.specs.declared.Site.{Site}
use Rattle.bind.specs.Bind.{bind_go}
use Rattle.bind.specs.Inner.Steps.{line_of, below_of, bound_at, mark_row, site_text, site_notes, notes_go, tabled}
use Rattle.bind.specs.Inner.Index.{seen_at, first_at, site_seen, site_first, ReadyFor}
use Rattle.bind.specs.Inner.Sites.{stop_by, first_site, site_of, WalkedSites}
use Rattle.bind.proofs.WalkLaws.{BindInv, RegionAt, region-same, region-new, walk_start, walk-reach, walk-marks, walk-room, walk-on, walk-lt, walk_end, walk-filled}
use Rattle.bind.proofs.IndexWalk.{IndexInv, IndexAt, index-start, index_same, index-new, region-fits, index-told, index_on}

-- ---- where a region ends, by the table of ends

stop-more : (es : List ℕ) (len m k p : ℕ) (b : Bool) → eqb (get_or es k 0 % 2) 1 ≡ b → stop_by es len (suc m) k p ≡ cond b p (stop_by es len m (suc k) (get_or es k 0 / 2 + 1))
unfolding stop_by
stop-more es len m k p b e = rw e

-- the loop of stop_by: the lines before the i-th open no region
module _ (es : List ℕ) (len n i p : ℕ) where
  stop-first : i < n → (b : Bool) → eqb (get_or es i 0 % 2) 1 ≡ b → stop_by es len (n - i) i p ≡ cond b p (stop_by es len (n - (i + 1)) (i + 1) (get_or es i 0 / 2 + 1))
  stop-first l b e =
      let z : n - i ≡ suc (n - (i + 1)) = omega arith in
      let w : suc i ≡ i + 1 = omega arith in
      ap (λ (m : ℕ). stop_by es len m i p) z
      ∙ stop-more es len (n - (i + 1)) i p b e
      ∙ ap (λ (m : ℕ). cond b p (stop_by es len (n - (i + 1)) m (get_or es i 0 / 2 + 1))) w

  pub stop-on : i < n → (get_or es i 0 % 2 ≡ 1 → ⊥) → stop_by es len (n - i) i p ≡ stop_by es len (n - (i + 1)) (i + 1) (get_or es i 0 / 2 + 1)
  stop-on l e = stop-first l false (ne_eqb (get_or es i 0 % 2) 1 e)

  pub stop-here : i < n → get_or es i 0 % 2 ≡ 1 → stop_by es len (n - i) i p ≡ p
  stop-here l e = stop-first l true (eq-eqb (get_or es i 0 % 2) 1 e)

  pub stop-end : n ≤ i → stop_by es len (n - i) i p ≡ len
  unfolding stop_by
  stop-end h = let z : n - i ≡ 0 = omega arith in ap (λ (m : ℕ). stop_by es len m i p) z

-- the entries from the k-th up to the n-th, of the lines from p on, tell where the next header stands
pub stop_is : {t bs es : List ℕ} {d : List LineRec} (m : ℕ) {p k c : ℕ} (n : ℕ) → n ≡ length (lines_of t) → n ≡ k + m → p ≤ length t → Down t bs d p k c → Marked t es p k → (q : ℕ) → (0 < m → q ≡ p) →
    stop_by es (length t) (n - k) k q ≡ p + up_header 0 (drop p t)
stop_is {t} {bs} {es} {d} zero {p} {k} {c} n f z l h g q r =
    let w : length t ≤ p = down-none h (omega arith) in
    stop-end es (length t) n k q (omega arith) ∙ (let u = end-end t p w in omega arith)
stop_is {t} {bs} {es} {d} (suc m) {p} {k} {c} n f z l h g q r = go (is_header (part p e t)) refl (stop_is m n f (omega arith) (omega arith) below (marked-on g inside e refl refl) (get_or es k 0 / 2 + 1))
  where
    e : ℕ
    e = p + up_to 10 (drop p t)

    inside : p < length t
    inside = down-some h (omega (arith, f, z))

    j : ℕ
    j = min (e + 1) (length t)

    below : Down t bs d j (k + 1) (cond (is_header (part p e t)) (suc c) c)
    below = down-on h inside e refl refl

    mark : (b : Bool) → is_header (part p e t) ≡ b → get_or es k 0 ≡ 2 * e + cond b 1 0
    mark b w = marked-here g inside e refl ∙ ap (λ (x : Bool). 2 * e + cond x 1 0) w

    go : (b : Bool) → is_header (part p e t) ≡ b →
        ((0 < m → get_or es k 0 / 2 + 1 ≡ j) → stop_by es (length t) (n - (k + 1)) (k + 1) (get_or es k 0 / 2 + 1) ≡ j + up_header 0 (drop j t)) →
        stop_by es (length t) (n - k) k q ≡ p + up_header 0 (drop p t)
    go true w rest =
        let o : get_or es k 0 ≡ 2 * e + 1 = mark true w in
        stop-here es (length t) n k q (omega arith) (omega (arith, o)) ∙ r (omega arith) ∙ (let u = end-stop t p e inside refl w in omega arith)
    go false w rest =
        let o : get_or es k 0 ≡ 2 * e + 0 = mark false w in
        stop-on es (length t) n k q (omega arith) (λ y. omega (arith, o, y))
        ∙ rest (λ y. let v : j < length t = down-some below (omega (arith, f, z, y)) in omega (arith, o, v))
        ∙ past t p e j refl l refl ∙ ap (λ (x : ℕ). p + x) (sym (end_on t p e inside refl w))

pub site-made : (t : List ℕ) (r : LineRec) (a e k j : ℕ) → j ≡ min (r.end + 1) (length t) → record { top = a; from = r.start; to = r.end; next = j; end = e; row = k; block = r.block } ≡ site_of (length t) r a e k
unfolding site_of
site-made t r a e k j y = ap (λ (x : ℕ). record { top = a; from = r.start; to = r.end; next = x; end = e; row = k; block = r.block }) y

-- ---- the loop

-- s is the site above, c its region, and the k-th line is the next
pub record TurnInv (own t es : List ℕ) (n : ℕ) (bs ss d₀ u₀ m₀ o₀ d u m o : List ℕ) (s : Site) (c k p : ℕ) : Type 0 where
  pub bind : BindInv t bs ss m₀ m o₀ o s.top s.end s.next k p
  pub index : IndexInv own t d₀ u₀ d u s.top s.end s.next k
  pub down : Down t bs (records_of (lines_of t) bs) s.next k c
  pub marked : Marked t es s.next k
  pub count : n ≡ length (lines_of t)

pub turn-start : (own t es : List ℕ) (n : ℕ) (bs ss d u m o : List ℕ) (s : Site) (x : ℕ) {c : ℕ} → length d ≡ length u → AtMost 0 d → AtMost 0 u → WalkedSites t es n bs ss m o →
    x ≡ stop_by es (length t) (n - 0) 0 0 → s ≡ first_site x → c ≡ 0 → TurnInv own t es n bs ss d u m o d u m o s c 0 0
unfolding first_site
turn-start own t es n bs ss d u m o s x a b c w f e i =
    let down : Down t bs (records_of (lines_of t) bs) 0 0 0 = down-start w.told.long in
    let marked : Marked t es 0 0 = record { rest = w.told.behind; left = w.told.marks } in
    subst (λ (y : ℕ). TurnInv own t es n bs ss d u m o d u m o s y 0 0) (sym i) (subst (λ (y : Site). TurnInv own t es n bs ss d u m o d u m o y 0 0 0) (sym e) (record {
      bind = walk_start t bs ss m o x w.rows w.lines w.fits w.unmarked w.room (λ e₁ l q g. f ∙ stop_is n n w.told.count (omega arith) (omega arith) down marked 0 (λ _. refl) ∙ ap (λ (y : ℕ). 0 + y) (end_on t 0 e₁ l q g));
      index = index-start own t d u x a b c;
      down = down;
      marked = marked;
      count = w.told.count;
    }))

pub turn_end : {own t es : List ℕ} {n : ℕ} {bs ss d₀ u₀ m₀ o₀ d u m o : List ℕ} {s : Site} {c k p : ℕ} → TurnInv own t es n bs ss d₀ u₀ m₀ o₀ d u m o s c k p → n ≤ k →
    (Wrote o₀ 0 (unlines (apply (bind_go (tabled (lines_of t) bs ss) [] []) (lines_of t))) o p) × (Filled m₀ (notes_go (tabled (lines_of t) bs ss) [] []) m (length (lines_of t)))
turn_end h l = let q = down-none h.down (let e = h.count in omega arith) in (walk_end h.bind q, walk-filled h.bind q)

module _ {own t es : List ℕ} {n : ℕ} {bs ss d₀ u₀ m₀ o₀ d u m o : List ℕ} {s : Site} {c k p : ℕ} (h : TurnInv own t es n bs ss d₀ u₀ m₀ o₀ d u m o s c k p) (l : k < n) where
  abbrev from : ℕ
  from = s.next

  abbrev to : ℕ
  to = from + up_to 10 (drop from t)

  abbrev next : ℕ
  next = min (to + 1) (length t)

  -- the number of its region
  abbrev number : ℕ
  number = cond (is_header (part from to t)) (suc c) c

  inside : from < length t
  inside = down-some h.down (let e = h.count in omega arith)

  abbrev rs : List LineRec
  rs = records_of (lines_of t) bs

  pub turn-get : k < length rs
  turn-get = (down_lt h.down inside to refl).1

  -- the site of the line, and what it says of the region
  record Sited (s' : Site) : Type 0 where
    pub top : ℕ
    pub end : ℕ
    pub is : s' ≡ record { top = top; from = from; to = to; next = next; end = end; row = k; block = get_or bs k 0 }
    pub region : RegionAt t h.bind.us from to top end
    pub index : IndexAt own t d₀ u₀ d u top end from k

  module _ {r : LineRec} {s' : Site} (g : r ≡ get_or rs k no_rec)
      (z : s' ≡ site_of (length t) r (cond (eqb r.region.0 c) s.top r.start) (cond (eqb r.region.0 c) s.end (stop_by es (length t) (n - (k + 1)) (k + 1) (min (r.end + 1) (length t)))) k) where
    rec-is : r ≡ rec_at from to number (get_or bs k 0)
    rec-is = g ∙ down-here h.down inside to refl

    abbrev below : Down t bs rs next (k + 1) number
    below = down-on h.down inside to refl refl

    -- by whether the line has the region of the line above
    abbrev topBy : Bool → ℕ
    topBy b = cond b s.top from

    abbrev endBy : Bool → ℕ
    endBy b = cond b s.end (from + region_len (drop from t))

    stops : stop_by es (length t) (n - (k + 1)) (k + 1) next ≡ from + region_len (drop from t)
    stops = stop_is (n - (k + 1)) n h.count (omega arith) (omega arith) below (marked-on h.marked inside to refl refl) next (λ _. refl) ∙ past t from to next refl h.bind.i≤ refl

    -- the site, by its record
    made : LineRec → Site
    made f = site_of (length t) f (cond (eqb f.region.0 c) s.top f.start) (cond (eqb f.region.0 c) s.end (stop_by es (length t) (n - (k + 1)) (k + 1) (min (f.end + 1) (length t)))) k

    site-is : (b : Bool) → eqb number c ≡ b → s' ≡ record { top = topBy b; from = from; to = to; next = next; end = endBy b; row = k; block = get_or bs k 0 }
    unfolding site_of made
    site-is b q =
        z ∙ ap made rec-is ∙ ap (λ (f : Bool). site_of (length t) (rec_at from to number (get_or bs k 0)) (topBy f) (cond f s.end (stop_by es (length t) (n - (k + 1)) (k + 1) next)) k) q
        ∙ ap (λ (e : ℕ). site_of (length t) (rec_at from to number (get_or bs k 0)) (topBy b) (cond b s.end e) k) stops

    sited : Sited s'
    sited = go (is_header (part from to t)) refl
      where
        go : (b : Bool) → is_header (part from to t) ≡ b → Sited s'
        go true w₁ = record {
          top = from;
          end = from + region_len (drop from t);
          is = site-is false (ap (λ (b : Bool). eqb (cond b (suc c) c) c) w₁ ∙ ne_eqb (suc c) c (λ e. omega (arith, e)));
          region = region-new h.bind to inside refl (part from to t) refl w₁ (from + region_len (drop from t)) refl;
          index = index-new h.index to inside refl (part from to t) refl w₁ (from + region_len (drop from t));
        }
        go false w₁ = record {
          top = s.top;
          end = s.end;
          is = site-is true (ap (λ (b : Bool). eqb (cond b (suc c) c) c) w₁ ∙ eq-eqb c c refl);
          region = region-same h.bind to inside refl (part from to t) refl w₁;
          index = index_same h.index to inside refl (part from to t) refl w₁;
        }

    pub turn-read : (length d ≡ length u) × ((s'.top < length t) × ((s'.row < length m) × (s'.from ≤ s'.top → s'.row + length (lines_of (part s'.top s'.end t)) ≤ length m)))
    turn-read = subst (λ (x : Site). (length d ≡ length u) × ((x.top < length t) × ((x.row < length m) × (x.from ≤ x.top → x.row + length (lines_of (part x.top x.end t)) ≤ length m)))) (sym sited.is) (
      h.index.same,
      (
        let i = inside in let a = sited.region.top≤ in omega arith,
        (
          walk-lt h.bind inside,
          region-fits sited.region inside refl next refl (length m) k (walk-marks h.bind to inside refl sited.region next refl),
        ),
      ),
    )

    module _ {d' u' : List ℕ} (a : d' ≡ site_seen own t s' d) (b : u' ≡ site_first own t s' d u) where
      seen-is : d' ≡ seen_at own t sited.top from sited.end d
      seen-is = a ∙ ap (λ (x : Site). site_seen own t x d) sited.is

      first-is : u' ≡ first_at own t sited.top from sited.end k d u
      first-is = b ∙ ap (λ (x : Site). site_first own t x d u) sited.is

      pub turn-line : (ReadyFor (trim_of (line_of t s')) own t s' bs ss d' u') × ((s'.row + suc (length (below_of t s')) ≤ length m) × (p + length (site_text (bound_at t s' bs ss) (line_of t s') (get_or m s'.row 0)) ≤ length o))
      turn-line =
          subst (λ (x : Site). (ReadyFor (trim_of (line_of t x)) own t x bs ss d' u') × ((x.row + suc (length (below_of t x)) ≤ length m) × (p + length (site_text (bound_at t x bs ss) (line_of t x) (get_or m x.row 0)) ≤ length o))) (sym sited.is) (
            (walk-reach h.bind to inside refl sited.region next refl, index-told sited.region inside refl next refl sited.index seen-is first-is bs ss),
            (walk-marks h.bind to inside refl sited.region next refl, walk-room h.bind to inside refl sited.region next refl),
          )

      pub turn_on : {m' o' : List ℕ} {c' p' : ℕ} → c' ≡ r.region.0 → Wrote o p (site_text (bound_at t s' bs ss) (line_of t s') (get_or m s'.row 0)) o' p' → m' ≡ site_notes (bound_at t s' bs ss) (mark_row t s') (line_of t s') s'.row m →
          TurnInv own t es n bs ss d₀ u₀ m₀ o₀ d' u' m' o' s' c' (k + 1) p'
      turn_on {m'} {o'} {c'} {p'} e v x =
          let y : Site = record { top = sited.top; from = from; to = to; next = next; end = sited.end; row = k; block = get_or bs k 0 } in
          let v' : Wrote o p (site_text (bound_at t y bs ss) (line_of t y) (get_or m k 0)) o' p' = subst (λ (f : Site). Wrote o p (site_text (bound_at t f bs ss) (line_of t f) (get_or m f.row 0)) o' p') sited.is v in
          let x' : m' ≡ site_notes (bound_at t y bs ss) (mark_row t y) (line_of t y) k m = subst (λ (f : Site). m' ≡ site_notes (bound_at t f bs ss) (mark_row t f) (line_of t f) f.row m) sited.is x in
          let i : c' ≡ number = e ∙ ap (λ (f : LineRec). f.region.0) rec-is in
          subst (λ (f : Site). TurnInv own t es n bs ss d₀ u₀ m₀ o₀ d' u' m' o' f c' (k + 1) p') (sym sited.is) (record {
            bind = walk-on h.bind to inside refl sited.region next refl v' x';
            index = index_on sited.region inside refl next refl sited.index seen-is first-is;
            down = subst (λ (f : ℕ). Down t bs rs next (k + 1) f) (sym i) (down-on h.down inside to refl refl);
            marked = marked-on h.marked inside to refl refl;
            count = h.count;
          })

-- ---- the same, with a window w of the records, which ends above the line past

pub record Viewed (own t es : List ℕ) (n : ℕ) (bs ss d₀ u₀ m₀ o₀ d u m o : List ℕ) (w₀ w : List LineRec) (c : ℕ) (s : Site) (past k p : ℕ) : Type 0 where
  pub turn : TurnInv own t es n bs ss d₀ u₀ m₀ o₀ d u m o s c k p
  pub some : 0 < length w
  pub same : length w ≡ length w₀
  pub low : k ≤ past
  pub high : past ≤ k + length w
  pub shows : Shows (records_of (lines_of t) bs) w past

pub viewed-start : {own t es : List ℕ} {n : ℕ} {bs ss d u m o : List ℕ} {w : List LineRec} {s : Site} {x : ℕ} → 0 < length w → length d ≡ length u → AtMost 0 d → AtMost 0 u → WalkedSites t es n bs ss m o →
    x ≡ stop_by es (length t) (n - 0) 0 0 → s ≡ first_site x → Viewed own t es n bs ss d u m o d u m o w w 0 s 0 0 0
viewed-start {own} {t} {es} {n} {bs} {ss} {d} {u} {m} {o} {w} {s} {x} z p q r v f e = record {
  turn = turn-start own t es n bs ss d u m o s x p q r v f e refl;
  some = z;
  same = refl;
  low = omega arith;
  high = omega arith;
  shows = shows-start _ w;
}

module _ {own t es : List ℕ} {n : ℕ} {bs ss d₀ u₀ m₀ o₀ d u m o : List ℕ} {w₀ w : List LineRec} {c : ℕ} {s : Site} {past k p : ℕ} (h : Viewed own t es n bs ss d₀ u₀ m₀ o₀ d u m o w₀ w c s past k p) (i : Told t es bs n) (l : k < n) where
  -- what `refill` asks for
  pub viewed-asks : ((x : ℕ) → get_or es x 0 < 2 ^ 64) → ((k ≤ n) × ((n ≤ length es) × ((n ≤ length bs) × (0 < length w)))) × (past ≤ k → Above past (last_record w))
  viewed-asks g = ((omega arith, ((told-long i).0, ((told-long i).1, h.some))), λ q. shows-asks i h.shows h.some (omega (arith, q, l)) g)

  module _ {past' : ℕ} {w' : List LineRec} (x : past' ≡ cond (ltb k past) past (past + length w)) (y : w' ≡ cond (ltb k past) w (window_at es bs n past w)) where
    filled : Has i h.shows h.some k past' w'
    filled = shows-filled i h.shows h.some l h.low h.high x y

    -- where the record of the line stands
    pub viewed-reach : (past' ≤ k + length w') × (k + length w' - past' < length w')
    viewed-reach = let f = filled in (f.above, let a = f.above in let b = f.below in omega (arith, a, b))

    pub viewed-here : {r : LineRec} → r ≡ get_or w' (k + length w' - past') no_rec → r ≡ get_or (records_of (lines_of t) bs) k no_rec
    viewed-here g = g ∙ filled.shows.front k filled.below filled.above (turn-get h.turn l)

    pub viewed-on : {d' u' m' o' : List ℕ} {c' : ℕ} {s' : Site} {p' : ℕ} → TurnInv own t es n bs ss d₀ u₀ m₀ o₀ d' u' m' o' s' c' (k + 1) p' → Viewed own t es n bs ss d₀ u₀ m₀ o₀ d' u' m' o' w₀ w' c' s' past' (k + 1) p'
    viewed-on v =
        let z = filled in
        record {
          turn = v;
          some = let a = z.same in let b = h.some in omega (arith, a, b);
          same = z.same ∙ h.same;
          low = let a = z.below in omega (arith, a);
          high = let a = z.above in omega (arith, a);
          shows = z.shows;
        }
