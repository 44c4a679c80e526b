-- The walk down the lines by their records. Assumes nothing.
use Prim.Native.Nat.{ℕ, suc, ◌+◌, ◌-◌, ◌≤◌, ◌<◌, ◌^◌, min}
use mathlib.Core.Path.{◌≡◌, refl, sym, ◌∙◌, subst}
use mathlib.Core.Bool.{cond}
use mathlib.Core.List.{List}
use native.Mathlib.Omega.{arith}
use lib.Dec.{ltb}
use lib.ListN.{length, get_or, drop}
use Rattle.lines.specs.Lf.{part, up_to, lines_of}
use Rattle.place.specs.Region.{is_header}
use Rattle.records.specs.declared.LineRec.{LineRec}
use Rattle.records.specs.Inner.Records.{no_rec, records_of, Above, last_record, window_at, Told}
use Rattle.records.proofs.Down.{Down, down-start, down-some, down-none, down_lt, down-here, down-on}
use Rattle.records.proofs.Shown.{Shows, Has, told-long, shows-start, shows-asks, shows-filled}
use Rattle.calls.specs.Inner.Tables.{Ready, TurnedLine, Rebuilt}
use Rattle.calls.proofs.Turns.{Passes, passes-ready, passes_on, passes-end}

-- the loop: the n-th line begins at `at`, and `above` is the region of the line above
pub record Lined (t : List ℕ) (rs : List LineRec) (m : ℕ) (bs fs owner₀ stack₀ cur₀ next₀ owner stack cur next : List ℕ) (n o : ℕ) : Type 0 where
  pub at : ℕ
  pub above : ℕ
  pub passes : Passes t bs fs owner₀ stack₀ cur₀ next₀ owner stack cur next at n o
  pub down : Down t bs rs at n above
  pub count : m ≡ length (lines_of t)

pub lined-start : {t es : List ℕ} {m : ℕ} {bs fs owner stack cur next : List ℕ} → Passes t bs fs owner stack cur next owner stack cur next 0 0 0 → Told t es bs m →
    Lined t (records_of (lines_of t) bs) m bs fs owner stack cur next owner stack cur next 0 0
lined-start p h = record { at = 0; above = 0; passes = p; down = down-start h.long; count = h.count }

module _ {t : List ℕ} {rs : List LineRec} {m : ℕ} {bs fs owner₀ stack₀ cur₀ next₀ owner stack cur next : List ℕ} {n o : ℕ} (h : Lined t rs m bs fs owner₀ stack₀ cur₀ next₀ owner stack cur next n o) where
  pub lined-end : m ≤ n → Rebuilt t bs fs owner₀ owner stack o
  lined-end l = passes-end h.passes (down-none h.down (let e = h.count in omega arith))

  module _ (l : n < m) where
    abbrev to : ℕ
    to = h.at + up_to 10 (drop h.at t)

    inside : h.at < length t
    inside = down-some h.down (let e = h.count in omega arith)

    pub lined-get : n < length rs
    lined-get = (down_lt h.down inside to refl).1

    pub lined-ready : {r : LineRec} → r ≡ get_or rs n no_rec → Ready t n r.start r.end bs fs owner stack o cur next
    lined-ready {r} g = subst (λ (x : LineRec). Ready t n x.start x.end bs fs owner stack o cur next) (sym (g ∙ down-here h.down inside to refl)) (passes-ready h.passes inside to refl)

    pub lined_on : {owner' stack' cur' next' : List ℕ} {o' : ℕ} → TurnedLine t bs fs n owner owner' stack' o o' →
        length owner' ≡ length owner → length stack' ≡ length stack → length cur' ≡ length cur → length next' ≡ length next →
        Lined t rs m bs fs owner₀ stack₀ cur₀ next₀ owner' stack' cur' next' (n + 1) o'
    lined_on w a b c d = record {
      at = min (to + 1) (length t);
      above = cond (is_header (part h.at to t)) (suc h.above) h.above;
      passes = passes_on h.passes inside to refl w refl a b c d;
      down = down-on h.down inside to refl refl;
      count = h.count;
    }

-- ---- the same, with a window of the records, which ends above the line past

pub record Viewed (t : List ℕ) (m : ℕ) (bs fs owner₀ stack₀ cur₀ next₀ owner stack cur next : List ℕ) (d₀ d : List LineRec) (past n o : ℕ) : Type 0 where
  pub lined : Lined t (records_of (lines_of t) bs) m bs fs owner₀ stack₀ cur₀ next₀ owner stack cur next n o
  pub some : 0 < length d
  pub same : length d ≡ length d₀
  pub low : n ≤ past
  pub high : past ≤ n + length d
  pub shows : Shows (records_of (lines_of t) bs) d past

pub viewed-start : {t es : List ℕ} {m : ℕ} {bs fs owner stack cur next : List ℕ} {d : List LineRec} → Passes t bs fs owner stack cur next owner stack cur next 0 0 0 → Told t es bs m → 0 < length d →
    Viewed t m bs fs owner stack cur next owner stack cur next d d 0 0 0
viewed-start {d = d} p h w = record { lined = lined-start p h; some = w; same = refl; low = omega arith; high = omega arith; shows = shows-start _ d }

module _ {t es : List ℕ} {m : ℕ} {bs fs owner₀ stack₀ cur₀ next₀ owner stack cur next : List ℕ} {d₀ d : List LineRec} {past n o : ℕ}
    (h : Viewed t m bs fs owner₀ stack₀ cur₀ next₀ owner stack cur next d₀ d past n o) (k : Told t es bs m) (l : n < m) where
  -- what `refill` asks for
  pub viewed-asks : ((i : ℕ) → get_or es i 0 < 2 ^ 64) → ((n ≤ m) × ((m ≤ length es) × ((m ≤ length bs) × (0 < length d)))) × (past ≤ n → Above past (last_record d))
  viewed-asks g = ((omega arith, ((told-long k).0, ((told-long k).1, h.some))), λ q. shows-asks k h.shows h.some (omega (arith, q, l)) g)

  module _ {past' : ℕ} {d' : List LineRec} (p : past' ≡ cond (ltb n past) past (past + length d)) (q : d' ≡ cond (ltb n past) d (window_at es bs m past d)) where
    filled : Has k h.shows h.some n past' d'
    filled = shows-filled k h.shows h.some l h.low h.high p q

    -- where the record of the line stands
    pub viewed-reach : (past' ≤ n + length d') × (n + length d' - past' < length d')
    viewed-reach = let f = filled in (f.above, let u = f.above in let v = f.below in omega (arith, u, v))

    module _ {r : LineRec} (g : r ≡ get_or d' (n + length d' - past') no_rec) where
      here : r ≡ get_or (records_of (lines_of t) bs) n no_rec
      here = g ∙ filled.shows.front n filled.below filled.above (lined-get h.lined l)

      pub viewed-ready : Ready t n r.start r.end bs fs owner stack o cur next
      viewed-ready = lined-ready h.lined l here

      pub viewed-on : {owner' stack' cur' next' : List ℕ} {o' : ℕ} → TurnedLine t bs fs n owner owner' stack' o o' →
          length owner' ≡ length owner → length stack' ≡ length stack → length cur' ≡ length cur → length next' ≡ length next →
          Viewed t m bs fs owner₀ stack₀ cur₀ next₀ owner' stack' cur' next' d₀ d' past' (n + 1) o'
      viewed-on w a b c e =
          let z = filled in
          record {
            lined = lined_on h.lined l w a b c e;
            some = let x = z.same in let y = h.some in omega (arith, x, y);
            same = z.same ∙ h.same;
            low = let x = z.below in omega (arith, x);
            high = let x = z.above in omega (arith, x);
            shows = z.shows;
          }
