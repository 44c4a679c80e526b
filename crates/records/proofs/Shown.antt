-- A window of records: the loop of `fill`, and what a walk down the lines that refills it knows. Assumes nothing.
use Prim.Native.Nat.{ℕ, zero, suc, ◌+◌, ◌-◌, ◌*◌, ◌/◌, ◌%◌, ◌≤◌, ◌<◌, ◌^◌, min}
use mathlib.Core.Path.{◌≡◌, refl, sym, ap, ◌∙◌, subst}
use mathlib.Core.Bool.{Bool, true, false, cond}
use mathlib.Core.List.{List, [], ◌∷◌, ◌++◌}
use native.Mathlib.Omega.{arith}
use native.Mathlib.Numerals.{add-one}
use borrow.Author.Tests.{ne_eqb, ltb-true, ltb-false}
use lib.Dec.{ltb}
use lib.ListN.{length, get_or, set, drop, length-append, length-drop}
use Rattle.lines.specs.Lf.{lines_of}
use Rattle.place.specs.Region.{is_header}
use Rattle.place.specs.Inner.Ends.{end_marks}
use Rattle.place.specs.Inner.Fill.{Filled}
use Rattle.place.proofs.Fills.{filled-length}
use Rattle.place.proofs.Marks.{marks-length}
use Rattle.records.specs.declared.LineRec.{LineRec}
use Rattle.records.specs.Inner.Records.{no_rec, rec_at, records_go, records_of, start_below, region_below, Above, rec_by, records_by, last_record, window_at, Told}
use Rattle.records.proofs.Laws.{Filling, filling-start, filling-as, filling-place, filling-put, filling-end, records-count}

-- ---- the loop of `fill`

pub by_length : (es bs : List ℕ) (m k i c : ℕ) → length (records_by es bs m k i c) ≡ m
unfolding records_by
by_length es bs zero k i c = refl
by_length es bs (suc m) k i c = ap suc (by_length es bs m (suc k) (get_or es k 0 / 2 + 1) (c + get_or es k 0 % 2))

by-more : (es bs : List ℕ) (n m k k' i c : ℕ) → n ≡ suc m → suc k ≡ k' →
    records_by es bs n k i c ≡ rec_by i c (get_or es k 0) (get_or bs k 0) ∷ records_by es bs m k' (get_or es k 0 / 2 + 1) (c + get_or es k 0 % 2)
unfolding records_by
by-more es bs n m k k' i c e f =
    ap (λ (x : ℕ). records_by es bs x k i c) e ∙ ap (λ (x : ℕ). rec_by i c (get_or es k 0) (get_or bs k 0) ∷ records_by es bs m x (get_or es k 0 / 2 + 1) (c + get_or es k 0 % 2)) f

by-none : (es bs : List ℕ) (n k i c : ℕ) → n ≡ 0 → records_by es bs n k i c ≡ []
unfolding records_by
by-none es bs n k i c e = ap (λ (x : ℕ). records_by es bs x k i c) e

-- j of the m records are put: the next line begins at i, and c is the region above it
pub record WindowInv (es bs : List ℕ) (n k : ℕ) (d₀ d : List LineRec) (m i₀ c₀ i c j : ℕ) : Type 0 where
  pub count : m ≡ min (length d₀) (n - k)
  pub start : i₀ ≡ start_below k (last_record d₀)
  pub region : c₀ ≡ region_below k (last_record d₀)
  pub filling : Filling (records_by es bs m k i₀ c₀) (records_by es bs (m - j) (k + j) i c) d₀ d j
  pub low : c ≤ k + j

pub window-start : (es bs : List ℕ) (n k : ℕ) (d : List LineRec) {m i c : ℕ} {a : LineRec} → m ≡ min (length d) (n - k) → a ≡ last_record d → i ≡ start_below k a → c ≡ region_below k a → region_below k (last_record d) ≤ k → WindowInv es bs n k d d m i c i c 0
window-start es bs n k d {m} {i} {c} {a} e g p q l =
    let z : c ≡ region_below k (last_record d) = q ∙ ap (region_below k) g in
    record {
      count = e;
      start = p ∙ ap (start_below k) g;
      region = z;
      filling = filling-as (ap (λ (x : ℕ). records_by es bs x k i c) (let z : m ≡ m - 0 = omega arith in z) ∙ ap (λ (x : ℕ). records_by es bs (m - 0) x i c) (let z : k ≡ k + 0 = omega arith in z))
          (filling-start (records_by es bs m k i c) d (omega (arith, e, by_length es bs m k i c)));
      low = omega (arith, z, l);
    }

module _ {es bs : List ℕ} {n k : ℕ} {d₀ d : List LineRec} {m i₀ c₀ i c j : ℕ} (h : WindowInv es bs n k d₀ d m i₀ c₀ i c j) where
  pub window-done : m ≤ j → d ≡ window_at es bs n k d₀
  unfolding window_at
  window-done l =
      let f = filling-end (filling-as (by-none es bs (m - j) (k + j) i c (omega arith)) h.filling) in
      f.1 ∙ ap (λ (x : ℕ). records_by es bs m k i₀ c₀ ++ drop x d₀) (by_length es bs m k i₀ c₀) ∙ ap (λ (x : ℕ). records_by es bs x k i₀ c₀ ++ drop x d₀) h.count
      ∙ ap (λ (x : ℕ). records_by es bs (min (length d₀) (n - k)) k x c₀ ++ drop (min (length d₀) (n - k)) d₀) h.start
      ∙ ap (λ (x : ℕ). records_by es bs (min (length d₀) (n - k)) k (start_below k (last_record d₀)) x ++ drop (min (length d₀) (n - k)) d₀) h.region

  module _ (l : j < m) where
    here : records_by es bs (m - j) (k + j) i c ≡ rec_by i c (get_or es (k + j) 0) (get_or bs (k + j) 0) ∷ records_by es bs (m - (j + 1)) (k + (j + 1)) (get_or es (k + j) 0 / 2 + 1) (c + get_or es (k + j) 0 % 2)
    here = by-more es bs (m - j) (m - (j + 1)) (k + j) (k + (j + 1)) i c (omega arith) (omega arith)

    pub window-lt : (k + j < n) × (j < length d)
    window-lt = (let c = h.count in omega arith, filling-place (filling-as here h.filling))

    pub window_on : {d' : List LineRec} {r : LineRec} → r ≡ rec_by i c (get_or es (k + j) 0) (get_or bs (k + j) 0) → d' ≡ set d j r → WindowInv es bs n k d₀ d' m i₀ c₀ (r.end + 1) r.region.0 (j + 1)
    window_on {d'} {r} e s =
        let p : r.region.0 ≡ c + get_or es (k + j) 0 % 2 = ap (λ (x : LineRec). x.region.0) e in
        let g : records_by es bs (m - j) (k + j) i c ≡ r ∷ records_by es bs (m - (j + 1)) (k + (j + 1)) (r.end + 1) r.region.0 =
        here ∙ ap (λ (x : LineRec). x ∷ records_by es bs (m - (j + 1)) (k + (j + 1)) (x.end + 1) x.region.0) (sym e) in
        record {
          count = h.count;
          start = h.start;
          region = h.region;
          filling = filling-put s (filling-as g h.filling);
          low = let w = h.low in omega (arith, p, w);
        }

    -- and the next line begins where a number may point
    pub window-end : {r : LineRec} → r ≡ rec_by i c (get_or es (k + j) 0) (get_or bs (k + j) 0) → get_or es (k + j) 0 < 2 ^ 64 → r.end + 1 < 2 ^ 64
    window-end {r} e b = let q : r.end ≡ get_or es (k + j) 0 / 2 = ap (λ (x : LineRec). x.end) e in omega (arith, q, b)

-- ---- the records by tables are the records of the lines

-- where the k-th begins and the region above it, where the first begins at i and c is the region above it
start_at : ℕ → List LineRec → ℕ → ℕ
start_at i rs zero = i
start_at i rs (suc k) = suc (get_or rs k no_rec).end

region_at : ℕ → List LineRec → ℕ → ℕ
region_at c rs zero = c
region_at c rs (suc k) = (get_or rs k no_rec).region.0

start-below : (i : ℕ) (r : LineRec) (rs : List LineRec) (k : ℕ) → start_at (suc r.end) rs k ≡ start_at i (r ∷ rs) (suc k)
unfolding start_at
start-below i r rs zero = refl
start-below i r rs (suc k) = refl

region-below : (c : ℕ) (r : LineRec) (rs : List LineRec) (k : ℕ) → region_at r.region.0 rs k ≡ region_at c (r ∷ rs) (suc k)
unfolding region_at
region-below c r rs zero = refl
region-below c r rs (suc k) = refl

half : (e : ℕ) (b : Bool) → e ≡ (2 * e + cond b 1 0) / 2
half e true = omega arith
half e false = omega arith

odd : (c e : ℕ) (b : Bool) → cond b (suc c) c ≡ c + (2 * e + cond b 1 0) % 2
odd c e true = omega arith
odd c e false = omega arith

entry_at : (ls : List (List ℕ)) (bs x : List ℕ) (i c k : ℕ) → length ls ≤ length bs → k < length ls →
    get_or (records_go ls bs i c) k no_rec
    ≡ rec_at (start_at i (records_go ls bs i c) k) (get_or (end_marks i ls ++ x) k 0 / 2) (region_at c (records_go ls bs i c) k + get_or (end_marks i ls ++ x) k 0 % 2) (get_or bs k 0)
unfolding records_go end_marks start_at region_at
entry_at [] bs x i c k h q = absurd (omega (arith, q))
entry_at (l ∷ ls) [] x i c k h q = absurd (omega (arith, h))
entry_at (l ∷ ls) (b ∷ bs) x i c zero h q =
    ap (λ (e : ℕ). rec_at i e (cond (is_header l) (suc c) c) b) (half (i + length l) (is_header l))
    ∙ ap (λ (r : ℕ). rec_at i ((2 * (i + length l) + cond (is_header l) 1 0) / 2) r b) (odd c (i + length l) (is_header l))
entry_at (l ∷ ls) (b ∷ bs) x i c (suc k) h q =
    let r : LineRec = rec_at i (i + length l) (cond (is_header l) (suc c) c) b in
    let rs : List LineRec = records_go ls bs (suc (i + length l)) (cond (is_header l) (suc c) c) in
    let y : ℕ = get_or (end_marks (suc (i + length l)) ls ++ x) k 0 in
    entry_at ls bs x (suc (i + length l)) (cond (is_header l) (suc c) c) k (omega (arith, h)) (omega (arith, q))
    ∙ ap (λ (s : ℕ). rec_at s (y / 2) (region_at (cond (is_header l) (suc c) c) rs k + y % 2) (get_or bs k 0)) (start-below i r rs k)
    ∙ ap (λ (s : ℕ). rec_at (start_at i (r ∷ rs) (suc k)) (y / 2) (s + y % 2) (get_or bs k 0)) (region-below c r rs k)

-- what `place_lines` leaves
pub told-ids : (t : List ℕ) {xs b b' e e' : List ℕ} {n : ℕ} → length (lines_of t) ≤ length b → length xs ≡ length (lines_of t) → Filled b xs b' n → Filled e (end_marks 0 (lines_of t)) e' n →
    Told t e' b' n
told-ids t {xs} {b} {b'} {e} h l f g =
    record { count = f.place ∙ l; behind = drop (length (end_marks 0 (lines_of t))) e; marks = g.holds; long = let z = filled-length f (omega arith) in omega arith }

pub told-long : {t es bs : List ℕ} {n : ℕ} → Told t es bs n → (n ≤ length es) × (n ≤ length bs)
told-long {t} {es} {bs} {n} h =
    let a = ap length h.marks in
    let b = length-append (end_marks 0 (lines_of t)) h.behind in
    let c = h.count in
    let d = h.long in
    (omega (arith, a, b, c, marks-length 0 (lines_of t)), omega arith)

-- what is known of a text whose tables are told
module _ {t es bs : List ℕ} {n : ℕ} (h : Told t es bs n) where
  abbrev pub all : List LineRec
  all = records_of (lines_of t) bs

  pub all-count : length all ≡ n
  all-count = records-count (lines_of t) bs h.long ∙ sym h.count

  record-below : (k : ℕ) → k < n → get_or all k no_rec ≡ rec_by (start_at 0 all k) (region_at 0 all k) (get_or es k 0) (get_or bs k 0)
  unfolding records_of
  record-below k l =
      entry_at (lines_of t) bs h.behind 0 0 k h.long (let c = h.count in omega arith)
      ∙ ap (λ (xs : List ℕ). rec_at (start_at 0 all k) (get_or xs k 0 / 2) (region_at 0 all k + get_or xs k 0 % 2) (get_or bs k 0)) (sym h.marks)

  -- the m records from the k-th on
  by-at : (m k d i c : ℕ) → k + m ≤ n → d < m → i ≡ start_at 0 all k → c ≡ region_at 0 all k → get_or (records_by es bs m k i c) d no_rec ≡ get_or all (k + d) no_rec
  unfolding records_by start_at region_at
  by-at zero k d i c p q e f = absurd (omega (arith, q))
  by-at (suc m) k zero i c p q e f =
      ap (λ (x : ℕ). rec_by x c (get_or es k 0) (get_or bs k 0)) e ∙ ap (λ (x : ℕ). rec_by (start_at 0 all k) x (get_or es k 0) (get_or bs k 0)) f
      ∙ sym (record-below k (omega (arith, p))) ∙ ap (λ (x : ℕ). get_or all x no_rec) (let z : k ≡ k + 0 = omega arith in z)
  by-at (suc m) k (suc d) i c p q e f =
      let r = record-below k (omega (arith, p)) in
      by-at m (suc k) d (get_or es k 0 / 2 + 1) (c + get_or es k 0 % 2) (omega (arith, p)) (omega (arith, q))
      (add-one (get_or es k 0 / 2) ∙ ap (λ (x : LineRec). suc x.end) (sym r))
      (ap (λ (x : ℕ). x + get_or es k 0 % 2) f ∙ ap (λ (x : LineRec). x.region.0) (sym r))
      ∙ ap (λ (x : ℕ). get_or all x no_rec) (let z : suc k + d ≡ k + suc d = omega arith in z)

  region-low : (k : ℕ) → k ≤ n → region_at 0 all k ≤ k
  unfolding region_at
  region-low zero l = omega arith
  region-low (suc k) l =
      let p = ap (λ (r : LineRec). r.region.0) (record-below k (omega (arith, l))) in
      let q = region-low k (omega (arith, l)) in
      omega (arith, p, q)

  start-low : (k : ℕ) → k ≤ n → ((i : ℕ) → get_or es i 0 < 2 ^ 64) → start_at 0 all k ≤ 2 ^ 63
  unfolding start_at
  start-low zero l g = omega arith
  start-low (suc k) l g = let p = ap (λ (r : LineRec). r.end) (record-below k (omega (arith, l))) in omega (arith, p, g k)

-- ---- going down the lines by a window

-- the window d ends above the line past, and has the records of rs there
pub record Shows (rs d : List LineRec) (past : ℕ) : Type 0 where
  pub front : (x : ℕ) → x < past → past ≤ x + length d → x < length rs → get_or d (x + length d - past) no_rec ≡ get_or rs x no_rec

-- a window that is still to be filled
pub shows-start : (rs d : List LineRec) → Shows rs d 0
shows-start rs d = record { front = λ x p q r. absurd (omega (arith, p)) }

last-is : {rs d : List LineRec} (p : ℕ) → Shows rs d (suc p) → 0 < length d → p < length rs → last_record d ≡ get_or rs p no_rec
last-is {rs} {d} p h w l = ap (λ (x : ℕ). get_or d x no_rec) (let z : length d - 1 ≡ p + length d - suc p = omega (arith, w) in z) ∙ h.front p (omega arith) (omega (arith, w)) l

last-start : {rs d : List LineRec} (p : ℕ) → Shows rs d p → 0 < length d → p ≤ length rs → start_below p (last_record d) ≡ start_at 0 rs p
unfolding start_at
last-start zero h w l = refl
last-start {rs} {d} (suc p) h w l =
    ap (λ (b : Bool). cond b 0 ((last_record d).end + 1)) (ne_eqb (suc p) 0 (λ e. omega (arith, e))) ∙ add-one (last_record d).end ∙ ap (λ (r : LineRec). suc r.end) (last-is p h w (omega (arith, l)))

last-region : {rs d : List LineRec} (p : ℕ) → Shows rs d p → 0 < length d → p ≤ length rs → region_below p (last_record d) ≡ region_at 0 rs p
unfolding region_at
last-region zero h w l = refl
last-region {rs} {d} (suc p) h w l = ap (λ (b : Bool). cond b 0 (last_record d).region.0) (ne_eqb (suc p) 0 (λ e. omega (arith, e))) ∙ ap (λ (r : LineRec). r.region.0) (last-is p h w (omega (arith, l)))

front_at : (xs ys : List LineRec) (i : ℕ) → i < length xs → get_or (xs ++ ys) i no_rec ≡ get_or xs i no_rec
front_at [] ys i l = absurd (omega (arith, l))
front_at (x ∷ xs) ys zero l = refl
front_at (x ∷ xs) ys (suc i) l = front_at xs ys i (omega (arith, l))

module _ {t es bs : List ℕ} {n : ℕ} (h : Told t es bs n) {d : List LineRec} {past : ℕ} (s : Shows (records_of (lines_of t) bs) d past) (w : 0 < length d) where
  -- what `refill` asks for
  pub shows-asks : past ≤ n → ((i : ℕ) → get_or es i 0 < 2 ^ 64) → Above past (last_record d)
  shows-asks l g =
      let c = all-count h in (
        omega (arith, last-start past s w (omega (arith, l, c)), start-low h past l g),
        omega (arith, last-region past s w (omega (arith, l, c)), region-low h past l),
      )

  filled : (i : ℕ) → past ≤ n → i < length d → past + i < length (records_of (lines_of t) bs) → get_or (window_at es bs n past d) i no_rec ≡ get_or (records_of (lines_of t) bs) (past + i) no_rec
  unfolding window_at
  filled i l p q =
      let m : ℕ = min (length d) (n - past) in
      let x : ℕ = start_below past (last_record d) in
      let y : ℕ = region_below past (last_record d) in
      let c = all-count h in
      let z = by_length es bs m past x y in
      front_at (records_by es bs m past x y) (drop m d) i (omega (arith, z, p, q, c))
      ∙ by-at h m past i x y (omega (arith, l)) (omega (arith, p, q, c)) (last-start past s w (omega (arith, l, c))) (last-region past s w (omega (arith, l, c)))

  window-length : length (window_at es bs n past d) ≡ length d
  unfolding window_at
  window-length =
      let m : ℕ = min (length d) (n - past) in
      let z = by_length es bs m past (start_below past (last_record d)) (region_below past (last_record d)) in
      omega (arith, length-append (records_by es bs m past (start_below past (last_record d)) (region_below past (last_record d))) (drop m d), length-drop m d, z)

  -- and what it leaves: the window has the k-th line
  pub record Has (k past' : ℕ) (d' : List LineRec) : Type 0 where
    pub same : length d' ≡ length d
    pub below : k < past'
    pub above : past' ≤ k + length d'
    pub shows : Shows (records_of (lines_of t) bs) d' past'

  pub shows-filled : {k past' : ℕ} {d' : List LineRec} → k < n → k ≤ past → past ≤ k + length d → past' ≡ cond (ltb k past) past (past + length d) → d' ≡ cond (ltb k past) d (window_at es bs n past d) → Has k past' d'
  shows-filled {k} {past'} {d'} l low high e f = go (ltb k past) refl
    where
      to : (x : ℕ) (y : List LineRec) → past' ≡ x → d' ≡ y → Has k x y → Has k past' d'
      to x y p q g = subst (λ (v : ℕ). Has k v d') (sym p) (subst (λ (v : List LineRec). Has k x v) (sym q) g)

      go : (b : Bool) → ltb k past ≡ b → Has k past' d'
      go true z =
          to past d (e ∙ ap (λ (b : Bool). cond b past (past + length d)) z) (f ∙ ap (λ (b : Bool). cond b d (window_at es bs n past d)) z)
          (record { same = refl; below = ltb-true k past z; above = high; shows = s })
      go false z =
          let u : past ≤ k = ltb-false k past z in
          to (past + length d) (window_at es bs n past d) (e ∙ ap (λ (b : Bool). cond b past (past + length d)) z) (f ∙ ap (λ (b : Bool). cond b d (window_at es bs n past d)) z)
          (record {
            same = window-length;
            below = omega (arith, low, w);
            above = omega (arith, u, window-length);
            shows = record {
              front = λ x p q r.
                  ap (λ (v : ℕ). get_or (window_at es bs n past d) v no_rec) (let v : x + length (window_at es bs n past d) - (past + length d) ≡ x - past = omega (arith, window-length) in v)
                  ∙ filled (x - past) (omega (arith, u, l)) (omega (arith, p, w)) (omega (arith, p, q, r, window-length))
                  ∙ ap (λ (v : ℕ). get_or (records_of (lines_of t) bs) v no_rec) (let v : past + (x - past) ≡ x = omega (arith, q, window-length) in v);
            };
          })
