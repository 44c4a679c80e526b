-- Regions by number, as in the Rust, and as runs of lines. Assumes nothing.
use Prim.Native.Nat.{ℕ, zero, suc, ◌+◌, ◌-◌, ◌^◌, ◌≤◌, ◌<◌}
use mathlib.Core.Path.{◌≡◌, refl, sym, ap, ◌∙◌}
use mathlib.Core.Bool.{Bool, true, false, cond, not, ◌&&◌}
use mathlib.Core.List.{List, [], ◌∷◌, ◌++◌, append_assoc}
use native.Mathlib.Omega.{arith}
use borrow.Author.Tests.{eq-eqb, ne_eqb, lt-ltb, le-ltb}
use lib.Dec.{eqb}
use lib.ListN.{length, get_or, take, drop, length-append, get_or-append}
use lib.Seq.{get_or-append-add}
use Rattle.lines.proofs.Tests.{and-true, no}
use Rattle.place.specs.Region.{is_header, until_header, region, region_at}
use Rattle.place.specs.Inner.Region.{headed, regions_go, regions, region_next}

-- ---- one line

-- by whether it is a header
regions-cons : (l : List ℕ) (ls : List (List ℕ)) (c : ℕ) (b : Bool) → is_header l ≡ b → regions_go (l ∷ ls) c ≡ cond b (suc c) c ∷ regions_go ls (cond b (suc c) c)
unfolding regions_go
regions-cons l ls c b e = rw e

-- as many numbers as lines
pub length-regions : (ls : List (List ℕ)) (c : ℕ) → length (regions_go ls c) ≡ length ls
unfolding regions_go
length-regions [] c = refl
length-regions (l ∷ ls) c = ap suc (length-regions ls (cond (is_header l) (suc c) c))

-- the number of a line, given that of the line above, where it is not the largest
pub next-region : (c : ℕ) (l : List ℕ) → c < 2 ^ 64 - 1 → region_next c l ≡ cond (is_header l) (suc c) c
unfolding region_next
next-region c l h = rw (lt-ltb c (2 ^ 64 - 1) h, and-true (is_header l))

-- each way through `next_region`
module _ (c : ℕ) (l : List ℕ) where
  pub next-same : is_header l ≡ false → c ≡ region_next c l
  unfolding region_next
  next-same e = rw e

  pub next-new : is_header l ≡ true → c < 2 ^ 64 - 1 → c + 1 ≡ region_next c l
  unfolding region_next
  next-new e h = rw (e, lt-ltb c (2 ^ 64 - 1) h) (omega arith)

  pub next-most : is_header l ≡ true → 2 ^ 64 - 1 ≤ c → c ≡ region_next c l
  unfolding region_next
  next-most e h = rw (e, le-ltb c (2 ^ 64 - 1) h)

-- ---- lines that are cut

-- the number of the last line, c where there is none
unfoldable pub region_below : List (List ℕ) → ℕ → ℕ
region_below [] c = c
region_below (l ∷ ls) c = region_below ls (cond (is_header l) (suc c) c)

-- each number raised
unfoldable pub raised : ℕ → List ℕ → List ℕ
raised d [] = []
raised d (x ∷ xs) = (x + d) ∷ raised d xs

regions-append : (u t : List (List ℕ)) (c : ℕ) → regions_go (u ++ t) c ≡ regions_go u c ++ regions_go t (region_below u c)
unfolding regions_go region_below
regions-append [] t c = refl
regions-append (l ∷ u) t c = ap (λ (r : List ℕ). cond (is_header l) (suc c) c ∷ r) (regions-append u t (cond (is_header l) (suc c) c))

regions-raised : (t : List (List ℕ)) (c d : ℕ) → regions_go t (c + d) ≡ raised d (regions_go t c)
unfolding regions_go raised
regions-raised [] c d = refl
regions-raised (l ∷ t) c d =
    let q : cond (is_header l) (suc (c + d)) (c + d) ≡ cond (is_header l) (suc c) c + d = go (is_header l) in
    ap (λ (n : ℕ). n ∷ regions_go t n) q ∙ ap (λ (r : List ℕ). (cond (is_header l) (suc c) c + d) ∷ r) (regions-raised t (cond (is_header l) (suc c) c) d)
  where
    go : (b : Bool) → cond b (suc (c + d)) (c + d) ≡ cond b (suc c) c + d
    go true = omega arith
    go false = refl

-- the numbers of the tail are those of the tail alone, raised by one number
pub regions-cut : (u t : List (List ℕ)) → regions (u ++ t) ≡ regions u ++ raised (region_below u 0) (regions t)
unfolding regions
regions-cut u t =
    let z : region_below u 0 ≡ 0 + region_below u 0 = omega arith in
    regions-append u t 0 ∙ ap (λ (r : List ℕ). regions_go u 0 ++ r) (ap (regions_go t) z ∙ regions-raised t 0 (region_below u 0))

-- ---- which lines have one number

-- numbers do not fall
grow : (ls : List (List ℕ)) (c k : ℕ) → k < length ls → c ≤ get_or (regions_go ls c) k 0
unfolding regions_go
grow [] c k h = absurd (omega arith)
grow (l ∷ ls) c k h = go (is_header l) k h (λ d j p. grow ls d j p)
  where
    go : (b : Bool) (k : ℕ) → k < suc (length ls) → ((d j : ℕ) → j < length ls → d ≤ get_or (regions_go ls d) j 0) → c ≤ get_or (cond b (suc c) c ∷ regions_go ls (cond b (suc c) c)) k 0
    go true zero p f = omega arith
    go true (suc k) p f = let r = f (suc c) k (omega arith) in omega arith
    go false zero p f = omega arith
    go false (suc k) p f = f c k (omega arith)

-- no line is a header
unfoldable pub no_header : List (List ℕ) → Bool
no_header [] = true
no_header (l ∷ ls) = not (is_header l) && no_header ls

from-by : (l : List ℕ) (ls : List (List ℕ)) (c k : ℕ) (b : Bool) → is_header l ≡ b → k < suc (length ls) →
    ((j : ℕ) → j < length ls → eqb c (get_or (regions_go ls c) j 0) ≡ no_header (take (suc j) ls)) → eqb c (get_or (regions_go (l ∷ ls) c) k 0) ≡ no_header (take (suc k) (l ∷ ls))
unfolding no_header
from-by l ls c zero true e h f = rw (regions-cons l ls c true e, e) (ne_eqb c (suc c) (λ z. omega arith))
from-by l ls c (suc k) true e h f = rw (regions-cons l ls c true e, e) (let g = grow ls (suc c) k (omega arith) in ne_eqb c (get_or (regions_go ls (suc c)) k 0) (λ z. omega arith))
from-by l ls c zero false e h f = rw (regions-cons l ls c false e, e) (eq-eqb c c refl)
from-by l ls c (suc k) false e h f = rw (regions-cons l ls c false e, e) (f k (omega arith))

from-here : (ls : List (List ℕ)) (c k : ℕ) → k < length ls → eqb c (get_or (regions_go ls c) k 0) ≡ no_header (take (suc k) ls)
from-here [] c k h = absurd (omega arith)
from-here (l ∷ ls) c k h = from-by l ls c k (is_header l) refl h (λ j p. from-here ls c j p)

same-go : (ls : List (List ℕ)) (c i k : ℕ) → i + k < length ls → eqb (get_or (regions_go ls c) i 0) (get_or (regions_go ls c) (i + k) 0) ≡ no_header (take k (drop (suc i) ls))
unfolding regions_go no_header
same-go [] c i k h = absurd (omega arith)
same-go (l ∷ ls) c zero zero h = eq-eqb (cond (is_header l) (suc c) c) (cond (is_header l) (suc c) c) refl
same-go (l ∷ ls) c zero (suc k) h =
    let z : 0 + suc k ≡ suc k = omega arith in
    rw z (from-here ls (cond (is_header l) (suc c) c) k (omega arith))
same-go (l ∷ ls) c (suc i) k h =
    let z : suc i + k ≡ suc (i + k) = omega arith in
    rw z (same-go ls (cond (is_header l) (suc c) c) i k (omega arith))

-- the line i and the k-th below it have one number exactly if no header stands after the one up to the other
pub same-region : (ls : List (List ℕ)) (i k : ℕ) → i + k < length ls → eqb (get_or (regions ls) i 0) (get_or (regions ls) (i + k) 0) ≡ no_header (take k (drop (suc i) ls))
unfolding regions
same-region ls i k h = same-go ls 0 i k h

-- no number of lines is past the last, and one header is enough to be past those above
below_by : (u : List (List ℕ)) (c i : ℕ) → i < length u → get_or (regions_go u c) i 0 ≤ region_below u c
unfolding regions_go region_below
below_by [] c i h = absurd (omega arith)
below_by (l ∷ u) c zero h = up u (cond (is_header l) (suc c) c)
  where
    step : (b : Bool) (d : ℕ) → d ≤ cond b (suc d) d
    step true d = omega arith
    step false d = omega arith

    up : (v : List (List ℕ)) (d : ℕ) → d ≤ region_below v d
    up [] d = omega arith
    up (m ∷ v) d = let a = step (is_header m) d in let b = up v (cond (is_header m) (suc d) d) in omega arith
below_by (l ∷ u) c (suc i) h = below_by u (cond (is_header l) (suc c) c) i (omega arith)

tail-above : (t : List (List ℕ)) (c j : ℕ) → headed t ≡ true → j < length t → c < get_or (regions_go t c) j 0
unfolding headed
tail-above [] c j e h = no e
tail-above (l ∷ t) c zero e h = rw (regions-cons l t c true e) (omega arith)
tail-above (l ∷ t) c (suc j) e h = rw (regions-cons l t c true e) (let g = grow t (suc c) j (omega arith) in omega arith)

-- a tail that a header leads shares no number with the lines above it
pub cut_apart : (u t : List (List ℕ)) (i j : ℕ) → headed t ≡ true → i < length u → j < length t →
    eqb (get_or (regions (u ++ t)) i 0) (get_or (regions (u ++ t)) (length u + j) 0) ≡ false
unfolding regions
cut_apart u t i j e p q =
    let a : get_or (regions_go (u ++ t) 0) i 0 ≡ get_or (regions_go u 0) i 0 =
    ap (λ (r : List ℕ). get_or r i 0) (regions-append u t 0) ∙ get_or-append (regions_go u 0) (regions_go t (region_below u 0)) 0 i (omega (arith, length-regions u 0)) in
    let b : get_or (regions_go (u ++ t) 0) (length u + j) 0 ≡ get_or (regions_go t (region_below u 0)) j 0 =
    ap (λ (r : List ℕ). get_or r (length u + j) 0) (regions-append u t 0)
    ∙ ap (λ (n : ℕ). get_or (regions_go u 0 ++ regions_go t (region_below u 0)) (n + j) 0) (sym (length-regions u 0))
    ∙ get_or-append-add (regions_go u 0) (regions_go t (region_below u 0)) j 0 in
    let x = below_by u 0 i p in
    let y = tail-above t (region_below u 0) j e q in
    ne_eqb (get_or (regions_go (u ++ t) 0) i 0) (get_or (regions_go (u ++ t) 0) (length u + j) 0) (λ z. omega arith)

-- ---- the lines with the number of a line are its run

-- the lines of number q
unfoldable pub lines_in : ℕ → List ℕ → List (List ℕ) → List (List ℕ)
lines_in q [] ls = []
lines_in q (g ∷ gs) [] = []
lines_in q (g ∷ gs) (l ∷ ls) = cond (eqb g q) (l ∷ []) [] ++ lines_in q gs ls

-- of each number the lines
unfoldable pub runs_by : List ℕ → List ℕ → List (List ℕ) → List (List (List ℕ))
runs_by [] G L = []
runs_by (g ∷ gs) G L = lines_in g G L ∷ runs_by gs G L

-- the run of each line; `run` is that of the line above
unfoldable pub runs_go : List (List ℕ) → List (List ℕ) → List (List (List ℕ))
runs_go [] run = []
runs_go (l ∷ ls) run = region_at l ls run ∷ runs_go ls (region_at l ls run)

unfoldable pub runs : List (List ℕ) → List (List (List ℕ))
runs ls = runs_go ls (region ls)

-- the lines of a number, part by part
in-nil : (q : ℕ) → lines_in q [] [] ≡ []
unfolding lines_in
in-nil q = refl

in-append : (q : ℕ) (gs : List ℕ) (ls : List (List ℕ)) (hs : List ℕ) (ms : List (List ℕ)) → length gs ≡ length ls → lines_in q (gs ++ hs) (ls ++ ms) ≡ lines_in q gs ls ++ lines_in q hs ms
unfolding lines_in
in-append q [] [] hs ms e = refl
in-append q [] (l ∷ ls) hs ms e = absurd (omega arith)
in-append q (g ∷ gs) [] hs ms e = absurd (omega arith)
in-append q (g ∷ gs) (l ∷ ls) hs ms e =
    ap (λ (r : List (List ℕ)). cond (eqb g q) (l ∷ []) [] ++ r) (in-append q gs ls hs ms (omega arith)) ∙ sym (append_assoc (cond (eqb g q) (l ∷ []) []) (lines_in q gs ls) (lines_in q hs ms))

in-same : (q g : ℕ) (gs : List ℕ) (l : List ℕ) (ls : List (List ℕ)) → g ≡ q → lines_in q (g ∷ gs) (l ∷ ls) ≡ l ∷ lines_in q gs ls
unfolding lines_in
in-same q g gs l ls e = rw (eq-eqb g q e)

in-other : (q g : ℕ) (gs : List ℕ) (l : List ℕ) (ls : List (List ℕ)) → (g ≡ q → ⊥) → lines_in q (g ∷ gs) (l ∷ ls) ≡ lines_in q gs ls
unfolding lines_in
in-other q g gs l ls e = rw (ne_eqb g q e)

regions-nil : (c : ℕ) → regions_go [] c ≡ []
unfolding regions_go
regions-nil c = refl

-- below a line none has a smaller number
above-by : (q c : ℕ) (l : List ℕ) (ls : List (List ℕ)) (b : Bool) → is_header l ≡ b → q < c → ((d : ℕ) → q < d → lines_in q (regions_go ls d) ls ≡ []) → lines_in q (regions_go (l ∷ ls) c) (l ∷ ls) ≡ []
above-by q c l ls true e h f = ap (λ (gs : List ℕ). lines_in q gs (l ∷ ls)) (regions-cons l ls c true e) ∙ in-other q (suc c) (regions_go ls (suc c)) l ls (λ z. omega arith) ∙ f (suc c) (omega arith)
above-by q c l ls false e h f = ap (λ (gs : List ℕ). lines_in q gs (l ∷ ls)) (regions-cons l ls c false e) ∙ in-other q c (regions_go ls c) l ls (λ z. omega arith) ∙ f c h

in-above : (ls : List (List ℕ)) (q c : ℕ) → q < c → lines_in q (regions_go ls c) ls ≡ []
in-above [] q c h = ap (λ (gs : List ℕ). lines_in q gs []) (regions-nil c) ∙ in-nil q
in-above (l ∷ ls) q c h = above-by q c l ls (is_header l) refl h (λ d. in-above ls q d)

until-by : (l : List ℕ) (ls : List (List ℕ)) (b : Bool) → is_header l ≡ b → until_header (l ∷ ls) ≡ cond b [] (l ∷ until_header ls)
unfolding until_header
until-by l ls b e = rw e

present-by : (c : ℕ) (l : List ℕ) (ls : List (List ℕ)) (b : Bool) → is_header l ≡ b → lines_in c (regions_go ls c) ls ≡ until_header ls → lines_in c (regions_go (l ∷ ls) c) (l ∷ ls) ≡ until_header (l ∷ ls)
present-by c l ls true e ih = ap (λ (gs : List ℕ). lines_in c gs (l ∷ ls)) (regions-cons l ls c true e) ∙ in-other c (suc c) (regions_go ls (suc c)) l ls (λ z. omega arith) ∙ in-above ls c (suc c) (omega arith) ∙ sym (until-by l ls true e)
present-by c l ls false e ih = ap (λ (gs : List ℕ). lines_in c gs (l ∷ ls)) (regions-cons l ls c false e) ∙ in-same c c (regions_go ls c) l ls refl ∙ ap (λ (r : List (List ℕ)). l ∷ r) ih ∙ sym (until-by l ls false e)

-- the lines to come that have the present number are those above the next header
pub in-present : (ls : List (List ℕ)) (c : ℕ) → lines_in c (regions_go ls c) ls ≡ until_header ls
unfolding regions_go lines_in until_header
in-present [] c = refl
in-present (l ∷ ls) c = present-by c l ls (is_header l) refl (in-present ls c)

at-by : (l : List ℕ) (ls run : List (List ℕ)) (b : Bool) → is_header l ≡ b → region_at l ls run ≡ cond b (l ∷ until_header ls) run
unfolding region_at
at-by l ls run b e = rw e

-- ps and us: the numbers and the lines above, none of them with a number past c
module _ (ps : List ℕ) (us : List (List ℕ)) (n : length ps ≡ length us) where
  bridge-run : (c : ℕ) (l : List ℕ) (ls run : List (List ℕ)) (b : Bool) → is_header l ≡ b →
      ((q : ℕ) → c < q → lines_in q ps us ≡ []) → run ≡ lines_in c ps us ++ until_header (l ∷ ls) → region_at l ls run ≡ lines_in (cond b (suc c) c) ps us ++ l ∷ until_header ls
  bridge-run c l ls run true e f r = at-by l ls run true e ∙ ap (λ (x : List (List ℕ)). x ++ l ∷ until_header ls) (sym (f (suc c) (omega arith)))
  bridge-run c l ls run false e f r = at-by l ls run false e ∙ r ∙ ap (λ (x : List (List ℕ)). lines_in c ps us ++ x) (until-by l ls false e)

  head-run : (d : ℕ) (l : List ℕ) (ls : List (List ℕ)) → lines_in d (ps ++ d ∷ regions_go ls d) (us ++ l ∷ ls) ≡ lines_in d ps us ++ l ∷ until_header ls
  head-run d l ls = in-append d ps us (d ∷ regions_go ls d) (l ∷ ls) n ∙ ap (λ (x : List (List ℕ)). lines_in d ps us ++ x) (in-same d d (regions_go ls d) l ls refl ∙ ap (λ (x : List (List ℕ)). l ∷ x) (in-present ls d))

  snoc-run : (d : ℕ) (l : List ℕ) (ls : List (List ℕ)) → lines_in d ps us ++ l ∷ until_header ls ≡ lines_in d (ps ++ d ∷ []) (us ++ l ∷ []) ++ until_header ls
  snoc-run d l ls =
      sym (append_assoc (lines_in d ps us) (l ∷ []) (until_header ls))
      ∙ ap (λ (x : List (List ℕ)). x ++ until_header ls) (sym (in-append d ps us (d ∷ []) (l ∷ []) n ∙ ap (λ (x : List (List ℕ)). lines_in d ps us ++ x) (in-same d d [] l [] refl ∙ ap (λ (x : List (List ℕ)). l ∷ x) (in-nil d))))

  snoc-none : (d : ℕ) (l : List ℕ) → ((q : ℕ) → d < q → lines_in q ps us ≡ []) → (q : ℕ) → d < q → lines_in q (ps ++ d ∷ []) (us ++ l ∷ []) ≡ []
  snoc-none d l f q h = in-append q ps us (d ∷ []) (l ∷ []) n ∙ ap (λ (x : List (List ℕ)). x ++ lines_in q (d ∷ []) (l ∷ [])) (f q h) ∙ in-other q d [] l [] (λ z. omega arith) ∙ in-nil q

bump-none : (ps : List ℕ) (us : List (List ℕ)) (c : ℕ) (b : Bool) → ((q : ℕ) → c < q → lines_in q ps us ≡ []) → (q : ℕ) → cond b (suc c) c < q → lines_in q ps us ≡ []
bump-none ps us c true f q h = f q (omega arith)
bump-none ps us c false f q h = f q h

bridge-by : (ps : List ℕ) (us : List (List ℕ)) (c : ℕ) (l : List ℕ) (ls run : List (List ℕ)) (b : Bool) → is_header l ≡ b → length ps ≡ length us →
    ((q : ℕ) → c < q → lines_in q ps us ≡ []) → run ≡ lines_in c ps us ++ until_header (l ∷ ls) →
    ((ps₂ : List ℕ) (us₂ : List (List ℕ)) (d : ℕ) (run₂ : List (List ℕ)) → length ps₂ ≡ length us₂ → ((q : ℕ) → d < q → lines_in q ps₂ us₂ ≡ []) → run₂ ≡ lines_in d ps₂ us₂ ++ until_header ls →
    runs_by (regions_go ls d) (ps₂ ++ regions_go ls d) (us₂ ++ ls) ≡ runs_go ls run₂) →
    runs_by (regions_go (l ∷ ls) c) (ps ++ regions_go (l ∷ ls) c) (us ++ l ∷ ls) ≡ runs_go (l ∷ ls) run
unfolding runs_by runs_go
bridge-by ps us c l ls run b e n f r ih =
    let d : ℕ = cond b (suc c) c in
    let gs : List ℕ = regions_go ls (cond b (suc c) c) in
    let k = bridge-run ps us n c l ls run b e f r in
    ap (λ (hs : List ℕ). runs_by hs (ps ++ hs) (us ++ l ∷ ls)) (regions-cons l ls c b e)
    ∙ ap (λ (x : List (List ℕ)). x ∷ runs_by gs (ps ++ d ∷ gs) (us ++ l ∷ ls)) (head-run ps us n d l ls ∙ sym k)
    ∙ ap (λ (x : List (List (List ℕ))). region_at l ls run ∷ x)
    (ap (λ (x : List ℕ). runs_by gs x (us ++ l ∷ ls)) (sym (append_assoc ps (d ∷ []) gs))
    ∙ ap (λ (x : List (List ℕ)). runs_by gs ((ps ++ d ∷ []) ++ gs) x) (sym (append_assoc us (l ∷ []) ls))
    ∙ ih (ps ++ d ∷ []) (us ++ l ∷ []) d (region_at l ls run) (simp length-append (omega arith)) (snoc-none ps us n d l (bump-none ps us c b f)) (k ∙ snoc-run ps us n d l ls))

bridge : (ls : List (List ℕ)) (ps : List ℕ) (us : List (List ℕ)) (c : ℕ) (run : List (List ℕ)) → length ps ≡ length us → ((q : ℕ) → c < q → lines_in q ps us ≡ []) → run ≡ lines_in c ps us ++ until_header ls →
    runs_by (regions_go ls c) (ps ++ regions_go ls c) (us ++ ls) ≡ runs_go ls run
unfolding regions_go runs_by runs_go
bridge [] ps us c run n f r = refl
bridge (l ∷ ls) ps us c run n f r = bridge-by ps us c l ls run (is_header l) refl n f r (λ ps₂ us₂ d run₂. bridge ls ps₂ us₂ d run₂)

-- at the top the first region is what stands above the first header, and a header looks at none
at_top : (l : List ℕ) (ls : List (List ℕ)) (b : Bool) → is_header l ≡ b → region_at l ls (until_header (l ∷ ls)) ≡ region_at l ls (l ∷ until_header ls)
at_top l ls true e = at-by l ls (until_header (l ∷ ls)) true e ∙ sym (at-by l ls (l ∷ until_header ls) true e)
at_top l ls false e = ap (λ (r : List (List ℕ)). region_at l ls r) (until-by l ls false e)

-- for each line, the lines that have its number are its run
pub by-numbers : (ls : List (List ℕ)) → runs_by (regions ls) (regions ls) ls ≡ runs ls
unfolding regions regions_go runs region runs_go runs_by
by-numbers [] = refl
by-numbers (l ∷ ls) =
    bridge (l ∷ ls) [] [] 0 (until_header (l ∷ ls)) refl (λ q h. in-nil q) (ap (λ (x : List (List ℕ)). x ++ until_header (l ∷ ls)) (sym (in-nil 0)))
    ∙ ap (λ (r : List (List ℕ)). r ∷ runs_go ls r) (at_top l ls (is_header l) refl)
