-- The loops over a stretch of lines that may all go. Assumes nothing.
use Prim.Native.Nat.{ℕ, zero, suc, ◌+◌, ◌-◌, ◌≤◌, ◌<◌, min}
use mathlib.Core.Path.{◌≡◌, refl, sym, ap, subst, ◌∙◌}
use mathlib.Core.Bool.{Bool, true, false, ◌&&◌, ◌||◌}
use mathlib.Core.List.{List, [], ◌∷◌, ◌++◌, append_assoc}
use native.Mathlib.Omega.{arith}
use native.Mathlib.Numerals.{add-one}
use lib.Dec.{ltb}
use lib.ListN.{length, take, drop, get_or, set, length-set, length-drop}
use lib.Seq.{length-take-le, get_or-set_other, get_or-drop, drop-set-lt, take-suc-set, drop_at}
use borrow.Author.Tests.{ltb-true, ltb-false}
use Rattle.lines.specs.Lf.{part, lines_of}
use Rattle.pruned.specs.Inner.Fit.{may_be_by, may_go_by}
use Rattle.pruned.specs.Inner.Walk.{is_on, bit, next_flag, move_go, moved_from, OffFrom, end_of, next_of, goes_at, Going, going-none, going_more, AllOn, Steady, Known}
use Rattle.pruned.proofs.WalkCode.{WalkAt, at_on, at-kept, at-jump, move-line, past_end, flag-yes}

-- ---- a stretch

pub record Goes (raw used : List ℕ) (n i j : ℕ) : Type 0 where
  pub inside : i < length raw
  pub first : goes_at raw used i ≡ true
  pub rest : Going raw used n (next_of raw i) j

goes_by : {raw used : List ℕ} {n i j : ℕ} → Going raw used (suc n) i j → Goes raw used n i j
goes_by (going_more n i j l g r) = record { inside = l; first = g; rest = r }

-- the first line of one that has any
pub goes_first : {raw used : List ℕ} {n i j : ℕ} (m : ℕ) → n ≡ suc m → Going raw used n i j → Goes raw used m i j
goes_first {raw} {used} {i = i} {j = j} m e g = goes_by (subst (λ (x : ℕ). Going raw used x i j) e g)

goes-none-by : {raw used : List ℕ} {i j : ℕ} → Going raw used 0 i j → i ≡ j
goes-none-by (going-none i) = refl

pub goes_none : {raw used : List ℕ} {n i j : ℕ} → n ≡ 0 → Going raw used n i j → i ≡ j
goes_none {raw} {used} {i = i} {j = j} e g = goes-none-by (subst (λ (x : ℕ). Going raw used x i j) e g)

-- one line more at its end
goes-more : {raw used : List ℕ} {n i j : ℕ} → Going raw used n i j → j < length raw → goes_at raw used j ≡ true → Going raw used (suc n) i (next_of raw j)
goes-more {raw} (going-none i) l h = going_more 0 i (next_of raw i) l h (going-none (next_of raw i))
goes-more {raw} (going_more n i j l g r) m h = going_more (suc n) i (next_of raw j) l g (goes-more r m h)

-- where it ends is inside
pub goes-in : {raw used : List ℕ} {n i j : ℕ} → Going raw used n i j → i ≤ length raw → j ≤ length raw
goes-in (going-none i) h = h
goes-in (going_more n i j l g r) h = goes-in r (omega arith)

-- ---- the loop of `seek`

pub record SeekInv (raw used p whole live₀ live : List ℕ) (stop to top k i : ℕ) : Type 0 where
  pub k≤ : k ≤ stop
  pub room : stop < length live
  pub long : length live ≡ length live₀
  pub at : WalkAt raw used p whole live true false (suc k) i
  pub going : Going raw used (stop - k) i to
  pub on : AllOn (suc k) stop live
  pub above : OffFrom top live

pub seek-start : (raw used p live : List ℕ) (lo at stop to top : ℕ) → lo ≤ stop → stop < length live → Going raw used (stop - lo) at to → AllOn (suc lo) stop live → at ≤ length raw → OffFrom top live →
    SeekInv raw used p (moved_from true false (suc lo) at live raw used p) live live stop to top lo at
seek-start raw used p live lo at stop to top a b g o l z = record { k≤ = a; room = b; long = refl; at = record { i≤ = l; so_far = refl }; going = g; on = o; above = z }

set-zero : (live : List ℕ) (k x : ℕ) → get_or live x 0 ≡ 0 → get_or (set live k 0) x 0 ≡ 0
set-zero [] k x h = h
set-zero (b ∷ bs) zero zero h = refl
set-zero (b ∷ bs) zero (suc x) h = h
set-zero (b ∷ bs) (suc k) zero h = h
set-zero (b ∷ bs) (suc k) (suc x) h = set-zero bs k x h

pub set-off : (live : List ℕ) (k top : ℕ) → OffFrom top live → OffFrom top (set live k 0)
set-off live k top h = λ x l. set-zero live k x (h x l)

pub all-behind : (live : List ℕ) (lo stop : ℕ) → AllOn lo stop live → AllOn (suc lo) stop (set live lo 0)
all-behind live lo stop o = λ x a b. get_or-set_other live lo x 0 0 (λ s. omega arith) ∙ o x (omega arith) b

or-one : {a : Bool} (b : Bool) → a ≡ true → true ≡ a || b
or-one b e = rw e

or-none : {a : Bool} → a ≡ false → false ≡ a || false
or-none e = rw e

module _ {raw used p whole live₀ live : List ℕ} {stop to top k i : ℕ} (h : SeekInv raw used p whole live₀ live stop to top k i) where
  module _ (l : k < stop) (e : ℕ) (q : e ≡ end_of raw i) (ms : List ℕ) (y : ms ≡ part i e used) (f : Bool) (z : f ≡ may_be_by (part i e raw) ms p) where
    here : Goes raw used (stop - suc k) i to
    here = goes_first (stop - suc k) (omega arith) h.going

    be-is : may_be_by (part i (end_of raw i) raw) (part i (end_of raw i) used) p ≡ f
    be-is = sym (z ∙ ap (λ (s : List ℕ). may_be_by (part i e raw) s p) y ∙ ap (λ (s : ℕ). may_be_by (part i s raw) (part i s used) p) q)

    pub seek_found : f ≡ true → WalkAt raw used p whole live true true (suc stop) to
    seek_found t =
        at-jump here.rest (suc k) stop (omega arith) h.room (λ x a b. h.on x (omega arith) b)
        (at-kept h.at here.inside (omega (arith, h.room)) (h.on (suc k) (omega arith) l) (or-one _ (be-is ∙ t)))

    pub seek-on : f ≡ false → (i' : ℕ) → i' ≡ min (e + 1) (length raw) → SeekInv raw used p whole live₀ (set live (k + 1) 0) stop to top (k + 1) i'
    seek-on t i' w =
        rw (w, q, add-one k)
        record {
          k≤ = l;
          room = omega (arith, h.room, length-set live (suc k) 0);
          long = length-set live (suc k) 0 ∙ h.long;
          at =
              subst (λ (x : ℕ). WalkAt raw used p whole (set live (suc k) 0) (is_on x) false (suc (suc k)) (next_of raw i)) (h.on (suc k) (omega arith) l)
              (at_on h.at here.inside (omega (arith, h.room)) false (or-none (be-is ∙ t)));
          going = here.rest;
          on = λ x a b. get_or-set_other live (suc k) x 0 0 (λ s. omega arith) ∙ h.on x (omega arith) b;
          above = set-off live (suc k) top h.above;
        }

  pub seek-end : stop ≤ k → WalkAt raw used p whole live true false (suc stop) to
  seek-end l =
      let s : k ≡ stop = omega (arith, h.k≤) in
      subst (λ (x : ℕ). WalkAt raw used p whole live true false (suc x) to) s
      (subst (λ (x : ℕ). WalkAt raw used p whole live true false (suc k) x) (goes_none (omega arith) h.going) h.at)

pub seek-done : {raw used p whole live live' : List ℕ} {f : Bool} {stop to r : ℕ} → WalkAt raw used p whole live true f (suc stop) to →
    (live' ≡ moved_from true f (stop + 1) to live raw used p) × OffFrom r live' → (live' ≡ whole) × OffFrom r live'
seek-done {raw} {used} {p} {whole} {live} {live'} {f} {stop} {to} h e = (e.0 ∙ ap (λ (x : ℕ). moved_from true f x to live raw used p) (add-one stop) ∙ h.so_far, e.1)

-- ---- the loop of `stretch`

pub record StretchInv (raw used live : List ℕ) (lo at k i : ℕ) : Type 0 where
  pub lo≤ : lo ≤ k
  pub room : k < length live
  pub i≤ : i ≤ length raw
  pub going : Going raw used (k - lo) at i
  pub on : AllOn lo k live

pub stretch-start : (raw used live : List ℕ) (lo at : ℕ) → lo < length live → get_or live lo 0 ≡ 1 → at ≤ length raw → StretchInv raw used live lo at lo at
stretch-start raw used live lo at l o a = record {
  lo≤ = omega arith;
  room = l;
  i≤ = a;
  going = let s : lo - lo ≡ 0 = omega arith in rw s (going-none at);
  on = λ x b c. let s : x ≡ lo = omega arith in rw s o;
}

steady-on : (live : List ℕ) (a n : ℕ) → get_or live a 0 ≡ 1 → Steady a (a + n) live → get_or live (a + n) 0 ≡ 1
steady-on live a zero o s = let z : a + 0 ≡ a = omega arith in rw z o
steady-on live a (suc n) o s =
    let z : a + suc n ≡ suc (a + n) = omega arith in
    rw z (s (a + n) (omega arith) (omega arith) (steady-on live a n o (λ x b c. s x b (omega arith))))

pub stretch-known : {raw used : List ℕ} (live : List ℕ) (lo stop : ℕ) {at to : ℕ} → get_or live lo 0 ≡ 1 → lo < stop → Known raw used lo at stop to live →
    ((lo ≤ stop) × (stop < length live)) × (Going raw used (stop - lo) at to × AllOn lo stop live)
stretch-known live lo stop o l k = ((omega arith, k.0), (k.1.0, λ x b c. go x b c))
  where
    go : (x : ℕ) → lo ≤ x → x ≤ stop → get_or live x 0 ≡ 1
    go x b c =
        let z : lo + (x - lo) ≡ x = omega arith in
        sym (ap (λ (y : ℕ). get_or live y 0) z) ∙ steady-on live lo (x - lo) o (λ y d f. k.1.1 y d (omega arith))

module _ {raw used live : List ℕ} {lo at k i : ℕ} (h : StretchInv raw used live lo at k i) where
  pub stretch-done : ((lo ≤ k) × (k < length live)) × (Going raw used (k - lo) at i × AllOn lo k live)
  stretch-done = ((h.lo≤, h.room), (h.going, h.on))

  pub stretch-on : i < length raw → (e : ℕ) → e ≡ end_of raw i → (ms : List ℕ) → ms ≡ part i e used → (f : Bool) → f ≡ may_go_by (part i e raw) ms → f ≡ true →
      (b : ℕ) → b ≡ get_or live (k + 1) 0 → b ≡ 1 → (i' : ℕ) → i' ≡ min (e + 1) (length raw) → StretchInv raw used live lo at (k + 1) i'
  stretch-on l e q ms y f z t b x o i' w =
      let g : goes_at raw used i ≡ true = sym (z ∙ ap (may_go_by (part i e raw)) y ∙ ap (λ (s : ℕ). may_go_by (part i s raw) (part i s used)) q) ∙ t in
      let n : k + 1 - lo ≡ suc (k - lo) = omega (arith, h.lo≤) in
      let j : get_or live (k + 1) 0 ≡ 1 = sym x ∙ o in
      record {
        lo≤ = omega (arith, h.lo≤);
        room = in-by (ltb (k + 1) (length live)) refl j;
        i≤ = omega arith;
        going = rw (w, q, n) (goes-more h.going l g);
        on = λ x a c. on-by x a c j (ltb x (k + 1)) refl;
      }
    where
      in-by : (s : Bool) → ltb (k + 1) (length live) ≡ s → get_or live (k + 1) 0 ≡ 1 → k + 1 < length live
      in-by true s j = ltb-true (k + 1) (length live) s
      in-by false s j = let a = ltb-false (k + 1) (length live) s in let z : ◌≡◌ {A = ℕ} 0 1 = sym (past_end live (k + 1) (omega arith)) ∙ j in absurd (omega arith)

      on-by : (x : ℕ) → lo ≤ x → x ≤ k + 1 → get_or live (k + 1) 0 ≡ 1 → (s : Bool) → ltb x (k + 1) ≡ s → get_or live x 0 ≡ 1
      on-by x a c j true s = let d = ltb-true x (k + 1) s in h.on x a (omega arith)
      on-by x a c j false s = let d = ltb-false x (k + 1) s in let z : x ≡ k + 1 = omega arith in rw z j

-- ---- one step: the flags from the lowest place on

bit-one : (t : Bool) → bit t ≡ 1 → t ≡ true
bit-one true k = refl
bit-one false k = let z : ◌≡◌ {A = ℕ} 0 1 = k in absurd (omega arith)

steady-go : {raw used : List ℕ} {n i j : ℕ} → Going raw used n i j → (p : List ℕ) (was up : Bool) (u : ℕ) (bs : List ℕ) (x : ℕ) → x < n → x < length bs → (u ≡ 1 → up ≡ true) →
    get_or (u ∷ move_go was up bs (lines_of (drop i raw)) (drop i used) p) x 0 ≡ 1 → get_or (move_go was up bs (lines_of (drop i raw)) (drop i used) p) x 0 ≡ 1
steady-go (going-none i) p was up u bs x l m f o = absurd (omega arith)
steady-go (going_more n i j a g r) p was up u [] x l m f o = absurd (omega arith)
steady-go {raw} {used} (going_more n i j a g r) p was up u (b ∷ bs) x l m f o =
    go (next_flag was up (part i (end_of raw i) raw) (part i (end_of raw i) used) p) refl x l m o (λ t y c d e. steady-go r p (is_on b) t (bit t) bs y c d (bit-one t) e)
  where
    go : (t : Bool) → t ≡ next_flag was up (part i (end_of raw i) raw) (part i (end_of raw i) used) p → (x : ℕ) → x < suc n → x < suc (length bs) →
        get_or (u ∷ move_go was up (b ∷ bs) (lines_of (drop i raw)) (drop i used) p) x 0 ≡ 1 →
        ((t : Bool) (y : ℕ) → y < n → y < length bs → get_or (bit t ∷ move_go (is_on b) t bs (lines_of (drop (next_of raw i) raw)) (drop (next_of raw i) used) p) y 0 ≡ 1 →
        get_or (move_go (is_on b) t bs (lines_of (drop (next_of raw i) raw)) (drop (next_of raw i) used) p) y 0 ≡ 1) →
        get_or (move_go was up (b ∷ bs) (lines_of (drop i raw)) (drop i used) p) x 0 ≡ 1
    go t e zero l m o ih =
        let v : true ≡ next_flag was up (part i (end_of raw i) raw) (part i (end_of raw i) used) p =
        rw (f o) (flag-yes (was && may_be_by (part i (end_of raw i) raw) (part i (end_of raw i) used) p) _ g) in
        ap (λ (s : List ℕ). get_or s 0 0) (move-line raw used p was up b bs i a true v)
    go t e (suc x) l m o ih =
        let s = move-line raw used p was up b bs i a t e in
        ap (λ (y : List ℕ). get_or y (suc x) 0) s ∙ ih t x (omega arith) (omega arith) (sym (ap (λ (y : List ℕ). get_or y x 0) s) ∙ o)

-- what a step leaves, and what is known of the stretch then
pub step-leaves : {raw used : List ℕ} (p live : List ℕ) {live' : List ℕ} {lo at stop to r : ℕ} → lo < length live → length live' ≡ length live → ((lo ≤ stop) × (stop < length live)) → Going raw used (stop - lo) at to →
    (live' ≡ moved_from true false (suc lo) at (set live lo 0) raw used p) × OffFrom r live' →
    (drop lo live' ≡ 0 ∷ move_go true false (drop (suc lo) live) (lines_of (drop at raw)) (drop at used) p) × (Known raw used lo at stop to live' × OffFrom r live')
step-leaves {raw} {used} p live {live'} {lo} {at} {stop} l n s g e = (rest-is, ((omega (arith, s.1), (g, λ x a b o. go x a b o)), e.1))
  where
    moves : List ℕ
    moves = move_go true false (drop (suc lo) live) (lines_of (drop at raw)) (drop at used) p

    rest-is : drop lo live' ≡ 0 ∷ moves
    rest-is =
        ap (drop lo)
        (e.0
        ∙ ap (λ (x : List ℕ). x ++ move_go true false (drop (suc lo) (set live lo 0)) (lines_of (drop at raw)) (drop at used) p) (take-suc-set live lo 0 l)
        ∙ ap (λ (x : List ℕ). (take lo live ++ (0 ∷ [])) ++ move_go true false x (lines_of (drop at raw)) (drop at used) p) (drop-set-lt (suc lo) live lo 0 (omega arith))
        ∙ append_assoc (take lo live) (0 ∷ []) moves)
        ∙ drop_at (take lo live) (0 ∷ moves) lo (length-take-le lo live (omega arith))

    at-is : (x : ℕ) → lo ≤ x → get_or live' x 0 ≡ get_or (0 ∷ moves) (x - lo) 0
    at-is x a =
        let z : lo + (x - lo) ≡ x = omega arith in
        sym (get_or-drop lo live' (x - lo) 0 ∙ ap (λ (y : ℕ). get_or live' y 0) z) ∙ ap (λ (y : List ℕ). get_or y (x - lo) 0) rest-is

    go : (x : ℕ) → lo ≤ x → x < stop → get_or live' x 0 ≡ 1 → get_or live' (suc x) 0 ≡ 1
    go x a b o =
        let z : suc x - lo ≡ suc (x - lo) = omega arith in
        at-is (suc x) (omega arith) ∙ ap (λ (y : ℕ). get_or (0 ∷ moves) y 0) z
        ∙ steady-go g p true false 0 (drop (suc lo) live) (x - lo) (omega arith) (omega (arith, length-drop (suc lo) live, s.1)) (λ k. absurd (omega arith)) (sym (at-is x a) ∙ o)
