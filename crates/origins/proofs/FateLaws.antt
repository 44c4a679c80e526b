-- Laws of fates: one for each line, by a tail alone, and over passes. Assumes nothing.
use Prim.Native.Nat.{ℕ, zero, suc, ◌+◌, ◌≤◌, ◌<◌}
use mathlib.Core.Path.{◌≡◌, refl, sym, ap, ◌∙◌}
use mathlib.Core.List.{List, [], ◌∷◌, ◌++◌, append_assoc}
use native.Mathlib.Omega.{arith}
use native.Mathlib.Nat.{zero-add, suc-add}
use lib.ListN.{length, drop, length-append}
use Rattle.lines.specs.Acts.{Act, keep, become, into, gone, act, apply}
use Rattle.origins.specs.Fates.{Fate, at, held, lost, taken, fate_at, fates_go, fates_of, onward, follow, staying}

-- ---- one pass

-- there is a fate for each line
pub fates-length : (acts : List Act) (o : ℕ) → length (fates_go acts o) ≡ length acts
unfolding fates_go
fates-length [] o = refl
fates-length (keep ∷ more) o = ap suc (fates-length more (suc o))
fates-length (become x ∷ more) o = ap suc (fates-length more (suc o))
fates-length (into n ∷ more) o = ap suc (fates-length more o)
fates-length (gone ∷ more) o = ap suc (fates-length more o)

-- how many lines come out
unfoldable pub outs : List Act → ℕ
outs [] = 0
outs (keep ∷ more) = suc (outs more)
outs (become x ∷ more) = suc (outs more)
outs (into n ∷ more) = outs more
outs (gone ∷ more) = outs more

pub outs-apply : (acts : List Act) (ls : List (List ℕ)) → length acts ≡ length ls → length (apply acts ls) ≡ outs acts
unfolding outs apply act
outs-apply [] ls q = refl
outs-apply (a ∷ more) [] q = absurd (omega arith)
outs-apply (keep ∷ more) (l ∷ ls) q = ap suc (outs-apply more ls (omega arith))
outs-apply (become x ∷ more) (l ∷ ls) q = ap suc (outs-apply more ls (omega arith))
outs-apply (into n ∷ more) (l ∷ ls) q = outs-apply more ls (omega arith)
outs-apply (gone ∷ more) (l ∷ ls) q = outs-apply more ls (omega arith)

-- the fates of a tail hang on the tail alone, and on how many lines come out above it
pub fates-tail : (us ts : List Act) (o : ℕ) → drop (length us) (fates_go (us ++ ts) o) ≡ fates_go ts (outs us + o)
unfolding fates_go outs
fates-tail [] ts o = ap (fates_go ts) (sym (zero-add o))
fates-tail (keep ∷ us) ts o = fates-tail us ts (suc o) ∙ ap (fates_go ts) (omega arith)
fates-tail (become x ∷ us) ts o = fates-tail us ts (suc o) ∙ ap (fates_go ts) (omega arith)
fates-tail (into n ∷ us) ts o = fates-tail us ts o
fates-tail (gone ∷ us) ts o = fates-tail us ts o

-- a fate with k lines more above it
unfoldable pub shift : ℕ → Fate → Fate
shift k (at n) = at (k + n)
shift k (held n) = held (k + n)
shift k lost = lost

unfoldable pub shifts : ℕ → List Fate → List Fate
unfolding shift
shifts k [] = []
shifts k (f ∷ fs) = shift k f ∷ shifts k fs

shift-taken : (k : ℕ) (f : Fate) → taken (shift k f) ≡ shift k (taken f)
unfolding taken shift
shift-taken k (at n) = refl
shift-taken k (held n) = refl
shift-taken k lost = refl

shift-at : (k : ℕ) (fs : List Fate) (n : ℕ) → fate_at (shifts k fs) n ≡ shift k (fate_at fs n)
unfolding fate_at shifts shift
shift-at k [] n = refl
shift-at k (f ∷ fs) zero = refl
shift-at k (f ∷ fs) (suc n) = shift-at k fs n

shift-into : (k n : ℕ) (fs : List Fate) → taken (fate_at (lost ∷ shifts k fs) n) ≡ shift k (taken (fate_at (lost ∷ fs) n))
unfolding fate_at taken shift shifts
shift-into k zero fs = refl
shift-into k (suc n) fs = ap taken (shift-at k fs n) ∙ shift-taken k (fate_at fs n)

-- lines more above shift all of them
pub fates-shift : (acts : List Act) (k o : ℕ) → fates_go acts (k + o) ≡ shifts k (fates_go acts o)
unfolding fates_go shifts shift
fates-shift [] k o = refl
fates-shift (keep ∷ more) k o = ap (λ (fs : List Fate). at (k + o) ∷ fs) (ap (fates_go more) (omega arith) ∙ fates-shift more k (suc o))
fates-shift (become x ∷ more) k o = ap (λ (fs : List Fate). at (k + o) ∷ fs) (ap (fates_go more) (omega arith) ∙ fates-shift more k (suc o))
fates-shift (into n ∷ more) k o =
    let q : fates_go more (k + o) ≡ shifts k (fates_go more o) = fates-shift more k o in
    ap (λ (fs : List Fate). taken (fate_at (lost ∷ fs) n) ∷ fs) q ∙ ap (λ (f : Fate). f ∷ shifts k (fates_go more o)) (shift-into k n (fates_go more o))
fates-shift (gone ∷ more) k o = ap (λ (fs : List Fate). lost ∷ fs) (fates-shift more k o)

-- the fates of a tail are those of the tail alone, shifted by the lines that come out above it
pub fates-cut : (us ts : List Act) → drop (length us) (fates_of (us ++ ts)) ≡ shifts (outs us) (fates_of ts)
unfolding fates_of
fates-cut us ts = fates-tail us ts 0 ∙ fates-shift ts (outs us) 0

-- ---- passes one after the other

taken_twice : (f : Fate) → taken (taken f) ≡ taken f
unfolding taken
taken_twice (at n) = refl
taken_twice (held n) = refl
taken_twice lost = refl

onward-taken : (gs : List Fate) (f : Fate) → onward gs (taken f) ≡ taken (onward gs f)
unfolding onward taken
onward-taken gs (at n) = refl
onward-taken gs (held n) = sym (taken_twice (fate_at gs n))
onward-taken gs lost = refl

pub follow-at : (fs gs : List Fate) (n : ℕ) → fate_at (follow fs gs) n ≡ onward gs (fate_at fs n)
unfolding follow fate_at onward
follow-at [] gs n = refl
follow-at (f ∷ fs) gs zero = refl
follow-at (f ∷ fs) gs (suc n) = follow-at fs gs n

onward-follow : (gs hs : List Fate) (f : Fate) → onward hs (onward gs f) ≡ onward (follow gs hs) f
unfolding onward
onward-follow gs hs (at n) = sym (follow-at gs hs n)
onward-follow gs hs (held n) = onward-taken hs (fate_at gs n) ∙ ap taken (sym (follow-at gs hs n))
onward-follow gs hs lost = refl

-- three passes: it is all one which two are taken together first
pub follow-assoc : (fs gs hs : List Fate) → follow (follow fs gs) hs ≡ follow fs (follow gs hs)
unfolding follow
follow-assoc [] gs hs = refl
follow-assoc (f ∷ fs) gs hs =
    ap (λ (x : Fate). x ∷ follow (follow fs gs) hs) (onward-follow gs hs f) ∙ ap (λ (xs : List Fate). onward (follow gs hs) f ∷ xs) (follow-assoc fs gs hs)

pub follow-length : (fs gs : List Fate) → length (follow fs gs) ≡ length fs
unfolding follow
follow-length [] gs = refl
follow-length (f ∷ fs) gs = ap suc (follow-length fs gs)

far_at : (us gs : List Fate) (n : ℕ) → fate_at (us ++ gs) (length us + n) ≡ fate_at gs n
unfolding fate_at
far_at [] gs n = ap (fate_at gs) (zero-add n)
far_at (u ∷ us) gs n = ap (fate_at (u ∷ (us ++ gs))) (suc-add (length us) n) ∙ far_at us gs n

far-onward : (us gs : List Fate) (f : Fate) → onward (us ++ gs) (shift (length us) f) ≡ onward gs f
unfolding onward shift
far-onward us gs (at n) = far_at us gs n
far-onward us gs (held n) = ap taken (far_at us gs n)
far-onward us gs lost = refl

-- what stands below the lines us goes where the rest says
pub follow-front : (fs us gs : List Fate) → follow (shifts (length us) fs) (us ++ gs) ≡ follow fs gs
unfolding follow shifts
follow-front [] us gs = refl
follow-front (f ∷ fs) us gs =
    ap (λ (x : Fate). x ∷ follow (shifts (length us) fs) (us ++ gs)) (far-onward us gs f) ∙ ap (λ (xs : List Fate). onward gs f ∷ xs) (follow-front fs us gs)

stay-shift : (n k o : ℕ) → staying n (k + o) ≡ shifts k (staying n o)
unfolding staying shifts shift
stay-shift zero k o = refl
stay-shift (suc n) k o = ap (λ (fs : List Fate). at (k + o) ∷ fs) (ap (staying n) (omega arith) ∙ stay-shift n k (suc o))

-- lines that all stay, then a pass: that pass
pub stay-follow : (gs : List Fate) → follow (staying (length gs) 0) gs ≡ gs
unfolding staying follow onward fate_at
stay-follow [] = refl
stay-follow (g ∷ gs) =
    ap (λ (fs : List Fate). g ∷ fs) (ap (λ (fs : List Fate). follow fs (g ∷ gs)) (stay-shift (length gs) 1 0) ∙ follow-front (staying (length gs) 0) (g ∷ []) gs ∙ stay-follow gs)

-- a fate among n lines
unfoldable pub under : ℕ → Fate → Type 0
under k (at n) = n < k
under k (held n) = n < k
under k lost = Unit {0}

-- all of them
pub data Under (k : ℕ) : List Fate → Type 0 where
  nil : Under k []
  cons : {f : Fate} {fs : List Fate} → under k f → Under k fs → Under k (f ∷ fs)

stay-at : (k o n : ℕ) → n < k → fate_at (staying k o) n ≡ at (o + n)
unfolding staying fate_at
stay-at zero o n h = absurd (omega arith)
stay-at (suc k) o zero h = ap at (omega arith)
stay-at (suc k) o (suc n) h = stay-at k (suc o) n (omega arith) ∙ ap at (omega arith)

stay-onward : (k : ℕ) (f : Fate) → under k f → onward (staying k 0) f ≡ f
unfolding onward under taken
stay-onward k (at n) h = stay-at k 0 n h ∙ ap at (zero-add n)
stay-onward k (held n) h = ap taken (stay-at k 0 n h ∙ ap at (zero-add n))
stay-onward k lost h = refl

-- a pass, then lines that all stay: that pass
pub follow-stay : (k : ℕ) (fs : List Fate) → Under k fs → follow fs (staying k 0) ≡ fs
unfolding follow
follow-stay k [] h = refl
follow-stay k (f ∷ fs) (cons p h) = ap (λ (x : Fate). x ∷ follow fs (staying k 0)) (stay-onward k f p) ∙ ap (λ (xs : List Fate). f ∷ xs) (follow-stay k fs h)

-- ---- every line that comes out is one line that stood

-- the lines that stand, from the first line on
unfoldable pub stands : List Fate → List ℕ
stands [] = []
stands (at n ∷ fs) = n ∷ stands fs
stands (held n ∷ fs) = stands fs
stands (lost ∷ fs) = stands fs

-- n numbers from o on
unfoldable pub count_up : ℕ → ℕ → List ℕ
count_up zero o = []
count_up (suc n) o = o ∷ count_up n (suc o)

stands-taken : (f : Fate) (fs : List Fate) → stands (taken f ∷ fs) ≡ stands fs
unfolding stands taken
stands-taken (at n) fs = refl
stands-taken (held n) fs = refl
stands-taken lost fs = refl

-- the lines that stand are all the lines that come out, each once and in order
pub stands-all : (acts : List Act) (o : ℕ) → stands (fates_go acts o) ≡ count_up (outs acts) o
unfolding stands fates_go outs count_up
stands-all [] o = refl
stands-all (keep ∷ more) o = ap (λ (ns : List ℕ). o ∷ ns) (stands-all more (suc o))
stands-all (become x ∷ more) o = ap (λ (ns : List ℕ). o ∷ ns) (stands-all more (suc o))
stands-all (into n ∷ more) o = stands-taken (fate_at (lost ∷ fates_go more o) n) (fates_go more o) ∙ stands-all more o
stands-all (gone ∷ more) o = stands-all more o

-- and no line is said to be in one that does not come out
under-taken : (k : ℕ) (f : Fate) → under k f → under k (taken f)
unfolding under taken
under-taken k (at n) h = h
under-taken k (held n) h = h
under-taken k lost h = h

pub under_at : (k n : ℕ) (fs : List Fate) → Under k fs → under k (fate_at fs n)
unfolding under fate_at
under_at k n [] h = tt
under_at k zero (f ∷ fs) (cons p h) = p
under_at k (suc n) (f ∷ fs) (cons p h) = under_at k n fs h

under-lost : (k : ℕ) → under k lost
unfolding under
under-lost k = tt

pub fates-under : (acts : List Act) (o k : ℕ) → o + outs acts ≤ k → Under k (fates_go acts o)
unfolding fates_go outs under
fates-under [] o k h = nil
fates-under (keep ∷ more) o k h = cons {f = at o} (omega arith) (fates-under more (suc o) k (omega arith))
fates-under (become x ∷ more) o k h = cons {f = at o} (omega arith) (fates-under more (suc o) k (omega arith))
fates-under (into n ∷ more) o k h =
    let r = fates-under more o k h in
    cons (under-taken k (fate_at (lost ∷ fates_go more o) n) (under_at k n (lost ∷ fates_go more o) (cons (under-lost k) r))) r
fates-under (gone ∷ more) o k h = cons (under-lost k) (fates-under more o k h)

-- ---- over two passes too: those that stand through both are the lines that come out of the second

-- what stands of the lines ns
unfoldable pub pick : List Fate → List ℕ → List ℕ
unfolding stands
pick gs [] = []
pick gs (n ∷ ns) = stands (fate_at gs n ∷ []) ++ pick gs ns

stands_one : (f : Fate) (fs : List Fate) → stands (f ∷ fs) ≡ stands (f ∷ []) ++ stands fs
unfolding stands
stands_one (at n) fs = refl
stands_one (held n) fs = refl
stands_one lost fs = refl

pick-follow : (fs gs : List Fate) → stands (follow fs gs) ≡ pick gs (stands fs)
unfolding follow stands pick onward
pick-follow [] gs = refl
pick-follow (at n ∷ fs) gs = stands_one (fate_at gs n) (follow fs gs) ∙ ap (λ (ns : List ℕ). stands (fate_at gs n ∷ []) ++ ns) (pick-follow fs gs)
pick-follow (held n ∷ fs) gs = stands-taken (fate_at gs n) (follow fs gs) ∙ pick-follow fs gs
pick-follow (lost ∷ fs) gs = pick-follow fs gs

pick-on : (us : List Fate) (gs : List Fate) (o : ℕ) → o ≡ length us → pick (us ++ gs) (count_up (length gs) o) ≡ stands gs
unfolding pick count_up stands fate_at
pick-on us [] o q = refl
pick-on us (g ∷ gs) o q =
    let h : fate_at (us ++ (g ∷ gs)) o ≡ g = ap (fate_at (us ++ (g ∷ gs))) (q ∙ omega arith) ∙ far_at us (g ∷ gs) 0 in
    let r : pick (us ++ (g ∷ gs)) (count_up (length gs) (suc o)) ≡ stands gs =
    ap (λ (xs : List Fate). pick xs (count_up (length gs) (suc o))) (sym (append_assoc us (g ∷ []) gs)) ∙ pick-on (us ++ (g ∷ [])) gs (suc o) (omega (arith, length-append us (g ∷ []))) in
    ap (λ (f : Fate). stands (f ∷ []) ++ pick (us ++ (g ∷ gs)) (count_up (length gs) (suc o))) h ∙ ap (λ (ns : List ℕ). stands (g ∷ []) ++ ns) r ∙ sym (stands_one g gs)

pub stands-follow : (fs gs : List Fate) → stands fs ≡ count_up (length gs) 0 → stands (follow fs gs) ≡ stands gs
stands-follow fs gs h = pick-follow fs gs ∙ ap (pick gs) h ∙ pick-on [] gs 0 refl
