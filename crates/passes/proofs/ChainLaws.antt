-- Laws of running passes one after the other over the front of a buffer. Assumes nothing.
use Prim.Native.Nat.{ℕ, zero, suc, ◌+◌, ◌-◌, ◌≤◌, ◌<◌}
use mathlib.Core.Path.{◌≡◌, refl, sym, ap, ◌∙◌}
use mathlib.Core.Bool.{Bool, true}
use mathlib.Core.List.{List, ◌∷◌}
use native.Mathlib.Omega.{arith}
use native.Mathlib.Numerals.{add-one}
use lib.ListN.{length, take, replicate, length-take, length-replicate}
use Rattle.lines.specs.Lf.{lines_of, unlines}
use Rattle.lines.specs.Inner.Out.{Wrote}
use Rattle.lines.specs.Steps.{split_lines}
use Rattle.lines.proofs.LfLaws.{lines-unlines}
use Rattle.lines.proofs.StepLaws.{split-room}
use Rattle.lines.proofs.OutLaws.{wrote-length, wrote-part}
use Rattle.origins.specs.Fates.{Fate, follow, staying}
use Rattle.origins.specs.Inner.Codes.{half, code_of, codes_of, land_go, through, standing}
use Rattle.origins.proofs.FateLaws.{follow-assoc, stay-follow, follow-stay}
use Rattle.origins.proofs.CodeLaws.{through-follow}
use Rattle.reading.specs.Reading.{Reading, reading_of}
use Rattle.reading.proofs.Lined.{Lined, mode-lined}
use Rattle.steps.specs.Step.{step_of, step_fates}
use Rattle.steps.specs.Inner.Bounds.{Bounded, Sized, Tabled}
use Rattle.steps.proofs.Tame.{tame-step, room_fits}
use Rattle.steps.specs.Inner.Few.{trailed, idle_in}
use Rattle.steps.proofs.Traces.{lines-half}
use Rattle.steps.proofs.Trails.{step-led}
use Rattle.steps.proofs.Idling.{idle-lines, idle-trail}
use Rattle.steps.proofs.Goings.{Goes, goes-under, goes_then, goes-stay, step-goes}
use Rattle.passes.specs.Inner.Passes.{steps_of, steps_fates}
use Rattle.limits.specs.declared.Limits.{Limits}
use Rattle.limits.specs.Entry.{byte_size}
use Rattle.limits.specs.Inner.Sane.{Within}
use Rattle.passes.specs.Inner.Buffers.{Front}
use Rattle.passes.proofs.Between.{Between, between_start, between-on, between-room}

-- ---- the front of a buffer

pub wrote-front : {d xs d' : List ℕ} {r : ℕ} → Wrote d 0 xs d' r → Front d' r xs
wrote-front w = record { fits = omega (arith, w.fits, w.place, wrote-length w); is = wrote-part w }

-- what stands at the front of b is written to the front of a
front-copied : {a b a' xs : List ℕ} {n r : ℕ} → Front b n xs → Wrote a 0 (take n b) a' r → Front a' r xs
front-copied {a} {b} {a'} {xs} {n} {r} f w = let g = wrote-front w in record { fits = g.fits; is = g.is ∙ f.is }

-- ---- the loop of `chain`

-- the buffers and tables are as long as they were
pub record Same (a b c d e f g h u v w x p q r t z a' b' c' d' e' f' g' h' u' v' w' x' p' q' r' t' z' : List ℕ) : Type 0 where
  pub a-same : length a' ≡ length a
  pub b-same : length b' ≡ length b
  pub c-same : length c' ≡ length c
  pub d-same : length d' ≡ length d
  pub e-same : length e' ≡ length e
  pub f-same : length f' ≡ length f
  pub g-same : length g' ≡ length g
  pub h-same : length h' ≡ length h
  pub u_same : length u' ≡ length u
  pub v-same : length v' ≡ length v
  pub w-same : length w' ≡ length w
  pub x-same : length x' ≡ length x
  pub p-same : length p' ≡ length p
  pub q-same : length q' ≡ length q
  pub r-same : length r' ≡ length r
  pub t_same : length t' ≡ length t
  pub z-same : length z' ≡ length z

module _ {L : Limits} {a b c d e f g h u v w x p q r t z a' b' c' d' e' f' g' h' u' v' w' x' p' q' r' t' z' : List ℕ} (y : Same a b c d e f g h u v w x p q r t z a' b' c' d' e' f' g' h' u' v' w' x' p' q' r' t' z') where
  pub same-sized : Sized L b c d e u → Sized L b' c' d' e' u'
  same-sized k = record {
    b-size = omega (arith, k.b-size, y.b-same);
    c-size = omega (arith, k.c-size, y.c-same);
    d-size = omega (arith, k.d-size, y.d-same);
    e-size = omega (arith, k.e-size, y.e-same);
    u-size = omega (arith, k.u-size, y.u_same);
    u-narrow = omega (arith, k.u-narrow, y.u_same);
  }

  pub same-tabled : Tabled L f g v w x p q r t → Tabled L f' g' v' w' x' p' q' r' t'
  same-tabled k = record {
    f-lines = omega (arith, k.f-lines, y.f-same);
    g-lines = omega (arith, k.g-lines, y.g-same);
    p-lines = omega (arith, k.p-lines, y.p-same);
    q-lines = omega (arith, k.q-lines, y.q-same);
    r-lines = omega (arith, k.r-lines, y.r-same);
    t-lines = omega (arith, k.t-lines, y.t_same);
    w-as-v = y.w-same ∙ k.w-as-v ∙ sym y.v-same;
    w-as-x = y.w-same ∙ k.w-as-x ∙ sym y.x-same;
  }

-- n steps from step k on: where their lines go
pub steps-goes : {R : Reading} {shut : List (List ℕ) → Bool} → Lined R shut → (k n : ℕ) (ls : List (List ℕ)) → Goes (length ls) (length (steps_of R k n ls)) (steps_fates R k n ls)
unfolding steps_of steps_fates
steps-goes c k zero ls = goes-stay (length ls)
steps-goes {R} c k (suc n) ls = goes_then (step-goes c ls k) (steps-goes c (suc k) n (step_of R k ls))

-- the lines are at the front of a, and z has the raw moves of the text's lines, which lead to them
pub record ChainInv (L : Limits) (mode k to : ℕ) (t a z : List ℕ) (n j : ℕ) : Type 0 where
  pub taken : Within L t
  pub now-lines : List (List ℕ)
  pub between : Between L t now-lines
  pub front : Front a n (unlines now-lines)
  pub so_far : steps_of (reading_of mode) j (to - j) now-lines ≡ steps_of (reading_of mode) k (to - k) (split_lines t)
  pub now-fates : List Fate
  pub coded : land_go z 0 ≡ codes_of now-fates
  pub stood : standing z ≡ length now-lines
  pub few : length z < half
  pub goes : Goes (length (split_lines t)) (length now-lines) now-fates
  pub so-went : follow now-fates (steps_fates (reading_of mode) j (to - j) now-lines) ≡ steps_fates (reading_of mode) k (to - k) (split_lines t)

pub split-fits : {L : Limits} (t a : List ℕ) → Within L t → byte_size L ≤ length a → length (unlines (split_lines t)) ≤ length a
split-fits t a h q = omega (arith, split-room t, h.bytes)

stay-steps : (mode k n : ℕ) (ls : List (List ℕ)) → follow (staying (length ls) 0) (steps_fates (reading_of mode) k n ls) ≡ steps_fates (reading_of mode) k n ls
stay-steps mode k n ls =
    let fs : List Fate = steps_fates (reading_of mode) k n ls in
    ap (λ (i : ℕ). follow (staying i 0) fs) (sym (steps-goes (mode-lined mode) k n ls).many) ∙ stay-follow fs

land-zeros : (n o : ℕ) → land_go (replicate n 0) o ≡ codes_of (staying n o)
unfolding land_go codes_of code_of staying
land-zeros zero o = refl
land-zeros (suc n) o = ap (λ (l : List ℕ). o ∷ l) (land-zeros n (suc o))

all-stand : (n : ℕ) → standing (replicate n 0) ≡ n
unfolding standing
all-stand zero = refl
all-stand (suc n) = ap suc (all-stand n)

start-few : {L : Limits} (t : List ℕ) → Within L t → length (split_lines t) < half
start-few t h = let b = between_start t h in omega (arith, lines-half (between-room h b), ap length (lines-unlines (split_lines t) b.clean))

pub chain-start : {L : Limits} (mode k to : ℕ) (z : List ℕ) {t a a' z' : List ℕ} {n : ℕ} → Within L t → Wrote a 0 (unlines (split_lines t)) a' n → length z ≡ length (split_lines t) → z' ≡ replicate (length z) 0 → ChainInv L mode k to t a' z' n k
chain-start mode k to z {t} {z' = z'} h w q e =
    let m : ℕ = length (split_lines t) in
    let y : z' ≡ replicate m 0 = e ∙ ap (λ (i : ℕ). replicate i 0) q in
    record {
      taken = h;
      now-lines = split_lines t;
      between = between_start t h;
      front = wrote-front w;
      so_far = refl;
      now-fates = staying m 0;
      coded = ap (λ (l : List ℕ). land_go l 0) y ∙ land-zeros m 0;
      stood = ap standing y ∙ all-stand m;
      few = omega (arith, start-few t h, ap length y, length-replicate {A = ℕ} m 0);
      goes = goes-stay m;
      so-went = stay-steps mode k (to - k) (split_lines t);
    }

steps-more : (R : Reading) (j m : ℕ) (ls : List (List ℕ)) → steps_of R j (suc m) ls ≡ steps_of R (suc j) m (step_of R j ls)
unfolding steps_of
steps-more R j m ls = refl

steps-none : (R : Reading) (j : ℕ) (ls : List (List ℕ)) → steps_of R j 0 ls ≡ ls
unfolding steps_of
steps-none R j ls = refl

fates-more : (R : Reading) (j m : ℕ) (ls : List (List ℕ)) → steps_fates R j (suc m) ls ≡ follow (step_fates R j ls) (steps_fates R (suc j) m (step_of R j ls))
unfolding steps_fates
fates-more R j m ls = refl

fates-none : (R : Reading) (j : ℕ) (ls : List (List ℕ)) → steps_fates R j 0 ls ≡ staying (length ls) 0
unfolding steps_fates
fates-none R j ls = refl

-- a table of codes through the codes of a step
step-codes : {R : Reading} {shut : List (List ℕ) → Bool} → Lined R shut → (j : ℕ) (ls : List (List ℕ)) {n : ℕ} {fs : List Fate} → length ls < half → Goes n (length ls) fs → through (codes_of fs) (codes_of (step_fates R j ls)) ≡ codes_of (follow fs (step_fates R j ls))
step-codes {R} c j ls {n} {fs} h p =
    let q = step-goes c ls j in
    through-follow fs (step_fates R j ls) (goes-under p (omega arith)) (goes-under q (omega (arith, (tame-step c j).counts ls))) (omega (arith, q.many))

module _ {L : Limits} {mode k to : ℕ} {t a z : List ℕ} {n j : ℕ} (h : ChainInv L mode k to t a z n j) where
  pub chain-room : Bounded L (take n a)
  chain-room = rw h.front.is (between-room h.taken h.between)

  -- what a pass wrote to b has room in a
  pub chain_fits : {b b' : List ℕ} {r : ℕ} → byte_size L ≤ length a → Wrote b 0 (unlines (step_of (reading_of mode) j (lines_of (take n a)))) b' r → length (take r b') ≤ length a
  chain_fits {b' = b'} {r = r} l w = omega (arith, length-take r b', w.place, room_fits (tame-step (mode-lined mode) j) chain-room)

  lines-at : lines_of (take n a) ≡ h.now-lines
  lines-at = ap lines_of h.front.is ∙ lines-unlines h.now-lines h.between.clean

  lines-few : length h.now-lines < half
  lines-few = omega (arith, lines-half chain-room, ap length lines-at)

  -- a step: its lines are at the front of a buffer, and the raw moves are taken on
  chain_next : {a' z' : List ℕ} {m : ℕ} → j < to → Front a' m (unlines (step_of (reading_of mode) j h.now-lines)) → z' ≡ trailed (reading_of mode) j h.now-lines z → ChainInv L mode k to t a' z' m (j + 1)
  chain_next {z' = z'} l f e =
      let R : Reading = reading_of mode in
      let ls : List (List ℕ) = h.now-lines in
      let fs : List Fate = h.now-fates in
      let i : ℕ = to - (j + 1) in
      let y : to - j ≡ suc (to - (j + 1)) = omega arith in
      let led = step-led (mode-lined mode) j ls z h.stood h.few in
      record {
        taken = h.taken;
        now-lines = step_of R j ls;
        between = between-on (tame-step (mode-lined mode) j) h.between;
        front = f;
        so_far = ap (λ (b : ℕ). steps_of R b i (step_of R j ls)) (add-one j) ∙ sym (steps-more R j i ls) ∙ ap (λ (m : ℕ). steps_of R j m ls) (sym y) ∙ h.so_far;
        now-fates = follow fs (step_fates R j ls);
        coded =
            ap (λ (x : List ℕ). land_go x 0) e ∙ led.leads ∙ ap (λ (x : List ℕ). through x (codes_of (step_fates R j ls))) h.coded
            ∙ step-codes (mode-lined mode) j ls lines-few h.goes;
        stood = ap standing e ∙ led.left;
        few = omega (arith, ap length e, led.long, h.few);
        goes = goes_then h.goes (step-goes (mode-lined mode) ls j);
        so-went =
            ap (λ (b : ℕ). follow (follow fs (step_fates R j ls)) (steps_fates R b i (step_of R j ls))) (add-one j)
            ∙ follow-assoc fs (step_fates R j ls) (steps_fates R (suc j) i (step_of R j ls))
            ∙ ap (follow fs) (sym (fates-more R j i ls) ∙ ap (λ (m : ℕ). steps_fates R j m ls) (sym y))
            ∙ h.so-went;
      }

  -- a pass from the front of a into b, and what it wrote back to the front of a
  pub chain-on : {b a' b' z' : List ℕ} {r m : ℕ} → j < to → Wrote b 0 (unlines (step_of (reading_of mode) j (lines_of (take n a)))) b' r → Wrote a 0 (take r b') a' m →
      z' ≡ trailed (reading_of mode) j (lines_of (take n a)) z → ChainInv L mode k to t a' z' m (j + 1)
  chain-on l w v e =
      let R : Reading = reading_of mode in
      let f = front-copied (wrote-front w) v in
      chain_next l (record { fits = f.fits; is = f.is ∙ ap (λ (ms : List (List ℕ)). unlines (step_of R j ms)) lines-at }) (e ∙ ap (λ (ms : List (List ℕ)). trailed R j ms z) lines-at)

  -- a pass that plainly changes nothing
  pub chain-idle : j < to → idle_in j (take n a) ≡ true → ChainInv L mode k to t a z n (j + 1)
  chain-idle l i =
      let R : Reading = reading_of mode in
      let ls : List (List ℕ) = h.now-lines in
      let same : step_of R j ls ≡ ls = ap (step_of R j) (sym lines-at) ∙ idle-lines R (take n a) z j i ∙ lines-at in
      chain_next l (record { fits = h.front.fits; is = h.front.is ∙ ap unlines (sym same) }) (sym (ap (λ (ms : List (List ℕ)). trailed R j ms z) (sym lines-at) ∙ idle-trail R (take n a) z j i))

  -- how many lines there are
  pub chain-rows : {r : ℕ} → r ≡ standing z → r ≡ length (lines_of (take n a))
  chain-rows e = e ∙ h.stood ∙ ap length (sym lines-at)

  pub chain-end : to ≤ j → Front a n (unlines (steps_of (reading_of mode) k (to - k) (split_lines t))) × (land_go z 0 ≡ codes_of (steps_fates (reading_of mode) k (to - k) (split_lines t)))
  chain-end l =
      let R : Reading = reading_of mode in
      let y : to - j ≡ 0 = omega arith in
      let g : h.now-lines ≡ steps_of R k (to - k) (split_lines t) = sym (ap (λ (m : ℕ). steps_of R j m h.now-lines) y ∙ steps-none R j h.now-lines) ∙ h.so_far in
      let w : steps_fates R j (to - j) h.now-lines ≡ staying (length h.now-lines) 0 = ap (λ (m : ℕ). steps_fates R j m h.now-lines) y ∙ fates-none R j h.now-lines in
      let e : h.now-fates ≡ steps_fates R k (to - k) (split_lines t) = sym (ap (follow h.now-fates) w ∙ follow-stay (length h.now-lines) h.now-fates h.goes.below) ∙ h.so-went in
      (record { fits = h.front.fits; is = h.front.is ∙ ap unlines g }, h.coded ∙ ap codes_of e)
