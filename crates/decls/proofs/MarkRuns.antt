-- The registers that a text reads are those of its runs that begin with `r`. Assumes nothing.
use Prim.Native.Nat.{ℕ, zero, suc, ◌+◌, ◌-◌, ◌≤◌, ◌<◌, min}
use mathlib.Core.Path.{◌≡◌, refl, sym, ap, ◌∙◌}
use mathlib.Core.Bool.{Bool, true, false, cond, not, ◌&&◌}
use mathlib.Core.List.{List, [], ◌∷◌, ◌++◌, append-nil, append_assoc}
use native.Mathlib.Omega.{arith}
use borrow.Author.Tests.{eq-eqb, eqb-true, ltb-true, ltb-false}
use lib.Dec.{eqb, ltb}
use lib.ListN.{length, take, drop, get_or, length-append, length-drop, drop_of_length-le}
use lib.Seq.{drop-cons, drop-drop, get_or-take, get_or-drop, length-take-le}
use Rattle.lines.specs.Lf.{part, up_to, prefixed}
use Rattle.lines.proofs.Tests.{no, and-false, eqb-sym}
use Rattle.text.specs.Class.{is_name}
use Rattle.names.specs.Names.{is_digit, read_number, reg_by, reg_of}
use Rattle.names.proofs.Texts.{reg-first, reg-two, digit-is}
use Rattle.parse.proofs.Plain.{inside, name-at}
use Rattle.parse.proofs.PlainLine.{first_taken, bare-none}
use Rattle.std.specs.declared.option.Option.{Option}
use Rattle.names.specs.declared.Register.{Register}
use Rattle.std.specs.declared.option.Option.TheVariants.{Some, None}
use Rattle.words.specs.Runs.{runs_go, runs}
use Rattle.words.specs.Inner.Runs.{up_by, run_len}
use Rattle.slots.specs.Inner.Slots.{with_entry}
use Rattle.decls.specs.Inner.Seen.{name_before, run_of, run_at, mark_name, mark_runs}
use Rattle.words.proofs.RunLaws.{up-here, up-on, up-end}
use Rattle.words.proofs.Walk.{go-name, go-gap}
use Rattle.decls.proofs.SeenLaws.{name-length, runs-flush}
use Rattle.decls.proofs.Chunks.{up_at}

-- ---- the run at the front

run-name : (x : ℕ) (s : List ℕ) → is_name x ≡ true → run_of (x ∷ s) ≡ x ∷ run_of s
unfolding up_by
run-name x s e = rw e

run-gap : (x : ℕ) (s : List ℕ) → is_name x ≡ false → run_of (x ∷ s) ≡ []
unfolding up_by
run-gap x s e = rw e

reg-other : (x : ℕ) (s : List ℕ) → eqb x 114 ≡ false → reg_of (x ∷ s) ≡ None
unfolding reg_of prefixed
reg-other x s e = rw (eqb-sym 114 x, e)

gap_other : (x : ℕ) → is_name x ≡ false → eqb x 114 ≡ false
gap_other x e = go (eqb x 114) refl
  where
    go : (b : Bool) → eqb x 114 ≡ b → eqb x 114 ≡ false
    go true q = no (sym e ∙ ap (λ (n : ℕ). is_name n) (eqb-true x 114 q))
    go false q = q

-- ---- the marks byte by byte: p says whether a name byte went before

unfoldable pub mark_from : List ℕ → ℕ → Bool → List ℕ → List ℕ → List ℕ
mark_from own m p [] d = d
mark_from own m p (x ∷ s) d = mark_from own m (is_name x) s (cond (eqb x 114 && not p) (mark_name own m (reg_of (run_of (x ∷ s))) d) d)

module _ (own : List ℕ) (m : ℕ) where
  from_cons : (p : Bool) (x : ℕ) (s d : List ℕ) (b : Bool) → is_name x ≡ b → mark_from own m p (x ∷ s) d ≡ mark_from own m b s (cond (eqb x 114 && not p) (mark_name own m (reg_of (run_of (x ∷ s))) d) d)
  unfolding mark_from
  from_cons p x s d b e = ap (λ (c : Bool). mark_from own m c s (cond (eqb x 114 && not p) (mark_name own m (reg_of (run_of (x ∷ s))) d) d)) e

  -- inside a run nothing is marked
  from_in : (x : ℕ) (s d : List ℕ) (b : Bool) → is_name x ≡ b → mark_from own m true (x ∷ s) d ≡ mark_from own m b s d
  from_in x s d b e = from_cons true x s d b e ∙ ap (λ (t : Bool). mark_from own m b s (cond t (mark_name own m (reg_of (run_of (x ∷ s))) d) d)) (and-false (eqb x 114))

  from-gap : (x : ℕ) (s d : List ℕ) → is_name x ≡ false → mark_from own m false (x ∷ s) d ≡ mark_from own m false s d
  from-gap x s d e = from_cons false x s d false e ∙ ap (λ (t : Bool). mark_from own m false s (cond (t && true) (mark_name own m (reg_of (run_of (x ∷ s))) d) d)) (gap_other x e)

  -- a run that begins with another byte names no register
  pick : (x : ℕ) (r d : List ℕ) (b : Bool) → eqb x 114 ≡ b → mark_name own m (reg_of (x ∷ r)) d ≡ cond (b && true) (mark_name own m (reg_of (x ∷ r)) d) d
  pick x r d true e = refl
  pick x r d false e = ap (λ (n : Option Register). mark_name own m n d) (reg-other x r e)

  from-begin : (x : ℕ) (s d : List ℕ) → is_name x ≡ true → mark_from own m false (x ∷ s) d ≡ mark_from own m true s (mark_name own m (reg_of (x ∷ run_of s)) d)
  from-begin x s d e =
      from_cons false x s d true e
      ∙ ap (λ (r : List ℕ). mark_from own m true s (cond (eqb x 114 && true) (mark_name own m (reg_of r) d) d)) (run-name x s e)
      ∙ ap (mark_from own m true s) (sym (pick x (run_of s) d (eqb x 114) refl))

  -- with no run open, and with the run cur open
  abbrev Shut : List ℕ → Type 0
  Shut s = (d : List ℕ) → mark_runs own m (runs_go s []) d ≡ mark_from own m false s d

  abbrev Open : List ℕ → Type 0
  Open s = (cur d : List ℕ) → 0 < length cur → mark_runs own m (runs_go s cur) d ≡ mark_from own m true s (mark_name own m (reg_of (cur ++ run_of s)) d)

  none-shut : Shut []
  unfolding runs_go mark_runs mark_from
  none-shut d = refl

  none_open : Open []
  unfolding runs_go mark_runs mark_from up_by
  none_open [] d h = absurd (omega arith)
  none_open (y ∷ cur) d h = ap (λ (r : List ℕ). mark_name own m (reg_of r) d) (sym (append-nil (y ∷ cur)))

  more : (x : ℕ) (s : List ℕ) → Shut s × Open s → (b : Bool) → is_name x ≡ b → Shut (x ∷ s) × Open (x ∷ s)
  more x s (f, g) true e = (
    λ d. ap (λ (r : List (List ℕ)). mark_runs own m r d) (go-name x s [] e) ∙ g (x ∷ []) d (omega arith) ∙ sym (from-begin x s d e),
    λ cur d h.
        ap (λ (r : List (List ℕ)). mark_runs own m r d) (go-name x s cur e) ∙ g (cur ++ (x ∷ [])) d (omega (arith, length-append cur (x ∷ [])))
        ∙ ap (λ (r : List ℕ). mark_from own m true s (mark_name own m (reg_of r) d)) (append_assoc cur (x ∷ []) (run_of s) ∙ ap (λ (r : List ℕ). cur ++ r) (sym (run-name x s e)))
        ∙ sym (from_in x s (mark_name own m (reg_of (cur ++ run_of (x ∷ s))) d) true e),
  )
  more x s (f, g) false e = (
    λ d. ap (λ (r : List (List ℕ)). mark_runs own m r d) (go-gap x s [] e) ∙ f d ∙ sym (from-gap x s d e),
    λ cur d h.
        ap (λ (r : List (List ℕ)). mark_runs own m r d) (go-gap x s cur e) ∙ runs-flush own m cur (runs_go s []) d ∙ f (mark_name own m (reg_of cur) d)
        ∙ ap (λ (r : List ℕ). mark_from own m false s (mark_name own m (reg_of r) d)) (sym (append-nil cur) ∙ ap (λ (r : List ℕ). cur ++ r) (sym (run-gap x s e)))
        ∙ sym (from_in x s (mark_name own m (reg_of (cur ++ run_of (x ∷ s))) d) false e),
  )

  both : (s : List ℕ) → Shut s × Open s
  both [] = (none-shut, none_open)
  both (x ∷ s) = more x s (both s) (is_name x) refl

  from-runs : (s d : List ℕ) → mark_from own m false s d ≡ mark_runs own m (runs s) d
  unfolding runs
  from-runs s d = sym ((both s).0 d)

  -- ---- on to the next `r`

  -- whether a name byte went before the place k
  abbrev prev : Bool → ℕ → List ℕ → Bool
  prev p zero l = p
  prev p (suc k) l = is_name (get_or l k 0)

  prev-cons : (x : ℕ) (k : ℕ) (l : List ℕ) → prev (is_name x) k l ≡ is_name (get_or (x ∷ l) k 0)
  prev-cons x zero l = refl
  prev-cons x (suc k) l = refl

  up_from : (l : List ℕ) (p : Bool) (d : List ℕ) → mark_from own m p l d ≡ mark_from own m (prev p (up_to 114 l) l) (drop (up_to 114 l) l) d
  unfolding up_to
  up_from [] p d = refl
  up_from (x ∷ l) p d = go (eqb x 114) refl (up_from l (is_name x) d)
    where
      go : (b : Bool) → eqb x 114 ≡ b → mark_from own m (is_name x) l d ≡ mark_from own m (prev (is_name x) (up_to 114 l) l) (drop (up_to 114 l) l) d →
          mark_from own m p (x ∷ l) d ≡ mark_from own m (prev p (cond b 0 (suc (up_to 114 l))) (x ∷ l)) (drop (cond b 0 (suc (up_to 114 l))) (x ∷ l)) d
      go true e on = refl
      go false e on =
          from_cons p x l d (is_name x) refl ∙ ap (λ (t : Bool). mark_from own m (is_name x) l (cond (t && not p) (mark_name own m (reg_of (run_of (x ∷ l))) d) d)) e ∙ on
          ∙ ap (λ (t : Bool). mark_from own m t (drop (up_to 114 l) l) d) (prev-cons x (up_to 114 l) l)

  prev-at : (s : List ℕ) (i k : ℕ) → prev (name_before i s) k (drop i s) ≡ name_before (i + k) s
  prev-at s i zero = let z : i ≡ i + 0 = omega arith in ap (λ (n : ℕ). name_before n s) z
  prev-at s i (suc k) = let z : suc (i + k) ≡ i + suc k = omega arith in ap (λ (x : ℕ). is_name x) (get_or-drop i s k 0) ∙ ap (λ (n : ℕ). name_before n s) z

  skip-from : (s d : List ℕ) (i j : ℕ) → j ≡ i + up_to 114 (drop i s) → mark_from own m (name_before i s) (drop i s) d ≡ mark_from own m (name_before j s) (drop j s) d
  skip-from s d i j q =
      up_from (drop i s) (name_before i s) d
      ∙ ap (λ (t : Bool). mark_from own m t (drop (up_to 114 (drop i s)) (drop i s)) d) (prev-at s i (up_to 114 (drop i s)))
      ∙ ap (λ (r : List ℕ). mark_from own m (name_before (i + up_to 114 (drop i s)) s) r d) (drop-drop (up_to 114 (drop i s)) i s)
      ∙ ap (λ (n : ℕ). mark_from own m (name_before n s) (drop n s) d) (sym q)

-- ---- the loop

pub record FromInv (own : List ℕ) (m : ℕ) (s d₀ d : List ℕ) (i : ℕ) : Type 0 where
  pub long : length d ≡ length d₀
  pub so_far : mark_from own m (name_before i s) (drop i s) d ≡ mark_runs own m (runs s) d₀

pub from_start : (own : List ℕ) (m : ℕ) (s d : List ℕ) → FromInv own m s d d 0
from_start own m s d = record { long = refl; so_far = from-runs own m s d }

none-at : (own : List ℕ) (m : ℕ) (p : Bool) (s d : List ℕ) (i : ℕ) → length s ≤ i → mark_from own m p (drop i s) d ≡ d
unfolding mark_from
none-at own m p s d i h = rw (drop_of_length-le s h)

mark-empty : (own : List ℕ) (m : ℕ) (s d : List ℕ) (j : ℕ) (p : Bool) → length s ≤ j → cond p d (mark_name own m (reg_of (run_at j s)) d) ≡ d
unfolding up_by reg_of prefixed
mark-empty own m s d j true h = refl
mark-empty own m s d j false h = rw (drop_of_length-le s h)

-- at an `r`, p says whether a name byte stands before it
mark-here : (own : List ℕ) (m : ℕ) (p : Bool) (x : ℕ) (s d : List ℕ) → x ≡ 114 → mark_from own m p (x ∷ s) d ≡ mark_from own m (is_name x) s (cond p d (mark_name own m (reg_of (run_of (x ∷ s))) d))
mark-here own m p x s d e = from_cons own m p x s d (is_name x) refl ∙ ap (λ (t : Bool). mark_from own m (is_name x) s (cond (t && not p) (mark_name own m (reg_of (run_of (x ∷ s))) d) d)) (eq-eqb x 114 e) ∙ go p
  where
    go : (p : Bool) → mark_from own m (is_name x) s (cond (not p) (mark_name own m (reg_of (run_of (x ∷ s))) d) d) ≡ mark_from own m (is_name x) s (cond p d (mark_name own m (reg_of (run_of (x ∷ s))) d))
    go true = refl
    go false = refl

module _ {own : List ℕ} {m : ℕ} {s d₀ d : List ℕ} {i : ℕ} (h : FromInv own m s d₀ d i) where
  pub from_on : (j k : ℕ) (d' : List ℕ) → i < length s → j ≡ i + up_to 114 (drop i s) → d' ≡ cond (name_before j s) d (mark_name own m (reg_of (run_at j s)) d) → k ≡ min (j + 1) (length s) → FromInv own m s d₀ d' k
  from_on j k d' b q x z = record {
    long = ap length x ∙ size (name_before j s) ∙ h.long;
    so_far = go (ltb j (length s)) refl ∙ sym (skip-from own m s d i j q) ∙ h.so_far;
  }
    where
      size : (p : Bool) → length (cond p d (mark_name own m (reg_of (run_at j s)) d)) ≡ length d
      size true = refl
      size false = name-length own m (reg_of (run_at j s)) d

      go : (t : Bool) → ltb j (length s) ≡ t → mark_from own m (name_before k s) (drop k s) d' ≡ mark_from own m (name_before j s) (drop j s) d
      go true e =
          let w = ltb-true j (length s) e in
          let v : k ≡ suc j = omega arith in
          let u : up_to 114 (drop i s) < length (drop i s) = omega (arith, length-drop i s) in
          let r : get_or s j 0 ≡ 114 = ap (λ (n : ℕ). get_or s n 0) q ∙ sym (get_or-drop i s (up_to 114 (drop i s)) 0) ∙ up_at 114 (drop i s) u in
          ap (λ (n : ℕ). mark_from own m (name_before n s) (drop n s) d') v
          ∙ ap (mark_from own m (is_name (get_or s j 0)) (drop (suc j) s)) (x ∙ ap (λ (l : List ℕ). cond (name_before j s) d (mark_name own m (reg_of (run_of l)) d)) (drop-cons s j 0 w))
          ∙ sym (mark-here own m (name_before j s) (get_or s j 0) (drop (suc j) s) d r)
          ∙ ap (λ (l : List ℕ). mark_from own m (name_before j s) l d) (sym (drop-cons s j 0 w))
      go false e =
          let w = ltb-false j (length s) e in
          none-at own m (name_before k s) s d' k (omega arith) ∙ x ∙ mark-empty own m s d j (name_before j s) w ∙ sym (none-at own m (name_before j s) s d j w)

  pub from_end : length s ≤ i → d ≡ mark_runs own m (runs s) d₀
  from_end k = sym (none-at own m (name_before i s) s d i k) ∙ h.so_far

-- ---- at one place

-- what is cut there is the run
pub run-cut : (s w : List ℕ) (i j : ℕ) → j ≡ i + run_len (drop i s) → w ≡ part i j s → w ≡ run_at i s
run-cut s w i j q p = let z : j - i ≡ run_len (drop i s) = omega arith in p ∙ ap (λ (n : ℕ). take n (drop i s)) z

-- a name byte is inside
pub name-inside : (s : List ℕ) (i : ℕ) → is_name (get_or s i 0) ≡ true → i < length s
name-inside s i e = inside s i (λ z. absurd (no_name (ap (λ (x : ℕ). is_name x) (sym z) ∙ e)))
  where
    no_name : is_name 0 ≡ true → ⊥
    no_name h = no h

-- a run whose first two bytes are name bytes
pub run-two : (s : List ℕ) (i : ℕ) → is_name (get_or s i 0) ≡ true → is_name (get_or s (i + 1) 0) ≡ true → i + 2 + run_len (drop (i + 2) s) ≡ i + run_len (drop i s)
run-two s i e f =
    let z : i + 1 + 1 ≡ i + 2 = omega arith in
    let a = up-on (λ (x : ℕ). not (is_name x)) s i (name-inside s i e) (ap not e) in
    let b = up-on (λ (x : ℕ). not (is_name x)) s (i + 1) (name-inside s (i + 1) f) (ap not f) in
    omega (arith, a, b, ap (λ (n : ℕ). run_len (drop n s)) z)

-- where it is a digit, it is a name byte
pub digit-name : (x : ℕ) → is_digit x ≡ true → is_name x ≡ true
digit-name x e = rw e

-- no run stands at another byte
run_ends : (s : List ℕ) (i : ℕ) → is_name (get_or s i 0) ≡ false → run_len (drop i s) ≡ 0
run_ends s i e = go (ltb i (length s)) refl
  where
    go : (t : Bool) → ltb i (length s) ≡ t → run_len (drop i s) ≡ 0
    go true q = up-here (λ (x : ℕ). not (is_name x)) s i (ltb-true i (length s) q) (ap not e)
    go false q = up-end (λ (x : ℕ). not (is_name x)) s i (ltb-false i (length s) q)

-- a run of `r` and one digit
pub run_short : (s : List ℕ) (i d : ℕ) → get_or s i 0 ≡ 114 → d ≡ get_or s (i + 1) 0 → is_digit d ≡ true → is_name (get_or s (i + 2) 0) ≡ false → reg_of (run_at i s) ≡ Some (record { 0 = d - 48 })
run_short s i d e p f n =
    let g : is_name (get_or s (i + 1) 0) ≡ true = ap (λ (x : ℕ). is_name x) (sym p) ∙ digit-name d f in
    let b : i + 1 < length s = name-inside s (i + 1) g in
    let k : run_len (drop i s) ≡ 2 = omega (arith, run-two s i (ap (λ (x : ℕ). is_name x) e) g, run_ends s (i + 2) n) in
    let z : i + 0 ≡ i = omega arith in
    let l : length (take 2 (drop i s)) ≡ 2 = length-take-le 2 (drop i s) (omega (arith, length-drop i s)) in
    let x : get_or (take 2 (drop i s)) 0 0 ≡ 114 = get_or-take 2 (drop i s) 0 0 (omega arith) ∙ get_or-drop i s 0 0 ∙ ap (λ (j : ℕ). get_or s j 0) z ∙ e in
    let y : get_or (take 2 (drop i s)) 1 0 ≡ d = get_or-take 2 (drop i s) 1 0 (omega arith) ∙ get_or-drop i s 1 0 ∙ sym p in
    ap (λ (j : ℕ). reg_of (take j (drop i s))) k ∙ reg-two (take 2 (drop i s)) l x ∙ ap (λ (c : ℕ). reg_by (read_number (c ∷ []))) y ∙ digit-is d f

-- ---- a run that names no register

-- it does not begin with `r`
pub run-other : (s : List ℕ) (i : ℕ) → (get_or s i 0 ≡ 114 → ⊥) → reg_of (run_at i s) ≡ None
run-other s i n =
    let z : i + 0 ≡ i = omega arith in
    reg-first (run_at i s) (first_taken 114 (λ e. absurd (omega arith)) (run_len (drop i s)) (drop i s) (λ e. n (ap (λ (k : ℕ). get_or s k 0) (sym z) ∙ sym (get_or-drop i s 0 0) ∙ e)))

-- no digit stands behind the `r`
pub run-bare : (s : List ℕ) (i : ℕ) → get_or s i 0 ≡ 114 → is_digit (get_or s (i + 1) 0) ≡ false → reg_of (run_at i s) ≡ None
run-bare s i e f =
    let z : i + 1 + 0 ≡ i + 1 = omega arith in
    ap (λ (l : List ℕ). reg_of (take (run_len (drop i s)) l)) (name-at s i e)
    ∙ bare-none (run_len (drop i s)) (drop (i + 1) s) (ap (λ (x : ℕ). is_digit x) (get_or-drop (i + 1) s 0 0 ∙ ap (λ (k : ℕ). get_or s k 0) z) ∙ f)

pub before-is : (s : List ℕ) (i : ℕ) (b : ℕ) → (i ≡ 0 → ⊥) → b ≡ get_or s (i - 1) 0 → name_before i s ≡ is_name b
before-is s zero b n q = absurd (n refl)
before-is s (suc i) b n q = let z : suc i - 1 ≡ i = omega arith in ap (λ (x : ℕ). is_name x) (sym (q ∙ ap (λ (k : ℕ). get_or s k 0) z))

module _ (own : List ℕ) (m : ℕ) (s d : List ℕ) (i : ℕ) where
  pub mark-none : reg_of (run_at i s) ≡ None → d ≡ cond (name_before i s) d (mark_name own m (reg_of (run_at i s)) d)
  mark-none e = go (name_before i s)
    where
      go : (b : Bool) → d ≡ cond b d (mark_name own m (reg_of (run_at i s)) d)
      go true = refl
      go false = sym (ap (λ (n : Option Register). mark_name own m n d) e)

  pub mark-held : name_before i s ≡ true → d ≡ cond (name_before i s) d (mark_name own m (reg_of (run_at i s)) d)
  mark-held e = sym (ap (λ (b : Bool). cond b d (mark_name own m (reg_of (run_at i s)) d)) e)

  pub mark-free : (d' : List ℕ) → name_before i s ≡ false → d' ≡ mark_name own m (reg_of (run_at i s)) d → d' ≡ cond (name_before i s) d (mark_name own m (reg_of (run_at i s)) d)
  mark-free d' e x = x ∙ sym (ap (λ (b : Bool). cond b d (mark_name own m (reg_of (run_at i s)) d)) e)

  pub mark-short : (d' : List ℕ) (x : ℕ) → name_before i s ≡ false → get_or s i 0 ≡ 114 → x ≡ get_or s (i + 1) 0 → is_digit x ≡ true → is_name (get_or s (i + 2) 0) ≡ false → d' ≡ with_entry own (x - 48) m d →
      d' ≡ cond (name_before i s) d (mark_name own m (reg_of (run_at i s)) d)
  mark-short d' x e p q f n y = mark-free d' e (y ∙ sym (ap (λ (r : Option Register). mark_name own m r d) (run_short s i x p q f n)))
