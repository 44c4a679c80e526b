-- Laws of the table of texts that were met: where it says that a text is held, the text was met, and where it says that its place is free, it was
-- not. Assumes nothing.
use Prim.Native.Nat.{ℕ, zero, suc, ◌+◌, ◌*◌, ◌-◌, ◌%◌, ◌≤◌, ◌<◌}
use mathlib.Core.Path.{◌≡◌, refl, sym, ap, ◌∙◌, subst}
use mathlib.Core.Bool.{Bool, true, false, cond, ◌||◌}
use mathlib.Core.List.{List, [], ◌∷◌, ◌++◌}
use native.Mathlib.Omega.{arith}
use native.Mathlib.Numerals.{add-one}
use borrow.Author.Tests.{eq-eqb, ne_eqb, eqb-true, eqb-false, le-leb, lt-leb, leb-true, leb-false}
use lib.Dec.{eqb, leb}
use lib.ListN.{length, drop, get_or, set, replicate, length-set, length-drop, drop_of_length-le}
use lib.Seq.{drop-cons, get_or-drop, get_or-set_same, get_or-set_other, set_out, drop-set-add}
use Rattle.lines.specs.Lf.{same}
use Rattle.lines.proofs.Tests.{no, or-true}
use Rattle.lines.proofs.Compare.{same-eq, same_refl}
use Rattle.po.specs.declared.Unit.{Unit}
use Rattle.po.specs.declared.Seek.{Seek}
use Rattle.po.specs.declared.Seek.TheVariants as sought
use Rattle.po.specs.Found.{decoded, known}
use Rattle.po.specs.Inner.Walk.{unit_of}
use Rattle.po.specs.Inner.Index.{key_at, hash_of, seek_go, start_of, seek_of, hint_of, free_or, entered, is_free, Tells}
use Rattle.po.proofs.UnitLaws.{text-stop, text-on, text-past}

-- ---- the number of a text

module _ (s : List ℕ) (q h i : ℕ) where
  pub hash-stop : (u : Unit) → u ≡ unit_of (drop i s) q → u.size ≡ 0 → hash_of h (decoded (drop i s) q) ≡ h
  unfolding hash_of
  hash-stop u e z = rw (text-stop s q i u e z) refl

  pub hash-on : (u : Unit) → u ≡ unit_of (drop i s) q → (u.size ≡ 0 → ⊥) → hash_of h (decoded (drop i s) q) ≡ hash_of ((h * 65599 + u.byte) % 4294967291) (decoded (drop (i + u.size) s) q)
  unfolding hash_of
  hash-on u e n = rw (text-on s q i u e n) refl

  pub hash-past : length s ≤ i → hash_of h (decoded (drop i s) q) ≡ h
  unfolding hash_of
  hash-past l = rw (text-past s q i l) refl

-- ---- one entry

module _ (t : List ℕ) (i : ℕ) (x : List ℕ) where
  pub go-free : (v : ℕ) (vs : List ℕ) → v ≡ 0 → seek_go t (v ∷ vs) i x ≡ sought.Free i
  unfolding seek_go
  go-free v vs e = rw (eq-eqb v 0 e)

  pub go-unsure : (v : ℕ) (vs : List ℕ) → (v ≡ 0 → ⊥) → length t ≤ v → seek_go t (v ∷ vs) i x ≡ sought.Unsure
  unfolding seek_go
  go-unsure v vs n l = rw (ne_eqb v 0 n, le-leb (length t) v l)

  pub go-key : (v : ℕ) (vs : List ℕ) → (v ≡ 0 → ⊥) → v < length t → seek_go t (v ∷ vs) i x ≡ cond (same (key_at t (v - 1)) x) sought.Held (seek_go t vs (i + 1) x)
  unfolding seek_go
  go-key v vs n l = rw (ne_eqb v 0 n, lt-leb (length t) v l)

-- ---- the walk

module _ (t own x : List ℕ) (i : ℕ) where
  at : i < length own → drop i own ≡ get_or own i 0 ∷ drop (i + 1) own
  at h = drop-cons own i 0 h ∙ ap (λ (k : ℕ). get_or own i 0 ∷ drop k own) (sym (add-one i))

  pub seek-free : i < length own → get_or own i 0 ≡ 0 → seek_go t (drop i own) i x ≡ sought.Free i
  seek-free h e = ap (λ (l : List ℕ). seek_go t l i x) (at h) ∙ go-free t i x (get_or own i 0) (drop (i + 1) own) e

  pub seek-unsure : i < length own → (get_or own i 0 ≡ 0 → ⊥) → length t ≤ get_or own i 0 → seek_go t (drop i own) i x ≡ sought.Unsure
  seek-unsure h n l = ap (λ (l : List ℕ). seek_go t l i x) (at h) ∙ go-unsure t i x (get_or own i 0) (drop (i + 1) own) n l

  pub seek-key : i < length own → (get_or own i 0 ≡ 0 → ⊥) → get_or own i 0 < length t → (b : Bool) → b ≡ same (key_at t (get_or own i 0 - 1)) x → seek_go t (drop i own) i x ≡ cond b sought.Held (seek_go t (drop (i + 1) own) (i + 1) x)
  seek-key h n l b e =
      ap (λ (l : List ℕ). seek_go t l i x) (at h) ∙ go-key t i x (get_or own i 0) (drop (i + 1) own) n l
      ∙ ap (λ (c : Bool). cond c sought.Held (seek_go t (drop (i + 1) own) (i + 1) x)) (sym e)

  pub seek-end : length own ≤ i → seek_go t (drop i own) i x ≡ sought.Unsure
  unfolding seek_go
  seek-end h = rw (drop_of_length-le own h) refl

pub seek-none : (t own x : List ℕ) → length own ≡ 0 → seek_of t own x ≡ sought.Unsure
unfolding seek_of
seek-none t own x e = seek-end t own x (start_of own x) (omega arith)

pub seek-starts : (t own x : List ℕ) (h : ℕ) → h ≡ hash_of 0 x → seek_of t own x ≡ seek_go t (drop (h % length own) own) (h % length own) x
unfolding seek_of
seek-starts t own x h e = rw e refl

-- ---- the entry that is written

module _ (t : List ℕ) (p : ℕ) (x : List ℕ) where
  pub hint-past : length t ≤ p → length t + 1 ≡ hint_of t p x
  unfolding hint_of
  hint-past h = rw (le-leb (length t) p h) refl

  pub hint-yes : p < length t → same (key_at t p) x ≡ true → p + 1 ≡ hint_of t p x
  unfolding hint_of
  hint-yes h e = rw (lt-leb (length t) p h, e) refl

  pub hint-no : p < length t → same (key_at t p) x ≡ false → length t + 1 ≡ hint_of t p x
  unfolding hint_of
  hint-no h e = rw (lt-leb (length t) p h, e) refl

-- what an entry says of the text x: nothing, or that it stands there
data Says (t x : List ℕ) : ℕ → Type 0 where
  nothing : (v : ℕ) → length t ≤ v → Says t x v
  there : (p : ℕ) → same (key_at t p) x ≡ true → Says t x (suc p)

hint-says : (t : List ℕ) (p : ℕ) (x : List ℕ) → Says t x (hint_of t p x)
unfolding hint_of
hint-says t p x = go (leb (length t) p) (same (key_at t p) x) refl
  where
    go : (a b : Bool) → same (key_at t p) x ≡ b → Says t x (cond a (length t + 1) (cond b (p + 1) (length t + 1)))
    go true b e = nothing (length t + 1) (omega arith)
    go false true e = rw (add-one p) (there p e)
    go false false e = nothing (length t + 1) (omega arith)

-- it is not 0
hint-some : (t : List ℕ) (p : ℕ) (x : List ℕ) → hint_of t p x ≡ 0 → ⊥
unfolding hint_of
hint-some t p x = go (leb (length t) p) (same (key_at t p) x)
  where
    go : (a b : Bool) → cond a (length t + 1) (cond b (p + 1) (length t + 1)) ≡ 0 → ⊥
    go true b e = omega arith
    go false true e = omega arith
    go false false e = omega arith

-- ---- what the table says

abbrev is_held : Seek → Bool
is_held sought.Held = true
is_held (sought.Free i) = false
is_held sought.Unsure = false

abbrev place_of : Seek → ℕ
place_of sought.Held = 0
place_of (sought.Free i) = i
place_of sought.Unsure = 0

pub tells-free : {t own : List ℕ} {ks : List (List ℕ)} → Tells t own ks → (x : List ℕ) (i : ℕ) → seek_of t own x ≡ sought.Free i → known ks x ≡ false
tells-free v x i e = v.free x (ap is_free e)

held-go : (t x : List ℕ) (ks : List (List ℕ)) (vs : List ℕ) (n : ℕ) → ((i : ℕ) → 0 < get_or vs i 0 → get_or vs i 0 < length t → known ks (key_at t (get_or vs i 0 - 1)) ≡ true) → is_held (seek_go t vs n x) ≡ true → known ks x ≡ true
unfolding seek_go
held-go t x ks [] n f h = no h
held-go t x ks (v ∷ vs) n f h = go (held-go t x ks vs (n + 1) (λ i. f (suc i))) (eqb v 0) refl (leb (length t) v) refl (same (key_at t (v - 1)) x) refl h
  where
    go : (is_held (seek_go t vs (n + 1) x) ≡ true → known ks x ≡ true) → (a : Bool) → eqb v 0 ≡ a → (b : Bool) → leb (length t) v ≡ b → (c : Bool) → same (key_at t (v - 1)) x ≡ c →
        is_held (cond a (sought.Free n) (cond b sought.Unsure (cond c sought.Held (seek_go t vs (n + 1) x)))) ≡ true → known ks x ≡ true
    go on true p b q c r h = no h
    go on false p true q c r h = no h
    go on false p false q true r h = let z = eqb-false v 0 p in ap (known ks) (sym (same-eq (key_at t (v - 1)) x r)) ∙ f 0 (omega (arith, z)) (leb-false (length t) v q)
    go on false p false q false r h = on h

-- a text that is held was met
pub tells-held : {t own : List ℕ} {ks : List (List ℕ)} → Tells t own ks → (x : List ℕ) → seek_of t own x ≡ sought.Held → known ks x ≡ true
unfolding seek_of
tells-held {t} {own} {ks} v x e =
    let m : ℕ = start_of own x in
    held-go t x ks (drop m own) m
    (λ i. subst (λ (w : ℕ). 0 < w → w < length t → known ks (key_at t (w - 1)) ≡ true) (sym (get_or-drop m own i 0)) (v.sound (m + i)))
    (ap is_held e)

-- ---- a table in which a free place was taken

data Grown : List ℕ → List ℕ → Type 0 where
  none : Grown [] []
  kept : (v : ℕ) {vs ws : List ℕ} → Grown vs ws → Grown (v ∷ vs) (v ∷ ws)
  taken : (v : ℕ) {vs ws : List ℕ} → Grown vs ws → Grown (0 ∷ vs) (v ∷ ws)

grown-same : (vs : List ℕ) → Grown vs vs
grown-same [] = none
grown-same (v ∷ vs) = kept v (grown-same vs)

grown-set : (vs : List ℕ) (j h : ℕ) → get_or vs j 0 ≡ 0 → Grown vs (set vs j h)
grown-set [] j h e = none
grown-set (v ∷ vs) zero h e = subst (λ (w : ℕ). Grown (w ∷ vs) (h ∷ vs)) (sym e) (taken h (grown-same vs))
grown-set (v ∷ vs) (suc j) h e = kept v (grown-set vs j h e)

grown-drop : (n : ℕ) {vs ws : List ℕ} → Grown vs ws → Grown (drop n vs) (drop n ws)
grown-drop zero g = g
grown-drop (suc n) none = none
grown-drop (suc n) (kept v g) = grown-drop n g
grown-drop (suc n) (taken v g) = grown-drop n g

-- what is free in it was free
grown-free : (t x : List ℕ) {vs ws : List ℕ} → Grown vs ws → (n : ℕ) → is_free (seek_go t ws n x) ≡ true → is_free (seek_go t vs n x) ≡ true
unfolding seek_go
grown-free t x none n h = h
grown-free t x (taken v g) n h = refl
grown-free t x (kept v {vs} {ws} g) n h = go (eqb v 0) (leb (length t) v) (same (key_at t (v - 1)) x) (grown-free t x g (n + 1)) h
  where
    go : (a b c : Bool) → (is_free (seek_go t ws (n + 1) x) ≡ true → is_free (seek_go t vs (n + 1) x) ≡ true) →
        is_free (cond a (sought.Free n) (cond b sought.Unsure (cond c sought.Held (seek_go t ws (n + 1) x)))) ≡ true →
        is_free (cond a (sought.Free n) (cond b sought.Unsure (cond c sought.Held (seek_go t vs (n + 1) x)))) ≡ true
    go true b c on h = refl
    go false true c on h = h
    go false false true on h = h
    go false false false on h = on h

pred-suc : (p : ℕ) → suc p - 1 ≡ p
pred-suc p = omega arith

-- a place that was taken by the text itself, or by an entry that says nothing, is not passed
says-taken : (t x : List ℕ) (n : ℕ) (vs : List ℕ) {h : ℕ} → (h ≡ 0 → ⊥) → Says t x h → is_free (seek_go t (h ∷ vs) n x) ≡ false
says-taken t x n vs z (nothing v l) = ap is_free (go-unsure t n x v vs z l)
says-taken t x n vs z (there p e) = go (leb (length t) (suc p)) refl
  where
    go : (b : Bool) → leb (length t) (suc p) ≡ b → is_free (seek_go t (suc p ∷ vs) n x) ≡ false
    go true q = ap is_free (go-unsure t n x (suc p) vs z (leb-true (length t) (suc p) q))
    go false q = ap is_free (go-key t n x (suc p) vs z (leb-false (length t) (suc p) q) ∙ ap (λ (b : Bool). cond b sought.Held (seek_go t vs (n + 1) x)) (ap (λ (m : ℕ). same (key_at t m) x) (pred-suc p) ∙ e))

-- where the place was found
record Place (t x vs : List ℕ) (n j : ℕ) : Type 0 where
  far : ℕ
  sum : n + far ≡ j
  inside : far < length vs
  empty : get_or vs far 0 ≡ 0
  then : (h : ℕ) → (h ≡ 0 → ⊥) → Says t x h → is_free (seek_go t (set vs far h) n x) ≡ false

place-go : (t x vs : List ℕ) (n j : ℕ) → seek_go t vs n x ≡ sought.Free j → Place t x vs n j
unfolding seek_go
place-go t x [] n j e = no (ap is_free e)
place-go t x (v ∷ vs) n j e = go (place-go t x vs (n + 1) j) (eqb v 0) refl (leb (length t) v) refl (same (key_at t (v - 1)) x) refl e
  where
    go : (seek_go t vs (n + 1) x ≡ sought.Free j → Place t x vs (n + 1) j) → (a : Bool) → eqb v 0 ≡ a → (b : Bool) → leb (length t) v ≡ b → (c : Bool) → same (key_at t (v - 1)) x ≡ c →
        cond a (sought.Free n) (cond b sought.Unsure (cond c sought.Held (seek_go t vs (n + 1) x))) ≡ sought.Free j → Place t x (v ∷ vs) n j
    go on true p b q c r e = record { far = 0; sum = let z = ap place_of e in omega (arith, z); inside = omega arith; empty = eqb-true v 0 p; then = λ h z s. says-taken t x n vs z s }
    go on false p true q c r e = no (ap is_free e)
    go on false p false q true r e = no (ap is_free e)
    go on false p false q false r e =
        let w = on e in
        record {
          far = suc w.far;
          sum = let z = w.sum in omega (arith, z);
          inside = let z = w.inside in omega (arith, z);
          empty = w.empty;
          then = λ h z s. ap is_free (go-key t n x v (set vs w.far h) (eqb-false v 0 p) (leb-false (length t) v q) ∙ ap (λ (b : Bool). cond b sought.Held (seek_go t (set vs w.far h) (n + 1) x)) r) ∙ w.then h z s;
        }

-- ---- after a text was met

module _ {t own : List ℕ} {ks : List (List ℕ)} (v : Tells t own ks) (x : List ℕ) (more : List (List ℕ)) (law : (y : List ℕ) → known more y ≡ same x y || known ks y) where
  met-more : (y : List ℕ) → known ks y ≡ true → known more y ≡ true
  met-more y e = law y ∙ ap (λ (b : Bool). same x y || b) e ∙ or-true (same x y)

  met-this : (y : List ℕ) → same y x ≡ true → known more y ≡ true
  met-this y e = law y ∙ ap (λ (b : Bool). b || known ks y) (ap (λ (z : List ℕ). same z y) (sym (same-eq y x e)) ∙ same_refl y)

  tells-grown : (own' : List ℕ) → Grown own own' → length own' ≡ length own →
      ((i : ℕ) → 0 < get_or own' i 0 → get_or own' i 0 < length t → known more (key_at t (get_or own' i 0 - 1)) ≡ true) →
      is_free (seek_of t own' x) ≡ false → Tells t own' more
  unfolding seek_of
  tells-grown own' g l s n = record { sound = s; free = λ y f. free y f (same x y) refl }
    where
      was : (y : List ℕ) → is_free (seek_go t (drop (start_of own' y) own') (start_of own' y) y) ≡ true → is_free (seek_go t (drop (start_of own y) own) (start_of own y) y) ≡ true
      was y f = grown-free t y (grown-drop (start_of own y) g) (start_of own y) (subst (λ (m : ℕ). is_free (seek_go t (drop (hash_of 0 y % m) own') (hash_of 0 y % m) y) ≡ true) l f)

      free : (y : List ℕ) → is_free (seek_go t (drop (start_of own' y) own') (start_of own' y) y) ≡ true → (b : Bool) → same x y ≡ b → known more y ≡ false
      free y f true e = no (sym n ∙ ap (λ (z : List ℕ). is_free (seek_go t (drop (start_of own' z) own') (start_of own' z) z)) (same-eq x y e) ∙ f)
      free y f false e = law y ∙ ap (λ (b : Bool). b || known ks y) e ∙ v.free y (was y f)

  -- where no place was free, the table stays
  stays : (h : ℕ) → is_free (seek_of t own x) ≡ false → Tells t (set own (length own) h) more
  stays h n = subst (λ (l : List ℕ). Tells t l more) (sym (set_out own (length own) h (omega arith))) (tells-grown own (grown-same own) refl (λ i a b. met-more (key_at t (get_or own i 0 - 1)) (v.sound i a b)) n)

  module _ (h : ℕ) (some : h ≡ 0 → ⊥) (says : Says t x h) where
    says-met : Says t x h → h < length t → known more (key_at t (h - 1)) ≡ true
    says-met s l = of s l
      where
        of : {m : ℕ} → Says t x m → m < length t → known more (key_at t (m - 1)) ≡ true
        of (nothing m z) l = absurd (omega (arith, z, l))
        of (there p e) l = ap (λ (m : ℕ). known more (key_at t m)) (pred-suc p) ∙ met-this (key_at t p) e

    takes : (far j : ℕ) → start_of own x + far ≡ j → j < length own → get_or own j 0 ≡ 0 → is_free (seek_go t (set (drop (start_of own x) own) far h) (start_of own x) x) ≡ false → Tells t (set own j h) more
    unfolding seek_of
    takes far j q l e n = tells-grown (set own j h) (grown-set own j h e) (length-set own j h) (λ i. sound i (eqb i j) refl)
        (ap (λ (m : ℕ). is_free (seek_go t (drop (hash_of 0 x % m) (set own j h)) (hash_of 0 x % m) x)) (length-set own j h)
        ∙ ap (λ (k : ℕ). is_free (seek_go t (drop (start_of own x) (set own k h)) (start_of own x) x)) (sym q)
        ∙ ap (λ (l : List ℕ). is_free (seek_go t l (start_of own x) x)) (drop-set-add (start_of own x) own far h) ∙ n)
      where
        Sound : ℕ → Type 0
        Sound w = 0 < w → w < length t → known more (key_at t (w - 1)) ≡ true

        sound : (i : ℕ) (b : Bool) → eqb i j ≡ b → Sound (get_or (set own j h) i 0)
        sound i true q = subst Sound (sym (ap (λ (k : ℕ). get_or (set own j h) k 0) (eqb-true i j q) ∙ get_or-set_same own j h 0 l)) (λ a b. says-met says b)
        sound i false q = subst Sound (sym (get_or-set_other own j i h 0 (eqb-false i j q))) (λ a b. met-more (key_at t (get_or own i 0 - 1)) (v.sound i a b))

  found : (p i : ℕ) → seek_of t own x ≡ sought.Free i → Tells t (set own i (hint_of t p x)) more
  unfolding seek_of
  found p i e =
      let m : ℕ = start_of own x in
      let w = place-go t x (drop m own) m i e in
      let y = w.sum in
      let z = w.inside in
      takes (hint_of t p x) (hint-some t p x) (hint-says t p x) w.far i y (omega (arith, y, z, length-drop m own))
      (ap (λ (k : ℕ). get_or own k 0) (sym y) ∙ sym (get_or-drop m own w.far 0) ∙ w.empty) (w.then (hint_of t p x) (hint-some t p x) (hint-says t p x))

  pub tells-entered : (p : ℕ) → Tells t (entered t p x own) more
  unfolding entered
  tells-entered p = go (seek_of t own x) refl
    where
      go : (s : Seek) → seek_of t own x ≡ s → Tells t (set own (free_or s (length own)) (hint_of t p x)) more
      go sought.Held e = stays (hint_of t p x) (ap is_free e)
      go sought.Unsure e = stays (hint_of t p x) (ap is_free e)
      go (sought.Free i) e = found p i e

pub tells_none : (t : List ℕ) (n : ℕ) (own : List ℕ) → own ≡ replicate n 0 → Tells t own []
unfolding known
tells_none t n own e = record { sound = λ i a b. absurd (let z = ap (λ (l : List ℕ). get_or l i 0) e ∙ zero-at n i in omega (arith, z, a)); free = λ x f. refl }
  where
    zero-at : (n i : ℕ) → get_or {A = ℕ} (replicate n 0) i 0 ≡ 0
    zero-at zero i = refl
    zero-at (suc n) zero = refl
    zero-at (suc n) (suc i) = zero-at n i

-- the texts in the order of a listing, and the last first
pub known-last : (ks : List (List ℕ)) (x y : List ℕ) → known (ks ++ x ∷ []) y ≡ same x y || known ks y
unfolding known
known-last [] x y = refl
known-last (k ∷ ks) x y = ap (λ (b : Bool). same k y || b) (known-last ks x y) ∙ go (same k y) (same x y)
  where
    go : (a b : Bool) → a || (b || known ks y) ≡ b || (a || known ks y)
    go true true = refl
    go true false = refl
    go false b = refl

pub known-first : (ks : List (List ℕ)) (x y : List ℕ) → known (x ∷ ks) y ≡ same x y || known ks y
unfolding known
known-first ks x y = refl

-- what the code learns of a text that it looked for
module _ {t own : List ℕ} {ks : List (List ℕ)} (v : Tells t own ks) {x y : List ℕ} (q : x ≡ y) {r : Seek} (e : r ≡ seek_of t own x) where
  pub met-yes : r ≡ sought.Held → true ≡ known ks y
  met-yes h = sym (ap (known ks) (sym q) ∙ tells-held v x (sym e ∙ h))

  pub met-no : (i : ℕ) → r ≡ sought.Free i → false ≡ known ks y
  met-no i h = sym (ap (known ks) (sym q) ∙ tells-free v x i (sym e ∙ h))

  pub met-on : (p : ℕ) {own' : List ℕ} → own' ≡ entered t p x own → (more : List (List ℕ)) → ((z : List ℕ) → known more z ≡ same y z || known ks z) → Tells t own' more
  met-on p f more law = subst (λ (l : List ℕ). Tells t l more) (sym f) (tells-entered v x more (λ z. law z ∙ ap (λ (w : List ℕ). same w z || known ks z) (sym q)) p)

-- the table, as it is written
pub entered_by : (t : List ℕ) (p : ℕ) (x own : List ℕ) {r : Seek} {i h : ℕ} {own' : List ℕ} → r ≡ seek_of t own x → i ≡ free_or r (length own) → h ≡ hint_of t p x → own' ≡ set own i h → own' ≡ entered t p x own
unfolding entered
entered_by t p x own {h = h} e f g d = d ∙ ap (λ (k : ℕ). set own k h) (f ∙ ap (λ (s : Seek). free_or s (length own)) e) ∙ ap (set own (free_or (seek_of t own x) (length own))) g
