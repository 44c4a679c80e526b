-- Laws of `Wrote`. Assumes nothing.
use Rattle.std.proofs.Common.{◌≡◌, ℕ, zero, suc, ◌+◌, ◌-◌, ◌<◌, ◌≤◌, List, [], ◌∷◌, ◌++◌, length, get_or, take, drop, set, replicate, sym, refl, ap, ◌∙◌, subst, append_assoc, append-nil, add-zero, add_assoc, add-one, arith, length-append, length-drop, take-append-drop, drop_of_length-le, length-take, length-take-le, get_or-drop, take_all, drop-cons, take-suc, drop-drop, take_at, take-add, drop_at}
use borrow.Rule.Slice.PartMut.{put_mid, Post-is}
use lib.ListN.{length-replicate}
use lib.Seq.{slice, drop-append-le, drop-append-add, set_split, append_snoc}
use Rattle.lines.specs.Inner.Out.{put_at, Wrote}

-- one more element at the end of a part
pub slice_snoc : (f t : ℕ) (l : List ℕ) → f ≤ t → t < length l → slice f (suc t) l ≡ slice f t l ++ (get_or l t 0 ∷ [])
slice_snoc f t l h k =
    ap (drop f) (take-suc l t 0 k)
    ∙ drop-append-le f (take t l) (get_or l t 0 ∷ []) (simp length-take (omega arith))

pub put-length : (d : List ℕ) (o : ℕ) (xs : List ℕ) → o + length xs ≤ length d → length (put_at d o xs) ≡ length d
unfolding put_at
put-length d o xs h = simp (length-append, length-take, length-drop) (omega arith)

pub put-put : (d : List ℕ) (o : ℕ) (xs ys : List ℕ) → o + length xs ≤ length d → put_at (put_at d o xs) (o + length xs) ys ≡ put_at d o (xs ++ ys)
unfolding put_at
put-put d o xs ys h =
    let a : ℕ = o + length xs in
    let q : List ℕ = take o d ++ xs in
    let e : length q ≡ a = length-append (take o d) xs ∙ ap (λ (n : ℕ). n + length xs) (length-take-le o d (omega arith)) in
    let t₁ : take a (q ++ drop a d) ≡ q = take_at q (drop a d) a e in
    let t₂ : drop (a + length ys) (q ++ drop a d) ≡ drop (a + length ys) d =
    sym (drop-drop (length ys) a (q ++ drop a d)) ∙ ap (drop (length ys)) (drop_at q (drop a d) a e) ∙ drop-drop (length ys) a d in
    ap (λ (r : List ℕ). r ++ ys ++ drop (a + length ys) (q ++ drop a d)) t₁
    ∙ ap (λ (r : List ℕ). q ++ ys ++ r) t₂
    ∙ ap (λ (r : List ℕ). r ++ drop (a + length ys) d) (append_assoc (take o d) xs ys)
    ∙ ap (λ (n : ℕ). take o d ++ (xs ++ ys) ++ drop n d) (add_assoc o (length xs) (length ys) ∙ ap (λ (n : ℕ). o + n) (sym (length-append xs ys)))

pub wrote-length : {d xs d' : List ℕ} {o r : ℕ} → Wrote d o xs d' r → length d' ≡ length d
wrote-length {d} {xs} {d'} {o} {r} w = ap length w.holds ∙ put-length d o xs w.fits

pub wrote-nil : (d : List ℕ) (o : ℕ) → o ≤ length d → Wrote d o [] d o
unfolding put_at
wrote-nil d o h = record {
  fits = omega arith;
  place = omega arith;
  holds = sym (rw (add-zero o, append-nil (take o d)) (take-append-drop o d));
}

pub wrote-byte : (d : List ℕ) (o b : ℕ) → o < length d → Wrote d o (b ∷ []) (set d o b) (o + 1)
unfolding put_at
wrote-byte d o b h = record {
  fits = omega arith;
  place = refl;
  holds = set_split d o b h ∙ sym (append_snoc (take o d) b (drop (suc o) d)) ∙ ap (λ (n : ℕ). take o d ++ (b ∷ []) ++ drop n d) (sym (add-one o));
}

pub wrote_then : {d xs d₁ ys d₂ : List ℕ} {o p r : ℕ} → Wrote d o xs d₁ p → Wrote d₁ p ys d₂ r → Wrote d o (xs ++ ys) d₂ r
wrote_then {d} {xs} {d₁} {ys} {d₂} {o} {p} {r} w v = record {
  fits = let e = wrote-length w in let f = w.place in let g = v.fits in omega (arith, length-append xs ys);
  place = let f = w.place in let g = v.place in omega (arith, length-append xs ys);
  holds = v.holds ∙ ap (λ (l : List ℕ). put_at l p ys) w.holds ∙ ap (λ (n : ℕ). put_at (put_at d o xs) n ys) w.place ∙ put-put d o xs ys w.fits;
}

-- a byte more
pub wrote-more : {d xs d₁ : List ℕ} {o p : ℕ} (b : ℕ) → Wrote d o xs d₁ p → p < length d₁ → Wrote d o (xs ++ (b ∷ [])) (set d₁ p b) (p + 1)
wrote-more {d} {xs} {d₁} {o} {p} b w h = wrote_then w (wrote-byte d₁ p b h)

-- what is written at another name
pub wrote_as : {d xs d' : List ℕ} {o r : ℕ} {ys : List ℕ} → xs ≡ ys → Wrote d o xs d' r → Wrote d o ys d' r
wrote_as {d} {xs} {d'} {o} {r} {ys} e w = rw (← e) w

-- what stood before is still there
pub wrote-below : {d xs d' : List ℕ} {o r : ℕ} → Wrote d o xs d' r → take o d' ≡ take o d
unfolding put_at
wrote-below {d} {xs} {d'} {o} {r} w =
    ap (take o) (w.holds ∙ append_assoc (take o d) xs (drop (o + length xs) d))
    ∙ take_at (take o d) (xs ++ drop (o + length xs) d) o (length-take-le o d (let f = w.fits in omega arith))

-- and what was written is there
pub wrote-part : {d xs d' : List ℕ} {o r : ℕ} → Wrote d o xs d' r → slice o r d' ≡ xs
unfolding put_at
wrote-part {d} {xs} {d'} {o} {r} w =
    let f = w.fits in
    let e : length (take o d) ≡ o = length-take-le o d (omega arith) in
    ap (λ (l : List ℕ). slice o r l) w.holds ∙ ap (λ (n : ℕ). slice o n (put_at d o xs)) w.place
    ∙ ap (drop o) (take_at (take o d ++ xs) (drop (o + length xs) d) (o + length xs) (length-append (take o d) xs ∙ ap (λ (n : ℕ). n + length xs) e))
    ∙ drop_at (take o d) xs o e

-- what was written says what the buffer is now and where the writing ended
pub wrote-once : {d xs d₁ d₂ : List ℕ} {o r₁ r₂ : ℕ} → Wrote d o xs d₁ r₁ → Wrote d o xs d₂ r₂ → (d₁ ≡ d₂) × (r₁ ≡ r₂)
wrote-once w v = (w.holds ∙ sym v.holds, w.place ∙ sym v.place)

-- ---- a text that is written bit by bit: of `whole`, from the place a on, `rest` is still to come

pub record Writing (a : ℕ) (whole rest d₀ d : List ℕ) (o : ℕ) : Type 0 where
  pub room : a + length whole ≤ length d₀
  pub done : List ℕ
  pub wrote : Wrote d₀ a done d o
  pub so_far : done ++ rest ≡ whole

pub writing_start : (a : ℕ) (whole d : List ℕ) → a + length whole ≤ length d → Writing a whole whole d d a
writing_start a whole d h = record { room = h; done = []; wrote = wrote-nil d a (omega arith); so_far = refl }

-- what is still to come at another name
pub writing-as : {a o : ℕ} {whole rest d₀ d next : List ℕ} → rest ≡ next → Writing a whole rest d₀ d o → Writing a whole next d₀ d o
writing-as e w = rw (← e) w

pub writing-length : {a o : ℕ} {whole rest d₀ d : List ℕ} → Writing a whole rest d₀ d o → length d ≡ length d₀
writing-length w = wrote-length w.wrote

-- there is room for what is still to come
pub writing-room : {a o : ℕ} {whole rest d₀ d : List ℕ} → Writing a whole rest d₀ d o → o + length rest ≤ length d
writing-room {a} {o} {whole} {rest} {d₀} {d} w =
    omega (arith, w.room, w.wrote.place, wrote-length w.wrote, length-append w.done rest, ap length w.so_far)

-- one piece more
pub writing-put : {a o r : ℕ} {whole xs rest d₀ d d' : List ℕ} → Writing a whole (xs ++ rest) d₀ d o → Wrote d o xs d' r → Writing a whole rest d₀ d' r
writing-put {a} {o} {r} {whole} {xs} {rest} w v = record {
  room = w.room;
  done = w.done ++ xs;
  wrote = wrote_then w.wrote v;
  so_far = append_assoc w.done xs rest ∙ w.so_far;
}

pub writing-end : {a o : ℕ} {whole d₀ d : List ℕ} → Writing a whole [] d₀ d o → Wrote d₀ a whole d o
writing-end w = wrote_as (sym (append-nil w.done) ∙ w.so_far) w.wrote

-- ---- the loop of `put_each`

pub each-start : (d : List ℕ) (o : ℕ) → o ≤ length d → Wrote d o [] d (o + 0)
each-start d o h = let e : o ≡ o + 0 = omega arith in subst (λ (n : ℕ). Wrote d o [] d n) e (wrote-nil d o h)

-- a byte of t more
pub each-more : (t : List ℕ) {d₀ d : List ℕ} (o j : ℕ) → o + length t ≤ length d₀ → j < length t → Wrote d₀ o (take j t) d (o + j) → Wrote d₀ o (take (j + 1) t) (set d (o + j) (get_or t j 0)) (o + (j + 1))
each-more t {d₀} {d} o j r l w =
    let e : o + j + 1 ≡ o + (j + 1) = omega arith in
    let c : take j t ++ (get_or t j 0 ∷ []) ≡ take (j + 1) t = sym (ap (λ (n : ℕ). take n t) (add-one j) ∙ take-suc t j 0 l) in
    subst (λ (n : ℕ). Wrote d₀ o (take (j + 1) t) (set d (o + j) (get_or t j 0)) n) e (wrote_as c (wrote-more (get_or t j 0) w (omega (arith, wrote-length w))))

-- ---- a loop that writes a list entry by entry

pub record PutInv (t d₀ d : List ℕ) (o j p : ℕ) : Type 0 where
  pub j≤ : j ≤ length t
  pub room : o + length t ≤ length d₀
  pub wrote : Wrote d₀ o (take j t) d p

pub put-start : (t d : List ℕ) (o : ℕ) → o + length t ≤ length d → PutInv t d d o 0 o
put-start t d o r = record { j≤ = omega arith; room = r; wrote = wrote-nil d o (omega arith) }

module _ {t d₀ d : List ℕ} {o j p : ℕ} (h : PutInv t d₀ d o j p) where
  pub put_in : j < length t → p < length d
  put_in l = omega (arith, wrote-length h.wrote, length-take-le j t h.j≤, h.wrote.place, h.room)

  pub put_byte : j < length t → PutInv t d₀ (set d p (get_or t j 0)) o (j + 1) (p + 1)
  put_byte l = record {
    j≤ = omega arith;
    room = h.room;
    wrote = wrote_as (sym (ap (λ (n : ℕ). take n t) (add-one j) ∙ take-suc t j 0 l)) (wrote-more (get_or t j 0) h.wrote (put_in l));
  }

  pub put-end : length t ≤ j → Wrote d₀ o t d p
  put-end l = wrote_as (take_all j t l) h.wrote

-- ---- parts of one text, the later over the end of the earlier

put-again : (d : List ℕ) (o : ℕ) (xs ys : List ℕ) → o + length xs ≤ length d → length xs ≤ length ys → put_at (put_at d o xs) o ys ≡ put_at d o ys
unfolding put_at
put-again d o xs ys h k =
    let q : List ℕ = take o d ++ xs in
    let m : ℕ = length ys - length xs in
    let a : length (take o d) ≡ o = length-take-le o d (omega arith) in
    let e : length q + m ≡ o + length ys = omega (arith, length-append (take o d) xs, a) in
    let f : o + length xs + m ≡ o + length ys = omega arith in
    ap (λ (r : List ℕ). r ++ ys ++ drop (o + length ys) (q ++ drop (o + length xs) d)) (ap (take o) (append_assoc (take o d) xs (drop (o + length xs) d)) ∙ take_at (take o d) (xs ++ drop (o + length xs) d) o a)
    ∙ ap (λ (r : List ℕ). take o d ++ ys ++ r) (ap (λ (n : ℕ). drop n (q ++ drop (o + length xs) d)) (sym e) ∙ drop-append-add q (drop (o + length xs) d) m ∙ drop-drop m (o + length xs) d ∙ ap (λ (n : ℕ). drop n d) f)

-- the first m bytes of a text, then those from a on, where a is not past m
pub wrote-over : {t d d₁ d₂ : List ℕ} {o p q r : ℕ} (m a : ℕ) → a ≤ m → m ≤ length t → q ≡ o + a →
    Wrote d o (take m t) d₁ p → Wrote d₁ q (drop a t) d₂ r → Wrote d o t d₂ (o + length t)
wrote-over {t} {d} {d₁} {d₂} {o} {p} {q} {r} m a h k e w v =
    let xs : List ℕ = take a t in
    let ys : List ℕ = take (m - a) (drop a t) in
    let z : m ≡ a + (m - a) = omega arith in
    let c : take m t ≡ xs ++ ys = ap (λ (n : ℕ). take n t) z ∙ take-add a (m - a) t in
    let lm : length (take m t) ≡ m = length-take-le m t k in
    let la : length xs ≡ a = length-take-le a t (omega arith) in
    let ly : length ys ≡ m - a = length-take-le (m - a) (drop a t) (omega (arith, length-drop a t)) in
    let lt = length-drop a t in
    let fit : o + length xs ≤ length d = omega (arith, w.fits, lm, la) in
    let at : q ≡ o + length xs = omega (arith, la) in
    let g : put_at d o (take m t) ≡ put_at (put_at d o xs) (o + length xs) ys = ap (put_at d o) c ∙ sym (put-put d o xs ys fit) in
    let l = put-length d o xs fit in
    record {
      fits = omega (arith, v.fits, wrote-length w, lt);
      place = refl;
      holds = v.holds ∙ ap (λ (n : ℕ). put_at d₁ n (drop a t)) at ∙ ap (λ (x : List ℕ). put_at x (o + length xs) (drop a t)) (w.holds ∙ g)
          ∙ put-again (put_at d o xs) (o + length xs) ys (drop a t) (omega (arith, w.fits, lm, la, ly, l)) (omega (arith, ly, lt))
          ∙ put-put d o xs (drop a t) fit ∙ ap (put_at d o) (take-append-drop a t);
    }

-- ---- eight bytes, one after the other

module _ (t d : List ℕ) (o j : ℕ) (h : (o + 8 ≤ length d) × (j + 8 ≤ length t)) where
  put_next : {d₁ : List ℕ} (k : ℕ) → k < 8 → Wrote d o (take k (drop j t)) d₁ (o + k) → Wrote d o (take (suc k) (drop j t)) (set d₁ (o + k) (get_or t (j + k) 0)) (o + suc k)
  put_next {d₁} k l w =
      let e : o + k + 1 ≡ o + suc k = omega arith in
      let c : take k (drop j t) ++ (get_or t (j + k) 0 ∷ []) ≡ take (suc k) (drop j t) =
      sym (take-suc (drop j t) k 0 (omega (arith, h.1, length-drop j t)) ∙ ap (λ (x : ℕ). take k (drop j t) ++ (x ∷ [])) (get_or-drop j t k 0)) in
      subst (λ (n : ℕ). Wrote d o (take (suc k) (drop j t)) (set d₁ (o + k) (get_or t (j + k) 0)) n) e (wrote_as c (wrote-more (get_or t (j + k) 0) w (omega (arith, h.0, wrote-length w))))

  pub put-eight : Wrote d o (take 8 (drop j t)) (set (set (set (set (set (set (set (set d o (get_or t j 0)) (o + 1) (get_or t (j + 1) 0)) (o + 2) (get_or t (j + 2) 0)) (o + 3) (get_or t (j + 3) 0)) (o + 4) (get_or t (j + 4) 0)) (o + 5) (get_or t (j + 5) 0)) (o + 6) (get_or t (j + 6) 0)) (o + 7) (get_or t (j + 7) 0)) (o + 8)
  put-eight =
      let first : Wrote d o (take 1 (drop j t)) (set d o (get_or t j 0)) (o + 1) = wrote_as (sym (ap (take 1) (drop-cons t j 0 (omega (arith, h.1))))) (wrote-byte d o (get_or t j 0) (omega (arith, h.0))) in
      put_next 7 (omega arith) (put_next 6 (omega arith) (put_next 5 (omega arith) (put_next 4 (omega arith) (put_next 3 (omega arith) (put_next 2 (omega arith) (put_next 1 (omega arith) first))))))

-- zeros over the first n bytes
pub wiped : (d z : List ℕ) (n : ℕ) → n ≤ length d → z ≡ replicate (length (take n d)) 0 → Wrote d 0 (replicate n 0) (z ++ drop n d) n
unfolding put_at
wiped d z n h e =
    let l : length {A = ℕ} (replicate n 0) ≡ n = length-replicate {A = ℕ} n 0 in
    let m : 0 + length {A = ℕ} (replicate n 0) ≡ n = omega arith in
    record {
      fits = omega arith;
      place = omega arith;
      holds = ap (λ (r : List ℕ). r ++ drop n d) (e ∙ ap (λ (k : ℕ). replicate k 0) (length-take-le n d h)) ∙ ap (λ (k : ℕ). replicate n 0 ++ drop k d) (sym m);
    }

pub zeros-more : (i : ℕ) → replicate i 0 ++ (0 ∷ []) ≡ replicate {A = ℕ} (suc i) 0
zeros-more zero = refl
zeros-more (suc i) = ap (λ (l : List ℕ). 0 ∷ l) (zeros-more i)

pub wipe-end : {d₀ d : List ℕ} {i n : ℕ} → i ≡ n → Wrote d₀ 0 (replicate i 0) d i → Wrote d₀ 0 (replicate n 0) d n
wipe-end {d₀} {d} e w = subst (λ (k : ℕ). Wrote d₀ 0 (replicate k 0) d k) e w

-- what is written over all of a buffer is all that it holds
pub wrote-whole : {d xs d' : List ℕ} {r : ℕ} → Wrote d 0 xs d' r → length xs ≡ length d → d' ≡ xs
unfolding put_at
wrote-whole {d} {xs} w e = w.holds ∙ ap (λ (l : List ℕ). xs ++ l) (drop_of_length-le d {i = 0 + length xs} (omega arith)) ∙ append-nil xs

-- what a part of a buffer is made to be has been written there
pub wrote_part : (d xs ys : List ℕ) (o e : ℕ) → o + length xs ≡ e → e ≤ length d → ys ≡ xs → Wrote d o xs (put_mid o (e - o) d ys) e
unfolding put_at
wrote_part d xs ys o e q h y = record {
  fits = omega arith;
  place = sym q;
  holds =
      ap (put_mid o (e - o) d) y
      ∙ ap (λ (l : List ℕ). take o d ++ (xs ++ l)) (Post-is o e d (omega arith) ∙ ap (λ (j : ℕ). drop j d) (sym q))
      ∙ sym (append_assoc (take o d) xs (drop (o + length xs) d));
}
