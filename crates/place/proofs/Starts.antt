-- `starts_statement`: the table says what looking up from a line says, and nobody looks past a line that is not blank. Assumes nothing.
use Prim.Native.Nat.{ℕ, zero, suc, ◌-◌, ◌≤◌, ◌<◌}
use mathlib.Core.Path.{◌≡◌, refl, sym, ap, ◌∙◌}
use mathlib.Core.Bool.{Bool, true, false, cond, not, ◌&&◌, ◌||◌}
use mathlib.Core.List.{List, [], ◌∷◌, ◌++◌, append_assoc, append-nil, reverse, reverse_aux}
use native.Mathlib.Omega.{arith}
use borrow.Author.Tests.{eq-eqb, ne_eqb, eqb-true, leb-true, leb-false, not-true}
use lib.ListN.{length, get_or, take, drop}
use lib.Seq.{slice}
use lib.Dec.{eqb, leb}
use Rattle.lines.specs.Lf.{within, among, prefixed}
use Rattle.lines.proofs.Tests.{no, and_left, and_right}
use Rattle.text.specs.White.{is_white}
use Rattle.text.specs.Class.{is_quote}
use Rattle.text.specs.Utf8Form.{seq_len}
use Rattle.text.specs.Trim.{point, white_char, white_tail, end_white, to_of}
use Rattle.text.proofs.Trims.{back-stop, back_on}
use Rattle.lexical.specs.declared.Token.{Token}
use Rattle.lexical.specs.declared.Kind.{Kind}
use Rattle.lexical.specs.declared.Kind.TheVariants.{Kept, Literal, Gone}
use Rattle.lexical.specs.Lex.{last_of, token, token_of, leaves, lex_go, strip_lexical}
use Rattle.place.specs.Region.{let_phi, is_header}
use Rattle.place.specs.Starts.{is_blank, starts_after, starts_above, starts_go}
use Rattle.place.specs.Inner.Starts.{starts_by_last}

pub length-starts : (cs : List (List ℕ)) (st : Bool) → length (starts_go cs st) ≡ length cs
unfolding starts_go
length-starts [] st = refl
length-starts (t ∷ cs) st = ap suc (length-starts cs (starts_after t st))

-- ---- the table, and looking up

starts-go : (cs us : List (List ℕ)) (k : ℕ) → k < length cs → get_or (starts_go cs (starts_above us)) k true ≡ starts_above (reverse_aux (take k cs) us)
unfolding starts_go starts_above
starts-go [] us k h = absurd (omega arith)
starts-go (t ∷ cs) us zero h = refl
starts-go (t ∷ cs) us (suc k) h = starts-go cs (t ∷ us) k (omega arith)

-- the entry of a line is what the cleaned lines above it say, the nearest first
pub starts-at : (cs : List (List ℕ)) (k : ℕ) → k < length cs → get_or (starts_go cs true) k true ≡ starts_above (reverse (take k cs))
unfolding starts_above
starts-at cs k h = starts-go cs [] k h

after-shown : (t : List ℕ) (a b : Bool) → is_blank t ≡ false → starts_after t a ≡ starts_after t b
unfolding starts_after
after-shown t a b e = rw e

-- what stands above a line that is not blank is not looked at
pub starts-far : (xs ys : List (List ℕ)) (t : List ℕ) → is_blank t ≡ false → starts_above (xs ++ t ∷ ys) ≡ starts_above (xs ++ t ∷ [])
unfolding starts_above
starts-far [] ys t e = after-shown t (starts_above ys) true e
starts-far (x ∷ xs) ys t e = ap (starts_after x) (starts-far xs ys t e)

-- whether the line below some cleaned lines may begin a statement
unfoldable pub starts_below : List (List ℕ) → Bool → Bool
starts_below [] st = st
starts_below (t ∷ ts) st = starts_below ts (starts_after t st)

starts-append : (us ts : List (List ℕ)) (st : Bool) → starts_go (us ++ ts) st ≡ starts_go us st ++ starts_go ts (starts_below us st)
unfolding starts_go starts_below
starts-append [] ts st = refl
starts-append (u ∷ us) ts st = ap (λ (r : List Bool). st ∷ r) (starts-append us ts (starts_after u st))

-- of a tail whose first line is not blank, the entries below that line are those of the tail alone
pub starts-cut : (us ts : List (List ℕ)) (t : List ℕ) → is_blank t ≡ false → starts_go (us ++ t ∷ ts) true ≡ starts_go us true ++ starts_below us true ∷ drop 1 (starts_go (t ∷ ts) true)
unfolding starts_go
starts-cut us ts t e =
    starts-append us (t ∷ ts) true ∙ ap (λ (b : Bool). starts_go us true ++ starts_below us true ∷ starts_go ts b) (after-shown t (starts_below us true) true e)

-- ---- a line that begins with a byte which cleaning and trimming leave alone is not blank

-- no `/`, no quote, ASCII, and no white space
abbrev pub shown : ℕ → Bool
shown x = not (eqb x 47) && (not (is_quote x) && (within 0 127 x && not (is_white x)))

-- what is left so far stays
pub lex-keeps : (l : List ℕ) (k : ℕ) (out : List ℕ) → (r : List ℕ) × (lex_go l k out ≡ out ++ r)
unfolding lex_go
lex-keeps [] k out = ([], sym (append-nil out))
lex-keeps (x ∷ xs) (suc k) out = lex-keeps xs k out
lex-keeps (x ∷ xs) zero out =
    let t : Token = token_of (last_of out) x xs in
    let h = lex-keeps xs (t.size - 1) (out ++ leaves t.kind x) in
    (leaves t.kind x ++ h.0, h.1 ∙ append_assoc out (leaves t.kind x) h.0)

module _ (x : ℕ) (h : shown x ≡ true) where
  no_slash : eqb x 47 ≡ false
  no_slash = not-true (eqb x 47) (and_left (not (eqb x 47)) (not (is_quote x) && (within 0 127 x && not (is_white x))) h)

  past_slash : not (is_quote x) && (within 0 127 x && not (is_white x)) ≡ true
  past_slash = and_right (not (eqb x 47)) (not (is_quote x) && (within 0 127 x && not (is_white x))) h

  no-quote : is_quote x ≡ false
  no-quote = not-true (is_quote x) (and_left (not (is_quote x)) (within 0 127 x && not (is_white x)) past_slash)

  past-quote : within 0 127 x && not (is_white x) ≡ true
  past-quote = and_right (not (is_quote x)) (within 0 127 x && not (is_white x)) past_slash

  ascii : within 0 127 x ≡ true
  ascii = and_left (within 0 127 x) (not (is_white x)) past-quote

  no-white : is_white x ≡ false
  no-white = not-true (is_white x) (and_right (within 0 127 x) (not (is_white x)) past-quote)

  kept : (last : ℕ) (xs : List ℕ) → token_of last x xs ≡ token 1 Kept
  unfolding token_of
  kept last xs = rw (no_slash, no-quote)

  -- it stays at the front of the cleaned line
  pub strip-shown : (xs : List ℕ) → (r : List ℕ) × (strip_lexical (x ∷ xs) ≡ x ∷ r)
  unfolding strip_lexical lex_go
  strip-shown xs =
      let e : lex_go (x ∷ xs) 0 [] ≡ lex_go xs 0 (x ∷ []) = ap (λ (t : Token). lex_go xs (t.size - 1) (leaves t.kind x)) (kept (last_of []) xs) in
      let h = lex-keeps xs 0 (x ∷ []) in
      (h.0, e ∙ h.1)

  -- it begins no white space
  white-shown : (w : List ℕ) → white_char (x ∷ w) ≡ false
  unfolding white_char seq_len
  white-shown [] = rw (ascii, no-white)
  white-shown (y ∷ w) = rw ascii (ap (λ (b : Bool). b && is_white (point (x ∷ y ∷ w))) (ne_eqb 1 (suc (suc (length w))) (λ e. omega arith)))

-- what a white space before the place e is
tail-is : (s : List ℕ) (e k : ℕ) → white_tail s e ≡ suc k → white_char (slice (e - suc k) e s) ≡ true
unfolding white_tail
tail-is s e k h = go (white_char (slice (e - 1) e s)) refl (white_char (slice (e - 2) e s)) refl (white_char (slice (e - 3) e s)) refl h
  where
    at : (n : ℕ) → n ≡ suc k → white_char (slice (e - n) e s) ≡ true → white_char (slice (e - suc k) e s) ≡ true
    at n q w = ap (λ (m : ℕ). white_char (slice (e - m) e s)) (sym q) ∙ w

    go : (a : Bool) → white_char (slice (e - 1) e s) ≡ a → (b : Bool) → white_char (slice (e - 2) e s) ≡ b → (c : Bool) → white_char (slice (e - 3) e s) ≡ c →
        cond a 1 (cond b 2 (cond c 3 0)) ≡ suc k → white_char (slice (e - suc k) e s) ≡ true
    go true p b q c r z = at 1 z p
    go false p true q c r z = at 2 z q
    go false p false q true r z = at 3 z r
    go false p false q false r z = absurd (omega arith)

module _ (x : ℕ) (h : shown x ≡ true) (r : List ℕ) where
  stay-by : (n e w : ℕ) → white_tail (x ∷ r) (suc e) ≡ w → suc e ≤ suc n → suc e ≤ length (x ∷ r) →
      ((d : ℕ) → d ≤ n → 0 < d → d ≤ length (x ∷ r) → 0 < end_white (x ∷ r) 0 d) → 0 < end_white (x ∷ r) 0 (suc e)
  stay-by n e zero z p b f = let k = back-stop (x ∷ r) (suc e) (omega arith) z in omega arith
  stay-by n e (suc k) z p b f = go (leb e k) refl
    where
      on : end_white (x ∷ r) 0 (suc e) ≡ end_white (x ∷ r) 0 (suc e - suc k)
      on = back_on (x ∷ r) (suc e) (suc k) (omega arith) z (λ y. omega arith)

      go : (t : Bool) → leb e k ≡ t → 0 < end_white (x ∷ r) 0 (suc e)
      go true t =
          let l = leb-true e k t in
          let v : suc e - suc k ≡ 0 = omega arith in
          let w : white_char (slice 0 (suc e) (x ∷ r)) ≡ true = ap (λ (m : ℕ). white_char (slice m (suc e) (x ∷ r))) (sym v) ∙ tail-is (x ∷ r) (suc e) k z in
          no (sym (white-shown x h (take e r)) ∙ w)
      go false t =
          let l = leb-false e k t in
          let g = f (suc e - suc k) (omega arith) (omega arith) (omega arith) in
          omega (arith, on)

  -- the white space at the end stops before it
  stays : (n e : ℕ) → e ≤ n → 0 < e → e ≤ length (x ∷ r) → 0 < end_white (x ∷ r) 0 e
  stays zero e p q b = absurd (omega arith)
  stays (suc n) zero p q b = absurd (omega arith)
  stays (suc n) (suc e) p q b = stay-by n e (white_tail (x ∷ r) (suc e)) refl p b (λ d. stays n d)

  to_of-shown : is_blank (x ∷ r) ≡ false
  unfolding to_of
  to_of-shown = ne_eqb (to_of (x ∷ r)) 0 (λ e. let k = stays (length (x ∷ r)) (length (x ∷ r)) (omega arith) (omega arith) (omega arith) in omega arith)

pub line-shown : (x : ℕ) (xs : List ℕ) → shown x ≡ true → is_blank (strip_lexical (x ∷ xs)) ≡ false
line-shown x xs h = let p = strip-shown x h xs in ap is_blank p.1 ∙ to_of-shown x h p.0

-- ---- a header begins with a letter

first-letter : (x : ℕ) (p q r s t : Bool) → (eqb 102 x && p) || ((eqb 118 x && q) || ((eqb 108 x && r) || ((eqb 99 x && s) || (eqb 99 x && t)))) ≡ true → shown x ≡ true
unfolding is_white
first-letter x p q r s t h = go (eqb 102 x) refl (eqb 118 x) refl (eqb 108 x) refl (eqb 99 x) refl h
  where
    at : (n : ℕ) → eqb n x ≡ true → shown n ≡ true → shown x ≡ true
    at n e g = ap shown (sym (eqb-true n x e)) ∙ g

    go : (a : Bool) → eqb 102 x ≡ a → (b : Bool) → eqb 118 x ≡ b → (c : Bool) → eqb 108 x ≡ c → (d : Bool) → eqb 99 x ≡ d →
        (a && p) || ((b && q) || ((c && r) || ((d && s) || (d && t)))) ≡ true → shown x ≡ true
    go true e b f c g d k z = at 102 e refl
    go false e true f c g d k z = at 118 f refl
    go false e false f true g d k z = at 108 g refl
    go false e false f false g true k z = at 99 k refl
    go false e false f false g false k z = no z

-- a header is not blank once cleaned
pub header-shown : (l : List ℕ) → is_header l ≡ true → is_blank (strip_lexical l) ≡ false
unfolding is_header prefixed
header-shown [] h = no h
header-shown (x ∷ xs) h = line-shown x xs (first-letter x _ _ _ _ _ (and_right (not (prefixed let_phi (x ∷ xs))) _ h))

-- ---- the last character says whether a text of bytes is blank

-- every byte is below 256
abbrev pub Bytes : List ℕ → Type 0
Bytes l = (i : ℕ) → get_or l i 0 < 256

bytes-append : (a b : List ℕ) → Bytes a → Bytes b → Bytes (a ++ b)
bytes-append [] b p q i = q i
bytes-append (x ∷ a) b p q zero = p 0
bytes-append (x ∷ a) b p q (suc i) = bytes-append a b (λ j. p (suc j)) q i

bytes-leaves : (k : Kind) (x : ℕ) → x < 256 → Bytes (leaves k x)
bytes-leaves Kept x h zero = h
bytes-leaves Kept x h (suc i) = omega arith
bytes-leaves Literal x h zero = omega arith
bytes-leaves Literal x h (suc i) = omega arith
bytes-leaves Gone x h i = omega arith

bytes-go : (l : List ℕ) (k : ℕ) (out : List ℕ) → Bytes l → Bytes out → Bytes (lex_go l k out)
unfolding lex_go
bytes-go [] k out p q = q
bytes-go (x ∷ xs) (suc k) out p q = bytes-go xs k out (λ i. p (suc i)) q
bytes-go (x ∷ xs) zero out p q =
    let t : Token = token_of (last_of out) x xs in
    bytes-go xs (t.size - 1) (out ++ leaves t.kind x) (λ i. p (suc i)) (bytes-append out (leaves t.kind x) q (bytes-leaves t.kind x (p 0)))

pub bytes-strip : (l : List ℕ) → Bytes l → Bytes (strip_lexical l)
unfolding strip_lexical
bytes-strip l p = bytes-go l 0 [] p (λ i. omega arith)

pub last-blank : (t : List ℕ) → Bytes t → eqb (last_of t) 256 ≡ is_blank t
unfolding last_of
last-blank t p = go (is_blank t)
  where
    go : (b : Bool) → eqb (cond b 256 (get_or t (to_of t - 1) 0)) 256 ≡ b
    go true = refl
    go false = let k = p (to_of t - 1) in ne_eqb (get_or t (to_of t - 1) 0) 256 (λ e. omega arith)

-- so it says what the line below may begin
pub after-by : (t : List ℕ) (st : Bool) → Bytes t → starts_by_last (last_of t) st ≡ starts_after t st
unfolding starts_by_last starts_after
after-by t st p = ap (λ (b : Bool). cond b st (among (59 ∷ 123 ∷ 125 ∷ 58 ∷ []) (last_of t))) (last-blank t p)

-- and the last character of a cleaned header is one
pub header-last : (l : List ℕ) → Bytes l → is_header l ≡ true → last_of (strip_lexical l) ≡ 256 → ⊥
header-last l p h e =
    let z : eqb (last_of (strip_lexical l)) 256 ≡ true = eq-eqb (last_of (strip_lexical l)) 256 e in
    no (sym (header-shown l h) ∙ sym (last-blank (strip_lexical l) (bytes-strip l p)) ∙ z)
