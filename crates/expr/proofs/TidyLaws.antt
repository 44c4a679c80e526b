-- Strict mode cuts comments at each level of a value, and once does the same. A text that has no comment outside quotes loses none;
-- what follows a comma inside a quote is judged from the middle of that quote, but there the element before it is not pure. Assumes nothing.
use Prim.Native.Nat.{ℕ, suc, ◌+◌, ◌-◌}
use mathlib.Core.Path.{◌≡◌, refl, sym, ap, ◌∙◌}
use mathlib.Core.Bool.{Bool, true, false, cond, not, ◌&&◌, ◌||◌}
use mathlib.Core.List.{List, [], ◌∷◌, ◌++◌}
use native.Mathlib.Omega.{arith}
use borrow.Author.Tests.{eqb-true, not-true}
use lib.Dec.{eqb, leb}
use lib.ListN.{length, take, get_or}
use lib.Seq.{append_snoc, take-suc, take-length}
use Rattle.lines.specs.Ascii.{ascii}
use Rattle.lines.specs.Lf.{prefixed, among, same, all, is_empty}
use Rattle.lines.proofs.Tests.{no, and-false, and_left, and_right, and_both}
use Rattle.lines.proofs.Compare.{same-eq}
use Rattle.text.specs.Class.{is_name, is_quote}
use Rattle.names.specs.Names.{reg_of, is_reg, is_ident}
use Rattle.std.specs.declared.option.Option.{Option}
use Rattle.names.specs.declared.Register.{Register}
use Rattle.std.specs.declared.option.Option.TheVariants.{Some, None}
use Rattle.names.proofs.Texts.{reg-names, ident-names}
use Rattle.lexical.specs.Lex.{quote_len, quote_shut}
use Rattle.expr.specs.Quotes.{cut_go, strip_quoted, is_closed}
use Rattle.expr.specs.Pure.{is_space, space_start, unless_blank, space_end, space_trim, is_word, starts_number, is_number_byte, wrapped, shape_of, inner, openings, closings, elements}
use Rattle.expr.specs.declared.kinds.Shape.TheVariants.{Plain, Array}
use Rattle.expr.specs.declared.kinds.Purity.TheVariants.{Effectful}
use Rattle.expr.proofs.CommentLaws.{prefix-less, pair, second, other}
use Rattle.expr.proofs.SpaceLaws.{end_rest}

-- ---- where a byte of a text stands

-- outside quotes, in the quote q, or in it after a `\`
pub data At : Type 0 where
  outside : At
  quoted : ℕ → At
  escaped : ℕ → At

-- where the byte after x stands
abbrev pub next : At → ℕ → At
next outside x = cond (is_quote x) (quoted x) outside
next (quoted q) x = cond (eqb x 92) (escaped q) (cond (eqb x q) outside (quoted q))
next (escaped q) x = quoted q

-- where the byte after a text stands
abbrev pub ends : At → List ℕ → At
ends p [] = p
ends p (x ∷ s) = ends (next p x) s

abbrev pub is_out : At → Bool
is_out outside = true
is_out (quoted q) = false
is_out (escaped q) = false

-- a text that begins outside quotes ends outside them
abbrev pub whole : List ℕ → Bool
whole s = is_out (ends outside s)

-- no comment begins at the front of a text
abbrev bare : List ℕ → Bool
bare l = not (prefixed (47 ∷ 42 ∷ []) l) && not (prefixed (47 ∷ 47 ∷ []) l)

abbrev here : At → List ℕ → Bool
here outside l = bare l
here (quoted q) l = true
here (escaped q) l = true

-- no comment begins outside quotes
abbrev pub tidy : At → List ℕ → Bool
tidy p [] = true
tidy p (x ∷ s) = here p (x ∷ s) && tidy (next p x) s

pub out-is : (p : At) → is_out p ≡ true → p ≡ outside
out-is outside h = refl
out-is (quoted q) h = no h
out-is (escaped q) h = no h

pub ends-append : (p : At) (x y : List ℕ) → ends p (x ++ y) ≡ ends (ends p x) y
ends-append p [] y = refl
ends-append p (a ∷ x) y = ends-append (next p a) x y

bare-less : (x y : List ℕ) → bare (x ++ y) ≡ true → bare x ≡ true
bare-less x y h =
    let t = not (prefixed (47 ∷ 42 ∷ []) (x ++ y)) in
    let u = not (prefixed (47 ∷ 47 ∷ []) (x ++ y)) in
    rw (prefix-less (47 ∷ 42 ∷ []) x y (not-true _ (and_left t u h)), prefix-less (47 ∷ 47 ∷ []) x y (not-true _ (and_right t u h)))

here-less : (p : At) (x y : List ℕ) → here p (x ++ y) ≡ true → here p x ≡ true
here-less outside x y h = bare-less x y h
here-less (quoted q) x y h = refl
here-less (escaped q) x y h = refl

tidy-left : (p : At) (x y : List ℕ) → tidy p (x ++ y) ≡ true → tidy p x ≡ true
tidy-left p [] y h = refl
tidy-left p (a ∷ x) y h =
    and_both (here-less p (a ∷ x) y (and_left (here p (a ∷ x ++ y)) _ h)) (tidy-left (next p a) x y (and_right (here p (a ∷ x ++ y)) _ h))

tidy-right : (p : At) (x y : List ℕ) → tidy p (x ++ y) ≡ true → tidy (ends p x) y ≡ true
tidy-right p [] y h = h
tidy-right p (a ∷ x) y h = tidy-right (next p a) x y (and_right (here p (a ∷ x ++ y)) _ h)

-- ---- what is left of a text from a place of it on

abbrev cut_at : At → List ℕ → List ℕ
cut_at outside s = cut_go s 0 false
cut_at (quoted q) s = cut_go s (quote_len s q) false
cut_at (escaped q) [] = []
cut_at (escaped q) (x ∷ s) = x ∷ cut_go s (quote_len s q) false

cut-none : (p : At) → cut_at p [] ≡ []
unfolding cut_go
cut-none outside = refl
cut-none (quoted q) = refl
cut-none (escaped q) = refl

-- a byte at which no comment begins outside quotes is left
cut-byte : (p : At) (x : ℕ) (s : List ℕ) → here p (x ∷ s) ≡ true → cut_at p (x ∷ s) ≡ x ∷ cut_at (next p x) s
unfolding cut_go quote_len
cut-byte outside x [] h = ap (λ (l : List ℕ). x ∷ l) (sym (cut-none (next outside x)))
cut-byte outside x (b ∷ s) h = go (is_quote x) (prefixed (47 ∷ 42 ∷ []) (x ∷ b ∷ s)) (prefixed (47 ∷ 47 ∷ []) (x ∷ b ∷ s)) h
  where
    go : (q t u : Bool) → not t && not u ≡ true →
        cond q (x ∷ cut_go (b ∷ s) (quote_len (b ∷ s) x) false) (cond t (cut_go s 0 true) (cond u [] (x ∷ cut_go (b ∷ s) 0 false))) ≡ x ∷ cut_at (cond q (quoted x) outside) (b ∷ s)
    go true t u k = refl
    go false true u k = no k
    go false false true k = no k
    go false false false k = refl
cut-byte (quoted q) x [] h = ap (λ (l : List ℕ). x ∷ l) (sym (cut-none (next (quoted q) x)))
cut-byte (quoted q) x (y ∷ s) h = go (eqb x 92) (eqb x q)
  where
    go : (e c : Bool) → cut_go (x ∷ y ∷ s) (cond e (suc (suc (quote_len s q))) (cond c 1 (suc (quote_len (y ∷ s) q)))) false ≡ x ∷ cut_at (cond e (escaped q) (cond c outside (quoted q))) (y ∷ s)
    go true c = refl
    go false true = refl
    go false false = refl
cut-byte (escaped q) x s h = refl

-- such a text stays as it is
keep : (p : At) (s : List ℕ) → tidy p s ≡ true → cut_at p s ≡ s
keep p [] h = cut-none p
keep p (x ∷ s) h =
    cut-byte p x s (and_left (here p (x ∷ s)) _ h) ∙ ap (λ (l : List ℕ). x ∷ l) (keep (next p x) s (and_right (here p (x ∷ s)) _ h))

pub tidy-strip : (s : List ℕ) → tidy outside s ≡ true → strip_quoted s ≡ s
unfolding strip_quoted
tidy-strip s h = keep outside s h

-- ---- and what is left is such a text

bare-other : (a : ℕ) (l : List ℕ) → eqb 47 a ≡ false → bare (a ∷ l) ≡ true
bare-other a l e = rw (other a (42 ∷ []) l e, other a (47 ∷ []) l e)

bare-one : (a : ℕ) → bare (a ∷ []) ≡ true
unfolding prefixed
bare-one a = rw (and-false (eqb 47 a))

-- a quote begins no comment
quote-bare : (a : ℕ) (l : List ℕ) → is_quote a ≡ true → bare (a ∷ l) ≡ true
quote-bare a l h = go (eqb 47 a) refl
  where
    go : (t : Bool) → eqb 47 a ≡ t → bare (a ∷ l) ≡ true
    go false e = bare-other a l e
    go true e = no (ap is_quote (eqb-true 47 a e) ∙ h)

-- a byte that is copied begins none, whatever is left of the text after it
copy-bare : (a b : ℕ) (s : List ℕ) → prefixed (47 ∷ 42 ∷ []) (a ∷ b ∷ s) ≡ false → prefixed (47 ∷ 47 ∷ []) (a ∷ b ∷ s) ≡ false → bare (a ∷ cut_at outside (b ∷ s)) ≡ true
copy-bare a b s g h = go (eqb 47 a) refl
  where
    go : (t : Bool) → eqb 47 a ≡ t → bare (a ∷ cut_at outside (b ∷ s)) ≡ true
    go false e = bare-other a (cut_at outside (b ∷ s)) e
    go true e =
        let q = cut-byte outside b s (bare-other b s (second 47 a b s e h)) in
        rw (q, pair 42 a b (cut_at (next outside b) s) s, g, pair 47 a b (cut_at (next outside b) s) s, h)

cut-tidy : (s : List ℕ) → ((p : At) → tidy p (cut_at p s) ≡ true) × (tidy outside (cut_go s 0 true) ≡ true)
unfolding cut_go prefixed quote_len
cut-tidy [] = (λ p. ap (tidy p) (cut-none p), refl)
cut-tidy (a ∷ []) = (at, refl)
  where
    at : (p : At) → tidy p (cut_at p (a ∷ [])) ≡ true
    at outside = and_both (bare-one a) refl
    at (quoted q) = refl
    at (escaped q) = refl
cut-tidy (a ∷ b ∷ s) = (at (cut-tidy s).1 (cut-tidy (b ∷ s)).0, inside (prefixed (42 ∷ 47 ∷ []) (a ∷ b ∷ s)) ((cut-tidy s).0 outside) (cut-tidy (b ∷ s)).1)
  where
    go : (tidy outside (cut_go s 0 true) ≡ true) → ((p : At) → tidy p (cut_at p (b ∷ s)) ≡ true) →
        (q : Bool) → is_quote a ≡ q → (t : Bool) → prefixed (47 ∷ 42 ∷ []) (a ∷ b ∷ s) ≡ t → (u : Bool) → prefixed (47 ∷ 47 ∷ []) (a ∷ b ∷ s) ≡ u →
        tidy outside (cond q (a ∷ cut_at (quoted a) (b ∷ s)) (cond t (cut_go s 0 true) (cond u [] (a ∷ cut_at outside (b ∷ s))))) ≡ true
    go x after true e t f u g = and_both (quote-bare a (cut_at (quoted a) (b ∷ s)) e) (rw e (after (quoted a)))
    go x after false e true f u g = x
    go x after false e false f true g = refl
    go x after false e false f false g = and_both (copy-bare a b s f g) (rw e (after outside))

    at : (tidy outside (cut_go s 0 true) ≡ true) → ((p : At) → tidy p (cut_at p (b ∷ s)) ≡ true) → (p : At) → tidy p (cut_at p (a ∷ b ∷ s)) ≡ true
    at x after outside = go x after (is_quote a) refl (prefixed (47 ∷ 42 ∷ []) (a ∷ b ∷ s)) refl (prefixed (47 ∷ 47 ∷ []) (a ∷ b ∷ s)) refl
    at x after (quoted q) = rw (cut-byte (quoted q) a (b ∷ s) refl) (after (next (quoted q) a))
    at x after (escaped q) = after (quoted q)

    inside : (t : Bool) → tidy outside (cut_go s 0 false) ≡ true → tidy outside (cut_go (b ∷ s) 0 true) ≡ true → tidy outside (cond t (32 ∷ cut_go s 0 false) (cut_go (b ∷ s) 0 true)) ≡ true
    inside true x y = x
    inside false x y = y

pub strip-tidy : (s : List ℕ) → tidy outside (strip_quoted s) ≡ true
unfolding strip_quoted
strip-tidy s = (cut-tidy s).0 outside

-- ---- bytes that are no quotes

pub quote-not : (f : ℕ → Bool) → f 34 ≡ false → f 39 ≡ false → f 96 ≡ false → (a : ℕ) → f a ≡ true → is_quote a ≡ false
quote-not f p q r a h = go (eqb a 34) refl (eqb a 39) refl (eqb a 96) refl
  where
    go : (x : Bool) → eqb a 34 ≡ x → (y : Bool) → eqb a 39 ≡ y → (z : Bool) → eqb a 96 ≡ z → is_quote a ≡ false
    go true e y k z l = no (sym p ∙ ap f (sym (eqb-true a 34 e)) ∙ h)
    go false e true k z l = no (sym q ∙ ap f (sym (eqb-true a 39 k)) ∙ h)
    go false e false k true l = no (sym r ∙ ap f (sym (eqb-true a 96 l)) ∙ h)
    go false e false k false l = rw (e, k, l)

-- a text of them ends where it begins, outside quotes
pub plain-ends : (f : ℕ → Bool) → f 34 ≡ false → f 39 ≡ false → f 96 ≡ false → (s : List ℕ) → all f s ≡ true → ends outside s ≡ outside
plain-ends f p q r [] h = refl
plain-ends f p q r (a ∷ s) h = rw (quote-not f p q r a (and_left (f a) (all f s) h)) (plain-ends f p q r s (and_right (f a) (all f s) h))

space-ends : (s : List ℕ) → all is_space s ≡ true → ends outside s ≡ outside
space-ends s h = plain-ends is_space refl refl refl s h

pub space-next : (a : ℕ) → is_space a ≡ true → next outside a ≡ outside
space-next a h = rw (quote-not is_space refl refl refl a h)

-- ---- trimming

start-tidy : (s : List ℕ) → tidy outside s ≡ true → tidy outside (space_start s) ≡ true
unfolding space_start
start-tidy [] h = h
start-tidy (a ∷ s) h = go (start-tidy s) (is_space a) refl
  where
    go : (tidy outside s ≡ true → tidy outside (space_start s) ≡ true) → (b : Bool) → is_space a ≡ b → tidy outside (cond b (space_start s) (a ∷ s)) ≡ true
    go on true e = on (ap (λ (p : At). tidy p s) (sym (space-next a e)) ∙ and_right (bare (a ∷ s)) _ h)
    go on false e = h

pub start-ends : (s : List ℕ) → ends outside (space_start s) ≡ ends outside s
unfolding space_start
start-ends [] = refl
start-ends (a ∷ s) = go (start-ends s) (is_space a) refl
  where
    go : ends outside (space_start s) ≡ ends outside s → (b : Bool) → is_space a ≡ b → ends outside (cond b (space_start s) (a ∷ s)) ≡ ends outside (a ∷ s)
    go on true e = on ∙ ap (λ (p : At). ends p s) (sym (space-next a e))
    go on false e = refl

pub end-out : (s : List ℕ) (p : At) → ends p (space_end s) ≡ outside → ends p s ≡ outside
unfolding space_end
end-out [] p h = h
end-out (a ∷ s) p h = go (end-out s) (space_end s) refl (is_space a) refl h
  where
    go : ((q : At) → ends q (space_end s) ≡ outside → ends q s ≡ outside) → (l : List ℕ) → space_end s ≡ l → (b : Bool) → is_space a ≡ b → ends p (unless_blank a l) ≡ outside → ends (next p a) s ≡ outside
    go on [] e true k g = let z : p ≡ outside = rw k at g in rw (z, space-next a k) (on outside (ap (ends outside) e))
    go on [] e false k g = let z : next p a ≡ outside = rw k at g in on (next p a) (ap (ends (next p a)) e ∙ z)
    go on (x ∷ l) e b k g = on (next p a) (ap (ends (next p a)) e ∙ g)

pub trim-tidy : (s : List ℕ) → tidy outside s ≡ true → tidy outside (space_trim s) ≡ true
unfolding space_trim
trim-tidy s h = let r = end_rest (space_start s) in tidy-left outside (space_end (space_start s)) r.0 (ap (tidy outside) (sym r.1) ∙ start-tidy s h)

pub trim-open : (s : List ℕ) → whole s ≡ false → whole (space_trim s) ≡ false
unfolding space_trim
trim-open s h = go (whole (space_trim s)) refl
  where
    go : (b : Bool) → whole (space_trim s) ≡ b → b ≡ false
    go false e = refl
    go true e = sym (ap is_out (sym (start-ends s) ∙ end-out (space_start s) outside (out-is _ e))) ∙ h

-- ---- an array

-- its brackets, and what stands between them
pub between : (t : List ℕ) → wrapped 91 93 t ≡ true → t ≡ 91 ∷ (inner t ++ (93 ∷ []))
unfolding wrapped
between [] h = no h
between (a ∷ []) h = no h
between (a ∷ b ∷ s) h =
    let n : suc (suc (length s)) - 1 ≡ suc (length s) = omega arith in
    let m : suc (suc (length s)) - 1 - 1 ≡ length s = omega arith in
    let k = and_right (leb 2 (suc (suc (length s)))) _ h in
    let f : a ≡ 91 = eqb-true a 91 (and_left (eqb a 91) _ k) in
    let l : get_or (b ∷ s) (length s) 0 ≡ 93 = eqb-true _ 93 (ap (λ (i : ℕ). eqb (get_or (a ∷ b ∷ s) i 0) 93) (sym n) ∙ and_right (eqb a 91) _ k) in
    let d : b ∷ s ≡ take (length s) (b ∷ s) ++ (get_or (b ∷ s) (length s) 0 ∷ []) = sym (take-length (b ∷ s)) ∙ take-suc (b ∷ s) (length s) 0 (omega arith) in
    ap (λ (x : ℕ). x ∷ b ∷ s) f
    ∙ ap (λ (r : List ℕ). 91 ∷ r)
    (d ∙ ap (λ (x : ℕ). take (length s) (b ∷ s) ++ (x ∷ [])) l ∙ ap (λ (i : ℕ). take i (b ∷ s) ++ (93 ∷ [])) (sym m))

module _ (t : List ℕ) (w : wrapped 91 93 t ≡ true) where
  pub inner-tidy : tidy outside t ≡ true → tidy outside (inner t) ≡ true
  unfolding prefixed
  inner-tidy h = tidy-left outside (inner t) (93 ∷ []) (ap (tidy outside) (sym (between t w)) ∙ h)

  pub inner-open : whole t ≡ false → whole (inner t) ≡ false
  inner-open h = go (whole (inner t)) refl
    where
      go : (b : Bool) → whole (inner t) ≡ b → b ≡ false
      go false e = refl
      go true e = sym (ap is_out (ap (ends outside) (between t w) ∙ ends-append outside (inner t) (93 ∷ []) ∙ ap (λ (p : At). next p 93) (out-is (ends outside (inner t)) e))) ∙ h

-- ---- its elements

-- at a comma outside quotes the rest begins outside them
module _ (now s : List ℕ) (a : ℕ) (c : a ≡ 44) (w : whole now ≡ true) where
  comma-ends : ends outside (now ++ (a ∷ s)) ≡ ends outside s
  comma-ends = ends-append outside now (a ∷ s) ∙ ap (λ (p : At). ends p (a ∷ s)) (out-is (ends outside now) w) ∙ ap (λ (x : ℕ). ends outside (x ∷ s)) c

  comma-tidy : tidy outside (now ++ (a ∷ s)) ≡ true → tidy outside s ≡ true
  unfolding prefixed
  comma-tidy h = sym (ap (λ (p : At). tidy p (a ∷ s)) (out-is (ends outside now) w) ∙ ap (λ (x : ℕ). tidy outside (x ∷ s)) c) ∙ tidy-right outside now (a ∷ s) h

-- a test that fails on tidy texts that end inside quotes fails on an element of each such text
module _ (f : List ℕ → Bool) (fails : (e : List ℕ) → tidy outside e ≡ true → whole e ≡ false → f e ≡ false) where
  pub elements-open : (s now : List ℕ) (o c : ℕ) → tidy outside (now ++ s) ≡ true → whole (now ++ s) ≡ false → all f (elements s now o c) ≡ false
  unfolding elements
  elements-open [] now o c h g = go (all is_space now) refl
    where
      tidied : tidy outside now ≡ true
      tidied = tidy-left outside now [] h

      opened : whole now ≡ false
      opened = sym (ap is_out (ends-append outside now [])) ∙ g

      go : (b : Bool) → all is_space now ≡ b → all f (cond b [] (now ∷ [])) ≡ false
      go true e = no (sym opened ∙ ap is_out (space-ends now e))
      go false e = rw (fails now tidied opened)
  elements-open (a ∷ s) now o c h g = go (elements-open s) (eqb a 44 && eqb o c) refl (whole now) refl
    where
      go : ((m : List ℕ) (x y : ℕ) → tidy outside (m ++ s) ≡ true → whole (m ++ s) ≡ false → all f (elements s m x y) ≡ false) → (b : Bool) → eqb a 44 && eqb o c ≡ b → (w : Bool) → whole now ≡ w →
          all f (cond b (now ∷ elements s [] o c) (elements s (now ++ (a ∷ [])) (o + openings a) (c + closings a))) ≡ false
      go on true e true w =
          let q = eqb-true a 44 (and_left (eqb a 44) _ e) in
          rw (on [] o c (comma-tidy now s a q w h) (sym (ap is_out (comma-ends now s a q w)) ∙ g)) (and-false (f now))
      go on true e false w = rw (fails now (tidy-left outside now (a ∷ s) h) w)
      go on false e b w = on (now ++ (a ∷ [])) (o + openings a) (c + closings a) (rw (append_snoc now a s) h) (rw (append_snoc now a s) g)

  -- two such tests that agree on tidy texts agree on the elements of one
  module _ (g : List ℕ → Bool) (also : (e : List ℕ) → tidy outside e ≡ true → whole e ≡ false → g e ≡ false) (agree : (e : List ℕ) → tidy outside e ≡ true → f e ≡ g e) where
    pub elements-agree : (s now : List ℕ) (o c : ℕ) → tidy outside (now ++ s) ≡ true → all f (elements s now o c) ≡ all g (elements s now o c)
    unfolding elements
    elements-agree [] now o c h = go (all is_space now)
      where
        go : (b : Bool) → all f (cond b [] (now ∷ [])) ≡ all g (cond b [] (now ∷ []))
        go true = refl
        go false = rw (agree now (tidy-left outside now [] h))
    elements-agree (a ∷ s) now o c h = go (elements-agree s) (eqb a 44 && eqb o c) refl (whole now) refl
      where
        tidied : tidy outside now ≡ true
        tidied = tidy-left outside now (a ∷ s) h

        go : ((m : List ℕ) (x y : ℕ) → tidy outside (m ++ s) ≡ true → all f (elements s m x y) ≡ all g (elements s m x y)) →
            (b : Bool) → eqb a 44 && eqb o c ≡ b → (w : Bool) → whole now ≡ w →
            all f (cond b (now ∷ elements s [] o c) (elements s (now ++ (a ∷ [])) (o + openings a) (c + closings a)))
            ≡ all g (cond b (now ∷ elements s [] o c) (elements s (now ++ (a ∷ [])) (o + openings a) (c + closings a)))
        go on true e true w = rw (agree now tidied, on [] o c (comma-tidy now s a (eqb-true a 44 (and_left (eqb a 44) _ e)) w h))
        go on true e false w = rw (fails now tidied w, also now tidied w)
        go on false e b w = on (now ++ (a ∷ [])) (o + openings a) (c + closings a) (rw (append_snoc now a s) h)

-- ---- a text that ends inside quotes is not pure

shut-ends : (q : ℕ) (s : List ℕ) → quote_len s q ≡ length s → quote_shut s q ≡ true → ends (quoted q) s ≡ outside
unfolding quote_len quote_shut
shut-ends q [] n h = no h
shut-ends q (x ∷ []) n h = rw (not-true (eqb x 92) (and_left (not (eqb x 92)) (eqb x q) h), and_right (not (eqb x 92)) (eqb x q) h)
shut-ends q (x ∷ y ∷ s) n h = go (shut-ends q s) (shut-ends q (y ∷ s)) (eqb x 92) refl (eqb x q) refl n h
  where
    go : (quote_len s q ≡ length s → quote_shut s q ≡ true → ends (quoted q) s ≡ outside) →
        (quote_len (y ∷ s) q ≡ suc (length s) → quote_shut (y ∷ s) q ≡ true → ends (quoted q) (y ∷ s) ≡ outside) → (e : Bool) → eqb x 92 ≡ e → (c : Bool) → eqb x q ≡ c →
        cond e (suc (suc (quote_len s q))) (cond c 1 (suc (quote_len (y ∷ s) q))) ≡ suc (suc (length s)) → cond e (quote_shut s q) (cond c true (quote_shut (y ∷ s) q)) ≡ true →
        ends (next (quoted q) x) (y ∷ s) ≡ outside
    go far on true e c d m k = rw e (far (omega arith) k)
    go far on false e true d m k = absurd (omega arith)
    go far on false e false d m k = rw (e, d) (on (omega arith) k)

pub either-quote : (q : ℕ) → among (34 ∷ 39 ∷ []) q ≡ true → is_quote q ≡ true
either-quote q e = go (eqb q 34) (eqb q 39) e
  where
    go : (a b : Bool) → (a || (b || false)) ≡ true → (a || (b || (eqb q 96 || false))) ≡ true
    go true b e = refl
    go false true e = refl
    go false false e = no e

pub closed-ends : (t : List ℕ) → is_closed t ≡ true → ends outside t ≡ outside
unfolding is_closed
closed-ends [] h = no h
closed-ends (x ∷ s) h =
    let k = and_right (among (34 ∷ 39 ∷ []) x) _ h in
    let n : suc (quote_len s x) ≡ suc (length s) = eqb-true _ _ (and_left (eqb (suc (quote_len s x)) (suc (length s))) _ k) in
    rw (either-quote x (and_left (among (34 ∷ 39 ∷ []) x) _ h)) (shut-ends x s (omega arith) (and_right (eqb (suc (quote_len s x)) (suc (length s))) _ k))

reg-ends : (t : List ℕ) (r : Option Register) → reg_of t ≡ r → is_reg r ≡ true → ends outside t ≡ outside
reg-ends t (Some q) e h = plain-ends (λ (x : ℕ). is_name x) refl refl refl t (reg-names t q e)
reg-ends t None e h = no h

-- the six words have no quotes
word-ends : (t : List ℕ) → is_word t ≡ true → ends outside t ≡ outside
word-ends t h =
    by (ascii "undefined") refl _ h (λ h.
    by (ascii "null") refl _ h (λ h.
    by (ascii "true") refl _ h (λ h.
    by (ascii "false") refl _ h (λ h.
    by (ascii "NaN") refl (same t (ascii "Infinity")) h (λ h. ap (ends outside) (same-eq t (ascii "Infinity") h))))))
  where
    by : (w : List ℕ) → ends outside w ≡ outside → (b : Bool) → same t w || b ≡ true → (b ≡ true → ends outside t ≡ outside) → ends outside t ≡ outside
    by w z b h on = go (same t w) refl h
      where
        go : (a : Bool) → same t w ≡ a → a || b ≡ true → ends outside t ≡ outside
        go true e k = ap (ends outside) (same-eq t w e) ∙ z
        go false e k = on k

-- what is left of the tests of a trimmed text that ends inside quotes: an array, or something that is not pure
pub no-shape : (t : List ℕ) → whole t ≡ false →
    shape_of is_closed t ≡ cond (is_empty t) (Plain Effectful) (cond (starts_number t) (Plain Effectful) (cond (wrapped 91 93 t) Array (Plain Effectful)))
unfolding shape_of
no-shape t h =
    rw (
      fails (is_reg (reg_of t)) (reg-ends t (reg_of t) refl),
      fails (is_word t) (word-ends t),
      fails (all is_number_byte t) (plain-ends is_number_byte refl refl refl t),
      fails (is_closed t) (closed-ends t),
      fails (is_ident t) (λ e. plain-ends (λ (x : ℕ). is_name x) refl refl refl t (ident-names t e)),
    )
  where
    fails : (b : Bool) → (b ≡ true → ends outside t ≡ outside) → b ≡ false
    fails false f = refl
    fails true f = no (sym h ∙ ap is_out (f refl))
