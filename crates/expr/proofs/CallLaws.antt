-- In strict mode a pure value holds no call: no `(` stands in it outside comments and quotes. Assumes nothing.
use Prim.Native.Nat.{ℕ, zero, suc, ◌+◌}
use mathlib.Core.Path.{◌≡◌, refl, sym, ap, ◌∙◌}
use mathlib.Core.Bool.{Bool, true, false, cond, not, ◌&&◌, ◌||◌}
use mathlib.Core.List.{List, [], ◌∷◌, ◌++◌, append-nil}
use native.Mathlib.Omega.{arith}
use borrow.Author.Tests.{eqb-true}
use lib.Dec.{eqb}
use lib.ListN.{length}
use lib.Seq.{append_snoc}
use Rattle.lines.specs.Ascii.{ascii}
use Rattle.lines.specs.Lf.{prefixed, among, same, all, is_empty}
use Rattle.lines.proofs.Tests.{no, and_left, and_right}
use Rattle.lines.proofs.Compare.{same-eq}
use Rattle.text.specs.Class.{is_name, is_quote}
use Rattle.names.specs.Names.{reg_of, is_reg, is_ident}
use Rattle.std.specs.declared.option.Option.{Option}
use Rattle.names.specs.declared.Register.{Register}
use Rattle.std.specs.declared.option.Option.TheVariants.{Some, None}
use Rattle.names.proofs.Texts.{reg-names, ident-names}
use Rattle.lexical.specs.Lex.{quote_len, quote_shut}
use Rattle.expr.specs.Fix.{deep, fix}
use Rattle.expr.specs.Quotes.{cut_go, strip_quoted, is_closed, call_go, holds_call}
use Rattle.expr.specs.Pure.{is_space, space_start, unless_blank, space_end, space_trim, is_word, starts_number, is_number_byte, wrapped, shape_of, inner, openings, closings, elements, is_pure, pure_by, judge, cut_rule, purity_in}
use Rattle.expr.specs.Inner.Pure.{purity_cut}
use Rattle.expr.specs.declared.kinds.Shape.TheVariants.{Plain, Array}
use Rattle.expr.specs.declared.kinds.Purity.{Purity}
use Rattle.expr.specs.declared.kinds.Purity.TheVariants.{Stable, Ident, Effectful}
use Rattle.expr.proofs.TidyLaws.{At, outside, quoted, escaped, next, is_out, ends, ends-append, quote-not, plain-ends, space-next, start-ends, end-out, between, closed-ends, either-quote}
use Rattle.expr.proofs.OnceLaws.{purity-once}

-- ---- a `(` outside quotes, byte by byte

-- from a place of a text on
abbrev calls : At → List ℕ → Bool
calls p [] = false
calls p (x ∷ s) = (is_out p && eqb x 40) || calls (next p x) s

abbrev call_at : At → List ℕ → Bool
call_at outside s = call_go s 0
call_at (quoted q) s = call_go s (quote_len s q)
call_at (escaped q) [] = false
call_at (escaped q) (x ∷ s) = call_go s (quote_len s q)

call_none : (p : At) → call_at p [] ≡ false
unfolding call_go
call_none outside = refl
call_none (quoted q) = refl
call_none (escaped q) = refl

-- no quote is a `(`
quote-other : (x : ℕ) → is_quote x ≡ true → eqb x 40 ≡ false
quote-other x h = go (eqb x 40) refl
  where
    go : (b : Bool) → eqb x 40 ≡ b → b ≡ false
    go false e = refl
    go true e = no (ap is_quote (sym (eqb-true x 40 e)) ∙ h)

call-byte : (p : At) (x : ℕ) (s : List ℕ) → call_at p (x ∷ s) ≡ (is_out p && eqb x 40) || call_at (next p x) s
unfolding call_go quote_len
call-byte outside x s = go (is_quote x) refl
  where
    go : (q : Bool) → is_quote x ≡ q → cond q (call_go s (quote_len s x)) (eqb x 40 || call_go s 0) ≡ eqb x 40 || call_at (cond q (quoted x) outside) s
    go true e = rw (quote-other x e)
    go false e = refl
call-byte (quoted q) x [] = sym (call_none (next (quoted q) x))
call-byte (quoted q) x (y ∷ s) = go (eqb x 92) (eqb x q)
  where
    go : (e c : Bool) → call_go (x ∷ y ∷ s) (cond e (suc (suc (quote_len s q))) (cond c 1 (suc (quote_len (y ∷ s) q)))) ≡ call_at (cond e (escaped q) (cond c outside (quoted q))) (y ∷ s)
    go true c = refl
    go false true = refl
    go false false = refl
call-byte (escaped q) x s = refl

call-is : (p : At) (s : List ℕ) → call_at p s ≡ calls p s
call-is p [] = call_none p
call-is p (x ∷ s) = call-byte p x s ∙ ap (λ (b : Bool). (is_out p && eqb x 40) || b) (call-is (next p x) s)

calls-append : (p : At) (x y : List ℕ) → calls p (x ++ y) ≡ calls p x || calls (ends p x) y
calls-append p [] y = refl
calls-append p (a ∷ x) y =
    ap (λ (b : Bool). (is_out p && eqb a 40) || b) (calls-append (next p a) x y) ∙ go (is_out p && eqb a 40) (calls (next p a) x) (calls (ends (next p a) x) y)
  where
    go : (a b c : Bool) → a || (b || c) ≡ (a || b) || c
    go true b c = refl
    go false b c = refl

either-none : (a b : Bool) → a || b ≡ false → (a ≡ false) × (b ≡ false)
either-none true b h = no (sym h)
either-none false b h = (refl, h)

-- ---- texts that begin and end outside quotes and hold no call

pub record Calm (s : List ℕ) : Type 0 where
  pub out : ends outside s ≡ outside
  pub none : calls outside s ≡ false

calm-append : (x y : List ℕ) → Calm x → Calm y → Calm (x ++ y)
calm-append x y c d =
    record {
      out = ends-append outside x y ∙ ap (λ (p : At). ends p y) c.out ∙ d.out;
      none = calls-append outside x y ∙ rw (c.none, c.out, d.none);
    }

plain-calls : (f : ℕ → Bool) → f 34 ≡ false → f 39 ≡ false → f 96 ≡ false → f 40 ≡ false → (s : List ℕ) → all f s ≡ true → calls outside s ≡ false
plain-calls f p q r u [] h = refl
plain-calls f p q r u (a ∷ s) h =
    let k = and_left (f a) (all f s) h in
    rw (quote-not f p q r a k, bracket (eqb a 40) refl k) (plain-calls f p q r u s (and_right (f a) (all f s) h))
  where
    bracket : (b : Bool) → eqb a 40 ≡ b → f a ≡ true → b ≡ false
    bracket false e k = refl
    bracket true e k = no (sym u ∙ ap f (sym (eqb-true a 40 e)) ∙ k)

plain-calm : (f : ℕ → Bool) → f 34 ≡ false → f 39 ≡ false → f 96 ≡ false → f 40 ≡ false → (s : List ℕ) → all f s ≡ true → Calm s
plain-calm f p q r u s h = record { out = plain-ends f p q r s h; none = plain-calls f p q r u s h }

-- ---- one literal

shut-calls : (q : ℕ) (s : List ℕ) → quote_len s q ≡ length s → quote_shut s q ≡ true → calls (quoted q) s ≡ false
unfolding quote_len quote_shut
shut-calls q [] n h = refl
shut-calls q (x ∷ []) n h = refl
shut-calls q (x ∷ y ∷ s) n h = go (shut-calls q s) (shut-calls q (y ∷ s)) (eqb x 92) refl (eqb x q) refl n h
  where
    go : (quote_len s q ≡ length s → quote_shut s q ≡ true → calls (quoted q) s ≡ false) →
        (quote_len (y ∷ s) q ≡ suc (length s) → quote_shut (y ∷ s) q ≡ true → calls (quoted q) (y ∷ s) ≡ false) → (e : Bool) → eqb x 92 ≡ e → (c : Bool) → eqb x q ≡ c →
        cond e (suc (suc (quote_len s q))) (cond c 1 (suc (quote_len (y ∷ s) q))) ≡ suc (suc (length s)) → cond e (quote_shut s q) (cond c true (quote_shut (y ∷ s) q)) ≡ true →
        calls (next (quoted q) x) (y ∷ s) ≡ false
    go far on true e c d m k = rw e (far (omega arith) k)
    go far on false e true d m k = absurd (omega arith)
    go far on false e false d m k = rw (e, d) (on (omega arith) k)

closed-calls : (t : List ℕ) → is_closed t ≡ true → calls outside t ≡ false
unfolding is_closed
closed-calls [] h = refl
closed-calls (x ∷ s) h =
    let k = and_right (among (34 ∷ 39 ∷ []) x) _ h in
    let n : suc (quote_len s x) ≡ suc (length s) = eqb-true _ _ (and_left (eqb (suc (quote_len s x)) (suc (length s))) _ k) in
    let e = either-quote x (and_left (among (34 ∷ 39 ∷ []) x) _ h) in
    rw (e, quote-other x e) (shut-calls x s (omega arith) (and_right (eqb (suc (quote_len s x)) (suc (length s))) _ k))

-- ---- trimming

space-other : (a : ℕ) → is_space a ≡ true → eqb a 40 ≡ false
space-other a h = go (eqb a 40) refl
  where
    go : (b : Bool) → eqb a 40 ≡ b → b ≡ false
    go false e = refl
    go true e = no (ap is_space (sym (eqb-true a 40 e)) ∙ h)

start-calls : (s : List ℕ) → calls outside (space_start s) ≡ calls outside s
unfolding space_start
start-calls [] = refl
start-calls (a ∷ s) = go (start-calls s) (is_space a) refl
  where
    go : calls outside (space_start s) ≡ calls outside s → (b : Bool) → is_space a ≡ b → calls outside (cond b (space_start s) (a ∷ s)) ≡ calls outside (a ∷ s)
    go on true e = on ∙ sym (rw (space-other a e, space-next a e))
    go on false e = refl

end-calls : (s : List ℕ) (p : At) → calls p (space_end s) ≡ false → calls p s ≡ false
unfolding space_end
end-calls [] p h = h
end-calls (a ∷ s) p h = go (end-calls s (next p a)) (space_end s) refl (is_space a) refl h
  where
    go : (calls (next p a) (space_end s) ≡ false → calls (next p a) s ≡ false) → (l : List ℕ) → space_end s ≡ l → (b : Bool) → is_space a ≡ b → calls p (unless_blank a l) ≡ false →
        (is_out p && eqb a 40) || calls (next p a) s ≡ false
    go on [] e true k g = rw (space-other a k, on (ap (calls (next p a)) e)) (never (is_out p))
      where
        never : (b : Bool) → (b && false) || false ≡ false
        never true = refl
        never false = refl
    go on [] e false k g = let z = either-none (is_out p && eqb a 40) false (rw k at g) in rw (z.0, on (ap (calls (next p a)) e))
    go on (x ∷ l) e b k g =
        let z = either-none (is_out p && eqb a 40) (calls (next p a) (x ∷ l)) g in
        rw (z.0, on (ap (calls (next p a)) e ∙ z.1))

trim-calm : (s : List ℕ) → Calm (space_trim s) → Calm s
unfolding space_trim
trim-calm s c =
    record {
      out = sym (start-ends s) ∙ end-out (space_start s) outside c.out;
      none = sym (start-calls s) ∙ end-calls (space_start s) outside c.none;
    }

-- ---- arrays

-- a text is calm where each of its elements is
elements-calm : (f : List ℕ → Bool) → ((e : List ℕ) → f e ≡ true → Calm e) → (s now : List ℕ) (o c : ℕ) → all f (elements s now o c) ≡ true → Calm (now ++ s)
unfolding elements
elements-calm f pure [] now o c h = rw (append-nil now) (go (all is_space now) refl h)
  where
    go : (b : Bool) → all is_space now ≡ b → all f (cond b [] (now ∷ [])) ≡ true → Calm now
    go true e k = plain-calm is_space refl refl refl refl now e
    go false e k = pure now (and_left (f now) true k)
elements-calm f pure (a ∷ s) now o c h = go (elements-calm f pure s) (eqb a 44 && eqb o c) refl h
  where
    go : ((m : List ℕ) (x y : ℕ) → all f (elements s m x y) ≡ true → Calm (m ++ s)) → (b : Bool) → eqb a 44 && eqb o c ≡ b →
        all f (cond b (now ∷ elements s [] o c) (elements s (now ++ (a ∷ [])) (o + openings a) (c + closings a))) ≡ true → Calm (now ++ (a ∷ s))
    go on true e k =
        let q : a ≡ 44 = eqb-true a 44 (and_left (eqb a 44) _ e) in
        let rest = on [] o c (and_right (f now) _ k) in
        rw q (calm-append now (44 ∷ s) (pure now (and_left (f now) _ k)) (record { out = rest.out; none = rest.none }))
    go on false e k = rw (sym (append_snoc now a s)) (on (now ++ (a ∷ [])) (o + openings a) (c + closings a) k)

array-calm : (t : List ℕ) → wrapped 91 93 t ≡ true → Calm (inner t) → Calm t
array-calm t w c =
    let whole = calm-append (inner t) (93 ∷ []) c (record { out = refl; none = refl }) in
    rw (between t w) (record { out = whole.out; none = whole.none })

-- ---- the shapes of a pure text

reg-calm : (t : List ℕ) (r : Option Register) → reg_of t ≡ r → is_reg r ≡ true → Calm t
reg-calm t (Some q) e h = plain-calm (λ (x : ℕ). is_name x) refl refl refl refl t (reg-names t q e)
reg-calm t None e h = no h

word-calm : (t : List ℕ) → is_word t ≡ true → Calm t
word-calm t h =
    by (ascii "undefined") (record { out = refl; none = refl }) _ h (λ h.
    by (ascii "null") (record { out = refl; none = refl }) _ h (λ h.
    by (ascii "true") (record { out = refl; none = refl }) _ h (λ h.
    by (ascii "false") (record { out = refl; none = refl }) _ h (λ h.
    by (ascii "NaN") (record { out = refl; none = refl }) (same t (ascii "Infinity")) h (λ h. rw (same-eq t (ascii "Infinity") h) (record { out = refl; none = refl }))))))
  where
    by : (w : List ℕ) → Calm w → (b : Bool) → same t w || b ≡ true → (b ≡ true → Calm t) → Calm t
    by w z b h on = go (same t w) refl h
      where
        go : (a : Bool) → same t w ≡ a → a || b ≡ true → Calm t
        go true e k = rw (same-eq t w e) z
        go false e k = on k

-- a pure text is calm, where its elements are that are pure
cut-calm : (f : List ℕ → Purity) → ((e : List ℕ) → is_pure (f e) ≡ true → Calm e) → (s : List ℕ) → is_pure (cut_rule is_closed f s) ≡ true → Calm s
unfolding shape_of judge pure_by
cut-calm f pure s h = trim-calm s (go (is_empty t) (is_reg (reg_of t)) refl (is_word t) refl (starts_number t) (all is_number_byte t) refl (is_closed t) refl (wrapped 91 93 t) refl (is_ident t) refl h)
  where
    t : List ℕ
    t = space_trim s

    array : wrapped 91 93 t ≡ true → (b : Bool) → pure_by f (inner t) ≡ b → is_pure (cond b Stable Effectful) ≡ true → Calm t
    array w true e k = array-calm t w (elements-calm (λ (e : List ℕ). is_pure (f e)) pure (inner t) [] 0 0 e)
    array w false e k = no k

    go : (a r : Bool) → is_reg (reg_of t) ≡ r → (w : Bool) → is_word t ≡ w → (n d : Bool) → all is_number_byte t ≡ d → (c : Bool) → is_closed t ≡ c → (y : Bool) → wrapped 91 93 t ≡ y → (i : Bool) → is_ident t ≡ i →
        is_pure (judge f t (cond a (Plain Effectful) (cond r (Plain Stable) (cond w (Plain Stable) (cond n (cond d (Plain Stable) (Plain Effectful)) (cond c (Plain Stable) (cond y Array (cond i (Plain Ident) (Plain Effectful))))))))) ≡ true → Calm t
    go true r er w ew n d ed c ec y ey i ei k = no k
    go false true er w ew n d ed c ec y ey i ei k = reg-calm t (reg_of t) refl er
    go false false er true ew n d ed c ec y ey i ei k = word-calm t ew
    go false false er false ew true true ed c ec y ey i ei k = plain-calm is_number_byte refl refl refl refl t ed
    go false false er false ew true false ed c ec y ey i ei k = no k
    go false false er false ew false d ed true ec y ey i ei k = record { out = closed-ends t ec; none = closed-calls t ec }
    go false false er false ew false d ed false ec true ey i ei k = array ey (pure_by f (inner t)) refl k
    go false false er false ew false d ed false ec false ey true ei k = plain-calm (λ (x : ℕ). is_name x) refl refl refl refl t (ident-names t ei)
    go false false er false ew false d ed false ec false ey false ei k = no k

deep-calm : (n : ℕ) (s : List ℕ) → is_pure (deep (cut_rule is_closed) Effectful n s) ≡ true → Calm s
unfolding deep
deep-calm zero s h = no h
deep-calm (suc n) s h = cut-calm (deep (cut_rule is_closed) Effectful n) (deep-calm n) s h

-- in strict mode a pure value holds no call
pub strict-no-call : (v : List ℕ) → is_pure (purity_in true v) ≡ true → holds_call v ≡ false
unfolding purity_cut fix holds_call
strict-no-call v h =
    call-is outside (strip_quoted v) ∙ (deep-calm (suc (length (strip_quoted v))) (strip_quoted v) (sym (ap is_pure (purity-once true v)) ∙ h)).none

-- ---- a text without `(` holds none

-- outside quotes or in them
none-call : (s : List ℕ) (k : ℕ) → all (λ (x : ℕ). not (eqb x 40)) s ≡ true → call_go s k ≡ false
unfolding call_go
none-call [] k h = refl
none-call (a ∷ s) (suc k) h = none-call s k (and_right (not (eqb a 40)) _ h)
none-call (a ∷ s) zero h = go (is_quote a) (eqb a 40) (and_left (not (eqb a 40)) _ h) (none-call s (quote_len s a) (and_right (not (eqb a 40)) _ h)) (none-call s 0 (and_right (not (eqb a 40)) _ h))
  where
    go : (q b : Bool) → not b ≡ true → call_go s (quote_len s a) ≡ false → call_go s 0 ≡ false → cond q (call_go s (quote_len s a)) (b || call_go s 0) ≡ false
    go true b n x y = x
    go false true n x y = no n
    go false false n x y = y

cut-none : (s : List ℕ) (k : ℕ) (inside : Bool) → all (λ (x : ℕ). not (eqb x 40)) s ≡ true → all (λ (x : ℕ). not (eqb x 40)) (cut_go s k inside) ≡ true
unfolding cut_go
cut-none [] k inside h = refl
cut-none (a ∷ s) (suc k) inside h = rw (and_left (not (eqb a 40)) _ h) (cut-none s k inside (and_right (not (eqb a 40)) _ h))
cut-none (a ∷ []) zero false h = h
cut-none (a ∷ []) zero true h = refl
cut-none (a ∷ b ∷ s) zero false h =
    let m = and_right (not (eqb a 40)) _ h in
    go (is_quote a) (prefixed (47 ∷ 42 ∷ []) (a ∷ b ∷ s)) (prefixed (47 ∷ 47 ∷ []) (a ∷ b ∷ s)) (and_left (not (eqb a 40)) _ h)
    (cut-none (b ∷ s) (quote_len (b ∷ s) a) false m) (cut-none s 0 true (and_right (not (eqb b 40)) _ m)) (cut-none (b ∷ s) 0 false m)
  where
    go : (q t u : Bool) → not (eqb a 40) ≡ true → all (λ (x : ℕ). not (eqb x 40)) (cut_go (b ∷ s) (quote_len (b ∷ s) a) false) ≡ true → all (λ (x : ℕ). not (eqb x 40)) (cut_go s 0 true) ≡ true →
        all (λ (x : ℕ). not (eqb x 40)) (cut_go (b ∷ s) 0 false) ≡ true →
        all (λ (x : ℕ). not (eqb x 40)) (cond q (a ∷ cut_go (b ∷ s) (quote_len (b ∷ s) a) false) (cond t (cut_go s 0 true) (cond u [] (a ∷ cut_go (b ∷ s) 0 false)))) ≡ true
    go true t u n x y z = rw (n, x)
    go false true u n x y z = y
    go false false true n x y z = refl
    go false false false n x y z = rw (n, z)
cut-none (a ∷ b ∷ s) zero true h =
    let m = and_right (not (eqb a 40)) _ h in
    go (prefixed (42 ∷ 47 ∷ []) (a ∷ b ∷ s)) (cut-none s 0 false (and_right (not (eqb b 40)) _ m)) (cut-none (b ∷ s) 0 true m)
  where
    go : (t : Bool) → all (λ (x : ℕ). not (eqb x 40)) (cut_go s 0 false) ≡ true → all (λ (x : ℕ). not (eqb x 40)) (cut_go (b ∷ s) 0 true) ≡ true →
        all (λ (x : ℕ). not (eqb x 40)) (cond t (32 ∷ cut_go s 0 false) (cut_go (b ∷ s) 0 true)) ≡ true
    go true x y = x
    go false x y = y

pub bare-no-call : (v : List ℕ) → all (λ (x : ℕ). not (eqb x 40)) v ≡ true → holds_call v ≡ false
unfolding holds_call strip_quoted
bare-no-call v h = none-call (cut_go v 0 false) 0 (cut-none v 0 false h)
