-- A listing for entries: each as a literal between double quotes, on its line. Assumes nothing.
use Prim.Native.Nat.{ℕ, zero, suc, ◌+◌, ◌-◌, ◌≤◌}
use mathlib.Core.Path.{◌≡◌, refl, sym, ap, ◌∙◌, subst}
use mathlib.Core.Bool.{Bool, true, false, cond, ◌||◌}
use mathlib.Core.List.{List, [], ◌∷◌, ◌++◌, append_assoc}
use native.Mathlib.Omega.{arith}
use borrow.Author.Tests.{eqb-true, eqb-false}
use lib.Dec.{eqb}
use lib.ListN.{length, replicate, length-append, length-replicate}
use Rattle.lines.specs.Lf.{same, unlines, lines_of}
use Rattle.lines.specs.Inner.Lf.{lacks, no_lf}
use Rattle.lines.proofs.Tests.{and_both}
use Rattle.lines.proofs.LfLaws.{lines-unlines}
use Rattle.lexical.specs.Lex.{quote_len, token_of}
use Rattle.text.specs.Utf8Form.{utf8_of}
use Rattle.std.specs.declared.result.Result.TheVariants.{Ok, Err}
use Rattle.std.specs.declared.option.Option.{Option}
use Rattle.po.specs.declared.Flaw.{Flaw}
use Rattle.std.specs.declared.option.Option.TheVariants.{Some, None}
use Rattle.po.specs.declared.Flaw.TheVariants as flaw
use Rattle.po.specs.Found.{lit_closed, odds, Literal, literals_go, literals_of, literals, literal_text, Entry, known, left_out, firsts, entries}
use Rattle.po.specs.Form.{escaped}
use Rattle.po.specs.Answers.{flaw_in, or_else, first_flaw}
use Rattle.po.proofs.IndexLaws.{known-last}
use Rattle.po.proofs.Trip.{text-escaped}
use Rattle.po.proofs.RefTrip.{lacks_both}
use Rattle.potrip.proofs.Cut.{escaped-lacks}
use Rattle.potrip.proofs.Order.{Climbs, climb}
use Rattle.potrip.proofs.Distinct.{Fresh, fresh}
use Rattle.potrip.proofs.Utf.{Utf, done, low, utf-append, utf-valid}
use Rattle.potrip.proofs.Texts.{Valids, no-entry, entry-on, escaped-utf}

-- ---- a text between quotes is a closed literal with no other escape, and as long as it is written

quote-other : (x : ℕ) (l : List ℕ) (q : ℕ) → eqb x 92 ≡ false → eqb x q ≡ false → quote_len (x ∷ l) q ≡ suc (quote_len l q)
unfolding quote_len
quote-other x [] q e f = refl
quote-other x (y ∷ l) q e f = rw (e, f) refl

quote-end : (l : List ℕ) → quote_len (34 ∷ l) 34 ≡ 1
unfolding quote_len
quote-end [] = refl
quote-end (y ∷ l) = refl

closed-other : (x : ℕ) (l : List ℕ) (q : ℕ) → eqb x 92 ≡ false → eqb x q ≡ false → lit_closed (x ∷ l) q ≡ lit_closed l q
unfolding lit_closed
closed-other x [] q e f = f
closed-other x (y ∷ l) q e f = rw (e, f) refl

closed-end : (l : List ℕ) → lit_closed (34 ∷ l) 34 ≡ true
unfolding lit_closed
closed-end [] = refl
closed-end (y ∷ l) = refl

odds-other : (x : ℕ) (l : List ℕ) (q i : ℕ) → eqb x 92 ≡ false → eqb x q ≡ false → odds (x ∷ l) q i ≡ odds l q (suc i)
unfolding odds
odds-other x [] q i e f = refl
odds-other x (y ∷ l) q i e f = rw (e, f) refl

odds-end : (l : List ℕ) (i : ℕ) → odds (34 ∷ l) 34 i ≡ []
unfolding odds
odds-end [] i = refl
odds-end (y ∷ l) i = refl

quote-escaped : (x l : List ℕ) → quote_len (escaped x ++ 34 ∷ l) 34 ≡ suc (length (escaped x))
unfolding escaped quote_len
quote-escaped [] l = quote-end l
quote-escaped (b ∷ bs) l = go (eqb b 10) (eqb b 9) (eqb b 34) refl (eqb b 92) refl (quote-escaped bs l)
  where
    go : (p q s : Bool) → eqb b 34 ≡ s → (u : Bool) → eqb b 92 ≡ u → quote_len (escaped bs ++ 34 ∷ l) 34 ≡ suc (length (escaped bs)) →
        quote_len ((cond p (92 ∷ 110 ∷ []) (cond q (92 ∷ 116 ∷ []) (cond s (92 ∷ 34 ∷ []) (cond u (92 ∷ 92 ∷ []) (b ∷ [])))) ++ escaped bs) ++ 34 ∷ l) 34 ≡
        suc (length (cond p (92 ∷ 110 ∷ []) (cond q (92 ∷ 116 ∷ []) (cond s (92 ∷ 34 ∷ []) (cond u (92 ∷ 92 ∷ []) (b ∷ [])))) ++ escaped bs))
    go true q s f u g ih = ap (λ (n : ℕ). suc (suc n)) ih
    go false true s f u g ih = ap (λ (n : ℕ). suc (suc n)) ih
    go false false true f u g ih = ap (λ (n : ℕ). suc (suc n)) ih
    go false false false f true g ih = ap (λ (n : ℕ). suc (suc n)) ih
    go false false false f false g ih = quote-other b (escaped bs ++ 34 ∷ l) 34 g f ∙ ap suc ih

closed-escaped : (x l : List ℕ) → lit_closed (escaped x ++ 34 ∷ l) 34 ≡ true
unfolding escaped lit_closed
closed-escaped [] l = closed-end l
closed-escaped (b ∷ bs) l = go (eqb b 10) (eqb b 9) (eqb b 34) refl (eqb b 92) refl (closed-escaped bs l)
  where
    go : (p q s : Bool) → eqb b 34 ≡ s → (u : Bool) → eqb b 92 ≡ u → lit_closed (escaped bs ++ 34 ∷ l) 34 ≡ true →
        lit_closed ((cond p (92 ∷ 110 ∷ []) (cond q (92 ∷ 116 ∷ []) (cond s (92 ∷ 34 ∷ []) (cond u (92 ∷ 92 ∷ []) (b ∷ [])))) ++ escaped bs) ++ 34 ∷ l) 34 ≡ true
    go true q s f u g ih = ih
    go false true s f u g ih = ih
    go false false true f u g ih = ih
    go false false false f true g ih = ih
    go false false false f false g ih = closed-other b (escaped bs ++ 34 ∷ l) 34 g f ∙ ih

odds-escaped : (x l : List ℕ) (i : ℕ) → odds (escaped x ++ 34 ∷ l) 34 i ≡ []
unfolding escaped odds
odds-escaped [] l i = odds-end l i
odds-escaped (b ∷ bs) l i = go (eqb b 10) (eqb b 9) (eqb b 34) refl (eqb b 92) refl (odds-escaped bs l (suc (suc i))) (odds-escaped bs l (suc i))
  where
    go : (p q s : Bool) → eqb b 34 ≡ s → (u : Bool) → eqb b 92 ≡ u → odds (escaped bs ++ 34 ∷ l) 34 (suc (suc i)) ≡ [] → odds (escaped bs ++ 34 ∷ l) 34 (suc i) ≡ [] →
        odds ((cond p (92 ∷ 110 ∷ []) (cond q (92 ∷ 116 ∷ []) (cond s (92 ∷ 34 ∷ []) (cond u (92 ∷ 92 ∷ []) (b ∷ [])))) ++ escaped bs) ++ 34 ∷ l) 34 i ≡ []
    go true q s f u g two one = two
    go false true s f u g two one = two
    go false false true f u g two one = two
    go false false false f true g two one = two
    go false false false f false g two one = odds-other b (escaped bs ++ 34 ∷ l) 34 i g f ∙ one

lit-fine : (x l : List ℕ) (place : ℕ) → flaw_in (escaped x ++ 34 ∷ l) 34 place ≡ None
unfolding flaw_in
lit-fine x l place = rw (closed-escaped x l, odds-escaped x l (suc place)) refl

-- ---- literals, one for each entry

pub data Lits : List Entry → List Literal → Type 0 where
  no_lit : Lits [] []
  lit-on : (e : Entry) (s : Literal) {es : List Entry} {ss : List Literal} → s.line ≡ e.line → literal_text s ≡ e.text → flaw_in s.rest s.quote s.place ≡ None → Lits es ss → Lits (e ∷ es) (s ∷ ss)

-- a text as a literal, with what follows it on its line
abbrev lit_on : List ℕ → List ℕ → List ℕ
lit_on x l = 34 ∷ (escaped x ++ 34 ∷ l)

skip : (n : ℕ) (ys l out : List ℕ) (i : ℕ) → literals_go n (ys ++ l) (length ys) out i ≡ literals_go n l 0 out (i + length ys)
unfolding literals_go
skip n [] l out i = let z : i ≡ i + 0 = omega arith in ap (literals_go n l 0 out) z
skip n (y ∷ ys) l out i = let z : suc i + length ys ≡ i + suc (length ys) = omega arith in skip n ys l out (suc i) ∙ ap (literals_go n l 0 out) z

-- where what follows has the rest of the entries, the literal in front of it has this one
module _ (n : ℕ) (e : Entry) (h : n ≡ e.line) (l : List ℕ) (more : List Literal) {es : List Entry} where
  lit-here : (out : List ℕ) (i : ℕ) → Lits es (literals_go n l 0 (out ++ 83 ∷ []) (suc i + length (escaped e.text ++ 34 ∷ [])) ++ more) → Lits (e ∷ es) (literals_go n (lit_on e.text l) 0 out i ++ more)
  unfolding literals_go token_of
  lit-here out i w =
      let x : List ℕ = e.text in
      let q : quote_len (escaped x ++ 34 ∷ l) 34 ≡ length (escaped x ++ 34 ∷ []) = let z = length-append (escaped x) (34 ∷ []) in quote-escaped x l ∙ omega (arith, z) in
      let z : suc (quote_len (escaped x ++ 34 ∷ l) 34) - 1 ≡ length (escaped x ++ 34 ∷ []) = omega (arith, q) in
      let a : literals_go n (escaped x ++ 34 ∷ l) (suc (quote_len (escaped x ++ 34 ∷ l) 34) - 1) (out ++ 83 ∷ []) (suc i) ≡ literals_go n l 0 (out ++ 83 ∷ []) (suc i + length (escaped x ++ 34 ∷ [])) =
      ap (λ (k : ℕ). literals_go n (escaped x ++ 34 ∷ l) k (out ++ 83 ∷ []) (suc i)) z
      ∙ ap (λ (m : List ℕ). literals_go n m (length (escaped x ++ 34 ∷ [])) (out ++ 83 ∷ []) (suc i)) (sym (append_assoc (escaped x) (34 ∷ []) l))
      ∙ skip n (escaped x ++ 34 ∷ []) l (out ++ 83 ∷ []) (suc i) in
      lit-on e (record { line = n; place = i; quote = 34; rest = escaped x ++ 34 ∷ l }) h (text-escaped x l) (lit-fine x l i) (subst (λ (ss : List Literal). Lits es (ss ++ more)) (sym a) w)

-- ---- the lines

-- what is left of line m, and the lines after it
abbrev pub line_of : ℕ → List Entry → List ℕ
line_of m [] = []
line_of m (e ∷ es) = cond (eqb e.line m) (lit_on e.text (line_of m es)) []

abbrev pub more_of : ℕ → List Entry → List (List ℕ)
more_of m [] = []
more_of m (e ∷ es) = cond (eqb e.line m) (more_of m es) (replicate (e.line - m - 1) [] ++ lit_on e.text (line_of e.line es) ∷ more_of e.line es)

blank-spots : (d n i : ℕ) (ls : List (List ℕ)) → literals_of n i (replicate d [] ++ ls) ≡ literals_of (n + d) (i + d) ls
unfolding literals_of literals_go
blank-spots zero n i ls = let y : n ≡ n + 0 = omega arith in let z : i ≡ i + 0 = omega arith in ap (λ (k : ℕ). literals_of k i ls) y ∙ ap (λ (k : ℕ). literals_of (n + 0) k ls) z
blank-spots (suc d) n i ls =
    let x : suc (i + 0) ≡ suc i = omega arith in
    let y : suc n + d ≡ n + suc d = omega arith in
    let z : suc i + d ≡ i + suc d = omega arith in
    ap (λ (k : ℕ). literals_of (suc n) k (replicate d [] ++ ls)) x ∙ blank-spots d (suc n) (suc i) ls ∙ ap (λ (k : ℕ). literals_of k (suc i + d) ls) y ∙ ap (λ (k : ℕ). literals_of (n + suc d) k ls) z

abbrev rest : ℕ → List ℕ → List (List ℕ) → List ℕ → ℕ → List Literal
rest m l ls out i = literals_go m l 0 out i ++ literals_of (suc m) (suc (i + length l)) ls

-- one literal, where its line is reached
lit-rest : (n : ℕ) (e : Entry) (es : List Entry) → n ≡ e.line → (l : List ℕ) (ls : List (List ℕ)) → ((out : List ℕ) (i : ℕ) → Lits es (rest n l ls out i)) → (out : List ℕ) (i : ℕ) → Lits (e ∷ es) (rest n (lit_on e.text l) ls out i)
lit-rest n e es h l ls w out i =
    let x : List ℕ = escaped e.text in
    let z : suc (suc i + length (x ++ 34 ∷ []) + length l) ≡ suc (i + suc (length (x ++ 34 ∷ l))) = let a = length-append x (34 ∷ []) in let b = length-append x (34 ∷ l) in omega (arith, a, b) in
    lit-here n e h l (literals_of (suc n) (suc (i + length (lit_on e.text l))) ls) out i
    (subst (λ (k : ℕ). Lits es (literals_go n l 0 (out ++ 83 ∷ []) (suc i + length (x ++ 34 ∷ [])) ++ literals_of (suc n) k ls)) z (w (out ++ 83 ∷ []) (suc i + length (x ++ 34 ∷ []))))

pub lits-go : {b : ℕ} (es : List Entry) (m : ℕ) → Climbs b m es → (out : List ℕ) (i : ℕ) → Lits es (rest m (line_of m es) (more_of m es) out i)
unfolding literals_go literals_of
lits-go [] m c out i = no_lit
lits-go (e ∷ es) m (climb p q c) out i = go (eqb e.line m) refl (lits-go es e.line c)
  where
    go : (a : Bool) → eqb e.line m ≡ a → ((out : List ℕ) (i : ℕ) → Lits es (rest e.line (line_of e.line es) (more_of e.line es) out i)) →
        Lits (e ∷ es) (rest m (cond a (lit_on e.text (line_of m es)) []) (cond a (more_of m es) (replicate (e.line - m - 1) [] ++ lit_on e.text (line_of e.line es) ∷ more_of e.line es)) out i)
    go true f w =
        let g = eqb-true e.line m f in
        subst (λ (k : ℕ). Lits (e ∷ es) (rest k (lit_on e.text (line_of k es)) (more_of k es) out i)) g (lit-rest e.line e es refl (line_of e.line es) (more_of e.line es) w out i)
    go false f w =
        let g = eqb-false e.line m f in
        let d : ℕ = e.line - m - 1 in
        let y : suc m + (e.line - m - 1) ≡ e.line = omega (arith, g, p) in
        let v = lit-rest e.line e es refl (line_of e.line es) (more_of e.line es) w [] (suc (i + 0) + d) in
        subst (λ (ss : List Literal). Lits (e ∷ es) ss)
        (sym (blank-spots d (suc m) (suc (i + 0)) (lit_on e.text (line_of e.line es) ∷ more_of e.line es) ∙ ap (λ (k : ℕ). literals_of k (suc (i + 0) + d) (lit_on e.text (line_of e.line es) ∷ more_of e.line es)) y)) v

-- ---- the listing

abbrev pub listing_of : List Entry → List ℕ
listing_of es = unlines (line_of 1 es ∷ more_of 1 es)

-- no line of it holds an LF
lit-lf : (x l : List ℕ) → lacks 10 l ≡ true → lacks 10 (lit_on x l) ≡ true
unfolding lacks
lit-lf x l h = lacks_both 10 (escaped x) (34 ∷ l) (escaped-lacks x) h

line-lf : (m : ℕ) (es : List Entry) → lacks 10 (line_of m es) ≡ true
unfolding lacks
line-lf m [] = refl
line-lf m (e ∷ es) = go (eqb e.line m) (lit-lf e.text (line_of m es) (line-lf m es))
  where
    go : (a : Bool) → lacks 10 (lit_on e.text (line_of m es)) ≡ true → lacks 10 (cond a (lit_on e.text (line_of m es)) []) ≡ true
    go true h = h
    go false h = refl

blank-lf : (d : ℕ) (ls : List (List ℕ)) → no_lf ls ≡ true → no_lf (replicate d [] ++ ls) ≡ true
unfolding no_lf lacks
blank-lf zero ls h = h
blank-lf (suc d) ls h = blank-lf d ls h

more-lf : (m : ℕ) (es : List Entry) → no_lf (more_of m es) ≡ true
unfolding no_lf
more-lf m [] = refl
more-lf m (e ∷ es) = go (eqb e.line m) (more-lf m es) (more-lf e.line es)
  where
    go : (a : Bool) → no_lf (more_of m es) ≡ true → no_lf (more_of e.line es) ≡ true →
        no_lf (cond a (more_of m es) (replicate (e.line - m - 1) [] ++ lit_on e.text (line_of e.line es) ∷ more_of e.line es)) ≡ true
    go true h k = h
    go false h k = blank-lf (e.line - m - 1) (lit_on e.text (line_of e.line es) ∷ more_of e.line es) (and_both (lit-lf e.text (line_of e.line es) (line-lf e.line es)) k)

listing-lines : (es : List Entry) → lines_of (listing_of es) ≡ line_of 1 es ∷ more_of 1 es
unfolding no_lf
listing-lines es = lines-unlines (line_of 1 es ∷ more_of 1 es) (and_both (line-lf 1 es) (more-lf 1 es))

-- it has no more lines than the last entry's
more-few : {b : ℕ} (m : ℕ) (es : List Entry) → m ≤ b → Climbs b m es → m + length (more_of m es) ≤ b
more-few m [] h c = omega arith
more-few {b} m (e ∷ es) h (climb p q c) = go (eqb e.line m) refl (more-few e.line es q c)
  where
    go : (a : Bool) → eqb e.line m ≡ a → e.line + length (more_of e.line es) ≤ b →
        m + length (cond a (more_of m es) (replicate (e.line - m - 1) [] ++ lit_on e.text (line_of e.line es) ∷ more_of e.line es)) ≤ b
    go true f w = let g = eqb-true e.line m f in subst (λ (k : ℕ). k + length (more_of k es) ≤ b) g w
    go false f w =
        let g = eqb-false e.line m f in
        let x = length-append {A = List ℕ} (replicate (e.line - m - 1) []) (lit_on e.text (line_of e.line es) ∷ more_of e.line es) in
        let y = length-replicate {A = List ℕ} (e.line - m - 1) [] in
        omega (arith, g, p, x, y, w)

pub listing-few : {b : ℕ} (es : List Entry) → 1 ≤ b → Climbs b 1 es → length (lines_of (listing_of es)) ≤ b
listing-few es h c = let x = ap length (listing-lines es) in let y = more-few 1 es h c in omega (arith, x, y)

-- it is valid where the texts are
lit-utf : {x l : List ℕ} → Utf x → Utf l → Utf (lit_on x l)
lit-utf u v = low {x = 34} (omega arith) (utf-append (escaped-utf u) (low {x = 34} (omega arith) v))

line-utf : (m : ℕ) {es : List Entry} → Valids es → Utf (line_of m es)
line-utf m no-entry = done
line-utf m (entry-on {e} {es} u v) = go (eqb e.line m) (lit-utf u (line-utf m v))
  where
    go : (a : Bool) → Utf (lit_on e.text (line_of m es)) → Utf (cond a (lit_on e.text (line_of m es)) [])
    go true w = w
    go false w = done

text-on : (l : List ℕ) (ls : List (List ℕ)) → Utf l → Utf (unlines ls) → Utf (unlines (l ∷ ls))
unfolding unlines
text-on l ls u v = utf-append u (low {x = 10} (omega arith) v)

blank-utf : (d : ℕ) (ls : List (List ℕ)) → Utf (unlines ls) → Utf (unlines (replicate d [] ++ ls))
blank-utf zero ls v = v
blank-utf (suc d) ls v = text-on [] (replicate d [] ++ ls) done (blank-utf d ls v)

more-utf : (m : ℕ) {es : List Entry} → Valids es → Utf (unlines (more_of m es))
unfolding unlines
more-utf m no-entry = done
more-utf m (entry-on {e} {es} u v) = go (eqb e.line m) (more-utf m v) (blank-utf (e.line - m - 1) (lit_on e.text (line_of e.line es) ∷ more_of e.line es) (text-on (lit_on e.text (line_of e.line es)) (more_of e.line es) (lit-utf u (line-utf e.line v)) (more-utf e.line v)))
  where
    go : (a : Bool) → Utf (unlines (more_of m es)) → Utf (unlines (replicate (e.line - m - 1) [] ++ lit_on e.text (line_of e.line es) ∷ more_of e.line es)) →
        Utf (unlines (cond a (more_of m es) (replicate (e.line - m - 1) [] ++ lit_on e.text (line_of e.line es) ∷ more_of e.line es)))
    go true w z = w
    go false w z = z

pub listing-valid : {es : List Entry} → Valids es → utf8_of (listing_of es) ≡ Ok tt
listing-valid {es} v = utf-valid (text-on (line_of 1 es) (more_of 1 es) (line-utf 1 v) (more-utf 1 v))

-- ---- its entries

or-less : (a c d : Bool) → a || c ≡ false → (c ≡ false → d ≡ false) → a || d ≡ false
or-less true c d h g = h
or-less false c d h g = g h

lits-firsts : (above ids : List (List ℕ)) {es : List Entry} {ss : List Literal} → Lits es ss → Fresh ids es → ((x : List ℕ) → known ids x ≡ false → known above x ≡ false) → firsts above ss ≡ es
unfolding firsts
lits-firsts above ids no_lit f k = refl
lits-firsts above ids (lit-on e s {es} {ss} p q r w) (fresh z n f) k =
    ap (λ (a : Bool). cond a [] (record { line = s.line; text = literal_text s } ∷ []) ++ firsts (above ++ literal_text s ∷ []) ss) out
    ∙ ap (λ (l : List Entry). record { line = s.line; text = literal_text s } ∷ l) (lits-firsts (above ++ literal_text s ∷ []) (e.text ∷ ids) w f on)
    ∙ rw (p, q) refl
  where
    out : left_out above (literal_text s) ≡ false
    out = ap (λ (x : List ℕ). left_out above x) q ∙ ap (λ (a : Bool). a || known above e.text) z ∙ k e.text n

    on : (x : List ℕ) → known (e.text ∷ ids) x ≡ false → known (above ++ literal_text s ∷ []) x ≡ false
    on x h = ap (λ (t : List ℕ). known (above ++ t ∷ []) x) q ∙ known-last above e.text x ∙ or-less (same e.text x) (known ids x) (known above x) h (k x)

lits-fine : {es : List Entry} {ss : List Literal} → Lits es ss → first_flaw ss ≡ None
unfolding first_flaw
lits-fine no_lit = refl
lits-fine (lit-on e s {es} {ss} p q r w) = ap (λ (f : Option Flaw). or_else f (first_flaw ss)) r ∙ lits-fine w

listing-lits : {b : ℕ} (es : List Entry) → Climbs b 1 es → Lits es (literals (listing_of es))
unfolding literals literals_of
listing-lits es c = subst (λ (ls : List (List ℕ)). Lits es (literals_of 1 0 ls)) (sym (listing-lines es)) (lits-go es 1 c [] 0)

-- the entries are those it was made of, and nothing is wrong with its literals
pub listing-entries : {b : ℕ} (es : List Entry) → Climbs b 1 es → Fresh [] es → entries (listing_of es) ≡ es
unfolding entries
listing-entries es c f = lits-firsts [] [] (listing-lits es c) f (λ x h. h)

pub listing-fine : {b : ℕ} (es : List Entry) → Climbs b 1 es → first_flaw (literals (listing_of es)) ≡ None
listing-fine es c = lits-fine (listing-lits es c)
