-- One line of a file that is read: a text between quotes, a reference. Assumes nothing.
use Prim.Native.Nat.{ℕ, zero, suc, ◌+◌, ◌-◌, ◌≤◌, ◌<◌}
use mathlib.Core.Path.{◌≡◌, refl, sym, ap, ◌∙◌}
use mathlib.Core.Bool.{Bool, true, false, cond, not, ◌&&◌, ◌||◌}
use mathlib.Core.List.{List, [], ◌∷◌, ◌++◌, append_assoc}
use native.Mathlib.Omega.{arith}
use native.Mathlib.Numerals.{add-one}
use borrow.Author.Tests.{eq-eqb, ne_eqb, eqb-true, eqb-false}
use lib.Dec.{eqb, leb}
use lib.ListN.{length, take, drop, get_or, length-drop, length-take, drop_of_length-le}
use lib.Seq.{drop-drop}
use Rattle.lines.specs.Lf.{part, same, prefixed}
use Rattle.lines.proofs.Tests.{no, and_left, and-false, and-true}
use Rattle.lines.proofs.LfLaws.{rest_of}
use Rattle.lines.proofs.Compare.{two_at}
use Rattle.lexical.proofs.EndLaws.{cons-at}
use Rattle.text.specs.Utf8Form.{utf8_of}
use Rattle.names.specs.Names.{decimal, read_number}
use Rattle.po.specs.declared.Unit.{Unit}
use Rattle.po.specs.Found.{plain_of, decoded, empty}
use Rattle.po.specs.Form.{escape, escaped, ref_word, ref_line}
use Rattle.po.specs.Name.{name_run, is_file_name}
use Rattle.po.specs.Reader.{is_valid, is_quoted_line, colon, value_of, name_in, line_number}
use Rattle.po.specs.Inner.Walk.{unit, unit_of}
use Rattle.po.specs.Inner.ReadWalk.{formed, is_reference, follows}
use Rattle.po.proofs.UnitLaws.{text-stop, text-on, escape-self, escaped-cons}

-- ---- tests that are turned round

pub denied : {b : Bool} → not b ≡ true → b ≡ false
denied {b = true} e = no e
denied {b = false} e = refl

pub granted : {b : Bool} → not b ≡ false → b ≡ true
granted {b = true} e = refl
granted {b = false} e = no (sym e)

-- ---- a front

-- a text is a front and a rest
pub same-front : (w l x : List ℕ) → same l (w ++ x) ≡ prefixed w l && same (drop (length w) l) x
unfolding same prefixed
same-front [] l x = refl
same-front (b ∷ w) [] x = refl
same-front (b ∷ w) (y ∷ l) x = go (eqb y b) refl (eqb b y) refl (same-front w l x)
  where
    go : (p : Bool) → eqb y b ≡ p → (q : Bool) → eqb b y ≡ q → same l (w ++ x) ≡ prefixed w l && same (drop (length w) l) x → p && same l (w ++ x) ≡ (q && prefixed w l) && same (drop (length w) l) x
    go true e true f ih = ih
    go true e false f ih = absurd (eqb-false b y f (sym (eqb-true y b e)))
    go false e true f ih = absurd (eqb-false y b e (sym (eqb-true b y f)))
    go false e false f ih = refl

prefixed-take : (k : ℕ) (l : List ℕ) → prefixed (take k l) l ≡ true
unfolding prefixed
prefixed-take zero l = refl
prefixed-take (suc k) [] = refl
prefixed-take (suc k) (x ∷ l) = rw (eq-eqb x x refl) (prefixed-take k l)

-- ---- a byte as it is written

module _ (l : List ℕ) (i b : ℕ) where
  pub two_here : (x y c : ℕ) → x ≡ get_or l i 0 → y ≡ get_or l (i + 1) 0 → eqb 0 c ≡ false → escape b ≡ 92 ∷ c ∷ [] → eqb x 92 && eqb y c ≡ prefixed (escape b) (drop i l)
  two_here x y c p q z e = rw (p, q) (sym (ap (λ (w : List ℕ). prefixed w (drop i l)) e ∙ two_at 92 c refl z l i))

  pub one-here : (x : ℕ) → x ≡ get_or l i 0 → i < length l → (b ≡ 10 → ⊥) → (b ≡ 9 → ⊥) → (b ≡ 34 → ⊥) → (b ≡ 92 → ⊥) → eqb b x ≡ prefixed (escape b) (drop i l)
  unfolding prefixed
  one-here x q h n m o p = ap (eqb b) q ∙ sym (ap (λ (w : List ℕ). prefixed w (drop i l)) (escape-self b n m o p) ∙ ap (prefixed (b ∷ [])) (cons-at l i h) ∙ and-true (eqb b (get_or l i 0)))

unit-two : (c : ℕ) (l : List ℕ) → prefixed (92 ∷ c ∷ []) l ≡ true → (unit_of l 34).size ≡ 2
unfolding prefixed unit_of
unit-two c [] h = no h
unit-two c (x ∷ []) h = no (sym (and-false (eqb 92 x)) ∙ h)
unit-two c (x ∷ y ∷ l) h = ap (λ (n : ℕ). (unit_of (n ∷ y ∷ l) 34).size) (sym (eqb-true 92 x (and_left (eqb 92 x) (eqb c y && true) h)))

unit-one : (b : ℕ) (l : List ℕ) → eqb b 92 ≡ false → ((unit_of l 34).size ≡ 0 → ⊥) → prefixed (b ∷ []) l ≡ true → (unit_of l 34).size ≡ 1
unfolding prefixed unit_of
unit-one b [] f n h = no h
unit-one b (x ∷ []) f n h = go (eqb x 34) n
  where
    go : (v : Bool) → ((cond v (unit 0 0) (unit 1 x)).size ≡ 0 → ⊥) → (cond v (unit 0 0) (unit 1 x)).size ≡ 1
    go true n = absurd (n refl)
    go false n = refl
unit-one b (x ∷ y ∷ l) f n h = go (eqb x 92) (ap (λ (m : ℕ). eqb m 92) (sym (eqb-true b x (and_left (eqb b x) true h))) ∙ f) (eqb x 34) n
  where
    go : (u : Bool) → u ≡ false → (v : Bool) → ((cond u (unit 2 (plain_of y)) (cond v (unit 0 0) (unit 1 x))).size ≡ 0 → ⊥) → (cond u (unit 2 (plain_of y)) (cond v (unit 0 0) (unit 1 x))).size ≡ 1
    go true z v n = no (sym z)
    go false z true n = absurd (n refl)
    go false z false n = refl

-- a unit that stands as it is written has as many bytes as are written
written-size : (b : ℕ) (l : List ℕ) → ((unit_of l 34).size ≡ 0 → ⊥) → prefixed (escape b) l ≡ true → length (escape b) ≡ (unit_of l 34).size
written-size b l n h = go (eqb b 10) (eqb b 9) (eqb b 34) (eqb b 92) refl h
  where
    go : (p q r s : Bool) → eqb b 92 ≡ s → prefixed (cond p (92 ∷ 110 ∷ []) (cond q (92 ∷ 116 ∷ []) (cond r (92 ∷ 34 ∷ []) (cond s (92 ∷ 92 ∷ []) (b ∷ []))))) l ≡ true →
        length (cond p (92 ∷ 110 ∷ []) (cond q (92 ∷ 116 ∷ []) (cond r (92 ∷ 34 ∷ []) (cond s (92 ∷ 92 ∷ []) (b ∷ []))))) ≡ (unit_of l 34).size
    go true q r s f h = sym (unit-two 110 l h)
    go false true r s f h = sym (unit-two 116 l h)
    go false false true s f h = sym (unit-two 34 l h)
    go false false false true f h = sym (unit-two 92 l h)
    go false false false false f h = sym (unit-one b l f n h)

stop-quote : (x : ℕ) (l : List ℕ) (q : ℕ) → (unit_of (x ∷ l) q).size ≡ 0 → x ≡ q
unfolding unit_of
stop-quote x [] q e = go (eqb x q) refl e
  where
    go : (v : Bool) → eqb x q ≡ v → (cond v (unit 0 0) (unit 1 x)).size ≡ 0 → x ≡ q
    go true f e = eqb-true x q f
    go false f e = absurd (omega arith)
stop-quote x (y ∷ l) q e = go (eqb x 92) (eqb x q) refl e
  where
    go : (u v : Bool) → eqb x q ≡ v → (cond u (unit 2 (plain_of y)) (cond v (unit 0 0) (unit 1 x))).size ≡ 0 → x ≡ q
    go true v f e = absurd (omega arith)
    go false true f e = eqb-true x q f
    go false false f e = absurd (omega arith)

-- ---- a text as it is written, and its closing quote

same_none : (l : List ℕ) (i : ℕ) → i < length l → same (drop (i + 1) l) [] ≡ eqb (i + 1) (length l)
unfolding same
same_none l i h = go (eqb (i + 1) (length l)) refl
  where
    go : (b : Bool) → eqb (i + 1) (length l) ≡ b → same (drop (i + 1) l) [] ≡ b
    go true e = let z = eqb-true (i + 1) (length l) e in let k : length l ≤ i + 1 = omega arith in ap (λ (m : List ℕ). same m []) (drop_of_length-le l k)
    go false e = let z = eqb-false (i + 1) (length l) e in let k : i + 1 < length l = omega arith in ap (λ (m : List ℕ). same m []) (cons-at l (i + 1) k)

module _ (l : List ℕ) (i : ℕ) (u : Unit) (e : u ≡ unit_of (drop i l) 34) where
  pub form-stop : i < length l → u.size ≡ 0 → eqb (i + 1) (length l) ≡ formed (drop i l)
  unfolding formed escaped same
  form-stop h z =
      let s : (unit_of (get_or l i 0 ∷ drop (i + 1) l) 34).size ≡ 0 = ap (λ (m : List ℕ). (unit_of m 34).size) (sym (cons-at l i h)) ∙ ap (λ (w : Unit). w.size) (sym e) ∙ z in
      sym
      (ap (λ (t : List ℕ). same (drop i l) (escaped t ++ 34 ∷ [])) (text-stop l 34 i u e z)
      ∙ ap (λ (m : List ℕ). same m (34 ∷ [])) (cons-at l i h)
      ∙ ap (λ (n : ℕ). eqb n 34 && same (drop (i + 1) l) []) (stop-quote (get_or l i 0) (drop (i + 1) l) 34 s)
      ∙ same_none l i h)

  form-front : (u.size ≡ 0 → ⊥) → formed (drop i l) ≡ prefixed (escape u.byte) (drop i l) && same (drop (length (escape u.byte)) (drop i l)) (escaped (decoded (drop (i + u.size) l) 34) ++ 34 ∷ [])
  unfolding formed
  form-front n =
      let t : List ℕ = decoded (drop (i + u.size) l) 34 in
      ap (λ (x : List ℕ). same (drop i l) (escaped x ++ 34 ∷ [])) (text-on l 34 i u e n)
      ∙ ap (λ (x : List ℕ). same (drop i l) (x ++ 34 ∷ [])) (escaped-cons u.byte t)
      ∙ ap (same (drop i l)) (append_assoc (escape u.byte) (escaped t) (34 ∷ []))
      ∙ same-front (escape u.byte) (drop i l) (escaped t ++ 34 ∷ [])

  pub form-no : (u.size ≡ 0 → ⊥) → prefixed (escape u.byte) (drop i l) ≡ false → formed (drop i l) ≡ false
  form-no n f = form-front n ∙ ap (λ (b : Bool). b && same (drop (length (escape u.byte)) (drop i l)) (escaped (decoded (drop (i + u.size) l) 34) ++ 34 ∷ [])) f

  pub form-on : (u.size ≡ 0 → ⊥) → prefixed (escape u.byte) (drop i l) ≡ true → formed (drop i l) ≡ formed (drop (i + u.size) l)
  unfolding formed
  form-on n f =
      let k : length (escape u.byte) ≡ u.size = written-size u.byte (drop i l) (λ z. n (ap (λ (w : Unit). w.size) e ∙ z)) f ∙ ap (λ (w : Unit). w.size) (sym e) in
      form-front n
      ∙ ap (λ (b : Bool). b && same (drop (length (escape u.byte)) (drop i l)) (escaped (decoded (drop (i + u.size) l) 34) ++ 34 ∷ [])) f
      ∙ ap (λ (m : ℕ). same (drop m (drop i l)) (escaped (decoded (drop (i + u.size) l) 34) ++ 34 ∷ [])) k
      ∙ ap (λ (m : List ℕ). same m (escaped (decoded (drop (i + u.size) l) 34) ++ 34 ∷ [])) (drop-drop u.size i l)

pub form-past : (l : List ℕ) (i : ℕ) → length l ≤ i → formed (drop i l) ≡ false
unfolding formed decoded escaped same
form-past l i h = ap formed (drop_of_length-le l h)

-- ---- a word, and a text between quotes

module _ (w l : List ℕ) where
  quoted-is : is_quoted_line w l ≡ (prefixed w l && formed (drop (length w) l)) && is_valid (utf8_of l)
  unfolding is_quoted_line formed
  quoted-is =
      let t : List ℕ = decoded (drop (length w) l) 34 in
      ap (λ (b : Bool). b && is_valid (utf8_of l)) (ap (same l) (append_assoc w (escaped t) (34 ∷ [])) ∙ same-front w l (escaped t ++ 34 ∷ []))

  pub quoted-no-word : prefixed w l ≡ false → false ≡ is_quoted_line w l
  quoted-no-word e = sym (quoted-is ∙ ap (λ (b : Bool). (b && formed (drop (length w) l)) && is_valid (utf8_of l)) e)

  pub quoted-no-form : prefixed w l ≡ true → formed (drop (length w) l) ≡ false → false ≡ is_quoted_line w l
  quoted-no-form e f = sym (quoted-is ∙ ap (λ (b : Bool). (b && formed (drop (length w) l)) && is_valid (utf8_of l)) e ∙ ap (λ (b : Bool). b && is_valid (utf8_of l)) f)

  pub quoted-by : prefixed w l ≡ true → formed (drop (length w) l) ≡ true → is_valid (utf8_of l) ≡ is_quoted_line w l
  quoted-by e f = sym (quoted-is ∙ ap (λ (b : Bool). (b && formed (drop (length w) l)) && is_valid (utf8_of l)) e ∙ ap (λ (b : Bool). b && is_valid (utf8_of l)) f)

-- ---- a reference

colon-suc : (l : List ℕ) (e : ℕ) → colon l (suc e) ≡ cond (eqb (get_or l e 0) 58) e (colon l e)
unfolding colon
colon-suc l e = refl

module _ (l : List ℕ) (e : ℕ) (h : 0 < e) where
  colon-at : colon l e ≡ cond (eqb (get_or l (e - 1) 0) 58) (e - 1) (colon l (e - 1))
  colon-at = let q : e ≡ suc (e - 1) = omega arith in ap (colon l) q ∙ colon-suc l (e - 1)

  pub colon-here : get_or l (e - 1) 0 ≡ 58 → colon l e ≡ e - 1
  colon-here f = colon-at ∙ ap (λ (b : Bool). cond b (e - 1) (colon l (e - 1))) (eq-eqb (get_or l (e - 1) 0) 58 f)

  pub colon-on : (get_or l (e - 1) 0 ≡ 58 → ⊥) → colon l e ≡ colon l (e - 1)
  colon-on n = colon-at ∙ ap (λ (b : Bool). cond b (e - 1) (colon l (e - 1))) (ne_eqb (get_or l (e - 1) 0) 58 n)

pub colon-zero : (l : List ℕ) (e : ℕ) → e ≡ 0 → colon l e ≡ 0
unfolding colon
colon-zero l e z = ap (colon l) z

colon-found : (l : List ℕ) (e : ℕ) → (colon l e ≡ 0 → ⊥) → (get_or l (colon l e) 0 ≡ 58) × (colon l e < e)
unfolding colon
colon-found l zero n = absurd (n refl)
colon-found l (suc e) n = go (eqb (get_or l e 0) 58) refl n (colon-found l e)
  where
    go : (b : Bool) → eqb (get_or l e 0) 58 ≡ b → (cond b e (colon l e) ≡ 0 → ⊥) → ((colon l e ≡ 0 → ⊥) → (get_or l (colon l e) 0 ≡ 58) × (colon l e < e)) → (get_or l (cond b e (colon l e)) 0 ≡ 58) × (cond b e (colon l e) < suc e)
    go true f n ih = (eqb-true (get_or l e 0) 58 f, omega arith)
    go false f n ih = let r = ih n in (r.0, let k = r.1 in omega arith)

pub colon-le : (l : List ℕ) (e : ℕ) → colon l e ≤ e
unfolding colon
colon-le l zero = omega arith
colon-le l (suc e) = go (eqb (get_or l e 0) 58) (colon-le l e)
  where
    go : (b : Bool) → colon l e ≤ e → cond b e (colon l e) ≤ suc e
    go true k = omega arith
    go false k = omega arith

name-some : (n : List ℕ) → is_file_name n ≡ true → 0 < length n
unfolding is_file_name
name-some [] e = no e
name-some (x ∷ n) e = omega arith

module _ (l : List ℕ) (c : ℕ) (e : c ≡ colon l (length l)) where
  pub name-at : part 3 c l ≡ name_in l
  unfolding name_in
  name-at = ap (λ (n : ℕ). take (n - 3) (drop 3 l)) e

  pub digits-at : part (c + 1) (length l) l ≡ drop (suc (colon l (length l))) l
  digits-at = rest_of l (c + 1) ∙ ap (λ (n : ℕ). drop n l) (add-one c ∙ ap suc e)

  pub line-at : (v : ℕ) → v ≡ value_of (read_number (part (c + 1) (length l) l)) → v ≡ line_number l
  unfolding line_number
  line-at v f = f ∙ ap (λ (m : List ℕ). value_of (read_number m)) digits-at

  pub ref-no-name : is_file_name (name_in l) ≡ false → is_reference l ≡ false
  unfolding is_reference
  ref-no-name f = ap (λ (b : Bool). same l (ref_line (name_in l) (line_number l)) && b) f ∙ and-false (same l (ref_line (name_in l) (line_number l)))

  ref-front : same l (ref_line (name_in l) (line_number l)) ≡ prefixed ref_word l && same (drop 3 l) (name_in l ++ 58 ∷ decimal (line_number l))
  ref-front =
      let ds : List ℕ = decimal (line_number l) in
      ap (same l) (append_assoc (ref_word ++ name_in l) (58 ∷ []) ds ∙ append_assoc ref_word (name_in l) (58 ∷ ds)) ∙ same-front ref_word l (name_in l ++ 58 ∷ ds)

  pub ref-no-word : prefixed ref_word l ≡ false → is_reference l ≡ false
  unfolding is_reference
  ref-no-word f = ap (λ (b : Bool). b && is_file_name (name_in l)) (ref-front ∙ ap (λ (b : Bool). b && same (drop 3 l) (name_in l ++ 58 ∷ decimal (line_number l))) f)

  ref-rest : is_file_name (name_in l) ≡ true → same (drop 3 l) (name_in l ++ 58 ∷ decimal (line_number l)) ≡ same (drop (suc (colon l (length l))) l) (decimal (line_number l))
  unfolding name_in same
  ref-rest f =
      let k : ℕ = colon l (length l) in
      let ds : List ℕ = decimal (line_number l) in
      let some : 0 < length (take (k - 3) (drop 3 l)) = name-some (take (k - 3) (drop 3 l)) f in
      let t = length-take (k - 3) (drop 3 l) in
      let d = length-drop 3 l in
      let big : 3 < k = omega arith in
      let found = colon-found l (length l) (λ z. omega arith) in
      let in-l = found.1 in
      let size : length (take (k - 3) (drop 3 l)) ≡ k - 3 = omega arith in
      let to-k : 3 + (k - 3) ≡ k = omega arith in
      same-front (take (k - 3) (drop 3 l)) (drop 3 l) (58 ∷ ds)
      ∙ ap (λ (b : Bool). b && same (drop (length (take (k - 3) (drop 3 l))) (drop 3 l)) (58 ∷ ds)) (prefixed-take (k - 3) (drop 3 l))
      ∙ ap (λ (n : ℕ). same (drop n (drop 3 l)) (58 ∷ ds)) size
      ∙ ap (λ (m : List ℕ). same m (58 ∷ ds)) (drop-drop (k - 3) 3 l ∙ ap (λ (n : ℕ). drop n l) to-k ∙ cons-at l k in-l)
      ∙ ap (λ (n : ℕ). eqb n 58 && same (drop (k + 1) l) ds) found.0
      ∙ ap (λ (n : ℕ). same (drop n l) ds) (add-one k)

  pub ref-by : prefixed ref_word l ≡ true → is_file_name (name_in l) ≡ true → (b : Bool) (v : ℕ) → v ≡ value_of (read_number (part (c + 1) (length l) l)) → b ≡ same (part (c + 1) (length l) l) (decimal v) → b ≡ is_reference l
  unfolding is_reference
  ref-by g f b v p q =
      q
      ∙ ap (λ (m : List ℕ). same m (decimal v)) digits-at
      ∙ ap (λ (n : ℕ). same (drop (suc (colon l (length l))) l) (decimal n)) (line-at v p)
      ∙ sym (ap (λ (a : Bool). same l (ref_line (name_in l) (line_number l)) && a) f ∙ and-true (same l (ref_line (name_in l) (line_number l))) ∙ ref-front ∙ ap (λ (a : Bool). a && same (drop 3 l) (name_in l ++ 58 ∷ decimal (line_number l))) g ∙ ref-rest f)

-- ---- names above

pub empty-yes : (l : List ℕ) → length l ≡ 0 → empty l ≡ true
empty-yes [] e = refl
empty-yes (x ∷ l) e = absurd (omega arith)

pub empty-no : (l : List ℕ) → (length l ≡ 0 → ⊥) → empty l ≡ false
empty-no [] n = absurd (n refl)
empty-no (x ∷ l) n = refl

pub empty-is : (l : List ℕ) → eqb (length l) 0 ≡ empty l
empty-is [] = refl
empty-is (x ∷ l) = ne_eqb (suc (length l)) 0 (omega arith)

pub name-none : (n : List ℕ) → length n ≡ 0 → is_file_name n ≡ false
unfolding is_file_name
name-none n e = ap (λ (b : Bool). not b && eqb (name_run 0 n) (length n)) (empty-yes n e)

pub name_by : (n : List ℕ) → (length n ≡ 0 → ⊥) → (k : ℕ) → k ≡ name_run 0 n → eqb k (length n) ≡ is_file_name n
unfolding is_file_name
name_by n z k e = ap (λ (m : ℕ). eqb m (length n)) e ∙ sym (ap (λ (b : Bool). not b && eqb (name_run 0 n) (length n)) (empty-no n z))

module _ (name : List ℕ) (least : ℕ) (l : List ℕ) (c : ℕ) (e : c ≡ colon l (length l)) (m : List ℕ) (z : m ≡ part 3 c l) (b : Bool) (k : b ≡ empty name || same name m) where
  kept-is : b ≡ empty name || same name (name_in l)
  kept-is = k ∙ ap (λ (x : List ℕ). empty name || same name x) (z ∙ name-at l c e)

  pub next-no : b ≡ false → false ≡ follows name least l
  next-no f = sym (ap (λ (x : Bool). x && leb least (line_number l)) (sym kept-is ∙ f))

  pub next-by : b ≡ true → (d : List ℕ) → d ≡ part (c + 1) (length l) l → (v : ℕ) → v ≡ value_of (read_number d) → leb least v ≡ follows name least l
  next-by f d q v p = ap (leb least) (line-at l c e v (p ∙ ap (λ (x : List ℕ). value_of (read_number x)) q)) ∙ sym (ap (λ (x : Bool). x && leb least (line_number l)) (sym kept-is ∙ f))

module _ (l : List ℕ) (c : ℕ) (e : c ≡ colon l (length l)) (m : List ℕ) (z : m ≡ part 3 c l) (b : Bool) (k : b ≡ is_file_name m) where
  named-is : b ≡ is_file_name (name_in l)
  named-is = k ∙ ap is_file_name (z ∙ name-at l c e)

  pub reference-no : b ≡ false → false ≡ is_reference l
  reference-no f = sym (ref-no-name l c e (sym named-is ∙ f))

  pub reference-by : b ≡ true → prefixed ref_word l ≡ true → (d : List ℕ) → d ≡ part (c + 1) (length l) l → (v : ℕ) → v ≡ value_of (read_number d) → (r : Bool) → r ≡ same d (decimal v) → r ≡ is_reference l
  reference-by f g d q v p r t = ref-by l c e g (sym named-is ∙ f) r v (p ∙ ap (λ (x : List ℕ). value_of (read_number x)) q) (t ∙ ap (λ (x : List ℕ). same x (decimal v)) q)

pub reference-word : (l : List ℕ) (c : ℕ) → c ≡ colon l (length l) → prefixed ref_word l ≡ false → false ≡ is_reference l
reference-word l c e f = sym (ref-no-word l c e f)
