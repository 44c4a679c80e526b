-- Request 9: the same records in another form, and back. Assumes nothing.
use Prim.Native.Nat.{ℕ, suc, ◌*◌, ◌≤◌}
use mathlib.Core.Path.{◌≡◌, refl, sym, ap, ◌∙◌}
use mathlib.Core.Bool.{Bool, true, false, cond}
use mathlib.Core.List.{List, [], ◌∷◌}
use native.Mathlib.Omega.{arith}
use borrow.Author.Tests.{lt-ltb, le-ltb, ltb-true, le-leb, leb-true}
use lib.Dec.{leb, ltb}
use lib.ListN.{length}
use Rattle.lines.proofs.Tests.{no, and_left, and_right, and_both}
use Rattle.origins.specs.declared.Went.{Went}
use Rattle.origins.specs.declared.Went.TheVariants.{Equal, Changed, Inside, Away}
use Rattle.origins.specs.declared.Form.TheVariants.{Ol, Om}
use Rattle.origins.specs.Form.{Shape, form_shape, gone_of, size_of, file_of}
use Rattle.origins.specs.Read.{Said, says, wrong, read_file}
use Rattle.origins.specs.Answers.{fits_out, fits, fits_from, unfit, Turned, turned, denied, roomed_file, turn_by, turn}
use Rattle.origins.proofs.RoundTrip.{bytes, read-file, write-file, file-length}

-- ---- another form

-- a file that is turned: what it says, and the bytes in the other form
pub record Turning (F G : Shape) (s t : List ℕ) : Type 0 where
  pub said : List Went
  pub read : read_file F s ≡ says said
  pub fit : fits_from G 0 said ≡ true
  pub made : t ≡ file_of G said

unturn : {a b : List ℕ} → turned a ≡ turned b → a ≡ b
unturn h = ap out h
  where
    out : Turned → List ℕ
    out (turned x) = x
    out (denied c i) = []

never : {A : Type 0} {c i : ℕ} {t : List ℕ} → denied c i ≡ turned t → A
never h = no (ap out h)
  where
    out : Turned → Bool
    out (turned x) = true
    out (denied c i) = false

pub turning : (F G : Shape) (s t : List ℕ) (room : ℕ) → turn F G s room ≡ turned t → Turning F G s t
unfolding turn
turning F G s t room h = go (read_file F s) refl h
  where
    fine : (ws : List Went) → read_file F s ≡ says ws → fits_from G 0 ws ≡ true → (r : Bool) → cond r (denied 7 (size_of G * length ws)) (turned (file_of G ws)) ≡ turned t → Turning F G s t
    fine ws e f true z = never z
    fine ws e f false z = record { said = ws; read = e; fit = f; made = sym (unturn z) }

    by : (ws : List Went) → read_file F s ≡ says ws → (b : Bool) → fits_from G 0 ws ≡ b → cond b (roomed_file G ws room) (denied 6 (unfit G 0 ws)) ≡ turned t → Turning F G s t
    by ws e true f z = fine ws e f (ltb room (size_of G * length ws)) z
    by ws e false f z = never z

    go : (r : Said) → read_file F s ≡ r → turn_by G room r ≡ turned t → Turning F G s t
    go (says ws) e z = by ws e (fits_from G 0 ws) refl z
    go (wrong c i) e z = never z

-- What is read of the file in the other form is what was read
pub turn-reads : (F G : Shape) (s t : List ℕ) (room : ℕ) → turn F G s room ≡ turned t → read_file G t ≡ read_file F s
turn-reads F G s t room h =
    let q = turning F G s t room h in
    ap (read_file G) q.made ∙ read-file G q.said q.fit ∙ sym q.read

-- There and back gives equal bytes, whatever the two forms
pub there_and_back : (F G : Shape) (s t : List ℕ) (room : ℕ) → bytes s ≡ true → turn F G s room ≡ turned t → turn G F t (length s) ≡ turned s
unfolding turn
there_and_back F G s t room b h =
    let q = turning F G s t room h in
    let w = write-file F s q.said b q.read in
    let l : size_of F * length q.said ≡ length s = sym (file-length F q.said) ∙ ap length w.0 in
    rw (q.made, read-file G q.said q.fit, w.1, l, le-ltb (length s) (length s) (omega arith)) (ap turned w.0)

-- ---- OL to OM: every line fits

-- a form whose numbers are no fewer
fits_more : (F G : Shape) (i : ℕ) (w : Went) → gone_of F ≤ gone_of G → fits F i w ≡ true → fits G i w ≡ true
fits_more F G i w q h = and_both (le-leb i (gone_of G) (omega (arith, leb-true i (gone_of F) (and_left (leb i (gone_of F)) (fits_out F w) h)))) (go w (and_right (leb i (gone_of F)) (fits_out F w) h))
  where
    go : (w : Went) → fits_out F w ≡ true → fits_out G w ≡ true
    go (Equal n) z = lt-ltb n (gone_of G) (omega (arith, ltb-true n (gone_of F) z))
    go (Changed n) z = lt-ltb n (gone_of G) (omega (arith, ltb-true n (gone_of F) z))
    go (Inside n) z = lt-ltb n (gone_of G) (omega (arith, ltb-true n (gone_of F) z))
    go Away z = refl

fits_all : (F G : Shape) (i : ℕ) (ws : List Went) → gone_of F ≤ gone_of G → fits_from F i ws ≡ true → fits_from G i ws ≡ true
unfolding fits_from
fits_all F G i [] q h = refl
fits_all F G i (w ∷ ws) q h =
    and_both (fits_more F G i w q (and_left (fits F i w) (fits_from F (suc i) ws) h)) (fits_all F G (suc i) ws q (and_right (fits F i w) (fits_from F (suc i) ws) h))

-- An OL file that is read is turned into OM, where there is room
pub old-to-new : (s : List ℕ) (ws : List Went) (room : ℕ) → bytes s ≡ true → read_file (form_shape Ol) s ≡ says ws → size_of (form_shape Om) * length ws ≤ room →
    turn (form_shape Ol) (form_shape Om) s room ≡ turned (file_of (form_shape Om) ws)
unfolding turn
old-to-new s ws room b h k = rw (h, fits_all (form_shape Ol) (form_shape Om) 0 ws (omega arith) (write-file (form_shape Ol) s ws b h).1, le-ltb room (size_of (form_shape Om) * length ws) k)
