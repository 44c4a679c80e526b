-- Laws of zeroing, and of the last step. Assumes nothing.
use Prim.Native.Nat.{ℕ, ◌-◌, ◌*◌, ◌≤◌, ◌<◌, ◌^◌}
use mathlib.Core.Path.{◌≡◌, refl, sym, ap, ◌∙◌}
use mathlib.Core.Bool.{Bool, true, false, cond}
use mathlib.Core.List.{List, [], ◌∷◌}
use native.Mathlib.Omega.{arith}
use native.Mathlib.Nat.{le_trans, le_of_eq, mul-le-mul_left, mul-le-mul_right}
use borrow.Author.Tests.{ltb-false}
use lib.Dec.{ltb}
use lib.ListN.{length, take, replicate}
use Rattle.lines.specs.Lf.{ends_in, lines_of, unlines}
use Rattle.lines.specs.Inner.Out.{Wrote}
use Rattle.lines.specs.Steps.{split_lines, joined}
use Rattle.lines.proofs.LfLaws.{lines-unlines}
use Rattle.lines.proofs.StepLaws.{split-no_lf, split-room}
use Rattle.slots.proofs.SlotLaws.{wiped-zeros}
use Rattle.origins.specs.declared.Form.{Form}
use Rattle.origins.specs.declared.Form.TheVariants as form
use Rattle.origins.specs.declared.Went.{Went}
use Rattle.origins.specs.Form.{form_shape, size_of, file_of}
use Rattle.origins.specs.Fates.{Fate, wents_of}
use Rattle.origins.specs.Inner.Codes.{half, codes_of}
use Rattle.origins.specs.Inner.Written.{left_over, wents_by}
use Rattle.origins.proofs.RoundTrip.{file-length}
use Rattle.origins.proofs.InStep.{in_step}
use Rattle.limits.specs.declared.Limits.{Limits}
use Rattle.limits.specs.declared.Refusal.TheVariants.{ShortResult, ShortRecords}
use Rattle.std.specs.declared.result.Result.TheVariants.{Ok, Err}
use Rattle.limits.specs.Answer.{Answer, number_of, is_done}
use Rattle.limits.specs.Entry.{records_need, roomed, out_after, blank}
use Rattle.limits.specs.Inner.Sane.{Within}
use Rattle.limits.proofs.AnswerLaws.{out-done}
use Rattle.steps.proofs.Tame.{Tame}
use Rattle.steps.proofs.Traces.{lines-most}
use Rattle.steps.proofs.Goings.{Goes, goes-under}
use Rattle.passes.specs.Passes.{result_of, origins_of}
use Rattle.passes.specs.Inner.Buffers.{Front, Blank, Unused}

-- ---- zeroing

pub wiped-all : (d : List ℕ) {d' : List ℕ} {n r : ℕ} → n ≡ length d → Wrote d 0 (replicate n 0) d' r → d' ≡ blank (length d)
unfolding blank
wiped-all d e w = wiped-zeros e refl w

pub wiped-numbers : (d : List ℕ) {d' : List ℕ} → d' ≡ replicate (length d) 0 → d' ≡ blank (length d)
unfolding blank
wiped-numbers d w = w

-- of buffers that are as long as those before
pub blank-as : {a b c d e u a₁ b₁ c₁ d₁ e₁ u₁ a' b' c' d' e' u' : List ℕ} → length a₁ ≡ length a → length b₁ ≡ length b → length c₁ ≡ length c → length d₁ ≡ length d → length e₁ ≡ length e → length u₁ ≡ length u →
    Blank a₁ b₁ c₁ d₁ e₁ u₁ a' b' c' d' e' u' → Blank a b c d e u a' b' c' d' e' u'
blank-as qa qb qc qd qe qu w = record {
  a-blank = w.a-blank ∙ ap blank qa;
  b-blank = w.b-blank ∙ ap blank qb;
  c-blank = w.c-blank ∙ ap blank qc;
  d-blank = w.d-blank ∙ ap blank qd;
  e-blank = w.e-blank ∙ ap blank qe;
  u-blank = w.u-blank ∙ ap blank qu;
}

pub unused-as : {f g h v w x p q r t o z f₁ g₁ h₁ v₁ w₁ x₁ p₁ q₁ r₁ t₁ o₁ z₁ f' g' h' v' w' x' p' q' r' t' o' z' : List ℕ} → length f₁ ≡ length f → length g₁ ≡ length g → length h₁ ≡ length h → length v₁ ≡ length v → length w₁ ≡ length w → length x₁ ≡ length x → length p₁ ≡ length p → length q₁ ≡ length q → length r₁ ≡ length r → length t₁ ≡ length t → length o₁ ≡ length o → length z₁ ≡ length z →
    Unused f₁ g₁ h₁ v₁ w₁ x₁ p₁ q₁ r₁ t₁ o₁ z₁ f' g' h' v' w' x' p' q' r' t' o' z' → Unused f g h v w x p q r t o z f' g' h' v' w' x' p' q' r' t' o' z'
unused-as qf qg qh qv qw qx qp qq qr qt qo qz w = record {
  f-unused = w.f-unused ∙ ap blank qf;
  g-unused = w.g-unused ∙ ap blank qg;
  h-unused = w.h-unused ∙ ap blank qh;
  v-unused = w.v-unused ∙ ap blank qv;
  w-unused = w.w-unused ∙ ap blank qw;
  x-unused = w.x-unused ∙ ap blank qx;
  p-unused = w.p-unused ∙ ap blank qp;
  q-unused = w.q-unused ∙ ap blank qq;
  r-unused = w.r-unused ∙ ap blank qr;
  t-unused = w.t-unused ∙ ap blank qt;
  o-unused = w.o-unused ∙ ap blank qo;
  z-unused = w.z-unused ∙ ap blank qz;
}

-- ---- the records

wents-most : (out ls : List (List ℕ)) (cs : List ℕ) → length (wents_by out ls cs) ≤ length cs
unfolding wents_by
wents-most out [] cs = omega arith
wents-most out (l ∷ ls) [] = omega arith
wents-most out (l ∷ ls) (c ∷ cs) = let h = wents-most (left_over c out) ls cs in omega arith

-- a record is not long, so that their length is a number
size-most : (F : Form) → size_of (form_shape F) ≤ 11
size-most form.Ol = omega arith
size-most form.Om = omega arith

pub need-fits : (F : Form) (n : ℕ) {k : ℕ} → k ≡ size_of (form_shape F) → n < 2 ^ 32 → k * n < 2 ^ 64
need-fits F n {k} e h = let l : k ≤ 11 = omega (arith, e, size-most F) in omega (arith, mul-le-mul_right n l)

-- where the answer is `Done` they have room
pub records-fit : (F : Form) (y : Answer) (n room k have : ℕ) (out ls : List (List ℕ)) (cs : List ℕ) → y ≡ roomed n room (size_of (form_shape F) * k) have → number_of y ≡ 0 → k ≡ length cs → length (file_of (form_shape F) (wents_by out ls cs)) ≤ have
unfolding number_of
records-fit F y n room k have out ls cs e z q =
    let m : length (wents_by out ls cs) ≤ k = omega (arith, wents-most out ls cs, q) in
    le_trans (le_of_eq (file-length (form_shape F) (wents_by out ls cs))) (le_trans (mul-le-mul_left (size_of (form_shape F)) m) (enough (ltb room n) (ltb have need) refl (ap number_of (sym e) ∙ z)))
  where
    need : ℕ
    need = size_of (form_shape F) * k

    enough : (b d : Bool) → ltb have need ≡ d → number_of (cond b (Err (ShortResult n)) (cond d (Err (ShortRecords need)) (Ok n))) ≡ 0 → need ≤ have
    enough true d p w = absurd (omega (arith, w))
    enough false true p w = absurd (omega (arith, w))
    enough false false p w = ltb-false have need p

pub records-done : (y : Answer) {d xs d' : List ℕ} {r : ℕ} → is_done y ≡ true → Wrote d 0 xs d' r → d' ≡ out_after y xs d
unfolding out_after is_done number_of
records-done y h w = rw h (out-done w)

-- ---- the last step

-- the lines that passes made of a text stand at the front of a: they are joined to the result
module _ {f : List (List ℕ) → List (List ℕ)} (t : List ℕ) {a : List ℕ} {n : ℕ} (p : Tame f) (h : Front a n (unlines (f (split_lines t)))) where
  front-lines : lines_of (take n a) ≡ f (split_lines t)
  front-lines = ap lines_of h.is ∙ lines-unlines (f (split_lines t)) (p.keeps (split_lines t) (split-no_lf t))

  front-result : joined (ends_in 10 t) (lines_of (take n a)) ≡ result_of f t
  unfolding result_of
  front-result = ap (joined (ends_in 10 t)) front-lines

  -- r is the answer, and d the result buffer
  module _ (r : Answer) (d : List ℕ) where
    pub front-answer : (F : Form) (k have : ℕ) → k ≡ length (split_lines t) → r ≡ roomed (length (joined (ends_in 10 t) (lines_of (take n a)))) (length d) (size_of (form_shape F) * k) have → r ≡ roomed (length (result_of f t)) (length d) (records_need F t) have
    front-answer F k have q e = e ∙ ap (λ (x : List ℕ). roomed (length x) (length d) (size_of (form_shape F) * k) have) front-result ∙ ap (λ (i : ℕ). roomed (length (result_of f t)) (length d) (size_of (form_shape F) * i) have) q

    pub front_out : {d' : List ℕ} → d' ≡ out_after r (joined (ends_in 10 t) (lines_of (take n a))) d → d' ≡ out_after r (result_of f t) d
    front_out e = e ∙ ap (λ (x : List ℕ). out_after r x d) front-result

    -- d is the buffer for records, and cs are the codes of the text's lines
    pub front-records : (F : Form) (fates : List (List ℕ) → List Fate) {cs d' : List ℕ} → Goes (length (split_lines t)) (length (f (split_lines t))) (fates (split_lines t)) → length (split_lines t) < half - 1 → cs ≡ codes_of (fates (split_lines t)) →
        d' ≡ out_after r (file_of (form_shape F) (wents_by (lines_of (take n a)) (split_lines t) cs)) d → d' ≡ out_after r (origins_of F f fates t) d
    unfolding origins_of
    front-records F fates {cs} g k e q =
        let ls : List (List ℕ) = split_lines t in
        let w : wents_by (lines_of (take n a)) ls cs ≡ wents_of (f ls) ls (fates ls) =
        ap (λ (out : List (List ℕ)). wents_by out ls cs) front-lines ∙ ap (wents_by (f ls) ls) e ∙ in_step (f ls) ls (fates ls) (length (f ls)) 0 (goes-under g (omega (arith, p.counts ls))) g.each in
        q ∙ ap (λ (ws : List Went). out_after r (file_of (form_shape F) ws) d) w

-- ---- a text within limits has few lines

pub text-lines : {L : Limits} (t : List ℕ) → Within L t → length (split_lines t) < 2 ^ 32
text-lines t h = omega (arith, lines-most (split_lines t), split-room t, h.bytes, h.sane.bytes-reach)
