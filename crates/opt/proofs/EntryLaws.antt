-- Laws of the sizes, of what an answer leaves in all buffers, and of the passes that an entry runs. Assumes nothing.
use Prim.Native.Nat.{ℕ, ◌+◌, ◌-◌, ◌≤◌}
use mathlib.Core.Path.{◌≡◌, refl, sym, ap, subst, ◌∙◌}
use mathlib.Core.Bool.{Bool, true, false, cond, ◌||◌}
use mathlib.Core.List.{List, ◌++◌, append-nil}
use native.Mathlib.Omega.{arith}
use borrow.Author.Tests.{ltb-false}
use lib.Dec.{ltb}
use lib.ListN.{length, take, drop, replicate, length-append, length-drop, length-replicate, take-append-drop}
use lib.Seq.{length-take-le, drop-length}
use Rattle.lines.specs.Lf.{ends_in}
use Rattle.lines.specs.Steps.{split_lines, joined}
use Rattle.lines.proofs.Tests.{no}
use Rattle.origins.specs.declared.Form.{Form}
use Rattle.origins.specs.Form.{form_shape, file_of}
use Rattle.origins.specs.Fates.{Fate, follow, staying, wents_of}
use Rattle.origins.proofs.FateLaws.{follow-stay}
use Rattle.reading.specs.Reading.{Reading, reading_of}
use Rattle.reading.proofs.Lined.{Lined}
use Rattle.globals.specs.Globals.{remove_globals}
use Rattle.temps.specs.Temps.{prune_dead_temps}
use Rattle.once.specs.Once.{optimize_once}
use Rattle.phis.specs.Phis.{prune_dead_phis}
use Rattle.calls.specs.LeavesOf.{leaves_of}
use Rattle.calls.specs.Calls.{rebuild_calls}
use Rattle.decls.specs.Decls.{prune_decls}
use Rattle.limits.specs.declared.Limits.{Limits}
use Rattle.limits.specs.declared.Task.{Task}
use Rattle.std.specs.declared.result.Result.TheVariants.{Ok, Err}
use Rattle.limits.specs.Answer.{Answer, is_done, passes_ran}
use Rattle.limits.proofs.AnswerLaws.{work-kept, work-wiped, roomed-runs, answer-refused, short-refused}
use Rattle.steps.specs.Step.{step_of, step_fates}
use Rattle.steps.proofs.Goings.{step-goes}
use Rattle.passes.specs.Passes.{result_of, origins_of}
use Rattle.passes.specs.Inner.Passes.{steps_of, steps_fates}
use Rattle.passes.specs.Inner.Buffers.{Unused}
use Rattle.opt.specs.Whole.{whole, whole_fates}
use Rattle.limits.specs.Entry.{byte_size, block_size, line_size, note_size, owners, places, is_short, tables_short, checked, roomed, in_mode, whole_answer, out_after, work_after, blank}
use Rattle.opt.specs.Room.{After, AfterLarge}
use Rattle.opt.specs.Inner.Room.{Long, Wiped, Tables, TallPlaces, TallRows}

-- ---- the sizes

or-none : (a b : Bool) → a || b ≡ false → (a ≡ false) × (b ≡ false)
or-none true b h = no (sym h)
or-none false b h = (refl, h)

pub long-by : (L : Limits) (a b c d e u : List ℕ) → is_short L (length a) (length b) (length c) (length d) (length e) (length u) ≡ false → Long L a b c d e u
long-by L a b c d e u h =
    let p = or-none (ltb (length a) (byte_size L)) _ h in
    let q = or-none (ltb (length b) (byte_size L)) _ p.1 in
    let r = or-none (ltb (length c) (byte_size L)) _ q.1 in
    let s = or-none (ltb (length d) (byte_size L)) _ r.1 in
    let t = or-none (ltb (length e) (byte_size L)) _ s.1 in
    record {
      a-long = ltb-false (length a) (byte_size L) p.0;
      b-long = ltb-false (length b) (byte_size L) q.0;
      c-long = ltb-false (length c) (byte_size L) r.0;
      d-long = ltb-false (length d) (byte_size L) s.0;
      e-long = ltb-false (length e) (byte_size L) t.0;
      u-long = ltb-false (length u) (block_size L) t.1;
    }

-- where no table is too short
pub tall-by : (L : Limits) {f g h v w x p q r t o z : List ℕ} → tables_short L (length f) (length g) (length h) (length v) (length w) (length x) (length p) (length q) (length r) (length t) (length o) (length z) ≡ false → TallPlaces places owners f g r t o × TallRows (line_size L) (note_size L) h v w x p q z
tall-by L {f} {g} {h} {v} {w} {x} {p} {q} {r} {t} {o} {z} k =
    let kf = or-none (ltb (length f) places) _ k in
    let kg = or-none (ltb (length g) places) _ kf.1 in
    let kh = or-none (ltb (length h) (line_size L)) _ kg.1 in
    let kv = or-none (ltb (length v) (note_size L)) _ kh.1 in
    let kw = or-none (ltb (length w) (note_size L)) _ kv.1 in
    let kx = or-none (ltb (length x) (note_size L)) _ kw.1 in
    let kp = or-none (ltb (length p) (line_size L)) _ kx.1 in
    let kq = or-none (ltb (length q) (line_size L)) _ kp.1 in
    let kr = or-none (ltb (length r) places) _ kq.1 in
    let kt = or-none (ltb (length t) places) _ kr.1 in
    let ko = or-none (ltb (length o) owners) _ kt.1 in (
      record {
        f-tall = ltb-false (length f) places kf.0;
        g-tall = ltb-false (length g) places kg.0;
        r-tall = ltb-false (length r) places kr.0;
        t-tall = ltb-false (length t) places kt.0;
        o-tall = ltb-false (length o) owners ko.0;
      },
      record {
        h-tall = ltb-false (length h) (line_size L) kh.0;
        v-tall = ltb-false (length v) (note_size L) kv.0;
        w-tall = ltb-false (length w) (note_size L) kw.0;
        x-tall = ltb-false (length x) (note_size L) kx.0;
        p-tall = ltb-false (length p) (line_size L) kp.0;
        q-tall = ltb-false (length q) (line_size L) kq.0;
        z-tall = ltb-false (length z) (line_size L) ko.1;
      },
    )

-- a table of n places
pub table : (n : ℕ) {m : ℕ} → m ≤ n → m ≤ length {A = ℕ} (replicate n 0)
table n h = omega (arith, length-replicate {A = ℕ} n 0)

-- ---- the stated part of a longer buffer

pub stated : (n : ℕ) (d : List ℕ) → n ≤ length d → n ≡ length (take n d)
stated n d h = sym (length-take-le n d h)

pub sized-part : {n m : ℕ} (d : List ℕ) → n ≡ m → m ≤ length d → length (take n d) ≡ m
sized-part {n} d q h = omega (arith, stated n d (omega arith))

pub same-part : (n : ℕ) (d xs : List ℕ) → n ≤ length d → length xs ≡ length (take n d) → length (xs ++ drop n d) ≡ length d
same-part n d xs h q = omega (arith, length-append xs (drop n d), length-drop n d, stated n d h)

pub wiped-part : (n : ℕ) (d : List ℕ) {xs : List ℕ} {m : ℕ} → n ≡ m → m ≤ length d → xs ≡ blank (length (take n d)) → xs ++ drop n d ≡ blank m ++ drop m d
wiped-part n d {xs} {m} q h e = e₁ ∙ ap (λ (k : ℕ). blank k ++ drop k d) q
  where
    e₁ : xs ++ drop n d ≡ blank n ++ drop n d
    e₁ = ap (λ (x : List ℕ). x ++ drop n d) (e ∙ ap blank (sym (stated n d (omega arith))))

-- ---- what an answer leaves

pub all-kept : (L : Limits) (r : Answer) (a b c d e u : List ℕ) → passes_ran r ≡ false → After L r a b c d e u a b c d e u
all-kept L r a b c d e u h = record {
  a-after = work-kept r (byte_size L) a h;
  b-after = work-kept r (byte_size L) b h;
  c-after = work-kept r (byte_size L) c h;
  d-after = work-kept r (byte_size L) d h;
  e-after = work-kept r (byte_size L) e h;
  u-after = work-kept r (block_size L) u h;
}

pub all-wiped : {L : Limits} {r : Answer} (n room need have : ℕ) {a b c d e u a' b' c' d' e' u' : List ℕ} → r ≡ roomed n room need have → Wiped L a b c d e u a' b' c' d' e' u' → After L r a b c d e u a' b' c' d' e' u'
all-wiped {L} {r} n room need have {a} {b} {c} {d} {e} {u} q w =
    let h = ap passes_ran q ∙ roomed-runs n room need have in
    record {
      a-after = work-wiped r (byte_size L) a h w.a-wiped;
      b-after = work-wiped r (byte_size L) b h w.b-wiped;
      c-after = work-wiped r (byte_size L) c h w.c-wiped;
      d-after = work-wiped r (byte_size L) d h w.d-wiped;
      e-after = work-wiped r (byte_size L) e h w.e-wiped;
      u-after = work-wiped r (block_size L) u h w.u-wiped;
    }

-- a table that is used whole
module _ (y : Answer) (d : List ℕ) {d' : List ℕ} where
  table-wiped : passes_ran y ≡ true → d' ≡ blank (length d) → d' ≡ work_after y (length d) d
  table-wiped h e = work-wiped y (length d) d h (e ∙ sym (append-nil (blank (length d))) ∙ ap (λ (xs : List ℕ). blank (length d) ++ xs) (sym (drop-length d)))

pub tables-kept : (y : Answer) (f g h v w x p q r t o z : List ℕ) → passes_ran y ≡ false → Tables y f g h v w x p q r t o z f g h v w x p q r t o z
tables-kept y f g h v w x p q r t o z k = record {
  f-after = work-kept y (length f) f k;
  g-after = work-kept y (length g) g k;
  h-after = work-kept y (length h) h k;
  v-after = work-kept y (length v) v k;
  w-after = work-kept y (length w) w k;
  x-after = work-kept y (length x) x k;
  p-after = work-kept y (length p) p k;
  q-after = work-kept y (length q) q k;
  r-after = work-kept y (length r) r k;
  t-after = work-kept y (length t) t k;
  o-after = work-kept y (length o) o k;
  z-after = work-kept y (length z) z k;
}

pub tables-wiped : {y : Answer} (n room need have : ℕ) {f g h v w x p q r t o z f' g' h' v' w' x' p' q' r' t' o' z' : List ℕ} → y ≡ roomed n room need have →
    Unused f g h v w x p q r t o z f' g' h' v' w' x' p' q' r' t' o' z' → Tables y f g h v w x p q r t o z f' g' h' v' w' x' p' q' r' t' o' z'
tables-wiped {y} n room need have {f} {g} {h} {v} {w} {x} {p} {q} {r} {t} {o} {z} e a =
    let k = ap passes_ran e ∙ roomed-runs n room need have in
    record {
      f-after = table-wiped y f k a.f-unused;
      g-after = table-wiped y g k a.g-unused;
      h-after = table-wiped y h k a.h-unused;
      v-after = table-wiped y v k a.v-unused;
      w-after = table-wiped y w k a.w-unused;
      x-after = table-wiped y x k a.x-unused;
      p-after = table-wiped y p k a.p-unused;
      q-after = table-wiped y q k a.q-unused;
      r-after = table-wiped y r k a.r-unused;
      t-after = table-wiped y t k a.t-unused;
      o-after = table-wiped y o k a.o-unused;
      z-after = table-wiped y z k a.z-unused;
    }

-- the front of a table after an answer, and the rest as it was
after-by : (b : Bool) (n : ℕ) (d : List ℕ) {xs : List ℕ} → n ≤ length d → xs ≡ cond b (blank (length (take n d)) ++ drop (length (take n d)) (take n d)) (take n d) → xs ++ drop n d ≡ cond b (blank n ++ drop n d) d
after-by true n d {xs} h e = ap (λ (x : List ℕ). x ++ drop n d) (e ∙ whole_part)
  where
    whole_part : blank (length (take n d)) ++ drop (length (take n d)) (take n d) ≡ blank n
    whole_part = ap (λ (x : List ℕ). blank (length (take n d)) ++ x) (drop-length (take n d)) ∙ append-nil (blank (length (take n d))) ∙ ap blank (sym (stated n d h))
after-by false n d h e = ap (λ (x : List ℕ). x ++ drop n d) e ∙ take-append-drop n d

pub part-after : (y : Answer) (n : ℕ) (d : List ℕ) {xs : List ℕ} → n ≤ length d → xs ≡ work_after y (length (take n d)) (take n d) → xs ++ drop n d ≡ work_after y n d
unfolding work_after
part-after y n d h e = after-by (passes_ran y) n d h e

pub large-kept : (L : Limits) (y : Answer) (a b c d e f g h u v w x p q r t o z : List ℕ) → passes_ran y ≡ false → AfterLarge L y a b c d e f g h u v w x p q r t o z a b c d e f g h u v w x p q r t o z
large-kept L y a b c d e f g h u v w x p q r t o z k = record {
  buffers = all-kept L y a b c d e u k;
  f-after = work-kept y places f k;
  g-after = work-kept y places g k;
  h-after = work-kept y (line_size L) h k;
  v-after = work-kept y (note_size L) v k;
  w-after = work-kept y (note_size L) w k;
  x-after = work-kept y (note_size L) x k;
  p-after = work-kept y (line_size L) p k;
  q-after = work-kept y (line_size L) q k;
  r-after = work-kept y places r k;
  t-after = work-kept y places t k;
  o-after = work-kept y owners o k;
  z-after = work-kept y (line_size L) z k;
}

-- ---- which passes an entry runs

pub steps-whole : (R : Reading) (ls : List (List ℕ)) → steps_of R 0 7 ls ≡ whole R ls
unfolding steps_of step_of whole
steps-whole R ls = refl

pub result-whole : (R : Reading) (t : List ℕ) → result_of (whole R) t ≡ result_of (steps_of R 0 7) t
unfolding result_of
result-whole R t = ap (joined (ends_in 10 t)) (sym (steps-whole R (split_lines t)))

steps-one : (R : Reading) (k : ℕ) (ls : List (List ℕ)) → steps_of R k 1 ls ≡ step_of R k ls
unfolding steps_of
steps-one R k ls = refl

pub result-one : (R : Reading) (k : ℕ) (t : List ℕ) → result_of (step_of R k) t ≡ result_of (steps_of R k (k + 1 - k)) t
unfolding result_of
result-one R k t =
    let q : k + 1 - k ≡ 1 = omega arith in
    ap (joined (ends_in 10 t)) (sym (ap (λ (n : ℕ). steps_of R k n (split_lines t)) q ∙ steps-one R k (split_lines t)))

-- ---- where their lines go

stay-after : {R : Reading} {shut : List (List ℕ) → Bool} → Lined R shut → (k : ℕ) (ls : List (List ℕ)) → follow (step_fates R k ls) (staying (length (step_of R k ls)) 0) ≡ step_fates R k ls
stay-after {R} c k ls = follow-stay (length (step_of R k ls)) (step_fates R k ls) (step-goes c ls k).below

fates-whole : {R : Reading} {shut : List (List ℕ) → Bool} → Lined R shut → (ls : List (List ℕ)) → whole_fates R ls ≡ steps_fates R 0 7 ls
unfolding steps_fates step_of whole_fates
fates-whole {R} c ls =
    let a = remove_globals ls in
    let b = prune_dead_temps R a in
    let d = optimize_once R b in
    let e = prune_dead_phis R d in
    let f = rebuild_calls (leaves_of R) e in
    let g = prune_decls f in
    ap (λ (fs : List Fate). follow (step_fates R 0 ls) (follow (step_fates R 1 a) (follow (step_fates R 2 b) (follow (step_fates R 3 d) (follow (step_fates R 4 e) (follow (step_fates R 5 f) fs))))))
    (sym (stay-after c 6 g))

pub origins-whole : {R : Reading} {shut : List (List ℕ) → Bool} → Lined R shut → (F : Form) (t : List ℕ) → origins_of F (whole R) (whole_fates R) t ≡ origins_of F (steps_of R 0 7) (steps_fates R 0 7) t
unfolding origins_of
origins-whole {R} c F t =
    let ls : List (List ℕ) = split_lines t in
    ap (λ (out : List (List ℕ)). file_of (form_shape F) (wents_of out ls (whole_fates R ls))) (sym (steps-whole R ls))
    ∙ ap (λ (fs : List Fate). file_of (form_shape F) (wents_of (steps_of R 0 7 ls) ls fs)) (fates-whole c ls)

fates-one : {R : Reading} {shut : List (List ℕ) → Bool} → Lined R shut → (k : ℕ) (ls : List (List ℕ)) → steps_fates R k 1 ls ≡ step_fates R k ls
unfolding steps_fates
fates-one c k ls = stay-after c k ls

pub origins-one : {R : Reading} {shut : List (List ℕ) → Bool} → Lined R shut → (F : Form) (k : ℕ) (t : List ℕ) → origins_of F (step_of R k) (step_fates R k) t ≡ origins_of F (steps_of R k (k + 1 - k)) (steps_fates R k (k + 1 - k)) t
unfolding origins_of
origins-one {R} c F k t =
    let ls : List (List ℕ) = split_lines t in
    let q : k + 1 - k ≡ 1 = omega arith in
    ap (λ (out : List (List ℕ)). file_of (form_shape F) (wents_of out ls (step_fates R k ls))) (sym (ap (λ (n : ℕ). steps_of R k n ls) q ∙ steps-one R k ls))
    ∙ ap (λ (fs : List Fate). file_of (form_shape F) (wents_of (steps_of R k (k + 1 - k) ls) ls fs)) (sym (ap (λ (n : ℕ). steps_fates R k n ls) q ∙ fates-one c k ls))

-- ---- where a table is too short

or-last : (b : Bool) {k : Bool} → k ≡ true → b || k ≡ true
or-last true h = refl
or-last false h = h

pub or-neither : (b : Bool) {k : Bool} → k ≡ false → b || k ≡ b
or-neither true h = refl
or-neither false h = h

-- a text is refused, whatever the other buffers are
pub short-answer : (r : Answer) (L : Limits) (F : Form) (mode : ℕ) (b : Bool) {k : Bool} (t xs : List ℕ) (room have : ℕ) → k ≡ true → r ≡ in_mode mode (checked L F true t (Ok 0)) →
    (r ≡ whole_answer L F mode (b || k) t xs room have) × ((is_done r ≡ false) × (passes_ran r ≡ false))
short-answer r L F mode b t xs room have h e =
    let d : is_done r ≡ false = ap is_done e ∙ short-refused L F mode t in
    let p = answer-refused r L F mode true t xs room have e d in
    (p.0 ∙ ap (λ (s : Bool). whole_answer L F mode s t xs room have) (sym (or-last b h)), (d, p.1))

-- ---- the task of an entry

-- what `tidy` promises: r the answer, t the text, o the result buffer, z the one for records, a to u the work buffers
abbrev Tidied : Task → Answer → (t o z a b c d e u o' z' a' b' c' d' e' u' : List ℕ) → Type 0
Tidied m r t o z a b c d e u o' z' a' b' c' d' e' u' =
    (r ≡ whole_answer m.limits m.form m.mode.0 (is_short m.limits (length a) (length b) (length c) (length d) (length e) (length u)) t (result_of (steps_of (reading_of m.mode.0) m.from (m.to - m.from)) t) (length o) (length z))
    × (((o' ≡ out_after r (result_of (steps_of (reading_of m.mode.0) m.from (m.to - m.from)) t) o) × After m.limits r a b c d e u a' b' c' d' e' u')
    × (z' ≡ out_after r (origins_of m.form (steps_of (reading_of m.mode.0) m.from (m.to - m.from)) (steps_fates (reading_of m.mode.0) m.from (m.to - m.from)) t) z))

-- it is promised of the task that the entry made
pub tidied-as : {m n : Task} {r : Answer} (t o z a b c d e u : List ℕ) {o' z' a' b' c' d' e' u' : List ℕ} → m ≡ n → Tidied m r t o z a b c d e u o' z' a' b' c' d' e' u' → Tidied n r t o z a b c d e u o' z' a' b' c' d' e' u'
tidied-as {r = r} t o z a b c d e u {o'} {z'} {a'} {b'} {c'} {d'} {e'} {u'} q h = subst (λ (m : Task). Tidied m r t o z a b c d e u o' z' a' b' c' d' e' u') q h
