-- rebuild_calls, by any reading, raises no weight, does not lengthen a text, and brings no LF in. Assumes nothing.
use Prim.Native.Nat.{ℕ, ◌+◌, ◌-◌, ◌≤◌, ◌<◌}
use mathlib.Core.Path.{◌≡◌, refl, sym, ap, ◌∙◌}
use mathlib.Core.Bool.{Bool, true, false, cond, not, ◌&&◌, ◌||◌}
use mathlib.Core.List.{List, [], ◌∷◌, ◌++◌, append_assoc}
use native.Mathlib.Omega.{arith}
use lib.Dec.{eqb, ltb}
use lib.ListN.{length, take, drop, get_or, length-append, length-take, length-drop}
use Rattle.lines.specs.Lf.{part, up_to, ends_in, unlines}
use Rattle.lines.specs.Inner.Lf.{lacks, no_lf}
use Rattle.lines.proofs.LfLaws.{lacks-take, lacks-drop}
use Rattle.lines.proofs.Tests.{no, and_left, and_right}
use Rattle.text.specs.declared.Span.{Span}
use Rattle.text.specs.Trim.{from_of, to_end, trim_of}
use Rattle.names.specs.Names.{reg_text, reg_of}
use Rattle.std.specs.declared.option.Option.{Option}
use Rattle.names.specs.declared.Register.{Register}
use Rattle.std.specs.declared.option.Option.TheVariants.{Some, None}
use Rattle.names.proofs.Decimal.{decimal-long}
use Rattle.parse.specs.declared.Store.{Store}
use Rattle.parse.specs.declared.Line.{Line}
use Rattle.parse.specs.declared.Line.TheVariants as line
use Rattle.parse.specs.Parse.{is_decl, store_by, split_store, store_in, parse_of}
use Rattle.parse.proofs.ParseLaws.{parse-place}
use Rattle.words.specs.Hits.{reg_hit, glue_left, glue_right, glued, replaced_at, replace_by, replace_reg}
use Rattle.words.proofs.Places.{around, hit-stands, replace-hit, replace-lacks}
use Rattle.weight.specs.Inner.Weight.{spaced, extra, weight}
use Rattle.weight.proofs.Weigh.{weight-append, weight-part, weight-line, nothing}
use Rattle.weight.proofs.Moves.{bracketed, absorb-le, glued-is, not-spaced}
use Rattle.forms.specs.Primary.{bare, paren_if_needed}
use Rattle.forms.proofs.PrimaryLaws.{paren-length, paren-lacks}
use Rattle.reading.specs.Reading.{Reading}
use Rattle.calls.specs.Leaves.{store, other, Context, unclear, target, newed, operand}
use Rattle.calls.specs.LeavesOf.{parsed_by, parsed_of, context_of, starts_below, blocks_by, leaves_by, leaves_of}
use Rattle.calls.specs.Calls.{end, absorb, or_end, put_by, rebuild_calls}
use Rattle.calls.proofs.Weight.{code, apart, weighs, rebuilt-weight}

-- ---- where a value stands in its line

never_other : {A : Type 0} {s : Store} → line.Other ≡ line.Store s → A
never_other h = let z : ◌≡◌ {A = ℕ} 0 1 = cc in absurd (omega arith)

never-decl : {A : Type 0} {s : Store} → line.Decl ≡ line.Store s → A
never-decl h = let z : ◌≡◌ {A = ℕ} 0 1 = cc in absurd (omega arith)

after-by : (r : Option Register) (b : ℕ) (rhs : List ℕ) (s : Store) → store_by r b rhs ≡ line.Store s → b ≤ s.from
after-by None b rhs s h = never_other h
after-by (Some q) b rhs s h =
    let e : ◌≡◌ {A = Store} s (record { reg = q; from = b + from_of rhs; to = b + to_end rhs }) = cc in
    let f : s.from ≡ b + from_of rhs = ap (λ (x : Store). x.from) e in
    omega arith

after-split : (a : ℕ) (u : List ℕ) (s : Store) → split_store a u ≡ line.Store s → 0 < s.from
after-split a u s h = go (ltb (up_to 61 u) (length u) && not (eqb (get_or u (up_to 61 u + 1) 0) 61)) h
  where
    go : (t : Bool) → cond t (store_by (reg_of (trim_of (take (up_to 61 u) u))) (a + (up_to 61 u + 1)) (drop (up_to 61 u + 1) u)) line.Other ≡ line.Store s → 0 < s.from
    go false g = never_other g
    go true g = let r = after-by (reg_of (trim_of (take (up_to 61 u) u))) (a + (up_to 61 u + 1)) (drop (up_to 61 u + 1) u) s g in omega arith

after-in : (a : ℕ) (t : List ℕ) (s : Store) → store_in a t ≡ line.Store s → 0 < s.from
unfolding store_in
after-in a t s h = go (ends_in 59 t) h
  where
    go : (b : Bool) → cond b (split_store a (take (length t - 1) t)) line.Other ≡ line.Store s → 0 < s.from
    go false g = never_other g
    go true g = after-split a (take (length t - 1) t) s g

-- a value does not begin its line
pub value_after : (l : List ℕ) (s : Store) → parse_of l ≡ line.Store s → 0 < s.from
unfolding parse_of
value_after l s h = go (is_decl (trim_of l)) h
  where
    go : (b : Bool) → cond b line.Decl (store_in (from_of l) (trim_of l)) ≡ line.Store s → 0 < s.from
    go true g = never-decl g
    go false g = after-in (from_of l) (trim_of l) s g

never-store : {A : Type 0} {v : ℕ} {value : List ℕ} → other ≡ store v value → A
never-store h = let z : ◌≡◌ {A = ℕ} 0 1 = cc in absurd (omega arith)

-- a line that is a store of v is its value and more
pub record Valued (t : List ℕ) (v : ℕ) (value : List ℕ) : Type 0 where
  pub place : Store
  pub reads : parse_of t ≡ line.Store place
  pub reg : v ≡ place.reg.0
  pub text : value ≡ part place.from place.to t

pub valued : (t : List ℕ) (v : ℕ) (value : List ℕ) → parsed_of t ≡ store v value → Valued t v value
unfolding parsed_of
valued t v value h = go (parse_of t) refl h
  where
    go : (p : Line) → parse_of t ≡ p → parsed_by t p ≡ store v value → Valued t v value
    go line.Decl e g = never-store g
    go line.Other e g = never-store g
    go (line.Store s) e g =
        let a : ◌≡◌ {A = ℕ} s.reg.0 v = cc in
        let b : ◌≡◌ {A = List ℕ} (part s.from s.to t) value = cc in
        record { place = s; reads = e; reg = sym a; text = sym b }

-- ---- what putting a value in makes

pub record Put (cur : List ℕ) (v : ℕ) (value next : List ℕ) : Type 0 where
  pub after : Bool
  pub span : Span
  pub found : reg_hit v cur ≡ Some span
  pub is : next ≡ replaced_at span.from span.to cur (paren_if_needed value after)

put-by : (cur : List ℕ) (v : ℕ) (value next : List ℕ) (b : Bool) → or_end (replace_reg v cur (paren_if_needed value b)) ≡ absorb next → Put cur v value next
unfolding replace_reg or_end code
put-by cur v value next b q = go (reg_hit v cur) refl q
  where
    go : (h : Option Span) → reg_hit v cur ≡ h → or_end (replace_by h cur (paren_if_needed value b)) ≡ absorb next → Put cur v value next
    go None e k = apart end next (λ z. omega arith) k
    go (Some w) e k =
        let a : ◌≡◌ {A = List ℕ} (replaced_at w.from w.to cur (paren_if_needed value b)) next = cc in
        record { after = b; span = w; found = e; is = sym a }

pub put_is : (starts : List (List ℕ) → Bool) (blocks : List (List ℕ) → List ℕ) (cur : List ℕ) (v : ℕ) (value next : List ℕ) →
    put_by (leaves_by starts blocks) (context_of cur v) cur v value ≡ absorb next → Put cur v value next
unfolding put_by code
put_is starts blocks cur v value next q = go (context_of cur v) q
  where
    go : (c : Context) → put_by (leaves_by starts blocks) c cur v value ≡ absorb next → Put cur v value next
    go unclear k = apart end next (λ z. omega arith) k
    go target k = apart end next (λ z. omega arith) k
    go newed k = put-by cur v value next true k
    go operand k = put-by cur v value next false k

-- ---- weight: H is what each `{` weighs more than another byte

module _ (H : ℕ) where
  paren-weight : (v : List ℕ) (b : Bool) → weight H (paren_if_needed v b) ≤ weight H v + 2
  unfolding paren_if_needed weight spaced extra
  paren-weight v b = go (bare v b)
    where
      go : (t : Bool) → weight H (cond t v (40 ∷ v ++ 41 ∷ [])) ≤ weight H v + 2
      go true = omega arith
      go false = let r = weight-append H v (41 ∷ []) in omega arith

  put-weight : (cur : List ℕ) (v : ℕ) (value next : List ℕ) → Put cur v value next → weight H next ≤ weight H cur + weight H value + 2
  unfolding replaced_at
  put-weight cur v value next p =
      let w : Span = p.span in
      let rep : List ℕ = paren_if_needed value p.after in
      let g : Bool = glue_left (take w.from cur) rep || glue_right rep (drop w.to cur) in
      let a : next ≡ take w.from cur ++ (bracketed g rep ++ drop w.to cur) =
      p.is
      ∙ append_assoc (take w.from cur) (glued (take w.from cur) rep (drop w.to cur)) (drop w.to cur)
      ∙ ap (λ (x : List ℕ). take w.from cur ++ (x ++ drop w.to cur)) (glued-is (take w.from cur) rep (drop w.to cur)) in
      let s = hit-stands v cur w p.found in
      let m = absorb-le H g (take w.from cur) (reg_text v) rep (drop w.to cur) (not-spaced v) (omega (arith, decimal-long v)) in
      omega (arith, ap (weight H) a, m, sym (ap (weight H) (around cur v w s)), paren-weight value p.after)

  value-weight : (t : List ℕ) (v : ℕ) (value : List ℕ) → Valued t v value → weight H value + 1 ≤ weight H t
  value-weight t v value h =
      let s : Store = h.place in
      let p = parse-place t s h.reads in
      let k = value_after t s h.reads in
      omega (arith, weight-part H s.from s.to t (omega (arith, p.0, p.1)), ap (weight H) h.text)

  -- a line and its LF
  abbrev weighed : List ℕ → ℕ
  weighed l = weight H l + 1

  weighs-lines : (ls : List (List ℕ)) → weighs weighed ls ≡ weight H (unlines ls)
  unfolding weighs
  weighs-lines [] = sym (nothing H)
  weighs-lines (l ∷ ls) = omega (arith, weighs-lines ls, weight-line H l ls)

  -- no weight is raised
  pub calls-weight : (R : Reading) (ls : List (List ℕ)) → weight H (unlines (rebuild_calls (leaves_of R) ls)) ≤ weight H (unlines ls)
  calls-weight R ls =
      let h = rebuilt-weight (leaves_of R) weighed fits ls in
      omega (arith, h, weighs-lines ls, weighs-lines (rebuild_calls (leaves_of R) ls))
    where
      fits : (cur t : List ℕ) (v : ℕ) (value next : List ℕ) → parsed_of t ≡ store v value → put_by (leaves_of R) (context_of cur v) cur v value ≡ absorb next → weighed next ≤ weighed cur + weighed t
      fits cur t v value next p q =
          let a = put-weight cur v value next (put_is (starts_below R) (blocks_by R) cur v value next q) in
          let b = value-weight t v value (valued t v value p) in
          omega arith

-- ---- length

-- a value is shorter than its line
pub value-length : (t : List ℕ) (v : ℕ) (value : List ℕ) → Valued t v value → length value + 1 ≤ length t
value-length t v value h =
    let s : Store = h.place in
    let p = parse-place t s h.reads in
    let k = value_after t s h.reads in
    omega (arith, p.0, p.1, ap length h.text, length-take (s.to - s.from) (drop s.from t), length-drop s.from t)

-- a line that takes a value in grows by no more than the line that goes and its LF
pub put-length : (cur t : List ℕ) (v : ℕ) (value next : List ℕ) → Valued t v value → Put cur v value next → length next ≤ length cur + length t + 1
put-length cur t v value next h p =
    omega (arith, ap length p.is, replace-hit v cur (paren_if_needed value p.after) p.span p.found, paren-length value p.after, value-length t v value h)

-- a line and its LF
abbrev long : List ℕ → ℕ
long l = length l + 1

long-lines : (ls : List (List ℕ)) → weighs long ls ≡ length (unlines ls)
unfolding weighs unlines
long-lines [] = refl
long-lines (l ∷ ls) = omega (arith, long-lines ls, length-append l (10 ∷ unlines ls))

-- the text does not grow
pub calls-bytes : (R : Reading) (ls : List (List ℕ)) → length (unlines (rebuild_calls (leaves_of R) ls)) ≤ length (unlines ls)
calls-bytes R ls =
    let h = rebuilt-weight (leaves_of R) long fits ls in
    omega (arith, h, long-lines ls, long-lines (rebuild_calls (leaves_of R) ls))
  where
    fits : (cur t : List ℕ) (v : ℕ) (value next : List ℕ) → parsed_of t ≡ store v value → put_by (leaves_of R) (context_of cur v) cur v value ≡ absorb next → long next ≤ long cur + long t
    fits cur t v value next p q =
        let a = put-length cur t v value next (valued t v value p) (put_is (starts_below R) (blocks_by R) cur v value next q) in
        omega arith

-- ---- no LF comes in

-- 1 for a line that holds an LF
abbrev holed : List ℕ → ℕ
holed l = cond (lacks 10 l) 0 1

put-lacks : (cur t : List ℕ) (v : ℕ) (value next : List ℕ) → Valued t v value → Put cur v value next → lacks 10 cur ≡ true → lacks 10 t ≡ true → lacks 10 next ≡ true
put-lacks cur t v value next h p c k =
    let s : Store = h.place in
    let a : lacks 10 value ≡ true = ap (lacks 10) h.text ∙ lacks-take (s.to - s.from) (drop s.from t) (lacks-drop s.from t k) in
    ap (lacks 10) p.is ∙ replace-lacks p.span.from p.span.to cur (paren_if_needed value p.after) c (paren-lacks value p.after a)

holed-le : (cur t next : List ℕ) → (lacks 10 cur ≡ true → lacks 10 t ≡ true → lacks 10 next ≡ true) → holed next ≤ holed cur + holed t
holed-le cur t next f = go (lacks 10 cur) refl (lacks 10 t) refl (lacks 10 next) refl
  where
    go : (a : Bool) → lacks 10 cur ≡ a → (b : Bool) → lacks 10 t ≡ b → (c : Bool) → lacks 10 next ≡ c → cond c 0 1 ≤ cond a 0 1 + cond b 0 1
    go a p b q true r = omega arith
    go false p b q false r = omega arith
    go true p false q false r = omega arith
    go true p true q false r = no (sym r ∙ f p q)

holed-none : (ls : List (List ℕ)) → no_lf ls ≡ true → weighs holed ls ≡ 0
unfolding weighs no_lf
holed-none [] h = refl
holed-none (l ∷ ls) h = rw (and_left (lacks 10 l) (no_lf ls) h) (omega (arith, holed-none ls (and_right (lacks 10 l) (no_lf ls) h)))

none-holed : (ls : List (List ℕ)) → weighs holed ls ≡ 0 → no_lf ls ≡ true
unfolding weighs no_lf
none-holed [] h = refl
none-holed (l ∷ ls) h = go (lacks 10 l) refl h (λ k. none-holed ls k)
  where
    go : (b : Bool) → lacks 10 l ≡ b → cond b 0 1 + weighs holed ls ≡ 0 → (weighs holed ls ≡ 0 → no_lf ls ≡ true) → b && no_lf ls ≡ true
    go true e k f = f (omega arith)
    go false e k f = absurd (omega arith)

-- no line holds an LF, where none did
pub calls-no_lf : (R : Reading) (ls : List (List ℕ)) → no_lf ls ≡ true → no_lf (rebuild_calls (leaves_of R) ls) ≡ true
calls-no_lf R ls h =
    let k = rebuilt-weight (leaves_of R) holed fits ls in
    none-holed (rebuild_calls (leaves_of R) ls) (omega (arith, k, holed-none ls h))
  where
    fits : (cur t : List ℕ) (v : ℕ) (value next : List ℕ) → parsed_of t ≡ store v value → put_by (leaves_of R) (context_of cur v) cur v value ≡ absorb next → holed next ≤ holed cur + holed t
    fits cur t v value next p q = holed-le cur t next (put-lacks cur t v value next (valued t v value p) (put_is (starts_below R) (blocks_by R) cur v value next q))
