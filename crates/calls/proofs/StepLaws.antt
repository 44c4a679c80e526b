-- Laws of the steps of the code. Assumes nothing.
use Prim.Native.Nat.{ℕ, zero, suc, ◌+◌, ◌-◌, ◌≤◌, ◌<◌, min}
use mathlib.Core.Path.{◌≡◌, refl, sym, ap, ◌∙◌}
use mathlib.Core.Bool.{Bool, true, false, cond, not, ◌&&◌, ◌||◌}
use mathlib.Core.List.{List, [], ◌∷◌, ◌++◌, append_assoc}
use native.Mathlib.Omega.{arith}
use borrow.Author.Tests.{eq-eqb, ne_eqb, lt-ltb, le-ltb, ltb-true, ltb-false}
use lib.Dec.{eqb, ltb}
use lib.ListN.{length, take, drop, get_or, length-append, length-drop, drop_of_length-le, get_or-append}
use lib.Seq.{drop-cons, get_or-append-add, take_all}
use Rattle.lines.specs.Lf.{part, up_to, prefixed, ends_in, holds, lines_of, unlines}
use Rattle.lines.specs.Inner.Lf.{line_start, lacks}
use Rattle.lines.proofs.LfLaws.{lines-at, lines_end}
use Rattle.lines.proofs.Starts.{start-here, start-on, start-front}
use Rattle.lines.proofs.Tests.{no, and-false, eqb-sym}
use Rattle.text.specs.Trim.{trim_start}
use Rattle.parse.specs.Parse.{parse_of}
use Rattle.parse.specs.declared.Line.{Line}
use Rattle.parse.specs.declared.Line.TheVariants as line
use Rattle.place.specs.Region.{is_header}
use Rattle.forms.specs.Control.{is_control}
use Rattle.reading.specs.Reading.{Reading}
use Rattle.reading.specs.Uses.{line_reads, stores_by, line_stores}
use Rattle.forms.specs.Primary.{paren_if_needed}
use Rattle.forms.specs.Breaks.{breaks_with, breaks}
use Rattle.lexical.specs.Idents.{words_in}
use Rattle.lexical.specs.Lex.{strip_lexical}
use Rattle.lexical.specs.Inner.Lex.{tail_of}
use Rattle.lexical.specs.Inner.Plain.{plain_len}
use Rattle.lexical.proofs.LexLaws.{lex-start, lex-end}
use Rattle.lexical.proofs.PlainLaws.{lex-plain}
use Rattle.std.specs.declared.option.Option.TheVariants.{Some, None}
use Rattle.words.specs.Hits.{reg_hit, after_new, as_target, glue_left, glue_right, glued, replaced_at, replace_reg}
use Rattle.names.specs.Names.{is_digit}
use Rattle.words.proofs.Glue.{glued-bare, replaced-is, replaced-length}
use Rattle.text.specs.declared.Span.{Span}
use Rattle.lines.specs.Inner.Out.{Wrote}
use Rattle.lines.proofs.OutLaws.{wrote-part}
use Rattle.calls.specs.Leaves.{newed, operand}
use Rattle.calls.specs.LeavesOf.{parsed_by, parsed_of, context_of, is_call, is_control_line, leaves_of}
use Rattle.calls.specs.Calls.{Step, end, absorb, or_end, put_by, stores_in, read_later}
use Rattle.calls.specs.Inner.Steps.{breaks_down, wrapped_call, absorb_step, PutAs, ends, puts}
use Rattle.std.specs.declared.option.Option.{Option}

-- ---- two tests, the first asked first

pub and_no : {a : Bool} (b : Bool) → a ≡ false → false ≡ a && b
and_no b e = rw e

pub and_yes : {a b r : Bool} → a ≡ true → r ≡ b → r ≡ a && b
and_yes e q = rw e q

-- ---- a call line that may take values in

module _ (l : List ℕ) (starts : Bool) where
  pub takes-start : starts ≡ false → false ≡ is_call l && (starts && not (is_control_line l))
  takes-start e = rw e (sym (and-false (is_call l)))

  pub takes-call : holds (40 ∷ []) l ≡ false → false ≡ is_call l && (starts && not (is_control_line l))
  unfolding is_call
  takes-call e = rw e

  pub takes-rest : starts ≡ true → holds (40 ∷ []) l ≡ true → (t : List ℕ) → t ≡ trim_start l → (r : Bool) → r ≡ is_control t → not r ≡ is_call l && (starts && not (is_control_line l))
  unfolding is_call is_control_line
  takes-rest s e t p r q = rw (s, e) (ap not (q ∙ ap is_control p))

-- ---- a `(` in a line

below_suc : (m n : ℕ) (t : Bool) → ltb m n ≡ t → ltb (suc m) (suc n) ≡ ltb m n
below_suc m n true e = lt-ltb (suc m) (suc n) (let l = ltb-true m n e in omega arith) ∙ sym e
below_suc m n false e = le-ltb (suc m) (suc n) (let l = ltb-false m n e in omega arith) ∙ sym e

pub holds-one : (b : ℕ) (l : List ℕ) → holds (b ∷ []) l ≡ ltb (up_to b l) (length l)
unfolding holds prefixed up_to
holds-one b [] = refl
holds-one b (x ∷ xs) = go (holds-one b xs) (eqb x b) refl
  where
    go : holds (b ∷ []) xs ≡ ltb (up_to b xs) (length xs) → (t : Bool) → eqb x b ≡ t → (eqb b x && true) || holds (b ∷ []) xs ≡ ltb (cond (eqb x b) 0 (suc (up_to b xs))) (suc (length xs))
    go h true e = rw (e, eqb-sym b x ∙ e) (sym (lt-ltb 0 (suc (length xs)) (omega arith)))
    go h false e = rw (e, eqb-sym b x ∙ e) (h ∙ sym (below_suc (up_to b xs) (length xs) (ltb (up_to b xs) (length xs)) refl))

pub byte-told : (b : ℕ) (l : List ℕ) (e : ℕ) → e ≡ 0 + up_to b (drop 0 l) → ltb e (length l) ≡ holds (b ∷ []) l
byte-told b l e q = ap (λ (n : ℕ). ltb n (length l)) (q ∙ (let z : 0 + up_to b (drop 0 l) ≡ up_to b l = omega arith in z)) ∙ sym (holds-one b l)

-- ---- the look down for a later read

stores-by : (v : ℕ) (l : List ℕ) (p : Line) → stores_in v (parsed_by l p) ≡ stores_by v p
unfolding stores_in
stores-by v l line.Decl = refl
stores-by v l (line.Store s) = refl
stores-by v l line.Other = refl

pub stores-parsed : (v : ℕ) (l : List ℕ) → stores_in v (parsed_of l) ≡ line_stores v l
unfolding parsed_of line_stores
stores-parsed v l = stores-by v l (parse_of l)

module _ (R : Reading) (v : ℕ) where
  later-cons : (l : List ℕ) (ls : List (List ℕ)) →
      read_later (leaves_of R) v (l ∷ ls) ≡ cond (is_header l) false (not (eqb (line_reads v l) 0) || (not (line_stores v l) && read_later (leaves_of R) v ls))
  unfolding read_later
  later-cons l ls = rw (stores-parsed v l)

  pub later-end : (s : List ℕ) (i : ℕ) → length s ≤ i → read_later (leaves_of R) v (lines_of (drop i s)) ≡ false
  unfolding read_later
  later-end s i h = ap (read_later (leaves_of R) v) (lines_end s i h)

  module _ (s : List ℕ) (i e : ℕ) (h : i < length s) (q : e ≡ i + up_to 10 (drop i s)) where
    later-at : read_later (leaves_of R) v (lines_of (drop i s))
        ≡ cond (is_header (part i e s)) false (not (eqb (line_reads v (part i e s)) 0) || (not (line_stores v (part i e s)) && read_later (leaves_of R) v (lines_of (drop (min (e + 1) (length s)) s))))
    later-at = ap (read_later (leaves_of R) v) (lines-at s i e h q) ∙ later-cons (part i e s) (lines_of (drop (min (e + 1) (length s)) s))

    pub later-header : is_header (part i e s) ≡ true → read_later (leaves_of R) v (lines_of (drop i s)) ≡ false
    later-header k = later-at ∙ rw k

    module _ (k : is_header (part i e s) ≡ false) (n : ℕ) (a : n ≡ line_reads v (part i e s)) where
      pub later-read : (n ≡ 0 → ⊥) → read_later (leaves_of R) v (lines_of (drop i s)) ≡ true
      later-read z = later-at ∙ rw (k, ← a, ne_eqb n 0 z)

      module _ (z : n ≡ 0) (b : Bool) (c : b ≡ line_stores v (part i e s)) where
        pub later-store : b ≡ true → read_later (leaves_of R) v (lines_of (drop i s)) ≡ false
        later-store w = later-at ∙ rw (k, ← a, eq-eqb n 0 z, ← c, w)

        pub later-on : b ≡ false → (r : ℕ) → r ≡ min (e + 1) (length s) → read_later (leaves_of R) v (lines_of (drop i s)) ≡ read_later (leaves_of R) v (lines_of (drop r s))
        later-on w r m = later-at ∙ rw (k, ← a, eq-eqb n 0 z, ← c, w, ← m)

-- ---- the lines that were taken in

module _ (f : List ℕ → Bool) where
  pub down-end : (s : List ℕ) (i : ℕ) (os : List ℕ) → length s ≤ i → breaks_down f (lines_of (drop i s)) os ≡ false
  unfolding breaks_down
  down-end s i os h = ap (λ (ls : List (List ℕ)). breaks_down f ls os) (lines_end s i h)

  down-none : (ls : List (List ℕ)) → breaks_down f ls [] ≡ false
  unfolding breaks_down
  down-none [] = refl
  down-none (l ∷ ls) = refl

  pub down-short : (ls : List (List ℕ)) (os : List ℕ) (j : ℕ) → length os ≤ j → breaks_down f ls (drop j os) ≡ false
  down-short ls os j h = ap (breaks_down f ls) (drop_of_length-le os h) ∙ down-none ls

  down-cons : (l : List ℕ) (ls : List (List ℕ)) (o : ℕ) (os : List ℕ) (t : Bool) → eqb o (suc (length os)) && f l ≡ t → breaks_down f (l ∷ ls) (o ∷ os) ≡ t || breaks_down f ls os
  unfolding breaks_down
  down-cons l ls o os t e = rw e

  module _ (s os : List ℕ) (i e j : ℕ) (h : i < length s) (q : e ≡ i + up_to 10 (drop i s)) (k : j < length os) where
    down-at : (t : Bool) → eqb (get_or os j 0) (length os - j) && f (part i e s) ≡ t →
        breaks_down f (lines_of (drop i s)) (drop j os) ≡ t || breaks_down f (lines_of (drop (min (e + 1) (length s)) s)) (drop (suc j) os)
    down-at t a =
        let n : length os - j ≡ suc (length (drop (suc j) os)) = omega (arith, length-drop (suc j) os) in
        ap (λ (ls : List (List ℕ)). breaks_down f ls (drop j os)) (lines-at s i e h q)
        ∙ ap (breaks_down f (part i e s ∷ lines_of (drop (min (e + 1) (length s)) s))) (drop-cons os j 0 k)
        ∙ down-cons (part i e s) (lines_of (drop (min (e + 1) (length s)) s)) (get_or os j 0) (drop (suc j) os) t (ap (λ (m : ℕ). eqb (get_or os j 0) m && f (part i e s)) (sym n) ∙ a)

    pub down-hit : eqb (get_or os j 0) (length os - j) && f (part i e s) ≡ true → breaks_down f (lines_of (drop i s)) (drop j os) ≡ true
    down-hit a = down-at true a

    pub down-on : eqb (get_or os j 0) (length os - j) && f (part i e s) ≡ false → (r m : ℕ) → r ≡ min (e + 1) (length s) → m ≡ j + 1 →
        breaks_down f (lines_of (drop i s)) (drop j os) ≡ breaks_down f (lines_of (drop r s)) (drop m os)
    down-on a r m p w =
        let z : suc j ≡ m = omega arith in
        down-at false a ∙ ap (λ (n : ℕ). breaks_down f (lines_of (drop n s)) (drop (suc j) os)) (sym p) ∙ ap (λ (n : ℕ). breaks_down f (lines_of (drop r s)) (drop n os)) z

-- by the words of the value, cleaned
pub down-clean : (value clean : List ℕ) → clean ≡ strip_lexical value → (ls : List (List ℕ)) (os : List ℕ) (k : Bool) →
    k ≡ breaks_down (breaks_with value (words_in clean)) ls os → k ≡ breaks_down (breaks value) ls os
unfolding breaks
down-clean value clean e ls os k c = c ∙ ap (λ (t : List ℕ). breaks_down (breaks_with value (words_in t)) ls os) e

-- a value of plain bytes is clean as it is
plain-clean : (value : List ℕ) → plain_len value ≡ length value → value ≡ strip_lexical value
plain-clean value e =
    let z : length value ≡ 0 + plain_len value = omega (arith, e) in
    let n : length value - 0 ≡ length value = omega arith in
    sym (ap (λ (k : ℕ). take k value) n ∙ take_all (length value) value (omega arith)) ∙ lex-end (lex-plain (lex-start value (tail_of []) refl) (length value) z _ refl) (omega arith)

pub down-plain : (value : List ℕ) (k : ℕ) → k ≡ 0 + plain_len (drop 0 value) → k ≡ length value → (ls : List (List ℕ)) (os : List ℕ) (b : Bool) →
    b ≡ breaks_down (breaks_with value (words_in value)) ls os → b ≡ breaks_down (breaks value) ls os
down-plain value k p q = down-clean value value (plain-clean value (omega (arith, p, q)))

-- ---- putting a value in

-- what was written at the front of a buffer, cut out of it
pub front-is : {d xs d' t : List ℕ} {n : ℕ} → Wrote d 0 xs d' n → t ≡ part 0 n d' → t ≡ xs
front-is {d' = d'} {n = n} w e = let z : n - 0 ≡ n = omega arith in e ∙ ap (λ (k : ℕ). take k d') z ∙ wrote-part w

-- a value in parentheses is glued to nothing
wrapped-free : (before v after : List ℕ) → glue_left before (wrapped_call v) || glue_right (wrapped_call v) after ≡ false
unfolding glue_left glue_right prefixed
wrapped-free before v after = go (get_or (40 ∷ v ++ 41 ∷ []) (length (40 ∷ v ++ 41 ∷ []) - 1) 0) last
  where
    last : get_or (40 ∷ v ++ 41 ∷ []) (length (40 ∷ v ++ 41 ∷ []) - 1) 0 ≡ 41
    last =
        let n : length (40 ∷ v ++ 41 ∷ []) - 1 ≡ length (40 ∷ v) + 0 = omega (arith, length-append (40 ∷ v) (41 ∷ [])) in
        ap (λ (k : ℕ). get_or (40 ∷ v ++ 41 ∷ []) k 0) n ∙ get_or-append-add (40 ∷ v) (41 ∷ []) 0 0

    go : (x : ℕ) → x ≡ 41 → ((ends_in 45 before && false) || (ends_in 43 before && false)) || (is_digit x && prefixed (46 ∷ []) after) ≡ false
    go x e = rw (and-false (ends_in 45 before), and-false (ends_in 43 before), e)

-- a line with a value in parentheses in the place of a hit, by its parts
module _ (from to : ℕ) (l v before after : List ℕ) (p : before ≡ part 0 from l) (q : after ≡ part to (length l) l) where
  wrapped-bare : glued before (wrapped_call v) after ≡ wrapped_call v
  wrapped-bare = glued-bare before (wrapped_call v) after (wrapped-free before v after)

  pub wrapped-is : (((before ++ (40 ∷ [])) ++ v) ++ (41 ∷ [])) ++ after ≡ replaced_at from to l (wrapped_call v)
  wrapped-is =
      ap (λ (t : List ℕ). t ++ after)
      (ap (λ (t : List ℕ). t ++ (41 ∷ [])) (append_assoc before (40 ∷ []) v) ∙ append_assoc before (40 ∷ v) (41 ∷ []) ∙ ap (λ (t : List ℕ). before ++ t) (sym wrapped-bare))
      ∙ replaced-is from to l (wrapped_call v) before after p q

  pub wrapped-long : length before + 2 + length v + length after ≡ length (replaced_at from to l (wrapped_call v))
  wrapped-long = omega (arith, replaced-length from to l (wrapped_call v) before after p q, ap length wrapped-bare, length-append (40 ∷ v) (41 ∷ []))

module _ (R : Reading) (cur : List ℕ) (v : ℕ) (value : List ℕ) where
  pub put-none : reg_hit v cur ≡ None → put_by (leaves_of R) (context_of cur v) cur v value ≡ end
  unfolding context_of put_by
  put-none e = rw e

  module _ (w : Span) (e : reg_hit v cur ≡ Some w) where
    pub put-target : as_target w.to cur ≡ true → put_by (leaves_of R) (context_of cur v) cur v value ≡ end
    unfolding context_of put_by
    put-target t = rw (e, t)

    pub put_one : as_target w.to cur ≡ false → (b : Bool) → b ≡ after_new w.from cur →
        put_by (leaves_of R) (context_of cur v) cur v value ≡ absorb (replaced_at w.from w.to cur (paren_if_needed value b))
    unfolding context_of put_by replace_reg or_end
    put_one t b q = rw (e, t, ← q) (go b)
      where
        go : (b : Bool) → put_by (leaves_of R) (cond b newed operand) cur v value ≡ absorb (replaced_at w.from w.to cur (paren_if_needed value b))
        go true = rw e
        go false = rw e

pub as-end : {d d' : List ℕ} {s : Step} → length d' ≡ length d → s ≡ end → PutAs d s d' None
as-end l q = rw q (ends l)

pub as-puts : {d d' next : List ℕ} {n : ℕ} {s : Step} → s ≡ absorb next → Wrote d 0 next d' n → PutAs d s d' (Some n)
as-puts q w = rw q (puts refl w)

-- the buffer may have been written before
pub put-after : {d₀ d d' : List ℕ} {s : Step} {r : Option ℕ} → length d ≡ length d₀ → PutAs d s d' r → PutAs d₀ s d' r
put-after q (ends l) = ends (l ∙ q)
put-after q (puts l w) = puts (l ∙ q) w

-- ---- a store that may be absorbed

module _ (R : Reading) (cur : List ℕ) (v : ℕ) (value : List ℕ) (below taken : List (List ℕ)) (owner : List ℕ) where
  module _ (n : ℕ) (a : n ≡ line_reads v cur) where
    pub absorb-reads : (n ≡ 1 → ⊥) → absorb_step R cur v value below taken owner ≡ end
    unfolding absorb_step
    absorb-reads z = rw (← a, ne_eqb n 1 z)

    module _ (z : n ≡ 1) (l : Bool) (b : l ≡ read_later (leaves_of R) v below) where
      pub absorb-later : l ≡ true → absorb_step R cur v value below taken owner ≡ end
      unfolding absorb_step
      absorb-later h = rw (← a, eq-eqb n 1 z, ← b, h)

      module _ (h : l ≡ false) (k : Bool) (c : k ≡ breaks_down (breaks value) taken owner) where
        pub absorb-breaks : k ≡ true → absorb_step R cur v value below taken owner ≡ end
        unfolding absorb_step
        absorb-breaks q = rw (← a, eq-eqb n 1 z, ← b, h, ← c, q)

        pub absorb-puts : k ≡ false → absorb_step R cur v value below taken owner ≡ put_by (leaves_of R) (context_of cur v) cur v value
        unfolding absorb_step
        absorb-puts q = rw (← a, eq-eqb n 1 z, ← b, h, ← c, q)

pub put_step : {d d' : List ℕ} {s t : Step} {r : Option ℕ} → s ≡ t → PutAs d t d' r → PutAs d s d' r
put_step q p = rw q p

-- ---- the scan back to the LF above

-- past bytes that are no LF
back-run : (s : List ℕ) (n k : ℕ) → ((i : ℕ) → i < k → get_or s (n + i) 0 ≡ 10 → ⊥) → line_start s (n + k) ≡ line_start s n
back-run s n zero f = let z : n + 0 ≡ n = omega arith in ap (line_start s) z
back-run s n (suc k) f =
    let z : n + suc k - 1 ≡ n + k = omega arith in
    start-on s (n + suc k) (omega arith) (λ e. f k (omega arith) (ap (λ (i : ℕ). get_or s i 0) (sym z) ∙ e)) ∙ ap (line_start s) z ∙ back-run s n k (λ i h. f i (omega arith))

lacks-at : (l : List ℕ) (i : ℕ) → lacks 10 l ≡ true → i < length l → get_or l i 0 ≡ 10 → ⊥
unfolding lacks
lacks-at [] i h k e = absurd (omega arith)
lacks-at (x ∷ l) zero h k e = no (rw (eq-eqb x 10 e) at h)
lacks-at (x ∷ l) (suc i) h k e = lacks-at l i (go (eqb x 10) h) (omega arith) e
  where
    go : (b : Bool) → cond b false (lacks 10 l) ≡ true → lacks 10 l ≡ true
    go true q = no q
    go false q = q

-- an LF ends lines, where there are any
last-lf : (ls : List (List ℕ)) → 0 < length (unlines ls) → get_or (unlines ls) (length (unlines ls) - 1) 0 ≡ 10
unfolding unlines
last-lf [] h = absurd (omega arith)
last-lf (l ∷ ls) h = go (unlines ls) (λ k. last-lf ls k)
  where
    go : (u : List ℕ) → (0 < length u → get_or u (length u - 1) 0 ≡ 10) → get_or (l ++ 10 ∷ u) (length (l ++ 10 ∷ u) - 1) 0 ≡ 10
    go [] f =
        let n : length (l ++ 10 ∷ []) - 1 ≡ length l + 0 = omega (arith, length-append l (10 ∷ [])) in
        ap (λ (k : ℕ). get_or (l ++ 10 ∷ []) k 0) n ∙ get_or-append-add l (10 ∷ []) 0 0
    go (x ∷ u) f =
        let n : length (l ++ 10 ∷ x ∷ u) - 1 ≡ length l + suc (length u) = omega (arith, length-append l (10 ∷ x ∷ u)) in
        let m : length (x ∷ u) - 1 ≡ length u = omega arith in
        ap (λ (k : ℕ). get_or (l ++ 10 ∷ x ∷ u) k 0) n ∙ get_or-append-add l (10 ∷ x ∷ u) (suc (length u)) 0 ∙ ap (λ (k : ℕ). get_or (x ∷ u) k 0) (sym m) ∙ f (omega arith)

-- below some lines, the last line of a text begins where these end
pub back-line : (ls : List (List ℕ)) (l more : List ℕ) → lacks 10 l ≡ true → line_start (unlines ls ++ (l ++ more)) (length (unlines ls) + length l) ≡ length (unlines ls)
back-line ls l more h = back-run (unlines ls ++ (l ++ more)) (length (unlines ls)) (length l) inner ∙ front (length (unlines ls)) refl
  where
    inner : (i : ℕ) → i < length l → get_or (unlines ls ++ (l ++ more)) (length (unlines ls) + i) 0 ≡ 10 → ⊥
    inner i k e = lacks-at l i h k (sym (get_or-append-add (unlines ls) (l ++ more) i 0 ∙ get_or-append l more 0 i k) ∙ e)

    front : (k : ℕ) → length (unlines ls) ≡ k → line_start (unlines ls ++ (l ++ more)) (length (unlines ls)) ≡ length (unlines ls)
    front zero e = start-front (unlines ls ++ (l ++ more)) (length (unlines ls)) (omega arith)
    front (suc k) e =
        start-here (unlines ls ++ (l ++ more)) (length (unlines ls)) (omega arith)
        (get_or-append (unlines ls) (l ++ more) 0 (length (unlines ls) - 1) (omega arith) ∙ last-lf ls (omega arith))
