-- The loops of `walk_line` and `place_lines`. Assumes nothing.
use Prim.Native.Nat.{ℕ, ◌+◌, ◌-◌, ◌≤◌, ◌<◌, ◌^◌, min}
use mathlib.Core.Path.{◌≡◌, refl, sym, ap, ◌∙◌, subst}
use mathlib.Core.Bool.{Bool, true, false, cond, ◌&&◌, ◌||◌}
use mathlib.Core.List.{List, [], ◌∷◌, ◌++◌, append_assoc}
use native.Mathlib.Omega.{arith}
use borrow.Author.Tests.{eq-eqb, ne_eqb, eqb-true, ltb-true, ltb-false}
use lib.ListN.{length, get_or, set, take, drop, length-take, get_or-eq_default}
use lib.Seq.{get_or-take, get_or-drop}
use lib.Dec.{eqb, ltb}
use Rattle.lines.specs.Lf.{part, up_to, lines_of}
use Rattle.lines.proofs.Tests.{or-false, and_left, and_right}
use Rattle.lines.proofs.LfLaws.{lines-at, lines_end}
use Rattle.lines.proofs.OutLaws.{Writing, writing_start, writing-as, writing-room}
use Rattle.text.specs.White.{is_white}
use Rattle.text.specs.Class.{is_quote}
use Rattle.text.specs.Trim.{to_of, end_white}
use Rattle.text.proofs.Trims.{rest_of}
use Rattle.lexical.specs.declared.Kind.{Kind}
use Rattle.lexical.specs.declared.Kind.TheVariants.{Kept}
use Rattle.lexical.specs.declared.Token.{Token}
use Rattle.lexical.specs.declared.Step.{Step}
use Rattle.lexical.specs.declared.Tail.{Tail}
use Rattle.lexical.specs.Lex.{last_of, token, leaves, strip_lexical}
use Rattle.lexical.specs.Inner.Lex.{token_at, tail_of, pushed, grown, clean_step}
use Rattle.lexical.specs.declared.Open.{Open}
use Rattle.lexical.specs.declared.Rest.{Rest}
use Rattle.lexical.specs.declared.Open.TheVariants.{Nothing}
use Rattle.lexical.specs.Joined.{rests_in}
use Rattle.lexical.specs.Inner.Joined.{rest_in, rest_by, rests_by}
use Rattle.lexical.specs.Inner.Plain.{plain_len, low_last, low_tail}
use Rattle.lexical.proofs.TokenLaws.{token-kept}
use Rattle.lexical.proofs.TailLaws.{after-low}
use Rattle.lexical.proofs.LexLaws.{head_at, LexAt, lex-start, lex-next, lex-on, lex-end}
use Rattle.lexical.proofs.JoinedLaws.{rests-length, rests-by}
use Rattle.lexical.proofs.PlainLaws.{plain-take, lex-plain, last-run, low-plain}
use Rattle.place.specs.Blocks.{Brace, brace_of, cleaned}
use Rattle.place.specs.Inner.Blocks.{block_ids}
use Rattle.place.specs.Starts.{starts_after, starts_go}
use Rattle.place.specs.Inner.Starts.{starts_by_last}
use Rattle.place.specs.Inner.Fill.{Filled, flags_of}
use Rattle.place.specs.Inner.Parents.{cur_by, Room, Moved, braces, ids_pre, ids_post, ids_parents}
use Rattle.place.proofs.Blocks.{cleaned-length}
use Rattle.place.proofs.Fills.{entry-on, entry-end, flags-length, filled-as}
use Rattle.place.proofs.Parents.{moved_none, moved_then, moved_as, room_as, room-first, room-then, room-length, ids-notes}
use Rattle.place.proofs.Plains.{moved-run}
use Rattle.place.proofs.Tables.{RowsInv, rows_start, rows-place, rows-room, rows_on, rows-done}
use Rattle.place.proofs.Starts.{lex-keeps, length-starts, Bytes, bytes-strip, after-by}

braces-append : (a b : List ℕ) → braces (a ++ b) ≡ braces a ++ braces b
unfolding braces
braces-append [] b = refl
braces-append (x ∷ a) b = ap (λ (r : List Brace). brace_of x ∷ r) (braces-append a b)

-- ---- a line, token by token

-- `out` is left of the line so far
pub record WalkInv (line : List ℕ) (c : ℕ) (u₀ : List ℕ) (n : ℕ) (u : List ℕ) (i : ℕ) (t : Tail) (k m : ℕ) : Type 0 where
  pub room : Room (ids_post line) c u₀ n
  pub out : List ℕ
  pub lex : LexAt line i t out
  pub moved : Moved (braces out) c u₀ n k u m

pub walk_start : (line : List ℕ) (c : ℕ) (u : List ℕ) (n : ℕ) (t : Tail) → Room (ids_post line) c u n → t ≡ tail_of [] → WalkInv line c u n u 0 t c n
unfolding braces
walk_start line c u n t r e = record { room = r; out = []; lex = lex-start line t e; moved = moved_none c u n r.known }

module _ {line : List ℕ} {c : ℕ} {u₀ : List ℕ} {n : ℕ} {u : List ℕ} {i : ℕ} {t : Tail} {k m : ℕ} (h : WalkInv line c u₀ n u i t k m) where
  rest-room : {out : List ℕ} → LexAt line i t out → (r : List ℕ) × (Room (braces out ++ braces r) c u₀ n)
  unfolding ids_post
  rest-room {out} l =
      let e = lex-keeps (drop i line) 0 out in
      (e.0, room_as (ap braces (sym l.so_far ∙ e.1) ∙ braces-append out e.0) h.room)

  pub walk-length : length u ≡ length u₀
  walk-length = let p = rest-room h.lex in room-length (braces h.out) (braces p.0) p.1 h.moved

  module _ (s : Step) (q : s ≡ clean_step i t (drop i line)) (l : i < length line) where
    pub walk-room : Room (braces (leaves s.kind (get_or line i 0))) k u m
    unfolding ids_post
    walk-room =
        let w : List ℕ = leaves s.kind (get_or line i 0) in
        let x = lex-next h.lex s q l in
        let e = lex-keeps (drop s.next line) 0 (h.out ++ w) in
        let z : braces (strip_lexical line) ≡ braces h.out ++ (braces w ++ braces e.0) =
        ap braces (sym x.so_far ∙ e.1 ∙ append_assoc h.out w e.0) ∙ braces-append h.out (w ++ e.0)
        ∙ ap (λ (r : List Brace). braces h.out ++ r) (braces-append w e.0) in
        room-first (braces w) (braces e.0) (room-then (braces h.out) (braces w ++ braces e.0) (room_as z h.room) h.moved)

    pub walk-less : i < s.next
    walk-less = lex-on h.lex s q l

    pub walk-on : {k' m' : ℕ} {u' : List ℕ} → Moved (braces (leaves s.kind (get_or line i 0))) k u m k' u' m' → WalkInv line c u₀ n u' s.next s.tail k' m'
    walk-on v = record {
      room = h.room;
      out = h.out ++ leaves s.kind (get_or line i 0);
      lex = lex-next h.lex s q l;
      moved = moved_as (sym (braces-append h.out (leaves s.kind (get_or line i 0)))) (moved_then h.moved v);
    }

  known : m ≤ length u
  known = let p = rest-room h.lex in (room-then (braces h.out) (braces p.0) p.1 h.moved).known

  -- over plain bytes
  pub walk-plain : (j : ℕ) → j ≡ i + plain_len (drop i line) → (v : Tail) → v ≡ grown t (part i j line) → WalkInv line c u₀ n u j v k m
  walk-plain j q v e = record {
    room = h.room;
    out = h.out ++ part i j line;
    lex = lex-plain h.lex j q v e;
    moved = moved_as (sym (braces-append h.out (part i j line))) (moved_then h.moved (moved-run (part i j line) k u m (plain-take (drop i line) (j - i) (omega arith)) known));
  }

  pub walk-done : length line ≤ i → Moved (ids_post line) c u₀ n k u m × (t.last ≡ last_of (strip_lexical line))
  unfolding ids_post tail_of
  walk-done l =
      let e = lex-end h.lex l in
      (moved_as (ap braces e) h.moved, ap (λ (x : Tail). x.last) h.lex.tail ∙ ap last_of e)

-- from the end of the plain bytes at its head
walk-head : (line : List ℕ) (c : ℕ) (u : List ℕ) (n j : ℕ) (t v : Tail) → Room (ids_post line) c u n → t ≡ tail_of [] → j ≡ plain_len line → v ≡ grown t (part 0 j line) →
    WalkInv line c u n u j v c n
walk-head line c u n j t v r e q w = walk-plain (walk_start line c u n t r e) j (omega arith) v w

-- and with the tail that the front's bytes leave, each taken as a character
pub walk-front : (line : List ℕ) (c : ℕ) (u : List ℕ) (n j : ℕ) {v : Tail} → Room (ids_post line) c u n → j ≡ plain_len line → v ≡ low_tail (take j line) → WalkInv line c u n u j v c n
walk-front line c u n j {v} r q w =
    let e : j - 0 ≡ j = omega arith in
    walk-head line c u n j (tail_of []) v r refl q (w ∙ low-plain (take j line) (plain-take line j (omega arith)) ∙ ap (λ (m : ℕ). grown (tail_of []) (take m line)) (sym e))

no_last : (tail_of []).last ≡ 256
unfolding tail_of last_of to_of end_white
no_last = refl

-- a line of plain bytes alone
pub walk-whole : (line : List ℕ) (c : ℕ) (u : List ℕ) (n j : ℕ) {r : ℕ} → Room (ids_post line) c u n → j ≡ plain_len line → j ≡ length line → r ≡ low_last 256 (part 0 j line) →
    Moved (ids_post line) c u n c u n × (r ≡ last_of (strip_lexical line))
walk-whole line c u n j {r} h q z e =
    let v : Tail = grown (tail_of []) (part 0 j line) in
    let d = walk-done (walk-head line c u n j (tail_of []) v h refl q refl) (omega arith) in
    let l = last-run (tail_of []) (part 0 j line) (plain-take line (j - 0) (omega arith)) in
    (d.0, e ∙ ap (λ (a : ℕ). low_last a (part 0 j line)) (sym no_last) ∙ sym l ∙ d.1)

-- what a brace is not
brace-is : (b : ℕ) → eqb b 123 || eqb b 125 ≡ true → ((b ≡ 47 → ⊥) × (is_quote b ≡ false)) × ((is_white b ≡ false) × (b < 128))
unfolding is_white
brace-is b h = go (eqb b 123) refl h
  where
    at : (d : ℕ) → b ≡ d → ((d ≡ 47 → ⊥) × (is_quote d ≡ false)) × ((is_white d ≡ false) × (d < 128)) → ((b ≡ 47 → ⊥) × (is_quote b ≡ false)) × ((is_white b ≡ false) × (b < 128))
    at d e f = rw e f

    go : (t : Bool) → eqb b 123 ≡ t → t || eqb b 125 ≡ true → ((b ≡ 47 → ⊥) × (is_quote b ≡ false)) × ((is_white b ≡ false) × (b < 128))
    go true e f = at 123 (eqb-true b 123 e) ((omega arith, refl), (refl, omega arith))
    go false e f = at 125 (eqb-true b 125 f) ((omega arith, refl), (refl, omega arith))

-- a line that is plain up to a brace at its end
module _ (line : List ℕ) (c : ℕ) (u : List ℕ) (n j : ℕ) (h : Room (ids_post line) c u n) (q : j ≡ plain_len line)
    (w : eqb (j + 1) (length line) && (eqb (get_or line j 0) 123 || eqb (get_or line j 0) 125) ≡ true) where
  z : j + 1 ≡ length line
  z = eqb-true (j + 1) (length line) (and_left (eqb (j + 1) (length line)) _ w)

  y : eqb (get_or line j 0) 123 || eqb (get_or line j 0) 125 ≡ true
  y = and_right (eqb (j + 1) (length line)) _ w

  abbrev v : Tail
  v = grown (tail_of []) (part 0 j line)

  at-brace : WalkInv line c u n u j v c n
  at-brace = walk-head line c u n j (tail_of []) v h refl q refl

  abbrev s : Step
  s = clean_step j v (drop j line)

  one : token_at v.last (drop j line) ≡ token 1 Kept
  one = let f = brace-is (get_or line j 0) y in token-kept v.last line j (omega (arith, z)) f.0.0 f.0.1

  kind-is : s.kind ≡ Kept
  unfolding clean_step
  kind-is = ap (λ (k : Token). k.kind) one

  next-is : s.next ≡ j + 1
  unfolding clean_step
  next-is = ap (λ (k : Token). j + k.size) one

  last-is : s.tail.last ≡ get_or line j 0
  unfolding clean_step grown pushed
  last-is = let f = brace-is (get_or line j 0) y in rw (one, head_at line j, after-low (get_or line j 0) f.1.1 v, f.1.0)

  braces-are : braces (leaves s.kind (get_or line j 0)) ≡ brace_of (get_or line j 0) ∷ []
  unfolding braces
  braces-are = ap (λ (k : Kind). braces (leaves k (get_or line j 0))) kind-is

  pub brace-room : Room (brace_of (get_or line j 0) ∷ []) c u n
  brace-room = room_as braces-are (walk-room at-brace s refl (omega (arith, z)))

  pub brace-done : {b m : ℕ} {u' : List ℕ} → Moved (brace_of (get_or line j 0) ∷ []) c u n b u' m → Moved (ids_post line) c u n b u' m × (get_or line j 0 ≡ last_of (strip_lexical line))
  brace-done m =
      let x = walk-on at-brace s refl (omega (arith, z)) (moved_as (sym braces-are) m) in
      let d = walk-done x (omega (arith, next-is, z)) in
      (d.0, sym last-is ∙ d.1)

-- ---- a test of the last character

module _ (last : ℕ) (st : Bool) where
  pub by-blank : last ≡ 256 → st ≡ starts_by_last last st
  unfolding starts_by_last
  by-blank e = rw (eq-eqb last 256 e)

  pub by_last : (last ≡ 256 → ⊥) → eqb last 59 || (eqb last 123 || (eqb last 125 || eqb last 58)) ≡ starts_by_last last st
  unfolding starts_by_last
  by_last n = rw (ne_eqb last 256 n, or-false (eqb last 58))

-- ---- the lines

pub bytes-part : (t : List ℕ) (i e : ℕ) → Bytes t → Bytes (part i e t)
bytes-part t i e p j = go (ltb j (e - i)) refl
  where
    go : (b : Bool) → ltb j (e - i) ≡ b → get_or (take (e - i) (drop i t)) j 0 < 256
    go true h = let q = p (i + j) in let g = get_or-take (e - i) (drop i t) j 0 (ltb-true j (e - i) h) in let f = get_or-drop i t j 0 in omega arith
    go false h = let l = ltb-false j (e - i) h in let g = get_or-eq_default (take (e - i) (drop i t)) 0 {n = j} (omega (arith, length-take (e - i) (drop i t))) in omega arith

rests-long : (joined : Bool) (ls : List (List ℕ)) → length (rests_in joined ls) ≡ length ls
rests-long true ls = rests-length Nothing ls
rests-long false ls = refl

pub record PlaceInv (joined : Bool) (t d₀ d s₀ s u₀ u : List ℕ) (i k c n : ℕ) (st : Bool) (above : Open) : Type 0 where
  pub i≤ : i ≤ length t
  pub blocks : RowsInv ids_pre ids_post (rests_in joined (lines_of t)) (rests_by joined above (lines_of (drop i t))) d₀ d u₀ u k c n
  pub starts : Writing 0 (flags_of (starts_go (cleaned (rests_in joined (lines_of t))) true)) (flags_of (starts_go (cleaned (rests_by joined above (lines_of (drop i t)))) st)) s₀ s k

pub place-start : (joined : Bool) (t d s u : List ℕ) → length (lines_of t) ≤ length d → length (lines_of t) ≤ length s →
    length (ids_parents (rests_in joined (lines_of t))) ≤ length u → length u < 2 ^ 32 → PlaceInv joined t d d s s u u 0 0 0 0 true Nothing
unfolding ids_parents
place-start joined t d s u p q r b =
    let ls : List (List ℕ) = rests_in joined (lines_of t) in
    let same : ls ≡ rests_by joined Nothing (lines_of t) = sym (rests-by joined (lines_of t)) in
    let long = rests-long joined (lines_of t) in
    record {
      i≤ = omega arith;
      blocks = subst (λ (x : List (List ℕ)). RowsInv ids_pre ids_post ls x d d u u 0 0 0) same (rows_start ids_pre ids_post ls d u (omega arith) r b);
      starts = subst (λ (x : List (List ℕ)). Writing 0 (flags_of (starts_go (cleaned ls) true)) (flags_of (starts_go (cleaned x) true)) s s 0) same
          (writing_start 0 (flags_of (starts_go (cleaned ls) true)) s (omega (arith, flags-length (starts_go (cleaned ls) true), length-starts (cleaned ls) true, cleaned-length ls)));
    }

module _ {joined : Bool} {t d₀ d s₀ s u₀ u : List ℕ} {i k c n : ℕ} {st : Bool} {above : Open} (h : PlaceInv joined t d₀ d s₀ s u₀ u i k c n st above) where
  module _ (q : i < length t) (e : ℕ) (z : e ≡ i + up_to 10 (drop i t)) where
    -- the rest of the line, and those of the lines below it
    todo-is : rests_by joined above (lines_of (drop i t)) ≡ rest_by joined above (part i e t) ∷ rests_by joined (rest_in joined above (part i e t)).below (lines_of (drop (min (e + 1) (length t)) t))
    unfolding rests_by
    todo-is = ap (rests_by joined above) (lines-at t i e q z)

    on-starts : {l : List ℕ} {more : List (List ℕ)} → rests_by joined above (lines_of (drop i t)) ≡ l ∷ more →
        flags_of (starts_go (cleaned (rests_by joined above (lines_of (drop i t)))) st) ≡ cond st 1 0 ∷ flags_of (starts_go (cleaned more) (starts_after (strip_lexical l) st))
    unfolding starts_go cleaned flags_of
    on-starts w = ap (λ (ls : List (List ℕ)). flags_of (starts_go (cleaned ls) st)) w

    pub place-block : k < length d
    place-block = rows-place ids_pre ids_post h.blocks todo-is

    pub place-flag : k < length s
    place-flag = let p = writing-room (writing-as (on-starts todo-is) h.starts) in omega arith

    -- the rest, as a part of the line
    abbrev rest : Rest → List ℕ
    rest r = part r.from (length (part i e t)) (part i e t)

    rest-is : (r : Rest) → rest r ≡ drop r.from (part i e t)
    rest-is r = rest_of (part i e t) r.from

    pub place-room : {r : Rest} → r ≡ rest_in joined above (part i e t) → Room (ids_post (rest r)) c u n
    place-room {r} a =
        room_as (ap (λ (x : Rest). ids_post (drop x.from (part i e t))) (sym a) ∙ ap ids_post (sym (rest-is r))) (rows-room ids_pre ids_post h.blocks todo-is)

    pub place-on : {b f last c' : ℕ} {r : Rest} {u' : List ℕ} {n' j : ℕ} {st' : Bool} → Bytes t → b ≡ c → f ≡ cond st 1 0 → r ≡ rest_in joined above (part i e t) →
        Moved (ids_post (rest r)) c u n c' u' n' × (last ≡ last_of (strip_lexical (rest r))) → st' ≡ starts_by_last last st →
        j ≡ min (e + 1) (length t) → PlaceInv joined t d₀ (set d k b) s₀ (set s k f) u₀ u' j (k + 1) c' n' st' r.below
    unfolding cur_by
    place-on {b} {f} {last} {c'} {r} {u'} {n'} {j} {st'} a x y z m w v =
        let line : List ℕ = part i e t in
        let l : List ℕ = rest r in
        let more : List (List ℕ) = rests_by joined r.below (lines_of (drop j t)) in
        let todo : rests_by joined above (lines_of (drop i t)) ≡ l ∷ more =
        todo-is
        ∙ ap (λ (p : ℕ). rest_by joined above line ∷ rests_by joined (rest_in joined above line).below (lines_of (drop p t))) (sym v)
        ∙ ap (λ (p : Rest). drop p.from line ∷ rests_by joined p.below (lines_of (drop j t))) (sym z)
        ∙ ap (λ (p : List ℕ). p ∷ more) (sym (rest-is r)) in
        let g : starts_after (strip_lexical l) st ≡ st' =
        sym (after-by (strip_lexical l) st (bytes-strip l (bytes-part line r.from (length line) (bytes-part t i e a))))
        ∙ ap (λ (p : ℕ). starts_by_last p st) (sym m.1)
        ∙ sym w in
        record {
          i≤ = omega arith;
          blocks = rows_on ids_pre ids_post h.blocks todo x m.0;
          starts = entry-on f (writing-as (on-starts todo
              ∙ ap (λ (p : ℕ). p ∷ flags_of (starts_go (cleaned more) (starts_after (strip_lexical l) st))) (sym y)
              ∙ ap (λ (p : Bool). f ∷ flags_of (starts_go (cleaned more) p)) g) h.starts);
        }

  pub place-done : length t ≤ i → Filled d₀ (block_ids (rests_in joined (lines_of t))) d k
      × (Filled s₀ (flags_of (starts_go (cleaned (rests_in joined (lines_of t))) true)) s k
      × Filled u₀ (ids_parents (rests_in joined (lines_of t))) u (length (ids_parents (rests_in joined (lines_of t)))))
  unfolding ids_parents starts_go cleaned flags_of rests_by
  place-done q =
      let z : rests_by joined above (lines_of (drop i t)) ≡ [] = ap (rests_by joined above) (lines_end t i q) in
      let p = rows-done ids_pre ids_post h.blocks z in (
        filled-as (ids-notes (rests_in joined (lines_of t))) p.0,
        (entry-end (ap (λ (ls : List (List ℕ)). flags_of (starts_go (cleaned ls) st)) z) h.starts, p.1),
      )

-- the tail after plain bytes, by the place where they end
pub tail-to : (line : List ℕ) (i j : ℕ) (t : Tail) {v : Tail} → j ≡ i + plain_len (drop i line) → v ≡ grown t (part i (i + plain_len (drop i line)) line) → v ≡ grown t (part i j line)
tail-to line i j t e w = w ∙ ap (λ (x : ℕ). grown t (part i x line)) (sym e)
