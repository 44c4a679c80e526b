-- A line in its turn, and the loop over all lines. Assumes nothing.
use Prim.Native.Nat.{ℕ, suc, ◌+◌, ◌-◌, ◌≤◌, ◌<◌, min}
use mathlib.Core.Path.{◌≡◌, refl, sym, ap, ◌∙◌, subst}
use mathlib.Core.Bool.{Bool, true, false, cond, not, ◌&&◌}
use mathlib.Core.List.{List, [], ◌∷◌, ◌++◌, append-nil}
use native.Mathlib.Omega.{arith}
use native.Mathlib.Numerals.{add-one}
use borrow.Author.Tests.{eqb-true}
use lib.Dec.{eqb}
use lib.ListN.{length, take, drop, get_or, set, length-append, length-take, length-drop, length-set, take-append-drop}
use lib.Seq.{take-suc, drop-cons, take_at, take_all, take-add, take-set-le, drop-set-lt, get_or-drop, get_or-set_same, length-take-le}
use Rattle.lines.specs.Lf.{part, up_to, lines_of, unlines}
use Rattle.lines.specs.Acts.{Act, keep, act, apply}
use Rattle.lines.specs.Inner.Out.{put_at, Wrote}
use Rattle.lines.proofs.ActLaws.{apply-append, unlines-append}
use Rattle.lines.proofs.LfLaws.{lines-at, lines_end, find-le, part-more}
use Rattle.lines.proofs.OutLaws.{wrote-length, wrote-part}
use Rattle.place.specs.Region.{is_header}
use Rattle.calls.specs.LeavesOf.{is_call, is_control_line}
use Rattle.calls.specs.Calls.{Item, Row, Walked, tries, settle_row, climb, acts_up, read_later, turn, rebuild_calls_acts, rebuild_calls}
use Rattle.calls.specs.Inner.Tables.{owner_of, owners_of, tabled, rows_to, rows_at, walk_at, line_at, Keeps, Stands, Placed, Foot, Peaked, Ready, TurnedLine, Rebuilt}
use Rattle.calls.proofs.Cut.{acts-more, acts-length}
use Rattle.calls.proofs.Edges.{given, given-length, walk-given}
use Rattle.calls.proofs.Owners.{walk-owned, keep-owner}
use Rattle.calls.proofs.Stacks.{owners-snoc, owners-rows}
use Rattle.calls.proofs.Told.{item_at, rows-suc, walk_is, given-at, owned_at, many-at, start-at, rows_end}

-- ---- a line and its LF

pub line-is : (l : List ℕ) → l ++ (10 ∷ []) ≡ unlines (l ∷ [])
unfolding unlines
line-is l = refl

pub line-long : (l : List ℕ) → length (unlines (l ∷ [])) ≡ length l + 1
unfolding unlines
line-long l = length-append l (10 ∷ [])

-- what stands below a writing's end
wrote-front : {d xs d' : List ℕ} {o r : ℕ} → Wrote d o xs d' r → take r d' ≡ take o d ++ xs
unfolding put_at
wrote-front {d} {xs} {d'} {o} {r} w =
    let n : length (take o d ++ xs) ≡ r = omega (arith, length-append (take o d) xs, length-take-le o d (omega (arith, w.fits)), w.place) in
    ap (take r) w.holds ∙ take_at (take o d ++ xs) (drop (o + length xs) d) r n

-- ---- one row more on the stack

module _ {t : List ℕ} {n : ℕ} {rows : List Row} {owner stack : List ℕ} {o : ℕ} (k : Keeps t n rows owner stack o) (w : n < length (lines_of t)) (m : length rows ≡ n) where
  push-keeps : (x : Item) (a : Act) (l : List ℕ) → owner_of a ≡ 0 → act a (line_at t n) ≡ l ∷ [] → n < length owner → get_or owner n 0 ≡ 0 → {stack' : List ℕ} {r : ℕ} →
      Wrote stack o (unlines (l ∷ [])) stack' r → Keeps t (suc n) (record { item = x; act = a } ∷ rows) owner stack' r
  unfolding apply acts_up
  push-keeps x a l z e q g {stack'} {r} v =
      let row : Row = record { item = x; act = a } in
      let many : length (acts_up rows []) ≡ length (take n (lines_of t)) = omega (arith, acts-length rows [], m, length-take-le n (lines_of t) (omega arith)) in
      let lines : apply (acts_up (row ∷ rows) []) (take (suc n) (lines_of t)) ≡ apply (acts_up rows []) (take n (lines_of t)) ++ (l ∷ []) =
      ap (λ (y : List Act). apply y (take (suc n) (lines_of t))) (acts-more rows (a ∷ []))
      ∙ ap (apply (acts_up rows [] ++ (a ∷ []))) (take-suc (lines_of t) n [] w)
      ∙ apply-append (acts_up rows []) (take n (lines_of t)) (a ∷ []) (line_at t n ∷ []) many
      ∙ ap (λ (y : List (List ℕ)). apply (acts_up rows []) (take n (lines_of t)) ++ y) (append-nil (act a (line_at t n)) ∙ e) in
      record {
        owners = take-suc owner n 0 q ∙ ap (λ (y : List ℕ). y ++ (get_or owner n 0 ∷ [])) k.owners ∙ ap (λ (y : ℕ). owners_of (acts_up rows []) ++ (y ∷ [])) (g ∙ sym z) ∙ sym (owners-snoc row rows);
        stands = wrote-front v ∙ ap (λ (y : List ℕ). y ++ unlines (l ∷ [])) k.stands ∙ sym (ap unlines lines ∙ unlines-append (apply (acts_up rows []) (take n (lines_of t))) (l ∷ []));
        many = omega arith;
        fits = omega (arith, v.place, v.fits, wrote-length v);
      }

-- ---- a line in its turn

walk-acts : (t bs fs : List ℕ) (n : ℕ) → n < length (lines_of t) → n < length bs → owner_of (walk_at t bs fs n).act ≡ 0
walk-acts t bs fs n h k =
    ap (λ (x : Walked). owner_of x.act) (walk_is t bs fs n h k)
    ∙ (walk-owned (tabled bs fs) (item_at t bs n).block (λ v. read_later (tabled bs fs) v (drop (suc n) (lines_of t))) climb (rows_at t bs fs n) 1 (is_header (line_at t n)) (line_at t n) [] [] (owned_at t bs fs n)).0

walk_rows : (t bs fs : List ℕ) (n : ℕ) → n < length (lines_of t) → n < length bs → length (walk_at t bs fs n).rows ≡ n
walk_rows t bs fs n h k =
    sym (given-length (walk_at t bs fs n).rows)
    ∙ ap (λ (x : Walked). length (given x.rows)) (walk_is t bs fs n h k)
    ∙ ap length (walk-given (tabled bs fs) (item_at t bs n).block (λ v. read_later (tabled bs fs) v (drop (suc n) (lines_of t))) climb (rows_at t bs fs n) 1 (is_header (line_at t n)) (line_at t n) [] [] ∙ given-at t bs fs n)
    ∙ length-take-le n (lines_of t) (omega arith)

module _ (t bs fs : List ℕ) (n : ℕ) (h : n < length (lines_of t)) (k : n < length bs) where
  rows-plain : tries (tabled bs fs) (line_at t n) (rows_at t bs fs n) ≡ false → rows_at t bs fs (suc n) ≡ record { item = item_at t bs n; act = keep } ∷ rows_at t bs fs n
  unfolding turn
  rows-plain e = rows-suc t bs fs n h k ∙ rw e

  rows_walked : tries (tabled bs fs) (line_at t n) (rows_at t bs fs n) ≡ true → rows_at t bs fs (suc n) ≡ record { item = item_at t bs n; act = (walk_at t bs fs n).act } ∷ (walk_at t bs fs n).rows
  unfolding turn
  rows_walked e = rows-suc t bs fs n h k ∙ rw e (ap (settle_row (tabled bs fs) (item_at t bs n)) (sym (walk_is t bs fs n h k)))

module _ {t : List ℕ} {n i e : ℕ} {bs fs owner stack : List ℕ} {o : ℕ} {cur next : List ℕ} (v : Ready t n i e bs fs owner stack o cur next) where
  pub end-in : e ≤ length t
  end-in = find-le 10 t i e (omega (arith, v.spot.inside)) v.spot.ends

  pub end_after : i ≤ e
  end_after = omega (arith, v.spot.ends)

  lines-here : part i e t ∷ lines_of (drop (min (e + 1) (length t)) t) ≡ drop n (lines_of t)
  lines-here = sym (lines-at t i e v.spot.inside v.spot.ends) ∙ v.spot.here

  pub in_lines : n < length (lines_of t)
  in_lines = let q = ap length lines-here in omega (arith, length-drop n (lines_of t))

  pub line-here : part i e t ≡ line_at t n
  line-here = ap (λ (l : List (List ℕ)). get_or l 0 []) (lines-here ∙ drop-cons (lines_of t) n [] in_lines)

  line-size : length (line_at t n) ≡ e - i
  line-size = ap length (sym line-here) ∙ length-take (e - i) (drop i t) ∙ omega (arith, length-drop i t, end-in, end_after)

  blocks-in : n < length bs
  blocks-in = omega (arith, in_lines, v.placed.blocks-many)

  pub starts-in : n < length fs
  starts-in = omega (arith, in_lines, v.placed.starts-many)

  below-here : (f : ℕ) → f ≡ min (e + 1) (length t) → Stands t n i f
  below-here f q = record {
    within = in_lines;
    above = v.spot.above;
    below = ap (λ (x : ℕ). lines_of (drop x t)) q ∙ ap (drop 1) (lines-here ∙ drop-cons (lines_of t) n [] in_lines);
    from = omega (arith, v.spot.inside);
  }

  tries-is : (r : Bool) → r ≡ is_call (part i e t) && (eqb (get_or fs n 0) 1 && not (is_control_line (part i e t))) → tries (tabled bs fs) (line_at t n) (rows_at t bs fs n) ≡ r
  tries-is r q =
      sym (q ∙ ap (λ (l : List ℕ). is_call l && (eqb (get_or fs n 0) 1 && not (is_control_line l))) line-here
      ∙ ap (λ (b : Bool). is_call (line_at t n) && (b && not (is_control_line (line_at t n)))) (start-at v.placed n in_lines))

  owner-set : get_or (set owner n 0) n 0 ≡ 0
  owner-set = get_or-set_same owner n 0 0 v.many

  keeps-set : Keeps t n (rows_at t bs fs n) (set owner n 0) stack o
  keeps-set = record {
    owners = take-set-le n owner n 0 (omega arith) ∙ v.keeps.owners;
    stands = v.keeps.stands;
    many = omega (arith, length-set owner n 0, v.keeps.many);
    fits = v.keeps.fits;
  }

  beyond-set : drop (suc n) (set owner n 0) ≡ drop (suc n) owner
  beyond-set = drop-set-lt (suc n) owner n 0 (omega arith)

  -- the line and its LF are among the bytes of all lines
  line-within : e < length (unlines (lines_of t))
  unfolding unlines
  line-within =
      let above : List (List ℕ) = take n (lines_of t) in
      let below : List (List ℕ) = lines_of (drop (min (e + 1) (length t)) t) in
      let whole = ap (λ (l : List (List ℕ)). length (unlines l)) (sym (take-append-drop n (lines_of t)) ∙ ap (λ (l : List (List ℕ)). above ++ l) (sym lines-here))
      ∙ ap length (unlines-append above (part i e t ∷ below)) ∙ length-append (unlines above) (unlines (part i e t ∷ below)) in
      let front : length (unlines above) ≡ i = ap length (sym v.spot.above) ∙ length-take-le i t (omega (arith, v.spot.inside)) in
      omega (arith, whole, front, length-append (part i e t) (10 ∷ unlines below), ap length line-here, line-size, end_after)

  pub push-room : o + length (unlines (part i e t ∷ [])) ≤ length stack
  push-room = omega (arith, line-long (part i e t), ap length line-here, line-size, v.low, v.stack-room, line-within, end_after)

  -- it takes nothing in
  pub turn-plain : (r : Bool) → r ≡ is_call (part i e t) && (eqb (get_or fs n 0) 1 && not (is_control_line (part i e t))) → r ≡ false → {stack' : List ℕ} {x : ℕ} →
      Wrote stack o (unlines (part i e t ∷ [])) stack' x → TurnedLine t bs fs n owner (set owner n 0) stack' o x
  unfolding act
  turn-plain r q z {stack'} {x} w = record {
    keeps = subst (λ (rows : List Row). Keeps t (suc n) rows (set owner n 0) stack' x) (sym (rows-plain t bs fs n in_lines blocks-in (tries-is r q ∙ z)))
        (push-keeps keeps-set in_lines (many-at t bs fs n (omega (arith, in_lines))) (item_at t bs n) keep (part i e t) keep-owner (ap (λ (l : List ℕ). l ∷ []) (sym line-here)) (omega (arith, length-set owner n 0, v.many)) owner-set w);
    beyond = beyond-set;
    room = omega (arith, w.place, line-long (part i e t), ap length line-here);
  }

  -- it may take values in: it is put at the front of cur
  pub cur-room : 0 + length (part i e t) ≤ length cur
  cur-room = omega (arith, ap length line-here, line-size, v.cur-room, end-in)

  module _ {cur' : List ℕ} {size : ℕ} (w : Wrote cur 0 (part i e t) cur' size) (top : Bool) (q : top ≡ is_header (part i e t)) where
    size_is : size ≡ e - i
    size_is = omega (arith, w.place, ap length line-here, line-size)

    foot : Foot t n top cur' size
    foot = record { line = wrote-part w ∙ line-here; header = q ∙ ap is_header line-here; sized = omega (arith, size_is, line-size) }

    pub walk-ready : (f : ℕ) → f ≡ min (e + 1) (length t) →
        (Keeps t n (rows_at t bs fs n) (set owner n 0) stack o) × ((Stands t n i f) × ((Placed t bs fs) × ((Foot t n top cur' size) × ((o + size ≤ length cur') × (o + size ≤ length next)))))
    walk-ready f z = (
      keeps-set,
      (
        below-here f z,
        (
          v.placed,
          (
            foot,
            (
              omega (arith, size_is, v.low, end-in, end_after, v.cur-room, wrote-length w),
              omega (arith, size_is, v.low, end-in, end_after, v.next-room),
            ),
          ),
        ),
      ),
    )

    module _ {owner' cur'' : List ℕ} {height m : ℕ} (p : Peaked t bs fs n (set owner n 0) owner' stack cur'' height m (o + size)) (l : List ℕ) (c : l ≡ part 0 m cur'') where
      made-is : l ≡ take m cur''
      made-is = let x : m - 0 ≡ m = omega arith in c ∙ ap (λ (y : ℕ). take y cur'') x

      made-size : length l ≡ m
      made-size = ap length made-is ∙ length-take-le m cur'' p.sized

      pub made-room : height + length (unlines (l ∷ [])) ≤ length stack
      made-room = omega (arith, line-long l, made-size, p.room, size_is, v.low, line-within, end_after, v.stack-room)

      owner-last : get_or owner' n 0 ≡ 0
      owner-last =
          let z : n + 0 ≡ n = omega arith in
          ap (λ (x : ℕ). get_or owner' x 0) (sym z) ∙ sym (get_or-drop n owner' 0 0) ∙ ap (λ (x : List ℕ). get_or x 0 0) p.beyond ∙ get_or-drop n (set owner n 0) 0 0 ∙ ap (λ (x : ℕ). get_or (set owner n 0) x 0) z ∙ owner-set

      owner-rest : drop (suc n) owner' ≡ drop (suc n) owner
      owner-rest =
          let z : n + 1 ≡ suc n = omega arith in
          ap (λ (x : ℕ). drop x owner') (sym z) ∙ sym (lib.Seq.drop-drop 1 n owner') ∙ ap (drop 1) p.beyond ∙ lib.Seq.drop-drop 1 n (set owner n 0) ∙ ap (λ (x : ℕ). drop x (set owner n 0)) z ∙ beyond-set

      pub turn-walked : length owner' ≡ length owner → (r : Bool) → r ≡ is_call (part i e t) && (eqb (get_or fs n 0) 1 && not (is_control_line (part i e t))) → r ≡ true → {stack' : List ℕ} {x : ℕ} →
          Wrote stack height (unlines (l ∷ [])) stack' x → TurnedLine t bs fs n owner owner' stack' o x
      turn-walked s r q z {stack'} {x} y = record {
        keeps = subst (λ (rows : List Row). Keeps t (suc n) rows owner' stack' x) (sym (rows_walked t bs fs n in_lines blocks-in (tries-is r q ∙ z)))
            (push-keeps p.keeps in_lines (walk_rows t bs fs n in_lines blocks-in) (item_at t bs n) (walk_at t bs fs n).act l (walk-acts t bs fs n in_lines blocks-in) (p.line ∙ ap (λ (k : List ℕ). k ∷ []) (sym made-is)) (omega (arith, s, v.many)) owner-last y);
        beyond = owner-rest;
        room = omega (arith, y.place, line-long l, made-size, p.room, size_is, line-size);
      }

-- ---- the loop over all lines

pub record Passes (t bs fs owner₀ stack₀ cur₀ next₀ owner stack cur next : List ℕ) (i n o : ℕ) : Type 0 where
  pub placed : Placed t bs fs
  pub i≤ : i ≤ length t
  pub here : lines_of (drop i t) ≡ drop n (lines_of t)
  pub above : i < length t → take i t ≡ unlines (take n (lines_of t))
  pub low : i < length t → o ≤ i
  pub keeps : Keeps t n (rows_at t bs fs n) owner stack o
  pub n≤ : n ≤ length (lines_of t)
  pub beyond : drop n owner ≡ drop n owner₀
  pub same-owner : length owner ≡ length owner₀
  pub same-stack : length stack ≡ length stack₀
  pub same-cur : length cur ≡ length cur₀
  pub same_next : length next ≡ length next₀
  pub owner-room : length (lines_of t) ≤ length owner₀
  pub stack-room : length (unlines (lines_of t)) ≤ length stack₀
  pub cur-room : length t ≤ length cur₀
  pub next-room : length t ≤ length next₀

pub passes-start : {t bs fs owner stack cur next : List ℕ} → Placed t bs fs → length (lines_of t) ≤ length owner → length (unlines (lines_of t)) ≤ length stack → length t ≤ length cur → length t ≤ length next →
    Passes t bs fs owner stack cur next owner stack cur next 0 0 0
unfolding rows_at rows_to acts_up owners_of apply unlines
passes-start p a b c d = record {
  placed = p;
  i≤ = omega arith;
  here = refl;
  above = λ _. refl;
  low = λ _. omega arith;
  keeps = record { owners = refl; stands = refl; many = omega arith; fits = omega arith };
  n≤ = omega arith;
  beyond = refl;
  same-owner = refl;
  same-stack = refl;
  same-cur = refl;
  same_next = refl;
  owner-room = a;
  stack-room = b;
  cur-room = c;
  next-room = d;
}

-- the byte at the first b is b
at_first : (b : ℕ) (s : List ℕ) → up_to b s < length s → get_or s (up_to b s) 0 ≡ b
unfolding up_to
at_first b [] h = absurd (omega arith)
at_first b (x ∷ xs) h = go (eqb x b) refl h (λ k. at_first b xs k)
  where
    go : (c : Bool) → eqb x b ≡ c → cond c 0 (suc (up_to b xs)) < suc (length xs) → (up_to b xs < length xs → get_or xs (up_to b xs) 0 ≡ b) → get_or (x ∷ xs) (cond c 0 (suc (up_to b xs))) 0 ≡ b
    go true e k f = eqb-true x b e
    go false e k f = f (omega arith)

module _ {t bs fs owner₀ stack₀ cur₀ next₀ owner stack cur next : List ℕ} {i n o : ℕ} (v : Passes t bs fs owner₀ stack₀ cur₀ next₀ owner stack cur next i n o) where
  module _ (h : i < length t) (e : ℕ) (q : e ≡ i + up_to 10 (drop i t)) where
    some-line : n < length (lines_of t)
    some-line = let z = ap length (sym (lines-at t i e h q) ∙ v.here) in omega (arith, length-drop n (lines_of t))

    pub passes-ready : Ready t n i e bs fs owner stack o cur next
    passes-ready = record {
      keeps = v.keeps;
      spot = record { inside = h; above = v.above h; here = v.here; ends = q };
      placed = v.placed;
      many = omega (arith, some-line, v.owner-room, v.same-owner);
      low = v.low h;
      stack-room = omega (arith, v.stack-room, v.same-stack);
      cur-room = omega (arith, v.cur-room, v.same-cur);
      next-room = omega (arith, v.next-room, v.same_next);
    }

    line-ended : e < length t → take (e + 1) t ≡ unlines (take (suc n) (lines_of t))
    unfolding unlines
    line-ended k =
        let r = passes-ready in
        let z : e + 1 ≡ i + (e + 1 - i) = omega (arith, end_after r) in
        let u : up_to 10 (drop i t) < length (drop i t) = omega (arith, length-drop i t) in
        let b : get_or t e 0 ≡ 10 = ap (λ (x : ℕ). get_or t x 0) q ∙ sym (get_or-drop i t (up_to 10 (drop i t)) 0) ∙ at_first 10 (drop i t) u in
        ap (λ (x : ℕ). take x t) z ∙ take-add i (e + 1 - i) t ∙ ap (λ (x : List ℕ). x ++ part i (e + 1) t) (v.above h)
        ∙ ap (λ (x : List ℕ). unlines (take n (lines_of t)) ++ x) (part-more t i e (end_after r) k ∙ ap (λ (x : ℕ). part i e t ++ (x ∷ [])) b ∙ ap (λ (x : List ℕ). x ++ (10 ∷ [])) (line-here r))
        ∙ sym (ap unlines (take-suc (lines_of t) n [] some-line) ∙ unlines-append (take n (lines_of t)) (line_at t n ∷ []))

    pub passes_on : {owner' stack' cur' next' : List ℕ} {o' i' : ℕ} → TurnedLine t bs fs n owner owner' stack' o o' → i' ≡ min (e + 1) (length t) →
        length owner' ≡ length owner → length stack' ≡ length stack → length cur' ≡ length cur → length next' ≡ length next →
        Passes t bs fs owner₀ stack₀ cur₀ next₀ owner' stack' cur' next' i' (n + 1) o'
    passes_on {owner'} {stack'} {cur'} {next'} {o'} {i'} w z l₁ l₂ l₃ l₄ =
        let r = passes-ready in
        let s : suc n ≡ n + 1 = sym (add-one n) in
        let d : drop (suc n) owner ≡ drop (suc n) owner₀ =
        ap (λ (x : ℕ). drop x owner) s ∙ sym (lib.Seq.drop-drop 1 n owner) ∙ ap (drop 1) v.beyond ∙ lib.Seq.drop-drop 1 n owner₀ ∙ ap (λ (x : ℕ). drop x owner₀) (sym s) in
        let y : lines_of (drop i' t) ≡ drop (suc n) (lines_of t) =
        ap (λ (x : ℕ). lines_of (drop x t)) z ∙ ap (drop 1) (sym (lines-at t i e h q) ∙ v.here ∙ drop-cons (lines_of t) n [] some-line) in
        subst (λ (k : ℕ). Passes t bs fs owner₀ stack₀ cur₀ next₀ owner' stack' cur' next' i' k o') s
        record {
          placed = v.placed;
          i≤ = omega arith;
          here = y;
          above = λ k. let a : i' ≡ e + 1 = omega arith in ap (λ (x : ℕ). take x t) a ∙ line-ended (omega arith);
          low = λ k. omega (arith, w.room, v.low h, ap length (line-here r), length-take (e - i) (drop i t), length-drop i t, end_after r);
          keeps = w.keeps;
          n≤ = omega (arith, some-line);
          beyond = w.beyond ∙ d;
          same-owner = l₁ ∙ v.same-owner;
          same-stack = l₂ ∙ v.same-stack;
          same-cur = l₃ ∙ v.same-cur;
          same_next = l₄ ∙ v.same_next;
          owner-room = v.owner-room;
          stack-room = v.stack-room;
          cur-room = v.cur-room;
          next-room = v.next-room;
        }

  pub passes-end : length t ≤ i → Rebuilt t bs fs owner₀ owner stack o
  unfolding rebuild_calls rebuild_calls_acts
  passes-end h =
      let z : length (drop n (lines_of t)) ≡ 0 = ap length (sym v.here ∙ lines_end t i h) in
      let m : n ≡ length (lines_of t) = omega (arith, length-drop n (lines_of t), v.n≤) in
      let r : acts_up (rows_at t bs fs n) [] ≡ rebuild_calls_acts (tabled bs fs) (lines_of t) = ap (λ (x : ℕ). acts_up (rows_at t bs fs x) []) m ∙ ap (λ (x : List Row). acts_up x []) (rows_end t bs fs) in
      let xs : List ℕ = owners_of (rebuild_calls_acts (tabled bs fs) (lines_of t)) in
      let s : length xs ≡ n = ap (λ (x : List Act). length (owners_of x)) (sym r) ∙ owners-rows (rows_at t bs fs n) ∙ many-at t bs fs n v.n≤ in
      record {
        owners = record {
          place = sym (s ∙ m);
          holds = sym (take-append-drop n owner) ∙ ap (λ (x : List ℕ). x ++ drop n owner) (v.keeps.owners ∙ ap owners_of r) ∙ ap (λ (x : List ℕ). xs ++ x) (v.beyond ∙ ap (λ (k : ℕ). drop k owner₀) (sym s));
        };
        lines = v.keeps.stands ∙ ap (λ (x : List Act). unlines (apply x (take n (lines_of t)))) r ∙ ap (λ (x : List (List ℕ)). unlines (apply (rebuild_calls_acts (tabled bs fs) (lines_of t)) x)) (take_all n (lines_of t) (omega arith));
        fits = v.keeps.fits;
      }
