-- The loop that walks up from a line: one law for each way round and each way out. Assumes nothing.
use Prim.Native.Nat.{ℕ, zero, suc, ◌+◌, ◌-◌, ◌*◌, ◌≤◌, ◌<◌}
use mathlib.Core.Path.{◌≡◌, refl, sym, ap, ◌∙◌, subst}
use mathlib.Core.Bool.{Bool, true, false, cond, not, ◌&&◌, ◌||◌}
use mathlib.Core.List.{List, [], ◌∷◌, ◌++◌, append_assoc, append-nil}
use native.Mathlib.Omega.{arith}
use borrow.Author.Tests.{ltb-true, ltb-false}
use lib.Dec.{eqb, ltb}
use lib.ListN.{length, take, drop, get_or, set, length-set, length-drop}
use lib.Seq.{take-add, get_or-take, get_or-drop, get_or-append-add, take-set-le, drop-set-lt, length-take-le}
use Rattle.lines.specs.Lf.{part, lines_of, unlines}
use Rattle.lines.specs.Inner.Lf.{line_start, no_lf}
use Rattle.lines.specs.Acts.{Act, into, act, apply}
use Rattle.lines.specs.Inner.Out.{Wrote}
use Rattle.lines.proofs.LfLaws.{part_none, rest_of, lines-unlines}
use Rattle.lines.proofs.OutLaws.{wrote-part, wrote-length}
use Rattle.lines.proofs.Tests.{no, and_left, and_right, and_both}
use Rattle.parse.specs.declared.Store.{Store}
use Rattle.parse.specs.declared.Line.TheVariants as line
use Rattle.parse.specs.Parse.{parse_of}
use Rattle.place.specs.Region.{is_header}
use Rattle.reading.specs.Reading.{plain}
use Rattle.std.specs.declared.option.Option.{Option}
use Rattle.std.specs.declared.option.Option.TheVariants.{Some, None}
use Rattle.calls.specs.Leaves.{Parsed, store, other}
use Rattle.calls.specs.LeavesOf.{parsed_by, parsed_of}
use Rattle.calls.specs.Calls.{Row, Walked, Step, end, skip, absorb, row_lines, climb, made, has, acts_up, read_later, storeStep, stepAt, walk}
use Rattle.calls.specs.Inner.Steps.{absorb_step, PutAs, ends, puts}
use Rattle.calls.specs.Inner.Later.{Noted, Spans}
use Rattle.calls.specs.Inner.Tables.{owner_of, owners_of, tabled, rows_at, walk_at, line_at, Keeps, Stands, Placed, Foot, Peaked}
use Rattle.calls.proofs.Edges.{standing, given, given-length, apply-standing, walk-given, Passed, onto, owner_back, by-table, stands, WalkInv, edge-start, edge-skip, edge-absorb, edge-end, edge-top, edge-spent}
use Rattle.calls.proofs.Owners.{owned}
use Rattle.calls.proofs.Room.{valued, put_is, value-length, put-length}
use Rattle.calls.proofs.Stacks.{LastLine, last_line, part_join, part-cons, part-set, snoc-front, snoc-last, owners-snoc, owners-rows, owner-back, lines-many}
use Rattle.calls.proofs.StepLaws.{front-is}
use Rattle.calls.proofs.Told.{step-absorbs, GoodAct, Upright, upright, went, RowTold, Told, walk_is, given-at, owned_at, many-at, told_at}
use Rattle.calls.proofs.WalkLaws.{owners_in, row-stands, store-absorb, passed_length}

-- ---- what a step in a lent buffer was, by what it gave back

pub record PutLine (s : Step) (d' : List ℕ) (n : ℕ) : Type 0 where
  pub next : List ℕ
  pub before : List ℕ
  pub step : s ≡ absorb next
  pub wrote : Wrote before 0 next d' n

never-line : {A : Type 0} {n : ℕ} → None ≡ Some n → A
never-line h = let z : ◌≡◌ {A = ℕ} 0 1 = cc in absurd (omega arith)

never-nothing : {A : Type 0} {n : ℕ} → Some n ≡ None → A
never-nothing h = let z : ◌≡◌ {A = ℕ} 0 1 = cc in absurd (omega arith)

pub put-line : {d d' : List ℕ} {s : Step} {r : Option ℕ} {n : ℕ} → PutAs d s d' r → r ≡ Some n → PutLine s d' n
put-line (ends l) q = never-line q
put-line {d' = d'} {n = n} (puts {next = next} {d₁ = d₁} {n = k} l w) q = let z : k ≡ n = cc in record { next = next; before = d₁; step = refl; wrote = subst (Wrote d₁ 0 next d') z w }

pub put-end : {d d' : List ℕ} {s : Step} {r : Option ℕ} → PutAs d s d' r → r ≡ None → s ≡ end
put-end (ends l) q = refl
put-end (puts l w) q = never-nothing q

-- the buffer keeps its length
pub put-out : {d d' : List ℕ} {s : Step} {r : Option ℕ} → PutAs d s d' r → length d' ≡ length d
put-out (ends l) = l
put-out (puts l w) = wrote-length w ∙ l

-- ---- the state of a walk, with the rows that it stands for

pub record ClimbAt (t : List ℕ) (n i f : ℕ) (bs fs owner₀ stack : List ℕ) (m : ℕ) (owner cur : List ℕ) (k p h c : ℕ) (over : Bool) (steps : ℕ)
    (left : ℕ) (rest back : List Row) (d : ℕ) (took : List ℕ) (lines : List (List ℕ)) (text : List ℕ) : Type 0 where
  pub walks : WalkInv (tabled bs fs) (get_or bs n 0) (λ v. read_later (tabled bs fs) v (lines_of (drop f t))) (walk_at t bs fs n) left rest back d over text took lines
  pub last : left + steps ≡ 64
  pub up : d + k ≡ suc n
  pub told : Told bs fs rest
  pub own : owned d rest
  pub many : length rest ≡ k
  pub above : take p t ≡ unlines (given rest)
  pub p≤ : p ≤ i
  pub between : part p i t ≡ unlines (row_lines back)
  pub clear : no_lf (row_lines back) ≡ true
  pub owners : take k owner ≡ owners_of (acts_up rest [])
  pub behind : part k n owner ≡ owners_in back
  pub beyond : drop n owner ≡ drop n owner₀
  pub upper : take h stack ≡ unlines (standing rest)
  pub h≤ : h ≤ length stack
  pub is : take c cur ≡ text
  pub sized : c ≡ length text
  pub line : act (made took text) (line_at t n) ≡ text ∷ []
  pub room : h + c ≤ m

-- what does not change on the way
pub record Ground (t : List ℕ) (n i : ℕ) (bs fs owner₀ : List ℕ) (m : ℕ) (cur₀ next₀ : List ℕ) : Type 0 where
  pub i≤ : i ≤ length t
  pub given_is : given (walk_at t bs fs n).rows ≡ take n (lines_of t)
  pub n-owner : n ≤ length owner₀
  pub n-blocks : n < length bs
  pub n-starts : n < length fs
  pub m-cur : m ≤ length cur₀
  pub m-next : m ≤ length next₀

pub record Climb (t : List ℕ) (n i f : ℕ) (bs fs owner₀ stack : List ℕ) (m : ℕ) (cur₀ next₀ owner cur next : List ℕ) (k p h c : ℕ) (over : Bool) (steps : ℕ) : Type 0 where
  pub ground : Ground t n i bs fs owner₀ m cur₀ next₀
  pub same-owner : length owner ≡ length owner₀
  pub same-cur : length cur ≡ length cur₀
  pub same_next : length next ≡ length next₀
  pub left : ℕ
  pub rest : List Row
  pub back : List Row
  pub d : ℕ
  pub took : List ℕ
  pub lines : List (List ℕ)
  pub text : List ℕ
  pub at : ClimbAt t n i f bs fs owner₀ stack m owner cur k p h c over steps left rest back d took lines text

-- in a turn: a step is left, and a row
pub record Turning (t : List ℕ) (n i f : ℕ) (bs fs owner₀ stack : List ℕ) (m : ℕ) (cur₀ next₀ owner cur next : List ℕ) (k p h c : ℕ) (over : Bool) (steps : ℕ) : Type 0 where
  pub ground : Ground t n i bs fs owner₀ m cur₀ next₀
  pub same-owner : length owner ≡ length owner₀
  pub same-cur : length cur ≡ length cur₀
  pub same_next : length next ≡ length next₀
  pub left : ℕ
  pub row : Row
  pub rest : List Row
  pub back : List Row
  pub d : ℕ
  pub took : List ℕ
  pub lines : List (List ℕ)
  pub text : List ℕ
  pub at : ClimbAt t n i f bs fs owner₀ stack m owner cur k p h c over steps (suc left) (row ∷ rest) back d took lines text

-- ---- at the foot

pub climb-start : {t : List ℕ} {n i f : ℕ} {bs fs owner stack : List ℕ} {o size : ℕ} {cur next : List ℕ} {over : Bool} →
    Keeps t n (rows_at t bs fs n) owner stack o → Stands t n i f → Placed t bs fs → Foot t n over cur size →
    o + size ≤ length cur → o + size ≤ length next →
    Climb t n i f bs fs owner stack (o + size) cur next owner cur next n i o size over 0
unfolding climb unlines row_lines no_lf owners_in act made
climb-start {t} {n} {i} {f} {bs} {fs} {owner} {stack} {o} {size} {cur} {next} {over} e s p q a b =
    let w : walk_at t bs fs n ≡ walk (tabled bs fs) (get_or bs n 0) (λ v. read_later (tabled bs fs) v (lines_of (drop f t))) climb (rows_at t bs fs n) 1 over (line_at t n) [] [] =
    walk_is t bs fs n s.within (omega (arith, p.blocks-many, s.within))
    ∙ ap (λ (x : List (List ℕ)). walk (tabled bs fs) (get_or bs n 0) (λ v. read_later (tabled bs fs) v x) climb (rows_at t bs fs n) 1 (is_header (line_at t n)) (line_at t n) [] []) (sym s.below)
    ∙ ap (λ (x : Bool). walk (tabled bs fs) (get_or bs n 0) (λ v. read_later (tabled bs fs) v (lines_of (drop f t))) climb (rows_at t bs fs n) 1 x (line_at t n) [] []) (sym q.header) in
    let g : given (walk_at t bs fs n).rows ≡ take n (lines_of t) =
    ap (λ (x : Walked). given x.rows) w ∙ walk-given (tabled bs fs) (get_or bs n 0) (λ v. read_later (tabled bs fs) v (lines_of (drop f t))) climb (rows_at t bs fs n) 1 over (line_at t n) [] [] ∙ given-at t bs fs n in
    let st : apply (acts_up (rows_at t bs fs n) []) (take n (lines_of t)) ≡ standing (rows_at t bs fs n) =
    ap (apply (acts_up (rows_at t bs fs n) [])) (sym (given-at t bs fs n)) ∙ apply-standing (rows_at t bs fs n) in
    let z : n ≤ length (lines_of t) = omega (arith, s.within) in
    record {
      ground = record {
        i≤ = s.from;
        given_is = g;
        n-owner = e.many;
        n-blocks = omega (arith, p.blocks-many, s.within);
        n-starts = omega (arith, p.starts-many, s.within);
        m-cur = a;
        m-next = b;
      };
      same-owner = refl;
      same-cur = refl;
      same_next = refl;
      left = climb;
      rest = rows_at t bs fs n;
      back = [];
      d = 1;
      took = [];
      lines = [];
      text = line_at t n;
      at = record {
        walks = subst (λ (x : Walked). WalkInv (tabled bs fs) (get_or bs n 0) (λ v. read_later (tabled bs fs) v (lines_of (drop f t))) x climb (rows_at t bs fs n) [] 1 over (line_at t n) [] []) (sym w) (edge-start (tabled bs fs) (get_or bs n 0) (λ v. read_later (tabled bs fs) v (lines_of (drop f t))) (rows_at t bs fs n) over (line_at t n));
        last = omega arith;
        up = omega arith;
        told = told_at p n z;
        own = owned_at t bs fs n;
        many = many-at t bs fs n z;
        above = s.above ∙ ap unlines (sym (given-at t bs fs n));
        p≤ = omega arith;
        between = part_none t i;
        clear = refl;
        owners = e.owners;
        behind = part_none owner n;
        beyond = refl;
        upper = e.stands ∙ ap unlines st;
        h≤ = e.fits;
        is = q.line;
        sized = q.sized;
        line = refl;
        room = omega arith;
      };
    }

-- ---- at the end

owners-onto : (back rest : List Row) → owners_of (acts_up (onto back rest) []) ≡ owners_of (acts_up rest []) ++ owners_in back
unfolding onto owners_in
owners-onto [] rest = sym (append-nil (owners_of (acts_up rest [])))
owners-onto (r ∷ back) rest =
    owners-onto back (r ∷ rest)
    ∙ ap (λ (x : List ℕ). x ++ owners_in back) (owners-snoc r rest)
    ∙ append_assoc (owners_of (acts_up rest [])) (owner_of r.act ∷ []) (owners_in back)

module _ {t : List ℕ} {n i f : ℕ} {bs fs owner₀ stack : List ℕ} {m : ℕ} {cur₀ next₀ owner cur : List ℕ} {k p h c : ℕ} {over : Bool} {steps left : ℕ} {rest back : List Row} {d : ℕ} {took : List ℕ}
    {lines : List (List ℕ)} {text : List ℕ} (g : Ground t n i bs fs owner₀ m cur₀ next₀) (s : length owner ≡ length owner₀) (u : length cur ≡ length cur₀)
    (a : ClimbAt t n i f bs fs owner₀ stack m owner cur k p h c over steps left rest back d took lines text) where
  peak : walk_at t bs fs n ≡ record { act = made took text; rows = onto back rest } → Peaked t bs fs n owner₀ owner stack cur h c m
  peak e =
      let rows : List Row = (walk_at t bs fs n).rows in
      let r : rows ≡ onto back rest = ap (λ (x : Walked). x.rows) e in
      let z : n ≡ k + (n - k) = omega (arith, a.up, passed-d) in
      record {
        keeps = record {
          owners = ap (λ (x : ℕ). take x owner) z ∙ take-add k (n - k) owner ∙ ap (λ (x : List ℕ). x ++ part k n owner) a.owners ∙ ap (λ (x : List ℕ). owners_of (acts_up rest []) ++ x) a.behind
              ∙ sym (owners-onto back rest) ∙ ap (λ (x : List Row). owners_of (acts_up x [])) (sym r);
          stands = a.upper ∙ ap unlines (sym (stands a.walks.past rest) ∙ ap standing (sym r) ∙ sym (apply-standing rows) ∙ ap (apply (acts_up rows [])) g.given_is);
          many = omega (arith, g.n-owner);
          fits = a.h≤;
        };
        beyond = a.beyond;
        line = ap (λ (x : Walked). act x.act (line_at t n)) e ∙ a.line ∙ ap (λ (x : List ℕ). x ∷ []) (sym a.is);
        room = a.room;
        sized = omega (arith, a.room, g.m-cur);
      }
    where
      low : {done : List Row} {d : ℕ} {took : List ℕ} {lines : List (List ℕ)} → Passed done d took lines → 1 ≤ d
      low x = omega (arith, passed_length x)

      passed-d : 1 ≤ d
      passed-d = low a.walks.past

module _ {t : List ℕ} {n i f : ℕ} {bs fs owner₀ stack : List ℕ} {m : ℕ} {cur₀ next₀ owner cur next : List ℕ} {k p h c : ℕ} {over : Bool} {steps : ℕ}
    (v : Climb t n i f bs fs owner₀ stack m cur₀ next₀ owner cur next k p h c over steps) where
  -- no step is left
  climb-spent : 64 ≤ steps → Peaked t bs fs n owner₀ owner stack cur h c m
  climb-spent z = go v.left v.at
    where
      go : (left : ℕ) → ClimbAt t n i f bs fs owner₀ stack m owner cur k p h c over steps left v.rest v.back v.d v.took v.lines v.text → Peaked t bs fs n owner₀ owner stack cur h c m
      go zero a = peak v.ground v.same-owner v.same-cur a (edge-spent a.walks)
      go (suc left) a = absurd (omega (arith, a.last))

  -- no row is left
  climb-top : steps < 64 → k ≡ 0 → Peaked t bs fs n owner₀ owner stack cur h c m
  climb-top z e = go v.left v.rest v.at
    where
      go : (left : ℕ) (rest : List Row) → ClimbAt t n i f bs fs owner₀ stack m owner cur k p h c over steps left rest v.back v.d v.took v.lines v.text → Peaked t bs fs n owner₀ owner stack cur h c m
      go zero rest a = absurd (omega (arith, a.last))
      go (suc left) [] a = peak v.ground v.same-owner v.same-cur a (edge-top a.walks)
      go (suc left) (r ∷ rs) a = absurd (omega (arith, a.many))

  climb-turn : steps < 64 → (k ≡ 0 → ⊥) → Turning t n i f bs fs owner₀ stack m cur₀ next₀ owner cur next k p h c over steps
  climb-turn z e = go v.left v.rest v.at
    where
      go : (left : ℕ) (rest : List Row) → ClimbAt t n i f bs fs owner₀ stack m owner cur k p h c over steps left rest v.back v.d v.took v.lines v.text →
          Turning t n i f bs fs owner₀ stack m cur₀ next₀ owner cur next k p h c over steps
      go zero rest a = absurd (omega (arith, a.last))
      go (suc left) [] a = absurd (e (sym a.many))
      go (suc left) (r ∷ rs) a =
          record {
            ground = v.ground;
            same-owner = v.same-owner;
            same-cur = v.same-cur;
            same_next = v.same_next;
            left = left;
            row = r;
            rest = rs;
            back = v.back;
            d = v.d;
            took = v.took;
            lines = v.lines;
            text = v.text;
            at = a;
          }

module _ {t : List ℕ} {n i f : ℕ} {bs fs owner₀ stack : List ℕ} {m : ℕ} {cur₀ next₀ owner cur next : List ℕ} {k p h c : ℕ} {over : Bool} {steps : ℕ}
    (v : Climb t n i f bs fs owner₀ stack m cur₀ next₀ owner cur next k p h c over steps) where
  -- the loop's test, either way
  pub climb-in : ltb 0 k && ltb steps 64 ≡ true → Turning t n i f bs fs owner₀ stack m cur₀ next₀ owner cur next k p h c over steps
  climb-in e = climb-turn v (ltb-true steps 64 (and_right (ltb 0 k) (ltb steps 64) e)) (λ z. omega (arith, ltb-true 0 k (and_left (ltb 0 k) (ltb steps 64) e)))

  pub climb-out : ltb 0 k && ltb steps 64 ≡ false → Peaked t bs fs n owner₀ owner stack cur h c m
  climb-out e = go (ltb 0 k) refl (ltb steps 64) refl e
    where
      go : (x : Bool) → ltb 0 k ≡ x → (y : Bool) → ltb steps 64 ≡ y → x && y ≡ false → Peaked t bs fs n owner₀ owner stack cur h c m
      go x a false b z = climb-spent v (ltb-false steps 64 b)
      go false a true b z = climb-top v (ltb-true steps 64 b) (let w = ltb-false 0 k a in omega arith)
      go true a true b z = no (sym z)

-- ---- in a turn

module _ {t : List ℕ} {n i f : ℕ} {bs fs owner₀ stack : List ℕ} {m : ℕ} {cur₀ next₀ owner cur next : List ℕ} {k p h c : ℕ} {over : Bool} {steps : ℕ}
    (v : Turning t n i f bs fs owner₀ stack m cur₀ next₀ owner cur next k p h c over steps) where
  told_here : RowTold bs fs v.row.item (row_lines v.rest)
  unfolding Told
  told_here = v.at.told.0

  good-here : GoodAct v.row.act
  unfolding Told
  good-here = v.at.told.1.0

  one_less : k ≡ suc (k - 1)
  one_less = omega (arith, v.at.many)

  pub row-some : 1 ≤ k
  row-some = omega (arith, one_less)

  pub step-some : steps < 64
  step-some = omega (arith, v.at.last)

  index : length (row_lines v.rest) ≡ k - 1
  index = lines-many v.rest ∙ omega (arith, v.at.many)

  up-here : 1 ≤ v.d
  up-here = omega (arith, passed_length v.at.walks.past)

  pub turn_in : k ≤ n
  turn_in = omega (arith, v.at.up, up-here)

  pub owner-in : k - 1 < length owner
  owner-in = omega (arith, one_less, turn_in, v.same-owner, v.ground.n-owner)

  pub blocks-in : (k - 1 < length bs) × ((n < length bs) × (k - 1 < length fs))
  blocks-in = (omega (arith, told_here.b<, index), (v.ground.n-blocks, omega (arith, told_here.f<, index)))

  -- the line above in the text
  text-line : (q : ℕ) → q ≡ line_start t (p - 1) → LastLine t p (given v.rest) v.row.item.line q
  unfolding given
  text-line q z = last_line t p (given v.rest) v.row.item.line (omega (arith, v.at.p≤, v.ground.i≤)) v.at.above told_here.clear q z

  pub text-some : 1 ≤ p
  text-some = let w = text-line (line_start t (p - 1)) refl in omega (arith, w.whole)

  owners-here : take (suc (k - 1)) owner ≡ owners_of (acts_up v.rest []) ++ (owner_of v.row.act ∷ [])
  owners-here = ap (λ (x : ℕ). take x owner) (sym one_less) ∙ v.at.owners ∙ owners-snoc v.row v.rest

  owners-size : length (owners_of (acts_up v.rest [])) ≡ k - 1
  owners-size = owners-rows v.rest ∙ omega (arith, v.at.many)

  owner_here : get_or owner (k - 1) 0 ≡ owner_of v.row.act
  owner_here = snoc-last owner (owners_of (acts_up v.rest [])) (owner_of v.row.act) 0 (k - 1) owner-in owners-here owners-size

  owners-above : take (k - 1) owner ≡ owners_of (acts_up v.rest [])
  owners-above = snoc-front owner (owners_of (acts_up v.rest [])) (owner_of v.row.act) 0 (k - 1) owner-in owners-here owners-size

  own-here : owner_of v.row.act < v.d
  unfolding owned
  own-here = v.at.own.0

  own-above : owned (suc v.d) v.rest
  unfolding owned
  own-above = v.at.own.1

  told-above : Told bs fs v.rest
  unfolding Told
  told-above = v.at.told.1.1

  -- the lines passed, with this one
  module _ (q : ℕ) (z : q ≡ line_start t (p - 1)) where
    pub between-on : part q i t ≡ unlines (v.row.item.line ∷ row_lines v.back)
    unfolding unlines
    between-on =
        let w = text-line q z in
        part_join t q p i (omega (arith, w.whole)) v.at.p≤
        ∙ ap (λ (x : List ℕ). x ++ part p i t) w.ended
        ∙ ap (λ (x : List ℕ). (v.row.item.line ++ 10 ∷ []) ++ x) v.at.between
        ∙ append_assoc v.row.item.line (10 ∷ []) (unlines (row_lines v.back))

    clear-on : no_lf (v.row.item.line ∷ row_lines v.back) ≡ true
    unfolding no_lf
    clear-on = and_both told_here.clear v.at.clear

    over-on : (x : List ℕ) → x ≡ part q (p - 1) t → (r : Bool) → r ≡ is_header x → (over || r) ≡ (over || is_header v.row.item.line)
    over-on x e r y = ap (λ (b : Bool). over || b) (y ∙ ap is_header (e ∙ (text-line q z).line))

  -- ---- a row that was dropped

  module _ (g : get_or owner (k - 1) 0 ≡ 0 → ⊥) where
    to : ℕ
    to = get_or owner (k - 1) 0 - 1

    to_is : get_or owner (k - 1) 0 ≡ suc to
    unfolding to
    to_is = let z : 1 ≤ get_or owner (k - 1) 0 = some (get_or owner (k - 1) 0) g in omega arith
      where
        some : (x : ℕ) → (x ≡ 0 → ⊥) → 1 ≤ x
        some zero f = absurd (f refl)
        some (suc x) f = omega arith

    went-here : v.row.act ≡ into (suc to)
    went-here = went v.row.act to (sym owner_here ∙ to_is)

    pub ours-room : (k - 1 + get_or owner (k - 1) 0 < n) × (n ≤ length owner)
    ours-room = (omega (arith, own-here, owner_here, v.at.up, one_less), omega (arith, v.same-owner, v.ground.n-owner))

    ours-is : (r : Bool) → r ≡ eqb (get_or owner (k - 1 + get_or owner (k - 1) 0) 0) (n - (k - 1 + get_or owner (k - 1) 0)) → has (v.d - suc to) v.took ≡ r
    ours-is r e =
        let l : suc to < v.d = omega (arith, own-here, owner_here, to_is) in
        let a : to < n - k = omega (arith, v.at.up) in
        let b : k - 1 + get_or owner (k - 1) 0 ≡ k + to = omega (arith, to_is, one_less) in
        let y : owner_back v.back to ≡ get_or owner (k - 1 + get_or owner (k - 1) 0) 0 =
        owner-back v.back to ∙ ap (λ (x : List ℕ). get_or x to 0) (sym v.at.behind) ∙ get_or-take (n - k) (drop k owner) to 0 a ∙ get_or-drop k owner to 0 ∙ ap (λ (x : ℕ). get_or owner x 0) (sym b) in
        let w : v.d - suc to ≡ n - (k - 1 + get_or owner (k - 1) 0) = omega (arith, v.at.up) in
        by-table v.at.walks.past to l ∙ ap (λ (x : ℕ). eqb x (v.d - suc to)) y ∙ ap (eqb (get_or owner (k - 1 + get_or owner (k - 1) 0) 0)) w ∙ sym e

    -- its owner is not this walk's
    pub drop-end : (r : Bool) → r ≡ eqb (get_or owner (k - 1 + get_or owner (k - 1) 0) 0) (n - (k - 1 + get_or owner (k - 1) 0)) → r ≡ false → Peaked t bs fs n owner₀ owner stack cur h c m
    unfolding stepAt
    drop-end r e y =
        peak v.ground v.same-owner v.same-cur v.at
        (edge-end v.at.walks
        (ap (λ (x : Act). stepAt (tabled bs fs) (get_or bs n 0) (λ u. read_later (tabled bs fs) u (lines_of (drop f t))) x v.row.item v.d over v.text v.took v.lines (row_lines v.rest)) went-here
        ∙ ap (λ (x : Bool). cond x skip end) (ours-is r e ∙ y)))

    -- it is
    pub drop-on : (q : ℕ) (z : q ≡ line_start t (p - 1)) (r : Bool) → r ≡ eqb (get_or owner (k - 1 + get_or owner (k - 1) 0) 0) (n - (k - 1 + get_or owner (k - 1) 0)) → r ≡ true →
        (x : List ℕ) → x ≡ part q (p - 1) t → (y : Bool) → y ≡ is_header x →
        Climb t n i f bs fs owner₀ stack m cur₀ next₀ owner cur next (k - 1) q h c (over || y) (steps + 1)
    unfolding row_lines owners_in standing act
    drop-on q z r e y x a b s =
        let w = text-line q z in
        record {
          ground = v.ground;
          same-owner = v.same-owner;
          same-cur = v.same-cur;
          same_next = v.same_next;
          left = v.left;
          rest = v.rest;
          back = v.row ∷ v.back;
          d = suc v.d;
          took = v.took;
          lines = v.lines;
          text = v.text;
          at = record {
            walks = subst (λ (o : Bool). WalkInv (tabled bs fs) (get_or bs n 0) (λ u. read_later (tabled bs fs) u (lines_of (drop f t))) (walk_at t bs fs n) v.left v.rest (v.row ∷ v.back) (suc v.d) o v.text v.took v.lines) (sym (over-on q z x a b s)) (edge-skip v.at.walks (suc to) went-here (ours-is r e ∙ y));
            last = omega (arith, v.at.last);
            up = omega (arith, v.at.up, one_less);
            told = told-above;
            own = own-above;
            many = omega (arith, v.at.many);
            above = w.upper;
            p≤ = omega (arith, w.whole, v.at.p≤);
            between = between-on q z;
            clear = clear-on q z;
            owners = owners-above;
            behind = part-cons owner (k - 1) n (omega (arith, turn_in, one_less)) owner-in
                ∙ ap (λ (j : ℕ). get_or owner (k - 1) 0 ∷ part j n owner) (sym one_less)
                ∙ ap (λ (j : ℕ). j ∷ part k n owner) owner_here ∙ ap (λ (l : List ℕ). owner_of v.row.act ∷ l) v.at.behind;
            beyond = v.at.beyond;
            upper = v.at.upper ∙ ap (λ (x : Act). unlines (standing v.rest ++ act x v.row.item.line)) went-here ∙ ap unlines (append-nil (standing v.rest));
            h≤ = v.at.h≤;
            is = v.at.is;
            sized = v.at.sized;
            line = v.at.line;
            room = v.at.room;
          };
        }

  -- ---- a row that stands

  module _ (g : get_or owner (k - 1) 0 ≡ 0) where
    up-row : Upright v.row.act v.row.item.line
    up-row = upright v.row.act v.row.item.line good-here told_here.clear (sym owner_here ∙ g)

    stack-line : (b : ℕ) → b ≡ line_start stack (h - 1) → LastLine stack h (standing v.rest) up-row.text b
    unfolding standing
    stack-line b z =
        last_line stack h (standing v.rest) up-row.text v.at.h≤ (v.at.upper ∙ ap (λ (x : List (List ℕ)). unlines (standing v.rest ++ x)) up-row.is) up-row.clear b z

    pub stack_some : 1 ≤ h
    stack_some = let w = stack-line (line_start stack (h - 1)) refl in omega (arith, w.whole)

    -- the step that the definition takes here
    abbrev step-here : Step
    step-here = stepAt (tabled bs fs) (get_or bs n 0) (λ u. read_later (tabled bs fs) u (lines_of (drop f t))) v.row.act v.row.item v.d over v.text v.took v.lines (row_lines v.rest)

    store-here : step-here ≡ storeStep (tabled bs fs) (get_or bs n 0) (λ u. read_later (tabled bs fs) u (lines_of (drop f t))) (parsed_of up-row.text) over v.text v.lines v.row.item.block (row_lines v.rest)
    store-here = row-stands (tabled bs fs) (get_or bs n 0) (λ u. read_later (tabled bs fs) u (lines_of (drop f t))) v.row.act v.row.item up-row.text v.d over v.text v.took v.lines (row_lines v.rest) up-row.is

    step_end : step-here ≡ end → Peaked t bs fs n owner₀ owner stack cur h c m
    step_end e = peak v.ground v.same-owner v.same-cur v.at (edge-end v.at.walks e)

    module _ (b : ℕ) (z : b ≡ line_start stack (h - 1)) (w : List ℕ) (e : w ≡ part b (h - 1) stack) where
      text-here : w ≡ up-row.text
      text-here = e ∙ (stack-line b z).line

      -- it is no store
      pub other-end : parsed_by w (parse_of w) ≡ other → Peaked t bs fs n owner₀ owner stack cur h c m
      unfolding storeStep parsed_of
      other-end y =
          step_end (store-here ∙ ap (λ (x : Parsed). storeStep (tabled bs fs) (get_or bs n 0) (λ u. read_later (tabled bs fs) u (lines_of (drop f t))) x over v.text v.lines v.row.item.block (row_lines v.rest))
          (ap parsed_of (sym text-here) ∙ y))

      -- it is one
      module _ (s : Store) (y : parse_of w ≡ line.Store s) (val : List ℕ) (u : val ≡ part s.from s.to w) where
        parsed-here : parsed_of up-row.text ≡ store s.reg.0 val
        unfolding parsed_of
        parsed-here = ap parsed_of (sym text-here) ∙ ap (parsed_by w) y ∙ ap (store s.reg.0) (sym u)

        absorb-here : step-here
            ≡ cond (not over && (eqb v.row.item.block (get_or bs n 0) && (tabled bs fs).starts (row_lines v.rest))) (absorb_step plain v.text s.reg.0 val (lines_of (drop f t)) (row_lines v.back) (owners_in v.back)) end
        absorb-here = store-here ∙ store-absorb (tabled bs fs).starts (tabled bs fs).blocks (get_or bs n 0) (lines_of (drop f t)) v.at.walks.past up-row.text s.reg.0 val parsed-here over v.text v.row.item.block (row_lines v.rest)

        module _ (may : Bool) (j : may ≡ not over && (eqb (get_or bs (k - 1) 0) (get_or bs n 0) && eqb (get_or fs (k - 1) 0) 1)) where
          may-is : may ≡ not over && (eqb v.row.item.block (get_or bs n 0) && (tabled bs fs).starts (row_lines v.rest))
          may-is =
              j
              ∙ ap (λ (x : ℕ). not over && (eqb x (get_or bs n 0) && eqb (get_or fs (k - 1) 0) 1)) (ap (λ (x : ℕ). get_or bs x 0) (sym index) ∙ told_here.block)
              ∙ ap (λ (x : Bool). not over && (eqb v.row.item.block (get_or bs n 0) && x)) (ap (λ (x : ℕ). eqb (get_or fs x 0) 1) (sym index))

          -- region, block or start of statement do not let it go
          pub may-end : may ≡ false → Peaked t bs fs n owner₀ owner stack cur h c m
          may-end q = step_end (absorb-here ∙ ap (λ (x : Bool). cond x (absorb_step plain v.text s.reg.0 val (lines_of (drop f t)) (row_lines v.back) (owners_in v.back)) end) (sym may-is ∙ q))

          module _ (q : may ≡ true) (cc₀ ll bb : List ℕ) (e₁ : cc₀ ≡ part 0 c cur) (e₂ : ll ≡ part f (length t) t) (e₃ : bb ≡ part p i t) where
            cur-is : cc₀ ≡ v.text
            cur-is = let x : c - 0 ≡ c = omega arith in e₁ ∙ ap (λ (j : ℕ). take j cur) x ∙ v.at.is

            -- the step as the code takes it
            abbrev step-code : Step
            step-code = absorb_step plain cc₀ s.reg.0 val (lines_of ll) (lines_of bb) (part k n owner)

            step_is : step-here ≡ step-code
            step_is =
                absorb-here
                ∙ ap (λ (x : Bool). cond x (absorb_step plain v.text s.reg.0 val (lines_of (drop f t)) (row_lines v.back) (owners_in v.back)) end) (sym may-is ∙ q)
                ∙ ap (λ (x : List ℕ). absorb_step plain x s.reg.0 val (lines_of (drop f t)) (row_lines v.back) (owners_in v.back)) (sym cur-is)
                ∙ ap (λ (x : List ℕ). absorb_step plain cc₀ s.reg.0 val (lines_of x) (row_lines v.back) (owners_in v.back)) (sym (e₂ ∙ rest_of t f))
                ∙ ap (λ (x : List (List ℕ)). absorb_step plain cc₀ s.reg.0 val (lines_of ll) x (owners_in v.back)) (sym (ap lines_of (e₃ ∙ v.at.between) ∙ lines-unlines (row_lines v.back) v.at.clear))
                ∙ ap (absorb_step plain cc₀ s.reg.0 val (lines_of ll) (lines_of bb)) (sym v.at.behind)

            value-less : length val + 1 ≤ length up-row.text
            value-less = value-length up-row.text s.reg.0 val (valued up-row.text s.reg.0 val parsed-here)

            pub absorb-room : length cc₀ + length val + 2 ≤ length next
            absorb-room = let a = (stack-line b z).whole in omega (arith, value-less, v.at.room, v.ground.m-next, v.same_next, ap length cur-is, v.at.sized)

            module _ {next' : List ℕ} {r : Option ℕ} (o : PutAs next step-code next' r) where
              -- it could not be put in
              pub none_end : r ≡ None → Peaked t bs fs n owner₀ owner stack cur h c m
              none_end x = step_end (step_is ∙ put-end o x)

              module _ {size : ℕ} (x : r ≡ Some size) (new : List ℕ) (e₄ : new ≡ part 0 size next') where
                out : PutLine step-code next' size
                out = put-line o x

                new_is : new ≡ out.next
                new_is = front-is out.wrote e₄

                step-new : step-here ≡ absorb out.next
                step-new = step_is ∙ out.step

                -- the line that was made is no longer than it and what went
                new-less : length new ≤ c + length up-row.text + 1
                new-less =
                    let a = step-absorbs (tabled bs fs) (get_or bs n 0) (λ u. read_later (tabled bs fs) u (lines_of (drop f t))) v.row.act v.row.item v.d over v.text v.took v.lines (row_lines v.rest) out.next step-new in
                    let y : length a.t ≡ length up-row.text = ap (λ (l : List (List ℕ)). length (get_or l 0 [])) (sym a.stands ∙ up-row.is) in
                    omega (arith, put-length v.text a.t a.reg a.value out.next (valued a.t a.reg a.value a.parses) (put_is (tabled bs fs).starts (tabled bs fs).blocks v.text a.reg a.value out.next a.puts), ap length new_is, v.at.sized)

                pub new-room : 0 + length new ≤ length cur
                new-room = let a = (stack-line b z).whole in omega (arith, new-less, v.at.room, v.ground.m-cur, v.same-cur)

                -- it was put in, and the row goes into the line
                pub absorb-on : {cur' : List ℕ} {c' : ℕ} → Wrote cur 0 new cur' c' →
                    (q : ℕ) (z₁ : q ≡ line_start t (p - 1)) (a : List ℕ) → a ≡ part q (p - 1) t → (hd : Bool) → hd ≡ is_header a →
                    Climb t n i f bs fs owner₀ stack m cur₀ next₀ (set owner (k - 1) (n - k + 1)) cur' next' (k - 1) q b c' (over || hd) (steps + 1)
                unfolding row_lines owners_in owner_of act made
                absorb-on {cur'} {c'} w q z₁ a e₅ hd e₆ =
                    let tl = text-line q z₁ in
                    let sl = stack-line b z in
                    let dd : n - k + 1 ≡ v.d = omega (arith, v.at.up, turn_in) in
                    let c-is : c' ≡ length out.next = omega (arith, w.place, ap length new_is) in
                    record {
                      ground = v.ground;
                      same-owner = length-set owner (k - 1) (n - k + 1) ∙ v.same-owner;
                      same-cur = wrote-length w ∙ v.same-cur;
                      same_next = put-out o ∙ v.same_next;
                      left = v.left;
                      rest = v.rest;
                      back = record { item = v.row.item; act = into v.d } ∷ v.back;
                      d = suc v.d;
                      took = v.d ∷ v.took;
                      lines = v.row.item.line ∷ v.lines;
                      text = out.next;
                      at = record {
                        walks = subst (λ (o : Bool). WalkInv (tabled bs fs) (get_or bs n 0) (λ u. read_later (tabled bs fs) u (lines_of (drop f t))) (walk_at t bs fs n) v.left v.rest (record { item = v.row.item; act = into v.d } ∷ v.back) (suc v.d) o out.next (v.d ∷ v.took) (v.row.item.line ∷ v.lines)) (sym (over-on q z₁ a e₅ hd e₆)) (edge-absorb v.at.walks out.next step-new);
                        last = omega (arith, v.at.last);
                        up = omega (arith, v.at.up, one_less);
                        told = told-above;
                        own = own-above;
                        many = omega (arith, v.at.many);
                        above = tl.upper;
                        p≤ = omega (arith, tl.whole, v.at.p≤);
                        between = between-on q z₁;
                        clear = clear-on q z₁;
                        owners = take-set-le (k - 1) owner (k - 1) (n - k + 1) (omega arith) ∙ owners-above;
                        behind = part-set owner (k - 1) n (n - k + 1) (omega (arith, turn_in, one_less)) owner-in
                            ∙ ap (λ (j : ℕ). (n - k + 1) ∷ part j n owner) (sym one_less)
                            ∙ ap (λ (j : ℕ). j ∷ part k n owner) dd ∙ ap (λ (l : List ℕ). v.d ∷ l) v.at.behind;
                        beyond = drop-set-lt n owner (k - 1) (n - k + 1) (omega (arith, turn_in, one_less)) ∙ v.at.beyond;
                        upper = sl.upper;
                        h≤ = omega (arith, sl.whole, v.at.h≤);
                        is = wrote-part w ∙ new_is;
                        sized = c-is;
                        line = refl;
                        room = omega (arith, new-less, ap length new_is, c-is, sl.whole, v.at.room);
                      };
                    }

-- ---- the note of the row, and the lines below the one that the walk started from

given-onto : (back rest : List Row) → given (onto back rest) ≡ given rest ++ row_lines back
unfolding onto given row_lines
given-onto [] rest = sym (append-nil (given rest))
given-onto (r ∷ back) rest = given-onto back (r ∷ rest) ∙ append_assoc (given rest) (r.item.line ∷ []) (row_lines back)

module _ {t : List ℕ} {n i f : ℕ} {bs fs owner₀ stack : List ℕ} {m : ℕ} {cur₀ next₀ owner cur next : List ℕ} {k p h c : ℕ} {over : Bool} {steps : ℕ}
    (v : Turning t n i f bs fs owner₀ stack m cur₀ next₀ owner cur next k p h c over steps) where
  -- the row is that of its line
  row_line : v.row.item.line ≡ line_at t (k - 1)
  unfolding given
  row_line =
      let L = tabled bs fs in
      let later : ℕ → Bool = λ u. read_later L u (lines_of (drop f t)) in
      let x : List Row = v.row ∷ v.rest in
      let a : given v.rest ++ (v.row.item.line ∷ row_lines v.back) ≡ take n (lines_of t) =
      sym (append_assoc (given v.rest) (v.row.item.line ∷ []) (row_lines v.back))
      ∙ ap (λ (y : List (List ℕ)). y ++ row_lines v.back) (sym (walk-given L (get_or bs n 0) later (suc v.left) x v.d over v.text v.took v.lines))
      ∙ sym (given-onto v.back (walk L (get_or bs n 0) later (suc v.left) x v.d over v.text v.took v.lines).rows)
      ∙ ap (λ (y : Walked). given y.rows) (sym v.at.walks.so_far)
      ∙ v.ground.given_is in
      let z : length (given v.rest) + 0 ≡ k - 1 = omega (arith, given-length v.rest, v.at.many) in
      sym (get_or-append-add (given v.rest) (v.row.item.line ∷ row_lines v.back) 0 [])
      ∙ ap (λ (y : ℕ). get_or (given v.rest ++ (v.row.item.line ∷ row_lines v.back)) y []) z
      ∙ ap (λ (y : List (List ℕ)). get_or y (k - 1) []) a
      ∙ get_or-take n (lines_of t) (k - 1) [] (omega (arith, turn_in v, row-some v))

  pub noted_here : (notes : List ℕ) (u : ℕ) → Spans t notes → lines_of (drop f t) ≡ drop (suc n) (lines_of t) → (q : ℕ) → q ≡ line_start t (p - 1) → {x : List ℕ} → x ≡ part q (p - 1) t →
      {ll : List ℕ} → ll ≡ part f (length t) t → Noted u x (get_or notes (2 * (k - 1)) 0) (get_or notes (2 * (k - 1) + 1) 0) (length (part k n owner) + 1) (lines_of ll)
  noted_here notes u s b q z {x} e {ll} e₂ =
      let r : ℕ = get_or notes (2 * (k - 1)) 0 in
      let r₂ : ℕ = get_or notes (2 * (k - 1) + 1) 0 in
      let far : n - (k - 1) ≡ length (part k n owner) + 1 =
      omega (arith, turn_in v, row-some v, length-take-le (n - k) (drop k owner) (omega (arith, length-drop k owner, v.same-owner, v.ground.n-owner, turn_in v))) in
      subst (λ (y : List ℕ). Noted u y r r₂ (length (part k n owner) + 1) (lines_of ll)) (sym (e ∙ (text-line v q z).line ∙ row_line))
      (subst (λ (y : ℕ). Noted u (line_at t (k - 1)) r r₂ y (lines_of ll)) far
      (subst (λ (y : List (List ℕ)). Noted u (line_at t (k - 1)) r r₂ (n - (k - 1)) y) (sym (ap lines_of (e₂ ∙ rest_of t f) ∙ b)) (s u (k - 1) n (omega (arith, turn_in v)))))
