-- Nothing is lost unsaid: a line stays as it is, goes as a scratch load or as a dead store, or goes into the next, which holds its value. Assumes nothing.
use Prim.Native.Nat.{ℕ}
use mathlib.Core.Path.{◌≡◌, refl, sym, ap, ◌∙◌}
use mathlib.Core.Bool.{Bool, true, false, cond, not, ◌&&◌, ◌||◌}
use mathlib.Core.List.{List, [], ◌∷◌, ◌++◌, append_assoc}
use borrow.Author.Tests.{eqb-true, not-true}
use lib.Dec.{eqb}
use lib.ListN.{take, drop}
use Rattle.lines.specs.Acts.{Act, keep, become, into, gone}
use Rattle.lines.proofs.Tests.{no, or-true, and_left, and_right}
use Rattle.text.specs.declared.Span.{Span}
use Rattle.parse.specs.Parse.{parse_of, text_of}
use Rattle.parse.specs.declared.Line.{Line}
use Rattle.parse.specs.declared.Line.TheVariants as line
use Rattle.parse.specs.declared.Store.{Store}
use Rattle.place.specs.Region.{region}
use Rattle.words.specs.Hits.{reg_hit, glue_left, glue_right, glued, replaced_at, replace_by, replace_reg}
use Rattle.std.specs.declared.option.Option.{Option}
use Rattle.std.specs.declared.option.Option.TheVariants.{Some, None}
use Rattle.reading.specs.Reading.{Reading, pure_in}
use Rattle.reading.specs.Uses.{line_reads, line_stores}
use Rattle.once.specs.Scratch.{scratch_at}
use Rattle.once.specs.Once.{Spot, spots, lines_in, next_use, dead_by, dropped_by, dropped, read_count, later_read, some, first_of, forward_by, forwards, taken_by, once_act, once_go, once_acts, next_run}
use Rattle.once.proofs.Marks.{forwards-stays}

-- ---- a line that goes

-- a load of a member whose value nothing reads, above a call of the same member
pub record ScratchLoad (d : Spot) (below : List Spot) : Type 0 where
  pub store : Store
  pub reads : parse_of d.line ≡ line.Store store
  pub load : scratch_at store.reg.0 (text_of d.line (line.Store store)) (lines_in below) ≡ true

-- a store outside loops, of a pure value that does not read its own register and that nothing below wants
pub record DeadStore (R : Reading) (d : Spot) (below : List Spot) : Type 0 where
  pub store : Store
  pub reads : parse_of d.line ≡ line.Store store
  pub unwanted : dead_by d.path (next_use store.reg.0 below) ≡ true
  pub pure : pure_in R (text_of d.line (line.Store store)) ≡ true
  pub outside : d.loop ≡ false
  pub own : line_reads store.reg.0 d.line ≡ 0

pub data Reason (R : Reading) (d : Spot) (below : List Spot) : Type 0 where
  as_load : ScratchLoad d below → Reason R d below
  as-dead : DeadStore R d below → Reason R d below

or-either : {A : Type 0} (a b : Bool) → (a ≡ true → A) → (b ≡ true → A) → a || b ≡ true → A
or-either true b f g h = f refl
or-either false b f g h = g h

-- a line goes only for one of the two reasons
pub dropped-reason : (R : Reading) (d : Spot) (below : List Spot) → dropped R d below ≡ true → Reason R d below
unfolding dropped
dropped-reason R d below h = go (parse_of d.line) refl h
  where
    go : (k : Line) → parse_of d.line ≡ k → dropped_by R (λ (v : ℕ). next_use v below) d below k ≡ true → Reason R d below
    go line.Decl q e = no e
    go (line.Store s) q e =
        let v : ℕ = s.reg.0 in
        let x : List ℕ = text_of d.line (line.Store s) in
        let last : Bool = not d.loop && eqb (line_reads v d.line) 0 in
        or-either (scratch_at v x (lines_in below)) (dead_by d.path (next_use v below) && (pure_in R x && last))
        (λ (z : scratch_at v x (lines_in below) ≡ true). as_load (record { store = s; reads = q; load = z }))
        (λ (z : dead_by d.path (next_use v below) && (pure_in R x && last) ≡ true).
        let y : pure_in R x && last ≡ true = and_right (dead_by d.path (next_use v below)) (pure_in R x && last) z in
        let w : last ≡ true = and_right (pure_in R x) last y in
        as-dead (record {
          store = s;
          reads = q;
          unwanted = and_left (dead_by d.path (next_use v below)) (pure_in R x && last) z;
          pure = and_left (pure_in R x) last y;
          outside = not-true d.loop (and_left (not d.loop) (eqb (line_reads v d.line) 0) w);
          own = eqb-true (line_reads v d.line) 0 (and_right (not d.loop) (eqb (line_reads v d.line) 0) w);
        })) e
    go line.Other q e = no e

-- and for each of them it goes
pub reason-dropped : (R : Reading) (d : Spot) (below : List Spot) → Reason R d below → dropped R d below ≡ true
unfolding dropped
reason-dropped R d below (as_load r) = rw (r.reads, r.load)
reason-dropped R d below (as-dead r) =
    rw (r.reads, r.unwanted, r.pure, r.outside, r.own) (or-true (scratch_at r.store.reg.0 (text_of d.line (line.Store r.store)) (lines_in below)))

-- ---- a line that goes into the next

-- x is the line e with the value of d in the place of its register, which e reads once and nothing below e reads before it is stored again
pub record Taken (R : Reading) (d e : Spot) (below : List Spot) (x : List ℕ) : Type 0 where
  pub store : Store
  pub reads : parse_of d.line ≡ line.Store store
  pub pure : pure_in R (text_of d.line (line.Store store)) ≡ true
  pub read-once : line_reads store.reg.0 e.line ≡ 1
  pub unread : later_read store.reg.0 (lines_in below) ≡ false
  pub span : Span
  pub found : reg_hit store.reg.0 e.line ≡ Some span
  pub is : x ≡ replaced_at span.from span.to e.line (text_of d.line (line.Store store))
  pub before : List ℕ
  pub behind : List ℕ
  pub stands : x ≡ before ++ (text_of d.line (line.Store store) ++ behind)

-- a replacement stands in the line
record Within (rep x : List ℕ) : Type 0 where
  pub before : List ℕ
  pub behind : List ℕ
  pub stands : x ≡ before ++ (rep ++ behind)

within : (from to : ℕ) (l rep : List ℕ) → Within rep (replaced_at from to l rep)
unfolding replaced_at glued
within from to l rep = go (glue_left (take from l) rep || glue_right rep (drop to l))
  where
    go : (t : Bool) → Within rep (take from l ++ cond t (40 ∷ rep ++ 41 ∷ []) rep ++ drop to l)
    go true = record {
      before = take from l ++ 40 ∷ [];
      behind = 41 ∷ drop to l;
      stands =
          append_assoc (take from l) (40 ∷ rep ++ 41 ∷ []) (drop to l)
          ∙ ap (λ (r : List ℕ). take from l ++ 40 ∷ r) (append_assoc rep (41 ∷ []) (drop to l))
          ∙ sym (append_assoc (take from l) (40 ∷ []) (rep ++ 41 ∷ drop to l));
    }
    go false = record { before = take from l; behind = drop to l; stands = append_assoc (take from l) rep (drop to l) }

-- that there is a line says where the one hit stands
record Found (v : ℕ) (l x : List ℕ) : Type 0 where
  pub span : Span
  pub at : reg_hit v l ≡ Some span
  pub is : first_of (replace_reg v l x) l ≡ replaced_at span.from span.to l x

found-one : (v : ℕ) (l x : List ℕ) → some (replace_reg v l x) ≡ true → Found v l x
unfolding replace_reg
found-one v l x h = go (reg_hit v l) refl h
  where
    go : (k : Option Span) → reg_hit v l ≡ k → some (replace_by k l x) ≡ true → Found v l x
    go None q e = no e
    go (Some w) q e = record { span = w; at = q; is = ap (λ (z : Option Span). first_of (replace_by z l x) l) q }

-- what a line that goes into the next says of the two
record Forward (R : Reading) (run : List (List ℕ)) (d e : Spot) (below : List Spot) : Type 0 where
  pub stays : dropped R e below ≡ false
  pub taken : Taken R d e below (taken_by d.line (parse_of d.line) e.line)

forward-taken : (R : Reading) (run : List (List ℕ)) (d e : Spot) (below : List Spot) → forwards R run (d ∷ e ∷ below) ≡ true → Forward R run d e below
unfolding forwards
forward-taken R run d e below h = go (parse_of d.line) refl h
  where
    go : (k : Line) → parse_of d.line ≡ k → forward_by R run d e below k ≡ true → Forward R run d e below
    go line.Decl q z = no z
    go line.Other q z = no z
    go (line.Store s) q z =
        let v : ℕ = s.reg.0 in
        let x : List ℕ = text_of d.line (line.Store s) in
        let t₇ : Bool = eqb (read_count v run) 1 && some (replace_reg v e.line x) in
        let t₆ : Bool = pure_in R x && t₇ in
        let t₅ : Bool = not (later_read v (lines_in below)) && t₆ in
        let t₄ : Bool = eqb (line_reads v e.line) 1 && t₅ in
        let t₃ : Bool = not (line_stores v e.line) && t₄ in
        let t₂ : Bool = not (dropped R e below) && t₃ in
        let h₁ : not d.loop && t₂ ≡ true = and_right (not (dropped R d (e ∷ below))) (not d.loop && t₂) z in
        let h₂ : t₂ ≡ true = and_right (not d.loop) t₂ h₁ in
        let h₃ : t₃ ≡ true = and_right (not (dropped R e below)) t₃ h₂ in
        let h₄ : t₄ ≡ true = and_right (not (line_stores v e.line)) t₄ h₃ in
        let h₅ : t₅ ≡ true = and_right (eqb (line_reads v e.line) 1) t₅ h₄ in
        let h₆ : t₆ ≡ true = and_right (not (later_read v (lines_in below))) t₆ h₅ in
        let h₇ : t₇ ≡ true = and_right (pure_in R x) t₇ h₆ in
        let f : Found v e.line x = found-one v e.line x (and_right (eqb (read_count v run) 1) (some (replace_reg v e.line x)) h₇) in
        let w : Within x (replaced_at f.span.from f.span.to e.line x) = within f.span.from f.span.to e.line x in
        let i : taken_by d.line (parse_of d.line) e.line ≡ replaced_at f.span.from f.span.to e.line x =
        ap (λ (k : Line). taken_by d.line k e.line) q ∙ f.is in
        record {
          stays = not-true (dropped R e below) (and_left (not (dropped R e below)) t₃ h₂);
          taken = record {
            store = s;
            reads = q;
            pure = and_left (pure_in R x) t₇ h₆;
            read-once = eqb-true (line_reads v e.line) 1 (and_left (eqb (line_reads v e.line) 1) t₅ h₄);
            unread = not-true (later_read v (lines_in below)) (and_left (not (later_read v (lines_in below))) t₆ h₅);
            span = f.span;
            found = f.at;
            is = i;
            before = w.before;
            behind = w.behind;
            stands = i ∙ w.stands;
          };
        }

-- ---- the acts of the whole

-- what is said of the lines: each stays, goes for a reason, or goes into the next, which becomes the one that holds its value
pub data Said (R : Reading) : List Spot → List Act → Type 0 where
  ended : Said R [] []
  stayed : {d : Spot} {ss : List Spot} {more : List Act} → Said R ss more → Said R (d ∷ ss) (keep ∷ more)
  went : {d : Spot} {ss : List Spot} {more : List Act} → Reason R d ss → Said R ss more → Said R (d ∷ ss) (gone ∷ more)
  moved : {d e : Spot} {ss : List Spot} {x : List ℕ} {more : List Act} → Taken R d e ss x → Said R ss more → Said R (d ∷ e ∷ ss) (into 1 ∷ become x ∷ more)

-- the line that takes a value, and the lines below it
next-go : (R : Reading) (above : List ℕ) (after : List (List ℕ)) (e : Spot) (ss : List Spot) → dropped R e ss ≡ false → forwards R after (e ∷ ss) ≡ false →
    once_go R (e ∷ ss) true above after ≡ become (taken_by above (parse_of above) e.line) ∷ once_go R ss false e.line (next_run ss after)
unfolding once_go once_act
next-go R above after e ss p q = rw (p, q)

said-last : (R : Reading) (d : Spot) (a : Bool) → dropped R d [] ≡ a → Said R (d ∷ []) (cond a gone keep ∷ [])
said-last R d true h = went (dropped-reason R d [] h) ended
said-last R d false h = stayed ended

said_more : (R : Reading) (d e : Spot) (ss : List Spot) (run after : List (List ℕ)) → Said R (e ∷ ss) (once_go R (e ∷ ss) false d.line after) →
    Said R ss (once_go R ss false e.line (next_run ss after)) → (a b c : Bool) → dropped R d (e ∷ ss) ≡ a → forwards R run (d ∷ e ∷ ss) ≡ b → forwards R after (e ∷ ss) ≡ c →
    Said R (d ∷ e ∷ ss) (cond a gone (cond b (cond c keep (into 1)) keep) ∷ once_go R (e ∷ ss) (b && not c) d.line after)
said_more R d e ss run after f g true true c p q r = no (sym (forwards-stays R run d (e ∷ ss) p) ∙ q)
said_more R d e ss run after f g true false c p q r = went (dropped-reason R d (e ∷ ss) p) f
said_more R d e ss run after f g false true true p q r = stayed f
said_more R d e ss run after f g false true false p q r =
    let m = forward-taken R run d e ss q in
    rw (next-go R d.line after e ss m.stays r) (moved m.taken g)
said_more R d e ss run after f g false false c p q r = stayed f

said-go : (R : Reading) (ss : List Spot) (above : List ℕ) (run : List (List ℕ)) → Said R ss (once_go R ss false above run)
unfolding once_go once_act forwards
said-go R [] above run = ended
said-go R (d ∷ []) above run = said-last R d (dropped R d []) refl
said-go R (d ∷ e ∷ ss) above run =
    said_more R d e ss run (next_run (e ∷ ss) run) (said-go R (e ∷ ss) d.line (next_run (e ∷ ss) run)) (said-go R ss e.line (next_run ss (next_run (e ∷ ss) run)))
    (dropped R d (e ∷ ss)) (forwards R run (d ∷ e ∷ ss)) (forwards R (next_run (e ∷ ss) run) (e ∷ ss)) refl refl refl

-- of every listing
pub once-said : (R : Reading) (ls : List (List ℕ)) → Said R (spots ls) (once_acts R ls)
unfolding once_acts
once-said R ls = said-go R (spots ls) [] (region ls)
