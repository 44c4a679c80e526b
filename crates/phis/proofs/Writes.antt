-- What the writers of prune_dead_phis write. Assumes nothing.
use Prim.Native.Nat.{ℕ, ◌+◌, ◌-◌, ◌≤◌, ◌<◌, min}
use mathlib.Core.Path.{◌≡◌, refl, sym, ap, ◌∙◌}
use mathlib.Core.Bool.{Bool, true, false, cond, not, ◌&&◌, ◌||◌}
use mathlib.Core.List.{List, [], ◌∷◌, ◌++◌, append_assoc}
use native.Mathlib.Omega.{arith}
use lib.ListN.{length, take, drop, length-drop, length-append}
use lib.Seq.{drop-drop, drop-append-add}
use Rattle.lines.specs.Lf.{part, up_to, lines_of, parts_of, unlines}
use Rattle.lines.specs.Acts.{become, gone, act, apply}
use Rattle.lines.specs.Inner.Out.{put_at, Wrote}
use Rattle.lines.proofs.Tests.{no, so}
use Rattle.lines.proofs.LfLaws.{lines-at, lines_end}
use Rattle.lines.proofs.ActLaws.{unlines-append}
use Rattle.lines.proofs.OutLaws.{Writing, writing_start, writing-as, writing-room, writing-put, writing-end}
use Rattle.text.specs.Trim.{from_of, trim_start, trim_of}
use Rattle.names.specs.Names.{phi_word, phi_text, phi_of}
use Rattle.names.specs.declared.Phi.{Phi}
use Rattle.std.specs.declared.option.Option.{Option}
use Rattle.std.specs.declared.option.Option.TheVariants.{Some, None}
use Rattle.names.proofs.Texts.{phi_number}
use Rattle.parse.specs.Parse.{body_of, is_let}
use Rattle.lexical.specs.Phi.{phi_rhs_pure}
use Rattle.decls.specs.Inner.Print.{bare_name, one, kept, decl_text}
use Rattle.decls.proofs.PrintLaws.{after-bare, act-text}
use Rattle.reading.specs.Reading.{Reading, pure_in}
use Rattle.reading.specs.Assign.{is_assign, left_of, right_of}
use Rattle.reading.proofs.AssignLaws.{part-le, right_le}
use Rattle.phis.specs.Phis.{phi_decl, phi_store, dead_phi, phi_dead, any_dead, live_phi, live_phis, store_act, phi_act, phi_acts, round_acts, round}
use Rattle.phis.specs.Inner.Rounds.{live_by, live, store_text, change_text}

-- ---- the names that stay

-- a phi that was read is printed by its own digits
phi-bare : (t : List ℕ) (q : Phi) → phi_of t ≡ Some q → phi_text q.0 ≡ bare_name 3 t
phi-bare t q h = after-bare phi_word t q.0 (phi_number t q h)

live-one : (ls : List (List ℕ)) (t : List ℕ) → live_phi ls (phi_of t) ≡ one (live ls t) 3 t
live-one ls t = go (phi_of t) refl
  where
    by : (b : Bool) (x y : List ℕ) → x ≡ y → cond b [] (x ∷ []) ≡ cond (not b) (y ∷ []) []
    by true x y e = refl
    by false x y e = ap (λ (z : List ℕ). z ∷ []) e

    go : (n : Option Phi) → phi_of t ≡ n → live_phi ls n ≡ one (live_by ls n) 3 t
    go None h = refl
    go (Some q) h = by (dead_phi q.0 ls) (phi_text q.0) (bare_name 3 t) (phi-bare t q h)

pub names-live : (ls ps : List (List ℕ)) → live_phis ls ps ≡ kept (live ls) 3 ps
unfolding live_phis kept
names-live ls [] = refl
names-live ls (p ∷ ps) =
    ap (λ (r : List (List ℕ)). r ++ live_phis ls ps) (live-one ls (trim_of p))
    ∙ ap (λ (r : List (List ℕ)). one (live ls (trim_of p)) 3 (trim_of p) ++ r) (names-live ls ps)

-- ---- a line of a text that has a dead phi

store-text : (R : Reading) (indent rhs l : List ℕ) → unlines (act (store_act R indent rhs) l) ≡ store_text R indent rhs
unfolding store_text act unlines
store-text R indent rhs l = go (pure_in R rhs || phi_rhs_pure rhs)
  where
    go : (b : Bool) → unlines (act (cond b gone (become (indent ++ rhs ++ 59 ∷ []))) l) ≡ cond b [] (indent ++ rhs ++ 59 ∷ 10 ∷ [])
    go true = refl
    go false = append_assoc (indent ++ rhs) (59 ∷ []) (10 ∷ [])

store-by : (R : Reading) (indent rhs : List ℕ) (b : Bool) → pure_in R rhs || phi_rhs_pure rhs ≡ b → store_text R indent rhs ≡ cond b [] (indent ++ rhs ++ 59 ∷ 10 ∷ [])
unfolding store_text
store-by R indent rhs b e = rw e

-- a store of a dead phi is an assignment
pub dead-assign : (ls : List (List ℕ)) (t : List ℕ) → phi_dead (phi_store t) ls ≡ true → is_assign t ≡ true
unfolding phi_store
dead-assign ls t h = go (is_let t) (is_assign t) h
  where
    go : (a b : Bool) → phi_dead (cond (not a && b) (phi_of (left_of t)) None) ls ≡ true → b ≡ true
    go true b g = no g
    go false true g = refl
    go false false g = no g

-- t is the line with its front trimmed, and indent what stands before it
module _ (R : Reading) (ls : List (List ℕ)) (l t indent : List ℕ) (a : ℕ) (z : t ≡ trim_start l) (q : a ≡ from_of l) (y : indent ≡ part 0 a l) where
  indent-is : indent ≡ take (from_of l) l
  indent-is = let w : a - 0 ≡ from_of l = omega arith in y ∙ ap (λ (n : ℕ). take n l) w

  module _ (n : Option Phi) (s : n ≡ phi_store t) where
    dead-is : (b : Bool) → phi_dead n ls ≡ b → phi_dead (phi_store (trim_start l)) ls ≡ b
    dead-is b e = ap (λ (x : List ℕ). phi_dead (phi_store x) ls) (sym z) ∙ ap (λ (m : Option Phi). phi_dead m ls) (sym s) ∙ e

    pub change-store : phi_dead n ls ≡ true → change_text R ls l ≡ store_text R indent (right_of t)
    unfolding change_text phi_act
    change-store e = rw (dead-is true e) (store-text R (take (from_of l) l) (right_of (trim_start l)) l ∙ rw (indent-is, z))

    pub change-decl : phi_dead n ls ≡ false → phi_decl t ≡ true → (body : List ℕ) → body ≡ part 4 (length t - 1) t → change_text R ls l ≡ decl_text indent (kept (live ls) 3 (parts_of 44 body)) false
    unfolding change_text phi_act
    change-decl e d body x =
        rw (dead-is false e, sym (ap phi_decl z) ∙ d)
        (act-text (take (from_of l) l) l (live_phis ls (parts_of 44 (body_of (trim_start l))))
        ∙ ap (λ (r : List (List ℕ)). decl_text (take (from_of l) l) r false) (names-live ls (parts_of 44 (body_of (trim_start l))))
        ∙ rw (indent-is, x, z))

    pub change-keep : phi_dead n ls ≡ false → phi_decl t ≡ false → change_text R ls l ≡ l ++ 10 ∷ []
    unfolding change_text phi_act act unlines
    change-keep e d = rw (dead-is false e, sym (ap phi_decl z) ∙ d)

-- ---- scratch

pub start-le : (l t : List ℕ) → t ≡ trim_start l → length t ≤ length l
start-le l t z = omega (arith, ap length z, length-drop (from_of l) l)

-- what is left of a store of a dead phi; x is its value, and r says whether that has no effect
module _ (R : Reading) (indent t x : List ℕ) (z : x ≡ right_of t) (r : Bool) (e : r ≡ pure_in R x || phi_rhs_pure x) where
  pub store-goes : r ≡ true → store_text R indent (right_of t) ≡ []
  store-goes k = store-by R indent (right_of t) true (ap (λ (v : List ℕ). pure_in R v || phi_rhs_pure v) (sym z) ∙ so e k)

  pub store-stays : r ≡ false → store_text R indent (right_of t) ≡ indent ++ x ++ 59 ∷ 10 ∷ []
  store-stays k =
      store-by R indent (right_of t) false (ap (λ (v : List ℕ). pure_in R v || phi_rhs_pure v) (sym z) ∙ so e k)
      ∙ ap (λ (v : List ℕ). indent ++ v ++ 59 ∷ 10 ∷ []) (sym z)

  pub value-le : length x ≤ length t
  value-le = omega (arith, ap length z, right_le t)

-- bytes that are written at the front leave those behind them
pub put-past : (t d d' : List ℕ) (n : ℕ) → length t ≤ n → d' ≡ put_at d 0 t → drop n d' ≡ drop n d
unfolding put_at
put-past t d d' n h e =
    let q : n ≡ length t + (n - length t) = omega arith in
    let z : 0 + length t ≡ length t = omega arith in
    ap (drop n) (e ∙ ap (λ (k : ℕ). t ++ drop k d) z)
    ∙ ap (λ (k : ℕ). drop k (t ++ drop (length t) d)) q
    ∙ drop-append-add t (drop (length t) d) (n - length t)
    ∙ drop-drop (n - length t) (length t) d
    ∙ ap (λ (k : ℕ). drop k d) (sym q)

-- what stands behind n bytes stands behind more
pub drop_more : (n m : ℕ) (c d : List ℕ) → n ≤ m → drop n c ≡ drop n d → drop m c ≡ drop m d
drop_more n m c d h e =
    let q : m ≡ n + (m - n) = omega arith in
    ap (λ (k : ℕ). drop k c) q ∙ sym (drop-drop (m - n) n c) ∙ ap (drop (m - n)) e ∙ drop-drop (m - n) n d ∙ ap (λ (k : ℕ). drop k d) (sym q)

-- ---- the lines that are still to come, as bytes

unfoldable pub to_go : Reading → List (List ℕ) → List (List ℕ) → List ℕ
to_go R ls [] = []
to_go R ls (m ∷ ms) = change_text R ls m ++ to_go R ls ms

go-change : (R : Reading) (ls ms : List (List ℕ)) → unlines (apply (phi_acts R ls ms) ms) ≡ to_go R ls ms
unfolding phi_acts apply to_go change_text unlines
go-change R ls [] = refl
go-change R ls (m ∷ ms) =
    unlines-append (act (phi_act R ls m) m) (apply (phi_acts R ls ms) ms)
    ∙ ap (λ (r : List ℕ). unlines (act (phi_act R ls m) m) ++ r) (go-change R ls ms)

go_all : (R : Reading) (ls : List (List ℕ)) → any_dead ls ls ≡ true → unlines (round R ls) ≡ to_go R ls ls
unfolding round round_acts
go_all R ls e = rw e (go-change R ls ls)

go-line : (R : Reading) (ls : List (List ℕ)) (m : List ℕ) (ms : List (List ℕ)) → to_go R ls (m ∷ ms) ≡ change_text R ls m ++ to_go R ls ms
unfolding to_go
go-line R ls m ms = refl

go-none : (R : Reading) (ls : List (List ℕ)) → to_go R ls [] ≡ []
unfolding to_go
go-none R ls = refl

-- ---- the loop of a round over a text that has a dead phi

pub record RoundInv (R : Reading) (t : List ℕ) (c₀ d₀ c d : List ℕ) (i o : ℕ) : Type 0 where
  pub room : length t ≤ length c
  pub i≤ : i ≤ length t
  pub same-scratch : length c ≡ length c₀
  pub writing : Writing 0 (unlines (round R (lines_of t))) (to_go R (lines_of t) (lines_of (drop i t))) d₀ d o
  pub memory : drop (length t) c ≡ drop (length t) c₀

pub round-start : (R : Reading) (t : List ℕ) (c d : List ℕ) → length t ≤ length c → length (unlines (round R (lines_of t))) ≤ length d → any_dead (lines_of t) (lines_of t) ≡ true → RoundInv R t c d c d 0 0
round-start R t c d h k e = record {
  room = h;
  i≤ = omega arith;
  same-scratch = refl;
  writing = writing-as (go_all R (lines_of t) e) (writing_start 0 (unlines (round R (lines_of t))) d (omega arith));
  memory = refl;
}

module _ {R : Reading} {t : List ℕ} {c₀ d₀ c d : List ℕ} {i o : ℕ} (h : RoundInv R t c₀ d₀ c d i o) where
  module _ (e : ℕ) (k : i < length t) (q : e ≡ i + up_to 10 (drop i t)) (l : List ℕ) (z : l ≡ part i e t) where
    -- the next line and what follows it
    next : Writing 0 (unlines (round R (lines_of t))) (change_text R (lines_of t) l ++ to_go R (lines_of t) (lines_of (drop (min (e + 1) (length t)) t))) d₀ d o
    next =
        writing-as
        (ap (λ (ms : List (List ℕ)). to_go R (lines_of t) ms) (lines-at t i e k q)
        ∙ go-line R (lines_of t) _ _
        ∙ ap (λ (m : List ℕ). change_text R (lines_of t) m ++ to_go R (lines_of t) (lines_of (drop (min (e + 1) (length t)) t))) (sym z))
        h.writing

    line-le : length l ≤ length t
    line-le = omega (arith, ap length z, part-le i e t)

    pub round_room : (length l ≤ length c) × (o + length (change_text R (lines_of t) l) ≤ length d)
    round_room = (
      omega (arith, line-le, h.room),
      omega (arith, writing-room next, length-append (change_text R (lines_of t) l) (to_go R (lines_of t) (lines_of (drop (min (e + 1) (length t)) t)))),
    )

    pub round-on : (c' d' : List ℕ) (r j : ℕ) → Wrote d o (change_text R (lines_of t) l) d' r → drop (length l) c' ≡ drop (length l) c → length c' ≡ length c → j ≡ min (e + 1) (length t) →
        RoundInv R t c₀ d₀ c' d' j r
    round-on c' d' r j w m s x = record {
      room = omega (arith, h.room);
      i≤ = omega arith;
      same-scratch = s ∙ h.same-scratch;
      writing = rw x (writing-put next w);
      memory = drop_more (length l) (length t) c' c line-le m ∙ h.memory;
    }

  pub round-end : length t ≤ i → Wrote d₀ 0 (unlines (round R (lines_of t))) d o
  round-end k = writing-end (writing-as (ap (λ (ms : List (List ℕ)). to_go R (lines_of t) ms) (lines_end t i k) ∙ go-none R (lines_of t)) h.writing)
