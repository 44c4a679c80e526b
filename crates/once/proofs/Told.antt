-- Laws of a line whose note says at once that it stays as it is. Assumes nothing.
use Prim.Native.Nat.{ℕ, suc, ◌+◌}
use mathlib.Core.Path.{◌≡◌, refl, sym, ap, subst, ◌∙◌}
use mathlib.Core.Bool.{Bool, true, false, ◌&&◌, ◌||◌}
use mathlib.Core.List.{List, [], ◌∷◌}
use native.Mathlib.Omega.{arith}
use native.Mathlib.Numerals.{add-one}
use borrow.Author.Tests.{ltb-true, ltb-false, lt-ltb, eqb-true, eqb-false}
use lib.Dec.{eqb, ltb}
use lib.ListN.{length, drop, get_or, drop_of_length-le}
use lib.Seq.{drop-cons}
use Rattle.lines.proofs.Tests.{no, and_left, and_right, and_both}
use Rattle.parse.specs.Parse.{parse_of, text_of}
use Rattle.parse.specs.declared.Store.{Store}
use Rattle.parse.specs.declared.Line.{Line}
use Rattle.parse.specs.declared.Line.TheVariants as line
use Rattle.reading.specs.Reading.{Reading}
use Rattle.once.specs.Inner.Tables.{store_forwards, drops_by, line_drops, forwards_by, line_forwards, first_drops, first_takes}
use Rattle.once.specs.Inner.Noted.{KindIs, read_next, sent_to, no_send, told, settled, DropBy, SendBy, first_line}
use Rattle.once.proofs.Decides.{drops-live, forwards-loop, forwards-gone, forwards-unsent}
use Rattle.once.proofs.NextLaws.{stored-by}

-- a store whose value may not go into the next line
store-unsent : (R : Reading) (v : ℕ) (x : List ℕ) (run : List (List ℕ)) (b goes : Bool) (e : List ℕ) (ls : List (List ℕ)) → sent_to v (e ∷ ls) ≡ false → store_forwards R v x run b goes e ls ≡ false
store-unsent R v x run b goes e ls h = go b refl goes refl
  where
    go : (c : Bool) → b ≡ c → (g : Bool) → goes ≡ g → store_forwards R v x run b goes e ls ≡ false
    go true o g y = forwards-loop R v x run b goes e ls o
    go false o true y = forwards-gone R v x run b goes e ls o y
    go false o false y = forwards-unsent R v x run b goes e ls o y h

-- the line does not go
module _ (R : Reading) (l : List ℕ) (m : ℕ) (k : KindIs l m) (t : settled m ≡ true) where
  -- the value of a store is read next
  settled-store : (s : Store) → parse_of l ≡ line.Store s → read_next m ≡ true
  unfolding stored-by
  settled-store s e = go (eqb m 1) refl (eqb m 2) refl (eqb m 3) refl (eqb m 4) refl (eqb m 7) refl t
    where
      go : (a : Bool) → eqb m 1 ≡ a → (b : Bool) → eqb m 2 ≡ b → (c : Bool) → eqb m 3 ≡ c → (d : Bool) → eqb m 4 ≡ d → (f : Bool) → eqb m 7 ≡ f → f || (ltb 0 m && ltb m 5) ≡ true →
          c || (d || f) ≡ true
      go true x b y c z d w f v u = no (ap stored-by (k.0 (eqb-true m 1 x) ∙ e))
      go false x true y c z d w f v u = no (ap stored-by (k.1 (eqb-true m 2 y) ∙ e))
      go false x false y true z d w f v u = refl
      go false x false y false z true w f v u = refl
      go false x false y false z false w true v u = refl
      go false x false y false z false w false v u =
          absurd (omega (arith, ltb-true 0 m (and_left (ltb 0 m) (ltb m 5) u), ltb-true m 5 (and_right (ltb 0 m) (ltb m 5) u), eqb-false m 1 x, eqb-false m 2 y, eqb-false m 3 z, eqb-false m 4 w))

  settled-drops : (p : ℕ) (b : Bool) (ls : List (List ℕ)) (ps : List ℕ) → DropBy l p ls ps m → line_drops R l p b ls ps ≡ false
  unfolding line_drops
  settled-drops p b ls ps d = go (parse_of l) refl
    where
      go : (q : Line) → parse_of l ≡ q → drops_by R l p b ls ps q ≡ false
      go line.Decl e = refl
      go (line.Store s) e = let n = (d s e).live (settled-store s e) in drops-live R s.reg.0 (text_of l (line.Store s)) p b ls ps n.0 n.1
      go line.Other e = refl

module _ (R : Reading) (l : List ℕ) (m : ℕ) (k : KindIs l m) (t : told m ≡ true) where
  -- a store has the note 3
  told-store : (s : Store) → parse_of l ≡ line.Store s → m ≡ 3
  unfolding stored-by
  told-store s e = go (eqb m 1) refl (eqb m 2) refl
    where
      go : (a : Bool) → eqb m 1 ≡ a → (b : Bool) → eqb m 2 ≡ b → m ≡ 3
      go true x b y = no (ap stored-by (k.0 (eqb-true m 1 x) ∙ e))
      go false x true y = no (ap stored-by (k.1 (eqb-true m 2 y) ∙ e))
      go false x false y = omega (arith, ltb-true 0 m (and_left (ltb 0 m) (ltb m 4) t), ltb-true m 4 (and_right (ltb 0 m) (ltb m 4) t), eqb-false m 1 x, eqb-false m 2 y)

  told-sends : (run : List (List ℕ)) (b goes : Bool) (e : List ℕ) (ls : List (List ℕ)) → SendBy l (e ∷ ls) m → line_forwards R l run b goes e ls ≡ false
  unfolding line_forwards
  told-sends run b goes e ls d = go (parse_of l) refl
    where
      go : (q : Line) → parse_of l ≡ q → forwards_by R l run b goes e ls q ≡ false
      go line.Decl w = refl
      go (line.Store s) w = store-unsent R s.reg.0 (text_of l (line.Store s)) run b goes e ls ((d s w).stays (ap no_send (told-store s w)))
      go line.Other w = refl

  -- it does not go into the first line below
  pub told-takes : (run : List (List ℕ)) (b goes : Bool) (ls : List (List ℕ)) → SendBy l ls m → first_takes R l run b goes ls ≡ false
  unfolding first_takes
  told-takes run b goes [] d = refl
  told-takes run b goes (e ∷ ls) d = told-sends run b goes e ls d

-- the first line does not go
pub settled-first : (R : Reading) (ls : List (List ℕ)) (ps : List ℕ) (k : ℕ) (b : Bool) (m : ℕ) → KindIs (first_line ls) m → settled m ≡ true →
    DropBy (first_line ls) (get_or ps k 0) (drop 1 ls) (drop (k + 1) ps) m → false ≡ first_drops R ls (drop k ps) b
unfolding first_drops
settled-first R [] ps k b m i t d = refl
settled-first R (l ∷ ls) ps k b m i t d = go (ltb k (length ps)) refl
  where
    go : (c : Bool) → ltb k (length ps) ≡ c → false ≡ first_drops R (l ∷ ls) (drop k ps) b
    go true y =
        rw (drop-cons ps k 0 (ltb-true k (length ps) y))
        (sym (settled-drops R l m i t (get_or ps k 0) b ls (drop (suc k) ps) (subst (λ (n : ℕ). DropBy l (get_or ps k 0) ls (drop n ps) m) (add-one k) d)))
    go false y = rw (drop_of_length-le ps (ltb-false k (length ps) y))

-- so where it stays as it is
pub told-settled : (m : ℕ) → told m ≡ true → settled m ≡ true
told-settled m t = go (eqb m 7)
  where
    less : ltb 0 m && ltb m 5 ≡ true
    less = and_both (and_left (ltb 0 m) (ltb m 4) t) (lt-ltb m 5 (omega (arith, ltb-true m 4 (and_right (ltb 0 m) (ltb m 4) t))))

    go : (f : Bool) → f || (ltb 0 m && ltb m 5) ≡ true
    go true = refl
    go false = less
