-- What strict mode is for: no line goes whose value holds a call outside comments and quotes. One rule of the original still lets such a line go, the test that
-- a phi's value has no effect: `phi_rhs_pure`. Assumes nothing.
use Prim.Native.Nat.{ℕ, suc}
use mathlib.Core.Path.{◌≡◌, refl, sym, ap, ◌∙◌}
use mathlib.Core.Bool.{Bool, true, false, cond, not, ◌&&◌, ◌||◌}
use mathlib.Core.List.{List, [], ◌∷◌}
use borrow.Author.Tests.{eqb-true}
use lib.Dec.{eqb, ltb}
use lib.ListN.{length, take, drop}
use Rattle.lines.specs.Lf.{up_to, all}
use Rattle.lines.specs.Acts.{Act, keep, become, into, gone}
use Rattle.lines.proofs.Tests.{no, and_left, and_right, and_both}
use Rattle.text.specs.Class.{is_name}
use Rattle.text.specs.Trim.{trim_of, trim_start}
use Rattle.names.specs.Names.{is_ident}
use Rattle.names.proofs.Digits.{all_more}
use Rattle.names.proofs.Texts.{ident-names}
use Rattle.parse.specs.Parse.{parse_of, text_of}
use Rattle.expr.specs.Quotes.{holds_call}
use Rattle.expr.proofs.CallLaws.{strict-no-call, bare-no-call}
use Rattle.lexical.specs.Phi.{phi_rhs_pure}
use Rattle.reading.specs.Reading.{Reading, reading_by, pure_in}
use Rattle.reading.specs.Assign.{right_of}
use Rattle.temps.specs.Temps.{temp_act}
use Rattle.temps.specs.Inner.Scratch.{temp_goes}
use Rattle.temps.proofs.Keeps.{goes-dead}
use Rattle.once.specs.Scratch.{is_member, scratch_at, object_of}
use Rattle.once.specs.Once.{Spot, dropped}
use Rattle.once.proofs.Reasons.{Reason, as_load, as-dead, dropped-reason}
use Rattle.phis.specs.Phis.{phi_store, phi_dead}
use Rattle.phis.proofs.Keeps.{store_goes}

-- the readings of strict mode, joined or not
abbrev strict : Bool → Reading
strict joined = reading_by true joined

pure-calls : (joined : Bool) (v : List ℕ) → pure_in (strict joined) v ≡ true → holds_call v ≡ false
pure-calls joined v h = strict-no-call v h

goes-true : (b : Bool) → cond b gone keep ≡ gone → b ≡ true
goes-true true h = refl
goes-true false h = no (ap stays h)
  where
    stays : Act → Bool
    stays keep = false
    stays (become l) = true
    stays (into n) = true
    stays gone = true

-- pass 1
pub temps-strict : (joined : Bool) (ls : List (List ℕ)) (l : List ℕ) → temp_act (strict joined) ls l ≡ gone → holds_call (right_of (trim_of l)) ≡ false
unfolding temp_act temp_goes
temps-strict joined ls l h = pure-calls joined (right_of (trim_of l)) (goes-dead (strict joined) ls l (goes-true (temp_goes (strict joined) ls l) h)).pure

-- ---- pass 2: the value of a dead store is pure, and that of a scratch load is two names with a point between them

name-other : (x : ℕ) → is_name x ≡ true → not (eqb x 40) ≡ true
name-other x h = go (eqb x 40) refl
  where
    go : (b : Bool) → eqb x 40 ≡ b → not b ≡ true
    go false e = refl
    go true e = no (ap (λ (y : ℕ). is_name y) (sym (eqb-true x 40 e)) ∙ h)

around : (f : ℕ → Bool) → f 46 ≡ true → (l : List ℕ) → all f (take (up_to 46 l) l) ≡ true → all f (drop (suc (up_to 46 l)) l) ≡ true → all f l ≡ true
unfolding up_to
around f p [] g h = refl
around f p (x ∷ xs) g h = go (around f p xs) (eqb x 46) refl g h
  where
    go : (all f (take (up_to 46 xs) xs) ≡ true → all f (drop (suc (up_to 46 xs)) xs) ≡ true → all f xs ≡ true) → (b : Bool) → eqb x 46 ≡ b → all f (take (cond b 0 (suc (up_to 46 xs))) (x ∷ xs)) ≡ true → all f (drop (suc (cond b 0 (suc (up_to 46 xs)))) (x ∷ xs)) ≡ true → f x && all f xs ≡ true
    go on true e g h = and_both (ap f (eqb-true x 46 e) ∙ p) h
    go on false e g h = and_both (and_left (f x) _ g) (on (and_right (f x) _ g) h)

member-calls : (x : List ℕ) → is_member x ≡ true → holds_call x ≡ false
unfolding is_member
member-calls x h =
    let k = and_right (ltb (up_to 46 x) (length x)) _ h in
    let name : (t : List ℕ) → is_ident t ≡ true → all (λ (b : ℕ). not (eqb b 40)) t ≡ true =
    λ t e. all_more (λ (b : ℕ). is_name b) (λ (b : ℕ). not (eqb b 40)) name-other t (ident-names t e) in
    bare-no-call x (around (λ (b : ℕ). not (eqb b 40)) refl x (name (object_of x) (and_left (is_ident (object_of x)) _ k)) (name (drop (suc (up_to 46 x)) x) (and_right (is_ident (object_of x)) _ k)))

reason-calls : (joined : Bool) (d : Spot) (below : List Spot) → Reason (strict joined) d below → holds_call (text_of d.line (parse_of d.line)) ≡ false
unfolding scratch_at
reason-calls joined d below (as-dead r) = rw r.reads (pure-calls joined _ r.pure)
reason-calls joined d below (as_load r) = rw r.reads (member-calls _ (and_left (is_member _) _ r.load))

pub once-strict : (joined : Bool) (d : Spot) (below : List Spot) → dropped (strict joined) d below ≡ true → holds_call (text_of d.line (parse_of d.line)) ≡ false
once-strict joined d below h = reason-calls joined d below (dropped-reason (strict joined) d below h)

-- pass 3: a value with a call goes only by the original's own test of phis
pub phis-strict : (joined : Bool) (ls : List (List ℕ)) (l : List ℕ) → store_goes (strict joined) ls l ≡ true → holds_call (right_of (trim_start l)) ≡ true → phi_rhs_pure (right_of (trim_start l)) ≡ true
unfolding store_goes
phis-strict joined ls l h c = go (pure_in (strict joined) v) refl (and_right (phi_dead (phi_store (trim_start l)) ls) (pure_in (strict joined) v || phi_rhs_pure v) h)
  where
    v : List ℕ
    v = right_of (trim_start l)

    go : (b : Bool) → pure_in (strict joined) v ≡ b → b || phi_rhs_pure v ≡ true → phi_rhs_pure v ≡ true
    go true e k = no (sym (pure-calls joined v e) ∙ c)
    go false e k = k
