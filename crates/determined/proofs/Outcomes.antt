-- What it is for a contract to fix the outcome of a call. Each library has a file of its own here, with one theorem for each of its public functions. Assumes nothing.
use Prim.Native.Nat.{ℕ}
use mathlib.Core.Path.{◌≡◌, refl, ap, ◌∙◌}
use mathlib.Core.List.{List, [], ◌∷◌}
use base.Logic.{ent, sep, id⊢, via, fst∗, snd∗}
use contract.Monad.{fact, fact_i, fact_use}
use contract.Lifetimes.{Lfts}
use denote.Exit.{Exit, unchanged, leaves, Last}
use Rattle.determined.proofs.Equations.{also, equations}
use denote.RattleType.{Denots}
use denote.Signature.{Slot, types_at}
use denote.Triple.Entry.{Args, Res}
use denote.Triple.End.{Kepts, Fins}
use denote.Triple.Clauses.{Ended, Lasts, AtExit, at_exit}
use borrow.Fn.Claims.{AllOf, All-head, All-tail}
use borrow.Fn.World.{World, Pr}

-- the lifetimes of a function's arguments
abbrev pub Lives : Ended → Type 0
Lives T = Lfts T.signature.lifetimes

-- what a call leaves: its answer, and what every lent `&mut` holds when it returns
pub record Outcome (T : Ended) (κs : Lives T) (a : Args T.signature κs) : Type 0 where
  pub answer : Res T.signature κs
  pub lasts : Lasts T κs a

-- the `ensures` of a contract: of the arguments, the answer and the arguments at exit, at each model of the logic
abbrev pub Ensures : Ended → Type 2
Ensures T = (κs : Lives T) → Args T.signature κs → Unit {0} → Res T.signature κs → AtExit T κs → (w : World) → Pr w

-- the same as a plain claim
abbrev pub Claim : Ended → Type 1
Claim T = (κs : Lives T) → Args T.signature κs → Res T.signature κs → AtExit T κs → Type 0

-- that an outcome meets it
abbrev pub Met : (T : Ended) (c : Claim T) (κs : Lives T) (a : Args T.signature κs) → Outcome T κs a → Type 0
Met T c κs a x = c κs a x.answer (at_exit T κs a x.lasts)

-- that at every model the `ensures` says the claim
abbrev pub Says : (T : Ended) → Ensures T → Claim T → Type 2
Says T e c = (w : World) (κs : Lives T) (a : Args T.signature κs) (x : Outcome T κs a) → ent w.𝓤 (e κs a tt x.answer (at_exit T κs a x.lasts) w) (fact w.𝓤 (Met T c κs a x))

-- A contract fixes the outcome: it says a plain claim, and any two outcomes of one call that meet the claim are the same, in every byte or entry that a lent `&mut` holds, and in what is
-- seen of the answer.
pub record Determined (T : Ended) {X : Type 0} (see : (κs : Lives T) → Res T.signature κs → X) (e : Ensures T) : Type 2 where
  pub claim : Claim T
  pub says : Says T e claim
  pub once : (κs : Lives T) (a : Args T.signature κs) (x y : Outcome T κs a) → Met T claim κs a x → Met T claim κs a y → (x.lasts ≡ y.lasts) × (see κs x.answer ≡ see κs y.answer)

-- so in the logic: what the contract ensures of two outcomes says that they are the same
pub outcomes-same : {T : Ended} {X : Type 0} {see : (κs : Lives T) → Res T.signature κs → X} {e : Ensures T} → Determined T see e →
    (w : World) (κs : Lives T) (a : Args T.signature κs) (x y : Outcome T κs a) →
    ent w.𝓤 (sep w.𝓤 (e κs a tt x.answer (at_exit T κs a x.lasts) w) (e κs a tt y.answer (at_exit T κs a y.lasts) w))
    (fact w.𝓤 ((x.lasts ≡ y.lasts) × (see κs x.answer ≡ see κs y.answer)))
outcomes-same {T} {X} {see} {e} d w κs a x y =
    let P = e κs a tt x.answer (at_exit T κs a x.lasts) w in
    let Q = e κs a tt y.answer (at_exit T κs a y.lasts) w in
    fact_use w.𝓤 (Met T d.claim κs a x) (via w.𝓤 P (fst∗ w.𝓤 P Q) (d.says w κs a x)) (λ l.
    fact_use w.𝓤 (Met T d.claim κs a y) (via w.𝓤 Q (snd∗ w.𝓤 P Q) (d.says w κs a y)) (λ m.
    fact_i w.𝓤 ((x.lasts ≡ y.lasts) × (see κs x.answer ≡ see κs y.answer)) (sep w.𝓤 P Q) (d.once κs a x y l m)))

-- ---- the equations that say that two outcomes are the same say that they are

also-same : {D : Type 0} (e : Exit D) (d : D) (v w : Last e d) (rest : List (Type 0)) → AllOf (also e d v w rest) → (v ≡ w) × AllOf rest
also-same unchanged d v w rest p = (refl, p)
also-same (leaves L l S s z) d v w rest p = (All-head (v ≡ w) rest p, All-tail (v ≡ w) rest p)

all_same : {n : ℕ} (κs : Lfts n) (ss : List (Slot n)) (ks : Kepts ss) (a : Denots (types_at ss κs)) (v w : Fins κs ss ks a) (rest : List (Type 0)) →
    AllOf (equations κs ss ks a v w rest) → (v ≡ w) × AllOf rest
all_same κs [] ks a v w rest p = (refl, p)
all_same κs (s ∷ ss) ks a v w rest p =
    let h = also-same ((s.row κs).exit ks.0) a.0 v.0 w.0 (equations κs ss ks.1 a.1 v.1 w.1 rest) p in
    let t = all_same κs ss ks.1 a.1 v.1 w.1 rest h.1 in
    (λ i. (h.0 i, t.0 i), t.1)

-- the law, by the claim that the contract says
pub fixed-by : {T : Ended} {X : Type 0} {see : (κs : Lives T) → Res T.signature κs → X} {e : Ensures T} (c : Claim T) → Says T e c →
    ((κs : Lives T) (a : Args T.signature κs) (x y : Outcome T κs a) → Met T c κs a x → Met T c κs a y →
    AllOf (equations κs T.signature.params T.kept a x.lasts y.lasts ((see κs x.answer ≡ see κs y.answer) ∷ []))) → Determined T see e
fixed-by {T} {X} {see} {e} c s f = record {
  claim = c;
  says = s;
  once = λ κs a x y l m. all_same κs T.signature.params T.kept a x.lasts y.lasts ((see κs x.answer ≡ see κs y.answer) ∷ []) (f κs a x y l m);
}

-- ---- what a contract of one clause says, and what a clause in front of others does

pub one : (w : World) {φ : Type 0} → ent w.𝓤 (fact w.𝓤 φ) (fact w.𝓤 φ)
one w {φ} = id⊢ w.𝓤 (fact w.𝓤 φ)

pub more : (w : World) {φ ψ : Type 0} {P : Pr w} → ent w.𝓤 P (fact w.𝓤 ψ) → ent w.𝓤 (sep w.𝓤 (fact w.𝓤 φ) P) (fact w.𝓤 (φ × ψ))
more w {φ} {ψ} {P} h =
    let F = fact w.𝓤 φ in
    fact_use w.𝓤 φ (fst∗ w.𝓤 F P) (λ p. fact_use w.𝓤 ψ (via w.𝓤 P (snd∗ w.𝓤 F P) h) (λ q. fact_i w.𝓤 (φ × ψ) (sep w.𝓤 F P) (p, q)))

-- the law for a contract of one clause
pub fixed : {T : Ended} {X : Type 0} {see : (κs : Lives T) → Res T.signature κs → X} (c : Claim T) →
    ((κs : Lives T) (a : Args T.signature κs) (x y : Outcome T κs a) → Met T c κs a x → Met T c κs a y →
    AllOf (equations κs T.signature.params T.kept a x.lasts y.lasts ((see κs x.answer ≡ see κs y.answer) ∷ []))) → Determined T see (λ κs a g z s w. fact w.𝓤 (c κs a z s))
fixed c f = fixed-by c (λ w κs a x. one w) f

-- two pairs with the same halves are the same
pub pair-same : {A B : Type 0} {a c : A} {b d : B} → a ≡ c → b ≡ d → ◌≡◌ {A = A × B} (a, b) (c, d)
pair-same {A} {B} {c = c} {b = b} e f = ap (λ (x : A). (x, b)) e ∙ ap (λ (y : B). (c, y)) f
