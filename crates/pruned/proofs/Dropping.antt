-- A name that its region uses is left out by nothing that is accepted. Assumes nothing.
use Prim.Native.Nat.{ℕ, suc}
use mathlib.Core.Path.{◌≡◌, refl, sym, ap, subst, ◌∙◌}
use mathlib.Core.Bool.{Bool, true, false, cond}
use mathlib.Core.List.{List, [], ◌∷◌, ◌++◌}
use native.Mathlib.Omega.{arith}
use lib.ListN.{length, take}
use Rattle.lines.specs.Lf.{parts_of}
use Rattle.lines.specs.Acts.{Act, keep, act}
use Rattle.lines.proofs.Tests.{no}
use Rattle.text.specs.Trim.{from_of, trim_of}
use Rattle.names.specs.Names.{reg_of, reg_text, is_reg}
use Rattle.std.specs.declared.option.Option.{Option}
use Rattle.names.specs.declared.Register.{Register}
use Rattle.std.specs.declared.option.Option.TheVariants.{Some, None}
use Rattle.parse.specs.Parse.{body_of, is_decl}
use Rattle.reading.specs.Uses.{used_in}
use Rattle.decls.specs.Decls.{decl_act}
use Rattle.pruned.specs.Pruned.{each, with_name, choices, reprints, mays}
use Rattle.pruned.proofs.Fitting.{In, here, there}

-- one of the pieces of a declaration names register v
pub data Names (v : ℕ) : List (List ℕ) → Type 0 where
  first : {p : List ℕ} {ps : List (List ℕ)} → reg_of (trim_of p) ≡ Some (record { 0 = v }) → Names v (p ∷ ps)
  later : {p : List ℕ} {ps : List (List ℕ)} → Names v ps → Names v (p ∷ ps)

-- an act leaves register v in the declaration with that indent: it stands as it was, or it is reprinted with v among its names
pub data Leaves (v : ℕ) (indent : List ℕ) (a : Act) : Type 0 where
  as_it_was : a ≡ keep → Leaves v indent a
  reprinted : (c : List (List ℕ)) → a ≡ decl_act indent c → In (reg_text v) c → Leaves v indent a

in_split : {A B : Type 0} {x : A} (xs ys : List A) → In x (xs ++ ys) → (In x xs → B) → (In x ys → B) → B
in_split [] ys i f g = g i
in_split (z ∷ xs) ys here f g = f here
in_split (z ∷ xs) ys (there i) f g = in_split xs ys i (λ k. f (there k)) g

none_in : {A B : Type 0} {x : A} (xs : List A) → length xs ≡ 0 → In x xs → B
none_in [] e i = elim i [ ]
none_in (y ∷ ys) e here = absurd (omega arith)
none_in (y ∷ ys) e (there i) = absurd (omega arith)

none-names : {B : Type 0} {v : ℕ} (ps : List (List ℕ)) → length ps ≡ 0 → Names v ps → B
none-names [] e n = elim n [ ]
none-names (p ∷ ps) e (first k) = absurd (omega arith)
none-names (p ∷ ps) e (later n) = absurd (omega arith)

each-by : {B : Type 0} (x : List ℕ) (cs : List (List (List ℕ))) {c : List (List ℕ)} → In c (each x cs) → ((d : List (List ℕ)) → In d cs → c ≡ x ∷ d → B) → B
unfolding each
each-by x [] i f = none_in [] refl i
each-by x (d ∷ cs) here f = f d here refl
each-by x (d ∷ cs) (there i) f = each-by x cs i (λ e k q. f e (there k) q)

reg-not : {A : Type 0} (v : ℕ) → ◌≡◌ {A = Option Register} None (Some (record { 0 = v })) → A
reg-not v e = no (ap is_reg e)

abbrev value_of : Option Register → ℕ
value_of None = 0
value_of (Some q) = q.0

module _ (run ps : List (List ℕ)) (v : ℕ) (u : used_in v run ≡ true) (rest : (d : List (List ℕ)) → In d (choices run ps) → Names v ps → In (reg_text v) d) where
  -- the first piece is v itself: it stays
  this-by : (w : ℕ) {c : List (List ℕ)} → w ≡ v → In c (each (reg_text w) (choices run ps) ++ cond (used_in w run) [] (choices run ps)) → In (reg_text v) c
  this-by w {c} e i =
      in_split (each (reg_text w) (choices run ps)) []
      (subst (λ (b : Bool). In c (each (reg_text w) (choices run ps) ++ cond b [] (choices run ps))) (ap (λ (n : ℕ). used_in n run) e ∙ u) i)
      (λ k. each-by (reg_text w) (choices run ps) k (λ d m q. subst (In (reg_text v)) (sym q) (subst (λ (n : ℕ). In (reg_text v) (reg_text n ∷ d)) (sym e) here)))
      (λ k. none_in [] refl k)

  -- it is another: v is among the rest
  rest-by : (w : ℕ) {c : List (List ℕ)} → In c (each (reg_text w) (choices run ps) ++ cond (used_in w run) [] (choices run ps)) → Names v ps → In (reg_text v) c
  rest-by w {c} i n =
      in_split (each (reg_text w) (choices run ps)) (cond (used_in w run) [] (choices run ps)) i
      (λ k. each-by (reg_text w) (choices run ps) k (λ d m q. subst (In (reg_text v)) (sym q) (there (rest d m n))))
      (λ k. go (used_in w run) k)
    where
      go : (b : Bool) → In c (cond b [] (choices run ps)) → In (reg_text v) c
      go true k = none_in [] refl k
      go false k = rest c k n

  choice-by : (r : Option Register) {p : List ℕ} {c : List (List ℕ)} → reg_of (trim_of p) ≡ r → In c (with_name run r (choices run ps)) → Names v (p ∷ ps) → In (reg_text v) c
  choice-by None e i (first k) = reg-not v (sym e ∙ k)
  choice-by None {c = c} e i (later n) = rest c i n
  choice-by (Some q) e i (first k) = this-by q.0 (ap value_of (sym e ∙ k)) i
  choice-by (Some q) e i (later n) = rest-by q.0 i n

choices-keep : (run ps : List (List ℕ)) (v : ℕ) → used_in v run ≡ true → {c : List (List ℕ)} → In c (choices run ps) → Names v ps → In (reg_text v) c
unfolding choices
choices-keep run [] v u i n = none-names [] refl n
choices-keep run (p ∷ ps) v u i n = choice-by run ps v u (λ d k m. choices-keep run ps v u k m) (reg_of (trim_of p)) refl i n

reprints-by : {B : Type 0} (indent : List ℕ) (cs : List (List (List ℕ))) {a : Act} → In a (reprints indent cs) → (a ≡ keep → B) → ((c : List (List ℕ)) → In c cs → a ≡ decl_act indent c → B) → B
unfolding reprints
reprints-by indent [] here f g = f refl
reprints-by indent [] (there i) f g = elim i [ ]
reprints-by indent (c ∷ cs) here f g = g c here refl
reprints-by indent (c ∷ cs) (there i) f g = reprints-by indent cs i f (λ d k q. g d (there k) q)

-- whatever may become of a line leaves each register in it that the line declares and its region uses
pub used-stays : (run : List (List ℕ)) (l : List ℕ) (a : Act) (v : ℕ) → is_decl (trim_of l) ≡ true → In a (mays run l) → Names v (parts_of 44 (body_of (trim_of l))) → used_in v run ≡ true →
    Leaves v (take (from_of l) l) a
unfolding mays
used-stays run l a v d i n u =
    reprints-by (take (from_of l) l) (choices run (parts_of 44 (body_of (trim_of l))))
    (subst (λ (b : Bool). In a (cond b (reprints (take (from_of l) l) (choices run (parts_of 44 (body_of (trim_of l))))) (keep ∷ []))) d i)
    (λ e. as_it_was e)
    (λ c k e. reprinted c e (choices-keep run (parts_of 44 (body_of (trim_of l))) v u k n))

no_line : (x : List ℕ) → ◌≡◌ {A = List (List ℕ)} (x ∷ []) [] → ⊥
no_line x e = let z : suc 0 ≡ 0 = ap length e in omega arith

-- so a declaration with such a register does not go
pub used-not-gone : (run : List (List ℕ)) (l : List ℕ) (a : Act) (v : ℕ) → is_decl (trim_of l) ≡ true → In a (mays run l) → Names v (parts_of 44 (body_of (trim_of l))) → used_in v run ≡ true →
    act a l ≡ [] → ⊥
unfolding act decl_act
used-not-gone run l a v d i n u g = go (used-stays run l a v d i n u)
  where
    go : Leaves v (take (from_of l) l) a → ⊥
    go (as_it_was e) = no_line l (sym (ap (λ (b : Act). act b l) e) ∙ g)
    go (reprinted [] e k) = none_in [] refl k
    go (reprinted (x ∷ xs) e k) = no_line _ (sym (ap (λ (b : Act). act b l) e) ∙ g)
