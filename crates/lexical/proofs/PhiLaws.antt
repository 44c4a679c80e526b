-- A value of a phi, byte by byte. Assumes nothing.
use Prim.Native.Nat.{ℕ, ◌≤◌, ◌<◌}
use mathlib.Core.Path.{◌≡◌, refl, sym, ap, ◌∙◌}
use mathlib.Core.Bool.{Bool, true, false, not, ◌&&◌, ◌||◌}
use mathlib.Core.List.{List, [], ◌∷◌, ◌++◌}
use native.Mathlib.Omega.{arith}
use lib.Dec.{eqb}
use lib.ListN.{length, drop, get_or}
use Rattle.lines.specs.Lf.{among, prefixed}
use Rattle.lexical.specs.declared.Seen.{Seen}
use Rattle.lexical.specs.declared.Tail.{Tail}
use Rattle.lexical.specs.declared.Step.{Step}
use Rattle.lexical.specs.Lex.{leaves}
use Rattle.lexical.specs.Inner.Lex.{tail_of, clean_step}
use Rattle.lexical.specs.Phi.{any_of, assigns, phi_pure, phi_rhs_pure}
use Rattle.lexical.specs.Inner.Phi.{sees, sees_all, unseen}
use Rattle.lexical.proofs.ByteLaws.{first-is}
use Rattle.lexical.proofs.LexLaws.{LexAt, lex-start, lex-next, lex-end}

pub sees-append : (xs ys : List ℕ) (w : Seen) → sees_all (sees_all w xs) ys ≡ sees_all w (xs ++ ys)
unfolding sees_all
sees-append [] ys w = refl
sees-append (x ∷ xs) ys w = sees-append xs ys (sees w x)

-- ---- what was seen decides

and_assoc : (a b c : Bool) → a && b && c ≡ a && (b && c)
and_assoc true b c = refl
and_assoc false b c = refl

-- the tests of a byte, and those of what follows it, put in order
sorted : (e a x n z : Bool) → e || (a || x) || (n || z) ≡ e || (a || n || (x || z))
sorted true a x n z = refl
sorted false true x n z = refl
sorted false false true true z = refl
sorted false false true false z = refl
sorted false false false n z = refl

-- an effect in w, or in the text after it
found : Seen → List ℕ → Bool
found w t = w.effect || (any_of (40 ∷ 91 ∷ 46 ∷ []) t || (w.waits && not (prefixed (61 ∷ []) t) || assigns t w.prev))

seen-found : (t : List ℕ) (w : Seen) → (sees_all w t).effect || (sees_all w t).waits ≡ found w t
unfolding sees_all sees found any_of assigns prefixed
seen-found [] w = go w.effect w.waits
  where
    go : (e u : Bool) → e || u ≡ e || (false || (u && true || false))
    go true u = refl
    go false true = refl
    go false false = refl
seen-found (c ∷ cs) w =
    let p : Bool = eqb c 61 in
    let m : Bool = not (among (61 ∷ 33 ∷ 60 ∷ 62 ∷ []) w.prev) in
    let f : Bool = not (prefixed (61 ∷ []) cs) in
    let a : Bool = among (40 ∷ 91 ∷ 46 ∷ []) c in
    let n : Bool = any_of (40 ∷ 91 ∷ 46 ∷ []) cs in
    let g : Bool = assigns cs c in
    seen-found cs (sees w c)
    ∙ ap (λ (y : Bool). w.effect || (a || (w.waits && not p)) || (n || (y || g))) (and_assoc p m f)
    ∙ sorted w.effect a (w.waits && not p) n (p && (m && f) || g)
    ∙ ap (λ (y : Bool). w.effect || (a || n || (w.waits && not y || (p && (m && f) || g)))) (sym (first-is 61 (c ∷ cs) (omega arith)))

neither : (a b : Bool) → not (a || b) ≡ not a && not b
neither true b = refl
neither false b = refl

-- what was seen of a whole text says whether it is pure
seen-pure : (t : List ℕ) → not ((sees_all unseen t).effect || (sees_all unseen t).waits) ≡ phi_pure t
unfolding phi_pure found
seen-pure t = ap not (seen-found t unseen) ∙ neither (any_of (40 ∷ 91 ∷ 46 ∷ []) t) (assigns t 32)

-- ---- the loop of `phi_rhs_pure`

pub record PhiInv (s : List ℕ) (i : ℕ) (t : Tail) (w : Seen) : Type 0 where
  pub done : List ℕ
  pub lex : LexAt s i t done
  pub seen : w ≡ sees_all unseen done

pub phi-start : (s : List ℕ) (t : Tail) → t ≡ tail_of [] → PhiInv s 0 t unseen
unfolding sees_all
phi-start s t e = record { done = []; lex = lex-start s t e; seen = refl }

module _ {s : List ℕ} {i : ℕ} {t : Tail} {w : Seen} (h : PhiInv s i t w) where
  pub phi-next : (r : Step) → r ≡ clean_step i t (drop i s) → i < length s → (v : Seen) → v ≡ sees_all w (leaves r.kind (get_or s i 0)) → PhiInv s r.next r.tail v
  phi-next r q l v e = record {
    done = h.done ++ leaves r.kind (get_or s i 0);
    lex = lex-next h.lex r q l;
    seen = e ∙ ap (λ (u : Seen). sees_all u (leaves r.kind (get_or s i 0))) h.seen ∙ sees-append h.done (leaves r.kind (get_or s i 0)) unseen;
  }

  pub phi-end : length s ≤ i → not (w.effect || w.waits) ≡ phi_rhs_pure s
  unfolding phi_rhs_pure
  phi-end l = ap (λ (u : Seen). not (u.effect || u.waits)) h.seen ∙ seen-pure h.done ∙ ap phi_pure (lex-end h.lex l)
