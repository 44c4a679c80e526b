-- A table of parents needs no more entries than there are bytes `{`. Assumes nothing.
use Prim.Native.Nat.{ℕ, zero, suc, ◌+◌, ◌-◌, ◌≤◌}
use mathlib.Core.Path.{◌≡◌, refl, sym, ap, ◌∙◌}
use mathlib.Core.Bool.{Bool, true, false, cond}
use mathlib.Core.List.{List, [], ◌∷◌, ◌++◌}
use native.Mathlib.Omega.{arith}
use borrow.Author.Tests.{eqb-true}
use lib.ListN.{length, get_or, take, drop, replicate, length-append}
use lib.Dec.{eqb}
use Rattle.lines.specs.Lf.{count_of, ends_in, cut_on, lines_of}
use Rattle.lines.proofs.Counts.{count-append}
use Rattle.text.specs.Trim.{from_of, to_of, trim_of}
use Rattle.lexical.specs.declared.Token.{Token}
use Rattle.lexical.specs.declared.Kind.{Kind}
use Rattle.lexical.specs.declared.Kind.TheVariants.{Kept, Literal, Gone}
use Rattle.lexical.specs.declared.Open.{Open}
use Rattle.lexical.specs.declared.Open.TheVariants.{Nothing}
use Rattle.lexical.specs.Joined.{taken, open_below, rests_from, rests_in}
use Rattle.lexical.specs.Lex.{last_of, token_of, leaves, lex_go, strip_lexical}
use Rattle.place.specs.Blocks.{Brace, opens, closes, neither, brace_of}
use Rattle.place.specs.Paths.{path_closes}
use Rattle.place.specs.Inner.Parents.{cur_at, ups_at, ups_by, flat, braces, ids_pre, ids_post, path_pre, path_open, path_post, ids_parents, path_parents}

-- ---- how many braces open

unfoldable pub opens_in : List Brace → ℕ
opens_in [] = 0
opens_in (opens ∷ bs) = suc (opens_in bs)
opens_in (closes ∷ bs) = opens_in bs
opens_in (neither ∷ bs) = opens_in bs

opens-append : (xs ys : List Brace) → opens_in (xs ++ ys) ≡ opens_in xs + opens_in ys
unfolding opens_in
opens-append [] ys = omega arith
opens-append (opens ∷ xs) ys = let r = opens-append xs ys in omega arith
opens-append (closes ∷ xs) ys = opens-append xs ys
opens-append (neither ∷ xs) ys = opens-append xs ys

-- the table grows by one entry for each
pub ups-length : (bs : List Brace) (c : ℕ) (ups : List ℕ) → length (ups_by bs c ups) ≡ length ups + opens_in bs
unfolding ups_by ups_at opens_in
ups-length [] c ups = omega arith
ups-length (opens ∷ bs) c ups = let r = ups-length bs (cur_at opens c ups) (ups ++ c ∷ []) in omega (arith, length-append ups (c ∷ []))
ups-length (closes ∷ bs) c ups = ups-length bs (cur_at closes c ups) ups
ups-length (neither ∷ bs) c ups = ups-length bs c ups

-- ---- of bytes

opens-count : (l : List ℕ) → opens_in (braces l) ≡ count_of 123 l
unfolding braces brace_of count_of opens_in
opens-count [] = refl
opens-count (x ∷ xs) = go (eqb x 123) (eqb x 125) (opens-count xs)
  where
    go : (a b : Bool) → opens_in (braces xs) ≡ count_of 123 xs → opens_in (cond a opens (cond b closes neither) ∷ braces xs) ≡ cond a (suc (count_of 123 xs)) (count_of 123 xs)
    go true b h = ap suc h
    go false true h = h
    go false false h = h

opens-closes : (k : ℕ) → opens_in (replicate k closes) ≡ 0
unfolding opens_in
opens-closes zero = refl
opens-closes (suc k) = opens-closes k

count-step : (b x : ℕ) (xs : List ℕ) → count_of b xs ≤ count_of b (x ∷ xs)
unfolding count_of
count-step b x xs = go (eqb x b)
  where
    go : (t : Bool) → count_of b xs ≤ cond t (suc (count_of b xs)) (count_of b xs)
    go true = omega arith
    go false = omega arith

pub count-drop : (b n : ℕ) (l : List ℕ) → count_of b (drop n l) ≤ count_of b l
count-drop b zero l = omega arith
count-drop b (suc n) [] = omega arith
count-drop b (suc n) (x ∷ xs) = let r = count-drop b n xs in let s = count-step b x xs in omega arith

pub count-take : (b n : ℕ) (l : List ℕ) → count_of b (take n l) ≤ count_of b l
unfolding count_of
count-take b zero l = omega arith
count-take b (suc n) [] = omega arith
count-take b (suc n) (x ∷ xs) = go (eqb x b) (count-take b n xs)
  where
    go : (t : Bool) → count_of b (take n xs) ≤ count_of b xs → cond t (suc (count_of b (take n xs))) (count_of b (take n xs)) ≤ cond t (suc (count_of b xs)) (count_of b xs)
    go true h = omega arith
    go false h = h

count-trim : (b : ℕ) (l : List ℕ) → count_of b (trim_of l) ≤ count_of b l
unfolding trim_of
count-trim b l = let s = count-take b (to_of (drop (from_of l) l)) (drop (from_of l) l) in let r = count-drop b (from_of l) l in omega arith

-- cleaning adds none but `S`
count-leaves : (b : ℕ) (k : Kind) (x : ℕ) (xs : List ℕ) → eqb 83 b ≡ false → count_of b (leaves k x) + count_of b xs ≤ count_of b (x ∷ xs)
unfolding count_of
count-leaves b Kept x xs e = go (eqb x b)
  where
    go : (t : Bool) → cond t 1 0 + count_of b xs ≤ cond t (suc (count_of b xs)) (count_of b xs)
    go true = omega arith
    go false = omega arith
count-leaves b Literal x xs e = rw e (let r = count-step b x xs in omega arith)
count-leaves b Gone x xs e = let r = count-step b x xs in omega arith

count-lex : (b : ℕ) (l : List ℕ) (k : ℕ) (out : List ℕ) → eqb 83 b ≡ false → count_of b (lex_go l k out) ≤ count_of b out + count_of b l
unfolding lex_go
count-lex b [] k out e = omega arith
count-lex b (x ∷ xs) (suc k) out e = let r = count-lex b xs k out e in let s = count-step b x xs in omega arith
count-lex b (x ∷ xs) zero out e =
    let t : Token = token_of (last_of out) x xs in
    let r = count-lex b xs (t.size - 1) (out ++ leaves t.kind x) e in
    let a = count-append b out (leaves t.kind x) in
    let s = count-leaves b t.kind x xs e in
    omega arith

pub count-strip : (b : ℕ) (l : List ℕ) → eqb 83 b ≡ false → count_of b (strip_lexical l) ≤ count_of b l
unfolding strip_lexical count_of
count-strip b l e = let r = count-lex b l 0 [] e in omega arith

count-last : (b : ℕ) (t : List ℕ) → ends_in b t ≡ true → (eqb 0 b ≡ false) → 1 ≤ count_of b t
unfolding count_of
count-last b [] h z = let q : ◌≡◌ {A = ℕ} 0 1 = cc in absurd (omega arith)
count-last b (x ∷ []) h z = rw h (omega arith)
count-last b (x ∷ y ∷ t) h z =
    let q : suc (suc (length t)) - 1 ≡ suc (suc (length t) - 1) = omega arith in
    let r = count-last b (y ∷ t) (ap (λ (k : ℕ). eqb (get_or (x ∷ y ∷ t) k 0) b) (sym q) ∙ h) z in
    let s = count-step b x (y ∷ t) in
    omega arith

-- ---- of lines

-- how many bytes b the lines hold
unfoldable pub count_all : ℕ → List (List ℕ) → ℕ
count_all b [] = 0
count_all b (l ∷ ls) = count_of b l + count_all b ls

pub count-all : (b : ℕ) (t : List ℕ) → eqb 10 b ≡ false → count_all b (lines_of t) ≡ count_of b t
unfolding count_all lines_of count_of cut_on
count-all b [] n = refl
count-all b (x ∷ xs) n = go (eqb x 10) refl (eqb x b) refl (lines_of xs) (count-all b xs n)
  where
    go : (u : Bool) → eqb x 10 ≡ u → (v : Bool) → eqb x b ≡ v → (ls : List (List ℕ)) → count_all b ls ≡ count_of b xs →
        count_all b (cut_on u x ls) ≡ cond v (suc (count_of b xs)) (count_of b xs)
    go true e true f ls h =
        let z : eqb 10 b ≡ true = ap (λ (m : ℕ). eqb m b) (sym (eqb-true x 10 e)) ∙ f in
        let q : ◌≡◌ {A = ℕ} 0 1 = cc in
        absurd (omega arith)
    go true e false f ls h = omega arith
    go false e true f [] h = rw f (omega arith)
    go false e false f [] h = rw f h
    go false e true f (l ∷ ls) h = rw f (omega arith)
    go false e false f (l ∷ ls) h = rw f h

module _ (pre post : List ℕ → List Brace) (few : (l : List ℕ) → opens_in (pre l ++ post l) ≤ count_of 123 l) where
  flat-le : (ls : List (List ℕ)) → opens_in (flat pre post ls) ≤ count_all 123 ls
  unfolding flat count_all opens_in
  flat-le [] = omega arith
  flat-le (l ∷ ls) = let a = opens-append (pre l ++ post l) (flat pre post ls) in let b = few l in let c = flat-le ls in omega arith

  parents-le : (ls : List (List ℕ)) → length (ups_by (flat pre post ls) 0 []) ≤ count_all 123 ls
  parents-le ls = let a = ups-length (flat pre post ls) 0 [] in let b = flat-le ls in omega arith

ids-few : (l : List ℕ) → opens_in (ids_pre l ++ ids_post l) ≤ count_of 123 l
unfolding ids_post
ids-few l = let a = opens-count (strip_lexical l) in let b = count-strip 123 l refl in omega arith

open-few : (t : List ℕ) → opens_in (path_open t) ≤ count_of 123 t
unfolding path_open opens_in
open-few t = go (ends_in 123 t) refl
  where
    go : (b : Bool) → ends_in 123 t ≡ b → opens_in (cond b (opens ∷ []) []) ≤ count_of 123 t
    go true e = count-last 123 t e refl
    go false e = omega arith

path-few : (l : List ℕ) → opens_in (path_pre l ++ path_post l) ≤ count_of 123 l
unfolding path_pre path_post
path-few l =
    let a = opens-append (replicate (path_closes (trim_of l)) closes) (path_open (trim_of l)) in
    let b = opens-closes (path_closes (trim_of l)) in
    let c = open-few (trim_of l) in
    let d = count-trim 123 l in
    omega arith

-- the room of the two, of lines and of a text
pub ids-parents-le : (ls : List (List ℕ)) → length (ids_parents ls) ≤ count_all 123 ls
unfolding ids_parents
ids-parents-le ls = parents-le ids_pre ids_post ids-few ls

pub path-parents-le : (ls : List (List ℕ)) → length (path_parents ls) ≤ count_all 123 ls
unfolding path_parents
path-parents-le ls = parents-le path_pre path_post path-few ls

-- the rests of lines have no more of a byte than the lines
rests-few : (b : ℕ) (o : Open) (ls : List (List ℕ)) → count_all b (rests_from o ls) ≤ count_all b ls
unfolding rests_from count_all
rests-few b o [] = omega arith
rests-few b o (l ∷ ls) = let r = rests-few b (open_below o l) ls in let d = count-drop b (taken o l) l in omega arith

rests-in-few : (b : ℕ) (joined : Bool) (ls : List (List ℕ)) → count_all b (rests_in joined ls) ≤ count_all b ls
rests-in-few b true ls = rests-few b Nothing ls
rests-in-few b false ls = omega arith

pub ids-parents-text : (joined : Bool) (t : List ℕ) → length (ids_parents (rests_in joined (lines_of t))) ≤ count_of 123 t
ids-parents-text joined t =
    let a = ids-parents-le (rests_in joined (lines_of t)) in
    let r = rests-in-few 123 joined (lines_of t) in
    let b = count-all 123 t refl in
    omega arith

pub path-parents-text : (t : List ℕ) → length (path_parents (lines_of t)) ≤ count_of 123 t
path-parents-text t = let a = path-parents-le (lines_of t) in let b = count-all 123 t refl in omega arith
