-- A declaration that is written anew weighs no more, and each name that it loses pays 4. Assumes nothing.
use Prim.Native.Nat.{ℕ, zero, suc, ◌+◌, ◌-◌, ◌*◌, ◌≤◌, ◌<◌}
use mathlib.Core.Path.{◌≡◌, refl, sym, ap, ◌∙◌}
use mathlib.Core.Bool.{Bool, true, false, cond, ◌&&◌}
use mathlib.Core.List.{List, [], ◌∷◌, ◌++◌}
use native.Mathlib.Omega.{arith}
use borrow.Author.Tests.{eqb-true, ne_eqb, ltb-true, leb-true, le-leb}
use lib.ListN.{length, take, drop, get_or, length-drop, take-append-drop}
use lib.Seq.{get_or-drop, drop-drop}
use lib.Dec.{eqb, leb, ltb}
use Rattle.lines.specs.Lf.{parts_of, cut_on, unlines, prefixed, ends_in, all}
use Rattle.lines.specs.Acts.{keep, act}
use Rattle.lines.proofs.Tests.{no, and_left, and_right, and_both}
use Rattle.text.specs.White.{is_white}
use Rattle.text.specs.Utf8Form.{seq_len}
use Rattle.text.specs.Trim.{white_char, white_head, lead, from_of, to_of, trim_of}
use Rattle.names.specs.Names.{read_number, reg_of, is_reg}
use Rattle.names.specs.Inner.Names.{zeros}
use Rattle.std.specs.declared.option.Option.TheVariants.{Some, None}
use Rattle.parse.specs.Parse.{let_word, body_of, all_regs, is_decl}
use Rattle.weight.specs.Inner.Weight.{spaced, extra, heavy, weight}
use Rattle.weight.proofs.Weigh.{length-weight, weight-append, weight-cut, weight-take, weight-drop, weight-rest, spaced-drop, weight-line, nothing}
use Rattle.weight.proofs.Pays.{Pays, done, step, pays}
use Rattle.weight.proofs.Moves.{Sub, stop, skip, sub_self, sub-append, sub-weight}
use Rattle.place.specs.Region.{region, region_at}
use Rattle.decls.specs.Decls.{commas, decl_act, keep_names, act_of, acts_go, prune_decls_acts, prune_decls}
use Rattle.decls.specs.Inner.Decls.{stays}
use Rattle.decls.specs.Inner.Print.{bare_name, one, kept}
use Rattle.decls.proofs.Writes.{names-kept}

-- ---- the pieces of a body

-- what the comma before a piece weighs
unfoldable gain : List ℕ → ℕ
gain p = cond (spaced p) 1 2

-- the first piece
unfoldable first : List (List ℕ) → List ℕ
first [] = []
first (p ∷ ps) = p

gain-in : (p : List ℕ) → (1 ≤ gain p) × (gain p ≤ 2)
unfolding gain
gain-in p = go (spaced p)
  where
    go : (v : Bool) → (1 ≤ cond v 1 2) × (cond v 1 2 ≤ 2)
    go true = (omega arith, omega arith)
    go false = (omega arith, omega arith)

module _ (x : ℕ) (xs : List ℕ) where
  spaced-by : (b : Bool) (ps : List (List ℕ)) → eqb x 44 ≡ b → spaced (x ∷ xs) ≡ spaced (first (cut_on b x ps))
  unfolding spaced first cut_on
  spaced-by true ps e = let q = eqb-true x 44 e in ne_eqb x 32 (λ z. omega arith)
  spaced-by false [] e = refl
  spaced-by false (q ∷ qs) e = refl

  comma-gain : (p : List ℕ) → spaced xs ≡ spaced p → suc (extra true (spaced xs)) ≡ gain p
  unfolding gain extra
  comma-gain p h = rw h (go (spaced p))
    where
      go : (v : Bool) → suc (extra true v) ≡ cond v 1 2
      go true = refl
      go false = refl

parts-spaced : (s : List ℕ) → spaced s ≡ spaced (first (parts_of 44 s))
unfolding parts_of first spaced
parts-spaced [] = refl
parts-spaced (x ∷ xs) = spaced-by x xs (eqb x 44) (parts_of 44 xs) refl

from-space : (r : List ℕ) → from_of (32 ∷ r) ≡ suc (lead 0 r)
unfolding from_of lead white_head white_char seq_len is_white
from-space r = refl

-- ---- a declaration of registers

let-first : (n : ℕ) (u : List ℕ) → prefixed let_word (take n u) ≡ true → spaced u ≡ false
unfolding prefixed spaced
let-first n [] h = refl
let-first zero (x ∷ u) h = no h
let-first (suc n) (x ∷ u) h = let q = eqb-true 108 x (and_left (eqb 108 x) _ h) in ne_eqb x 32 (λ z. omega arith)

-- what a declaration of registers is made of
pub record DeclParts (t : List ℕ) : Type 0 where
  pub long : 4 < length t
  pub lets : prefixed let_word t ≡ true
  pub ends : ends_in 59 t ≡ true
  pub regs : all_regs (parts_of 44 (body_of t)) ≡ true

pub decl-parts : (t : List ℕ) → is_decl t ≡ true → DeclParts t
unfolding is_decl
decl-parts t h =
    let a = and_right (ltb 4 (length t)) (prefixed let_word t && (ends_in 59 t && all_regs (parts_of 44 (body_of t)))) h in
    let b = and_right (prefixed let_word t) (ends_in 59 t && all_regs (parts_of 44 (body_of t))) a in
    record {
      long = ltb-true 4 (length t) (and_left (ltb 4 (length t)) (prefixed let_word t && (ends_in 59 t && all_regs (parts_of 44 (body_of t)))) h);
      lets = and_left (prefixed let_word t) (ends_in 59 t && all_regs (parts_of 44 (body_of t))) a;
      ends = and_left (ends_in 59 t) (all_regs (parts_of 44 (body_of t))) b;
      regs = and_right (ends_in 59 t) (all_regs (parts_of 44 (body_of t))) b;
    }

-- a piece has two bytes or more, trimmed
abbrev pub long_piece : List ℕ → Bool
long_piece p = leb 2 (length (trim_of p))

-- how many names are left out
unfoldable pub left_out : (List ℕ → Bool) → List (List ℕ) → ℕ
left_out f [] = 0
left_out f (p ∷ ps) = cond (f (trim_of p)) (left_out f ps) (suc (left_out f ps))

reg-long : (t : List ℕ) → is_reg (reg_of t) ≡ true → 2 ≤ length t
unfolding reg_of prefixed read_number
reg-long [] h = no h
reg-long (x ∷ []) h = go (eqb 114 x) h
  where
    go : (b : Bool) → is_reg (cond (b && true) None None) ≡ true → 2 ≤ 1
    go true g = no g
    go false g = no g
reg-long (x ∷ d ∷ ds) h = omega arith

pub regs_long : (ps : List (List ℕ)) → all_regs ps ≡ true → all long_piece ps ≡ true
unfolding all_regs
regs_long [] h = refl
regs_long (p ∷ ps) h =
    and_both (le-leb 2 (length (trim_of p)) (reg-long (trim_of p) (and_left (is_reg (reg_of (trim_of p))) (all_regs ps) h)))
    (regs_long ps (and_right (is_reg (reg_of (trim_of p))) (all_regs ps) h))

sub-drop : (n : ℕ) (l : List ℕ) → Sub (drop n l) l
sub-drop zero l = sub_self l
sub-drop (suc n) [] = stop
sub-drop (suc n) (x ∷ l) = skip x (sub-drop n l)

-- ---- names that stay, each no heavier than its piece, and how many are left out

pub data Picks (H : ℕ) : List (List ℕ) → List (List ℕ) → ℕ → Type 0 where
  over : Picks H [] [] 0
  keeps : {p x : List ℕ} {ps xs : List (List ℕ)} {r : ℕ} → weight H x ≤ weight H (trim_of p) → Picks H ps xs r → Picks H (p ∷ ps) (x ∷ xs) r
  leaves : {p : List ℕ} {ps xs : List (List ℕ)} {r : ℕ} → 2 ≤ weight H (trim_of p) → Picks H ps xs r → Picks H (p ∷ ps) xs (suc r)

-- ---- laws for every weight of `{`: H is what each weighs more than another byte

module _ (H : ℕ) where
  -- pieces and their commas
  unfoldable mass : List (List ℕ) → ℕ
  mass [] = 0
  mass (p ∷ ps) = weight H p + gain p + mass ps

  none : weight H [] ≡ 0
  unfolding weight
  none = refl

  module _ (x : ℕ) (xs : List ℕ) where
    weight-head : (b : Bool) → eqb x 44 ≡ b → (l : List ℕ) → weight H (x ∷ l) ≡ suc (extra b (spaced l) + (heavy H x + weight H l))
    unfolding weight
    weight-head b e l = ap (λ (v : Bool). suc (extra v (spaced l) + (heavy H x + weight H l))) e

    mass-by : (b : Bool) (ps : List (List ℕ)) → eqb x 44 ≡ b → spaced xs ≡ spaced (first ps) → weight H xs + gain (first ps) ≡ mass ps →
        weight H (x ∷ xs) + gain (first (cut_on b x ps)) ≡ mass (cut_on b x ps)
    unfolding first cut_on mass gain spaced extra
    mass-by true ps e s h =
        let a = weight-head true e xs in
        let c : heavy H x ≡ 0 = ap (heavy H) (eqb-true x 44 e) in
        let g = comma-gain x xs (first ps) s in
        let w = none in
        omega arith
    mass-by false [] e s h = let g = (gain-in []).0 in absurd (omega arith)
    mass-by false (q ∷ qs) e s h =
        let a : weight H (x ∷ xs) ≡ suc (0 + (heavy H x + weight H xs)) = weight-head false e xs in
        let c : weight H (x ∷ q) ≡ suc (0 + (heavy H x + weight H q)) = weight-head false e q in
        omega arith

  parts-mass : (s : List ℕ) → weight H s + gain (first (parts_of 44 s)) ≡ mass (parts_of 44 s)
  unfolding parts_of first mass
  parts-mass [] = omega arith
  parts-mass (x ∷ xs) = mass-by x xs (eqb x 44) (parts_of 44 xs) refl (parts-spaced xs) (parts-mass xs)

  -- ---- a piece, trimmed

  pub trim-le : (p : List ℕ) → weight H (trim_of p) ≤ weight H p
  unfolding trim_of
  trim-le p = let a = weight-take H (to_of (drop (from_of p) p)) (drop (from_of p) p) in let b = weight-rest H (from_of p) p in omega arith

  trim-space : (r : List ℕ) → weight H (trim_of (32 ∷ r)) ≤ weight H r
  unfolding trim_of
  trim-space r =
      let a = weight-take H (to_of (drop (from_of (32 ∷ r)) (32 ∷ r))) (drop (from_of (32 ∷ r)) (32 ∷ r)) in
      let b = weight-rest H (lead 0 r) r in
      let c : weight H (drop (from_of (32 ∷ r)) (32 ∷ r)) ≡ weight H (drop (lead 0 r) r) = ap (λ (k : ℕ). weight H (drop k (32 ∷ r))) (from-space r) in
      omega arith

  -- a comma and a piece weigh no less than a comma, a space and the trimmed piece
  trim-gain : (p : List ℕ) → weight H (trim_of p) + 2 ≤ weight H p + gain p
  unfolding gain spaced weight
  trim-gain [] = let a = trim-le [] in omega arith
  trim-gain (x ∷ xs) = go (eqb x 32) refl
    where
      go : (v : Bool) → eqb x 32 ≡ v → weight H (trim_of (x ∷ xs)) + 2 ≤ suc (extra (eqb x 44) (spaced xs) + (heavy H x + weight H xs)) + cond v 1 2
      go false e = let a = trim-le (x ∷ xs) in omega arith
      go true e =
          let q = eqb-true x 32 e in
          let a = trim-space xs in
          let b : weight H (trim_of (x ∷ xs)) ≡ weight H (trim_of (32 ∷ xs)) = ap (λ (y : ℕ). weight H (trim_of (y ∷ xs))) q in
          omega arith

  -- names, each with a comma and a space
  unfoldable listed : List (List ℕ) → ℕ
  listed [] = 0
  listed (x ∷ xs) = weight H x + 2 + listed xs

  picks-mass : {ps xs : List (List ℕ)} {r : ℕ} → Picks H ps xs r → listed xs + 4 * r ≤ mass ps
  unfolding listed mass
  picks-mass over = omega arith
  picks-mass (keeps {p} {x} h k) = let a = picks-mass k in let b = trim-gain p in omega arith
  picks-mass (leaves {p} h k) = let a = picks-mass k in let b = trim-gain p in omega arith

  commas-le : (x : List ℕ) (xs : List (List ℕ)) → weight H (commas x xs) + 2 ≤ listed (x ∷ xs)
  unfolding commas listed weight spaced extra
  commas-le x [] = omega arith
  commas-le x (y ∷ ys) = let a = commas-le y ys in let b = weight-append H x (44 ∷ 32 ∷ commas y ys) in omega arith

  -- ---- the line

  -- a line has an indent, `let `, a body and `;`
  pub Declares : List ℕ → List ℕ → List ℕ → Type 0
  Declares indent body l = weight H indent + 5 + weight H body ≤ weight H l

  anew-le : (indent c : List ℕ) → weight H (indent ++ let_word ++ c ++ 59 ∷ []) ≤ weight H indent + 5 + weight H c
  unfolding weight spaced extra
  anew-le indent c =
      let a = weight-append H (indent ++ let_word ++ c) (59 ∷ []) in
      let b = weight-append H (indent ++ let_word) c in
      let d = weight-append H indent let_word in
      omega arith

  -- the law of a declaration: what it becomes weighs no more, and each name that is left out pays 4
  pub decl-pays : (indent body l : List ℕ) (xs : List (List ℕ)) (r : ℕ) → Declares indent body l → Picks H (parts_of 44 body) xs r →
      weight H (unlines (act (decl_act indent xs) l)) + 4 * r ≤ weight H l + 1
  unfolding decl_act act unlines Declares
  decl-pays indent body l [] r h k =
      let a = picks-mass k in let b = parts-mass body in let c = (gain-in (first (parts_of 44 body))).1 in let d = none in omega arith
  decl-pays indent body l (x ∷ xs) r h k =
      let a = picks-mass k in
      let b = parts-mass body in
      let c = (gain-in (first (parts_of 44 body))).1 in
      let d = commas-le x xs in
      let e = anew-le indent (commas x xs) in
      let f = weight-line H (indent ++ let_word ++ commas x xs ++ 59 ∷ []) [] in
      let g = none in
      omega arith

  -- a text of `let `, a body and `;`
  let-weight : (t : List ℕ) → 4 < length t → ends_in 59 t ≡ true → 5 + weight H (body_of t) ≤ weight H t
  let-weight t h e =
      let a = weight-drop H 4 t (omega arith) in
      let q = eqb-true (get_or t (length t - 1) 0) 59 e in
      let k : 4 + (length t - 1 - 4) ≡ length t - 1 = omega arith in
      let g : get_or (drop 4 t) (length t - 1 - 4) 0 ≡ 59 = get_or-drop 4 t (length t - 1 - 4) 0 ∙ ap (λ (n : ℕ). get_or t n 0) k ∙ q in
      let s : spaced (drop (length t - 1 - 4) (drop 4 t)) ≡ false = spaced-drop (length t - 1 - 4) (drop 4 t) ∙ ap (λ (n : ℕ). eqb n 32) g in
      let w : weight H (drop 4 t) ≡ weight H (body_of t) + weight H (drop (length t - 1 - 4) (drop 4 t)) =
      ap (weight H) (sym (take-append-drop (length t - 1 - 4) (drop 4 t))) ∙ weight-cut H (body_of t) (drop (length t - 1 - 4) (drop 4 t)) s in
      let d = length-weight H (drop (length t - 1 - 4) (drop 4 t)) in
      let m = length-drop (length t - 1 - 4) (drop 4 t) in
      let n = length-drop 4 t in
      omega arith

  -- a line that is `let `, a body and `;` behind its indent, whatever its names are: t is as much of it as is read
  pub declares-by : (l t : List ℕ) (n : ℕ) → t ≡ take n (drop (from_of l) l) → 4 < length t → prefixed let_word t ≡ true → ends_in 59 t ≡ true → Declares (take (from_of l) l) (body_of t) l
  unfolding Declares
  declares-by l t n z m p e =
      let s : spaced (drop (from_of l) l) ≡ false = let-first n (drop (from_of l) l) (ap (prefixed let_word) (sym z) ∙ p) in
      let w : weight H l ≡ weight H (take (from_of l) l) + weight H (drop (from_of l) l) =
      ap (weight H) (sym (take-append-drop (from_of l) l)) ∙ weight-cut H (take (from_of l) l) (drop (from_of l) l) s in
      let a : weight H t ≤ weight H (drop (from_of l) l) = rw z (weight-take H n (drop (from_of l) l)) in
      let b : 5 + weight H (body_of t) ≤ weight H t = let-weight t m e in
      omega arith

  pub declares : (l : List ℕ) → is_decl (trim_of l) ≡ true → Declares (take (from_of l) l) (body_of (trim_of l)) l
  unfolding trim_of
  declares l h = let p = decl-parts (trim_of l) h in declares-by l (trim_of l) (to_of (drop (from_of l) l)) refl p.long p.lets p.ends

  -- ---- names, over any test of what stays

  -- a name as it is printed weighs no more than it did: only bytes go
  pub bare-le : (k : ℕ) (t : List ℕ) → weight H (bare_name k t) ≤ weight H t
  unfolding bare_name
  bare-le k t =
      let s : Sub (drop (k + zeros (drop k t)) t) (drop k t) = rw (← drop-drop (zeros (drop k t)) k t) (sub-drop (zeros (drop k t)) (drop k t)) in
      let w : Sub (take k t ++ drop (k + zeros (drop k t)) t) (take k t ++ drop k t) = sub-append (sub_self (take k t)) s in
      rw take-append-drop at (sub-weight H w)

  pub picks-kept : (f : List ℕ → Bool) (k : ℕ) (ps : List (List ℕ)) → all long_piece ps ≡ true → Picks H ps (kept f k ps) (left_out f ps)
  unfolding kept left_out
  picks-kept f k [] h = over
  picks-kept f k (p ∷ ps) h =
      go (f (trim_of p)) (picks-kept f k ps (and_right (long_piece p) (all long_piece ps) h)) (leb-true 2 (length (trim_of p)) (and_left (long_piece p) (all long_piece ps) h))
    where
      go : (b : Bool) → Picks H ps (kept f k ps) (left_out f ps) → 2 ≤ length (trim_of p) → Picks H (p ∷ ps) (one b k (trim_of p) ++ kept f k ps) (cond b (left_out f ps) (suc (left_out f ps)))
      go true g q = keeps (bare-le k (trim_of p)) g
      go false g q = let w = length-weight H (trim_of p) in leaves {p = p} (omega arith) g

  -- a declaration of registers, with any test of what stays
  pub regs-pay : (f : List ℕ → Bool) (l : List ℕ) → is_decl (trim_of l) ≡ true →
      weight H (unlines (act (decl_act (take (from_of l) l) (kept f 1 (parts_of 44 (body_of (trim_of l))))) l)) + 4 * left_out f (parts_of 44 (body_of (trim_of l))) ≤ weight H l + 1
  regs-pay f l h =
      decl-pays (take (from_of l) l) (body_of (trim_of l)) l (kept f 1 (parts_of 44 (body_of (trim_of l)))) (left_out f (parts_of 44 (body_of (trim_of l)))) (declares l h)
      (picks-kept f 1 (parts_of 44 (body_of (trim_of l))) (regs_long (parts_of 44 (body_of (trim_of l))) (decl-parts (trim_of l) h).regs))

  -- ---- the pass

  act-pays : (run : List (List ℕ)) (l : List ℕ) → weight H (unlines (act (act_of run l) l)) ≤ weight H l + 1
  unfolding act_of act
  act-pays run l = go (is_decl (trim_of l)) refl
    where
      go : (b : Bool) → is_decl (trim_of l) ≡ b → weight H (unlines (act (cond b (decl_act (take (from_of l) l) (keep_names run (parts_of 44 (body_of (trim_of l))))) keep) l)) ≤ weight H l + 1
      go true e = rw (names-kept run (parts_of 44 (body_of (trim_of l)))) (let r = regs-pay (stays run) l e in omega arith)
      go false e = let f = weight-line H l [] in let g = nothing H in omega arith

  go-pays : (ls run : List (List ℕ)) → Pays H 0 (acts_go ls run) ls
  unfolding acts_go
  go-pays [] run = done
  go-pays (l ∷ ls) run = let a = act-pays (region_at l ls run) l in step {c = 0} {a = act_of (region_at l ls run) l} {l = l} 0 (omega arith) (go-pays ls (region_at l ls run))

  pub prune-weight : (ls : List (List ℕ)) → weight H (unlines (prune_decls ls)) ≤ weight H (unlines ls)
  unfolding prune_decls prune_decls_acts
  prune-weight ls = let r = pays (go-pays ls (region ls)) in omega arith
