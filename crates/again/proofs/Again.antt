-- Lines joined to a text and split again: what comes back, and what prune_decls makes of its own text. Assumes nothing.
use Prim.Native.Nat.{ℕ}
use mathlib.Core.Path.{◌≡◌, refl, sym, ap, ◌∙◌}
use mathlib.Core.Bool.{Bool, true, false, cond, not, ◌&&◌}
use mathlib.Core.List.{List, [], ◌∷◌, ◌++◌}
use native.Mathlib.Omega.{arith}
use lib.Dec.{eqb}
use lib.ListN.{length-append}
use Rattle.lines.specs.Lf.{lines_of, ends_in, prefixed}
use Rattle.lines.specs.Inner.Lf.{lacks, no_lf}
use Rattle.lines.specs.Steps.{drop_cr, split_lines, join_lines, settle, joined}
use Rattle.lines.proofs.Tests.{no, and_left, and_right, and-false, eqb-sym}
use Rattle.lines.proofs.LfLaws.{lines-line, lacks-cons}
use Rattle.lines.proofs.StepLaws.{drop-case, drop-one, ends_more, split-no_lf}
use Rattle.decls.specs.Decls.{prune_decls}
use Rattle.decls.proofs.Keeps.{keeps-no_lf}
use Rattle.again.specs.Shed.{uncr, shed_rest, lone, shed, firm, prune_text}
use Rattle.again.proofs.Reprint.{prune-twice}

-- ---- a line without LF

ends-lacks : (l : List ℕ) → lacks 10 l ≡ true → ends_in 10 l ≡ false
ends-lacks [] h = refl
ends-lacks (x ∷ []) h = (lacks-cons 10 x [] h).0
ends-lacks (x ∷ y ∷ l) h = ends_more 10 x (y ∷ l) (omega arith) ∙ ends-lacks (y ∷ l) (lacks-cons 10 x (y ∷ l) h).1

pre-not : (y : ℕ) (l : List ℕ) → eqb y 10 ≡ false → prefixed (10 ∷ []) (y ∷ l) ≡ false
unfolding prefixed
pre-not y l e = rw (eqb-sym 10 y ∙ e)

-- before an LF one CR goes
drop-line : (l r : List ℕ) → lacks 10 l ≡ true → drop_cr (l ++ 10 ∷ r) ≡ uncr l ++ 10 ∷ drop_cr r
unfolding drop_cr uncr prefixed
drop-line [] r h = refl
drop-line (x ∷ []) r h = go (eqb x 13)
  where
    go : (b : Bool) → cond (b && true) (10 ∷ drop_cr r) (x ∷ 10 ∷ drop_cr r) ≡ cond b [] (x ∷ []) ++ 10 ∷ drop_cr r
    go true = refl
    go false = refl
drop-line (x ∷ y ∷ l) r h =
    let k = (lacks-cons 10 x (y ∷ l) h).1 in
    drop-case x (y ∷ l ++ 10 ∷ r) false (ap (λ (b : Bool). eqb x 13 && b) (pre-not y (l ++ 10 ∷ r) (lacks-cons 10 y l k).0) ∙ and-false (eqb x 13))
    ∙ ap (λ (w : List ℕ). x ∷ w) (drop-line (y ∷ l) r k)

drop-open : (l : List ℕ) → lacks 10 l ≡ true → drop_cr l ≡ l
unfolding drop_cr
drop-open [] h = refl
drop-open (x ∷ []) h = drop-one x
drop-open (x ∷ y ∷ l) h =
    let k = (lacks-cons 10 x (y ∷ l) h).1 in
    drop-case x (y ∷ l) false (ap (λ (b : Bool). eqb x 13 && b) (pre-not y l (lacks-cons 10 y l k).0) ∙ and-false (eqb x 13))
    ∙ ap (λ (w : List ℕ). x ∷ w) (drop-open (y ∷ l) k)

lacks-to : (b x : ℕ) (l : List ℕ) → eqb x b ≡ false → lacks b l ≡ true → lacks b (x ∷ l) ≡ true
unfolding lacks
lacks-to b x l e h = rw e h

uncr-lacks : (l : List ℕ) → lacks 10 l ≡ true → lacks 10 (uncr l) ≡ true
unfolding uncr lacks
uncr-lacks [] h = refl
uncr-lacks (x ∷ []) h = go (eqb x 13)
  where
    go : (b : Bool) → lacks 10 (cond b [] (x ∷ [])) ≡ true
    go true = refl
    go false = h
uncr-lacks (x ∷ y ∷ l) h =
    let k = lacks-cons 10 x (y ∷ l) h in
    lacks-to 10 x (uncr (y ∷ l)) k.0 (uncr-lacks (y ∷ l) k.1)

split-line : (l r : List ℕ) → lacks 10 l ≡ true → split_lines (l ++ 10 ∷ r) ≡ uncr l ∷ split_lines r
unfolding split_lines
split-line l r h = ap lines_of (drop-line l r h) ∙ lines-line (uncr l) (drop_cr r) (uncr-lacks l h)

lines-one : (x : ℕ) (l : List ℕ) → lacks 10 (x ∷ l) ≡ true → lines_of (x ∷ l) ≡ (x ∷ l) ∷ []
unfolding lines_of
lines-one x [] h = rw (lacks-cons 10 x [] h).0
lines-one x (y ∷ l) h = let k = lacks-cons 10 x (y ∷ l) h in rw (k.0, lines-one y l k.1)

split_one : (x : ℕ) (l : List ℕ) → lacks 10 (x ∷ l) ≡ true → split_lines (x ∷ l) ≡ (x ∷ l) ∷ []
unfolding split_lines
split_one x l h = ap lines_of (drop-open (x ∷ l) h) ∙ lines-one x l h

-- ---- the last LF

-- what follows the LF of a line that is not the last, settled
tailed : Bool → List ℕ → List ℕ
tailed e [] = []
tailed e (x ∷ r) = settle e (x ∷ r)

ends-lf : (l : List ℕ) → ends_in 10 (l ++ 10 ∷ []) ≡ true
ends-lf [] = refl
ends-lf (x ∷ l) = ends_more 10 x (l ++ 10 ∷ []) (omega (arith, length-append l (10 ∷ []))) ∙ ends-lf l

ends-past : (l : List ℕ) (x : ℕ) (r : List ℕ) → ends_in 10 (l ++ 10 ∷ x ∷ r) ≡ ends_in 10 (x ∷ r)
ends-past [] x r = ends_more 10 10 (x ∷ r) (omega arith)
ends-past (y ∷ l) x r = ends_more 10 y (l ++ 10 ∷ x ∷ r) (omega (arith, length-append l (10 ∷ x ∷ r))) ∙ ends-past l x r

settle-by : (e b : Bool) (w : List ℕ) → ends_in 10 w ≡ b → settle e w ≡ cond (e && not b) (w ++ 10 ∷ []) w
unfolding settle
settle-by e b w h = rw h

assoc : (l r : List ℕ) → (l ++ 10 ∷ r) ++ 10 ∷ [] ≡ l ++ 10 ∷ (r ++ 10 ∷ [])
assoc [] r = refl
assoc (x ∷ l) r = ap (λ (w : List ℕ). x ∷ w) (assoc l r)

settle-front : (e : Bool) (l r : List ℕ) → settle e (l ++ 10 ∷ r) ≡ l ++ 10 ∷ tailed e r
unfolding tailed
settle-front e l [] = settle-by e true (l ++ 10 ∷ []) (ends-lf l) ∙ go e
  where
    go : (e : Bool) → cond (e && false) ((l ++ 10 ∷ []) ++ 10 ∷ []) (l ++ 10 ∷ []) ≡ l ++ 10 ∷ []
    go true = refl
    go false = refl
settle-front e l (x ∷ r) =
    settle-by e (ends_in 10 (x ∷ r)) (l ++ 10 ∷ x ∷ r) (ends-past l x r) ∙ go (e && not (ends_in 10 (x ∷ r)))
    ∙ ap (λ (w : List ℕ). l ++ 10 ∷ w) (sym (settle-by e (ends_in 10 (x ∷ r)) (x ∷ r) refl))
  where
    go : (b : Bool) → cond b ((l ++ 10 ∷ x ∷ r) ++ 10 ∷ []) (l ++ 10 ∷ x ∷ r) ≡ l ++ 10 ∷ cond b ((x ∷ r) ++ 10 ∷ []) (x ∷ r)
    go true = assoc l (x ∷ r)
    go false = refl

tailed-some : (e : Bool) (l r : List ℕ) → tailed e (l ++ 10 ∷ r) ≡ settle e (l ++ 10 ∷ r)
unfolding tailed
tailed-some e [] r = refl
tailed-some e (x ∷ l) r = refl

-- ---- joined and split again

split-nil : split_lines [] ≡ []
unfolding split_lines drop_cr lines_of
split-nil = refl

last-back : (e : Bool) (x : ℕ) (l : List ℕ) → lacks 10 (x ∷ l) ≡ true → split_lines (settle e (x ∷ l)) ≡ cond e (uncr (x ∷ l)) (x ∷ l) ∷ []
last-back e x l h = ap split_lines (settle-by e false (x ∷ l) (ends-lacks (x ∷ l) h)) ∙ go e
  where
    go : (e : Bool) → split_lines (cond (e && true) ((x ∷ l) ++ 10 ∷ []) (x ∷ l)) ≡ cond e (uncr (x ∷ l)) (x ∷ l) ∷ []
    go true = split-line (x ∷ l) [] h ∙ ap (λ (r : List (List ℕ)). uncr (x ∷ l) ∷ r) split-nil
    go false = split_one x l h

rest_back : (e : Bool) (ls : List (List ℕ)) → no_lf ls ≡ true → split_lines (tailed e (join_lines ls)) ≡ shed_rest e ls
unfolding join_lines shed_rest tailed no_lf
rest_back e [] h = split-nil
rest_back e ([] ∷ []) h = split-nil
rest_back e ((x ∷ l) ∷ []) h = last-back e x l (and_left (lacks 10 (x ∷ l)) true h)
rest_back e (l ∷ m ∷ ls) h =
    let r : List ℕ = join_lines (m ∷ ls) in
    ap split_lines (tailed-some e l r ∙ settle-front e l r)
    ∙ split-line l (tailed e r) (and_left (lacks 10 l) (no_lf (m ∷ ls)) h)
    ∙ ap (λ (w : List (List ℕ)). uncr l ∷ w) (rest_back e (m ∷ ls) (and_right (lacks 10 l) (no_lf (m ∷ ls)) h))

-- lines joined to a text, split again
pub split-joined : (e : Bool) (ls : List (List ℕ)) → no_lf ls ≡ true → split_lines (joined e ls) ≡ shed e ls
unfolding joined join_lines shed lone shed_rest settle split_lines drop_cr lines_of prefixed no_lf
split-joined true [] h = refl
split-joined false [] h = refl
split-joined true ([] ∷ []) h = refl
split-joined false ([] ∷ []) h = refl
split-joined e ((x ∷ l) ∷ []) h = last-back e x l (and_left (lacks 10 (x ∷ l)) true h) ∙ sym (go e)
  where
    go : (e : Bool) → cond (e && false) ([] ∷ []) (cond e (uncr (x ∷ l)) (x ∷ l) ∷ []) ≡ cond e (uncr (x ∷ l)) (x ∷ l) ∷ []
    go true = refl
    go false = refl
split-joined e (l ∷ m ∷ ls) h =
    ap split_lines (sym (tailed-some e l (join_lines (m ∷ ls)))) ∙ rest_back e (l ∷ m ∷ ls) h ∙ sym (go e)
  where
    go : (e : Bool) → cond (e && false) ([] ∷ []) (shed_rest e (l ∷ m ∷ ls)) ≡ shed_rest e (l ∷ m ∷ ls)
    go true = refl
    go false = refl

-- ---- nothing to lose

uncr-none : (l : List ℕ) → not (ends_in 13 l) ≡ true → uncr l ≡ l
unfolding uncr
uncr-none [] h = refl
uncr-none (x ∷ []) h = go (eqb x 13) h
  where
    go : (b : Bool) → not b ≡ true → cond b [] (x ∷ []) ≡ x ∷ []
    go true k = no k
    go false k = refl
uncr-none (x ∷ y ∷ l) h = ap (λ (w : List ℕ). x ∷ w) (uncr-none (y ∷ l) (ap not (sym (ends_more 13 x (y ∷ l) (omega arith))) ∙ h))

rest-firm : (e : Bool) (ls : List (List ℕ)) → firm ls ≡ true → shed_rest e ls ≡ ls
unfolding firm shed_rest
rest-firm e [] h = no h
rest-firm e ([] ∷ []) h = no h
rest-firm true ((x ∷ l) ∷ []) h = ap (λ (w : List ℕ). w ∷ []) (uncr-none (x ∷ l) h)
rest-firm false ((x ∷ l) ∷ []) h = refl
rest-firm e (l ∷ m ∷ ls) h =
    ap (λ (w : List ℕ). w ∷ shed_rest e (m ∷ ls)) (uncr-none l (and_left (not (ends_in 13 l)) (firm (m ∷ ls)) h))
    ∙ ap (λ (w : List (List ℕ)). l ∷ w) (rest-firm e (m ∷ ls) (and_right (not (ends_in 13 l)) (firm (m ∷ ls)) h))

firm-lone : (ls : List (List ℕ)) → firm ls ≡ true → lone ls ≡ false
unfolding firm lone
firm-lone [] h = no h
firm-lone ([] ∷ []) h = no h
firm-lone ((x ∷ l) ∷ []) h = refl
firm-lone (l ∷ m ∷ ls) h = refl

pub shed-firm : (e : Bool) (ls : List (List ℕ)) → firm ls ≡ true → shed e ls ≡ ls
unfolding shed
shed-firm e ls h = rw (firm-lone ls h) (go e (rest-firm e ls h))
  where
    go : (e : Bool) → shed_rest e ls ≡ ls → cond (e && false) ([] ∷ []) (shed_rest e ls) ≡ ls
    go true k = k
    go false k = k

-- ---- prune_decls

-- the lines that a second run over the text is given: those that the first run made, but for what joining and splitting lose
pub pruned-text : (t : List ℕ) → split_lines (prune_text t) ≡ shed (ends_in 10 t) (prune_decls (split_lines t))
pruned-text t = split-joined (ends_in 10 t) (prune_decls (split_lines t)) (keeps-no_lf (split_lines t) (split-no_lf t))

-- where these lose nothing, the second run gives the same lines
pub pruned-firm : (t : List ℕ) → firm (prune_decls (split_lines t)) ≡ true →
    prune_decls (split_lines (prune_text t)) ≡ prune_decls (split_lines t)
pruned-firm t h =
    ap prune_decls (pruned-text t ∙ shed-firm (ends_in 10 t) (prune_decls (split_lines t)) h) ∙ prune-twice (split_lines t)
