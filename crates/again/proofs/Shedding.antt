-- The lines that prune_decls made, joined to a text and split again: pruned again, they stay as they are. Assumes nothing.
use Prim.Native.Nat.{ℕ, suc, ◌≤◌}
use mathlib.Core.Path.{◌≡◌, refl, sym, ap, ◌∙◌}
use mathlib.Core.Bool.{Bool, true, false, cond, ◌&&◌, ◌||◌}
use mathlib.Core.List.{List, [], ◌∷◌, ◌++◌}
use native.Mathlib.Omega.{arith}
use lib.ListN.{length, take, drop}
use Rattle.lines.specs.Lf.{ends_in, parts_of, prefixed}
use Rattle.lines.specs.Acts.{Act, keep, become, into, gone, act, apply}
use Rattle.lines.specs.Steps.{split_lines}
use Rattle.lines.proofs.ActLaws.{apply-length}
use Rattle.text.specs.Trim.{lead, from_of, end_white, to_of, trim_of}
use Rattle.names.specs.Names.{reg_of, reg_text}
use Rattle.std.specs.declared.option.Option.{Option}
use Rattle.names.specs.declared.Register.{Register}
use Rattle.std.specs.declared.option.Option.TheVariants.{Some, None}
use Rattle.parse.specs.Parse.{let_word, body_of, is_decl, store_in, parse_of, text_of}
use Rattle.words.specs.Runs.{runs_go, runs, count_by}
use Rattle.place.specs.Region.{is_header, until_header, region, region_at}
use Rattle.reading.specs.Uses.{line_reads, line_stores, line_uses, used_in}
use Rattle.decls.specs.Decls.{commas, decl_act, keep_one, keep_names, act_of, acts_go, prune_decls_acts, prune_decls}
use Rattle.again.specs.Shed.{uncr, shed_rest, lone, shed, prune_text}
use Rattle.again.proofs.Reprint.{prune-twice}
use Rattle.again.proofs.Again.{pruned-text}
use Rattle.again.proofs.LineCr.{uncr-trim, uncr-header, uncr-uses, uncr-semi}

-- ---- lines that are near to others: each as it was, or without a CR; a last blank one may be gone

pub data Like (l : List ℕ) : List ℕ → Type 0 where
  as_is : Like l l
  less-cr : Like l (uncr l)

pub data Near : List (List ℕ) → List (List ℕ) → Type 0 where
  none : Near [] []
  blank : Near ([] ∷ []) []
  line : {l l' : List ℕ} {ls ms : List (List ℕ)} → Like l l' → Near ls ms → Near (l ∷ ls) (l' ∷ ms)

like-trim : {l l' : List ℕ} → Like l l' → trim_of l' ≡ trim_of l
like-trim as_is = refl
like-trim {l} less-cr = uncr-trim l

like-header : {l l' : List ℕ} → Like l l' → is_header l' ≡ is_header l
like-header as_is = refl
like-header {l} less-cr = uncr-header l

like-uses : {l l' : List ℕ} → Like l l' → (v : ℕ) → line_uses v l' ≡ line_uses v l
like-uses as_is v = refl
like-uses {l} less-cr v = uncr-uses l v

-- ---- runs of lines with the same uses

abbrev pub Alike : List (List ℕ) → List (List ℕ) → Type 0
Alike run run' = (v : ℕ) → used_in v run' ≡ used_in v run

alike-cons : {l l' : List ℕ} (ls ms : List (List ℕ)) → Like l l' → Alike ls ms → Alike (l ∷ ls) (l' ∷ ms)
unfolding used_in
alike-cons {l} {l'} ls ms k h v = ap (λ (b : Bool). b || used_in v ms) (like-uses k v) ∙ ap (λ (b : Bool). line_uses v l || b) (h v)

-- a blank line uses nothing
blank-uses : (v : ℕ) → used_in v ([] ∷ []) ≡ false
unfolding used_in line_uses line_reads line_stores parse_of is_decl store_in text_of trim_of from_of lead to_of end_white runs runs_go count_by prefixed
blank-uses v = refl

blank-until : until_header ([] ∷ []) ≡ [] ∷ []
unfolding until_header is_header prefixed
blank-until = refl

nil-uses : (v : ℕ) → used_in v [] ≡ false
unfolding used_in
nil-uses v = refl

until-nil : until_header [] ≡ []
unfolding until_header
until-nil = refl

until-by : (b : Bool) {l l' : List ℕ} (ls ms : List (List ℕ)) → Like l l' → Alike (until_header ls) (until_header ms) → Alike (cond b [] (l ∷ until_header ls)) (cond b [] (l' ∷ until_header ms))
until-by true ls ms k h v = refl
until-by false ls ms k h v = alike-cons (until_header ls) (until_header ms) k h v

until-is : (l : List ℕ) (ls : List (List ℕ)) (b : Bool) → is_header l ≡ b → until_header (l ∷ ls) ≡ cond b [] (l ∷ until_header ls)
unfolding until_header
until-is l ls b e = rw e

until-near : {ls ms : List (List ℕ)} → Near ls ms → Alike (until_header ls) (until_header ms)
until-near none v = refl
until-near blank v = ap (used_in v) until-nil ∙ nil-uses v ∙ sym (ap (used_in v) blank-until ∙ blank-uses v)
until-near (line {l} {l'} {ls} {ms} k n) v =
    ap (used_in v) (until-is l' ms (is_header l) (like-header k)) ∙ until-by (is_header l) ls ms k (until-near n) v ∙ sym (ap (used_in v) (until-is l ls (is_header l) refl))

region-is : (l : List ℕ) (ls : List (List ℕ)) → region (l ∷ ls) ≡ l ∷ until_header ls
unfolding region
region-is l ls = refl

region-nil : region [] ≡ []
unfolding region
region-nil = refl

region-near : {ls ms : List (List ℕ)} → Near ls ms → Alike (region ls) (region ms)
region-near none v = refl
region-near blank v = ap (used_in v) region-nil ∙ nil-uses v ∙ sym (ap (used_in v) (region-is [] [] ∙ ap (λ (r : List (List ℕ)). [] ∷ r) until-nil) ∙ blank-uses v)
region-near (line {l} {l'} {ls} {ms} k n) v =
    ap (used_in v) (region-is l' ms) ∙ alike-cons (until_header ls) (until_header ms) k (until-near n) v ∙ sym (ap (used_in v) (region-is l ls))

at-is : (l : List ℕ) (ls run : List (List ℕ)) (b : Bool) → is_header l ≡ b → region_at l ls run ≡ cond b (l ∷ until_header ls) run
unfolding region_at
at-is l ls run b e = rw e

at-by : (b : Bool) {l l' : List ℕ} (ls ms run run' : List (List ℕ)) → Like l l' → Near ls ms → Alike run run' → Alike (cond b (l ∷ until_header ls) run) (cond b (l' ∷ until_header ms) run')
at-by true ls ms run run' k n h v = alike-cons (until_header ls) (until_header ms) k (until-near n) v
at-by false ls ms run run' k n h v = h v

at-near : {l l' : List ℕ} (ls ms run run' : List (List ℕ)) → Like l l' → Near ls ms → Alike run run' → Alike (region_at l ls run) (region_at l' ms run')
at-near {l} {l'} ls ms run run' k n h v =
    ap (used_in v) (at-is l' ms run' (is_header l) (like-header k)) ∙ at-by (is_header l) ls ms run run' k n h v ∙ sym (ap (used_in v) (at-is l ls run (is_header l) refl))

-- ---- what becomes of a line that stays as it is

names_same : (run run' : List (List ℕ)) → Alike run run' → (ps : List (List ℕ)) → keep_names run' ps ≡ keep_names run ps
unfolding keep_names
names_same run run' h [] = refl
names_same run run' h (p ∷ ps) =
    ap (λ (r : List (List ℕ)). r ++ keep_names run' ps) (one (reg_of (trim_of p))) ∙ ap (λ (r : List (List ℕ)). keep_one run (reg_of (trim_of p)) ++ r) (names_same run run' h ps)
  where
    one : (n : Option Register) → keep_one run' n ≡ keep_one run n
    one None = refl
    one (Some q) = ap (λ (b : Bool). cond b (reg_text q.0 ∷ []) []) (h q.0)

-- the act by what the line is
act_by : Bool → List (List ℕ) → List ℕ → Act
act_by b run l = cond b (decl_act (take (from_of l) l) (keep_names run (parts_of 44 (body_of (trim_of l))))) keep

act-is : (run : List (List ℕ)) (l : List ℕ) (b : Bool) → is_decl (trim_of l) ≡ b → act_of run l ≡ act_by b run l
unfolding act_of act_by
act-is run l b e = rw e

act-same : (run run' : List (List ℕ)) (l : List ℕ) → Alike run run' → act_of run' l ≡ act_of run l
unfolding act_of
act-same run run' l h =
    ap (λ (ns : List (List ℕ)). cond (is_decl (trim_of l)) (decl_act (take (from_of l) l) ns) keep) (names_same run run' h (parts_of 44 (body_of (trim_of l))))

cons_head : (x y : List ℕ) (xs ys : List (List ℕ)) → x ∷ xs ≡ y ∷ ys → x ≡ y
cons_head x y xs ys e = ap first e
  where
    first : List (List ℕ) → List ℕ
    first [] = x
    first (z ∷ zs) = z

cons_tail : (x y : List ℕ) (xs ys : List (List ℕ)) → x ∷ xs ≡ y ∷ ys → xs ≡ ys
cons_tail x y xs ys e = ap (drop 1) e

-- a declaration that stays ends in `;`
decl-semi : (indent l : List ℕ) (ns : List (List ℕ)) → act (decl_act indent ns) l ≡ l ∷ [] → uncr l ≡ l
unfolding act decl_act
decl-semi indent l [] e = let z : length {A = List ℕ} [] ≡ length (l ∷ []) = ap length e in absurd (omega (arith, z))
decl-semi indent l (x ∷ xs) e =
    let q : (indent ++ let_word ++ commas x xs) ++ 59 ∷ [] ≡ l = cons_head _ l [] [] e in
    sym (ap uncr q) ∙ uncr-semi (indent ++ let_word ++ commas x xs) ∙ q

keep-act : (l : List ℕ) → act keep l ≡ l ∷ []
unfolding act
keep-act l = refl

act-less : (run run' : List (List ℕ)) (l : List ℕ) (b : Bool) → is_decl (trim_of l) ≡ b → Alike run run' → act (act_of run l) l ≡ l ∷ [] → act (act_of run' (uncr l)) (uncr l) ≡ uncr l ∷ []
unfolding act_by
act-less run run' l true d h e =
    let u : uncr l ≡ l = decl-semi (take (from_of l) l) l (keep_names run (parts_of 44 (body_of (trim_of l)))) (sym (ap (λ (a : Act). act a l) (act-is run l true d)) ∙ e) in
    ap (λ (w : List ℕ). act (act_of run' w) w) u ∙ ap (λ (a : Act). act a l) (act-same run run' l h) ∙ e ∙ sym (ap (λ (w : List ℕ). w ∷ []) u)
act-less run run' l false d h e =
    ap (λ (a : Act). act a (uncr l)) (act-is run' (uncr l) false (ap is_decl (uncr-trim l) ∙ d)) ∙ keep-act (uncr l)

act-like : (run run' : List (List ℕ)) {l l' : List ℕ} → Like l l' → Alike run run' → act (act_of run l) l ≡ l ∷ [] → act (act_of run' l') l' ≡ l' ∷ []
act-like run run' {l} as_is h e = ap (λ (a : Act). act a l) (act-same run run' l h) ∙ e
act-like run run' {l} less-cr h e = act-less run run' l (is_decl (trim_of l)) refl h e

-- ---- lines that stay as they are

abbrev out : List (List ℕ) → List (List ℕ) → List (List ℕ)
out ls run = apply (acts_go ls run) ls

out-cons : (l : List ℕ) (ls run : List (List ℕ)) → out (l ∷ ls) run ≡ act (act_of (region_at l ls run) l) l ++ out ls (region_at l ls run)
unfolding acts_go apply
out-cons l ls run = refl

-- where all lines stay, the first does, and the others do
stay-by : (a : Act) (l : List ℕ) (ls rest : List (List ℕ)) → length rest ≤ length ls → act a l ++ rest ≡ l ∷ ls → (act a l ≡ l ∷ []) × (rest ≡ ls)
unfolding act
stay-by keep l ls rest n e = (refl, cons_tail l l rest ls e)
stay-by (become x) l ls rest n e = (ap (λ (w : List ℕ). w ∷ []) (cons_head x l rest ls e), cons_tail x l rest ls e)
stay-by (into k) l ls rest n e = let z : length rest ≡ suc (length ls) = ap length e in absurd (omega (arith, n, z))
stay-by gone l ls rest n e = let z : length rest ≡ suc (length ls) = ap length e in absurd (omega (arith, n, z))

out-nil : (run : List (List ℕ)) → out [] run ≡ []
unfolding acts_go apply
out-nil run = refl

near-stays : (ls ms run run' : List (List ℕ)) → Near ls ms → Alike run run' → out ls run ≡ ls → out ms run' ≡ ms
near-stays [] [] run run' none h e = out-nil run'
near-stays ([] ∷ []) [] run run' blank h e = out-nil run'
near-stays [] (l' ∷ ms) run run' n h e = elim n [ ]
near-stays ([] ∷ (m ∷ ls)) [] run run' n h e = elim n [ ]
near-stays ((x ∷ l) ∷ ls) [] run run' n h e = elim n [ ]
near-stays (l ∷ ls) (l' ∷ ms) run run' (line k n) h e =
    let R : List (List ℕ) = region_at l ls run in
    let R' : List (List ℕ) = region_at l' ms run' in
    let s = stay-by (act_of R l) l ls (out ls R) (apply-length (acts_go ls R) ls) (sym (out-cons l ls run) ∙ e) in
    let a : Alike R R' = at-near ls ms run run' k n h in
    out-cons l' ms run' ∙ ap (λ (r : List (List ℕ)). r ++ out ms R') (act-like R R' k a s.0) ∙ ap (λ (r : List (List ℕ)). l' ∷ r) (near-stays ls ms R R' n a s.1)

prune-is : (ls : List (List ℕ)) → prune_decls ls ≡ out ls (region ls)
unfolding prune_decls prune_decls_acts
prune-is ls = refl

-- lines near to those that prune_decls leaves as they are
pub prune-near : (ls ms : List (List ℕ)) → Near ls ms → prune_decls ls ≡ ls → prune_decls ms ≡ ms
prune-near ls ms n e = prune-is ms ∙ near-stays ls ms (region ls) (region ms) n (region-near n) (sym (prune-is ls) ∙ e)

-- ---- what joining and splitting leave

near-rest : (e : Bool) (ls : List (List ℕ)) → Near ls (shed_rest e ls)
unfolding shed_rest
near-rest e [] = none
near-rest e ([] ∷ []) = blank
near-rest true ((x ∷ l) ∷ []) = line less-cr none
near-rest false ((x ∷ l) ∷ []) = line as_is none
near-rest e (l ∷ m ∷ ls) = line less-cr (near-rest e (m ∷ ls))

prune-blank : prune_decls ([] ∷ []) ≡ [] ∷ []
unfolding prune_decls prune_decls_acts acts_go act_of apply act is_decl trim_of from_of lead to_of end_white prefixed
prune-blank = refl

-- lines that pruning leaves as they are, joined and split again, it leaves as they are
pub shed-stays : (e : Bool) (ls : List (List ℕ)) → prune_decls ls ≡ ls → prune_decls (shed e ls) ≡ shed e ls
unfolding shed
shed-stays e ls h = go (e && lone ls)
  where
    go : (b : Bool) → prune_decls (cond b ([] ∷ []) (shed_rest e ls)) ≡ cond b ([] ∷ []) (shed_rest e ls)
    go true = prune-blank
    go false = prune-near ls (shed_rest e ls) (near-rest e ls) h

-- wish 11 over texts: of its own lines, joined and split again, prune_decls changes none
pub prune-shed : (e : Bool) (ls : List (List ℕ)) → prune_decls (shed e (prune_decls ls)) ≡ shed e (prune_decls ls)
prune-shed e ls = shed-stays e (prune_decls ls) (prune-twice ls)

-- the same of texts: the second run changes no line of the text that the first run wrote
pub prune-text : (t : List ℕ) → prune_decls (split_lines (prune_text t)) ≡ split_lines (prune_text t)
prune-text t = ap prune_decls (pruned-text t) ∙ prune-shed (ends_in 10 t) (split_lines t) ∙ sym (pruned-text t)
