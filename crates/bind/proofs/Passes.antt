-- What bind_declarators does to lines: no LF comes in, no weight is raised, and what each line becomes. Assumes nothing.
use Prim.Native.Nat.{ℕ, zero, suc, ◌+◌, ◌*◌, ◌≤◌}
use mathlib.Core.Path.{◌≡◌, refl, sym, ap, ◌∙◌, subst}
use mathlib.Core.Bool.{Bool, true, false, cond, not, ◌&&◌}
use mathlib.Core.List.{List, [], ◌∷◌, ◌++◌}
use native.Mathlib.Omega.{arith}
use lib.ListN.{length, take, drop}
use lib.Seq.{drop-nil}
use Rattle.lines.specs.Lf.{lines_of, parts_of, unlines, all}
use Rattle.lines.specs.Inner.Lf.{lacks, no_lf}
use Rattle.lines.specs.Acts.{Act, keep, become, gone, act, apply}
use Rattle.lines.proofs.Tests.{no, and_left, and_right, and_both}
use Rattle.lines.proofs.LfLaws.{lines-unlines, lines-no_lf, lacks-append, lacks-take, lacks-drop, parts-no_lf}
use Rattle.lines.proofs.ActLaws.{act_no_lf, apply-no_lf, apply-length}
use Rattle.text.specs.Trim.{from_of, trim_of}
use Rattle.names.specs.Names.{reg_of, is_reg}
use Rattle.std.specs.declared.option.Option.{Option}
use Rattle.names.specs.declared.Register.{Register}
use Rattle.std.specs.declared.option.Option.TheVariants.{Some, None}
use Rattle.parse.specs.Parse.{let_word, body_of, all_regs, is_decl}
use Rattle.weight.specs.Inner.Weight.{weight}
use Rattle.weight.proofs.Weigh.{weight-line, nothing}
use Rattle.weight.proofs.Moves.{from-clean, promote-le}
use Rattle.weight.proofs.Pays.{Pays, done, step, pays}
use Rattle.place.specs.Region.{is_header}
use Rattle.place.specs.Blocks.{blocks}
use Rattle.place.specs.Starts.{starts_go}
use Rattle.place.proofs.Blocks.{length-blocks}
use Rattle.place.proofs.Starts.{length-starts}
use Rattle.decls.specs.Decls.{decl_act}
use Rattle.decls.specs.Inner.Print.{bare_name, one, kept}
use Rattle.decls.proofs.Keeps.{lacks-trim, lacks-body, kept-no_lf, decl-no_lf}
use Rattle.decls.proofs.Decl.{decl-parts, left_out, regs-pay}
use Rattle.reading.specs.Reading.{Reading, plain}
use Rattle.reading.specs.Uses.{line_stores}
use Rattle.bind.specs.Bind.{BlockLine, block_lines, lines_within, until_head, first_use, store_at, bound, bound_by, any_bound, unbound, mark, mark_one, mark_all, marked, pieces_of, promoted, bind_act, above_in, bind_go, bind_declarators_acts, bind_declarators}
use Rattle.bind.specs.Inner.Steps.{fails, left}
use Rattle.bind.proofs.WalkLaws.{in-spots, kept-is, mark-none}
use Rattle.reading.proofs.Lined.{Lined, plain-lined}
use Rattle.bind.proofs.Cut.{bound-store}

-- ---- what becomes of a line

-- a test of the names that are left
abbrev left_by : List (List ℕ) → BlockLine → List BlockLine → List ℕ → Bool
left_by above d below = left (λ (v : ℕ). bound v above d below)

-- it is a declaration of which a name is bound, and is printed without these; it is marked, and becomes a declaration; or it stays
pub data Turns (d : BlockLine) (above : List (List ℕ)) (below : List BlockLine) (m : Bool) : Act → Type 0 where
  prints : is_decl (trim_of d.line) ≡ true → any_bound (parts_of 44 (body_of (trim_of d.line))) above d below ≡ true →
      Turns d above below m (decl_act (take (from_of d.line) d.line) (kept (left_by above d below) 1 (parts_of 44 (body_of (trim_of d.line)))))
  takes : m ≡ true → any_bound (pieces_of d.line) above d below ≡ false → Turns d above below m (become (promoted d.line))
  stays : m ≡ false → any_bound (pieces_of d.line) above d below ≡ false → Turns d above below m keep

any-nil : (above : List (List ℕ)) (d : BlockLine) (below : List BlockLine) → any_bound [] above d below ≡ false
unfolding any_bound
any-nil above d below = refl

pieces-decl : (l : List ℕ) → is_decl (trim_of l) ≡ true → pieces_of l ≡ parts_of 44 (body_of (trim_of l))
unfolding pieces_of
pieces-decl l e = rw e

pieces-other : (l : List ℕ) → is_decl (trim_of l) ≡ false → pieces_of l ≡ []
unfolding pieces_of
pieces-other l e = rw e

pub turns : (d : BlockLine) (above : List (List ℕ)) (below : List BlockLine) (m : Bool) → Turns d above below m (bind_act d above below m)
unfolding bind_act
turns d above below m = go (is_decl (trim_of d.line)) refl
  where
    other : (b : Bool) → m ≡ b → any_bound (pieces_of d.line) above d below ≡ false → Turns d above below m (cond b (become (promoted d.line)) keep)
    other true e h = takes e h
    other false e h = stays e h

    some : (b : Bool) (ps : List (List ℕ)) → pieces_of d.line ≡ ps → ps ≡ parts_of 44 (body_of (trim_of d.line)) → is_decl (trim_of d.line) ≡ true → any_bound ps above d below ≡ b →
        Turns d above below m (cond b (decl_act (take (from_of d.line) d.line) (unbound ps above d below)) (cond m (become (promoted d.line)) keep))
    some true ps p q e h = rw (q, ← kept-is (λ (v : ℕ). bound v above d below) above d below (λ v. refl) (parts_of 44 (body_of (trim_of d.line)))) (prints e (ap (λ (x : List (List ℕ)). any_bound x above d below) (sym q) ∙ h))
    some false ps p q e h = other m refl (ap (λ (x : List (List ℕ)). any_bound x above d below) p ∙ h)

    go : (b : Bool) → is_decl (trim_of d.line) ≡ b →
        Turns d above below m (cond (any_bound (pieces_of d.line) above d below) (decl_act (take (from_of d.line) d.line) (unbound (pieces_of d.line) above d below)) (cond m (become (promoted d.line)) keep))
    go true e = let z = pieces-decl d.line e in rw z (some (any_bound (parts_of 44 (body_of (trim_of d.line))) above d below) (parts_of 44 (body_of (trim_of d.line))) z refl e refl)
    go false e = let z = pieces-other d.line e in rw z (other m refl (ap (λ (x : List (List ℕ)). any_bound x above d below) z ∙ any-nil above d below))

-- ---- no LF comes in

promoted-no_lf : (l : List ℕ) → lacks 10 l ≡ true → lacks 10 (promoted l) ≡ true
unfolding lacks
promoted-no_lf l h = lacks-append (take (from_of l) l ++ let_word) (drop (from_of l) l) (lacks-append (take (from_of l) l) let_word (lacks-take (from_of l) l h) refl) (lacks-drop (from_of l) l h)

turns-no_lf : {d : BlockLine} {above : List (List ℕ)} {below : List BlockLine} {m : Bool} {a : Act} → Turns d above below m a → lacks 10 d.line ≡ true → act_no_lf a ≡ true
turns-no_lf {d} {above} {below} (prints e b) h =
    decl-no_lf (take (from_of d.line) d.line) (kept (left_by above d below) 1 (parts_of 44 (body_of (trim_of d.line)))) (lacks-take (from_of d.line) d.line h)
    (kept-no_lf (left_by above d below) 1 (parts_of 44 (body_of (trim_of d.line))) (parts-no_lf 44 (body_of (trim_of d.line)) (lacks-body (trim_of d.line) (lacks-trim d.line h))))
turns-no_lf {d} (takes e b) h = promoted-no_lf d.line h
turns-no_lf (stays e b) h = refl

go-no_lf : (sp : List BlockLine) (above : List (List ℕ)) (ms : List Bool) → no_lf (lines_within sp) ≡ true → all act_no_lf (bind_go sp above ms) ≡ true
unfolding bind_go lines_within no_lf
go-no_lf [] above ms h = refl
go-no_lf (d ∷ sp) above ms h =
    and_both (turns-no_lf (turns d (above_in d above) (until_head sp) (marked ms)) (and_left (lacks 10 d.line) (no_lf (lines_within sp)) h))
    (go-no_lf sp (d.line ∷ above_in d above) (mark_all (pieces_of d.line) (above_in d above) d (until_head sp) (drop 1 ms)) (and_right (lacks 10 d.line) (no_lf (lines_within sp)) h))

-- ---- what the lines above paid for: 4 a mark

worth : List Bool → ℕ
worth [] = 0
worth (m ∷ ms) = cond m 4 0 + worth ms

mark-worth : (n : ℕ) (ms : List Bool) → worth (mark n ms) ≤ 4 + worth ms
unfolding mark worth
mark-worth zero [] = omega arith
mark-worth zero (m ∷ ms) = omega arith
mark-worth (suc n) [] = omega (arith, mark-worth n [])
mark-worth (suc n) (m ∷ ms) = omega (arith, mark-worth n ms)

worth_first : (ms : List Bool) → worth ms ≡ cond (marked ms) 4 0 + worth (drop 1 ms)
unfolding worth
worth_first [] = refl
worth_first (m ∷ ms) = refl

module _ (above : List (List ℕ)) (d : BlockLine) (below : List BlockLine) where
  -- each name that is left out pays for its mark
  marks-worth : (ps : List (List ℕ)) (ms : List Bool) → worth (mark_all ps above d below ms) ≤ worth ms + 4 * left_out (left_by above d below) ps
  unfolding mark_all left_out
  marks-worth [] ms = omega arith
  marks-worth (p ∷ ps) ms = go (reg_of (trim_of p)) (λ x. marks-worth ps x)
    where
      by : (b : Bool) (k : ℕ) → ((x : List Bool) → worth (mark_all ps above d below x) ≤ worth x + 4 * left_out (left_by above d below) ps) →
          worth (mark_all ps above d below (cond b (mark k ms) ms)) ≤ worth ms + 4 * cond (not b) (left_out (left_by above d below) ps) (suc (left_out (left_by above d below) ps))
      by true k f = omega (arith, f (mark k ms), mark-worth k ms)
      by false k f = omega (arith, f ms)

      go : (r : Option Register) → ((x : List Bool) → worth (mark_all ps above d below x) ≤ worth x + 4 * left_out (left_by above d below) ps) →
          worth (mark_all ps above d below (mark_one r above d below ms)) ≤ worth ms + 4 * cond (fails (λ (v : ℕ). bound v above d below) r) (left_out (left_by above d below) ps) (suc (left_out (left_by above d below) ps))
      go None f = omega (arith, f ms)
      go (Some q) f = by (bound q.0 above d below) (first_use q.0 below) f

module _ (H : ℕ) where
  -- a line and the marks that it makes
  turns-pay : {d : BlockLine} {above : List (List ℕ)} {below : List BlockLine} {m : Bool} {a : Act} (ms : List Bool) → Turns d above below m a →
      weight H (unlines (act a d.line)) + worth (mark_all (pieces_of d.line) above d below ms) ≤ weight H d.line + 1 + (cond m 4 0 + worth ms)
  unfolding act
  turns-pay {d} {above} {below} {m} ms (prints e b) =
      omega (
        arith,
        regs-pay H (left_by above d below) d.line e,
        marks-worth above d below (parts_of 44 (body_of (trim_of d.line))) ms,
        ap (λ (ps : List (List ℕ)). worth (mark_all ps above d below ms)) (pieces-decl d.line e),
      )
  turns-pay {d} {above} {below} ms (takes e b) =
      rw e (omega (arith, weight-line H (promoted d.line) [], nothing H, promote-le H d.line (from-clean d.line), ap worth (mark-none above d below (pieces_of d.line) ms b)))
  turns-pay {d} {above} {below} ms (stays e b) = rw e (omega (arith, weight-line H d.line [], nothing H, ap worth (mark-none above d below (pieces_of d.line) ms b)))

  go-pays : (sp : List BlockLine) (above : List (List ℕ)) (ms : List Bool) → Pays H (worth ms) (bind_go sp above ms) (lines_within sp)
  unfolding bind_go lines_within
  go-pays [] above ms = done
  go-pays (d ∷ sp) above ms =
      let next : List Bool = mark_all (pieces_of d.line) (above_in d above) d (until_head sp) (drop 1 ms) in
      step {c = worth ms} {a = bind_act d (above_in d above) (until_head sp) (marked ms)} {l = d.line} (worth next)
      (omega (arith, turns-pay (drop 1 ms) (turns d (above_in d above) (until_head sp) (marked ms)), worth_first ms)) (go-pays sp (d.line ∷ above_in d above) next)

-- ---- a line that is marked stores a register

data Marked : List Bool → List BlockLine → Type 0 where
  none : {sp : List BlockLine} → Marked [] sp
  off : {ms : List Bool} {d : BlockLine} {sp : List BlockLine} → Marked ms sp → Marked (false ∷ ms) (d ∷ sp)
  on : {ms : List Bool} {d : BlockLine} {sp : List BlockLine} (v : ℕ) → line_stores v d.line ≡ true → Marked ms sp → Marked (true ∷ ms) (d ∷ sp)

nowhere : {A : Type 0} (v b n : ℕ) → store_at v b (drop n []) ≡ true → A
nowhere v b n h = no (ap (λ (r : List BlockLine). store_at v b r) (sym (drop-nil {A = BlockLine} n)) ∙ h)

store-until : (v b n : ℕ) (sp : List BlockLine) → store_at v b (drop n (until_head sp)) ≡ true → store_at v b (drop n sp) ≡ true
unfolding until_head
store-until v b n [] h = h
store-until v b n (d ∷ sp) h = go (is_header d.line) n h (λ k. store-until v b k sp)
  where
    go : (c : Bool) (k : ℕ) → store_at v b (drop k (cond c [] (d ∷ until_head sp))) ≡ true → ((i : ℕ) → store_at v b (drop i (until_head sp)) ≡ true → store_at v b (drop i sp) ≡ true) → store_at v b (drop k (d ∷ sp)) ≡ true
    go true k e f = nowhere v b k e
    go false zero e f = e
    go false (suc k) e f = f k e

mark-first : (v b n : ℕ) (sp : List BlockLine) → store_at v b (drop n sp) ≡ true → Marked (mark n []) sp
unfolding mark
mark-first v b zero [] h = no h
mark-first v b zero (d ∷ sp) h = on v (and_left (line_stores v d.line) _ h) none
mark-first v b (suc n) [] h = no h
mark-first v b (suc n) (d ∷ sp) h = off (mark-first v b n sp h)

mark-at : (v b n : ℕ) {ms : List Bool} {sp : List BlockLine} → Marked ms sp → store_at v b (drop n sp) ≡ true → Marked (mark n ms) sp
unfolding mark
mark-at v b n (none {sp}) h = mark-first v b n sp h
mark-at v b zero (off {d = d} r) h = on v (and_left (line_stores v d.line) _ h) r
mark-at v b zero (on {d = d} w e r) h = on v (and_left (line_stores v d.line) _ h) r
mark-at v b (suc n) (off r) h = off (mark-at v b n r h)
mark-at v b (suc n) (on w e r) h = on w e (mark-at v b n r h)

module _ (above : List (List ℕ)) (d : BlockLine) (sp : List BlockLine) where
  mark-kept : (r : Option Register) {ms : List Bool} → Marked ms sp → Marked (mark_one r above d (until_head sp) ms) sp
  mark-kept None k = k
  mark-kept (Some q) {ms} k = go (bound q.0 above d (until_head sp)) (bound-store q.0 above d (until_head sp))
    where
      go : (b : Bool) → (b ≡ true → store_at q.0 d.block (drop (first_use q.0 (until_head sp)) (until_head sp)) ≡ true) → Marked (cond b (mark (first_use q.0 (until_head sp)) ms) ms) sp
      go true f = mark-at q.0 d.block (first_use q.0 (until_head sp)) k (store-until q.0 d.block (first_use q.0 (until_head sp)) sp (f refl))
      go false f = k

  marks-kept : (ps : List (List ℕ)) {ms : List Bool} → Marked ms sp → Marked (mark_all ps above d (until_head sp) ms) sp
  unfolding mark_all
  marks-kept [] k = k
  marks-kept (p ∷ ps) k = marks-kept ps (mark-kept (reg_of (trim_of p)) k)

marked_next : {ms : List Bool} {d : BlockLine} {sp : List BlockLine} → Marked ms (d ∷ sp) → Marked (drop 1 ms) sp
marked_next none = none
marked_next (off r) = r
marked_next (on v e r) = r

marked-store : {ms : List Bool} {d : BlockLine} {sp : List BlockLine} → Marked ms (d ∷ sp) → marked ms ≡ true → (v : ℕ) × (line_stores v d.line ≡ true)
marked-store none h = no h
marked-store (off r) h = no h
marked-store (on v e r) h = (v, e)

-- what all lines become: a declaration without the names that pass a test f, a store as a declaration, or the line itself
pub data Become : List Act → List (List ℕ) → Type 0 where
  over : Become [] []
  prints : {acts : List Act} {l : List ℕ} {ls : List (List ℕ)} (f : ℕ → Bool) → is_decl (trim_of l) ≡ true → Become acts ls →
      Become (decl_act (take (from_of l) l) (kept (left f) 1 (parts_of 44 (body_of (trim_of l)))) ∷ acts) (l ∷ ls)
  takes : {acts : List Act} {l : List ℕ} {ls : List (List ℕ)} (v : ℕ) → line_stores v l ≡ true → Become acts ls → Become (become (promoted l) ∷ acts) (l ∷ ls)
  stays : {acts : List Act} {l : List ℕ} {ls : List (List ℕ)} → Become acts ls → Become (keep ∷ acts) (l ∷ ls)

become-by : {d : BlockLine} {above : List (List ℕ)} {below : List BlockLine} {m : Bool} {a : Act} {acts : List Act} {ls : List (List ℕ)} → Turns d above below m a → (m ≡ true → (v : ℕ) × (line_stores v d.line ≡ true)) → Become acts ls →
    Become (a ∷ acts) (d.line ∷ ls)
become-by {d} {above} {below} (prints e b) f r = prints (λ (v : ℕ). bound v above d below) e r
become-by (takes e b) f r = let s = f e in takes s.0 s.1 r
become-by (stays e b) f r = stays r

go-become : (sp : List BlockLine) (above : List (List ℕ)) (ms : List Bool) → Marked ms sp → Become (bind_go sp above ms) (lines_within sp)
unfolding bind_go lines_within
go-become [] above ms k = over
go-become (d ∷ sp) above ms k =
    become-by (turns d (above_in d above) (until_head sp) (marked ms)) (marked-store k)
    (go-become sp (d.line ∷ above_in d above) (mark_all (pieces_of d.line) (above_in d above) d (until_head sp) (drop 1 ms)) (marks-kept (above_in d above) d sp (pieces_of d.line) (marked_next k)))

-- ---- only a declaration goes, and only when all its names are bound

apart : {A : Type 0} {x : List ℕ} → become x ≡ gone → A
apart h = let z : ◌≡◌ {A = ℕ} 0 1 = cc in absurd (omega arith)

decl-gone : (indent : List ℕ) (xs : List (List ℕ)) → decl_act indent xs ≡ gone → xs ≡ []
unfolding decl_act
decl-gone indent [] h = refl
decl-gone indent (x ∷ xs) h = apart h

-- all pieces are bound
abbrev pub all_bound : List (List ℕ) → List (List ℕ) → BlockLine → List BlockLine → Bool
all_bound ps above d below = all (λ (p : List ℕ). bound_by (reg_of (trim_of p)) above d below) ps

module _ (above : List (List ℕ)) (d : BlockLine) (below : List BlockLine) where
  none_left : (ps : List (List ℕ)) → all_regs ps ≡ true → kept (left_by above d below) 1 ps ≡ [] → all_bound ps above d below ≡ true
  unfolding all_regs kept
  none_left [] h k = refl
  none_left (p ∷ ps) h k = go (reg_of (trim_of p)) h k (none_left ps)
    where
      by : (b : Bool) (x : List ℕ) (ys : List (List ℕ)) (c : Bool) → cond (not b) (x ∷ []) [] ++ ys ≡ [] → (ys ≡ [] → c ≡ true) → b && c ≡ true
      by true x ys c e f = f e
      by false x ys c e f = let z : ◌≡◌ {A = ℕ} 0 1 = cc in absurd (omega arith)

      go : (r : Option Register) → is_reg r && all_regs ps ≡ true → one (fails (λ (v : ℕ). bound v above d below) r) 1 (trim_of p) ++ kept (left_by above d below) 1 ps ≡ [] →
          (all_regs ps ≡ true → kept (left_by above d below) 1 ps ≡ [] → all_bound ps above d below ≡ true) → bound_by r above d below && all_bound ps above d below ≡ true
      go None g e f = no g
      go (Some q) g e f = by (bound q.0 above d below) (bare_name 1 (trim_of p)) (kept (left_by above d below) 1 ps) (all_bound ps above d below) e (f g)

  gone-by : {m : Bool} {a : Act} → Turns d above below m a → a ≡ gone → (is_decl (trim_of d.line) ≡ true) × (all_bound (parts_of 44 (body_of (trim_of d.line))) above d below ≡ true)
  gone-by (prints e b) h =
      (e, none_left (parts_of 44 (body_of (trim_of d.line))) (decl-parts (trim_of d.line) e).regs (decl-gone (take (from_of d.line) d.line) (kept (left_by above d below) 1 (parts_of 44 (body_of (trim_of d.line)))) h))
  gone-by (takes e b) h = apart h
  gone-by (stays e b) h = let z : ◌≡◌ {A = ℕ} 0 1 = cc in absurd (omega arith)

  pub gone-only : (m : Bool) → bind_act d above below m ≡ gone → (is_decl (trim_of d.line) ≡ true) × (all_bound (parts_of 44 (body_of (trim_of d.line))) above d below ≡ true)
  gone-only m h = gone-by (turns d above below m) h

-- ---- the pass

module _ {R : Reading} {shut : List (List ℕ) → Bool} (c : Lined R shut) where
  pub lines_are : (ls : List (List ℕ)) → lines_within (block_lines R ls) ≡ ls
  unfolding block_lines
  lines_are ls = in-spots ls (blocks (R.clean ls)) (starts_go (R.clean ls) true) (length-blocks (R.clean ls) ∙ c.long ls) (length-starts (R.clean ls) true ∙ c.long ls)

  -- no line holds an LF where none did
  pub keeps-no_lf : (ls : List (List ℕ)) → no_lf ls ≡ true → no_lf (bind_declarators R ls) ≡ true
  unfolding bind_declarators bind_declarators_acts
  keeps-no_lf ls h = apply-no_lf (bind_go (block_lines R ls) [] []) ls (go-no_lf (block_lines R ls) [] [] (ap no_lf (lines_are ls) ∙ h)) h

  -- what the lines become
  pub bind-become : (ls : List (List ℕ)) → Become (bind_declarators_acts R ls) ls
  unfolding bind_declarators_acts
  bind-become ls = subst (λ (x : List (List ℕ)). Become (bind_go (block_lines R ls) [] []) x) (lines_are ls) (go-become (block_lines R ls) [] [] none)

  -- no weight is raised, whatever a `{` weighs
  pub bind-weight : (H : ℕ) (ls : List (List ℕ)) → weight H (unlines (bind_declarators R ls)) ≤ weight H (unlines ls)
  unfolding bind_declarators bind_declarators_acts worth
  bind-weight H ls =
      let r = pays (go-pays H (block_lines R ls) [] []) in
      let z : apply (bind_go (block_lines R ls) [] []) (lines_within (block_lines R ls)) ≡ apply (bind_go (block_lines R ls) [] []) ls = ap (apply (bind_go (block_lines R ls) [] [])) (lines_are ls) in
      omega (arith, r, ap (λ (x : List (List ℕ)). weight H (unlines x)) z, ap (λ (x : List (List ℕ)). weight H (unlines x)) (lines_are ls))

-- there are no more lines than before
pub bind-lines : (R : Reading) (ls : List (List ℕ)) → length (bind_declarators R ls) ≤ length ls
unfolding bind_declarators
bind-lines R ls = apply-length (bind_declarators_acts R ls) ls

-- the next pass sees the lines that this one made
pub bind-reads : (t : List ℕ) → lines_of (unlines (bind_declarators plain (lines_of t))) ≡ bind_declarators plain (lines_of t)
bind-reads t = lines-unlines (bind_declarators plain (lines_of t)) (keeps-no_lf plain-lined (lines_of t) (lines-no_lf t))
