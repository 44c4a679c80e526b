-- The walk down the lines: what is read from the text and the tables is what the definition says. Assumes nothing.
use Prim.Native.Nat.{ℕ, zero, suc, ◌+◌, ◌-◌, ◌≤◌, ◌<◌, min}
use mathlib.Core.Path.{◌≡◌, refl, sym, ap, ◌∙◌, subst}
use mathlib.Core.Bool.{Bool, true, false, cond, not, ◌&&◌, ◌||◌}
use mathlib.Core.List.{List, [], ◌∷◌, ◌++◌, append_assoc, append-nil}
use native.Mathlib.Omega.{arith}
use borrow.Author.Tests.{leb-true, leb-false, ne_eqb}
use lib.Dec.{eqb, leb}
use lib.ListN.{length, get_or, set, take, drop, replicate, length-append, length-drop, length-replicate, take-append-drop}
use lib.Seq.{drop-drop, drop-nil, take-add, take_all, get_or-drop, append_snoc, set-append_left, get_or_at}
use Rattle.lines.specs.Lf.{part, up_to, cut_on, lines_of, parts_of, unlines}
use Rattle.lines.specs.Acts.{Act, keep, become, into, gone, act, apply}
use Rattle.lines.specs.Inner.Out.{Wrote}
use Rattle.lines.proofs.LfLaws.{up_to-le, lines-at, lines_end, part_none}
use Rattle.lines.proofs.ActLaws.{unlines-append}
use Rattle.lines.proofs.OutLaws.{Writing, writing_start, writing-as, writing-put, writing-end, writing-room, writing-length}
use Rattle.lines.proofs.Tests.{no, or-true}
use Rattle.text.specs.Trim.{from_of, trim_of}
use Rattle.names.specs.Names.{reg_of, reg_text}
use Rattle.std.specs.declared.option.Option.{Option}
use Rattle.names.specs.declared.Register.{Register}
use Rattle.std.specs.declared.option.Option.TheVariants.{Some, None}
use Rattle.parse.specs.Parse.{body_of, is_decl}
use Rattle.place.specs.Region.{is_header, until_header, region}
use Rattle.place.specs.Inner.Region.{up_header, region_len}
use Rattle.lexical.specs.Joined.{rests_in}
use Rattle.place.specs.Blocks.{cleaned}
use Rattle.place.specs.Inner.Blocks.{block_ids}
use Rattle.place.specs.Starts.{starts_go}
use Rattle.place.specs.Inner.Fill.{Filled, flags_of}
use Rattle.place.proofs.Regions.{past, end_on, region-lines}
use Rattle.place.proofs.Fills.{entry-on, entry-end, filled-take, flags-length}
use Rattle.decls.specs.Decls.{decl_act}
use Rattle.decls.specs.Inner.Print.{bare_name, one, kept, decl_text}
use Rattle.decls.proofs.PrintLaws.{writing-fits, act-text}
use Rattle.decls.proofs.Writes.{reg-bare}
use Rattle.reading.specs.Reading.{joined_at, reading_of}
use Rattle.records.proofs.Filled.{FilledBy, block-count, start-count}
use Rattle.reading.specs.Uses.{line_stores, line_uses, used_in}
use Rattle.bind.specs.declared.Site.{Site}
use Rattle.bind.specs.Bind.{BlockLine, block_lines_of, block_lines, lines_within, until_head, decl_count, store_count, first_use, store_at, bound, bound_by, any_bound, unbound_one, unbound, mark, mark_one, mark_all, marked, pieces_of, promoted, bind_act, above_in, bind_go, bind_declarators_acts, bind_declarators}
use Rattle.bind.specs.Inner.Steps.{above_of, line_of, below_of, use_row, stores_at, bound_at, mark_row, passes, fails, left, any_pass, noted, noted_all, gives_up, other_text, site_text, site_marks, site_notes, end_note, notes_go, bind_notes, tabled, Rows, none, row, Reach}
use Rattle.bind.proofs.CountLaws.{decl-cons, store-cons, blank-stores}
use Rattle.bind.proofs.SiteLaws.{bound-lt}

-- ---- the lines of the region above a line, in either order

pub record Like (us ls : List (List ℕ)) : Type 0 where
  pub decls : (v : ℕ) → decl_count v us ≡ decl_count v ls
  pub stores : (v : ℕ) → store_count v us ≡ store_count v ls
  pub used : (v : ℕ) → used_in v us ≡ used_in v ls

decl-snoc : (v : ℕ) (l : List ℕ) (ls : List (List ℕ)) → decl_count v (ls ++ (l ∷ [])) ≡ decl_count v (l ∷ ls)
decl-snoc v l [] = refl
decl-snoc v l (x ∷ ls) = omega (arith, decl-cons v x (ls ++ (l ∷ [])), decl-snoc v l ls, decl-cons v l ls, decl-cons v l (x ∷ ls), decl-cons v x ls)

store-snoc : (v : ℕ) (l : List ℕ) (ls : List (List ℕ)) → store_count v (ls ++ (l ∷ [])) ≡ store_count v (l ∷ ls)
store-snoc v l [] = refl
store-snoc v l (x ∷ ls) =
    omega (arith, store-cons v x (ls ++ (l ∷ [])) (line_stores v x) refl, store-snoc v l ls, store-cons v l ls (line_stores v l) refl, store-cons v l (x ∷ ls) (line_stores v l) refl, store-cons v x ls (line_stores v x) refl)

or_swap : (a b c : Bool) → a || (b || c) ≡ b || (a || c)
or_swap true b c = sym (or-true b)
or_swap false b c = refl

used-snoc : (v : ℕ) (l : List ℕ) (ls : List (List ℕ)) → used_in v (ls ++ (l ∷ [])) ≡ used_in v (l ∷ ls)
unfolding used_in
used-snoc v l [] = refl
used-snoc v l (x ∷ ls) = ap (λ (b : Bool). line_uses v x || b) (used-snoc v l ls) ∙ or_swap (line_uses v x) (line_uses v l) (used_in v ls)

used-cons : (v : ℕ) (l : List ℕ) (us ls : List (List ℕ)) → used_in v us ≡ used_in v ls → used_in v (l ∷ us) ≡ used_in v (l ∷ ls)
unfolding used_in
used-cons v l us ls e = rw e

like-none : Like [] []
like-none = record { decls = λ v. refl; stores = λ v. refl; used = λ v. refl }

like-on : {us ls : List (List ℕ)} (l : List ℕ) → Like us ls → Like (l ∷ us) (ls ++ (l ∷ []))
like-on {us} {ls} l k = record {
  decls = λ v. omega (arith, decl-snoc v l ls, decl-cons v l us, decl-cons v l ls, k.decls v);
  stores = λ v. omega (arith, store-snoc v l ls, store-cons v l us (line_stores v l) refl, store-cons v l ls (line_stores v l) refl, k.stores v);
  used = λ v. used-cons v l us ls (k.used v) ∙ sym (used-snoc v l ls);
}

-- ---- parts of the text that are whole lines

-- what is put after it begins a line
abbrev pub Whole : List ℕ → Type 0
Whole p = (x : List ℕ) → lines_of (p ++ x) ≡ lines_of p ++ lines_of x

whole-none : Whole []
unfolding lines_of
whole-none x = refl

-- the first line with its LF
line-last : (l : List ℕ) → 0 < length l → lines_of (take (suc (up_to 10 l)) l) ≡ take (up_to 10 l) l ∷ []
unfolding lines_of up_to
line-last [] h = absurd (omega arith)
line-last (x ∷ []) h = go (eqb x 10)
  where
    go : (b : Bool) → cut_on b x (lines_of (take (cond b 0 1) [])) ≡ take (cond b 0 1) (x ∷ []) ∷ []
    go true = refl
    go false = refl
line-last (x ∷ y ∷ xs) h = go (eqb x 10) (line-last (y ∷ xs) (omega arith))
  where
    go : (b : Bool) → lines_of (take (suc (up_to 10 (y ∷ xs))) (y ∷ xs)) ≡ take (up_to 10 (y ∷ xs)) (y ∷ xs) ∷ [] →
        cut_on b x (lines_of (take (cond b 0 (suc (up_to 10 (y ∷ xs)))) (y ∷ xs))) ≡ take (cond b 0 (suc (up_to 10 (y ∷ xs)))) (x ∷ y ∷ xs) ∷ []
    go true r = refl
    go false r = ap (cut_on false x) r

line-then : (l x : List ℕ) → up_to 10 l < length l → lines_of (take (suc (up_to 10 l)) l ++ x) ≡ take (up_to 10 l) l ∷ lines_of x
unfolding lines_of up_to
line-then [] x h = absurd (omega arith)
line-then (a ∷ l) x h = go (eqb a 10) h (line-then l x)
  where
    go : (b : Bool) → cond b 0 (suc (up_to 10 l)) < suc (length l) → (up_to 10 l < length l → lines_of (take (suc (up_to 10 l)) l ++ x) ≡ take (up_to 10 l) l ∷ lines_of x) →
        cut_on b a (lines_of (take (cond b 0 (suc (up_to 10 l))) l ++ x)) ≡ take (cond b 0 (suc (up_to 10 l))) (a ∷ l) ∷ lines_of x
    go true k r = refl
    go false k r = ap (cut_on false a) (r (omega arith))

take_min : (n : ℕ) (l : List ℕ) → take (min n (length l)) l ≡ take n l
take_min n l = go (leb n (length l)) refl
  where
    go : (b : Bool) → leb n (length l) ≡ b → take (min n (length l)) l ≡ take n l
    go true e = let h = leb-true n (length l) e in let z : min n (length l) ≡ n = omega arith in ap (λ (k : ℕ). take k l) z
    go false e = let h = leb-false n (length l) e in take_all (min n (length l)) l (omega arith) ∙ sym (take_all n l (omega arith))

-- the line at i, up to the next one at j, after the lines from a on
module _ (t : List ℕ) (a i e j : ℕ) (p : a ≤ i) (h : i < length t) (q : e ≡ i + up_to 10 (drop i t)) (z : j ≡ min (e + 1) (length t)) where
  with-lf : part i j t ≡ take (suc (up_to 10 (drop i t))) (drop i t)
  with-lf =
      let d = length-drop i t in
      let w : j - i ≡ min (suc (up_to 10 (drop i t))) (length (drop i t)) = omega arith in
      ap (λ (n : ℕ). take n (drop i t)) w ∙ take_min (suc (up_to 10 (drop i t))) (drop i t)

  bare : take (up_to 10 (drop i t)) (drop i t) ≡ part i e t
  bare = let w : up_to 10 (drop i t) ≡ e - i = omega arith in ap (λ (n : ℕ). take n (drop i t)) w

  part-two : part a j t ≡ part a i t ++ part i j t
  part-two =
      let u = up_to-le 10 (drop i t) in
      let d = length-drop i t in
      let w : j - a ≡ (i - a) + (j - i) = omega arith in
      let y : a + (i - a) ≡ i = omega arith in
      ap (λ (n : ℕ). take n (drop a t)) w ∙ take-add (i - a) (j - i) (drop a t)
      ∙ ap (λ (l : List ℕ). part a i t ++ take (j - i) l) (drop-drop (i - a) a t ∙ ap (λ (n : ℕ). drop n t) y)

  module _ (g : Whole (part a i t)) where
    pub above_more : lines_of (part a j t) ≡ lines_of (part a i t) ++ (part i e t ∷ [])
    above_more =
        let d = length-drop i t in
        ap lines_of part-two ∙ g (part i j t)
        ∙ ap (λ (ls : List (List ℕ)). lines_of (part a i t) ++ ls) (ap lines_of with-lf ∙ line-last (drop i t) (omega arith) ∙ ap (λ (l : List ℕ). l ∷ []) bare)

    whole-more : j < length t → Whole (part a j t)
    whole-more k x =
        let d = length-drop i t in
        ap (λ (l : List ℕ). lines_of (l ++ x)) part-two ∙ ap lines_of (append_assoc (part a i t) (part i j t) x) ∙ g (part i j t ++ x)
        ∙ ap (λ (ls : List (List ℕ)). lines_of (part a i t) ++ ls)
        (ap (λ (l : List ℕ). lines_of (l ++ x)) with-lf ∙ line-then (drop i t) x (omega arith) ∙ ap (λ (l : List ℕ). l ∷ lines_of x) bare)
        ∙ sym (append_snoc (lines_of (part a i t)) (part i e t) (lines_of x))
        ∙ sym (ap (λ (ls : List (List ℕ)). ls ++ lines_of x) above_more)

-- ---- the lines of the region below a line

until-lines : (l : List ℕ) → lines_of (take (up_header 0 l) l) ≡ until_header (lines_of l)
unfolding up_header lines_of region up_to until_header
until-lines l = ap (drop 1) (region-lines (10 ∷ l))

pub below-lines : (t : List ℕ) (i e j end : ℕ) → i ≤ length t → e ≡ i + up_to 10 (drop i t) → j ≡ min (e + 1) (length t) → end ≡ i + region_len (drop i t) → lines_of (part j end t) ≡ until_header (lines_of (drop j t))
below-lines t i e j end h q z y =
    let p = past t i e j q h z in
    let w : end - j ≡ up_header 0 (drop j t) = omega arith in
    ap (λ (n : ℕ). lines_of (take n (drop j t))) w ∙ until-lines (drop j t)

-- ---- spots

until-in : (sp : List BlockLine) → lines_within (until_head sp) ≡ until_header (lines_within sp)
unfolding lines_within until_head until_header
until-in [] = refl
until-in (d ∷ sp) = go (is_header d.line) (until-in sp)
  where
    go : (b : Bool) → lines_within (until_head sp) ≡ until_header (lines_within sp) → lines_within (cond b [] (d ∷ until_head sp)) ≡ cond b [] (d.line ∷ until_header (lines_within sp))
    go true e = refl
    go false e = ap (λ (ls : List (List ℕ)). d.line ∷ ls) e

until-short : (sp : List BlockLine) → length (lines_within (until_head sp)) ≤ length sp
unfolding lines_within until_head
until-short [] = omega arith
until-short (d ∷ sp) = go (is_header d.line) (until-short sp)
  where
    go : (b : Bool) → length (lines_within (until_head sp)) ≤ length sp → length (lines_within (cond b [] (d ∷ until_head sp))) ≤ suc (length sp)
    go true h = omega arith
    go false h = omega arith

use-in : (v : ℕ) (sp : List BlockLine) → use_row v (lines_within sp) ≡ first_use v sp
unfolding use_row lines_within first_use
use-in v [] = refl
use-in v (d ∷ sp) = rw (use-in v sp)

in-length : (sp : List BlockLine) → length (lines_within sp) ≡ length sp
unfolding lines_within
in-length [] = refl
in-length (d ∷ sp) = ap suc (in-length sp)

-- ---- the tables

rows-until : {sp : List BlockLine} {bs ss : List ℕ} → Rows sp bs ss → Rows (until_head sp) bs ss
unfolding until_head
rows-until none = none
rows-until (row {d} {ds} {bs} {ss} r) = go (is_header d.line) (rows-until r)
  where
    go : (b : Bool) → Rows (until_head ds) bs ss → Rows (cond b [] (d ∷ until_head ds)) (d.block ∷ bs) (cond d.starts 1 0 ∷ ss)
    go true k = none
    go false k = row k

rows_next : {d : BlockLine} {sp : List BlockLine} {bs ss : List ℕ} → Rows (d ∷ sp) bs ss → Rows sp (drop 1 bs) (drop 1 ss)
rows_next (row r) = r

rows_long : {sp : List BlockLine} {bs ss : List ℕ} → Rows sp bs ss → (length sp ≤ length bs) × (length sp ≤ length ss)
rows_long none = (omega arith, omega arith)
rows_long (row r) = let k = rows_long r in (omega (arith, k.0), omega (arith, k.1))

flag_is : (b : Bool) → eqb (cond b 1 0) 1 ≡ b
flag_is true = refl
flag_is false = refl

store_below : (v b : ℕ) {sp : List BlockLine} {bs ss : List ℕ} → Rows sp bs ss → (n : ℕ) →
    line_stores v (get_or (lines_within sp) n []) && (eqb (get_or bs n 0) b && eqb (get_or ss n 0) 1) ≡ store_at v b (drop n sp)
unfolding lines_within
store_below v b none n = rw (blank-stores v, drop-nil {A = BlockLine} n)
store_below v b (row {d} r) zero = rw (flag_is d.starts)
store_below v b (row r) (suc n) = store_below v b r n

store-rows : (v : ℕ) {d : BlockLine} {sp : List BlockLine} {bs ss : List ℕ} → Rows (d ∷ sp) bs ss → (n : ℕ) →
    line_stores v (get_or (lines_within (until_head sp)) n []) && (eqb (get_or bs (suc n) 0) (get_or bs 0 0) && eqb (get_or ss (suc n) 0) 1) ≡ store_at v d.block (drop n (until_head sp))
store-rows v {d} (row r) n = store_below v d.block (rows-until r) n

store_is : (v : ℕ) (d : BlockLine) (sp : List BlockLine) (bs ss : List ℕ) (k n : ℕ) → Rows (d ∷ sp) (drop k bs) (drop k ss) →
    stores_at v (lines_within (until_head sp)) bs ss k n ≡ store_at v d.block (drop n (until_head sp))
unfolding stores_at
store_is v d sp bs ss k n r =
    let z : k + 0 ≡ k = omega arith in
    let a : get_or bs k 0 ≡ get_or (drop k bs) 0 0 = sym (get_or-drop k bs 0 0 ∙ ap (λ (m : ℕ). get_or bs m 0) z) in
    rw (a, ← get_or-drop k bs (suc n) 0, ← get_or-drop k ss (suc n) 0) (store-rows v r n)

-- ---- a register is bound by the parts and the tables exactly where the definition says so

pub bound-as : (t : List ℕ) (s : Site) (bs ss : List ℕ) (v : ℕ) (above : List (List ℕ)) (d : BlockLine) (sp : List BlockLine) → Like above (above_of t s) → line_of t s ≡ d.line → below_of t s ≡ lines_within (until_head sp) →
    Rows (d ∷ sp) (drop s.row bs) (drop s.row ss) → bound_at t s bs ss v ≡ bound v above d (until_head sp)
unfolding bound_at bound
bound-as t s bs ss v above d sp k l b r =
    rw (l, b, ← k.decls v, ← k.stores v, ← k.used v, use-in v (until_head sp), store_is v d sp bs ss s.row (first_use v (until_head sp)) r)

-- ---- marks as entries

-- n of them, those that are not there 0
unfoldable pub pad_to : ℕ → List Bool → List ℕ
pad_to zero ms = []
pad_to (suc n) [] = 0 ∷ pad_to n []
pad_to (suc n) (m ∷ ms) = cond m 1 0 ∷ pad_to n ms

pad-length : (n : ℕ) (ms : List Bool) → length (pad_to n ms) ≡ n
unfolding pad_to
pad-length zero ms = refl
pad-length (suc n) [] = ap suc (pad-length n [])
pad-length (suc n) (m ∷ ms) = ap suc (pad-length n ms)

pad-none : (n : ℕ) → pad_to n [] ≡ replicate n 0
unfolding pad_to
pad-none zero = refl
pad-none (suc n) = ap (λ (r : List ℕ). 0 ∷ r) (pad-none n)

pad-cons : (n : ℕ) (ms : List Bool) → pad_to (suc n) ms ≡ cond (marked ms) 1 0 ∷ pad_to n (drop 1 ms)
unfolding pad_to
pad-cons n [] = refl
pad-cons n (m ∷ ms) = refl

pad-mark : (n k : ℕ) (ms : List Bool) → k < n → pad_to n (mark k ms) ≡ set (pad_to n ms) k 1
unfolding pad_to mark
pad-mark zero k ms h = absurd (omega arith)
pad-mark (suc n) zero [] h = refl
pad-mark (suc n) zero (m ∷ ms) h = refl
pad-mark (suc n) (suc k) [] h = ap (λ (r : List ℕ). 0 ∷ r) (pad-mark n k [] (omega arith))
pad-mark (suc n) (suc k) (m ∷ ms) h = ap (λ (r : List ℕ). cond m 1 0 ∷ r) (pad-mark n k ms (omega arith))

pad-set : (n k : ℕ) (ms : List Bool) (rest : List ℕ) → k < n → set (pad_to n ms ++ rest) k 1 ≡ pad_to n (mark k ms) ++ rest
pad-set n k ms rest h = set-append_left (pad_to n ms) rest k 1 (omega (arith, pad-length n ms)) ∙ ap (λ (r : List ℕ). r ++ rest) (sym (pad-mark n k ms h))

set-right : (p q : List ℕ) (k a : ℕ) → set (p ++ q) (length p + k) a ≡ p ++ set q k a
set-right [] q k a = let z : 0 + k ≡ k = omega arith in ap (λ (n : ℕ). set q n a) z
set-right (x ∷ p) q k a = let z : suc (length p) + k ≡ suc (length p + k) = omega arith in ap (λ (n : ℕ). set (x ∷ (p ++ q)) n a) z ∙ ap (λ (r : List ℕ). x ∷ r) (set-right p q k a)

module _ (above : List (List ℕ)) (d : BlockLine) (below : List BlockLine) where
  mark-nil : (ms : List Bool) → mark_all [] above d below ms ≡ ms
  unfolding mark_all
  mark-nil ms = refl

  -- where no name is bound, none is made
  pub mark-none : (ps : List (List ℕ)) (ms : List Bool) → any_bound ps above d below ≡ false → mark_all ps above d below ms ≡ ms
  unfolding mark_all any_bound
  mark-none [] ms e = refl
  mark-none (p ∷ ps) ms e = go (reg_of (trim_of p)) e (λ x. mark-none ps x)
    where
      by : (b c : Bool) (k : ℕ) → b || c ≡ false → (c ≡ false → mark_all ps above d below ms ≡ ms) → mark_all ps above d below (cond b (mark k ms) ms) ≡ ms
      by true c k h f = no (sym h)
      by false c k h f = f h

      go : (r : Option Register) → bound_by r above d below || any_bound ps above d below ≡ false → ((x : List Bool) → any_bound ps above d below ≡ false → mark_all ps above d below x ≡ x) → mark_all ps above d below (mark_one r above d below ms) ≡ ms
      go None h f = f ms h
      go (Some q) h f = by (bound q.0 above d below) (any_bound ps above d below) (first_use q.0 below) h (f ms)

-- a line that gives up no name
other-as : (l : List ℕ) (b : Bool) → other_text l (cond b 1 0) ≡ unlines (act (cond b (become (promoted l)) keep) l)
unfolding other_text unlines act
other-as l true = refl
other-as l false = refl

-- ---- a declaration, by a test f that is the definition's

module _ (f : ℕ → Bool) (above : List (List ℕ)) (d : BlockLine) (below : List BlockLine) (w : (v : ℕ) → f v ≡ bound v above d below) where
  any-is : (ps : List (List ℕ)) → any_pass f ps ≡ any_bound ps above d below
  unfolding any_pass any_bound
  any-is [] = refl
  any-is (p ∷ ps) = go (reg_of (trim_of p)) (any-is ps)
    where
      go : (r : Option Register) → any_pass f ps ≡ any_bound ps above d below → passes f r || any_pass f ps ≡ bound_by r above d below || any_bound ps above d below
      go None e = e
      go (Some q) e = rw (w q.0, e)

  pub kept-is : (ps : List (List ℕ)) → kept (left f) 1 ps ≡ unbound ps above d below
  unfolding kept unbound
  kept-is [] = refl
  kept-is (p ∷ ps) = go (reg_of (trim_of p)) refl (kept-is ps)
    where
      by : (b : Bool) (x y : List ℕ) → x ≡ y → cond (not b) (x ∷ []) [] ≡ cond b [] (y ∷ [])
      by true x y e = refl
      by false x y e = ap (λ (z : List ℕ). z ∷ []) e

      go : (r : Option Register) → reg_of (trim_of p) ≡ r → kept (left f) 1 ps ≡ unbound ps above d below → one (fails f r) 1 (trim_of p) ++ kept (left f) 1 ps ≡ unbound_one r above d below ++ unbound ps above d below
      go None h e = e
      go (Some q) h e = rw (w q.0, e) (ap (λ (x : List (List ℕ)). x ++ unbound ps above d below) (by (bound q.0 above d below) (bare_name 1 (trim_of p)) (reg_text q.0) (sym (reg-bare (trim_of p) q h))))

  -- what is written of a line
  text-as : (m : Bool) → site_text f d.line (cond m 1 0) ≡ unlines (act (bind_act d above below m) d.line)
  unfolding site_text bind_act gives_up pieces_of
  text-as m = go (is_decl (trim_of d.line))
    where
      some : (b : Bool) (ps : List (List ℕ)) → any_pass f ps ≡ b →
          cond b (decl_text (take (from_of d.line) d.line) (kept (left f) 1 ps) false) (other_text d.line (cond m 1 0))
          ≡ unlines (act (cond b (decl_act (take (from_of d.line) d.line) (unbound ps above d below)) (cond m (become (promoted d.line)) keep)) d.line)
      some true ps e =
          ap (λ (xs : List (List ℕ)). decl_text (take (from_of d.line) d.line) xs false) (kept-is ps)
          ∙ sym (act-text (take (from_of d.line) d.line) d.line (unbound ps above d below))
      some false ps e = other-as d.line m

      go : (b : Bool) →
          cond (b && any_pass f (parts_of 44 (body_of (trim_of d.line)))) (decl_text (take (from_of d.line) d.line) (kept (left f) 1 (parts_of 44 (body_of (trim_of d.line)))) false) (other_text d.line (cond m 1 0))
          ≡ unlines (act (cond (any_bound (cond b (parts_of 44 (body_of (trim_of d.line))) []) above d below)
          (decl_act (take (from_of d.line) d.line) (unbound (cond b (parts_of 44 (body_of (trim_of d.line))) []) above d below)) (cond m (become (promoted d.line)) keep)) d.line)
      go true = rw (any-is (parts_of 44 (body_of (trim_of d.line)))) (some (any_bound (parts_of 44 (body_of (trim_of d.line))) above d below) (parts_of 44 (body_of (trim_of d.line))) (any-is (parts_of 44 (body_of (trim_of d.line)))))
      go false = other-as d.line m

  -- ---- marks

  -- the marks of the lines to come as entries, n of them
  module _ (n : ℕ) (u : (v : ℕ) → bound v above d below ≡ true → first_use v below < n) (q rest : List ℕ) (g : ℕ → ℕ) (z : (v : ℕ) → g v ≡ length q + first_use v below) where
    note-one : (r : Option Register) (ms : List Bool) → noted f g r (q ++ (pad_to n ms ++ rest)) ≡ q ++ (pad_to n (mark_one r above d below ms) ++ rest)
    note-one None ms = refl
    note-one (Some x) ms = rw (w x.0) (go (bound x.0 above d below) (u x.0))
      where
        go : (b : Bool) → (b ≡ true → first_use x.0 below < n) →
            cond b (set (q ++ (pad_to n ms ++ rest)) (g x.0) 1) (q ++ (pad_to n ms ++ rest)) ≡ q ++ (pad_to n (cond b (mark (first_use x.0 below) ms) ms) ++ rest)
        go true k = rw (z x.0) (set-right q (pad_to n ms ++ rest) (first_use x.0 below) 1 ∙ ap (λ (y : List ℕ). q ++ y) (pad-set n (first_use x.0 below) ms rest (k refl)))
        go false k = refl

    note-all : (ps : List (List ℕ)) (ms : List Bool) → noted_all f g ps (q ++ (pad_to n ms ++ rest)) ≡ q ++ (pad_to n (mark_all ps above d below ms) ++ rest)
    unfolding noted_all mark_all
    note-all [] ms = refl
    note-all (p ∷ ps) ms = ap (noted_all f g ps) (note-one (reg_of (trim_of p)) ms) ∙ note-all ps (mark_one (reg_of (trim_of p)) above d below ms)

    -- the table of marks after a line
    marks-as : (ms : List Bool) → site_marks f g d.line (q ++ (pad_to n ms ++ rest)) ≡ q ++ (pad_to n (mark_all (pieces_of d.line) above d below ms) ++ rest)
    unfolding site_marks gives_up pieces_of
    marks-as ms = go (is_decl (trim_of d.line))
      where
        some : (b : Bool) (ps : List (List ℕ)) → any_bound ps above d below ≡ b → cond b (noted_all f g ps (q ++ (pad_to n ms ++ rest))) (q ++ (pad_to n ms ++ rest)) ≡ q ++ (pad_to n (mark_all ps above d below ms) ++ rest)
        some true ps e = note-all ps ms
        some false ps e = ap (λ (x : List Bool). q ++ (pad_to n x ++ rest)) (sym (mark-none above d below ps ms e))

        go : (b : Bool) →
            cond (b && any_pass f (parts_of 44 (body_of (trim_of d.line)))) (noted_all f g (parts_of 44 (body_of (trim_of d.line))) (q ++ (pad_to n ms ++ rest))) (q ++ (pad_to n ms ++ rest))
            ≡ q ++ (pad_to n (mark_all (cond b (parts_of 44 (body_of (trim_of d.line))) []) above d below ms) ++ rest)
        go true = rw (any-is (parts_of 44 (body_of (trim_of d.line)))) (some (any_bound (parts_of 44 (body_of (trim_of d.line))) above d below) (parts_of 44 (body_of (trim_of d.line))) refl)
        go false = ap (λ (x : List Bool). q ++ (pad_to n x ++ rest)) (sym (mark-nil above d below ms))

-- ---- the walk

-- what is still to be written
unfoldable pub go_text : List BlockLine → List (List ℕ) → List Bool → List ℕ
go_text sp us ms = unlines (apply (bind_go sp us ms) (lines_within sp))

-- the marks after the first line of the walk
abbrev next_marks : BlockLine → List BlockLine → List (List ℕ) → List Bool → List Bool
next_marks d sp us ms = mark_all (pieces_of d.line) (above_in d us) d (until_head sp) (drop 1 ms)

go-cons : (d : BlockLine) (sp : List BlockLine) (us : List (List ℕ)) (ms : List Bool) →
    go_text (d ∷ sp) us ms ≡ unlines (act (bind_act d (above_in d us) (until_head sp) (marked ms)) d.line) ++ go_text sp (d.line ∷ above_in d us) (next_marks d sp us ms)
unfolding go_text bind_go lines_within apply
go-cons d sp us ms = unlines-append (act (bind_act d (above_in d us) (until_head sp) (marked ms)) d.line) (apply (bind_go sp (d.line ∷ above_in d us) (next_marks d sp us ms)) (lines_within sp))

go-nil : (us : List (List ℕ)) (ms : List Bool) → go_text [] us ms ≡ []
unfolding go_text bind_go lines_within apply unlines
go-nil us ms = refl

-- what the table says of a line in the end
note_here : BlockLine → List BlockLine → List (List ℕ) → List Bool → ℕ
note_here d sp us ms = end_note (bind_act d (above_in d us) (until_head sp) (marked ms)) (marked ms)

notes-cons : (d : BlockLine) (sp : List BlockLine) (us : List (List ℕ)) (ms : List Bool) → notes_go (d ∷ sp) us ms ≡ note_here d sp us ms ∷ notes_go sp (d.line ∷ above_in d us) (next_marks d sp us ms)
unfolding notes_go note_here
notes-cons d sp us ms = refl

notes-empty : (us : List (List ℕ)) (ms : List Bool) → notes_go [] us ms ≡ []
unfolding notes_go
notes-empty us ms = refl

-- it is told by what was written of the line
note-text : (a : Act) (l : List ℕ) (m : Bool) → end_note a m ≡ cond (eqb (length (unlines (act a l))) 0) 2 (cond m 1 0)
unfolding act unlines
note-text keep l m = rw (ne_eqb (length (l ++ 10 ∷ [])) 0 (λ e. omega (arith, e, length-append l (10 ∷ []))))
note-text (become t) l m = rw (ne_eqb (length (t ++ 10 ∷ [])) 0 (λ e. omega (arith, e, length-append t (10 ∷ []))))
note-text (into n) l m = refl
note-text gone l m = refl

-- the entry k after those of q
set_here : (q rest : List ℕ) (x y k : ℕ) → length q ≡ k → set ((q ++ (x ∷ [])) ++ rest) k y ≡ (q ++ (y ∷ [])) ++ rest
set_here q rest x y k e =
    let z : k ≡ length q + 0 = omega arith in
    ap (λ (l : List ℕ). set l k y) (append_assoc q (x ∷ []) rest) ∙ ap (λ (n : ℕ). set (q ++ (x ∷ rest)) n y) z ∙ set-right q (x ∷ rest) 0 y ∙ sym (append_assoc q (y ∷ []) rest)

-- the table of marks: those of the lines above, then those made for the lines to come, sp
pub record Marks (t bs ss m₀ m : List ℕ) (sp : List BlockLine) (us : List (List ℕ)) (ms : List Bool) (k : ℕ) : Type 0 where
  pub before : List ℕ
  pub count : length before ≡ k
  pub total : k + length sp ≡ length (lines_of t)
  pub fits : length (lines_of t) ≤ length m₀
  pub table : m ≡ before ++ (pad_to (length sp) ms ++ drop (length (lines_of t)) m₀)
  pub so_far : before ++ notes_go sp us ms ≡ notes_go (tabled (lines_of t) bs ss) [] []

marks-length : {t bs ss m₀ m : List ℕ} {sp : List BlockLine} {us : List (List ℕ)} {ms : List Bool} {k : ℕ} → Marks t bs ss m₀ m sp us ms k → length m ≡ length m₀
marks-length {t} {bs} {ss} {m₀} {m} {sp} {us} {ms} {k} h =
    omega (
      arith,
      ap length h.table,
      length-append h.before (pad_to (length sp) ms ++ drop (length (lines_of t)) m₀),
      length-append (pad_to (length sp) ms) (drop (length (lines_of t)) m₀),
      pad-length (length sp) ms,
      length-drop (length (lines_of t)) m₀,
      h.count,
      h.total,
      h.fits,
    )

-- the loop: the lines from i on, sp, are still to come, and the part from top to i is the lines of the region above
pub record BindInv (t bs ss m₀ m d₀ d : List ℕ) (top end i k o : ℕ) : Type 0 where
  pub i≤ : i ≤ length t
  pub top≤ : top ≤ i
  pub sp : List BlockLine
  pub us : List (List ℕ)
  pub ms : List Bool
  pub lines : lines_within sp ≡ lines_of (drop i t)
  pub rows : Rows sp (drop k bs) (drop k ss)
  pub above : Like us (lines_of (part top i t))
  pub whole : i < length t → Whole (part top i t)
  pub ends : (e : ℕ) → i < length t → e ≡ i + up_to 10 (drop i t) → is_header (part i e t) ≡ false → end ≡ i + region_len (drop i t)
  pub writing : Writing 0 (unlines (apply (bind_go (tabled (lines_of t) bs ss) [] []) (lines_of t))) (go_text sp us ms) d₀ d o
  pub marks : Marks t bs ss m₀ m sp us ms k

-- a line, d, and those below it, sp
pub record Opened (t bs ss m₀ m d₀ d : List ℕ) (us : List (List ℕ)) (ms : List Bool) (i k o : ℕ) : Type 0 where
  pub spot : BlockLine
  pub more : List BlockLine
  pub lines : lines_within (spot ∷ more) ≡ lines_of (drop i t)
  pub rows : Rows (spot ∷ more) (drop k bs) (drop k ss)
  pub writing : Writing 0 (unlines (apply (bind_go (tabled (lines_of t) bs ss) [] []) (lines_of t))) (go_text (spot ∷ more) us ms) d₀ d o
  pub marks : Marks t bs ss m₀ m (spot ∷ more) us ms k

in-nil : lines_within [] ≡ []
unfolding lines_within
in-nil = refl

opened : {t bs ss m₀ m d₀ d : List ℕ} {top end i k o : ℕ} (h : BindInv t bs ss m₀ m d₀ d top end i k o) (e : ℕ) → i < length t → e ≡ i + up_to 10 (drop i t) → Opened t bs ss m₀ m d₀ d h.us h.ms i k o
opened {t} {bs} {ss} {m₀} {m} {d₀} {d} {top} {end} {i} {k} {o} h e l q = go h.sp h.lines h.rows h.writing h.marks
  where
    go : (sp : List BlockLine) → lines_within sp ≡ lines_of (drop i t) → Rows sp (drop k bs) (drop k ss) → Writing 0 (unlines (apply (bind_go (tabled (lines_of t) bs ss) [] []) (lines_of t))) (go_text sp h.us h.ms) d₀ d o → Marks t bs ss m₀ m sp h.us h.ms k →
        Opened t bs ss m₀ m d₀ d h.us h.ms i k o
    go [] a b c f = absurd (omega (arith, ap length (sym in-nil ∙ a ∙ lines-at t i e l q)))
    go (s ∷ sp) a b c f = record { spot = s; more = sp; lines = a; rows = b; writing = c; marks = f }

-- where a header may have opened a region
pub record RegionAt (t : List ℕ) (us : List (List ℕ)) (i e top end : ℕ) : Type 0 where
  pub top≤ : top ≤ i
  pub ends : end ≡ i + region_len (drop i t)
  pub above : Like (cond (is_header (part i e t)) [] us) (lines_of (part top i t))
  pub whole : Whole (part top i t)

pub lines_none : lines_of [] ≡ []
unfolding lines_of
lines_none = refl

module _ {t bs ss m₀ m d₀ d : List ℕ} {top end i k o : ℕ} (h : BindInv t bs ss m₀ m d₀ d top end i k o) (e : ℕ) (l : i < length t) (q : e ≡ i + up_to 10 (drop i t)) where
  pub region-same : (x : List ℕ) → x ≡ part i e t → is_header x ≡ false → RegionAt t h.us i e top end
  region-same x z n =
      let y : is_header (part i e t) ≡ false = ap is_header (sym z) ∙ n in
      record { top≤ = h.top≤; ends = h.ends e l q y; above = rw y h.above; whole = h.whole l }

  pub region-new : (x : List ℕ) → x ≡ part i e t → is_header x ≡ true → (r : ℕ) → r ≡ i + region_len (drop i t) → RegionAt t h.us i e i r
  region-new x z n r p =
      let y : is_header (part i e t) ≡ true = ap is_header (sym z) ∙ n in
      record { top≤ = omega arith; ends = p; above = rw (y, part_none t i, lines_none) like-none; whole = rw (part_none t i) whole-none }

  -- one turn: the line ends at e, and the next one begins at j
  module _ {top' end' : ℕ} (g : RegionAt t h.us i e top' end') (j : ℕ) (y : j ≡ min (e + 1) (length t)) where
    abbrev here : Opened t bs ss m₀ m d₀ d h.us h.ms i k o
    here = opened h e l q

    abbrev site : Site
    site = record { top = top'; from = i; to = e; next = j; end = end'; row = k; block = get_or bs k 0 }

    both : lines_within (here.spot ∷ here.more) ≡ part i e t ∷ lines_of (drop j t)
    both = here.lines ∙ lines-at t i e l q ∙ ap (λ (n : ℕ). part i e t ∷ lines_of (drop n t)) (sym y)

    line-is : here.spot.line ≡ part i e t
    unfolding lines_within
    line-is = ap (λ (ls : List (List ℕ)). get_or ls 0 []) both

    more-is : lines_within here.more ≡ lines_of (drop j t)
    unfolding lines_within
    more-is = ap (drop 1) both

    abbrev above-is : Like (above_in here.spot h.us) (above_of t site)
    above-is = rw line-is g.above

    below-is : below_of t site ≡ lines_within (until_head here.more)
    below-is = below-lines t i e j end' (omega arith) q y g.ends ∙ sym (until-in here.more ∙ ap until_header more-is)

    test-is : (v : ℕ) → bound_at t site bs ss v ≡ bound v (above_in here.spot h.us) here.spot (until_head here.more)
    test-is v = bound-as t site bs ss v (above_in here.spot h.us) here.spot here.more above-is (sym line-is) below-is here.rows

    long : k + suc (length (below_of t site)) ≤ k + length (here.spot ∷ here.more)
    long = omega (arith, ap length below-is, until-short here.more)

    pub walk-reach : Reach t site bs ss
    walk-reach =
        let r = rows_long here.rows in
        let a = length-drop k bs in
        let b = length-drop k ss in
        (omega (arith, long, r.0), omega (arith, long, r.1))

    pub walk-marks : k + suc (length (below_of t site)) ≤ length m
    walk-marks = omega (arith, long, marks-length here.marks, here.marks.total, here.marks.fits)

    -- the marks of the lines above and this one
    abbrev upper : List ℕ
    upper = here.marks.before ++ (cond (marked h.ms) 1 0 ∷ [])

    upper-length : length upper ≡ suc k
    upper-length = omega (arith, length-append here.marks.before (cond (marked h.ms) 1 0 ∷ []), here.marks.count)

    table_is : m ≡ upper ++ (pad_to (length here.more) (drop 1 h.ms) ++ drop (length (lines_of t)) m₀)
    table_is =
        here.marks.table
        ∙ ap (λ (x : List ℕ). here.marks.before ++ (x ++ drop (length (lines_of t)) m₀)) (pad-cons (length here.more) h.ms)
        ∙ sym (append_assoc here.marks.before (cond (marked h.ms) 1 0 ∷ []) (pad_to (length here.more) (drop 1 h.ms) ++ drop (length (lines_of t)) m₀))

    mark-here : get_or m k 0 ≡ cond (marked h.ms) 1 0
    mark-here =
        ap (λ (x : List ℕ). get_or x k 0) (here.marks.table ∙ ap (λ (x : List ℕ). here.marks.before ++ (x ++ drop (length (lines_of t)) m₀)) (pad-cons (length here.more) h.ms))
        ∙ get_or_at here.marks.before (cond (marked h.ms) 1 0) (pad_to (length here.more) (drop 1 h.ms) ++ drop (length (lines_of t)) m₀) 0 k here.marks.count

    site-text : unlines (act (bind_act here.spot (above_in here.spot h.us) (until_head here.more) (marked h.ms)) here.spot.line) ≡ site_text (bound_at t site bs ss) (line_of t site) (get_or m k 0)
    site-text =
        sym (text-as (bound_at t site bs ss) (above_in here.spot h.us) here.spot (until_head here.more) test-is (marked h.ms))
        ∙ ap (λ (x : List ℕ). site_text (bound_at t site bs ss) x (cond (marked h.ms) 1 0)) line-is
        ∙ ap (site_text (bound_at t site bs ss) (line_of t site)) (sym mark-here)

    text-is : go_text (here.spot ∷ here.more) h.us h.ms ≡ site_text (bound_at t site bs ss) (line_of t site) (get_or m k 0) ++ go_text here.more (here.spot.line ∷ above_in here.spot h.us) (next_marks here.spot here.more h.us h.ms)
    text-is =
        go-cons here.spot here.more h.us h.ms
        ∙ ap (λ (x : List ℕ). x ++ go_text here.more (here.spot.line ∷ above_in here.spot h.us) (next_marks here.spot here.more h.us h.ms))
        site-text

    pub walk-room : o + length (site_text (bound_at t site bs ss) (line_of t site) (get_or m k 0)) ≤ length d
    walk-room = writing-fits (site_text (bound_at t site bs ss) (line_of t site) (get_or m k 0)) _ (writing-as text-is here.writing)

    row_is : (v : ℕ) → mark_row t site v ≡ length upper + first_use v (until_head here.more)
    row_is v = omega (arith, upper-length, ap (use_row v) below-is, use-in v (until_head here.more))

    use-lt : (v : ℕ) → bound v (above_in here.spot h.us) here.spot (until_head here.more) ≡ true → first_use v (until_head here.more) < length here.more
    use-lt v e₁ = omega (arith, bound-lt t site bs ss v (test-is v ∙ e₁), ap (use_row v) below-is, use-in v (until_head here.more), ap length below-is, until-short here.more)

    mid-table : site_marks (bound_at t site bs ss) (mark_row t site) (line_of t site) m ≡ upper ++ (pad_to (length here.more) (next_marks here.spot here.more h.us h.ms) ++ drop (length (lines_of t)) m₀)
    mid-table =
        ap (site_marks (bound_at t site bs ss) (mark_row t site) (line_of t site)) table_is
        ∙ ap (λ (x : List ℕ). site_marks (bound_at t site bs ss) (mark_row t site) x (upper ++ (pad_to (length here.more) (drop 1 h.ms) ++ drop (length (lines_of t)) m₀))) (sym line-is)
        ∙ marks-as (bound_at t site bs ss) (above_in here.spot h.us) here.spot (until_head here.more) test-is (length here.more) use-lt upper (drop (length (lines_of t)) m₀) (mark_row t site) row_is (drop 1 h.ms)

    -- the marks of the lines above, and what the table says of this one
    abbrev lower : List ℕ
    lower = here.marks.before ++ (note_here here.spot here.more h.us h.ms ∷ [])

    next-table : site_notes (bound_at t site bs ss) (mark_row t site) (line_of t site) k m ≡ lower ++ (pad_to (length here.more) (next_marks here.spot here.more h.us h.ms) ++ drop (length (lines_of t)) m₀)
    unfolding site_notes note_here
    next-table =
        let a : Act = bind_act here.spot (above_in here.spot h.us) (until_head here.more) (marked h.ms) in
        let x : List ℕ = pad_to (length here.more) (next_marks here.spot here.more h.us h.ms) ++ drop (length (lines_of t)) m₀ in
        let e : length (site_text (bound_at t site bs ss) (line_of t site) (get_or m k 0)) ≡ length (unlines (act a here.spot.line)) = ap length (sym site-text) in
        rw (e, mid-table) (
        go (eqb (length (unlines (act a here.spot.line))) 0)
        ∙ ap (λ (n : ℕ). (here.marks.before ++ (n ∷ [])) ++ x) (sym (note-text a here.spot.line (marked h.ms)))
        )
      where
        go : (b : Bool) → cond b (set (upper ++ (pad_to (length here.more) (next_marks here.spot here.more h.us h.ms) ++ drop (length (lines_of t)) m₀)) k 2) (upper ++ (pad_to (length here.more) (next_marks here.spot here.more h.us h.ms) ++ drop (length (lines_of t)) m₀))
            ≡ (here.marks.before ++ (cond b 2 (cond (marked h.ms) 1 0) ∷ [])) ++ (pad_to (length here.more) (next_marks here.spot here.more h.us h.ms) ++ drop (length (lines_of t)) m₀)
        go true = set_here here.marks.before (pad_to (length here.more) (next_marks here.spot here.more h.us h.ms) ++ drop (length (lines_of t)) m₀) (cond (marked h.ms) 1 0) 2 k here.marks.count
        go false = refl

    marks_next : {m' : List ℕ} → m' ≡ site_notes (bound_at t site bs ss) (mark_row t site) (line_of t site) k m →
        Marks t bs ss m₀ m' here.more (here.spot.line ∷ above_in here.spot h.us) (next_marks here.spot here.more h.us h.ms) (k + 1)
    marks_next {m'} x = record {
      before = lower;
      count = omega (arith, length-append here.marks.before (note_here here.spot here.more h.us h.ms ∷ []), here.marks.count);
      total = omega (arith, here.marks.total);
      fits = here.marks.fits;
      table = x ∙ next-table;
      so_far = append_snoc here.marks.before (note_here here.spot here.more h.us h.ms) (notes_go here.more (here.spot.line ∷ above_in here.spot h.us) (next_marks here.spot here.more h.us h.ms))
          ∙ ap (λ (z : List ℕ). here.marks.before ++ z) (sym (notes-cons here.spot here.more h.us h.ms)) ∙ here.marks.so_far;
    }

    next-rows : Rows here.more (drop (k + 1) bs) (drop (k + 1) ss)
    next-rows = rw (← drop-drop 1 k bs, ← drop-drop 1 k ss) (rows_next here.rows)

    next-above : Like (here.spot.line ∷ above_in here.spot h.us) (lines_of (part top' j t))
    next-above = rw (above_more t top' i e j g.top≤ l q y g.whole) (subst (λ (x : List ℕ). Like (here.spot.line ∷ above_in here.spot h.us) (lines_of (part top' i t) ++ (x ∷ []))) line-is (like-on here.spot.line above-is))

    next-ends : (f : ℕ) → j < length t → f ≡ j + up_to 10 (drop j t) → is_header (part j f t) ≡ false → end' ≡ j + region_len (drop j t)
    next-ends f a b c = g.ends ∙ sym (past t i e j q (omega arith) y) ∙ ap (λ (n : ℕ). j + n) (end_on t j f a b c)

    pub walk-on : {d' m' : List ℕ} {o' : ℕ} → Wrote d o (site_text (bound_at t site bs ss) (line_of t site) (get_or m k 0)) d' o' → m' ≡ site_notes (bound_at t site bs ss) (mark_row t site) (line_of t site) k m →
        BindInv t bs ss m₀ m' d₀ d' top' end' j (k + 1) o'
    walk-on v x = record {
      i≤ = omega arith;
      top≤ = omega (arith, g.top≤);
      sp = here.more;
      us = here.spot.line ∷ above_in here.spot h.us;
      ms = next_marks here.spot here.more h.us h.ms;
      lines = more-is;
      rows = next-rows;
      above = next-above;
      whole = whole-more t top' i e j g.top≤ l q y g.whole;
      ends = next-ends;
      writing = writing-put (writing-as text-is here.writing) v;
      marks = marks_next x;
    }

-- ---- where the walk begins and ends

pub in-spots : (ls : List (List ℕ)) (bs : List ℕ) (ss : List Bool) → length bs ≡ length ls → length ss ≡ length ls → lines_within (block_lines_of ls bs ss) ≡ ls
unfolding block_lines_of lines_within
in-spots [] bs ss p q = refl
in-spots (l ∷ ls) [] ss p q = absurd (omega arith)
in-spots (l ∷ ls) (b ∷ bs) [] p q = absurd (omega arith)
in-spots (l ∷ ls) (b ∷ bs) (s ∷ ss) p q = ap (λ (r : List (List ℕ)). l ∷ r) (in-spots ls bs ss (omega arith) (omega arith))

rows-spots : (ls : List (List ℕ)) (bs : List ℕ) (ss : List Bool) (x y : List ℕ) → length bs ≡ length ls → length ss ≡ length ls → Rows (block_lines_of ls bs ss) (bs ++ x) (flags_of ss ++ y)
unfolding block_lines_of flags_of
rows-spots [] bs ss x y p q = none
rows-spots (l ∷ ls) [] ss x y p q = absurd (omega arith)
rows-spots (l ∷ ls) (b ∷ bs) [] x y p q = absurd (omega arith)
rows-spots (l ∷ ls) (b ∷ bs) (s ∷ ss) x y p q = row (rows-spots ls bs ss x y (omega arith) (omega arith))

-- rows and lines tell the lines by the tables
rows_told : (ls : List (List ℕ)) (sp : List BlockLine) {bs ss : List ℕ} → Rows sp bs ss → lines_within sp ≡ ls → tabled ls bs ss ≡ sp
unfolding lines_within tabled
rows_told ls [] (none {bs = bs} {ss = ss}) e = ap (λ (x : List (List ℕ)). tabled x bs ss) (sym e)
rows_told ls (d ∷ sp) (row {bs = bs} {ss = ss} r) e =
    ap (λ (x : List (List ℕ)). tabled x (d.block ∷ bs) (cond d.starts 1 0 ∷ ss)) (sym e)
    ∙ ap (λ (x : List BlockLine). record { line = d.line; block = d.block; starts = eqb (cond d.starts 1 0) 1 } ∷ x) (rows_told (lines_within sp) sp r refl)
    ∙ ap (λ (x : Bool). record { line = d.line; block = d.block; starts = x } ∷ sp) (flag_is d.starts)
  where
    flag_is : (x : Bool) → eqb (cond x 1 0) 1 ≡ x
    flag_is true = refl
    flag_is false = refl

-- the tables as `place::place_lines` fills them in a mode: the lines by them are those of the mode
module _ (mode : ℕ) (t : List ℕ) {b₀ b s₀ s u₀ u : List ℕ} {r : ℕ} (f : FilledBy (joined_at mode) t b₀ b s₀ s u₀ u r) where
  abbrev ls : List (List ℕ)
  ls = lines_of t

  abbrev rests : List (List ℕ)
  rests = rests_in (joined_at mode) ls

  starts-long : length (starts_go (cleaned rests) true) ≡ length ls
  starts-long = sym (flags-length (starts_go (cleaned rests) true)) ∙ start-count (joined_at mode) ls

  spots-lines : lines_within (block_lines (reading_of mode) ls) ≡ ls
  unfolding block_lines
  spots-lines = in-spots ls (block_ids rests) (starts_go (cleaned rests) true) (block-count (joined_at mode) ls) starts-long

  spots-rows : Rows (block_lines (reading_of mode) ls) b s
  unfolding block_lines
  spots-rows =
      rw (f.0.holds, f.1.0.holds)
      (rows-spots ls (block_ids rests) (starts_go (cleaned rests) true) (drop (length (block_ids rests)) b₀) (drop (length (flags_of (starts_go (cleaned rests) true))) s₀) (block-count (joined_at mode) ls) starts-long)

  pub tabled-is : tabled ls b s ≡ block_lines (reading_of mode) ls
  tabled-is = rows_told ls (block_lines (reading_of mode) ls) spots-rows spots-lines

  pub tabled-rows : Rows (tabled ls b s) b s
  tabled-rows = subst (λ (x : List BlockLine). Rows x b s) (sym tabled-is) spots-rows

  pub tabled_lines : lines_within (tabled ls b s) ≡ ls
  tabled_lines = ap lines_within tabled-is ∙ spots-lines

  pub tabled-text : unlines (apply (bind_go (tabled ls b s) [] []) ls) ≡ unlines (bind_declarators (reading_of mode) ls)
  unfolding bind_declarators bind_declarators_acts
  tabled-text = ap (λ (x : List BlockLine). unlines (apply (bind_go x [] []) ls)) tabled-is

  pub tabled-notes : notes_go (tabled ls b s) [] [] ≡ bind_notes (reading_of mode) ls
  unfolding bind_notes
  tabled-notes = ap (λ (x : List BlockLine). notes_go x [] []) tabled-is

  pub row_count : r ≡ length ls
  row_count = f.0.place ∙ block-count (joined_at mode) ls

go_all : (ls : List (List ℕ)) (sp : List BlockLine) → lines_within sp ≡ ls → unlines (apply (bind_go sp [] []) ls) ≡ go_text sp [] []
unfolding go_text
go_all ls sp e = ap (λ (r : List (List ℕ)). unlines (apply (bind_go sp [] []) r)) (sym e)

marks-start : (t bs ss m : List ℕ) → lines_within (tabled (lines_of t) bs ss) ≡ lines_of t → length (lines_of t) ≤ length m → take (length (lines_of t)) m ≡ replicate (length (lines_of t)) 0 →
    Marks t bs ss m m (tabled (lines_of t) bs ss) [] [] 0
marks-start t bs ss m e p q =
    let n : length (tabled (lines_of t) bs ss) ≡ length (lines_of t) = sym (in-length (tabled (lines_of t) bs ss)) ∙ ap length e in
    record {
      before = [];
      count = refl;
      total = omega arith;
      fits = p;
      table = sym (take-append-drop (length (lines_of t)) m)
          ∙ ap (λ (x : List ℕ). x ++ drop (length (lines_of t)) m) (q ∙ sym (pad-none (length (lines_of t))) ∙ ap (λ (k : ℕ). pad_to k []) (sym n));
      so_far = refl;
    }

pub walk_start : (t bs ss m d : List ℕ) (end : ℕ) → Rows (tabled (lines_of t) bs ss) bs ss → lines_within (tabled (lines_of t) bs ss) ≡ lines_of t → length (lines_of t) ≤ length m → take (length (lines_of t)) m ≡ replicate (length (lines_of t)) 0 →
    length (unlines (apply (bind_go (tabled (lines_of t) bs ss) [] []) (lines_of t))) ≤ length d →
    ((e : ℕ) → 0 < length t → e ≡ 0 + up_to 10 (drop 0 t) → is_header (part 0 e t) ≡ false → end ≡ 0 + region_len (drop 0 t)) → BindInv t bs ss m m d d 0 end 0 0 0
walk_start t bs ss m d end r v p q w z = record {
  i≤ = omega arith;
  top≤ = omega arith;
  sp = tabled (lines_of t) bs ss;
  us = [];
  ms = [];
  lines = v;
  rows = r;
  above = rw (part_none t 0, lines_none) like-none;
  whole = λ h. rw (part_none t 0) whole-none;
  ends = z;
  writing = writing-as (go_all (lines_of t) (tabled (lines_of t) bs ss) v) (writing_start 0 (unlines (apply (bind_go (tabled (lines_of t) bs ss) [] []) (lines_of t))) d (omega arith));
  marks = marks-start t bs ss m v p q;
}

sp-nil : (sp : List BlockLine) → length sp ≡ 0 → sp ≡ []
sp-nil [] e = refl
sp-nil (d ∷ sp) e = absurd (omega arith)

module _ {t bs ss m₀ m d₀ d : List ℕ} {top end i k o : ℕ} (h : BindInv t bs ss m₀ m d₀ d top end i k o) where
  pub walk-length : length d ≡ length d₀
  walk-length = writing-length h.writing

  pub walk-marked : length m ≡ length m₀
  walk-marked = marks-length h.marks

  pub walk-lt : i < length t → k < length m
  walk-lt l = omega (arith, marks-length h.marks, h.marks.total, h.marks.fits, ap length h.lines, in-length h.sp, ap length (lines-at t i (i + up_to 10 (drop i t)) l refl))

  all_read : length t ≤ i → h.sp ≡ []
  all_read l = sp-nil h.sp (omega (arith, in-length h.sp, ap length (h.lines ∙ lines_end t i l)))

  pub walk_end : length t ≤ i → Wrote d₀ 0 (unlines (apply (bind_go (tabled (lines_of t) bs ss) [] []) (lines_of t))) d o
  walk_end l = writing-end (writing-as (ap (λ (sp : List BlockLine). go_text sp h.us h.ms) (all_read l) ∙ go-nil h.us h.ms) h.writing)

  pub walk-filled : length t ≤ i → Filled m₀ (notes_go (tabled (lines_of t) bs ss) [] []) m (length (lines_of t))
  unfolding pad_to
  walk-filled l =
      let z = all_read l in
      let b : h.marks.before ≡ notes_go (tabled (lines_of t) bs ss) [] [] =
      sym (append-nil h.marks.before) ∙ ap (λ (x : List ℕ). h.marks.before ++ x) (sym (ap (λ (sp : List BlockLine). notes_go sp h.us h.ms) z ∙ notes-empty h.us h.ms)) ∙ h.marks.so_far in
      let n : length (lines_of t) ≡ length (notes_go (tabled (lines_of t) bs ss) [] []) = omega (arith, h.marks.total, h.marks.count, ap length z, ap length b) in
      record {
        place = n;
        holds = h.marks.table
            ∙ ap (λ (sp : List BlockLine). h.marks.before ++ (pad_to (length sp) h.ms ++ drop (length (lines_of t)) m₀)) z
            ∙ ap (λ (x : List ℕ). x ++ drop (length (lines_of t)) m₀) b
            ∙ ap (λ (x : ℕ). notes_go (tabled (lines_of t) bs ss) [] [] ++ drop x m₀) n;
      }

-- ---- `bind_declarators`: the tables, then the marks cleared, then the walk

pub cleared : {m m' : List ℕ} {n k : ℕ} → n ≡ k → Filled m (replicate n 0) m' n → take k m' ≡ replicate k 0
cleared {m} {m'} {n} {k} e f = subst (λ (x : ℕ). take x m' ≡ replicate x 0) e (filled-take f)

pub filled_at : {d xs d' : List ℕ} {n k : ℕ} → n ≡ k → Filled d xs d' n → Filled d xs d' k
filled_at {d} {xs} {d'} e f = subst (λ (x : ℕ). Filled d xs d' x) e f
