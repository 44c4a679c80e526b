-- Demand 3 for bind_declarators, for every reading that cleans lines one by one. Assumes nothing.
use Prim.Native.Nat.{ℕ, zero, suc, ◌+◌, ◌≤◌, ◌<◌}
use mathlib.Core.Path.{◌≡◌, refl, sym, ap, ◌∙◌}
use mathlib.Core.Bool.{Bool, true, false, cond, not, ◌||◌}
use mathlib.Core.List.{List, [], ◌∷◌, ◌++◌, append-nil}
use native.Mathlib.Omega.{arith}
use lib.Dec.{eqb}
use lib.ListN.{length, take, drop, length-drop}
use lib.Seq.{drop-nil}
use Rattle.lines.specs.Acts.{Act, keep, become, apply}
use Rattle.lines.proofs.ActLaws.{apply-append}
use Rattle.lines.proofs.Tests.{no, and_right}
use Rattle.text.specs.Trim.{from_of, trim_of}
use Rattle.names.specs.Names.{reg_of}
use Rattle.std.specs.declared.option.Option.{Option}
use Rattle.names.specs.declared.Register.{Register}
use Rattle.std.specs.declared.option.Option.TheVariants.{Some, None}
use Rattle.place.specs.Region.{is_header}
use Rattle.place.specs.Inner.Region.{headed}
use Rattle.place.specs.Blocks.{blocks}
use Rattle.place.specs.Inner.Blocks.{own}
use Rattle.place.specs.Starts.{starts_go}
use Rattle.place.proofs.Blocks.{rename, renamed, block_below, next_below, blocks-cut, below-lt, same-renamed, length-blocks}
use Rattle.place.proofs.Starts.{length-starts, starts_below, starts-cut}
use Rattle.decls.specs.Decls.{decl_act}
use Rattle.reading.specs.Reading.{Reading}
use Rattle.reading.proofs.Lined.{Lined}
use Rattle.reading.specs.Uses.{used_in}
use Rattle.bind.specs.Bind.{BlockLine, block_lines_of, block_lines, lines_within, until_head, decl_count, store_count, first_use, store_at, bound, bound_by, any_bound, unbound_one, unbound, mark, mark_one, mark_all, marked, pieces_of, promoted, bind_act, above_in, bind_go, bind_declarators_acts, bind_declarators}

-- ---- a mark is made for a line of the region

mark-long : (k n : ℕ) (ms : List Bool) → k < n → length ms ≤ n → length (mark k ms) ≤ n
unfolding mark
mark-long zero n [] h p = omega arith
mark-long zero n (m ∷ ms) h p = omega arith
mark-long (suc k) zero ms h p = absurd (omega arith)
mark-long (suc k) (suc n) [] h p = omega (arith, mark-long k n [] (omega arith) (omega arith))
mark-long (suc k) (suc n) (m ∷ ms) h p = omega (arith, mark-long k n ms (omega arith) (omega arith))

store_lt : (v b n : ℕ) (sp : List BlockLine) → store_at v b (drop n sp) ≡ true → n < length sp
store_lt v b n [] h = no (ap (λ (r : List BlockLine). store_at v b r) (sym (drop-nil {A = BlockLine} n)) ∙ h)
store_lt v b zero (s ∷ sp) h = omega arith
store_lt v b (suc n) (s ∷ sp) h = omega (arith, store_lt v b n sp h)

-- the first use of a register that is bound is a store of it
pub bound-store : (v : ℕ) (above : List (List ℕ)) (d : BlockLine) (below : List BlockLine) → bound v above d below ≡ true → store_at v d.block (drop (first_use v below) below) ≡ true
unfolding bound
bound-store v above d below h =
    and_right (not (used_in v above)) _ (and_right (eqb (store_count v above + store_count v (lines_within below)) 1) _
    (and_right (eqb (decl_count v above + (decl_count v (d.line ∷ []) + decl_count v (lines_within below))) 1) _ h))

bound-near : (v : ℕ) (above : List (List ℕ)) (d : BlockLine) (below : List BlockLine) → bound v above d below ≡ true → first_use v below < length below
bound-near v above d below h = store_lt v d.block (first_use v below) below (bound-store v above d below h)

module _ (above : List (List ℕ)) (d : BlockLine) (below : List BlockLine) where
  one-long : (r : Option Register) (ms : List Bool) → length ms ≤ length below → length (mark_one r above d below ms) ≤ length below
  one-long None ms h = h
  one-long (Some q) ms h = go (bound q.0 above d below) (bound-near q.0 above d below)
    where
      go : (b : Bool) → (b ≡ true → first_use q.0 below < length below) → length (cond b (mark (first_use q.0 below) ms) ms) ≤ length below
      go true f = mark-long (first_use q.0 below) (length below) ms (f refl) h
      go false f = h

  all-long : (ps : List (List ℕ)) (ms : List Bool) → length ms ≤ length below → length (mark_all ps above d below ms) ≤ length below
  unfolding mark_all
  all-long [] ms h = h
  all-long (p ∷ ps) ms h = all-long ps (mark_one (reg_of (trim_of p)) above d below ms) (one-long (reg_of (trim_of p)) ms h)

-- ---- above a header

until-above : (h : BlockLine) (t : List BlockLine) → is_header h.line ≡ true → (u : List BlockLine) → until_head (u ++ h ∷ t) ≡ until_head u
unfolding until_head
until-above h t e [] = rw e
until-above h t e (d ∷ u) = rw (until-above h t e u)

none_left : (ms : List Bool) → length ms ≤ 0 → ms ≡ []
none_left [] p = refl
none_left (m ∷ ms) p = absurd (omega arith)

until-nil : until_head [] ≡ []
unfolding until_head
until-nil = refl

-- the marks that a line has no use for
drop-long : (d : BlockLine) (u : List BlockLine) (ms : List Bool) → length ms ≤ length (until_head (d ∷ u)) → length (drop 1 ms) ≤ length (until_head u)
unfolding until_head
drop-long d u ms h = go (is_header d.line) h
  where
    go : (b : Bool) → length ms ≤ length (cond b [] (d ∷ until_head u)) → length (drop 1 ms) ≤ length (until_head u)
    go true k = omega (arith, length-drop 1 ms)
    go false k = omega (arith, length-drop 1 ms)

module _ (h : BlockLine) (t : List BlockLine) (e : is_header h.line ≡ true) where
  at-header : (above : List (List ℕ)) → bind_go (h ∷ t) above [] ≡ bind_go (h ∷ t) [] []
  unfolding bind_go
  at-header above = rw e

  go-upper : (u : List BlockLine) (above : List (List ℕ)) (ms : List Bool) → length ms ≤ length (until_head u) → bind_go (u ++ h ∷ t) above ms ≡ bind_go u above ms ++ bind_go (h ∷ t) [] []
  unfolding bind_go
  go-upper [] above ms p = ap (bind_go (h ∷ t) above) (none_left ms (omega (arith, ap length until-nil))) ∙ at-header above
  go-upper (d ∷ u) above ms p =
      rw (until-above h t e u)
      (ap (λ (r : List Act). bind_act d (above_in d above) (until_head u) (marked ms) ∷ r)
      (go-upper u (d.line ∷ above_in d above) (mark_all (pieces_of d.line) (above_in d above) d (until_head u) (drop 1 ms))
      (all-long (above_in d above) d (until_head u) (pieces_of d.line) (drop 1 ms) (drop-long d u ms p))))

-- ---- lines that are alike: the same but for the names of blocks, and for whether a header starts a statement

pub data Alike (ren : ℕ → ℕ) : List BlockLine → List BlockLine → Type 0 where
  none : Alike ren [] []
  each : {s d : BlockLine} {ss ds : List BlockLine} → s.line ≡ d.line → s.block ≡ ren d.block → (is_header d.line ≡ false → s.starts ≡ d.starts) → Alike ren ss ds → Alike ren (s ∷ ss) (d ∷ ds)

-- and none of them is a header
data Level (ren : ℕ → ℕ) : List BlockLine → List BlockLine → Type 0 where
  none : Level ren [] []
  each : {s d : BlockLine} {ss ds : List BlockLine} → s.line ≡ d.line → s.block ≡ ren d.block → s.starts ≡ d.starts → Level ren ss ds → Level ren (s ∷ ss) (d ∷ ds)

module _ (ren : ℕ → ℕ) (inj : (a b : ℕ) → eqb (ren a) (ren b) ≡ eqb a b) where
  level-until : {ss ds : List BlockLine} → Alike ren ss ds → Level ren (until_head ss) (until_head ds)
  unfolding until_head
  level-until none = none
  level-until (each {s} {d} {ss} {ds} l b st r) = go (is_header s.line) (is_header d.line) (ap is_header l) refl (level-until r)
    where
      go : (g h : Bool) → g ≡ h → is_header d.line ≡ h → Level ren (until_head ss) (until_head ds) → Level ren (cond g [] (s ∷ until_head ss)) (cond h [] (d ∷ until_head ds))
      go true true z e k = none
      go false false z e k = each l b (st e) k
      go true false z e k = no (sym z)
      go false true z e k = no z

  level-lines : {ss ds : List BlockLine} → Level ren ss ds → lines_within ss ≡ lines_within ds
  unfolding lines_within
  level-lines none = refl
  level-lines (each l b st r) = rw (l, level-lines r)

  level-first : (v : ℕ) {ss ds : List BlockLine} → Level ren ss ds → first_use v ss ≡ first_use v ds
  unfolding first_use
  level-first v none = refl
  level-first v (each l b st r) = rw (l, level-first v r)

  level-store : (v b n : ℕ) {ss ds : List BlockLine} → Level ren ss ds → store_at v (ren b) (drop n ss) ≡ store_at v b (drop n ds)
  level-store v b n none = ap (λ (r : List BlockLine). store_at v (ren b) r) (drop-nil {A = BlockLine} n) ∙ sym (ap (λ (r : List BlockLine). store_at v b r) (drop-nil {A = BlockLine} n))
  level-store v b zero (each {s} {d} l k st r) = rw (l, k, inj d.block b, st)
  level-store v b (suc n) (each l k st r) = level-store v b n r

  module _ (above : List (List ℕ)) (s d : BlockLine) (ss ds : List BlockLine) (l : s.line ≡ d.line) (b : s.block ≡ ren d.block) (r : Level ren ss ds) where
    same-bound : (v : ℕ) → bound v above s ss ≡ bound v above d ds
    unfolding bound
    same-bound v = rw (l, b, level-lines r, level-first v r, level-store v d.block (first_use v ds) r)

    same-any : (ps : List (List ℕ)) → any_bound ps above s ss ≡ any_bound ps above d ds
    unfolding any_bound
    same-any [] = refl
    same-any (p ∷ ps) = go (reg_of (trim_of p)) (same-any ps)
      where
        go : (n : Option Register) → any_bound ps above s ss ≡ any_bound ps above d ds → bound_by n above s ss || any_bound ps above s ss ≡ bound_by n above d ds || any_bound ps above d ds
        go None e = e
        go (Some q) e = rw (same-bound q.0, e)

    same-unbound : (ps : List (List ℕ)) → unbound ps above s ss ≡ unbound ps above d ds
    unfolding unbound
    same-unbound [] = refl
    same-unbound (p ∷ ps) = go (reg_of (trim_of p)) (same-unbound ps)
      where
        go : (n : Option Register) → unbound ps above s ss ≡ unbound ps above d ds → unbound_one n above s ss ++ unbound ps above s ss ≡ unbound_one n above d ds ++ unbound ps above d ds
        go None e = e
        go (Some q) e = rw (same-bound q.0, e)

    same-mark : (n : Option Register) (ms : List Bool) → mark_one n above s ss ms ≡ mark_one n above d ds ms
    same-mark None ms = refl
    same-mark (Some q) ms = rw (same-bound q.0, level-first q.0 r)

    same-marks : (ps : List (List ℕ)) (ms : List Bool) → mark_all ps above s ss ms ≡ mark_all ps above d ds ms
    unfolding mark_all
    same-marks [] ms = refl
    same-marks (p ∷ ps) ms = ap (mark_all ps above s ss) (same-mark (reg_of (trim_of p)) ms) ∙ same-marks ps (mark_one (reg_of (trim_of p)) above d ds ms)

    same-act : (m : Bool) → bind_act s above ss m ≡ bind_act d above ds m
    unfolding bind_act
    same-act m =
        ap (λ (a : Bool). cond a (decl_act (take (from_of s.line) s.line) (unbound (pieces_of s.line) above s ss)) (cond m (become (promoted s.line)) keep)) (same-any (pieces_of s.line))
        ∙ ap (λ (x : List (List ℕ)). cond (any_bound (pieces_of s.line) above d ds) (decl_act (take (from_of s.line) s.line) x) (cond m (become (promoted s.line)) keep)) (same-unbound (pieces_of s.line))
        ∙ ap (λ (x : List ℕ). cond (any_bound (pieces_of x) above d ds) (decl_act (take (from_of x) x) (unbound (pieces_of x) above d ds)) (cond m (become (promoted x)) keep)) l

  pub same-go : {ss ds : List BlockLine} → Alike ren ss ds → (above : List (List ℕ)) (ms : List Bool) → bind_go ss above ms ≡ bind_go ds above ms
  unfolding bind_go
  same-go none above ms = refl
  same-go (each {s} {d} {ss} {ds} l b st r) above ms =
      let u = level-until r in
      let a : above_in s above ≡ above_in d above = ap (λ (x : List ℕ). cond (is_header x) [] above) l in
      ap (λ (y : List (List ℕ)). bind_act s y (until_head ss) (marked ms) ∷ bind_go ss (s.line ∷ y) (mark_all (pieces_of s.line) y s (until_head ss) (drop 1 ms))) a
      ∙ ap (λ (x : Act). x ∷ bind_go ss (s.line ∷ above_in d above) (mark_all (pieces_of s.line) (above_in d above) s (until_head ss) (drop 1 ms))) (same-act (above_in d above) s d (until_head ss) (until_head ds) l b u (marked ms))
      ∙ ap (λ (x : List Bool). bind_act d (above_in d above) (until_head ds) (marked ms) ∷ bind_go ss (s.line ∷ above_in d above) x) (same-marks (above_in d above) s d (until_head ss) (until_head ds) l b u (pieces_of s.line) (drop 1 ms))
      ∙ ap (λ (y : List ℕ). bind_act d (above_in d above) (until_head ds) (marked ms) ∷ bind_go ss (y ∷ above_in d above) (mark_all (pieces_of y) (above_in d above) d (until_head ds) (drop 1 ms))) l
      ∙ ap (λ (x : List Act). bind_act d (above_in d above) (until_head ds) (marked ms) ∷ x) (same-go r (d.line ∷ above_in d above) (mark_all (pieces_of d.line) (above_in d above) d (until_head ds) (drop 1 ms)))

-- ---- the spots of two runs of lines, one after the other

spots-append : (us ts : List (List ℕ)) (bu bt : List ℕ) (su st : List Bool) → length bu ≡ length us → length su ≡ length us → block_lines_of (us ++ ts) (bu ++ bt) (su ++ st) ≡ block_lines_of us bu su ++ block_lines_of ts bt st
unfolding block_lines_of
spots-append [] ts [] bt [] st p q = refl
spots-append [] ts (b ∷ bu) bt su st p q = absurd (omega arith)
spots-append [] ts [] bt (s ∷ su) st p q = absurd (omega arith)
spots-append (l ∷ us) ts [] bt su st p q = absurd (omega arith)
spots-append (l ∷ us) ts (b ∷ bu) bt [] st p q = absurd (omega arith)
spots-append (l ∷ us) ts (b ∷ bu) bt (s ∷ su) st p q = let d : BlockLine = record { line = l; block = b; starts = s } in ap (λ (r : List BlockLine). d ∷ r) (spots-append us ts bu bt su st (omega arith) (omega arith))

-- the same lines with blocks renamed
alike-renamed : (t d : ℕ) (ls : List (List ℕ)) (bs : List ℕ) (ss : List Bool) → Alike (rename t d) (block_lines_of ls (renamed t d bs) ss) (block_lines_of ls bs ss)
unfolding block_lines_of renamed
alike-renamed t d [] bs ss = none
alike-renamed t d (l ∷ ls) [] ss = none
alike-renamed t d (l ∷ ls) (b ∷ bs) [] = none
alike-renamed t d (l ∷ ls) (b ∷ bs) (s ∷ ss) = each refl refl (λ e. refl) (alike-renamed t d ls bs ss)

-- and with another start of the first, where it is a header
alike-header : (t d : ℕ) (l : List ℕ) (ls : List (List ℕ)) (bs : List ℕ) (a b : Bool) (ss : List Bool) → is_header l ≡ true → Alike (rename t d) (block_lines_of (l ∷ ls) (renamed t d bs) (a ∷ ss)) (block_lines_of (l ∷ ls) bs (b ∷ ss))
unfolding block_lines_of renamed
alike-header t d l ls [] a b ss e = none
alike-header t d l ls (x ∷ bs) a b ss e = each refl refl (λ f. no (sym f ∙ e)) (alike-renamed t d ls bs ss)

-- ---- the law

-- one act for each line
go-length : (sp : List BlockLine) (above : List (List ℕ)) (ms : List Bool) → length (bind_go sp above ms) ≡ length sp
unfolding bind_go
go-length [] above ms = refl
go-length (d ∷ sp) above ms = ap suc (go-length sp (d.line ∷ above_in d above) (mark_all (pieces_of d.line) (above_in d above) d (until_head sp) (drop 1 ms)))

spots-length : (ls : List (List ℕ)) (bs : List ℕ) (ss : List Bool) → length bs ≡ length ls → length ss ≡ length ls → length (block_lines_of ls bs ss) ≡ length ls
unfolding block_lines_of
spots-length [] bs ss p q = refl
spots-length (l ∷ ls) [] ss p q = absurd (omega arith)
spots-length (l ∷ ls) (b ∷ bs) [] p q = absurd (omega arith)
spots-length (l ∷ ls) (b ∷ bs) (s ∷ ss) p q = ap suc (spots-length ls bs ss (omega arith) (omega arith))

starts_first : (t : List ℕ) (ts : List (List ℕ)) → true ∷ drop 1 (starts_go (t ∷ ts) true) ≡ starts_go (t ∷ ts) true
unfolding starts_go
starts_first t ts = refl

go-none : bind_go [] [] [] ≡ []
unfolding bind_go
go-none = refl

-- spots above those of lines whose first is a header
upper-go : (sp : List BlockLine) (h : List ℕ) (ts : List (List ℕ)) (bs : List ℕ) (s : Bool) (ss : List Bool) → is_header h ≡ true →
    bind_go (sp ++ block_lines_of (h ∷ ts) bs (s ∷ ss)) [] [] ≡ bind_go sp [] [] ++ bind_go (block_lines_of (h ∷ ts) bs (s ∷ ss)) [] []
unfolding block_lines_of
upper-go sp h ts [] s ss e = ap (λ (r : List BlockLine). bind_go r [] []) (append-nil sp) ∙ sym (ap (λ (r : List Act). bind_go sp [] [] ++ r) go-none ∙ append-nil (bind_go sp [] []))
upper-go sp h ts (b ∷ bs) s ss e = go-upper (record { line = h; block = b; starts = s }) (block_lines_of ts bs ss) e sp [] [] (omega arith)

module _ {R : Reading} {shut : List (List ℕ) → Bool} (c : Lined R shut) where
  clean-cut : (us : List (List ℕ)) (h : List ℕ) (ts : List (List ℕ)) → shut us ≡ true → R.clean (us ++ h ∷ ts) ≡ R.clean us ++ c.one h ∷ c.rest h ts
  clean-cut us h ts s = c.splits us (h ∷ ts) s ∙ ap (λ (ls : List (List ℕ)). R.clean us ++ ls) (c.first h ts)

  module _ (us : List (List ℕ)) (h : List ℕ) (ts : List (List ℕ)) (e : is_header h ≡ true) (s : shut us ≡ true) (o : own (R.clean (h ∷ ts)) ≡ true) where
    tail-clean : R.clean (h ∷ ts) ≡ c.one h ∷ c.rest h ts
    tail-clean = c.first h ts

    blocks-are : blocks (R.clean (us ++ h ∷ ts)) ≡ blocks (R.clean us) ++ renamed (block_below (R.clean us)) (next_below (R.clean us)) (blocks (R.clean (h ∷ ts)))
    blocks-are = ap blocks (c.splits us (h ∷ ts) s) ∙ blocks-cut (R.clean us) (R.clean (h ∷ ts)) o

    starts-are : starts_go (R.clean (us ++ h ∷ ts)) true ≡ starts_go (R.clean us) true ++ starts_below (R.clean us) true ∷ drop 1 (starts_go (R.clean (h ∷ ts)) true)
    starts-are =
        ap (λ (ls : List (List ℕ)). starts_go ls true) (clean-cut us h ts s) ∙ starts-cut (R.clean us) (c.rest h ts) (c.one h) (c.shown h e)
        ∙ ap (λ (ls : List (List ℕ)). starts_go (R.clean us) true ++ starts_below (R.clean us) true ∷ drop 1 (starts_go ls true)) (sym tail-clean)

    -- the tail's spots below the upper lines
    lower : List BlockLine
    lower = block_lines_of (h ∷ ts) (renamed (block_below (R.clean us)) (next_below (R.clean us)) (blocks (R.clean (h ∷ ts)))) (starts_below (R.clean us) true ∷ drop 1 (starts_go (R.clean (h ∷ ts)) true))

    spots-are : block_lines R (us ++ h ∷ ts) ≡ block_lines R us ++ lower
    unfolding block_lines lower
    spots-are =
        rw (blocks-are, starts-are)
        (spots-append us (h ∷ ts) (blocks (R.clean us)) _ (starts_go (R.clean us) true) _ (length-blocks (R.clean us) ∙ c.long us) (length-starts (R.clean us) true ∙ c.long us))

    lower-alike : Alike (rename (block_below (R.clean us)) (next_below (R.clean us))) lower (block_lines R (h ∷ ts))
    unfolding block_lines lower
    lower-alike =
        rw (tail-clean, ← starts_first (c.one h) (c.rest h ts))
        (alike-header (block_below (R.clean us)) (next_below (R.clean us)) h ts (blocks (c.one h ∷ c.rest h ts)) (starts_below (R.clean us) true) true (drop 1 (starts_go (c.one h ∷ c.rest h ts) true)) e)

    acts-go : bind_go (block_lines R us ++ lower) [] [] ≡ bind_go (block_lines R us) [] [] ++ bind_go lower [] []
    unfolding lower
    acts-go =
        upper-go (block_lines R us) h ts (renamed (block_below (R.clean us)) (next_below (R.clean us)) (blocks (R.clean (h ∷ ts)))) (starts_below (R.clean us) true) (drop 1 (starts_go (R.clean (h ∷ ts)) true)) e

    acts-at : bind_declarators_acts R (us ++ h ∷ ts) ≡ bind_declarators_acts R us ++ bind_declarators_acts R (h ∷ ts)
    unfolding bind_declarators_acts
    acts-at =
        ap (λ (sp : List BlockLine). bind_go sp [] []) spots-are ∙ acts-go
        ∙ ap (λ (r : List Act). bind_go (block_lines R us) [] [] ++ r)
        (same-go (rename (block_below (R.clean us)) (next_below (R.clean us))) (λ a b. same-renamed (block_below (R.clean us)) (next_below (R.clean us)) a b (below-lt (R.clean us))) lower-alike [] [])

  -- one act for each line
  pub bind-length : (ls : List (List ℕ)) → length (bind_declarators_acts R ls) ≡ length ls
  unfolding bind_declarators_acts block_lines
  bind-length ls = go-length (block_lines R ls) [] [] ∙ spots-length ls (blocks (R.clean ls)) (starts_go (R.clean ls) true) (length-blocks (R.clean ls) ∙ c.long ls) (length-starts (R.clean ls) true ∙ c.long ls)

  -- demand 3, of acts
  pub bind-acts-cut : (upper tail : List (List ℕ)) → headed tail ≡ true → shut upper ≡ true → own (R.clean tail) ≡ true →
      bind_declarators_acts R (upper ++ tail) ≡ bind_declarators_acts R upper ++ bind_declarators_acts R tail
  unfolding headed
  bind-acts-cut upper [] h s o = no h
  bind-acts-cut upper (l ∷ ls) h s o = acts-at upper l ls h s o

  -- demand 3, of lines
  pub bind-cut : (upper tail : List (List ℕ)) → headed tail ≡ true → shut upper ≡ true → own (R.clean tail) ≡ true →
      bind_declarators R (upper ++ tail) ≡ bind_declarators R upper ++ bind_declarators R tail
  unfolding bind_declarators
  bind-cut upper tail h s o =
      ap (λ (r : List Act). apply r (upper ++ tail)) (bind-acts-cut upper tail h s o)
      ∙ apply-append (bind_declarators_acts R upper) upper (bind_declarators_acts R tail) tail (bind-length upper)
