-- Laws of the table of a round. Assumes nothing.
use Prim.Native.Nat.{ℕ, zero, suc, ◌+◌, ◌≤◌, ◌<◌, ◌^◌, min}
use mathlib.Core.Path.{◌≡◌, refl, sym, ap, ◌∙◌}
use mathlib.Core.Bool.{Bool, true, false, cond, not, ◌&&◌, ◌||◌}
use mathlib.Core.List.{List, [], ◌∷◌, ◌++◌}
use native.Mathlib.Omega.{arith}
use borrow.Author.Tests.{lt-ltb, eq-eqb, ne_eqb, eqb-true, eqb-false}
use lib.Dec.{eqb, ltb}
use lib.ListN.{length, drop, get_or, set, replicate}
use Rattle.lines.specs.Lf.{part, up_to, lines_of, parts_of, same, holds}
use Rattle.lines.proofs.Compare.{same-eq}
use Rattle.lines.proofs.Tests.{no, or-true, or-false, and-false, and_left}
use Rattle.lines.proofs.LfLaws.{lines-at, lines_end}
use Rattle.text.specs.Class.{is_name}
use Rattle.text.specs.Trim.{trim_start}
use Rattle.names.specs.Names.{phi_word, phi_text, phi_of, phi_is}
use Rattle.names.specs.declared.Phi.{Phi}
use Rattle.std.specs.declared.option.Option.{Option}
use Rattle.std.specs.declared.option.Option.TheVariants.{Some, None}
use Rattle.names.proofs.Texts.{phi-text-value}
use Rattle.parse.specs.Parse.{body_of, is_let}
use Rattle.words.specs.Runs.{flush, runs, count_by}
use Rattle.words.specs.Inner.Runs.{words_of}
use Rattle.words.proofs.Walk.{Walk, walk_start, walk-name, walk-gap, walk_end}
use Rattle.slots.specs.Inner.Slots.{slot_of, entry_of, with_entry}
use Rattle.slots.proofs.SlotLaws.{slot_kept, entry_length, entry-same, entry_other}
use Rattle.decls.proofs.SeenLaws.{entry_past}
use Rattle.phis.specs.Phis.{all_phis, phi_decl, phi_store, phi_own, phi_reads, phi_read, phi_stored}
use Rattle.phis.specs.Inner.Table.{note_store, note_name, note_runs, note_line, note_lines, Tells}
use Rattle.phis.proofs.Lines.{store-let, phi-hits}
use Rattle.phis.proofs.Held.{held-store, held_reads}
use Rattle.phis.proofs.DeclRuns.{decl-reads}

-- ---- the table keeps its length

if-length : (b : Bool) (d e : List ℕ) → length e ≡ length d → length (cond b e d) ≡ length d
if-length true d e h = h
if-length false d e h = refl

else-length : (b : Bool) (d e : List ℕ) → length e ≡ length d → length (cond b d e) ≡ length d
else-length true d e h = refl
else-length false d e h = h

pub store_length : (own : List ℕ) (s : Option Phi) (d : List ℕ) → length (note_store own s d) ≡ length d
store_length own None d = refl
store_length own (Some q) d = else-length (eqb (entry_of own q.0 d) 2) d _ (entry_length own d q.0 1)

pub name-length : (own : List ℕ) (stored : Option Phi) (r : List ℕ) (s : Option Phi) (d : List ℕ) → length (note_name own stored r s d) ≡ length d
name-length own stored r None d = refl
name-length own stored r (Some q) d = if-length (not (phi_is q.0 stored) && same r (phi_text q.0)) d _ (entry_length own d q.0 2)

runs-length : (own : List ℕ) (stored : Option Phi) (rs : List (List ℕ)) (d : List ℕ) → length (note_runs own stored rs d) ≡ length d
unfolding note_runs
runs-length own stored [] d = refl
runs-length own stored (r ∷ rs) d = runs-length own stored rs (note_name own stored r (phi_of r) d) ∙ name-length own stored r (phi_of r) d

line-length : (own l d : List ℕ) → length (note_line own l d) ≡ length d
unfolding note_line
line-length own l d =
    if-length (holds phi_word l && not (phi_decl (trim_start l))) d _
    (runs-length own (phi_store (trim_start l)) (runs l) (note_store own (phi_store (trim_start l)) d) ∙ store_length own (phi_store (trim_start l)) d)

lines-length : (own : List ℕ) (ls : List (List ℕ)) (d : List ℕ) → length (note_lines own ls d) ≡ length d
unfolding note_lines
lines-length own [] d = refl
lines-length own (l ∷ ls) d = lines-length own ls (note_line own l d) ∙ line-length own l d

-- ---- what the table says of phi n, where it is read (r) and stored (s)

abbrev says : Bool → Bool → ℕ
says r s = cond r 2 (cond s 1 0)

phi-one : (q : Phi) (n : ℕ) → Some q ≡ Some (record { 0 = n }) → q.0 ≡ n
phi-one q n h = ap worth h
  where
    worth : Option Phi → ℕ
    worth None = 0
    worth (Some q) = q.0

none-not : {A : Type 0} (q : Phi) → None ≡ Some q → A
none-not q h = no (ap some h)
  where
    some : Option Phi → Bool
    some None = false
    some (Some q) = true

module _ (own : List ℕ) (n : ℕ) where
  -- the phi has a place in the table d, and what stands there
  abbrev Placed : List ℕ → Type 0
  Placed d = slot_of (length d) own n < length d

  abbrev entry : List ℕ → ℕ
  entry d = entry_of own n d

  store-says : (o : Option Phi) (d : List ℕ) (r s : Bool) → Placed d → entry d ≡ says r s → entry (note_store own o d) ≡ says r (s || phi_is n o)
  store-says None d r s k h = h ∙ ap (says r) (sym (or-false s))
  store-says (Some q) d r s k h = go (eqb q.0 n) refl
    where
      at : (r s : Bool) → entry d ≡ says r s → entry (cond (eqb (entry d) 2) d (with_entry own n 1 d)) ≡ says r (s || true)
      at true s h = rw h h
      at false true h = rw h (entry-same own d n 1 k)
      at false false h = rw h (entry-same own d n 1 k)

      other : (b : Bool) → eqb q.0 n ≡ false → entry (cond b d (with_entry own q.0 1 d)) ≡ says r s
      other true e = h
      other false e = entry_other own d q.0 1 n k (eqb-false q.0 n e) ∙ h

      go : (b : Bool) → eqb q.0 n ≡ b → entry (note_store own (Some q) d) ≡ says r (s || b)
      go true e = ap (λ (v : ℕ). entry (cond (eqb (entry_of own v d) 2) d (with_entry own v 1 d))) (eqb-true q.0 n e) ∙ at r s h
      go false e = other (eqb (entry_of own q.0 d) 2) e ∙ ap (says r) (sym (or-false s))

  module _ (fits : n < 2 ^ 64) (stored : Option Phi) where
    -- a run that is phi n names phi n
    same_names : (x : List ℕ) → same x (phi_text n) ≡ true → phi_of x ≡ Some (record { 0 = n })
    same_names x e = ap phi_of (same-eq x (phi_text n) e) ∙ phi-text-value n fits

    abbrev reads : List ℕ → Bool
    reads x = not (phi_is n stored) && same x (phi_text n)

    name-says : (x d : List ℕ) (r s : Bool) → Placed d → entry d ≡ says r s → entry (note_name own stored x (phi_of x) d) ≡ says (r || reads x) s
    name-says x d r s k h = go (phi_of x) refl
      where
        off : (b : Bool) → same x (phi_text n) ≡ b → (b ≡ true → ⊥) → says r s ≡ says (r || (not (phi_is n stored) && b)) s
        off true e z = absurd (z refl)
        off false e z = ap (λ (b : Bool). says b s) (sym (or-false r) ∙ sym (ap (λ (b : Bool). r || b) (and-false (not (phi_is n stored)))))

        on : (b : Bool) → entry (cond b (with_entry own n 2 d) d) ≡ says (r || b) s
        on true = entry-same own d n 2 k ∙ sym (ap (λ (b : Bool). says b s) (or-true r))
        on false = h ∙ ap (λ (b : Bool). says b s) (sym (or-false r))

        other : (q : Phi) → eqb q.0 n ≡ false → (b : Bool) → entry (cond b (with_entry own q.0 2 d) d) ≡ says r s
        other q e true = entry_other own d q.0 2 n k (eqb-false q.0 n e) ∙ h
        other q e false = h

        by : (q : Phi) → phi_of x ≡ Some q → (b : Bool) → eqb q.0 n ≡ b → entry (note_name own stored x (Some q) d) ≡ says (r || reads x) s
        by q f true e = ap (λ (v : ℕ). entry (cond (not (phi_is v stored) && same x (phi_text v)) (with_entry own v 2 d) d)) (eqb-true q.0 n e) ∙ on (reads x)
        by q f false e =
            other q e (not (phi_is q.0 stored) && same x (phi_text q.0))
            ∙ off (same x (phi_text n)) refl (λ z. eqb-false q.0 n e (phi-one q n (sym f ∙ same_names x z)))

        go : (m : Option Phi) → phi_of x ≡ m → entry (note_name own stored x m d) ≡ says (r || reads x) s
        go None f = h ∙ off (same x (phi_text n)) refl (λ z. none-not (record { 0 = n }) (sym f ∙ same_names x z))
        go (Some q) f = by q f (eqb q.0 n) refl

    -- how many runs are phi n
    abbrev many : List (List ℕ) → ℕ
    many rs = count_by (λ (x : List ℕ). same x (phi_text n)) rs

    -- one run, f whether it is phi n, and those after it
    more : (r o f : Bool) (c : ℕ) → (r || (o && f)) || (o && ltb 0 c) ≡ r || (o && ltb 0 (cond f (suc c) c))
    more true o f c = refl
    more false true true c = let z : 0 < suc c = omega arith in sym (lt-ltb 0 (suc c) z)
    more false true false c = refl
    more false false f c = refl

    runs-say : (rs : List (List ℕ)) (d : List ℕ) (r s : Bool) → Placed d → entry d ≡ says r s → entry (note_runs own stored rs d) ≡ says (r || (not (phi_is n stored) && ltb 0 (many rs))) s
    unfolding note_runs count_by
    runs-say [] d r s k h = h ∙ ap (λ (b : Bool). says b s) (sym (or-false r) ∙ sym (ap (λ (b : Bool). r || b) (and-false (not (phi_is n stored)))))
    runs-say (x ∷ rs) d r s k h =
        runs-say rs (note_name own stored x (phi_of x) d) (r || reads x) s (slot_kept own d (note_name own stored x (phi_of x) d) n (name-length own stored x (phi_of x) d) k) (name-says x d r s k h)
        ∙ ap (λ (b : Bool). says b s) (more r (not (phi_is n stored)) (same x (phi_text n)) (many rs))

-- ---- a line

-- a line that is no declaration of phis reads what it mentions and does not store
reads-by : (n : ℕ) → n < 2 ^ 64 → (l : List ℕ) → phi_decl (trim_start l) ≡ false → phi_reads n l ≡ not (phi_is n (phi_store (trim_start l))) && ltb 0 (words_of (phi_text n) l)
unfolding phi_reads phi_own
reads-by n k l e = rw (e, phi-hits n k l (words_of (phi_text n) l) refl) (go (ltb 0 (words_of (phi_text n) l)) (phi_is n (phi_store (trim_start l))))
  where
    go : (a b : Bool) → a && not (b || false) ≡ not b && a
    go true true = refl
    go true false = refl
    go false true = refl
    go false false = refl

decl-store : (t : List ℕ) → phi_decl t ≡ true → phi_store t ≡ None
unfolding phi_decl
decl-store t e = store-let t (and_left (is_let t) (all_phis (parts_of 44 (body_of t))) e)

module _ (own : List ℕ) (n : ℕ) (fits : n < 2 ^ 64) where
  line-says : (l d : List ℕ) (r s : Bool) → slot_of (length d) own n < length d → entry_of own n d ≡ says r s → entry_of own n (note_line own l d) ≡ says (r || phi_reads n l) (s || phi_is n (phi_store (trim_start l)))
  unfolding note_line
  line-says l d r s k h = go (holds phi_word l) refl (phi_decl (trim_start l)) refl
    where
      stored : Option Phi
      stored = phi_store (trim_start l)

      none : phi_reads n l ≡ false → stored ≡ None → says r s ≡ says (r || phi_reads n l) (s || phi_is n stored)
      none e f = rw (e, f) (ap (λ (b : Bool). says b s) (sym (or-false r)) ∙ ap (says (r || false)) (sym (or-false s)))

      go : (a : Bool) → holds phi_word l ≡ a → (b : Bool) → phi_decl (trim_start l) ≡ b → entry_of own n (cond (a && not b) (note_runs own stored (runs l) (note_store own stored d)) d) ≡ says (r || phi_reads n l) (s || phi_is n stored)
      go false e b f = h ∙ none (held_reads l e n) (held-store l e)
      go true e true f = h ∙ none (decl-reads n fits l f) (decl-store (trim_start l) f)
      go true e false f =
          runs-say own n fits stored (runs l) (note_store own stored d) r (s || phi_is n stored) (slot_kept own d (note_store own stored d) n (store_length own stored d) k) (store-says own n stored d r s k h)
          ∙ ap (λ (b : Bool). says (r || b) (s || phi_is n stored)) (sym (reads-by n fits l f))

  or-more : (a b c : Bool) → (a || b) || c ≡ a || (b || c)
  or-more true b c = refl
  or-more false b c = refl

  lines-say : (ls : List (List ℕ)) (d : List ℕ) (r s : Bool) → slot_of (length d) own n < length d → entry_of own n d ≡ says r s → entry_of own n (note_lines own ls d) ≡ says (r || phi_read n ls) (s || phi_stored n ls)
  unfolding note_lines phi_read phi_stored
  lines-say [] d r s k h = h ∙ ap (λ (b : Bool). says b s) (sym (or-false r)) ∙ ap (says (r || false)) (sym (or-false s))
  lines-say (l ∷ ls) d r s k h =
      lines-say ls (note_line own l d) (r || phi_reads n l) (s || phi_is n (phi_store (trim_start l))) (slot_kept own d (note_line own l d) n (line-length own l d) k) (line-says l d r s k h)
      ∙ ap (λ (b : Bool). says b ((s || phi_is n (phi_store (trim_start l))) || phi_stored n ls)) (or-more r (phi_reads n l) (phi_read n ls))
      ∙ ap (says (r || (phi_reads n l || phi_read n ls))) (or-more s (phi_is n (phi_store (trim_start l))) (phi_stored n ls))

-- ---- a table that was filled from zeros

zeros-at : (k n : ℕ) → get_or (replicate {A = ℕ} k 0) n 0 ≡ 0
zeros-at zero n = refl
zeros-at (suc k) zero = refl
zeros-at (suc k) (suc n) = zeros-at k n

says-dead : (r s : Bool) → eqb (says r s) 1 ≡ s && not r
says-dead true true = refl
says-dead true false = refl
says-dead false true = refl
says-dead false false = refl

pub table-tells : (own : List ℕ) (ls : List (List ℕ)) (k : ℕ) (d : List ℕ) → d ≡ note_lines own ls (replicate k 0) → Tells own ls d
table-tells own ls k d e = λ n f l.
    let c : List ℕ = replicate k 0 in
    ap (λ (c : List ℕ). eqb (entry_of own n c) 1) e
    ∙ ap (λ (v : ℕ). eqb v 1) (lines-say own n f ls c false false (slot_kept own d c n (sym (ap length e ∙ lines-length own ls c)) l) (zeros-at k (slot_of (length c) own n)))
    ∙ says-dead (phi_read n ls) (phi_stored n ls)

-- ---- one step

-- the place of the phi v is k
module _ (own d : List ℕ) (v k : ℕ) (e : k ≡ slot_of (length d) own v) where
  stored_at : (b : Bool) → eqb (get_or d k 0) 2 ≡ b → cond b d (set d k 1) ≡ cond (eqb (entry_of own v d) 2) d (with_entry own v 1 d)
  stored_at b f = ap (λ (c : Bool). cond c d (set d k 1)) (sym f) ∙ ap (λ (n : ℕ). cond (eqb (get_or d n 0) 2) d (set d n 1)) e

  pub stored_past : length d ≤ k → d ≡ cond (eqb (entry_of own v d) 2) d (with_entry own v 1 d)
  stored_past h = go (eqb (entry_of own v d) 2)
    where
      go : (b : Bool) → d ≡ cond b d (with_entry own v 1 d)
      go true = refl
      go false = entry_past own d v 1 k e h

  pub stored-read : get_or d k 0 ≡ 2 → d ≡ cond (eqb (entry_of own v d) 2) d (with_entry own v 1 d)
  stored-read h = stored_at true (eq-eqb (get_or d k 0) 2 h)

  pub stored-new : (get_or d k 0 ≡ 2 → ⊥) → set d k 1 ≡ cond (eqb (entry_of own v d) 2) d (with_entry own v 1 d)
  stored-new h = stored_at false (ne_eqb (get_or d k 0) 2 h)

pub read-own : (stored : Option Phi) (r d e : List ℕ) (v : ℕ) → phi_is v stored ≡ true → d ≡ cond (not (phi_is v stored) && same r (phi_text v)) e d
read-own stored r d e v f = rw f

pub read_by : (stored : Option Phi) (r d e : List ℕ) (v : ℕ) (b : Bool) → phi_is v stored ≡ false → same r (phi_text v) ≡ b → cond b e d ≡ cond (not (phi_is v stored) && same r (phi_text v)) e d
read_by stored r d e v b f g = rw (f, g)

-- ---- the loop over a text: the run from a to i is open

pub record RunsInv (own : List ℕ) (stored : Option Phi) (s d₀ d : List ℕ) (a i : ℕ) : Type 0 where
  pub long : length d ≡ length d₀
  pub walk : Walk (note_runs own stored) s d₀ d a i

runs-flush : (own : List ℕ) (stored : Option Phi) (cur : List ℕ) (rs : List (List ℕ)) (d : List ℕ) → note_runs own stored (flush cur ++ rs) d ≡ note_runs own stored rs (note_name own stored cur (phi_of cur) d)
unfolding note_runs phi_of
runs-flush own stored [] rs d = refl
runs-flush own stored (x ∷ cur) rs d = refl

runs_none : (own : List ℕ) (stored : Option Phi) (d : List ℕ) → note_runs own stored [] d ≡ d
unfolding note_runs
runs_none own stored d = refl

pub runs-start : (own : List ℕ) (stored : Option Phi) (s d : List ℕ) → RunsInv own stored s d d 0 0
runs-start own stored s d = record { long = refl; walk = walk_start (note_runs own stored) s d }

module _ {own : List ℕ} {stored : Option Phi} {s d₀ d : List ℕ} {a i : ℕ} (h : RunsInv own stored s d₀ d a i) where
  pub runs-name : i < length s → is_name (get_or s i 0) ≡ true → RunsInv own stored s d₀ d a (i + 1)
  runs-name k e = record { long = h.long; walk = walk-name h.walk k e }

  module _ (w d' : List ℕ) (p : w ≡ part a i s) (q : d' ≡ note_name own stored w (phi_of w) d) where
    pub run_long : length d' ≡ length d₀
    run_long = ap length q ∙ name-length own stored w (phi_of w) d ∙ h.long

    pub runs-gap : i < length s → is_name (get_or s i 0) ≡ false → RunsInv own stored s d₀ d' (i + 1) (i + 1)
    runs-gap k e = record { long = run_long; walk = walk-gap (note_runs own stored) (λ (c x : List ℕ). note_name own stored c (phi_of c) x) (runs-flush own stored) h.walk k e w p q }

    pub runs-end : length s ≤ i → d' ≡ note_runs own stored (runs s) d₀
    runs-end k = walk_end (note_runs own stored) (λ (c x : List ℕ). note_name own stored c (phi_of c) x) (runs-flush own stored) (runs_none own stored) h.walk k w p q

-- ---- a line

module _ (own l d : List ℕ) where
  pub line-held : holds phi_word l ≡ false → d ≡ note_line own l d
  unfolding note_line
  line-held e = rw e

  module _ (t : List ℕ) (z : t ≡ trim_start l) (h : holds phi_word l ≡ true) where
    pub line-decl : phi_decl t ≡ true → d ≡ note_line own l d
    unfolding note_line
    line-decl e = rw (h, sym (ap phi_decl z) ∙ e)

    pub line-noted : phi_decl t ≡ false → (stored : Option Phi) (c e : List ℕ) → stored ≡ phi_store t → c ≡ note_store own stored d → e ≡ note_runs own stored (runs l) c → e ≡ note_line own l d
    unfolding note_line
    line-noted k stored c e o x y =
        let w : stored ≡ phi_store (trim_start l) = o ∙ ap phi_store z in
        rw (h, sym (ap phi_decl z) ∙ k) (y ∙ ap (note_runs own stored (runs l)) x ∙ ap (λ (m : Option Phi). note_runs own m (runs l) (note_store own m d)) w)

-- ---- the loop over lines: those from i on are still to be noted

pub record LinesInv (own s d₀ d : List ℕ) (i : ℕ) : Type 0 where
  pub long : length d ≡ length d₀
  pub so_far : note_lines own (lines_of (drop i s)) d ≡ note_lines own (lines_of s) d₀

lines_cons : (own : List ℕ) (l : List ℕ) (ls : List (List ℕ)) (d : List ℕ) → note_lines own (l ∷ ls) d ≡ note_lines own ls (note_line own l d)
unfolding note_lines
lines_cons own l ls d = refl

lines_none : (own : List ℕ) (d : List ℕ) → note_lines own [] d ≡ d
unfolding note_lines
lines_none own d = refl

pub lines_start : (own s d : List ℕ) → LinesInv own s d d 0
lines_start own s d = record { long = refl; so_far = refl }

module _ {own s d₀ d : List ℕ} {i : ℕ} (h : LinesInv own s d₀ d i) where
  pub lines-on : (e j : ℕ) (l d' : List ℕ) → i < length s → e ≡ i + up_to 10 (drop i s) → l ≡ part i e s → d' ≡ note_line own l d → j ≡ min (e + 1) (length s) → LinesInv own s d₀ d' j
  lines-on e j l d' k q p x z = record {
    long = ap length x ∙ line-length own l d ∙ h.long;
    so_far =
        ap (λ (n : ℕ). note_lines own (lines_of (drop n s)) d') z
        ∙ ap (note_lines own (lines_of (drop (min (e + 1) (length s)) s))) (x ∙ ap (λ (c : List ℕ). note_line own c d) p)
        ∙ sym (ap (λ (ls : List (List ℕ)). note_lines own ls d) (lines-at s i e k q) ∙ lines_cons own (part i e s) (lines_of (drop (min (e + 1) (length s)) s)) d)
        ∙ h.so_far;
  }

  pub lines-done : length s ≤ i → d ≡ note_lines own (lines_of s) d₀
  lines-done k = sym (lines_none own d) ∙ ap (λ (ls : List (List ℕ)). note_lines own ls d) (sym (lines_end s i k)) ∙ h.so_far
