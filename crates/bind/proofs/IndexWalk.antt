-- The index of a region in the walk down the lines. Assumes nothing.
use Prim.Native.Nat.{ℕ, suc, ◌+◌, ◌-◌, ◌≤◌, ◌<◌, min}
use mathlib.Core.Path.{◌≡◌, refl, sym, ap, ◌∙◌, subst}
use mathlib.Core.Bool.{Bool, true, false}
use mathlib.Core.List.{List, [], ◌∷◌, ◌++◌}
use native.Mathlib.Omega.{arith}
use borrow.Author.Tests.{ltb-true, ltb-false}
use lib.Dec.{ltb}
use lib.ListN.{length, get_or, take, drop, length-append}
use lib.Seq.{drop-drop, take-add}
use Rattle.lines.specs.Lf.{part, up_to, lines_of}
use Rattle.lines.proofs.LfLaws.{lines-at, part_none}
use Rattle.text.specs.Trim.{trim_of}
use Rattle.parse.specs.Parse.{is_decl}
use Rattle.place.specs.Region.{is_header, until_header, region}
use Rattle.place.proofs.Regions.{region-at}
use Rattle.slots.specs.Inner.Slots.{entry_of}
use Rattle.slots.proofs.SlotLaws.{Placed}
use Rattle.decls.specs.Inner.Seen.{AtMost}
use Rattle.bind.specs.declared.Site.{Site}
use Rattle.bind.specs.Inner.Steps.{line_of, bound_at}
use Rattle.bind.specs.Inner.Index.{seen_lines, again_lines, use_lines, seen_at, first_at, Told}
use Rattle.bind.proofs.IndexLaws.{seen-at-length, first-at-length}
use Rattle.bind.proofs.ToldLaws.{Entry, Tells, tells-new, entry-says, seen_most, first-most}
use Rattle.bind.proofs.WalkLaws.{above_more, below-lines, RegionAt, lines_none}

-- the loop: the tables tell of the region from top to end, where its first line is above i
pub record IndexInv (own t d₀ u₀ d u : List ℕ) (top end i k : ℕ) : Type 0 where
  pub same : length d ≡ length u
  pub long-d : length d ≡ length d₀
  pub long-u : length u ≡ length u₀
  pub most-d : AtMost i d
  pub fresh : i ≤ top → AtMost k u
  pub most-u : AtMost (k + length (until_header (lines_of (drop i t)))) u
  pub start : ℕ
  pub rows : k ≡ start + length (lines_of (part top i t))
  pub tells : top < i → Tells own top start (lines_of (part top end t)) d u

none-length : (t : List ℕ) (i j : ℕ) → j ≡ i → length (lines_of (part j i t)) ≡ 0
none-length t i j e = ap (λ (n : ℕ). length (lines_of (part n i t))) e ∙ ap (λ (l : List ℕ). length (lines_of l)) (part_none t i) ∙ ap length lines_none

pub index-start : (own t d u : List ℕ) (end : ℕ) → length d ≡ length u → AtMost 0 d → AtMost 0 u → IndexInv own t d u d u 0 end 0 0
index-start own t d u end s f g = record {
  same = s;
  long-d = refl;
  long-u = refl;
  most-d = f;
  fresh = λ _. g;
  most-u = λ v. let z = g v in omega arith;
  start = 0;
  rows = omega (arith, none-length t 0 0 refl);
  tells = λ h. absurd (omega arith);
}

until_none : (l : List ℕ) (ls : List (List ℕ)) → is_header l ≡ true → until_header (l ∷ ls) ≡ []
unfolding until_header
until_none l ls e = rw e

until-some : (l : List ℕ) (ls : List (List ℕ)) → is_header l ≡ false → until_header (l ∷ ls) ≡ region (l ∷ ls)
unfolding until_header region
until-some l ls e = rw e

region-cons : (l : List ℕ) (ls : List (List ℕ)) → region (l ∷ ls) ≡ l ∷ until_header ls
unfolding region
region-cons l ls = refl

-- where a header may have opened a region
pub record IndexAt (own t d₀ u₀ d u : List ℕ) (top end i k : ℕ) : Type 0 where
  pub same : length d ≡ length u
  pub long-d : length d ≡ length d₀
  pub long-u : length u ≡ length u₀
  pub most-d : AtMost i d
  pub fresh : i ≤ top → AtMost k u
  pub late : top < i → AtMost (k + length (region (lines_of (drop i t)))) u
  pub start : ℕ
  pub rows : k ≡ start + length (lines_of (part top i t))
  pub tells : top < i → Tells own top start (lines_of (part top end t)) d u

module _ {own t d₀ u₀ d u : List ℕ} {top end i k : ℕ} (h : IndexInv own t d₀ u₀ d u top end i k) (e : ℕ) (l : i < length t) (q : e ≡ i + up_to 10 (drop i t)) (x : List ℕ) (z : x ≡ part i e t) where
  pub index_same : is_header x ≡ false → IndexAt own t d₀ u₀ d u top end i k
  index_same n =
      let y : until_header (lines_of (drop i t)) ≡ region (lines_of (drop i t)) = rw (lines-at t i e l q) (until-some (part i e t) _ (ap is_header (sym z) ∙ n)) in
      record {
        same = h.same;
        long-d = h.long-d;
        long-u = h.long-u;
        most-d = h.most-d;
        fresh = h.fresh;
        late = λ _. rw (← y) h.most-u;
        start = h.start;
        rows = h.rows;
        tells = h.tells;
      }

  pub index-new : is_header x ≡ true → (r : ℕ) → IndexAt own t d₀ u₀ d u i r i k
  index-new n r =
      let y : until_header (lines_of (drop i t)) ≡ [] = ap until_header (lines-at t i e l q) ∙ until_none (part i e t) _ (ap is_header (sym z) ∙ n) in
      record {
        same = h.same;
        long-d = h.long-d;
        long-u = h.long-u;
        most-d = h.most-d;
        fresh = λ _ v. let w = h.most-u v in omega (arith, ap length y);
        late = λ w. absurd (omega arith);
        start = k;
        rows = omega (arith, none-length t i i refl);
        tells = λ w. absurd (omega arith);
      }

-- ---- the lines of a region: those above a line, the line, and those below it

part_cut : (t : List ℕ) (a i c : ℕ) → a ≤ i → i ≤ c → part a c t ≡ part a i t ++ part i c t
part_cut t a i c p q =
    let w : c - a ≡ (i - a) + (c - i) = omega arith in
    let y : a + (i - a) ≡ i = omega arith in
    ap (λ (n : ℕ). take n (drop a t)) w ∙ take-add (i - a) (c - i) (drop a t)
    ∙ ap (λ (l : List ℕ). part a i t ++ take (c - i) l) (drop-drop (i - a) a t ∙ ap (λ (n : ℕ). drop n t) y)

module _ {t : List ℕ} {us : List (List ℕ)} {top end i e : ℕ} (g : RegionAt t us i e top end) (l : i < length t) (q : e ≡ i + up_to 10 (drop i t)) (j : ℕ) (y : j ≡ min (e + 1) (length t)) where
  here-is : region (lines_of (drop i t)) ≡ part i e t ∷ lines_of (part j end t)
  here-is =
      ap region (lines-at t i e l q ∙ ap (λ (n : ℕ). part i e t ∷ lines_of (drop n t)) (sym y)) ∙ region-cons (part i e t) (lines_of (drop j t))
      ∙ ap (λ (ls : List (List ℕ)). part i e t ∷ ls) (sym (below-lines t i e j end (omega arith) q y g.ends))

  region-is : lines_of (part top end t) ≡ lines_of (part top i t) ++ (part i e t ∷ lines_of (part j end t))
  region-is =
      ap lines_of (part_cut t top i end g.top≤ (omega (arith, g.ends))) ∙ g.whole (part i end t)
      ∙ ap (λ (ls : List (List ℕ)). lines_of (part top i t) ++ ls) (region-at t i end g.ends ∙ here-is)

  -- a region that begins here fits where its lines do
  pub region-fits : (n k : ℕ) → k + suc (length (lines_of (part j end t))) ≤ n → i ≤ top → k + length (lines_of (part top end t)) ≤ n
  region-fits n k w p =
      let z : length (lines_of (part top i t)) ≡ 0 = none-length t i top (omega (arith, g.top≤)) in
      omega (arith, ap length region-is, length-append (lines_of (part top i t)) (part i e t ∷ lines_of (part j end t)))

  module _ {own d₀ u₀ d u d' u' : List ℕ} {k : ℕ} (h : IndexAt own t d₀ u₀ d u top end i k) (p : d' ≡ seen_at own t top i end d) (r : u' ≡ first_at own t top i end k d u) where
    -- after the region is read, where it begins here
    pub record IndexOn : Type 0 where
      pub same : length d' ≡ length u'
      pub most-d : AtMost (i + 1) d'
      pub most-u : AtMost (k + suc (length (lines_of (part j end t)))) u'
      pub start : ℕ
      pub rows : k ≡ start + length (lines_of (part top i t))
      pub tells : Tells own top start (lines_of (part top end t)) d' u'

    same-on : length d' ≡ length u'
    same-on = ap length p ∙ seen-at-length own t top i end k d u ∙ h.same ∙ sym (ap length r ∙ first-at-length own t top i end k d u)

    kept : top < i → d' ≡ d → u' ≡ u → IndexOn
    kept w a b = record {
      same = same-on;
      most-d = rw a (λ v. let z = h.most-d v in omega arith);
      most-u = rw b (λ v. let z = h.late w v in omega (arith, ap length here-is));
      start = h.start;
      rows = h.rows;
      tells = rw (a, b) (h.tells w);
    }

    fresh : i ≤ top → d' ≡ seen_lines own (top + 1) (lines_of (part top end t)) d → u' ≡ again_lines own (top + 1) (k + 1) (lines_of (part top end t)) d (use_lines own (k + 1) k (lines_of (part top end t)) u) → IndexOn
    fresh w a b =
        let y : top ≡ i = omega (arith, g.top≤) in
        let n : length (lines_of (part top i t)) ≡ 0 = none-length t i top y in
        let m : length (lines_of (part top end t)) ≡ suc (length (lines_of (part j end t))) = omega (arith, ap length region-is, length-append (lines_of (part top i t)) (part i e t ∷ lines_of (part j end t)), n) in
        let z = first-most own (top + 1) k (lines_of (part top end t)) d u (omega arith) (h.fresh w) in
        record {
          same = same-on;
          most-d = rw a (seen_most own (top + 1) (i + 1) (lines_of (part top end t)) d (omega arith) (λ v. let s = h.most-d v in omega arith));
          most-u = rw b (λ v. let s = z v in omega arith);
          start = k;
          rows = omega arith;
          tells = rw (a, b) (tells-new own top k (lines_of (part top end t)) d u h.same (λ v. let s = h.most-d v in omega arith) (h.fresh w));
        }

    seen-kept : ltb top i ≡ true → d' ≡ d
    unfolding seen_at
    seen-kept w = p ∙ rw w

    first-kept : ltb top i ≡ true → u' ≡ u
    unfolding first_at
    first-kept w = r ∙ rw w

    seen-fresh : ltb top i ≡ false → d' ≡ seen_lines own (top + 1) (lines_of (part top end t)) d
    unfolding seen_at
    seen-fresh w = p ∙ rw w

    first-fresh : ltb top i ≡ false → u' ≡ again_lines own (top + 1) (k + 1) (lines_of (part top end t)) d (use_lines own (k + 1) k (lines_of (part top end t)) u)
    unfolding first_at
    first-fresh w = r ∙ rw w

    index_read : IndexOn
    index_read = go (ltb top i) refl
      where
        go : (b : Bool) → ltb top i ≡ b → IndexOn
        go true w = kept (ltb-true top i w) (seen-kept w) (first-kept w)
        go false w = fresh (ltb-false top i w) (seen-fresh w) (first-fresh w)

    abbrev site : ℕ → Site
    site b = record { top = top; from = i; to = e; next = j; end = end; row = k; block = b }

    entry_here : (v : ℕ) → Placed own v u' → Entry v top index_read.start (lines_of (part top i t) ++ (part i e t ∷ lines_of (part j end t))) (entry_of own v d') (entry_of own v u')
    entry_here v w = subst (λ (ls : List (List ℕ)). Entry v top index_read.start ls (entry_of own v d') (entry_of own v u')) region-is (index_read.tells v w)

    pub index-told : (bs ss : List ℕ) → is_decl (trim_of (line_of t (site (get_or bs k 0)))) ≡ true → Told own t (site (get_or bs k 0)) bs ss d' u'
    unfolding bound_at
    index-told bs ss dc = record {
      block = refl;
      same = index_read.same;
      fits = index_read.most-u;
      says = λ v w. (entry-says v top index_read.start k (lines_of (part top i t)) (part i e t) (lines_of (part j end t)) bs ss (entry_of own v d') (entry_of own v u') (entry_here v w) dc index_read.rows).0;
      row = λ v w. (entry-says v top index_read.start k (lines_of (part top i t)) (part i e t) (lines_of (part j end t)) bs ss (entry_of own v d') (entry_of own v u') (entry_here v w) dc index_read.rows).1;
    }

    pub index_on : IndexInv own t d₀ u₀ d' u' top end j (k + 1)
    index_on =
        let a = index_read in
        let b : until_header (lines_of (drop j t)) ≡ lines_of (part j end t) = sym (below-lines t i e j end (omega arith) q y g.ends) in
        record {
          same = a.same;
          long-d = ap length p ∙ seen-at-length own t top i end k d u ∙ h.long-d;
          long-u = ap length r ∙ first-at-length own t top i end k d u ∙ h.long-u;
          most-d = λ v. let z = a.most-d v in omega arith;
          fresh = λ w. absurd (omega (arith, g.top≤));
          most-u = λ v. let z = a.most-u v in omega (arith, ap length b);
          start = a.start;
          rows = omega (arith, a.rows, ap length (above_more t top i e j g.top≤ l q y g.whole), length-append (lines_of (part top i t)) (part i e t ∷ []));
          tells = λ _. a.tells;
        }
