-- One line and its region: which names are bound, the marks that they make, and what is written. Assumes nothing.
use Prim.Native.Nat.{ℕ, zero, suc, ◌+◌, ◌-◌, ◌≤◌, ◌<◌}
use mathlib.Core.Path.{◌≡◌, refl, sym, ap, ◌∙◌}
use mathlib.Core.Bool.{Bool, true, false, cond, not, ◌&&◌, ◌||◌}
use mathlib.Core.List.{List, [], ◌∷◌, ◌++◌, append_assoc}
use native.Mathlib.Omega.{arith}
use borrow.Author.Tests.{eq-eqb, ne_eqb, eqb-true}
use lib.Dec.{eqb, ltb}
use lib.ListN.{length, get_or, set, take, drop, length-set}
use lib.Seq.{get_or-drop}
use Rattle.lines.specs.Lf.{part, prefixed, lines_of, parts_of}
use Rattle.lines.proofs.Tests.{no, and_left, and_right, or-false}
use Rattle.lines.proofs.LfLaws.{rest_of}
use Rattle.lines.proofs.OutLaws.{Writing, writing_start, writing-as}
use Rattle.text.specs.Trim.{from_of, to_of, trim_of}
use Rattle.names.specs.Names.{reg_of}
use Rattle.names.specs.declared.Register.{Register}
use Rattle.std.specs.declared.option.Option.{Option}
use Rattle.std.specs.declared.option.Option.TheVariants.{Some, None}
use Rattle.parse.specs.Parse.{let_word, body_of, is_decl}
use Rattle.decls.specs.Inner.Print.{kept, decl_text}
use Rattle.reading.specs.Uses.{line_stores, used_in}
use Rattle.bind.specs.declared.Site.{Site}
use Rattle.bind.specs.Bind.{decl_count, store_count, promoted}
use Rattle.bind.specs.Inner.Steps.{above_of, line_of, below_of, use_row, stores_at, bound_at, passes, left, any_pass, noted, noted_all, gives_up, other_text, site_text, site_marks, mark_row, Reach}
use Rattle.bind.proofs.CountLaws.{stores-lt}

-- ---- whether a register is bound, test by test: a, l, b are the parts of the text

module _ (t : List ℕ) (s : Site) (bs ss : List ℕ) (v : ℕ) (a l b : List ℕ) (x : a ≡ part s.top s.from t) (y : l ≡ line_of t s) (z : b ≡ part s.next s.end t) where
  bound-is : bound_at t s bs ss v ≡ eqb (decl_count v (lines_of a) + (decl_count v (l ∷ []) + decl_count v (lines_of b))) 1
      && (eqb (store_count v (lines_of a) + store_count v (lines_of b)) 1
      && (not (used_in v (lines_of a)) && stores_at v (lines_of b) bs ss s.row (use_row v (lines_of b))))
  unfolding bound_at
  bound-is = rw (x, y, z)

  module _ (d : Bool) (p : d ≡ eqb (decl_count v (lines_of a) + (decl_count v (l ∷ []) + decl_count v (lines_of b))) 1) where
    pub bound-decls : d ≡ false → false ≡ bound_at t s bs ss v
    bound-decls e = sym (bound-is ∙ rw (← p, e))

    module _ (e : d ≡ true) (f : Bool) (q : f ≡ eqb (store_count v (lines_of a) + store_count v (lines_of b)) 1) where
      pub bound-stores : f ≡ false → false ≡ bound_at t s bs ss v
      bound-stores g = sym (bound-is ∙ rw (← p, e, ← q, g))

      module _ (g : f ≡ true) (u : Bool) (r : u ≡ used_in v (lines_of a)) where
        pub bound-used : u ≡ true → false ≡ bound_at t s bs ss v
        bound-used h = sym (bound-is ∙ rw (← p, e, ← q, g, ← r, h))

        pub bound-first : u ≡ false → (w : Bool) → w ≡ stores_at v (lines_of b) bs ss s.row (use_row v (lines_of b)) → w ≡ bound_at t s bs ss v
        bound-first h w k = k ∙ sym (bound-is ∙ rw (← p, e, ← q, g, ← r, h))

-- the first use of a register that is bound is one of the lines below
pub bound-lt : (t : List ℕ) (s : Site) (bs ss : List ℕ) (v : ℕ) → bound_at t s bs ss v ≡ true → use_row v (below_of t s) < length (below_of t s)
unfolding bound_at stores_at
bound-lt t s bs ss v e =
    stores-lt v (below_of t s) (use_row v (below_of t s))
    (and_left (line_stores v (get_or (below_of t s) (use_row v (below_of t s)) [])) _ (and_right (not (used_in v (above_of t s))) _ (and_right (eqb (store_count v (above_of t s) + store_count v (below_of t s)) 1) _ (and_right (eqb (decl_count v (above_of t s) + (decl_count v (line_of t s ∷ []) + decl_count v (below_of t s))) 1) _ e))))

-- ---- pieces

or-more : (a b c : Bool) → a || (b || c) ≡ (a || b) || c
or-more true b c = refl
or-more false b c = refl

module _ (f : ℕ → Bool) where
  pass-cons : (p : List ℕ) (ps : List (List ℕ)) (b : Bool) → b ≡ passes f (reg_of (trim_of p)) → any_pass f (p ∷ ps) ≡ b || any_pass f ps
  unfolding any_pass
  pass-cons p ps b e = rw (← e)

  pass-nil : any_pass f [] ≡ false
  unfolding any_pass
  pass-nil = refl

  -- a says whether some piece above passes
  pub pass-on : {w : List ℕ} {left more : List (List ℕ)} → left ≡ w ∷ more → (b : Bool) → b ≡ passes f (reg_of (trim_of w)) → (a : Bool) → a || any_pass f left ≡ (a || b) || any_pass f more
  pass-on {w} {left} {more} e b z a = ap (λ (x : Bool). a || x) (ap (any_pass f) e ∙ pass-cons w more b z) ∙ or-more a b (any_pass f more)

  pub pass-end : {left : List (List ℕ)} → left ≡ [] → (a : Bool) → a || any_pass f left ≡ a
  pass-end e a = ap (λ (x : Bool). a || x) (ap (any_pass f) e ∙ pass-nil) ∙ or-false a

-- ---- marks

module _ (f : ℕ → Bool) (g : ℕ → ℕ) where
  pub noted-length : (r : Option Register) (m : List ℕ) → length (noted f g r m) ≡ length m
  noted-length None m = refl
  noted-length (Some q) m = go (f q.0)
    where
      go : (b : Bool) → length (cond b (set m (g q.0) 1) m) ≡ length m
      go true = length-set m (g q.0) 1
      go false = refl

  noted-cons : (p : List ℕ) (ps : List (List ℕ)) (m : List ℕ) → noted_all f g (p ∷ ps) m ≡ noted_all f g ps (noted f g (reg_of (trim_of p)) m)
  unfolding noted_all
  noted-cons p ps m = refl

  noted-nil : (m : List ℕ) → noted_all f g [] m ≡ m
  unfolding noted_all
  noted-nil m = refl

  pub noted-all-length : (ps : List (List ℕ)) (m : List ℕ) → length (noted_all f g ps m) ≡ length m
  unfolding noted_all
  noted-all-length [] m = refl
  noted-all-length (p ∷ ps) m = noted-all-length ps (noted f g (reg_of (trim_of p)) m) ∙ noted-length (reg_of (trim_of p)) m

  -- where no piece passes, the marks stay as they are
  pub noted-none : (ps : List (List ℕ)) (m : List ℕ) → any_pass f ps ≡ false → noted_all f g ps m ≡ m
  unfolding any_pass noted_all
  noted-none [] m e = refl
  noted-none (p ∷ ps) m e = go (reg_of (trim_of p)) e (noted-none ps m)
    where
      by : (b : Bool) (k : ℕ) → b || any_pass f ps ≡ false → (any_pass f ps ≡ false → noted_all f g ps m ≡ m) → noted_all f g ps (cond b (set m k 1) m) ≡ m
      by true k y n = no (sym y)
      by false k y n = n y

      go : (r : Option Register) → passes f r || any_pass f ps ≡ false → (any_pass f ps ≡ false → noted_all f g ps m ≡ m) → noted_all f g ps (noted f g r m) ≡ m
      go None y n = n y
      go (Some q) y n = by (f q.0) (g q.0) y n

  pub noted-on : {w : List ℕ} {left more : List (List ℕ)} → left ≡ w ∷ more → (t : List ℕ) → t ≡ trim_of w → (m m' : List ℕ) → m' ≡ noted f g (reg_of t) m → noted_all f g left m ≡ noted_all f g more m'
  noted-on {w} {left} {more} e t z m m' y =
      ap (λ (ps : List (List ℕ)). noted_all f g ps m) e ∙ noted-cons w more m
      ∙ ap (noted_all f g more) (ap (λ (r : List ℕ). noted f g (reg_of r) m) (sym z) ∙ sym y)

  pub noted-end : {left : List (List ℕ)} → left ≡ [] → (m : List ℕ) → noted_all f g left m ≡ m
  noted-end e m = ap (λ (ps : List (List ℕ)). noted_all f g ps m) e ∙ noted-nil m

  module _ (r : Option Register) (m : List ℕ) where
    pub noted_other : r ≡ None → m ≡ noted f g r m
    noted_other e = sym (ap (λ (n : Option Register). noted f g n m) e)

-- ---- what is written

-- a promoted store, bit by bit
pub promoted-writing : (l : List ℕ) (a : ℕ) → a ≡ from_of l → (d : List ℕ) (o : ℕ) → o + length (promoted l ++ 10 ∷ []) ≤ length d → (x y : List ℕ) → x ≡ part 0 a l → y ≡ part a (length l) l →
    Writing o (promoted l ++ 10 ∷ []) (x ++ (let_word ++ (y ++ (10 ∷ [] ++ [])))) d d o
promoted-writing l a q d o h x y e f =
    let w : a - 0 ≡ from_of l = omega arith in
    let i : x ≡ take (from_of l) l = e ∙ ap (λ (n : ℕ). take n l) w in
    let j : y ≡ drop (from_of l) l = f ∙ rest_of l a ∙ ap (λ (n : ℕ). drop n l) q in
    writing-as
    (append_assoc (take (from_of l) l ++ let_word) (drop (from_of l) l) (10 ∷ [])
    ∙ append_assoc (take (from_of l) l) let_word (drop (from_of l) l ++ 10 ∷ [])
    ∙ rw (i, j))
    (writing_start o (promoted l ++ 10 ∷ []) d h)

pub other-marked : (l : List ℕ) (m : ℕ) → m ≡ 1 → other_text l m ≡ promoted l ++ 10 ∷ []
unfolding other_text
other-marked l m e = rw (eq-eqb m 1 e)

pub other-plain : (l : List ℕ) (m : ℕ) → (m ≡ 1 → ⊥) → other_text l m ≡ l ++ (10 ∷ [] ++ [])
unfolding other_text
other-plain l m e = rw (ne_eqb m 1 e)

-- a line that stays, and its LF
pub plain-writing : (l : List ℕ) (m : ℕ) → (m ≡ 1 → ⊥) → (d : List ℕ) (o : ℕ) → o + length (other_text l m) ≤ length d → Writing o (other_text l m) (l ++ (10 ∷ [] ++ [])) d d o
plain-writing l m e d o h = writing-as (other-plain l m e) (writing_start o (other_text l m) d h)

-- ---- a line that does not begin with `l` is no declaration

decl-front : (t : List ℕ) → is_decl t ≡ true → (0 < length t) × (get_or t 0 0 ≡ 108)
unfolding is_decl prefixed
decl-front [] e = no e
decl-front (x ∷ xs) e =
    let p = and_left (prefixed let_word (x ∷ xs)) _ (and_right (ltb 4 (suc (length xs))) _ e) in
    (omega arith, sym (eqb-true 108 x (and_left (eqb 108 x) _ p)))

trim-front : (n : ℕ) (l : List ℕ) → 0 < length (take n l) → get_or (take n l) 0 0 ≡ get_or l 0 0
trim-front zero l h = absurd (omega arith)
trim-front (suc n) [] h = refl
trim-front (suc n) (x ∷ l) h = refl

pub front-other : (f : ℕ → Bool) (l line : List ℕ) → line ≡ l → (a : ℕ) → a ≡ from_of line → (x : ℕ) → x ≡ get_or line a 0 → (x ≡ 108 → ⊥) → false ≡ is_decl (trim_of l) && any_pass f (parts_of 44 (body_of (trim_of l)))
unfolding trim_of
front-other f l line e a q x y n = go (is_decl (trim_of l)) refl
  where
    go : (t : Bool) → is_decl (trim_of l) ≡ t → false ≡ t && any_pass f (parts_of 44 (body_of (trim_of l)))
    go true h =
        let p = decl-front (trim_of l) h in
        let r = drop (from_of l) l in
        let z : from_of l + 0 ≡ a = omega (arith, ap from_of e, q) in
        absurd (n (y ∙ ap (λ (k : List ℕ). get_or k a 0) e ∙ ap (λ (k : ℕ). get_or l k 0) (sym z) ∙ sym (get_or-drop (from_of l) l 0 0) ∙ sym (trim-front (to_of r) r p.0) ∙ p.1))
    go false h = refl

-- ---- a line: t is the line trimmed

module _ (f : ℕ → Bool) (g : ℕ → ℕ) (l t : List ℕ) (z : t ≡ trim_of l) (b : Bool) (y : b ≡ is_decl t && any_pass f (parts_of 44 (body_of t))) where
  gives-is : gives_up f l ≡ b
  unfolding gives_up
  gives-is = rw (← z) (sym y)

  pub text-other : b ≡ false → (m : ℕ) → site_text f l m ≡ other_text l m
  unfolding site_text
  text-other e m = rw (gives-is ∙ e)

  pub marks-other : b ≡ false → (m : List ℕ) → m ≡ site_marks f g l m
  unfolding site_marks
  marks-other e m = sym (rw (gives-is ∙ e))

  module _ (e : b ≡ true) (body : List ℕ) (x : body ≡ body_of t) where
    pub marks-decl : (m : List ℕ) → noted_all f g (parts_of 44 body) m ≡ site_marks f g l m
    unfolding site_marks
    marks-decl m = sym (rw (gives-is ∙ e, ← z, ← x))

    pub text-decl : (a : ℕ) → a ≡ from_of l → (indent : List ℕ) → indent ≡ part 0 a l → (m : ℕ) → site_text f l m ≡ decl_text indent (kept (left f) 1 (parts_of 44 body)) false
    unfolding site_text
    text-decl a q indent w m =
        let n : a - 0 ≡ from_of l = omega arith in
        let i : take (from_of l) l ≡ indent = ap (λ (k : ℕ). take k l) (sym n) ∙ sym w in
        rw (gives-is ∙ e, ← z, ← x, i)

-- ---- the tables reach far enough

pub reach-at : (t : List ℕ) (s : Site) (bs ss b : List ℕ) → b ≡ part s.next s.end t → Reach t s bs ss →
    (s.row + suc (length (lines_of b)) ≤ length bs) × (s.row + suc (length (lines_of b)) ≤ length ss)
reach-at t s bs ss b e h = rw e h

-- the entry of a mark is in a table that reaches as far
pub mark-lt : (t : List ℕ) (s : Site) (bs ss m : List ℕ) (v : ℕ) (b : Bool) → b ≡ bound_at t s bs ss v → b ≡ true → s.row + suc (length (below_of t s)) ≤ length m → mark_row t s v < length m
mark-lt t s bs ss m v b p e h = omega (arith, bound-lt t s bs ss v (sym p ∙ e))

-- ---- a mark

module _ (f : ℕ → Bool) (g : ℕ → ℕ) (r : Option Register) (m : List ℕ) (q : Register) (e : r ≡ Some q) (b : Bool) (p : b ≡ f q.0) where
  -- a name that is not bound makes none
  pub noted-kept : b ≡ false → m ≡ noted f g r m
  noted-kept h = sym (ap (λ (n : Option Register). noted f g n m) e ∙ rw (← p, h))

  -- and one that is bound makes one, at k
  pub noted-new : b ≡ true → (k : ℕ) → k ≡ g q.0 → set m k 1 ≡ noted f g r m
  noted-new h k w = ap (λ (n : ℕ). set m n 1) w ∙ sym (ap (λ (n : Option Register). noted f g n m) e ∙ rw (← p, h))

pub row_at : (t : List ℕ) (s : Site) (v : ℕ) (b : List ℕ) → b ≡ part s.next s.end t → (f : ℕ) → f ≡ use_row v (lines_of b) → s.row + (f + 1) ≡ mark_row t s v
row_at t s v b e f p = let z : f ≡ use_row v (below_of t s) = p ∙ ap (λ (x : List ℕ). use_row v (lines_of x)) e in omega arith

-- ---- whether a line gives up a name, by its two tests

module _ (f : ℕ → Bool) (t : List ℕ) (d : Bool) (p : d ≡ is_decl t) where
  pub gives-no : d ≡ false → false ≡ is_decl t && any_pass f (parts_of 44 (body_of t))
  gives-no e = sym (rw (← p, e))

  pub gives-yes : d ≡ true → (body : List ℕ) → body ≡ body_of t → (b : Bool) → b ≡ any_pass f (parts_of 44 body) → b ≡ is_decl t && any_pass f (parts_of 44 (body_of t))
  gives-yes e body x b q = q ∙ sym (rw (← p, e, ← x))
