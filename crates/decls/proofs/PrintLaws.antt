-- Laws of a declaration that is written anew, over any test of what stays. Assumes nothing.
use Prim.Native.Nat.{ℕ, ◌+◌, ◌-◌, ◌≤◌, ◌<◌}
use mathlib.Core.Path.{◌≡◌, refl, sym, ap, ◌∙◌}
use mathlib.Core.Bool.{Bool, true, false}
use mathlib.Core.List.{List, [], ◌∷◌, ◌++◌, append_assoc, append-nil}
use native.Mathlib.Omega.{arith}
use borrow.Author.Tests.{lt-ltb, le-ltb}
use lib.Dec.{ltb}
use lib.ListN.{length, take, drop, length-append, length-drop, take-append-drop}
use lib.Seq.{take-append_seam}
use Rattle.lines.specs.Lf.{part, unlines}
use Rattle.lines.specs.Acts.{act}
use Rattle.lines.specs.Inner.Out.{Wrote}
use Rattle.lines.proofs.LfLaws.{rest_of}
use Rattle.lines.proofs.OutLaws.{Writing, writing_start, writing-as, writing-room, writing-put, writing-end}
use Rattle.text.specs.Trim.{trim_of}
use Rattle.names.specs.Names.{decimal}
use Rattle.names.specs.Inner.Names.{zeros, number_after}
use Rattle.std.specs.declared.option.Option.TheVariants.{Some}
use Rattle.names.proofs.Digits.{zeros-lt}
use Rattle.names.proofs.Texts.{after-read, after-copied}
use Rattle.parse.specs.Parse.{let_word}
use Rattle.decls.specs.Decls.{commas, decl_act}
use Rattle.decls.specs.Inner.Print.{bare_name, one, kept, lead_of, end_of, named, some_of, decl_text}

-- ---- a name as it is printed

-- a name that was read is printed by its own digits
pub after-bare : (p s : List ℕ) (v : ℕ) → number_after p s ≡ Some v → p ++ decimal v ≡ bare_name (length p) s
unfolding bare_name
after-bare p s v h =
    let f : take (length p) s ≡ p = ap (take (length p)) (after-read p s v h).0 ∙ take-append_seam p (drop (length p) s) in
    after-copied p s v h ∙ ap (λ (r : List ℕ). r ++ drop (length p + zeros (drop (length p) s)) s) (sym f)

zeros-le : (l : List ℕ) → zeros l ≤ length l
unfolding zeros
zeros-le [] = omega arith
zeros-le (x ∷ xs) = omega (arith, zeros-lt (x ∷ xs) (omega arith))

-- the zeros that lead, of the digits after k bytes
module _ (t : List ℕ) (k z : ℕ) (q : z ≡ zeros (part k (length t) t)) where
  zeros-are : z ≡ zeros (drop k t)
  zeros-are = q ∙ ap zeros (rest_of t k)

  -- the place after them is no further than the end
  pub name-most : z ≤ length t - k
  name-most = omega (arith, zeros-are, zeros-le (drop k t), length-drop k t)

  name-whole : (indent : List ℕ) (some : Bool) → named indent (bare_name k t ∷ []) some ≡ lead_of indent some ++ (part 0 k t ++ (part (k + z) (length t) t ++ []))
  unfolding named bare_name
  name-whole indent some =
      let a : k - 0 ≡ k = omega arith in
      append-nil (lead_of indent some ++ (take k t ++ drop (k + zeros (drop k t)) t))
      ∙ ap (λ (r : List ℕ). lead_of indent some ++ r)
      (rw (a, append-nil (part (k + z) (length t) t), rest_of t (k + z)) (ap (λ (n : ℕ). take k t ++ drop (k + n) t) (sym zeros-are)))

  -- where none leads, the name is written as it is
  name-plain : z ≡ 0 → (indent : List ℕ) (some : Bool) → named indent (bare_name k t ∷ []) some ≡ lead_of indent some ++ (t ++ [])
  unfolding named bare_name
  name-plain n indent some =
      let w : k + zeros (drop k t) ≡ k = omega (arith, zeros-are) in
      append-nil (lead_of indent some ++ (take k t ++ drop (k + zeros (drop k t)) t))
      ∙ ap (λ (r : List ℕ). lead_of indent some ++ r) (ap (λ (i : ℕ). take k t ++ drop i t) w ∙ take-append-drop k t ∙ sym (append-nil t))

-- ---- what stands before a name, and the end

pub lead-first : (indent : List ℕ) (some : Bool) → some ≡ false → lead_of indent some ≡ indent ++ (let_word ++ [])
unfolding lead_of
lead-first indent true h = cc
lead-first indent false h = refl

pub lead-next : (indent : List ℕ) (some : Bool) → some ≡ true → lead_of indent some ≡ 44 ∷ 32 ∷ []
unfolding lead_of
lead-next indent true h = refl
lead-next indent false h = cc

pub end-some : (some : Bool) → some ≡ true → end_of some ≡ 59 ∷ 10 ∷ []
unfolding end_of
end-some true h = refl
end-some false h = cc

pub end_none : (some : Bool) → some ≡ false → end_of some ≡ []
unfolding end_of
end_none true h = cc
end_none false h = refl

named_none : (indent : List ℕ) (some : Bool) → named indent [] some ≡ []
unfolding named
named_none indent some = refl

some-none : (some : Bool) → some_of [] some ≡ some
unfolding some_of
some-none some = refl

pub part_stays : (indent : List ℕ) (some stays : Bool) (k : ℕ) (t : List ℕ) → stays ≡ true → named indent (one stays k t) some ≡ named indent (bare_name k t ∷ []) some
part_stays indent some stays k t h = ap (λ (b : Bool). named indent (one b k t) some) h

pub part-goes : (indent : List ℕ) (some stays : Bool) (k : ℕ) (t : List ℕ) → stays ≡ false → named indent (one stays k t) some ≡ []
part-goes indent some stays k t h = ap (λ (b : Bool). named indent (one b k t) some) h ∙ named_none indent some

-- ---- room for the next piece of a text that is written bit by bit

pub writing-fits : {a o : ℕ} {whole d₀ d : List ℕ} (xs rest : List ℕ) → Writing a whole (xs ++ rest) d₀ d o → o + length xs ≤ length d
writing-fits xs rest w = omega (arith, writing-room w, length-append xs rest)

-- the indent and `let ` are to come
pub lead-writing : (indent : List ℕ) (some : Bool) (d : List ℕ) (o : ℕ) → some ≡ false → o + length (lead_of indent some) ≤ length d → Writing o (lead_of indent some) (indent ++ (let_word ++ [])) d d o
lead-writing indent some d o h r = writing-as (lead-first indent some h) (writing_start o (lead_of indent some) d r)

-- what stands before a name, its word x and its digits y are to come
pub name-writing : (t : List ℕ) (k z : ℕ) → z ≡ zeros (part k (length t) t) → (indent : List ℕ) (some : Bool) (d : List ℕ) (o : ℕ) → o + length (named indent (bare_name k t ∷ []) some) ≤ length d →
    (x y : List ℕ) → x ≡ part 0 k t → y ≡ part (k + z) (length t) t → Writing o (named indent (bare_name k t ∷ []) some) (lead_of indent some ++ (x ++ (y ++ []))) d d o
name-writing t k z q indent some d o r x y e f =
    writing-as (name-whole t k z q indent some ∙ rw (← e, ← f)) (writing_start o (named indent (bare_name k t ∷ []) some) d r)

-- where no zero leads: what stands before it, and the name, are to come
pub plain-writing : (t : List ℕ) (k z : ℕ) → z ≡ zeros (part k (length t) t) → z ≡ 0 → (indent : List ℕ) (some : Bool) (d : List ℕ) (o : ℕ) → o + length (named indent (bare_name k t ∷ []) some) ≤ length d →
    Writing o (named indent (bare_name k t ∷ []) some) (lead_of indent some ++ (t ++ [])) d d o
plain-writing t k z q n indent some d o r = writing-as (name-plain t k z q n indent some) (writing_start o (named indent (bare_name k t ∷ []) some) d r)

-- two bytes are to come, and are written one by one
module _ {whole : List ℕ} {x y : ℕ} (e : whole ≡ x ∷ y ∷ []) (d : List ℕ) (o : ℕ) (r : o + length whole ≤ length d) where
  pair-writing : Writing o whole (x ∷ y ∷ []) d d o
  pair-writing = writing-as e (writing_start o whole d r)

  pub pair-room : o < length d
  pair-room = omega (arith, writing-room pair-writing)

  module _ {d₁ : List ℕ} {p : ℕ} (v : Wrote d o (x ∷ []) d₁ p) where
    next-writing : Writing o whole (y ∷ []) d d₁ p
    next-writing = writing-put {xs = x ∷ []} {rest = y ∷ []} pair-writing v

    pub pair-more : p < length d₁
    pair-more = omega (arith, writing-room next-writing)

    pub pair_end : {d₂ : List ℕ} {q : ℕ} → Wrote d₁ p (y ∷ []) d₂ q → Wrote d o whole d₂ q
    pair_end w = writing-end (writing-put {xs = y ∷ []} {rest = []} next-writing w)

-- ---- names, piece by piece

lead-long : (indent : List ℕ) (some : Bool) → 0 < length (lead_of indent some)
unfolding lead_of
lead-long indent true = omega arith
lead-long indent false = omega (arith, length-append indent let_word)

-- a name went before exactly where something has been written
some_after : (indent : List ℕ) (xs : List (List ℕ)) (o p r : ℕ) → o ≤ p → r ≡ p + length (named indent xs (ltb o p)) → some_of xs (ltb o p) ≡ ltb o r
unfolding named some_of
some_after indent [] o p r h e = let q : p ≡ r = omega arith in ap (ltb o) q
some_after indent (x ∷ xs) o p r h e =
    sym (lt-ltb o r (omega (
      arith,
      lead-long indent (ltb o p),
      length-append (lead_of indent (ltb o p)) x,
      length-append (lead_of indent (ltb o p) ++ x) (named indent xs true),
    )))

named-append : (indent : List ℕ) (xs ys : List (List ℕ)) (some : Bool) → named indent (xs ++ ys) some ≡ named indent xs some ++ named indent ys (some_of xs some)
unfolding named some_of
named-append indent [] ys some = refl
named-append indent (x ∷ xs) ys some =
    ap (λ (r : List ℕ). lead_of indent some ++ x ++ r) (named-append indent xs ys true ∙ ap (λ (b : Bool). named indent xs true ++ named indent ys b) (some-true xs))
    ∙ sym (append_assoc (lead_of indent some ++ x) (named indent xs true) (named indent ys true))
  where
    some-true : (zs : List (List ℕ)) → some_of zs true ≡ true
    some-true [] = refl
    some-true (z ∷ zs) = refl

some-append : (xs ys : List (List ℕ)) (some : Bool) → some_of (xs ++ ys) some ≡ some_of ys (some_of xs some)
unfolding some_of
some-append [] ys some = refl
some-append (x ∷ xs) [] some = refl
some-append (x ∷ xs) (y ∷ ys) some = refl

text-append : (indent : List ℕ) (xs ys : List (List ℕ)) (some : Bool) → decl_text indent (xs ++ ys) some ≡ named indent xs some ++ decl_text indent ys (some_of xs some)
text-append indent xs ys some =
    ap (λ (b : Bool). named indent (xs ++ ys) some ++ end_of b) (some-append xs ys some)
    ∙ ap (λ (r : List ℕ). r ++ end_of (some_of ys (some_of xs some))) (named-append indent xs ys some)
    ∙ append_assoc (named indent xs some) (named indent ys (some_of xs some)) (end_of (some_of ys (some_of xs some)))

text-none : (indent : List ℕ) (some : Bool) → decl_text indent [] some ≡ end_of some
text-none indent some = ap (λ (r : List ℕ). r ++ end_of (some_of [] some)) (named_none indent some) ∙ ap end_of (some-none some)

kept_cons : (f : List ℕ → Bool) (k : ℕ) (p : List ℕ) (ps : List (List ℕ)) → kept f k (p ∷ ps) ≡ one (f (trim_of p)) k (trim_of p) ++ kept f k ps
unfolding kept
kept_cons f k p ps = refl

kept-none : (f : List ℕ → Bool) (k : ℕ) → kept f k [] ≡ []
unfolding kept
kept-none f k = refl

-- the loop that writes a declaration: of its pieces, those that are left are still to come
pub record DeclLeft (f : List ℕ → Bool) (k : ℕ) (indent : List ℕ) (all left : List (List ℕ)) (d₀ d : List ℕ) (o p : ℕ) : Type 0 where
  pub writing : Writing o (decl_text indent (kept f k all) false) (decl_text indent (kept f k left) (ltb o p)) d₀ d p

pub left-start : (f : List ℕ → Bool) (k : ℕ) (indent : List ℕ) {all left : List (List ℕ)} → left ≡ all → (d : List ℕ) (o : ℕ) → o + length (decl_text indent (kept f k all) false) ≤ length d →
    DeclLeft f k indent all left d d o o
left-start f k indent {all} {left} e d o h = record {
  writing = writing-as (ap (λ (b : Bool). decl_text indent (kept f k all) b) (sym (le-ltb o o (omega arith))) ∙ ap (λ (ps : List (List ℕ)). decl_text indent (kept f k ps) (ltb o o)) (sym e))
      (writing_start o (decl_text indent (kept f k all) false) d h);
}

module _ {f : List ℕ → Bool} {k : ℕ} {indent : List ℕ} {all left : List (List ℕ)} {d₀ d : List ℕ} {o p : ℕ} (h : DeclLeft f k indent all left d₀ d o p) where
  module _ {w : List ℕ} {more : List (List ℕ)} (e : left ≡ w ∷ more) (t : List ℕ) (z : t ≡ trim_of w) (s : Bool) (y : s ≡ f t) where
    piece-is : one (f (trim_of w)) k (trim_of w) ≡ one s k t
    piece-is = rw (← z, ← y)

    kept-cut : kept f k left ≡ one s k t ++ kept f k more
    kept-cut = ap (kept f k) e ∙ kept_cons f k w more ∙ ap (λ (r : List (List ℕ)). r ++ kept f k more) piece-is

    -- what is still to come is this piece, and then the rest
    piece-writing : Writing o (decl_text indent (kept f k all) false) (named indent (one s k t) (ltb o p) ++ decl_text indent (kept f k more) (some_of (one s k t) (ltb o p))) d₀ d p
    piece-writing = writing-as (ap (λ (r : List (List ℕ)). decl_text indent r (ltb o p)) kept-cut ∙ text-append indent (one s k t) (kept f k more) (ltb o p)) h.writing

    pub left-room : p + length (named indent (one s k t) (ltb o p)) ≤ length d
    left-room = writing-fits (named indent (one s k t) (ltb o p)) _ piece-writing

    pub left-on : {d' : List ℕ} {r : ℕ} → Wrote d p (named indent (one s k t) (ltb o p)) d' r → DeclLeft f k indent all more d₀ d' o r
    left-on {d'} {r} v = record {
      writing = writing-as (ap (λ (b : Bool). decl_text indent (kept f k more) b) (some_after indent (one s k t) o p r (omega (arith, h.writing.wrote.place)) v.place)) (writing-put piece-writing v);
    }

  -- after the last piece only the end is to come
  module _ (e : left ≡ []) where
    end-writing : Writing o (decl_text indent (kept f k all) false) (end_of (ltb o p) ++ []) d₀ d p
    end-writing = writing-as (ap (λ (r : List (List ℕ)). decl_text indent r (ltb o p)) (ap (kept f k) e ∙ kept-none f k) ∙ text-none indent (ltb o p) ∙ sym (append-nil (end_of (ltb o p)))) h.writing

    pub left-end-room : p + length (end_of (ltb o p)) ≤ length d
    left-end-room = writing-fits (end_of (ltb o p)) [] end-writing

    pub left-end : {d' : List ℕ} {u : ℕ} → Wrote d p (end_of (ltb o p)) d' u → Wrote d₀ o (decl_text indent (kept f k all) false) d' u
    left-end w = writing-end (writing-put end-writing w)

-- ---- what is written is what the act says

named-commas : (indent x : List ℕ) (xs : List (List ℕ)) → x ++ named indent xs true ≡ commas x xs
unfolding named commas lead_of
named-commas indent x [] = append-nil x
named-commas indent x (y ∷ ys) = ap (λ (r : List ℕ). x ++ 44 ∷ 32 ∷ r) (named-commas indent y ys)

pub act-text : (indent l : List ℕ) (xs : List (List ℕ)) → unlines (act (decl_act indent xs) l) ≡ decl_text indent xs false
unfolding decl_act unlines act named lead_of end_of some_of
act-text indent l [] = refl
act-text indent l (x ∷ xs) =
    append_assoc (indent ++ let_word ++ commas x xs) (59 ∷ []) (10 ∷ [])
    ∙ ap (λ (r : List ℕ). (indent ++ let_word) ++ r ++ 59 ∷ 10 ∷ []) (sym (named-commas indent x xs))
    ∙ ap (λ (r : List ℕ). r ++ 59 ∷ 10 ∷ []) (sym (append_assoc (indent ++ let_word) x (named indent xs true)))
