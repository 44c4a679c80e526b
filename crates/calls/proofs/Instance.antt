-- Demand 3 for rebuild_calls, for every reading that may be cut where nothing is open. Assumes nothing.
-- Document 01 stops a walk, and the look for later reads, where the region changes, and a header opens a region. So the law leaves nothing out: the
-- tail's first line may be a call line and the upper part's last line a store.
use Prim.Native.Nat.{ℕ}
use mathlib.Core.Path.{◌≡◌, refl, sym, ap, ◌∙◌}
use mathlib.Core.Bool.{Bool, true}
use mathlib.Core.List.{List, [], ◌∷◌, ◌++◌, append_assoc, reverse, reverse_aux, reverse-reverse}
use lib.ListN.{length}
use Rattle.place.specs.Region.{is_header}
use Rattle.place.specs.Inner.Region.{headed}
use Rattle.place.specs.Blocks.{blocks}
use Rattle.place.specs.Inner.Blocks.{own}
use Rattle.place.specs.Starts.{starts_above}
use Rattle.place.proofs.Starts.{starts-far}
use Rattle.place.proofs.Blocks.{rename, block_below, next_below, blocks-cut, below-lt, same-renamed, length-blocks}
use Rattle.place.proofs.Blocks as numbers
use Rattle.reading.specs.Reading.{Reading}
use Rattle.reading.proofs.Lined.{Lined}
use Rattle.calls.specs.LeavesOf.{starts_below, blocks_by, leaves_of}
use Rattle.calls.specs.Leaves.{Leaves}
use Rattle.calls.specs.Calls.{rows_of, items_of, rebuild_calls_acts, rebuild_calls}
use Rattle.calls.proofs.Headers.{header-other}
use Rattle.calls.proofs.Edges.{given, rows-given, items-on}
use Rattle.calls.proofs.Stacks.{lines-given}
use Rattle.calls.proofs.Cut as cut

onto : (xs ys : List (List ℕ)) → reverse_aux xs ys ≡ reverse xs ++ ys
onto [] ys = refl
onto (x ∷ xs) ys = onto xs (x ∷ ys) ∙ sym (ap (λ (l : List (List ℕ)). l ++ ys) (onto xs (x ∷ [])) ∙ append_assoc (reverse xs) (x ∷ []) ys)

onto-append : (xs ys zs : List (List ℕ)) → reverse_aux (xs ++ ys) zs ≡ reverse_aux ys (reverse_aux xs zs)
onto-append [] ys zs = refl
onto-append (x ∷ xs) ys zs = onto-append xs ys (x ∷ zs)

-- `xs ++ l ∷ ys` turned round
turned : (xs : List (List ℕ)) (l : List ℕ) (ys : List (List ℕ)) → reverse (xs ++ l ∷ ys) ≡ reverse ys ++ l ∷ reverse xs
turned xs l ys = onto-append xs (l ∷ ys) [] ∙ onto ys (l ∷ reverse xs)

-- the lines as the rows have them
rows-up : (L : Leaves) (ls : List (List ℕ)) → cut.rows_up L ls ≡ reverse ls
unfolding given
rows-up L ls =
    lines-given (rows_of L (items_of ls (L.blocks ls)) [])
    ∙ ap reverse (rows-given L (items_of ls (L.blocks ls)) [] ∙ items-on L ls (L.blocks ls))

module _ {R : Reading} {shut : List (List ℕ) → Bool} (c : Lined R shut) where
  -- the look back over lines above a header, below lines that end shut
  looks : (xs : List (List ℕ)) (l : List ℕ) (ys : List (List ℕ)) → shut (reverse ys) ≡ true →
      starts_below R (xs ++ l ∷ ys) ≡ starts_above (reverse (c.rest l (reverse xs)) ++ c.one l ∷ reverse (R.clean (reverse ys)))
  unfolding starts_below
  looks xs l ys s =
      ap (λ (ls : List (List ℕ)). starts_above (reverse ls))
      (ap R.clean (turned xs l ys) ∙ c.splits (reverse ys) (l ∷ reverse xs) s ∙ ap (λ (ls : List (List ℕ)). R.clean (reverse ys) ++ ls) (c.first l (reverse xs)))
      ∙ ap starts_above (turned (R.clean (reverse ys)) (c.one l) (c.rest l (reverse xs)))

  starts-cut : (xs : List (List ℕ)) (l : List ℕ) (ys : List (List ℕ)) → is_header l ≡ true → shut (reverse ys) ≡ true → starts_below R (xs ++ l ∷ ys) ≡ starts_below R (xs ++ l ∷ [])
  starts-cut xs l ys h s =
      looks xs l ys s
      ∙ starts-far (reverse (c.rest l (reverse xs))) (reverse (R.clean (reverse ys))) (c.one l) (c.shown l h)
      ∙ sym (starts-far (reverse (c.rest l (reverse xs))) (reverse (R.clean [])) (c.one l) (c.shown l h))
      ∙ sym (looks xs l [] c.none)

  blocks-long : (ls : List (List ℕ)) → length (blocks_by R ls) ≡ length ls
  unfolding blocks_by
  blocks-long ls = length-blocks (R.clean ls) ∙ c.long ls

  -- what the law asks of the leaves
  cuttable : cut.Cuttable (leaves_of R)
  cuttable = record { header-other = header-other; shut = λ ys. shut (reverse ys); shut_none = c.none; starts-above = starts-cut; blocks-length = blocks-long }

  renamed_by : (t d : ℕ) (bs : List ℕ) → numbers.renamed t d bs ≡ cut.renamed (rename t d) bs
  unfolding numbers.renamed cut.renamed
  renamed_by t d [] = refl
  renamed_by t d (b ∷ bs) = ap (λ (r : List ℕ). rename t d b ∷ r) (renamed_by t d bs)

  -- the tail's blocks are its own, renamed one to one, where it closes no brace that it did not open
  pub renumbered : (upper tail : List (List ℕ)) → shut upper ≡ true → own (R.clean tail) ≡ true → cut.Renumbered (leaves_of R) upper tail
  unfolding blocks_by
  renumbered upper tail s h =
      let us : List (List ℕ) = R.clean upper in
      let ts : List (List ℕ) = R.clean tail in
      record {
        name = rename (block_below us) (next_below us);
        one = λ x y. same-renamed (block_below us) (next_below us) x y (below-lt us);
        blocks = ap blocks (c.splits upper tail s) ∙ blocks-cut us ts h ∙ ap (λ (r : List ℕ). blocks us ++ r) (renamed_by (block_below us) (next_below us) (blocks ts));
      }

  heads : (ls : List (List ℕ)) → headed ls ≡ true → cut.headed (leaves_of R) ls ≡ true
  unfolding headed cut.headed
  heads [] h = h
  heads (l ∷ ls) h = h

  shut-up : (upper : List (List ℕ)) → shut upper ≡ true → shut (reverse (cut.rows_up (leaves_of R) upper)) ≡ true
  shut-up upper s = ap (λ (ls : List (List ℕ)). shut (reverse ls)) (rows-up (leaves_of R) upper) ∙ ap shut (reverse-reverse upper) ∙ s

  -- demand 3, of acts
  pub calls-acts-cut : (upper tail : List (List ℕ)) → headed tail ≡ true → shut upper ≡ true → own (R.clean tail) ≡ true →
      rebuild_calls_acts (leaves_of R) (upper ++ tail) ≡ rebuild_calls_acts (leaves_of R) upper ++ rebuild_calls_acts (leaves_of R) tail
  unfolding cuttable
  calls-acts-cut upper tail h s o = cut.acts-law (leaves_of R) cuttable upper tail (heads tail h) (shut-up upper s) (renumbered upper tail s o)

  -- demand 3, of lines
  pub calls-cut : (upper tail : List (List ℕ)) → headed tail ≡ true → shut upper ≡ true → own (R.clean tail) ≡ true →
      rebuild_calls (leaves_of R) (upper ++ tail) ≡ rebuild_calls (leaves_of R) upper ++ rebuild_calls (leaves_of R) tail
  unfolding cuttable
  calls-cut upper tail h s o = cut.cut-law (leaves_of R) cuttable upper tail (heads tail h) (shut-up upper s) (renumbered upper tail s o)

  -- one act for each line
  pub calls-length : (ls : List (List ℕ)) → length (rebuild_calls_acts (leaves_of R) ls) ≡ length ls
  calls-length ls = cut.rebuilt-length (leaves_of R) cuttable ls
