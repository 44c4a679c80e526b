-- Leaves that agree on the starts of statements and on the blocks rebuild alike; so do the tables of a reading. Assumes nothing.
use Prim.Native.Nat.{ℕ, zero, suc, ◌<◌}
use mathlib.Core.Path.{◌≡◌, refl, sym, ap, ◌∙◌, subst}
use mathlib.Core.Bool.{Bool, true, false, cond, not, ◌&&◌, ◌||◌}
use mathlib.Core.List.{List, [], ◌∷◌, ◌++◌, append_assoc, reverse, reverse-cons, reverse-reverse}
use native.Mathlib.Omega.{arith}
use lib.Dec.{eqb}
use lib.ListN.{length, take, get_or, length-append, length-reverse}
use lib.Seq.{take_at, get_or-take, length-take-le}
use Rattle.lines.specs.Acts.{Act, keep, become, into, gone, apply}
use Rattle.lexical.specs.declared.Open.{Open}
use Rattle.lexical.specs.declared.Open.TheVariants.{Nothing}
use Rattle.lexical.specs.Lex.{strip_lexical}
use Rattle.lexical.specs.Joined.{rest_at, open_below, rests_from, rests_in}
use Rattle.place.specs.Region.{is_header}
use Rattle.place.specs.Blocks.{cleaned}
use Rattle.place.specs.Inner.Blocks.{block_ids}
use Rattle.place.specs.Starts.{starts_go, starts_above}
use Rattle.place.specs.Inner.Fill.{flags_of}
use Rattle.place.proofs.Starts.{starts-at, length-starts}
use Rattle.reading.specs.Reading.{Reading, clean_in, reading_by}
use Rattle.reading.specs.Uses.{line_reads}
use Rattle.reading.proofs.Lined.{modes-lined}
use Rattle.calls.specs.Leaves.{Leaves, Parsed, store, other}
use Rattle.calls.specs.LeavesOf.{is_call, is_control_line, parsed_of, context_of, starts_below, blocks_by, leaves_by, leaves_of}
use Rattle.calls.specs.Calls.{Item, Row, end, stop, pass, on_step, row_lines, lines_on, climb, items_of, acts_up, read_later, breaks_one, put_by, storeStep, stepAt, walk, settle_row, turn, rows_of, rebuild_calls_acts, rebuild_calls}
use Rattle.calls.specs.Inner.Tables.{tabled}
use Rattle.calls.proofs.Cut.{walk_step}
use Rattle.calls.proofs.Edges.{items-on}
use Rattle.calls.proofs.Told.{turn_lines}
use Rattle.calls.proofs.WalkLaws.{later_same, put_same}

-- ---- two leaves

module _ (s s' : List (List ℕ) → Bool) (b b' : List (List ℕ) → List ℕ) where
  abbrev L : Leaves
  L = leaves_by s b

  abbrev L' : Leaves
  L' = leaves_by s' b'

  breaks-alike : (value : List ℕ) (ls : List (List ℕ)) → breaks_one L value ls ≡ breaks_one L' value ls
  unfolding breaks_one
  breaks-alike value [] = refl
  breaks-alike value (l ∷ ls) = ap (λ (x : Bool). L.breaks value l || x) (breaks-alike value ls)

  later-alike : (v : ℕ) (ls : List (List ℕ)) → read_later L v ls ≡ read_later L' v ls
  later-alike v ls = later_same s b v ls ∙ sym (later_same s' b' v ls)

  module _ (blk : ℕ) (later : ℕ → Bool) where
    store-alike : (p : Parsed) (over : Bool) (cur : List ℕ) (lines : List (List ℕ)) (n : ℕ) (above : List (List ℕ)) → s above ≡ s' above →
        storeStep L blk later p over cur lines n above ≡ storeStep L' blk later p over cur lines n above
    unfolding storeStep
    store-alike other over cur lines n above e = refl
    store-alike (store v value) over cur lines n above e =
        let puts : put_by L (context_of cur v) cur v value ≡ put_by L' (context_of cur v) cur v value =
        put_same s b (context_of cur v) cur v value ∙ sym (put_same s' b' (context_of cur v) cur v value) in
        λ i. cond (not over && (eqb n blk && (e i && (eqb (line_reads v cur) 1 && (not (later v) && not (breaks-alike value lines i)))))) (puts i) end

    step-alike : (a : Act) (x : Item) (d : ℕ) (over : Bool) (cur took : List ℕ) (lines above : List (List ℕ)) → s above ≡ s' above →
        stepAt L blk later a x d over cur took lines above ≡ stepAt L' blk later a x d over cur took lines above
    unfolding stepAt
    step-alike (into n) x d over cur took lines above e = refl
    step-alike gone x d over cur took lines above e = refl
    step-alike keep x d over cur took lines above e = store-alike (parsed_of x.line) over cur lines x.block above e
    step-alike (become t) x d over cur took lines above e = store-alike (parsed_of t) over cur lines x.block above e

  -- they agree on the lines above each of these lines, the nearest first
  unfoldable Agreed : List (List ℕ) → Type 0
  Agreed [] = Unit
  Agreed (l ∷ ls) = (s ls ≡ s' ls) × Agreed ls

  walk-alike : (blk : ℕ) (later : ℕ → Bool) (left : ℕ) (rs : List Row) (d : ℕ) (over : Bool) (cur took : List ℕ) (lines : List (List ℕ)) → Agreed (row_lines rs) →
      walk L blk later left rs d over cur took lines ≡ walk L' blk later left rs d over cur took lines
  unfolding walk Agreed row_lines
  walk-alike blk later zero rs d over cur took lines h = refl
  walk-alike blk later (suc left) [] d over cur took lines h = refl
  walk-alike blk later (suc left) (r ∷ rs) d over cur took lines h =
      let past : Bool = over || is_header r.item.line in
      walk_step L blk later left r rs d over cur took lines
      ∙ (λ i. on_step (step-alike blk later r.act r.item d over cur took lines (row_lines rs) h.0 i) (stop took cur (r ∷ rs))
      (pass r.item r.act (walk-alike blk later left rs (suc d) past cur took lines h.1 i))
      (λ next. pass r.item (into d) (walk-alike blk later left rs (suc d) past next (d ∷ took) (r.item.line ∷ lines) h.1 i)))
      ∙ sym (walk_step L' blk later left r rs d over cur took lines)

  turn-alike : (x : Item) (below : List (List ℕ)) (rs : List Row) → s (row_lines rs) ≡ s' (row_lines rs) → Agreed (row_lines rs) → turn L x below rs ≡ turn L' x below rs
  unfolding turn
  turn-alike x below rs e h =
      let w : walk L x.block (λ v. read_later L v below) climb rs 1 (is_header x.line) x.line [] [] ≡ walk L' x.block (λ v. read_later L' v below) climb rs 1 (is_header x.line) x.line [] [] =
      walk-alike x.block (λ v. read_later L v below) climb rs 1 (is_header x.line) x.line [] [] h
      ∙ (λ i. walk L' x.block (λ v. later-alike v below i) climb rs 1 (is_header x.line) x.line [] []) in
      λ i. cond (is_call x.line && (e i && not (is_control_line x.line))) (settle_row L x (w i)) (record { item = x; act = keep } ∷ rs)

  -- and on each of the lines to come
  unfoldable pub Alike : List (List ℕ) → List (List ℕ) → Type 0
  Alike above [] = Unit
  Alike above (l ∷ ls) = (s above ≡ s' above) × Alike (l ∷ above) ls

  rows_alike : (xs : List Item) (rs : List Row) → Agreed (row_lines rs) → Alike (row_lines rs) (lines_on xs) → rows_of L xs rs ≡ rows_of L' xs rs
  unfolding rows_of lines_on Alike Agreed
  rows_alike [] rs h k = refl
  rows_alike (x ∷ xs) rs h k =
      let t : row_lines (turn L' x (lines_on xs) rs) ≡ x.line ∷ row_lines rs = turn_lines L' x (lines_on xs) rs in
      ap (rows_of L xs) (turn-alike x (lines_on xs) rs k.0 h)
      ∙ rows_alike xs (turn L' x (lines_on xs) rs) (subst Agreed (sym t) (k.0, h)) (subst (λ (a : List (List ℕ)). Alike a (lines_on xs)) (sym t) k.1)

  pub acts-alike : (ls : List (List ℕ)) → items_of ls (b ls) ≡ items_of ls (b' ls) → Alike [] ls → rebuild_calls_acts L ls ≡ rebuild_calls_acts L' ls
  unfolding rebuild_calls_acts Agreed row_lines acts_up
  acts-alike ls e h =
      ap (λ (x : List Row). acts_up x []) (rows_alike (items_of ls (b ls)) [] tt (subst (Alike []) (sym (items-on L ls (b ls))) h)
      ∙ ap (λ (xs : List Item). rows_of L' xs []) e)

  -- where they agree on the lines above each of all lines
  module _ (all : List (List ℕ)) (agree : (n : ℕ) → n < length all → s (reverse (take n all)) ≡ s' (reverse (take n all))) where
    alike-on : (above ls : List (List ℕ)) → reverse above ++ ls ≡ all → Alike above ls
    unfolding Alike
    alike-on above [] e = tt
    alike-on above (l ∷ ls) e =
        let n : ℕ = length above in
        let m : n < length all = omega (arith, ap length e, length-append (reverse above) (l ∷ ls), length-reverse above) in
        let q : reverse (take n all) ≡ above =
        ap (λ (x : List (List ℕ)). reverse (take n x)) (sym e) ∙ ap reverse (take_at (reverse above) (l ∷ ls) n (length-reverse above)) ∙ reverse-reverse above in
        (ap s (sym q) ∙ agree n m ∙ ap s' q, alike-on (l ∷ above) ls (ap (λ (x : List (List ℕ)). x ++ ls) (reverse-cons l above) ∙ append_assoc (reverse above) (l ∷ []) ls ∙ e))

    pub alike_all : Alike [] all
    alike_all = alike-on [] all refl

-- ---- the tables of a reading

items-take : (ls : List (List ℕ)) (bs : List ℕ) → items_of ls bs ≡ items_of ls (take (length ls) bs)
unfolding items_of
items-take [] bs = refl
items-take (l ∷ ls) [] = refl
items-take (l ∷ ls) (b ∷ bs) = ap (λ (xs : List Item). record { line = l; block = b } ∷ xs) (items-take ls bs)

cleaned-take : (n : ℕ) (ls : List (List ℕ)) → cleaned (take n ls) ≡ take n (cleaned ls)
unfolding cleaned
cleaned-take zero ls = refl
cleaned-take (suc n) [] = refl
cleaned-take (suc n) (l ∷ ls) = ap (λ (k : List (List ℕ)). strip_lexical l ∷ k) (cleaned-take n ls)

rests-take : (o : Open) (n : ℕ) (ls : List (List ℕ)) → rests_from o (take n ls) ≡ take n (rests_from o ls)
unfolding rests_from
rests-take o zero ls = refl
rests-take o (suc n) [] = refl
rests-take o (suc n) (l ∷ ls) = ap (λ (k : List (List ℕ)). rest_at o l ∷ k) (rests-take (open_below o l) n ls)

-- the first lines are cleaned as they are in the text
clean-take : (joined : Bool) (n : ℕ) (ls : List (List ℕ)) → clean_in joined (take n ls) ≡ take n (clean_in joined ls)
clean-take true n ls = ap cleaned (rests-take Nothing n ls) ∙ cleaned-take n (rests_from Nothing ls)
clean-take false n ls = cleaned-take n ls

flag-at : (bs : List Bool) (n : ℕ) → n < length bs → eqb (get_or (flags_of bs) n 0) 1 ≡ get_or bs n true
unfolding flags_of
flag-at [] n h = absurd (omega arith)
flag-at (true ∷ bs) zero h = refl
flag-at (false ∷ bs) zero h = refl
flag-at (b ∷ bs) (suc n) h = flag-at bs n (omega arith)

module _ (strict joined : Bool) (ls : List (List ℕ)) (bs fs : List ℕ) (p : take (length ls) bs ≡ block_ids (rests_in joined ls))
    (q : take (length ls) fs ≡ flags_of (starts_go (cleaned (rests_in joined ls)) true)) where
  abbrev R : Reading
  R = reading_by strict joined

  start_is : (n : ℕ) → n < length ls → eqb (get_or fs n 0) 1 ≡ starts_below R (reverse (take n ls))
  unfolding starts_below
  start_is n h =
      let c : List (List ℕ) = clean_in joined ls in
      let m : n < length c = omega (arith, (modes-lined strict joined).long ls) in
      let k : n < length (starts_go c true) = omega (arith, length-starts c true) in
      ap (λ (x : ℕ). eqb x 1) (sym (get_or-take (length ls) fs n 0 h) ∙ ap (λ (l : List ℕ). get_or l n 0) q)
      ∙ flag-at (starts_go c true) n k ∙ starts-at c n m
      ∙ ap (λ (l : List (List ℕ)). starts_above (reverse l)) (sym (clean-take joined n ls))
      ∙ ap (λ (l : List (List ℕ)). starts_above (reverse (clean_in joined l))) (sym (reverse-reverse (take n ls)))

  starts-agree : (n : ℕ) → n < length ls → (tabled bs fs).starts (reverse (take n ls)) ≡ starts_below R (reverse (take n ls))
  starts-agree n h =
      let l : length (reverse (take n ls)) ≡ n = length-reverse (take n ls) ∙ length-take-le n ls (omega arith) in
      ap (λ (k : ℕ). eqb (get_or fs k 0) 1) l ∙ start_is n h

  pub tabled-acts : rebuild_calls_acts (tabled bs fs) ls ≡ rebuild_calls_acts (leaves_of R) ls
  unfolding blocks_by
  tabled-acts =
      let s : List (List ℕ) → Bool = (tabled bs fs).starts in
      acts-alike s (starts_below R) (tabled bs fs).blocks (blocks_by R) ls (items-take ls bs ∙ ap (items_of ls) p)
      (alike_all s (starts_below R) (tabled bs fs).blocks (blocks_by R) ls starts-agree)

  pub tabled-is : rebuild_calls (tabled bs fs) ls ≡ rebuild_calls (leaves_of R) ls
  unfolding rebuild_calls
  tabled-is = ap (λ (a : List Act). apply a ls) tabled-acts
