-- Laws of chains: the tables of one walk, and that a chain has the lines behind its output line. Assumes nothing.
use Prim.Native.Nat.{ℕ, zero, suc, ◌+◌, ◌≤◌, ◌<◌}
use mathlib.Core.Path.{◌≡◌, refl, sym, ap, ◌∙◌}
use mathlib.Core.Bool.{Bool, true, false}
use mathlib.Core.List.{List, [], ◌∷◌, ◌++◌, append_assoc}
use native.Mathlib.Omega.{arith}
use native.Mathlib.Nat.{add-zero}
use borrow.Author.Tests.{eq-eqb, ne_eqb, eqb-true, lt-ltb, le-ltb}
use lib.Dec.{eqb}
use lib.ListN.{length, take, drop, get_or, set, replicate, length-append, length-take, length-drop, length-replicate, take-append-drop, get_or-eq_default}
use lib.Seq.{take-suc, drop-cons, drop-length, set-append_seam, set_out, length-take-le}
use Rattle.lines.proofs.Tests.{no}
use Rattle.origins.specs.declared.Went.{Went}
use Rattle.origins.specs.declared.Went.TheVariants.{Equal, Changed, Inside, Away}
use Rattle.origins.specs.Form.{Shape}
use Rattle.origins.specs.Read.{Said, says, wrong, read_file}
use Rattle.origins.specs.Answers.{is_in, behind_from, behind}
use Rattle.reader.specs.declared.Refusal.TheVariants.{NoRoom}
use Rattle.std.specs.declared.result.Result.TheVariants.{Ok, Err}
use Rattle.reader.specs.Replies.{Reply, check_reply, at_front, wents_in}
use Rattle.reader.specs.Chains.{first_or, firsts_from, next_in, first_in, nexts_from, roomed_chains, chains_by, chains_for, chains_reply, firsts_after, nexts_after, along}
use Rattle.reader.proofs.Laws.{is_fine, passed, fine-says}

-- ---- a table of one number

pub fill-length : (t : List ℕ) (x : ℕ) {t' : List ℕ} → t' ≡ replicate (length t) x → length t' ≡ length t
fill-length t x e = ap length e ∙ length-replicate (length t) x

pub fill-own : (t : List ℕ) (x : ℕ) {t' : List ℕ} → t' ≡ replicate (length t) x → t' ≡ replicate (length t') x
fill-own t x e = e ∙ ap (λ (n : ℕ). replicate n x) (sym (fill-length t x e))

-- ---- one line put in front of a chain

get_d-in : (l : List ℕ) (n a b : ℕ) → n < length l → get_or l n a ≡ get_or l n b
get_d-in [] n a b h = absurd (omega arith)
get_d-in (x ∷ l) zero a b h = refl
get_d-in (x ∷ l) (suc n) a b h = get_d-in l n a b (omega arith)

pub link_here : (t : List ℕ) (n i end : ℕ) → n < length t → (get_or t n 0 ≡ get_or t n end) × (set t n i ≡ set t n i)
link_here t n i end h = (get_d-in t n 0 end h, refl)

pub link-nowhere : (t : List ℕ) (n i end : ℕ) → length t ≤ n → (end ≡ get_or t n end) × (t ≡ set t n i)
link-nowhere t n i end h = (sym (get_or-eq_default t end {n = n} h), sym (set_out t n i h))

pub link-as : (t : List ℕ) (i end : ℕ) (w v : Went) {x : ℕ} {t' : List ℕ} → w ≡ v → (x ≡ next_in end t v) × (t' ≡ first_in i t v) → (x ≡ next_in end t w) × (t' ≡ first_in i t w)
link-as t i end w v e h = (h.0 ∙ ap (next_in end t) (sym e), h.1 ∙ ap (first_in i t) (sym e))

-- ---- the firsts

pub firsts-length : (end i : ℕ) (ws : List Went) (n m : ℕ) → length (firsts_from end i ws n m) ≡ m
unfolding firsts_from
firsts-length end i ws n zero = refl
firsts-length end i ws n (suc m) = ap suc (firsts-length end i ws (suc n) m)

firsts-none : (end i n m : ℕ) → replicate m end ≡ firsts_from end i [] n m
unfolding firsts_from behind_from
firsts-none end i n zero = refl
firsts-none end i n (suc m) = ap (λ (r : List ℕ). end ∷ r) (firsts-none end i (suc n) m)

-- a line that is not in output line n, in front of others
behind-other : (n i : ℕ) (w : Went) (ws : List Went) → is_in n w ≡ false → behind_from n i (w ∷ ws) ≡ behind_from n (suc i) ws
unfolding behind_from
behind-other n i w ws h = rw h

behind-here : (n i : ℕ) (w : Went) (ws : List Went) → is_in n w ≡ true → behind_from n i (w ∷ ws) ≡ i ∷ behind_from n (suc i) ws
unfolding behind_from
behind-here n i w ws h = rw h

-- a line that is in no output line from n on
firsts-other : (end i : ℕ) (w : Went) (ws : List Went) (n m : ℕ) → ((q : ℕ) → n ≤ q → is_in q w ≡ false) → firsts_from end (suc i) ws n m ≡ firsts_from end i (w ∷ ws) n m
unfolding firsts_from
firsts-other end i w ws n zero h = refl
firsts-other end i w ws n (suc m) h =
    ap (λ (x : ℕ). x ∷ firsts_from end (suc i) ws (suc n) m) (ap (first_or end) (sym (behind-other n i w ws (h n (omega arith)))))
    ∙ ap (λ (r : List ℕ). first_or end (behind_from n i (w ∷ ws)) ∷ r) (firsts-other end i w ws (suc n) m (λ (q : ℕ) k. h q (omega arith)))

-- a line that is in output line n + j
firsts-set : (end i : ℕ) (w : Went) (ws : List Went) (n j m : ℕ) → ((q : ℕ) → is_in q w ≡ eqb (n + j) q) → set (firsts_from end (suc i) ws n m) j i ≡ firsts_from end i (w ∷ ws) n m
unfolding firsts_from
firsts-set end i w ws n j zero h = refl
firsts-set end i w ws n zero (suc m) h =
    ap (λ (x : ℕ). x ∷ firsts_from end (suc i) ws (suc n) m) (ap (first_or end) (sym (behind-here n i w ws (h n ∙ eq-eqb (n + 0) n (omega arith)))))
    ∙ ap (λ (r : List ℕ). first_or end (behind_from n i (w ∷ ws)) ∷ r) (firsts-other end i w ws (suc n) m (λ (q : ℕ) k. h q ∙ ne_eqb (n + 0) q (omega arith)))
firsts-set end i w ws n (suc j) (suc m) h =
    let e : n + suc j ≡ suc n + j = omega arith in
    ap (λ (x : ℕ). x ∷ set (firsts_from end (suc i) ws (suc n) m) j i) (ap (first_or end) (sym (behind-other n i w ws (h n ∙ ne_eqb (n + suc j) n (omega arith)))))
    ∙ ap (λ (r : List ℕ). first_or end (behind_from n i (w ∷ ws)) ∷ r) (firsts-set end i w ws (suc n) j m (λ (q : ℕ). h q ∙ ap (λ (p : ℕ). eqb p q) e))

firsts-in : (end i : ℕ) (w : Went) (ws : List Went) (m : ℕ) → first_in i (firsts_from end (suc i) ws 0 m) w ≡ firsts_from end i (w ∷ ws) 0 m
firsts-in end i (Equal n) ws m = firsts-set end i (Equal n) ws 0 n m (λ (q : ℕ). let e : n ≡ 0 + n = omega arith in ap (λ (p : ℕ). eqb p q) e)
firsts-in end i (Changed n) ws m = firsts-set end i (Changed n) ws 0 n m (λ (q : ℕ). let e : n ≡ 0 + n = omega arith in ap (λ (p : ℕ). eqb p q) e)
firsts-in end i (Inside n) ws m = firsts-set end i (Inside n) ws 0 n m (λ (q : ℕ). let e : n ≡ 0 + n = omega arith in ap (λ (p : ℕ). eqb p q) e)
firsts-in end i Away ws m = firsts-other end i Away ws 0 m (λ (q : ℕ) k. refl)

-- ---- the nexts

pub nexts-length : (end m i : ℕ) (ws : List Went) → length (nexts_from end m i ws) ≡ length ws
unfolding nexts_from
nexts-length end m i [] = refl
nexts-length end m i (w ∷ ws) = ap suc (nexts-length end m (suc i) ws)

nexts-none : (end m i : ℕ) → nexts_from end m i [] ≡ []
unfolding nexts_from
nexts-none end m i = refl

nexts-more : (end m i : ℕ) (w : Went) (ws : List Went) → nexts_from end m i (w ∷ ws) ≡ next_in end (firsts_from end (suc i) ws 0 m) w ∷ nexts_from end m (suc i) ws
unfolding nexts_from
nexts-more end m i w ws = refl

-- ---- the walk from the last line to the first: those from i on are linked

pub record ChainInv (ws : List Went) (end k : ℕ) (d fs ns : List ℕ) (i : ℕ) : Type 0 where
  pub i≤ : i ≤ end
  pub all : end ≡ length ws
  pub room : end ≤ length d
  pub firsts : fs ≡ firsts_from end i (drop i ws) 0 k
  pub nexts : ns ≡ take i d ++ (nexts_from end k i (drop i ws) ++ drop end d)

pub chain-start : (ws : List Went) (end k : ℕ) (d fs : List ℕ) → end ≡ length ws → end ≤ length d → fs ≡ replicate k end → ChainInv ws end k d fs d end
chain-start ws end k d fs e h f =
    let q : drop end ws ≡ [] = ap (λ (n : ℕ). drop n ws) e ∙ drop-length ws in
    record {
      i≤ = omega arith;
      all = e;
      room = h;
      firsts = f ∙ firsts-none end end 0 k ∙ ap (λ (r : List Went). firsts_from end end r 0 k) (sym q);
      nexts = sym (ap (λ (r : List Went). take end d ++ (nexts_from end k end r ++ drop end d)) q ∙ ap (λ (r : List ℕ). take end d ++ (r ++ drop end d)) (nexts-none end k end) ∙ take-append-drop end d);
    }

module _ {ws : List Went} {end k i : ℕ} {d fs ns : List ℕ} (h : ChainInv ws end k d fs ns i) where
  pub chain-firsts : length fs ≡ k
  chain-firsts = ap length h.firsts ∙ firsts-length end i (drop i ws) 0 k

  pub chain-nexts : length ns ≡ length d
  chain-nexts =
      ap length h.nexts
      ∙ omega (arith, length-append (take i d) (nexts_from end k i (drop i ws) ++ drop end d), length-append (nexts_from end k i (drop i ws)) (drop end d), nexts-length end k i (drop i ws), length-take i d, length-drop i ws, length-drop end d, h.i≤, h.all, h.room)

  pub chain-end : {l : ℕ} → k ≡ l → i ≤ 0 → (fs ≡ firsts_from end 0 ws 0 l) × (ns ≡ at_front (nexts_from end l 0 ws) d)
  chain-end {l} v z =
      let q : i ≡ 0 = omega arith in
      let n : end ≡ length (nexts_from end k 0 ws) = h.all ∙ sym (nexts-length end k 0 ws) in
      (h.firsts ∙ ap (λ (j : ℕ). firsts_from end j (drop j ws) 0 k) q ∙ ap (firsts_from end 0 ws 0) v, h.nexts ∙ ap (λ (j : ℕ). take j d ++ (nexts_from end k j (drop j ws) ++ drop end d)) q ∙ ap (λ (j : ℕ). nexts_from end k 0 ws ++ drop j d) n ∙ ap (λ (j : ℕ). at_front (nexts_from end j 0 ws) d) v)

-- line i is linked
pub chain-on : {ws : List Went} {end k : ℕ} {d fs ns : List ℕ} (i j : ℕ) → ChainInv ws end k d fs ns j → j ≡ suc i → (w : Went) → w ≡ get_or ws i Away → (x : ℕ) (gs : List ℕ) → x ≡ next_in end fs w → gs ≡ first_in i fs w → ChainInv ws end k d gs (set ns i x) i
chain-on {ws} {end} {k} {d} {fs} {ns} i j h e w q x gs a b = record {
  i≤ = omega (arith, h.i≤);
  all = h.all;
  room = h.room;
  firsts = b ∙ ap (λ (t : List ℕ). first_in i t w) below ∙ firsts-in end i w (drop (suc i) ws) k ∙ ap (λ (r : List Went). firsts_from end i r 0 k) (sym here);
  nexts =
      ap (λ (t : List ℕ). set t i x) around
      ∙ ap (λ (n : ℕ). set (take i d ++ (get_or d i 0 ∷ after)) n x) (sym front)
      ∙ set-append_seam (take i d) (get_or d i 0) after x
      ∙ ap (λ (y : ℕ). take i d ++ ((y ∷ nexts_from end k (suc i) (drop (suc i) ws)) ++ drop end d)) (a ∙ ap (λ (t : List ℕ). next_in end t w) below)
      ∙ ap (λ (r : List ℕ). take i d ++ (r ++ drop end d)) (sym (nexts-more end k i w (drop (suc i) ws)) ∙ ap (nexts_from end k i) (sym here));
}
  where
    below : fs ≡ firsts_from end (suc i) (drop (suc i) ws) 0 k
    below = h.firsts ∙ ap (λ (n : ℕ). firsts_from end n (drop n ws) 0 k) e

    here : drop i ws ≡ w ∷ drop (suc i) ws
    here = drop-cons ws i Away (omega (arith, h.i≤, h.all)) ∙ ap (λ (y : Went). y ∷ drop (suc i) ws) (sym q)

    front : length (take i d) ≡ i
    front = length-take-le i d (omega (arith, h.i≤, h.room))

    after : List ℕ
    after = nexts_from end k (suc i) (drop (suc i) ws) ++ drop end d

    around : ns ≡ take i d ++ (get_or d i 0 ∷ after)
    around =
        h.nexts
        ∙ ap (λ (n : ℕ). take n d ++ (nexts_from end k n (drop n ws) ++ drop end d)) e
        ∙ ap (λ (r : List ℕ). r ++ after) (take-suc d i 0 (omega (arith, h.i≤, h.room)))
        ∙ append_assoc (take i d) (get_or d i 0 ∷ []) after

-- ---- the answer

module _ (ws : List Went) (fs d : List ℕ) (m : ℕ) (a : m ≡ length ws) where
  pub chains-short : length d < m → (Err (NoRoom m) ≡ chains_reply (roomed_chains (length fs) ws (length d))) × ((fs ≡ firsts_after (roomed_chains (length fs) ws (length d)) fs) × (d ≡ nexts_after (roomed_chains (length fs) ws (length d)) d))
  chains-short h = rw (lt-ltb (length d) (length ws) (omega arith)) (ap (λ (n : ℕ). Err (NoRoom n)) a, (refl, refl))

  pub chains-found : m ≤ length d → (gs ns : List ℕ) → gs ≡ firsts_from m 0 ws 0 (length fs) → ns ≡ at_front (nexts_from m (length fs) 0 ws) d →
      (Ok m ≡ chains_reply (roomed_chains (length fs) ws (length d))) × ((gs ≡ firsts_after (roomed_chains (length fs) ws (length d)) fs) × (ns ≡ nexts_after (roomed_chains (length fs) ws (length d)) d))
  chains-found h gs ns p q =
      rw (le-ltb (length d) (length ws) (omega arith)) (ap Ok (a ∙ sym (nexts-length (length ws) (length fs) 0 ws)), (p ∙ ap (λ (n : ℕ). firsts_from n 0 ws 0 (length fs)) a, q ∙ ap (λ (n : ℕ). at_front (nexts_from n (length fs) 0 ws) d) a))

module _ (F : Shape) (s fs d : List ℕ) (y : Reply) (h : y ≡ check_reply (read_file F s)) where
  pub chains-refused : is_fine y ≡ false →
      (y ≡ chains_reply (chains_for F s (length fs) (length d))) × ((fs ≡ firsts_after (chains_for F s (length fs) (length d)) fs) × (d ≡ nexts_after (chains_for F s (length fs) (length d)) d))
  unfolding chains_for
  chains-refused f = go (read_file F s) refl h
    where
      go : (r : Said) → read_file F s ≡ r → y ≡ check_reply r →
          (y ≡ chains_reply (chains_by (length fs) (length d) r)) × ((fs ≡ firsts_after (chains_by (length fs) (length d) r) fs) × (d ≡ nexts_after (chains_by (length fs) (length d) r) d))
      go (says ws) e z = no (sym f ∙ ap is_fine z)
      go (wrong c j) e z = (z ∙ passed F s c j e, (refl, refl))

pub chains-for : (F : Shape) (s : List ℕ) (x : Reply) (m k room : ℕ) → x ≡ check_reply (read_file F s) → x ≡ Ok m → roomed_chains k (wents_in F s) room ≡ chains_for F s k room
unfolding chains_for
chains-for F s x m k room h e = rw (fine-says F s m (sym e ∙ h)).0

-- ---- a chain has the lines behind its output line

firsts_at : (end i : ℕ) (ws : List Went) (n j m : ℕ) → j < m → get_or (firsts_from end i ws n m) j end ≡ first_or end (behind_from (n + j) i ws)
unfolding firsts_from
firsts_at end i ws n j zero h = absurd (omega arith)
firsts_at end i ws n zero (suc m) h = ap (λ (q : ℕ). first_or end (behind_from q i ws)) (sym (add-zero n))
firsts_at end i ws n (suc j) (suc m) h = let e : suc n + j ≡ n + suc j = omega arith in firsts_at end i ws (suc n) j m (omega arith) ∙ ap (λ (q : ℕ). first_or end (behind_from q i ws)) e

-- the next line of a line that is in output line n
next-at : (end i : ℕ) (w : Went) (ws : List Went) (n m : ℕ) → n < m → is_in n w ≡ true → next_in end (firsts_from end i ws 0 m) w ≡ first_or end (behind_from n i ws)
next-at end i w ws n m h b = go w b
  where
    at : (p : ℕ) → eqb p n ≡ true → get_or (firsts_from end i ws 0 m) p end ≡ first_or end (behind_from n i ws)
    at p e = let q : 0 + n ≡ n = omega arith in ap (λ (l : ℕ). get_or (firsts_from end i ws 0 m) l end) (eqb-true p n e) ∙ firsts_at end i ws 0 n m h ∙ ap (λ (l : ℕ). first_or end (behind_from l i ws)) q

    go : (v : Went) → is_in n v ≡ true → next_in end (firsts_from end i ws 0 m) v ≡ first_or end (behind_from n i ws)
    go (Equal p) e = at p e
    go (Changed p) e = at p e
    go (Inside p) e = at p e
    go Away e = no e

pub along-none : (end k i : ℕ) (ns : List ℕ) → end ≤ i → along end ns k i ≡ []
unfolding along
along-none end zero i ns h = refl
along-none end (suc k) i ns h = rw (le-ltb i end h)

pub along-zero : (end i : ℕ) (ns : List ℕ) → along end ns 0 i ≡ []
unfolding along
along-zero end i ns = refl

pub along-some : (end k i : ℕ) (ns : List ℕ) → i < end → along end ns (suc k) i ≡ i ∷ along end ns k (get_or ns i end)
unfolding along
along-some end k i ns h = rw (lt-ltb i end h)

none-behind : (n i : ℕ) → behind_from n i [] ≡ []
unfolding behind_from
none-behind n i = refl

along-from : (end m n : ℕ) → n < m → (ns : List ℕ) (ws : List Went) (i k : ℕ) → i + length ws ≡ end → drop i ns ≡ nexts_from end m i ws → i + length ws ≤ length ns → length ws ≤ k →
    along end ns k (first_or end (behind_from n i ws)) ≡ behind_from n i ws
along-from end m n h ns [] i k e d l b = ap (λ (r : List ℕ). along end ns k (first_or end r)) (none-behind n i) ∙ along-none end k end ns (omega arith) ∙ sym (none-behind n i)
along-from end m n h ns (w ∷ ws) i zero e d l b = absurd (omega arith)
along-from end m n h ns (w ∷ ws) i (suc k) e d l b =
    go (is_in n w) refl
    (along-from end m n h ns ws (suc i) k (omega arith) tail (omega arith) (omega arith))
    (along-from end m n h ns ws (suc i) (suc k) (omega arith) tail (omega arith) (omega arith))
  where
    cut : get_or ns i end ∷ drop (suc i) ns ≡ next_in end (firsts_from end (suc i) ws 0 m) w ∷ nexts_from end m (suc i) ws
    cut = sym (drop-cons ns i end (omega arith)) ∙ d ∙ nexts-more end m i w ws

    head : get_or ns i end ≡ next_in end (firsts_from end (suc i) ws 0 m) w
    head = ap (λ (r : List ℕ). get_or r 0 0) cut

    tail : drop (suc i) ns ≡ nexts_from end m (suc i) ws
    tail = ap (drop 1) cut

    go : (b : Bool) → is_in n w ≡ b → along end ns k (first_or end (behind_from n (suc i) ws)) ≡ behind_from n (suc i) ws → along end ns (suc k) (first_or end (behind_from n (suc i) ws)) ≡ behind_from n (suc i) ws →
        along end ns (suc k) (first_or end (behind_from n i (w ∷ ws))) ≡ behind_from n i (w ∷ ws)
    go true q u v =
        ap (λ (r : List ℕ). along end ns (suc k) (first_or end r)) (behind-here n i w ws q)
        ∙ along-some end k i ns (omega arith)
        ∙ ap (λ (j : ℕ). i ∷ along end ns k j) (head ∙ next-at end (suc i) w ws n m h q)
        ∙ ap (λ (r : List ℕ). i ∷ r) u
        ∙ sym (behind-here n i w ws q)
    go false q u v =
        ap (λ (r : List ℕ). along end ns (suc k) (first_or end r)) (behind-other n i w ws q)
        ∙ v
        ∙ sym (behind-other n i w ws q)

-- The chain of an output line that was asked for has the lines behind it, all of them and no other, ascending
pub chain-behind : (ws : List Went) (m n : ℕ) → n < m → along (length ws) (nexts_from (length ws) m 0 ws) (length ws) (get_or (firsts_from (length ws) 0 ws 0 m) n (length ws)) ≡ behind n ws
unfolding behind
chain-behind ws m n h =
    let q : 0 + n ≡ n = omega arith in
    let z = nexts-length (length ws) m 0 ws in
    ap (along (length ws) (nexts_from (length ws) m 0 ws) (length ws)) (firsts_at (length ws) 0 ws 0 n m h ∙ ap (λ (l : ℕ). first_or (length ws) (behind_from l 0 ws)) q)
    ∙ along-from (length ws) m n h (nexts_from (length ws) m 0 ws) ws 0 (length ws) (omega arith) refl (omega arith) (omega arith)
