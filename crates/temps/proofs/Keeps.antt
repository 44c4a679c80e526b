-- What `prune_dead_temps` keeps: no LF comes in, the weight is not raised, and a line goes only for its reason. Assumes nothing.
use Rattle.std.proofs.Common.{◌≡◌, ℕ, ◌≤◌, Bool, true, false, cond, not, ◌&&◌, List, [], ◌∷◌, ◌++◌, sym, refl, ap}
use Rattle.lines.specs.Lf.{unlines, lines_of, all}
use Rattle.lines.specs.Inner.Lf.{no_lf}
use Rattle.lines.specs.Acts.{keep, gone, act, apply}
use Rattle.lines.proofs.Tests.{and_left, and_right}
use Rattle.lines.proofs.LfLaws.{lines-no_lf, lines-unlines}
use Rattle.lines.proofs.ActLaws.{act_no_lf, apply-no_lf}
use Rattle.text.specs.Trim.{trim_of}
use Rattle.names.specs.Names.{is_temp}
use Rattle.weight.specs.Inner.Weight.{weight}
use Rattle.weight.proofs.Moves.{Fits, ended, kept, dropped, fits-weight}
use Rattle.reading.specs.Reading.{Reading, pure_in}
use Rattle.reading.specs.Assign.{is_assign, left_of, right_of}
use Rattle.temps.specs.Temps.{declared_in, temp_read, dead_temp, temp_act, temp_acts, prune_dead_temps_acts, prune_dead_temps}
use Rattle.temps.specs.Inner.Scratch.{temp_goes}

-- a line goes or stays, and nothing else
pub temp-act : (R : Reading) (ls : List (List ℕ)) (l : List ℕ) → temp_act R ls l ≡ cond (temp_goes R ls l) gone keep
unfolding temp_act temp_goes
temp-act R ls l = refl

-- ---- no LF comes in

acts-no_lf : (R : Reading) (ls ms : List (List ℕ)) → all act_no_lf (temp_acts R ls ms) ≡ true
unfolding temp_acts
acts-no_lf R ls [] = refl
acts-no_lf R ls (m ∷ ms) = rw (temp-act R ls m) (go (temp_goes R ls m) (acts-no_lf R ls ms))
  where
    go : (b : Bool) → all act_no_lf (temp_acts R ls ms) ≡ true → act_no_lf (cond b gone keep) && all act_no_lf (temp_acts R ls ms) ≡ true
    go true h = h
    go false h = h

pub temps-no_lf : (R : Reading) (ls : List (List ℕ)) → no_lf ls ≡ true → no_lf (prune_dead_temps R ls) ≡ true
unfolding prune_dead_temps prune_dead_temps_acts
temps-no_lf R ls h = apply-no_lf (temp_acts R ls ls) ls (acts-no_lf R ls ls) h

-- what is written is read back as the lines that it is
pub temps-lines : (R : Reading) (t : List ℕ) → lines_of (unlines (prune_dead_temps R (lines_of t))) ≡ prune_dead_temps R (lines_of t)
temps-lines R t = lines-unlines (prune_dead_temps R (lines_of t)) (temps-no_lf R (lines_of t) (lines-no_lf t))

-- ---- the weight is not raised, whatever a `{` weighs

acts-fit : (H : ℕ) (R : Reading) (ls ms : List (List ℕ)) → Fits H [] (temp_acts R ls ms) ms
unfolding temp_acts
acts-fit H R ls [] = ended
acts-fit H R ls (m ∷ ms) = rw (temp-act R ls m) (go (temp_goes R ls m) (acts-fit H R ls ms))
  where
    go : (b : Bool) → Fits H [] (temp_acts R ls ms) ms → Fits H [] (cond b gone keep ∷ temp_acts R ls ms) (m ∷ ms)
    go true f = dropped f
    go false f = kept f

pub temps-weight : (H : ℕ) (R : Reading) (ls : List (List ℕ)) → weight H (unlines (prune_dead_temps R ls)) ≤ weight H (unlines ls)
unfolding prune_dead_temps prune_dead_temps_acts
temps-weight H R ls = fits-weight (acts-fit H R ls ls)

-- ---- nothing is lost unsaid

-- the lines that do not pass a test
unfoldable pub without : (List ℕ → Bool) → List (List ℕ) → List (List ℕ)
without f [] = []
without f (l ∷ ls) = cond (f l) (without f ls) (l ∷ without f ls)

without-acts : (R : Reading) (ls ms : List (List ℕ)) → apply (temp_acts R ls ms) ms ≡ without (temp_goes R ls) ms
unfolding temp_acts apply act without
without-acts R ls [] = refl
without-acts R ls (m ∷ ms) = rw (temp-act R ls m) (go (temp_goes R ls m) (without-acts R ls ms))
  where
    go : (b : Bool) → apply (temp_acts R ls ms) ms ≡ without (temp_goes R ls) ms →
        act (cond b gone keep) m ++ apply (temp_acts R ls ms) ms ≡ cond b (without (temp_goes R ls) ms) (m ∷ without (temp_goes R ls) ms)
    go true h = h
    go false h = ap (λ (r : List (List ℕ)). m ∷ r) h

-- the lines that stay are those that do not go, each as it was
pub temps-without : (R : Reading) (ls : List (List ℕ)) → prune_dead_temps R ls ≡ without (temp_goes R ls) ls
unfolding prune_dead_temps prune_dead_temps_acts
temps-without R ls = without-acts R ls ls

-- the reason for which a line of the text ls goes: it is a store of a temp that some line declares and none reads, and its value is pure
pub record Dead (R : Reading) (ls : List (List ℕ)) (l : List ℕ) : Type 0 where
  pub assigns : is_assign (trim_of l) ≡ true
  pub temp : is_temp (left_of (trim_of l)) ≡ true
  pub declared : declared_in (left_of (trim_of l)) ls ≡ true
  pub unread : temp_read (left_of (trim_of l)) ls ≡ false
  pub pure : pure_in R (right_of (trim_of l)) ≡ true

never-read : (b : Bool) → not b ≡ true → b ≡ false
never-read true h = sym h
never-read false h = refl

pub goes-dead : (R : Reading) (ls : List (List ℕ)) (l : List ℕ) → temp_goes R ls l ≡ true → Dead R ls l
unfolding temp_goes
goes-dead R ls l h =
    let t : List ℕ = trim_of l in
    let x : List ℕ = left_of t in
    let v : Bool = pure_in R (right_of t) in
    let more = and_right (is_assign t) (dead_temp x ls && v) h in
    let dead = and_left (dead_temp x ls) v more in
    let found = and_right (is_temp x) (declared_in x ls && not (temp_read x ls)) dead in
    record {
      assigns = and_left (is_assign t) (dead_temp x ls && v) h;
      temp = and_left (is_temp x) (declared_in x ls && not (temp_read x ls)) dead;
      declared = and_left (declared_in x ls) (not (temp_read x ls)) found;
      unread = never-read (temp_read x ls) (and_right (declared_in x ls) (not (temp_read x ls)) found);
      pure = and_right (dead_temp x ls) v more;
    }

-- and a line with that reason goes
pub dead_goes : (R : Reading) (ls : List (List ℕ)) (l : List ℕ) → Dead R ls l → temp_goes R ls l ≡ true
unfolding temp_goes
dead_goes R ls l d = rw (d.assigns, d.temp, d.declared, d.unread, d.pure)
