-- Laws of the buffers that are wiped at the end, and of the tables as they are lent. Assumes nothing.
use Prim.Native.Nat.{ℕ, ◌+◌, ◌-◌, ◌≤◌}
use mathlib.Core.Path.{◌≡◌, sym, ap, subst, ◌∙◌}
use mathlib.Core.Bool.{true, false}
use mathlib.Core.List.{List, [], ◌∷◌, ◌++◌}
use native.Mathlib.Omega.{arith}
use lib.ListN.{length, take, drop, replicate, length-append, length-replicate}
use lib.Seq.{length-take-le}
use Rattle.lines.specs.Lf.{part, lines_of, unlines, ends_in}
use Rattle.lines.specs.Inner.Out.{put_at, Wrote}
use Rattle.lines.proofs.StepLaws.{missing_lf, missing-ended, missing-empty, missing-open, lines-text}
use Rattle.lexical.specs.Joined.{rests_in}
use Rattle.place.specs.Blocks.{cleaned}
use Rattle.place.specs.Inner.Blocks.{block_ids}
use Rattle.place.specs.Starts.{starts_go}
use Rattle.place.specs.Inner.Fill.{Filled, flags_of}
use Rattle.place.proofs.Fills.{filled-take, filled-length}
use Rattle.records.proofs.Filled.{FilledBy, block-count, start-count}
use Rattle.reading.specs.Reading.{strict_at, joined_at, reading_of}
use Rattle.calls.specs.LeavesOf.{leaves_of}
use Rattle.calls.specs.Calls.{rebuild_calls_acts, rebuild_calls}
use Rattle.calls.specs.Inner.Tables.{tabled, Placed, Rebuilt}
use Rattle.calls.proofs.Tabled.{tabled-acts, tabled-is}

-- ---- the tables

-- as `place::place_lines` fills them, in a mode
module _ (mode : ℕ) (t : List ℕ) {b₀ b s₀ s u₀ u : List ℕ} {r : ℕ} (f : FilledBy (joined_at mode) t b₀ b s₀ s u₀ u r) where
  pub placed_by : length (lines_of t) ≤ length b₀ → length (lines_of t) ≤ length s₀ → Placed t b s
  placed_by h k = record {
    blocks-many = omega (arith, filled-length f.0 (omega (arith, block-count (joined_at mode) (lines_of t))), h);
    starts-many = omega (arith, filled-length f.1.0 (omega (arith, start-count (joined_at mode) (lines_of t))), k);
  }

  row_count : r ≡ length (lines_of t)
  row_count = f.0.place ∙ block-count (joined_at mode) (lines_of t)

  blocks-are : take (length (lines_of t)) b ≡ block_ids (rests_in (joined_at mode) (lines_of t))
  blocks-are = ap (λ (x : ℕ). take x b) (sym row_count) ∙ filled-take f.0

  starts-are : take (length (lines_of t)) s ≡ flags_of (starts_go (cleaned (rests_in (joined_at mode) (lines_of t))) true)
  starts-are = ap (λ (x : ℕ). take x s) (sym row_count) ∙ filled-take f.1.0

  -- what is rebuilt by them is what the mode rebuilds
  pub acts-by : rebuild_calls_acts (tabled b s) (lines_of t) ≡ rebuild_calls_acts (leaves_of (reading_of mode)) (lines_of t)
  acts-by = tabled-acts (strict_at mode) (joined_at mode) (lines_of t) b s blocks-are starts-are

  pub lines-by : rebuild_calls (tabled b s) (lines_of t) ≡ rebuild_calls (leaves_of (reading_of mode)) (lines_of t)
  lines-by = tabled-is (strict_at mode) (joined_at mode) (lines_of t) b s blocks-are starts-are

pub filled_at : {d xs d' : List ℕ} {r n : ℕ} → Filled d xs d' r → length xs ≡ n → Filled d xs d' n
filled_at f e = record { place = sym e; holds = f.holds }

-- ---- the stack at the end

-- its lines, cut out of it
pub rebuilt-text : {t bs fs owner owner' stack : List ℕ} {r : ℕ} → Rebuilt t bs fs owner owner' stack r → (x : List ℕ) → x ≡ part 0 r stack → x ≡ unlines (rebuild_calls (tabled bs fs) (lines_of t))
rebuilt-text {stack = stack} {r = r} b x e = let z : r - 0 ≡ r = omega arith in e ∙ ap (λ (k : ℕ). take k stack) z ∙ b.lines

-- the front of a buffer, wiped
pub front-wiped : (d e : List ℕ) (n : ℕ) → n ≤ length d → e ≡ replicate (length (take n d)) 0 → Wrote d 0 (replicate n 0) (e ++ drop n d) n
unfolding put_at
front-wiped d e n h q =
    let z : List ℕ = replicate n 0 in
    let l : length z ≡ n = length-replicate n 0 in
    let k : 0 + length z ≡ n = omega arith in
    record {
      fits = omega arith;
      place = sym k;
      holds = ap (λ (x : List ℕ). x ++ drop n d) (q ∙ ap (λ (j : ℕ). replicate j 0) (length-take-le n d h)) ∙ ap (λ (j : ℕ). replicate n 0 ++ drop j d) (sym k);
    }

-- so where the number of its bytes is given by another
pub whole-wiped : (d e : List ℕ) {m n : ℕ} → m ≡ n → m ≤ length d → e ≡ replicate (length (take m d)) 0 → Wrote d 0 (replicate n 0) (e ++ drop m d) n
whole-wiped d e {m} q h z = subst (λ (k : ℕ). Wrote d 0 (replicate k 0) (e ++ drop m d) k) q (front-wiped d e m h z)

-- ---- the bytes of a text, with the LF that its last line may lack

module _ (t : List ℕ) where
  size-by : (m : List ℕ) → missing_lf t ≡ m → length t + length m ≡ length (unlines (lines_of t))
  size-by m e = sym (ap length (lines-text t) ∙ length-append t (missing_lf t) ∙ ap (λ (x : List ℕ). length t + length x) e)

  pub size-ended : ends_in 10 t ≡ true → length t ≡ length (unlines (lines_of t))
  size-ended e = omega (arith, size-by [] (missing-ended t e))

  pub size-empty : length t ≡ 0 → length t ≡ length (unlines (lines_of t))
  size-empty e = omega (arith, size-by [] (missing-empty t e))

  pub size-open : ends_in 10 t ≡ false → (length t ≡ 0 → ⊥) → length t + 1 ≡ length (unlines (lines_of t))
  size-open e n = size-by (10 ∷ []) (missing-open t e n)
