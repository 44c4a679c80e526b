-- The places at which a reading may stand, a byte for each, 1 where one does: taken on by one pruned line. Assumes nothing.
use Rattle.std.specs.Prelude.{ℕ, suc, ◌+◌, ◌-◌, ◌≤◌, ◌<◌, min, ◌≡◌, Bool, true, cond, ◌&&◌, ◌||◌, List, [], ◌∷◌, ◌++◌, eqb, length, take, drop, get_or}
use Prim.Native.Char.{code}
use Rattle.lines.specs.Lf.{part, up_to, lines_of}
use Rattle.pruned.specs.Inner.Fit.{may_be_by, may_go_by}

abbrev pub is_on : ℕ → Bool
is_on x = eqb x 1

abbrev pub bit : Bool → ℕ
bit b = cond b 1 0

-- the new flag of the place behind a line, by the old and the new one of the place before it
abbrev pub next_flag : Bool → Bool → List ℕ → List ℕ → List ℕ → Bool
next_flag was up l ms p = (was && may_be_by l ms p) || (up && may_go_by l ms)

-- the bytes of the places behind lines; ms are the marks of these
unfoldable pub move_go : Bool → Bool → List ℕ → List (List ℕ) → List ℕ → List ℕ → List ℕ
move_go was up [] ls ms p = []
move_go was up (b ∷ bs) [] ms p = b ∷ bs
move_go was up (b ∷ bs) (l ∷ ls) ms p =
    bit (next_flag was up l (take (length l) ms) p)
    ∷ move_go (is_on b) (next_flag was up l (take (length l) ms) p) bs ls (drop (suc (length l)) ms) p

-- all bytes, where the walk comes to the place k with the line that starts at i: what stands before k is as it was
abbrev pub moved_from : Bool → Bool → ℕ → ℕ → List ℕ → List ℕ → List ℕ → List ℕ → List ℕ
moved_from was up k i live raw used p = take k live ++ move_go was up (drop k live) (lines_of (drop i raw)) (drop i used) p

-- no reading stands at n or above
abbrev pub OffFrom : ℕ → List ℕ → Type 0
OffFrom n live = (x : ℕ) → n ≤ x → get_or live x 0 ≡ 0

-- ---- a stretch of lines that may all go

-- where the line at i ends, and where the next one starts
abbrev pub end_of : List ℕ → ℕ → ℕ
end_of raw i = i + up_to (code "\n") (drop i raw)

abbrev pub next_of : List ℕ → ℕ → ℕ
next_of raw i = min (end_of raw i + 1) (length raw)

-- the line at i may go
abbrev pub goes_at : List ℕ → List ℕ → ℕ → Bool
goes_at raw used i = may_go_by (part i (end_of raw i) raw) (part i (end_of raw i) used)

-- n lines from i on may go, and the line behind them starts at j
pub data Going (raw used : List ℕ) : ℕ → ℕ → ℕ → Type 0 where
  going-none : (i : ℕ) → Going raw used 0 i i
  going_more : (n i j : ℕ) → i < length raw → goes_at raw used i ≡ true → Going raw used n (next_of raw i) j → Going raw used (suc n) i j

-- readings stand at all places from a to b
abbrev pub AllOn : ℕ → ℕ → List ℕ → Type 0
AllOn a b live = (x : ℕ) → a ≤ x → x ≤ b → get_or live x 0 ≡ 1

-- where one stands at a place from a up to b, one stands at the next place too
abbrev pub Steady : ℕ → ℕ → List ℕ → Type 0
Steady a b live = (x : ℕ) → a ≤ x → x < b → get_or live x 0 ≡ 1 → get_or live (suc x) 0 ≡ 1

-- the lines from the place lo, which starts at i, up to the place stop, which starts at j, may go
abbrev pub Known : List ℕ → List ℕ → ℕ → ℕ → ℕ → ℕ → List ℕ → Type 0
Known raw used lo i stop j live = (stop < length live) × (Going raw used (stop - lo) i j × Steady lo stop live)
