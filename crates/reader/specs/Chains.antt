-- Request 7: the lines behind every output line, as chains: for each output line the first of them, for each line the next of the same output line. Assumes
-- nothing.
use Rattle.std.specs.Prelude.{ℕ, zero, suc, cond, List, [], ◌∷◌, length, get_or, set, eqb, ltb}
use Rattle.origins.specs.declared.Went.{Went}
use Rattle.origins.specs.declared.Went.TheVariants.{Equal, Changed, Inside, Away}
use Rattle.origins.specs.Form.{Shape}
use Rattle.origins.specs.Read.{Said, says, wrong, read_file}
use Rattle.origins.specs.Answers.{behind_from}
use Rattle.reader.specs.declared.Refusal.TheVariants.{NoRoom}
use Rattle.std.specs.declared.result.Result.TheVariants.{Ok, Err}
use Rattle.reader.specs.Replies.{Reply, refusal, at_front}

-- the first of lines; `end` where there are none
abbrev pub first_or : ℕ → List ℕ → ℕ
first_or end [] = end
first_or end (i ∷ more) = i

-- for each of m output lines from n on, the first line behind it, of the lines from i on
unfoldable pub firsts_from : ℕ → ℕ → List Went → ℕ → ℕ → List ℕ
unfolding behind_from
firsts_from end i ws n zero = []
firsts_from end i ws n (suc m) = first_or end (behind_from n i ws) ∷ firsts_from end i ws (suc n) m

-- the first line of the same output line, of those below, where t has their firsts
abbrev pub next_in : ℕ → List ℕ → Went → ℕ
next_in end t (Equal n) = get_or t n end
next_in end t (Changed n) = get_or t n end
next_in end t (Inside n) = get_or t n end
next_in end t Away = end

-- firsts with line i in front, of which w is said
abbrev pub first_in : ℕ → List ℕ → Went → List ℕ
first_in i t (Equal n) = set t n i
first_in i t (Changed n) = set t n i
first_in i t (Inside n) = set t n i
first_in i t Away = t

-- for each line from i on, the next line of the same output line; of an output line from m on, and of a line that is gone, `end`
unfoldable pub nexts_from : ℕ → ℕ → ℕ → List Went → List ℕ
unfolding firsts_from
nexts_from end m i [] = []
nexts_from end m i (w ∷ ws) = next_in end (firsts_from end (suc i) ws 0 m) w ∷ nexts_from end m (suc i) ws

-- what is answered for m output lines: firsts and nexts, or a refusal by its number and place
pub data Chains : Type 0 where
  chained : List ℕ → List ℕ → Chains
  unchained : ℕ → ℕ → Chains

-- 6: the room for a number a line is too short. No line has the number of all lines: it says that there is none
abbrev pub roomed_chains : ℕ → List Went → ℕ → Chains
roomed_chains m ws room = cond (ltb room (length ws)) (unchained 6 (length ws)) (chained (firsts_from (length ws) 0 ws 0 m) (nexts_from (length ws) m 0 ws))

abbrev pub chains_by : ℕ → ℕ → Said → Chains
chains_by m room (says ws) = roomed_chains m ws room
chains_by m room (wrong c i) = unchained c i

-- asked for the output lines below m, of a file s, with room for so many lines
unfoldable pub chains_for : Shape → List ℕ → ℕ → ℕ → Chains
unfolding firsts_from nexts_from
chains_for F s m room = chains_by m room (read_file F s)

-- how many lines there are
abbrev pub chains_reply : Chains → Reply
chains_reply (chained fs ns) = Ok (length ns)
chains_reply (unchained c i) = cond (eqb c 6) (Err (NoRoom i)) (refusal c i)

-- what stands in the two tables afterwards
abbrev pub firsts_after : Chains → List ℕ → List ℕ
firsts_after (chained fs ns) d = fs
firsts_after (unchained c i) d = d

abbrev pub nexts_after : Chains → List ℕ → List ℕ
nexts_after (chained fs ns) d = at_front ns d
nexts_after (unchained c i) d = d

-- the lines of a chain from line i on, by the nexts ns of `end` lines; k bounds their number
unfoldable pub along : ℕ → List ℕ → ℕ → ℕ → List ℕ
along end ns zero i = []
along end ns (suc k) i = cond (ltb i end) (i ∷ along end ns k (get_or ns i end)) []
