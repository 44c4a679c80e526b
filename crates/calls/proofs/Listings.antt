-- Small listings over toy leaves: a line is a list of words, and a word is a number. Assumes nothing.
-- 0 v ..: a store of register v; 100 + v: a read of it; 1: `(`; 2: `new`; 3: `++`; 7: a braceless control header; 8: `if (`; 9: a region's header;
-- 30, 31: the parentheses that paren adds; 4, 5: braces.
use Prim.Native.Nat.{ℕ, zero, suc, ◌+◌}
use mathlib.Core.Path.{◌≡◌, refl}
use mathlib.Core.Bool.{Bool, true, false, cond, not}
use mathlib.Core.List.{List, [], ◌∷◌, ◌++◌}
use lib.Dec.{eqb}
use lib.ListN.{length}
use Rattle.lines.specs.Acts.{Act, become, into}
use Rattle.calls.specs.Leaves.{Leaves, Parsed, store, other, Context, unclear, target, newed, operand}
use Rattle.calls.specs.Calls.{rebuild_calls_acts, rebuild_calls}

-- how often a word stands in a line
unfoldable pub count : ℕ → List ℕ → ℕ
count w [] = 0
count w (x ∷ xs) = cond (eqb x w) 1 0 + count w xs

-- a word stands first
unfoldable pub leads : ℕ → List ℕ → Bool
leads w [] = false
leads w (x ∷ xs) = eqb x w

-- a store, or not
unfoldable pub parse : List ℕ → Parsed
parse [] = other
parse (x ∷ []) = other
parse (x ∷ v ∷ value) = cond (eqb x 0) (store v value) other

-- how often a line reads a register
unfoldable pub reads_by : ℕ → List ℕ → Parsed → ℕ
unfolding count
reads_by v l (store w value) = count (100 + v) value
reads_by v l other = count (100 + v) l

-- a store of what the value reads
unfoldable pub breaks_by : List ℕ → Parsed → Bool
unfolding count
breaks_by value (store w x) = not (eqb (count (100 + w) value) 0)
breaks_by value other = false

-- the line above is no braceless control header
unfoldable pub starts_toy : List (List ℕ) → Bool
unfolding leads
starts_toy [] = true
starts_toy (l ∷ ls) = not (leads 7 l)

-- a text in the place of a word
unfoldable pub swap : ℕ → List ℕ → List ℕ → List ℕ
swap w x [] = []
swap w x (y ∷ ys) = cond (eqb y w) x (y ∷ []) ++ swap w x ys

-- what stands before and after the register
unfoldable pub context_at : ℕ → ℕ → List ℕ → Context
context_at w prev [] = unclear
context_at w prev (y ∷ ys) = cond (eqb y w) (cond (leads 3 ys) target (cond (eqb prev 2) newed operand)) (context_at w y ys)

-- parentheses after `new` alone
unfoldable pub paren_toy : List ℕ → Bool → List ℕ
paren_toy value true = (30 ∷ []) ++ value ++ (31 ∷ [])
paren_toy value false = value

-- a block for each line
unfoldable pub blocks_go : ℕ → List (List ℕ) → List ℕ
unfolding count
blocks_go n [] = []
blocks_go n (l ∷ ls) = n ∷ blocks_go (n + count 4 l) ls

-- the leaves
unfoldable pub toy : Leaves
unfolding count leads parse reads_by breaks_by starts_toy swap context_at paren_toy blocks_go
toy =
    record {
      call = λ l. not (eqb (count 1 l) 0);
      control = leads 8;
      header = leads 9;
      starts = starts_toy;
      parse = parse;
      reads = λ v l. reads_by v l (parse l);
      breaks = λ value l. breaks_by value (parse l);
      context = λ l v. context_at (100 + v) 0 l;
      paren = paren_toy;
      replace = λ l v x. swap (100 + v) x l ∷ [];
      blocks = blocks_go 0;
    }

-- the lines that are left
abbrev pub tidied : List (List ℕ) → List (List ℕ)
tidied = rebuild_calls toy

-- what becomes of each line
abbrev pub decided : List (List ℕ) → List Act
decided = rebuild_calls_acts toy

-- r2 = console; r3 = greet("world"); r2.log(r3);
pub hello : tidied ((0 ∷ 2 ∷ 50 ∷ []) ∷ (0 ∷ 3 ∷ 1 ∷ 51 ∷ []) ∷ (102 ∷ 1 ∷ 103 ∷ []) ∷ []) ≡ (50 ∷ 1 ∷ 1 ∷ 51 ∷ []) ∷ []
unfolding toy rebuild_calls
hello = refl

pub hello-acts : decided ((0 ∷ 2 ∷ 50 ∷ []) ∷ (0 ∷ 3 ∷ 1 ∷ 51 ∷ []) ∷ (102 ∷ 1 ∷ 103 ∷ []) ∷ []) ≡ into 2 ∷ into 1 ∷ become (50 ∷ 1 ∷ 1 ∷ 51 ∷ []) ∷ []
unfolding toy rebuild_calls_acts
hello-acts = refl

-- r0 = a; r1 = f(r0); r2 = g(r1); h(r2);   each is absorbed by the next: a chain
pub chain : tidied ((0 ∷ 0 ∷ 60 ∷ []) ∷ (0 ∷ 1 ∷ 61 ∷ 1 ∷ 100 ∷ []) ∷ (0 ∷ 2 ∷ 62 ∷ 1 ∷ 101 ∷ []) ∷ (63 ∷ 1 ∷ 102 ∷ []) ∷ []) ≡ (63 ∷ 1 ∷ 62 ∷ 1 ∷ 61 ∷ 1 ∷ 60 ∷ []) ∷ []
unfolding toy rebuild_calls
chain = refl

pub chain-acts : decided ((0 ∷ 0 ∷ 60 ∷ []) ∷ (0 ∷ 1 ∷ 61 ∷ 1 ∷ 100 ∷ []) ∷ (0 ∷ 2 ∷ 62 ∷ 1 ∷ 101 ∷ []) ∷ (63 ∷ 1 ∷ 102 ∷ []) ∷ []) ≡ into 1 ∷ into 1 ∷ into 1 ∷ become (63 ∷ 1 ∷ 62 ∷ 1 ∷ 61 ∷ 1 ∷ 60 ∷ []) ∷ []
unfolding toy rebuild_calls_acts
chain-acts = refl

-- r9 = z; r0 = a; r1 = f(r0); h(r9, r1);   the walk of h steps over r0, whose owner it absorbed, and takes r9
pub over-own : tidied ((0 ∷ 9 ∷ 59 ∷ []) ∷ (0 ∷ 0 ∷ 60 ∷ []) ∷ (0 ∷ 1 ∷ 61 ∷ 1 ∷ 100 ∷ []) ∷ (63 ∷ 1 ∷ 109 ∷ 101 ∷ []) ∷ []) ≡ (63 ∷ 1 ∷ 59 ∷ 61 ∷ 1 ∷ 60 ∷ []) ∷ []
unfolding toy rebuild_calls
over-own = refl

-- r9 = z; r0 = a; r1 = f(r0); r2 = g(r1); h(r9, r2);   r0's owner is r1's line, which h did not absorb itself: the walk ends there
pub over-foreign : tidied ((0 ∷ 9 ∷ 59 ∷ []) ∷ (0 ∷ 0 ∷ 60 ∷ []) ∷ (0 ∷ 1 ∷ 61 ∷ 1 ∷ 100 ∷ []) ∷ (0 ∷ 2 ∷ 62 ∷ 1 ∷ 101 ∷ []) ∷ (63 ∷ 1 ∷ 109 ∷ 102 ∷ []) ∷ []) ≡ (0 ∷ 9 ∷ 59 ∷ []) ∷ (63 ∷ 1 ∷ 109 ∷ 62 ∷ 1 ∷ 61 ∷ 1 ∷ 60 ∷ []) ∷ []
unfolding toy rebuild_calls
over-foreign = refl

-- a later read, a later store that reads itself, and a later store that does not; a header ends the look
pub later : tidied ((0 ∷ 1 ∷ 60 ∷ []) ∷ (63 ∷ 1 ∷ 101 ∷ []) ∷ (64 ∷ 101 ∷ []) ∷ []) ≡ (0 ∷ 1 ∷ 60 ∷ []) ∷ (63 ∷ 1 ∷ 101 ∷ []) ∷ (64 ∷ 101 ∷ []) ∷ []
unfolding toy rebuild_calls
later = refl

pub later-itself : tidied ((0 ∷ 1 ∷ 60 ∷ []) ∷ (63 ∷ 1 ∷ 101 ∷ []) ∷ (0 ∷ 1 ∷ 101 ∷ []) ∷ []) ≡ (0 ∷ 1 ∷ 60 ∷ []) ∷ (63 ∷ 1 ∷ 101 ∷ []) ∷ (0 ∷ 1 ∷ 101 ∷ []) ∷ []
unfolding toy rebuild_calls
later-itself = refl

pub later-over : tidied ((0 ∷ 1 ∷ 60 ∷ []) ∷ (63 ∷ 1 ∷ 101 ∷ []) ∷ (0 ∷ 1 ∷ 65 ∷ []) ∷ (64 ∷ 101 ∷ []) ∷ []) ≡ (63 ∷ 1 ∷ 60 ∷ []) ∷ (0 ∷ 1 ∷ 65 ∷ []) ∷ (64 ∷ 101 ∷ []) ∷ []
unfolding toy rebuild_calls
later-over = refl

pub later-header : tidied ((0 ∷ 1 ∷ 60 ∷ []) ∷ (63 ∷ 1 ∷ 101 ∷ []) ∷ (9 ∷ []) ∷ (64 ∷ 101 ∷ []) ∷ []) ≡ (63 ∷ 1 ∷ 60 ∷ []) ∷ (9 ∷ []) ∷ (64 ∷ 101 ∷ []) ∷ []
unfolding toy rebuild_calls
later-header = refl

-- a header that is a call line takes nothing; an open brace between ends the walk; so does a braceless control header; `++`; `new`
pub header-call : tidied ((0 ∷ 1 ∷ 60 ∷ []) ∷ (9 ∷ 1 ∷ 101 ∷ []) ∷ []) ≡ (0 ∷ 1 ∷ 60 ∷ []) ∷ (9 ∷ 1 ∷ 101 ∷ []) ∷ []
unfolding toy rebuild_calls
header-call = refl

pub brace : tidied ((0 ∷ 1 ∷ 60 ∷ 4 ∷ []) ∷ (63 ∷ 1 ∷ 101 ∷ []) ∷ []) ≡ (0 ∷ 1 ∷ 60 ∷ 4 ∷ []) ∷ (63 ∷ 1 ∷ 101 ∷ []) ∷ []
unfolding toy rebuild_calls
brace = refl

pub braceless : tidied ((7 ∷ []) ∷ (0 ∷ 1 ∷ 60 ∷ []) ∷ (63 ∷ 1 ∷ 101 ∷ []) ∷ []) ≡ (7 ∷ []) ∷ (0 ∷ 1 ∷ 60 ∷ []) ∷ (63 ∷ 1 ∷ 101 ∷ []) ∷ []
unfolding toy rebuild_calls
braceless = refl

pub as-target : tidied ((0 ∷ 1 ∷ 60 ∷ []) ∷ (63 ∷ 1 ∷ 101 ∷ 3 ∷ []) ∷ []) ≡ (0 ∷ 1 ∷ 60 ∷ []) ∷ (63 ∷ 1 ∷ 101 ∷ 3 ∷ []) ∷ []
unfolding toy rebuild_calls
as-target = refl

pub after-new : tidied ((0 ∷ 1 ∷ 60 ∷ []) ∷ (63 ∷ 1 ∷ 2 ∷ 101 ∷ []) ∷ []) ≡ (63 ∷ 1 ∷ 2 ∷ 30 ∷ 60 ∷ 31 ∷ []) ∷ []
unfolding toy rebuild_calls
after-new = refl

-- r5 = r6; r6 = f(); use(r5, r6);   r6's line was absorbed and writes what r5's value needs
pub depends : tidied ((0 ∷ 5 ∷ 106 ∷ []) ∷ (0 ∷ 6 ∷ 61 ∷ 1 ∷ []) ∷ (63 ∷ 1 ∷ 105 ∷ 106 ∷ []) ∷ []) ≡ (0 ∷ 5 ∷ 106 ∷ []) ∷ (63 ∷ 1 ∷ 105 ∷ 61 ∷ 1 ∷ []) ∷ []
unfolding toy rebuild_calls
depends = refl

-- r200 = 50; .. ; the call that reads them all: 64 steps up and no more
unfoldable pub stores_to : ℕ → List (List ℕ) → List (List ℕ)
stores_to zero more = more
stores_to (suc n) more = stores_to n ((0 ∷ (200 + n) ∷ 50 ∷ []) ∷ more)

-- the reads of that many registers
unfoldable pub reads_to : ℕ → List ℕ
reads_to zero = []
reads_to (suc n) = (300 + n) ∷ reads_to n

pub limit : length (tidied (stores_to 64 ((63 ∷ 1 ∷ reads_to 64) ∷ []))) ≡ 1
unfolding toy rebuild_calls stores_to reads_to
limit = refl

pub limit-over : length (tidied (stores_to 66 ((63 ∷ 1 ∷ reads_to 66) ∷ []))) ≡ 3
unfolding toy rebuild_calls stores_to reads_to
limit-over = refl

-- the steps over dropped lines count: r265 = f(r264) took one line, so that 62 more are taken, not 63
pub limit-steps : length (tidied (stores_to 65 ((0 ∷ 265 ∷ 61 ∷ 1 ∷ 364 ∷ []) ∷ (63 ∷ 1 ∷ 365 ∷ reads_to 64) ∷ []))) ≡ 3
unfolding toy rebuild_calls stores_to reads_to
limit-steps = refl
