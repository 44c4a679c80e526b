-- Laws of dead temps: searches over trimmed pieces, and what one line asks. Assumes nothing.
use Rattle.std.proofs.Common.{◌≡◌, ℕ, ◌-◌, ◌<◌, Bool, true, false, cond, ◌&&◌, ◌||◌, ltb, List, [], ◌∷◌, length, drop, sym, refl, ap, ◌∙◌, arith, ltb-true}
use Rattle.std.specs.List.{list_any}
use Rattle.lines.specs.Lf.{prefixed, same}
use Rattle.lines.proofs.Tests.{and_left, and_right}
use Rattle.text.specs.Trim.{trim_of}
use Rattle.names.specs.Names.{temp_word, all_digits, is_temp}
use Rattle.names.proofs.Texts.{temp-names}
use Rattle.parse.specs.Parse.{let_word}
use Rattle.place.specs.Region.{var_word, const_word}
use Rattle.words.specs.Inner.Runs.{words_of}
use Rattle.words.proofs.HitLaws.{hits-words}
use Rattle.reading.specs.Assign.{is_assign, left_of}
use Rattle.temps.specs.Temps.{any_piece, declares, temp_reads, declared_in, temp_read}

-- ---- searches: some text, trimmed, passes a test, as std says it of a chain

pub piece-any : (x : List ℕ) (ps : List (List ℕ)) → list_any (λ (p : List ℕ). same (trim_of p) x) ps ≡ any_piece x ps
unfolding any_piece
piece-any x [] = refl
piece-any x (p ∷ ps) = ap (λ (b : Bool). same (trim_of p) x || b) (piece-any x ps)

pub declared-any : (x : List ℕ) (ls : List (List ℕ)) → list_any (λ (l : List ℕ). declares x (trim_of l)) ls ≡ declared_in x ls
unfolding declared_in
declared-any x [] = refl
declared-any x (l ∷ ls) = ap (λ (b : Bool). declares x (trim_of l) || b) (declared-any x ls)

pub read-any : (x : List ℕ) (ls : List (List ℕ)) → list_any (λ (l : List ℕ). ltb 0 (temp_reads x (trim_of l))) ls ≡ temp_read x ls
unfolding temp_read
read-any x [] = refl
read-any x (l ∷ ls) = ap (λ (b : Bool). ltb 0 (temp_reads x (trim_of l)) || b) (read-any x ls)

-- ---- the reads of one line

-- a temp is not empty
temp-long : (x : List ℕ) → is_temp x ≡ true → 0 < length x
unfolding is_temp
temp-long x h =
    let k = ltb-true 1 (length x) (and_left (ltb 1 (length x)) (all_digits (drop 1 x)) (and_right (prefixed temp_word x) (ltb 1 (length x) && all_digits (drop 1 x)) h)) in
    omega arith

module _ (x t : List ℕ) where
  pub reads-bind : prefixed let_word t || (prefixed var_word t || prefixed const_word t) ≡ true → temp_reads x t ≡ 0
  unfolding temp_reads
  reads-bind e = rw e

  module _ (e : prefixed let_word t || (prefixed var_word t || prefixed const_word t) ≡ false) (p : is_temp x ≡ true) (n : ℕ) (w : n ≡ words_of x t) where
    pub reads-words : (b : Bool) → is_assign t && same (left_of t) x ≡ b → temp_reads x t ≡ n - cond b 1 0
    unfolding temp_reads
    reads-words b g = rw (e, g) (ap (λ (k : ℕ). k - cond b 1 0) (hits-words x (temp-long x p) (temp-names x p) t ∙ sym w))

    pub reads_none : n ≡ 0 → temp_reads x t ≡ 0
    reads_none z =
        let k : ℕ = cond (is_assign t && same (left_of t) x) 1 0 in
        let r : temp_reads x t ≡ n - k = reads-words (is_assign t && same (left_of t) x) refl in
        omega arith
