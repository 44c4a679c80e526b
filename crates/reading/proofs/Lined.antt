-- Readings that may be cut where nothing is open. Assumes nothing.
use Prim.Native.Nat.{ℕ}
use mathlib.Core.Path.{◌≡◌, refl, ap, ◌∙◌}
use mathlib.Core.Bool.{Bool, true, false}
use mathlib.Core.List.{List, ◌∷◌, [], ◌++◌}
use lib.ListN.{length}
use Rattle.lines.proofs.Tests.{no}
use Rattle.lexical.specs.declared.Open.{Open}
use Rattle.lexical.specs.declared.Open.TheVariants.{Nothing, Comment, Template}
use Rattle.lexical.specs.Lex.{strip_lexical}
use Rattle.lexical.specs.Joined.{taken, open_below, rests_from, open_after}
use Rattle.lexical.proofs.JoinedLaws.{rests-append, rests-length}
use Rattle.place.specs.Region.{is_header}
use Rattle.place.specs.Blocks.{cleaned}
use Rattle.place.specs.Starts.{is_blank}
use Rattle.place.proofs.Blocks.{cleaned-append, cleaned-length}
use Rattle.place.proofs.Starts.{header-shown}
use Rattle.reading.specs.Reading.{Reading, plain, strict_at, joined_at, reading_by, reading_of, is_nothing, ends_shut}

-- a reading that cleans as many lines as there are, may be cut below lines that end `shut`, cleans the first line as if it were alone, and leaves of a
-- header something that is not blank
pub record Lined (R : Reading) (shut : List (List ℕ) → Bool) : Type 0 where
  pub none : shut [] ≡ true
  pub long : (ls : List (List ℕ)) → length (R.clean ls) ≡ length ls
  pub splits : (us ts : List (List ℕ)) → shut us ≡ true → R.clean (us ++ ts) ≡ R.clean us ++ R.clean ts
  pub one : List ℕ → List ℕ
  pub rest : List ℕ → List (List ℕ) → List (List ℕ)
  pub first : (l : List ℕ) (ls : List (List ℕ)) → R.clean (l ∷ ls) ≡ one l ∷ rest l ls
  pub shown : (l : List ℕ) → is_header l ≡ true → is_blank (one l) ≡ false

nothing_is : (o : Open) → is_nothing o ≡ true → o ≡ Nothing
nothing_is Nothing h = refl
nothing_is Comment h = no h
nothing_is Template h = no h

-- each mode's is one
pub modes-lined : (strict joined : Bool) → Lined (reading_by strict joined) (ends_shut joined)
unfolding cleaned rests_from taken open_after
modes-lined strict true = record {
  none = refl;
  long = λ ls. cleaned-length (rests_from Nothing ls) ∙ rests-length Nothing ls;
  splits = λ us ts s.
      ap cleaned (rests-append Nothing us ts ∙ ap (λ (o : Open). rests_from Nothing us ++ rests_from o ts) (nothing_is (open_after Nothing us) s))
      ∙ cleaned-append (rests_from Nothing us) (rests_from Nothing ts);
  one = strip_lexical;
  rest = λ l ls. cleaned (rests_from (open_below Nothing l) ls);
  first = λ l ls. refl;
  shown = header-shown;
}
modes-lined strict false = record {
  none = refl;
  long = cleaned-length;
  splits = λ us ts s. cleaned-append us ts;
  one = strip_lexical;
  rest = λ l ls. cleaned ls;
  first = λ l ls. refl;
  shown = header-shown;
}

pub mode-lined : (k : ℕ) → Lined (reading_of k) (ends_shut (joined_at k))
mode-lined k = modes-lined (strict_at k) (joined_at k)

-- mode 0 is as the Rust reads
pub plain-is : reading_of 0 ≡ plain
plain-is = refl

pub plain-lined : Lined plain (ends_shut false)
plain-lined = mode-lined 0
