use Rattle.std.proofs.Common.{◌≡◌, ℕ, List, [], ◌∷◌, Option, Some, None, length, sym, ap, ◌∙◌, arith}
use Rattle.lines.specs.Lf.{part}
use Rattle.text.specs.declared.Span.{Span}
use Rattle.lexical.specs.Inner.Idents.{next_word}
use Rattle.lexical.specs.Inner.Words.{words_from}
use Rattle.lexical.proofs.WordLaws.{next-some, next-none}
use Rattle.lexical.proofs.idents.WordsIterator.next.Goals as goal

module _ (t : List ℕ) (i : ℕ) {r : Option Span} (e : r ≡ next_word t i) where
  -- a word comes, and those after its end are left
  comes : {w : Span} → r ≡ Some w → (n : List ℕ) → n ≡ part w.from w.to t → words_from t i ≡ n ∷ words_from t w.to
  unfolding words_from
  comes {w} is n q = next-some t i w (sym e ∙ is) ∙ ap (λ (x : List ℕ). x ∷ words_from t w.to) (sym q)

  -- no word comes
  ends : r ≡ None → words_from t i ≡ []
  unfolding words_from
  ends is = next-none t i (sym e ∙ is)

pub returns-in_err-word-clause-steps : goal.returns-in_err-word-clause-steps
returns-in_err-word-clause-steps c = let s = c.args.self.now in let e = ends s.text.now s.at c.next_word.ensures c.in_err-word.was in rw c.from_residual.ensures (e, e)

pub returns-clause-steps : goal.returns-clause-steps
returns-clause-steps c = let s = c.args.self.now in comes s.text.now s.at c.next_word.ensures c.in_ok-word.was _ c.cut.ensures

pub returns-clause-goes : goal.returns-clause-goes
returns-clause-goes c =
    let s = c.args.self.now in
    let e = comes s.text.now s.at c.next_word.ensures c.in_ok-word.was _ c.cut.ensures in
    record { on = λ _. (tt, tt, omega (arith, ap length e)); keeps = tt; rests = λ _. tt }
