-- What the iterator over the tokens of a text gives. Assumes nothing.
use Rattle.std.specs.Prelude.{ℕ, ◌<◌, ◌≤◌, ◌≡◌, List, length, drop, get_or, MatchOption}
use Rattle.std.specs.declared.option.Option.{Option}
use Rattle.lexical.specs.declared.Tail.{Tail}
use Rattle.lexical.specs.declared.tokens.Found.{Found}
use Rattle.lexical.specs.declared.tokens.Tokens.{Tokens}
use Rattle.lexical.specs.Inner.Lex.{clean_step}

-- one token: it begins at i, where t is the digest of what is left before it, and the next begins at n, with the digest u
pub record IsToken (text : List ℕ) (i : ℕ) (t : Tail) (k : Found) (n : ℕ) (u : Tail) : Type 0 where
  pub starts : i < length text
  pub at : k.at ≡ i
  pub byte : k.byte ≡ get_or text i 0
  pub step : record { next = n; kind = k.kind; tail = u } ≡ clean_step i t (drop i text)

-- a call gives the token at its place, or nothing at the end; the text stays
abbrev pub GivesToken : Tokens → Option Found → Tokens → Type 0
GivesToken s r t = (t.text ≡ s.text) × MatchOption r ((length s.text.now ≤ s.at) × ((t.at ≡ s.at) × (t.tail ≡ s.tail))) (λ k. IsToken s.text.now s.at s.tail k t.at t.tail)
