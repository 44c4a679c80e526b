-- What the iterator over the bytes of a literal's text gives. Assumes nothing.
use Rattle.std.specs.Prelude.{ℕ, ◌≡◌, [], ◌∷◌, MatchOption}
use Rattle.std.specs.declared.option.Option.{Option}
use Rattle.po.specs.Found.{decoded}
use Rattle.po.specs.declared.units.Units.{Units}

-- a call gives the first byte of the text that is left, or nothing where none is; the quote stays
abbrev pub GivesByte : Units → Option ℕ → Units → Type 0
GivesByte s r t = (t.quote ≡ s.quote) × MatchOption r (decoded s.rest.now s.quote ≡ []) (λ b. decoded s.rest.now s.quote ≡ b ∷ decoded t.rest.now t.quote)
