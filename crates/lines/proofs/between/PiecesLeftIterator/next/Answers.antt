use Rattle.std.proofs.Common.{◌≡◌, ℕ, ◌+◌, ◌-◌, ◌<◌, ◌≤◌, List, [], ◌∷◌, length, take, drop, Option, Some, Bor, arith, ap, ◌∙◌}
use Rattle.std.proofs.lemmas.List.{take_rest}
use Rattle.lines.specs.Lf.{up_to, parts_of}
use Rattle.lines.specs.Inner.Pieces.{pieces_of_rest}
use Rattle.lines.proofs.LfLaws.{parts_at, parts_last}
use Rattle.lines.proofs.between.PiecesLeftIterator.next.Goals as goal

module _ (b : ℕ) {r : Option (Bor (List ℕ))} (rest : Bor (List ℕ)) (was : r ≡ Some rest) (e : ℕ) (found : e ≡ 0 + up_to b (drop 0 rest.now)) where
  -- a piece ends at the place e, and the next begins past it
  at_cut : e < length rest.now → pieces_of_rest b r ≡ take e rest.now ∷ parts_of b (take (length rest.now - (e + 1)) (drop (e + 1) rest.now))
  at_cut h =
      let whole : e - 0 ≡ e = omega arith in
      ap (pieces_of_rest b) was ∙ rw take_rest (parts_at b rest.now 0 e (omega arith) found h ∙ ap (λ (n : ℕ). take n rest.now ∷ parts_of b (drop (e + 1) rest.now)) whole)

  -- the rest of the text is the last piece
  at_end : length rest.now ≤ e → pieces_of_rest b r ≡ rest.now ∷ []
  at_end h = ap (pieces_of_rest b) was ∙ parts_last b rest.now (omega arith)

pub returns-then-e-rest-clause-steps : goal.returns-then-e-rest-clause-steps
returns-then-e-rest-clause-steps c = at_cut _ _ c.in_ok-rest.was _ c.find_byte-e.ensures c.if-e-rest.true

pub returns-then-e-rest-clause-goes : goal.returns-then-e-rest-clause-goes
returns-then-e-rest-clause-goes c = record { on = λ _. (tt, tt, omega (arith, ap length (at_cut _ _ c.in_ok-rest.was _ c.find_byte-e.ensures c.if-e-rest.true))); keeps = tt; rests = λ _. tt }

pub returns-clause-steps : goal.returns-clause-steps
returns-clause-steps c = at_end _ _ c.in_ok-rest.was _ c.find_byte-e.ensures c.if-e-rest.false

pub returns-clause-goes : goal.returns-clause-goes
returns-clause-goes c = record { on = λ _. (tt, tt, omega (arith, ap length (at_end _ _ c.in_ok-rest.was _ c.find_byte-e.ensures c.if-e-rest.false))); keeps = tt; rests = λ _. tt }
