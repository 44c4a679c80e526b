-- What a loop over the tokens of a text knows at each of them. Assumes nothing.
use Rattle.std.proofs.Common.{ℕ, ◌≡◌, ◌≤◌, List, [], length, ◌∙◌, ap, subst, sym}
use Rattle.lexical.specs.declared.Step.{Step}
use Rattle.lexical.specs.declared.Tail.{Tail}
use Rattle.lexical.specs.declared.tokens.Found.{Found}
use Rattle.lexical.specs.declared.tokens.Tokens.{Tokens}
use Rattle.lexical.specs.Inner.Lex.{tail_of}
use Rattle.lexical.specs.Inner.Tokens.{IsToken}

-- the step that a token is
abbrev pub step_of : Found → Tokens → Step
step_of k t = record { next = t.at; kind = k.kind; tail = t.tail }

-- what an iterator over a text gives, and the text stays
pub goes : {text : List ℕ} {s t : Tokens} {k : Found} → s.text.now ≡ text → (t.text ≡ s.text) × IsToken s.text.now s.at s.tail k t.at t.tail → (t.text.now ≡ text) × IsToken text s.at s.tail k t.at t.tail
goes {text} {s} {t} {k} h g = (ap (λ b. b.now) g.0 ∙ h, subst (λ (x : List ℕ). IsToken x s.at s.tail k t.at t.tail) h g.1)

-- where it gives none, it stands at the end
pub stops : {text : List ℕ} {s t : Tokens} → s.text.now ≡ text → (t.text ≡ s.text) × ((length s.text.now ≤ s.at) × ((t.at ≡ s.at) × (t.tail ≡ s.tail))) → length text ≤ s.at
stops {text} {s} h g = subst (λ (x : List ℕ). length x ≤ s.at) h g.1.0

-- where it begins, P holds that holds at the front of a text
pub front : {text : List ℕ} {s r : Tokens} (P : ℕ → Tail → Type 0) → s ≡ r → r.text.now ≡ text → r.at ≡ 0 → ((t : Tail) → t ≡ tail_of [] → P 0 t) → r.tail ≡ tail_of [] → (s.text.now ≡ text) × P s.at s.tail
front {text} {s} {r} P e x a f t = subst (λ (z : Tokens). (z.text.now ≡ text) × P z.at z.tail) (sym e) (x, subst (λ (n : ℕ). P n r.tail) (sym a) (f r.tail t))
