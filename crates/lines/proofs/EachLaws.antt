-- What a loop over the lines of a text knows at each of them.
use Rattle.std.proofs.Common.{ℕ, ◌≡◌, ◌≤◌, List, length, ◌∙◌, sym, ap, subst, arith}
use Rattle.lines.specs.declared.each.Line.{Line}
use Rattle.lines.specs.declared.each.Lines.{Lines}
use Rattle.lines.specs.Inner.Each.{IsLine}

-- an iterator over the lines of a text stands at a place of it
pub record Over (text : List ℕ) (it : Lines) : Type 0 where
  pub text≡ : it.text.now ≡ text
  pub at≤ : it.at ≤ length text

-- the line that it gives, and where it stands then
pub record Goes (text : List ℕ) (s : Lines) (line : Line) (t : Lines) : Type 0 where
  pub here : IsLine text s.at line t.at
  pub on : Over text t

pub goes : {text : List ℕ} {s t : Lines} {line : Line} → Over text s → (t.text ≡ s.text) × IsLine s.text.now s.at line t.at → Goes text s line t
goes {text = text} {s = s} {t = t} {line = line} h k =
    let e : t.text.now ≡ text = ap (λ b. b.now) k.0 ∙ h.text≡ in
    let l : IsLine text s.at line t.at = subst (λ (x : List ℕ). IsLine x s.at line t.at) h.text≡ k.1 in
    record { here = l; on = record { text≡ = e; at≤ = omega (arith, l.next) } }

-- where it gives none, it stands at the end
pub stops : {text : List ℕ} {s t : Lines} → Over text s → (t.text ≡ s.text) × ((length s.text.now ≤ s.at) × (t.at ≡ s.at)) → length text ≤ s.at
stops {s = s} h k = subst (λ (x : List ℕ). length x ≤ s.at) h.text≡ k.1.0

-- where it begins
pub at-front : {text : List ℕ} {s r : Lines} → s ≡ r → r.text.now ≡ text → r.at ≡ 0 → Over text s
at-front {text = text} {s = s} {r = r} k e z = subst (λ (x : Lines). Over text x) (sym k) (record { text≡ = e; at≤ = omega arith })

pub at-place : {text : List ℕ} {s r : Lines} {i : ℕ} → s ≡ r → r.text.now ≡ text → r.at ≡ i → i ≤ length text → Over text s
at-place {text = text} {s = s} {r = r} k e z h = subst (λ (x : Lines). Over text x) (sym k) (record { text≡ = e; at≤ = omega arith })
