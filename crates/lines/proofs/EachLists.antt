-- The iterator over the lines of a text, as std sees a list that is left. Assumes nothing.
use Rattle.std.proofs.Common.{◌≡◌, ℕ, ◌+◌, List, ◌∷◌, length, drop, sym, ap, subst, ◌∙◌}
use Rattle.std.proofs.lemmas.Iterator.{YieldsList}
use Rattle.std.proofs.lemmas.Iterator.Consumers.{YieldsList-from_shown}
use Rattle.std.specs.Prelude.{min}
use Rattle.lines.specs.declared.each.Line.{Line}
use Rattle.lines.specs.declared.each.Lines.{Lines}
use Rattle.lines.specs.Lf.{lines_of}
use Rattle.lines.specs.Inner.Each.{IsLine, GivesLine}
use Rattle.lines.proofs.LfLaws.{lines-at, lines_end}

-- the lines that are left
abbrev pub lines_left : Lines → List (List ℕ)
lines_left s = lines_of (drop s.at s.text.now)

-- a line, and those that are left then
pub next-left : {s t : Lines} {line : Line} → t.text ≡ s.text → IsLine s.text.now s.at line t.at → lines_left s ≡ line.bytes.now ∷ lines_left t
next-left {s = s} {t = t} {line = line} e k =
    let text : List ℕ = s.text.now in
    lines-at text s.at line.to k.starts k.to
    ∙ ap (λ (l : List ℕ). l ∷ lines_of (drop (min (line.to + 1) (length text)) text)) (sym k.bytes)
    ∙ ap (λ (n : ℕ). line.bytes.now ∷ lines_of (drop n text)) (sym k.next)
    ∙ ap (λ b. line.bytes.now ∷ lines_of (drop t.at b.now)) (sym e)

pub lines-listed : (s : Lines) → YieldsList GivesLine (λ (line : Line). line.bytes.now) s (lines_left s)
lines-listed s =
    YieldsList-from_shown GivesLine (λ (line : Line). line.bytes.now) lines_left
    (λ u t h. ap length (lines_end u.text.now u.at h.1.0))
    (λ u line t h. next-left h.0 h.1)
    s

-- all lines of a text
pub each-listed : {text : List ℕ} {s : Lines} → s.text.now ≡ text → s.at ≡ 0 → YieldsList GivesLine (λ (line : Line). line.bytes.now) s (lines_of text)
each-listed {text = text} {s = s} e z =
    subst (YieldsList GivesLine (λ (line : Line). line.bytes.now) s)
    (ap (λ (n : ℕ). lines_of (drop n s.text.now)) z ∙ ap lines_of e)
    (lines-listed s)
