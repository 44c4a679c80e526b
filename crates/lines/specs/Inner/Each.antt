-- What the iterator over the lines of a text gives. Assumes nothing.
use Rattle.std.specs.Prelude.{ℕ, ◌+◌, ◌<◌, ◌≤◌, ◌≡◌, min, List, length, drop, MatchOption}
use Rattle.std.specs.declared.option.Option.{Option}
use Rattle.lines.specs.Lf.{part, up_to}
use Rattle.lines.specs.declared.each.Line.{Line}
use Rattle.lines.specs.declared.each.Lines.{Lines}

-- one line: it begins at i, it ends before the next LF, and the next line begins at n
pub record IsLine (text : List ℕ) (i : ℕ) (line : Line) (n : ℕ) : Type 0 where
  pub starts : i < length text
  pub from : line.from ≡ i
  pub to : line.to ≡ i + up_to 10 (drop i text)
  pub bytes : line.bytes.now ≡ part i line.to text
  pub next : n ≡ min (line.to + 1) (length text)

-- a call gives the line at its place, or nothing at the end; the text stays
abbrev pub GivesLine : Lines → Option Line → Lines → Type 0
GivesLine s r t = (t.text ≡ s.text) × MatchOption r ((length s.text.now ≤ s.at) × (t.at ≡ s.at)) (λ line. IsLine s.text.now s.at line t.at)
