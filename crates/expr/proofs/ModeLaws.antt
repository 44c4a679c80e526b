-- The steps of a text whose comments go, in strict mode or plain. Assumes nothing.
use Rattle.std.proofs.Common.{ℕ, ◌+◌, ◌≤◌, ◌<◌, ◌≡◌, Bool, true, false, List, [], ◌∷◌, length, drop, get_or, refl}
use Rattle.lines.specs.Lf.{part, prefixed}
use Rattle.lines.specs.Inner.Out.{Wrote}
use Rattle.lines.proofs.Tests.{no}
use Rattle.lines.proofs.OutLaws.{Writing}
use Rattle.lexical.specs.Lex.{quote_len}
use Rattle.expr.specs.Comments.{strip, strip_comments}
use Rattle.expr.specs.Quotes.{cut_go, strip_quoted}
use Rattle.expr.specs.Pure.{cut_in}
use Rattle.expr.specs.Inner.Pure.{opens_literal}
use Rattle.expr.proofs.CommentLaws as plain
use Rattle.expr.proofs.QuoteLaws as quoted

-- what is left of a text, inside a comment or not
abbrev pub left : Bool → List ℕ → Bool → List ℕ
left true l inside = cut_go l 0 inside
left false l inside = strip l inside

pub at-front : (strict : Bool) (s : List ℕ) → left strict s false ≡ cut_in strict s
unfolding strip_quoted strip_comments
at-front true s = refl
at-front false s = refl

pub at-close : (strict : Bool) (s : List ℕ) (i : ℕ) {inside : Bool} → inside ≡ true → prefixed (42 ∷ 47 ∷ []) (drop i s) ≡ true → left strict (drop i s) inside ≡ 32 ∷ left strict (drop (i + 2) s) false
at-close true s i e h = quoted.at-close s i e h
at-close false s i e h = plain.at-close s i e h

pub at-skip : (strict : Bool) (s : List ℕ) (i : ℕ) {inside : Bool} → i < length s → inside ≡ true → prefixed (42 ∷ 47 ∷ []) (drop i s) ≡ false → left strict (drop i s) inside ≡ left strict (drop (i + 1) s) inside
at-skip true s i p e h = quoted.at-skip s i p e h
at-skip false s i p e h = plain.at-skip s i p e h

pub at-open : (strict : Bool) (s : List ℕ) (i : ℕ) {inside : Bool} → inside ≡ false → opens_literal strict (get_or s i 0) ≡ false → prefixed (47 ∷ 42 ∷ []) (drop i s) ≡ true → left strict (drop i s) inside ≡ left strict (drop (i + 2) s) true
at-open true s i e q h = quoted.at_open s i e q h
at-open false s i e q h = plain.at_open s i e h

pub at-line : (strict : Bool) (s : List ℕ) (i : ℕ) {inside : Bool} → inside ≡ false → opens_literal strict (get_or s i 0) ≡ false → prefixed (47 ∷ 42 ∷ []) (drop i s) ≡ false → prefixed (47 ∷ 47 ∷ []) (drop i s) ≡ true → left strict (drop i s) inside ≡ []
at-line true s i e q g h = quoted.at-line s i e q g h
at-line false s i e q g h = plain.at-line s i e g h

pub at-copy : (strict : Bool) (s : List ℕ) (i : ℕ) {inside : Bool} → i < length s → inside ≡ false → opens_literal strict (get_or s i 0) ≡ false → prefixed (47 ∷ 42 ∷ []) (drop i s) ≡ false → prefixed (47 ∷ 47 ∷ []) (drop i s) ≡ false →
    left strict (drop i s) inside ≡ get_or s i 0 ∷ left strict (drop (i + 1) s) inside
at-copy true s i p e q g h = quoted.at_copy s i p e q g h
at-copy false s i p e q g h = plain.at_copy s i p e g h

pub at-end : (strict : Bool) (s : List ℕ) (i : ℕ) (inside : Bool) → length s ≤ i → left strict (drop i s) inside ≡ []
at-end true s i inside p = quoted.at-end s i inside p
at-end false s i inside p = plain.at-end s i inside p

-- a literal that is to be written next: there is room for it, and it is written
pub literal-room : (strict : Bool) {a o : ℕ} {whole d₀ d : List ℕ} (s : List ℕ) (i : ℕ) (inside : Bool) → Writing a whole (left strict (drop i s) inside) d₀ d o → i < length s → inside ≡ false → opens_literal strict (get_or s i 0) ≡ true →
    (e : ℕ) → e ≡ i + 1 + quote_len (drop (i + 1) s) (get_or s i 0) → o + length (part i e s) ≤ length d
literal-room true s i inside w p z h e q = quoted.literal-room s i inside w p z h e q
literal-room false s i inside w p z h e q = no h

pub literal-put : (strict : Bool) {a o : ℕ} {whole d₀ d : List ℕ} (s : List ℕ) (i : ℕ) (inside : Bool) → Writing a whole (left strict (drop i s) inside) d₀ d o → i < length s → inside ≡ false → opens_literal strict (get_or s i 0) ≡ true →
    (e : ℕ) → e ≡ i + 1 + quote_len (drop (i + 1) s) (get_or s i 0) → {d' : List ℕ} {r : ℕ} → Wrote d o (part i e s) d' r → Writing a whole (left strict (drop e s) inside) d₀ d' r
literal-put true s i inside w p z h e q v = quoted.literal-put s i inside w p z h e q v
literal-put false s i inside w p z h e q v = no h
