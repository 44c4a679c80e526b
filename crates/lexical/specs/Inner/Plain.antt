-- Plain bytes: a line leaves them as they are, and none of them is a brace. Assumes nothing.
use Rattle.std.specs.Prelude.{ℕ, suc, Bool, cond, not, ◌&&◌, ◌||◌, List, [], ◌∷◌, eqb, leb, ltb}
use Prim.Native.Char.{code}
use Rattle.lines.specs.Ascii.{ascii}
use Rattle.lines.specs.Lf.{all, among}
use Rattle.lines.specs.Inner.Lf.{lacks}
use Rattle.text.specs.White.{is_white}
use Rattle.lexical.specs.declared.Tail.{Tail}
use Rattle.lexical.specs.Inner.Lex.{back_byte, front}

-- below 123, and no LF, no quote and no `/`
abbrev pub is_plain : ℕ → Bool
is_plain b = leb b (code "z") && not (among (ascii "\n\"'/`") b)

-- how many plain bytes stand at the head of a text
unfoldable pub plain_len : List ℕ → ℕ
plain_len [] = 0
plain_len (x ∷ xs) = cond (is_plain x) (suc (plain_len xs)) 0

-- a space, or from `(` to `z`: plain but for `/` and the backtick
abbrev pub is_mild : ℕ → Bool
is_mild b = eqb b (code " ") || (leb (code "(") b && ltb b (code "{"))

-- bytes that are all mild, and none of them is `/` or a backtick
unfoldable pub all_mild : List ℕ → Bool
all_mild l = all (λ (x : ℕ). is_mild x) l && (lacks (code "/") l && lacks (code "`") l)

-- the last character, once bytes below 128 stand after a text with this last one
unfoldable pub low_last : ℕ → List ℕ → ℕ
low_last last [] = last
low_last last (b ∷ bs) = low_last (cond (is_white b) last b) bs

-- the digest of a text, each byte taken as a character: its last two bytes, and its last character, that of it without its last byte, and that of it without its last two
unfoldable pub low_tail : List ℕ → Tail
unfolding low_last
low_tail l = record {
  byte = back_byte 1 l;
  byte2 = back_byte 2 l;
  last = low_last 256 l;
  last2 = low_last 256 (front 1 l);
  last3 = low_last 256 (front 2 l);
}
