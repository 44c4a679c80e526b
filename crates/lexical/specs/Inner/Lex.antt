-- What inner functions and laws ask beside Lex: no promise of an entry hangs on it. Assumes nothing.
use Rattle.std.specs.Prelude.{ℕ, ◌+◌, ◌-◌, cond, List, [], ◌∷◌, length, take, get_or, leb}
use Rattle.text.specs.Trim.{white_char}
use Rattle.lexical.specs.declared.Kind.TheVariants.{Gone}
use Rattle.lexical.specs.declared.Token.{Token}
use Rattle.lexical.specs.declared.Tail.{Tail}
use Rattle.lexical.specs.declared.Step.{Step}
use Rattle.lexical.specs.Lex.{last_of, leaves, token, token_of}

-- the token at the head of a text; where nothing is left, one of no bytes
unfoldable pub token_at : ℕ → List ℕ → Token
unfolding token_of
token_at last [] = token 0 Gone
token_at last (x ∷ xs) = token_of last x xs

-- ---- the same with a digest of the text left so far in the place of that text

-- the byte k before the end of a text, or 0 where there is none
abbrev pub back_byte : ℕ → List ℕ → ℕ
back_byte k l = cond (leb k (length l)) (get_or l (length l - k) 0) 0

-- a text without its last k bytes
abbrev pub front : ℕ → List ℕ → List ℕ
front k l = take (length l - k) l

-- the last two bytes of a text, and its last character, that of it without its last byte, and that of it without its last two
unfoldable pub tail_of : List ℕ → Tail
unfolding last_of
tail_of out = record {
  byte = back_byte 1 out;
  byte2 = back_byte 2 out;
  last = last_of out;
  last2 = last_of (front 1 out);
  last3 = last_of (front 2 out);
}

-- the last character once b stands after the text: b, or, where b is the end of a white space, that of the text before it
abbrev pub last_after : Tail → ℕ → ℕ
last_after t b =
    cond (white_char (b ∷ [])) t.last
    (cond (white_char (t.byte ∷ b ∷ [])) t.last2
    (cond (white_char (t.byte2 ∷ t.byte ∷ b ∷ [])) t.last3
    b))

-- the digest of the text with b after it
unfoldable pub pushed : Tail → ℕ → Tail
pushed t b = record { byte = b; byte2 = t.byte; last = last_after t b; last2 = t.last; last3 = t.last2 }

-- the digest of the text with further bytes after it
unfoldable pub grown : Tail → List ℕ → Tail
unfolding pushed
grown t [] = t
grown t (b ∷ bs) = grown (pushed t b) bs

-- one token of a text whose place is i: the place after it, what becomes of it, and the digest with what it leaves
unfoldable pub clean_step : ℕ → Tail → List ℕ → Step
unfolding token_at grown
clean_step i t l =
    let k : Token = token_at t.last l in
    record { next = i + k.size; kind = k.kind; tail = grown t (leaves k.kind (get_or l 0 0)) }
