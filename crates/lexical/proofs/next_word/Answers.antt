use mathlib.Core.Path.{◌≡◌, ap, ◌∙◌}
use native.Mathlib.Omega.{arith}
use Prim.Native.Nat.{ℕ, ◌+◌}
use lib.ListN.{drop}
use Rattle.lexical.specs.Idents.{char_len}
use Rattle.lines.proofs.Tests.{so}
use Rattle.lexical.specs.Idents.{no_word}
use Rattle.lexical.proofs.WordLaws.{char-on, char-end, word-start, word_more, word-skip, word-here, word-last, word_none}
use Rattle.lexical.proofs.next_word.Goals as goal

pub loop-j-init : goal.loop-j-init
loop-j-init c = word-start c.args.t.now c.args.i

pub char_len-requires : goal.char_len-requires
char_len-requires c = tt

pub overflow_add-e : goal.overflow_add-e
overflow_add-e c = let l = c.loop-j in let t = c.args.t.now in let e = l.j + c.char_len.result in let h = c.loop-j-test.true in let q : e ≡ l.j + char_len (drop l.j t) = ap (λ (n : ℕ). l.j + n) c.char_len.ensures in omega (arith, char-end t l.j e h q)

pub slice_bounds-joins_word-end : goal.slice_bounds-joins_word-end
slice_bounds-joins_word-end c = let l = c.loop-j in let t = c.args.t.now in let e = l.j + c.char_len.result in let h = c.loop-j-test.true in let q : e ≡ l.j + char_len (drop l.j t) = ap (λ (n : ℕ). l.j + n) c.char_len.ensures in char-end t l.j e h q

pub joins_word-requires : goal.joins_word-requires
joins_word-requires c = tt

pub loop-j-smaller-then-joins_word : goal.loop-j-smaller-then-joins_word
loop-j-smaller-then-joins_word c = let l = c.loop-j in let t = c.args.t.now in let e = l.j + c.char_len.result in let h = c.loop-j-test.true in let q : e ≡ l.j + char_len (drop l.j t) = ap (λ (n : ℕ). l.j + n) c.char_len.ensures in omega (arith, char-on t l.j e h q)

pub loop-j-preserved-then-joins_word : goal.loop-j-preserved-then-joins_word
loop-j-preserved-then-joins_word c = let l = c.loop-j in let t = c.args.t.now in let e = l.j + c.char_len.result in let h = c.loop-j-test.true in let q : e ≡ l.j + char_len (drop l.j t) = ap (λ (n : ℕ). l.j + n) c.char_len.ensures in word_more l.invariant e h q (so c.joins_word.ensures c.if-joins_word.true)

pub slice_bounds-is_no_word-count : goal.slice_bounds-is_no_word-count
slice_bounds-is_no_word-count c = c.loop-j.invariant.spot.a≤j

pub slice_bounds-is_no_word-start : goal.slice_bounds-is_no_word-start
slice_bounds-is_no_word-start c = c.loop-j.invariant.spot.a≤j

pub is_no_word-requires : goal.is_no_word-requires
is_no_word-requires c = tt

pub returns-then-not-is_no_word : goal.returns-then-not-is_no_word
returns-then-not-is_no_word c = let l = c.loop-j in let t = c.args.t.now in let e = l.j + c.char_len.result in let h = c.loop-j-test.true in let q : e ≡ l.j + char_len (drop l.j t) = ap (λ (n : ℕ). l.j + n) c.char_len.ensures in word-here l.invariant e h q (so c.joins_word.ensures c.if-joins_word.false) (so c.is_no_word.ensures c.if-not-is_no_word.true)

pub loop-j-smaller : goal.loop-j-smaller
loop-j-smaller c = let l = c.loop-j in let t = c.args.t.now in let e = l.j + c.char_len.result in let h = c.loop-j-test.true in let q : e ≡ l.j + char_len (drop l.j t) = ap (λ (n : ℕ). l.j + n) c.char_len.ensures in omega (arith, char-on t l.j e h q)

pub loop-j-preserved : goal.loop-j-preserved
loop-j-preserved c = let l = c.loop-j in let t = c.args.t.now in let e = l.j + c.char_len.result in let h = c.loop-j-test.true in let q : e ≡ l.j + char_len (drop l.j t) = ap (λ (n : ℕ). l.j + n) c.char_len.ensures in word-skip l.invariant e h q (so c.joins_word.ensures c.if-joins_word.false) (so c.is_no_word.ensures c.if-not-is_no_word.false)

pub cut-requires : goal.cut-requires
cut-requires c = tt

pub is_no_word-requires-2 : goal.is_no_word-requires-2
is_no_word-requires-2 c = tt

pub returns-then-not-is_no_word-2 : goal.returns-then-not-is_no_word-2
returns-then-not-is_no_word-2 c = word-last c.loop-j.invariant c.loop-j-test.false (so (c.is_no_word-2.ensures ∙ ap no_word c.cut.ensures) c.if-not-is_no_word-2.true)

pub returns : goal.returns
returns c = word_none c.loop-j.invariant c.loop-j-test.false (so (c.is_no_word-2.ensures ∙ ap no_word c.cut.ensures) c.if-not-is_no_word-2.false)
