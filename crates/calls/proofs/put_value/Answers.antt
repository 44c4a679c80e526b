use Prim.Native.Nat.{ℕ}
use native.Mathlib.Omega.{arith}
use mathlib.Core.Path.{sym, ap}
use mathlib.Core.List.{List}
use lib.ListN.{length}
use Rattle.lines.proofs.Tests.{so}
use Rattle.lines.proofs.OutLaws.{wrote_as}
use Rattle.words.specs.Hits.{replaced_at}
use Rattle.forms.proofs.PrimaryLaws.{paren-bare, paren-held}
use Rattle.calls.proofs.put_value.Goals as goal

pub put_replaced-requires : goal.put_replaced-requires
put_replaced-requires c =
    let a = c.args in
    omega (arith, c.requires, ap (λ (t : List ℕ). length (replaced_at a.w.from a.w.to a.line.now t)) (paren-bare a.value.now a.after (so c.bare.ensures c.if-bare.true)))

pub returns-then-bare : goal.returns-then-bare
returns-then-bare c =
    let a = c.args in
    wrote_as (ap (λ (t : List ℕ). replaced_at a.w.from a.w.to a.line.now t) (sym (paren-bare a.value.now a.after (so c.bare.ensures c.if-bare.true)))) c.put_replaced.ensures

pub put_wrapped-requires : goal.put_wrapped-requires
put_wrapped-requires c =
    let a = c.args in
    omega (arith, c.requires, ap (λ (t : List ℕ). length (replaced_at a.w.from a.w.to a.line.now t)) (paren-held a.value.now a.after (so c.bare.ensures c.if-bare.false)))

pub returns : goal.returns
returns c =
    let a = c.args in
    wrote_as (ap (λ (t : List ℕ). replaced_at a.w.from a.w.to a.line.now t) (sym (paren-held a.value.now a.after (so c.bare.ensures c.if-bare.false)))) c.put_wrapped.ensures
