use native.Mathlib.Omega.{arith}
use Prim.Native.Nat.{ℕ}
use mathlib.Core.Path.{◌≡◌, sym, ap}
use lib.ListN.{length}
use Rattle.lines.proofs.OutLaws.{wrote_as}
use Rattle.po.specs.Form.{escape}
use Rattle.po.proofs.UnitLaws.{escape-self}
use Rattle.po.proofs.put_escape.Goals as goal

pub put-requires : goal.put-requires
put-requires c = let e : length (escape c.args.b) ≡ 2 = ap (λ (n : ℕ). length (escape n)) c.in-10.is in omega (arith, c.requires)

pub put-requires-in-9 : goal.put-requires-in-9
put-requires-in-9 c = let e : length (escape c.args.b) ≡ 2 = ap (λ (n : ℕ). length (escape n)) c.in-9.is in omega (arith, c.requires)

pub put-requires-in-34 : goal.put-requires-in-34
put-requires-in-34 c = let e : length (escape c.args.b) ≡ 2 = ap (λ (n : ℕ). length (escape n)) c.in-34.is in omega (arith, c.requires)

pub put-requires-in-92 : goal.put-requires-in-92
put-requires-in-92 c = let e : length (escape c.args.b) ≡ 2 = ap (λ (n : ℕ). length (escape n)) c.in-92.is in omega (arith, c.requires)

pub put_byte-requires : goal.put_byte-requires
put_byte-requires c = let e = ap length (escape-self c.args.b (omega arith) (omega arith) (omega arith) (omega arith)) in omega (arith, c.requires)

pub returns-in-10 : goal.returns-in-10
returns-in-10 c = wrote_as (sym (ap (λ (n : ℕ). escape n) c.in-10.is)) c.put.ensures

pub returns-in-9 : goal.returns-in-9
returns-in-9 c = wrote_as (sym (ap (λ (n : ℕ). escape n) c.in-9.is)) c.put-in-9.ensures

pub returns-in-34 : goal.returns-in-34
returns-in-34 c = wrote_as (sym (ap (λ (n : ℕ). escape n) c.in-34.is)) c.put-in-34.ensures

pub returns-in-92 : goal.returns-in-92
returns-in-92 c = wrote_as (sym (ap (λ (n : ℕ). escape n) c.in-92.is)) c.put-in-92.ensures

pub returns-in_default : goal.returns-in_default
returns-in_default c = wrote_as (sym (escape-self c.args.b (omega arith) (omega arith) (omega arith) (omega arith))) c.put_byte.ensures
