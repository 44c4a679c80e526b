use Prim.Native.Nat.{◌-◌}
use native.Mathlib.Omega.{arith}
use borrow.Author.Tests.{eq-eqb, ne_eqb}
use mathlib.Core.Path.{sym}
use lib.ListN.{length, get_or, length-take}
use lib.Seq.{length-take-le}
use Rattle.parse.specs.Parse.{store_in}
use Rattle.parse.proofs.ParseLaws.{store-empty}
use Rattle.parse.proofs.store_in.Goals as goal

pub returns-then-n-eq0 : goal.returns-then-n-eq0
returns-then-n-eq0 c = sym (store-empty _ _ c.if-n-eq0.true)

pub returns-then-t-n-ne59 : goal.returns-then-t-n-ne59
unfolding store_in
returns-then-t-n-ne59 c = let t = c.args.t.now in rw (ne_eqb (get_or t (length t - 1) 0) 59 c.if-t-n-ne59.true)

pub slice_bounds-split_store-length : goal.slice_bounds-split_store-length
slice_bounds-split_store-length c = let t = c.args.t.now in sym (length-take-le (length t - 1) t (omega arith))

pub split_store-requires : goal.split_store-requires
split_store-requires c = let t = c.args.t.now in omega (arith, c.requires, length-take (length t - 1) t)

pub returns : goal.returns
unfolding store_in
returns c = let t = c.args.t.now in rw (eq-eqb (get_or t (length t - 1) 0) 59 c.if-t-n-ne59.false) c.split_store.ensures
