use mathlib.Core.Path.{sym, ◌∙◌}
use mathlib.Core.Bool.{true, false}
use native.Mathlib.Omega.{arith}
use lib.ListN.{get_or}
use Rattle.once.specs.Inner.Noted.{same_path}
use Rattle.once.proofs.NextLaws.{note-past, note-in, note-sent, note-alone, note-read, note-both, note-stored, note-first, note-dead}
use Rattle.once.proofs.noted.store_note.Goals as goal

pub returns-then-near-v : goal.returns-then-near-v
returns-then-near-v c = note-past c.args.own.now c.args.reg.0 c.args.paths.now c.args.k c.args.m c.args.h c.args.near.now c.args.far.now c.args.stores.now c.slot-v.result c.slot-v.ensures c.if-near-v.true

pub bounds-stores-v : goal.bounds-stores-v
bounds-stores-v c = omega (arith, c.if-near-v.false, c.requires.0, c.requires.1)

pub bounds-far-v : goal.bounds-far-v
bounds-far-v c = omega (arith, c.if-near-v.false, c.requires.0)

pub bounds-far-v-then-r-m : goal.bounds-far-v-then-r-m
bounds-far-v-then-r-m c = omega (arith, c.if-near-v.false, c.requires.0)

pub returns-then-h-far : goal.returns-then-h-far
returns-then-h-far c = note-sent (get_or c.args.near.now c.slot-v.result 0) (get_or c.args.far.now c.slot-v.result 0) (get_or c.args.stores.now c.slot-v.result 0) c.args.h c.args.m (same_path c.args.paths.now c.args.k (get_or c.args.stores.now c.slot-v.result 0)) c.if-h-r.true c.if-r-m.true c.if-h-far.true ∙ note-in c.args.own.now c.args.reg.0 c.args.paths.now c.args.k c.args.m c.args.h c.args.near.now c.args.far.now c.args.stores.now c.slot-v.result c.slot-v.ensures c.if-near-v.false c.requires

pub returns-then-r-m : goal.returns-then-r-m
returns-then-r-m c = note-alone (get_or c.args.near.now c.slot-v.result 0) (get_or c.args.far.now c.slot-v.result 0) (get_or c.args.stores.now c.slot-v.result 0) c.args.h c.args.m (same_path c.args.paths.now c.args.k (get_or c.args.stores.now c.slot-v.result 0)) c.if-h-r.true c.if-r-m.true c.if-h-far.false ∙ note-in c.args.own.now c.args.reg.0 c.args.paths.now c.args.k c.args.m c.args.h c.args.near.now c.args.far.now c.args.stores.now c.slot-v.result c.slot-v.ensures c.if-near-v.false c.requires

pub returns-then-h-r : goal.returns-then-h-r
returns-then-h-r c = note-read (get_or c.args.near.now c.slot-v.result 0) (get_or c.args.far.now c.slot-v.result 0) (get_or c.args.stores.now c.slot-v.result 0) c.args.h c.args.m (same_path c.args.paths.now c.args.k (get_or c.args.stores.now c.slot-v.result 0)) c.if-h-r.true c.if-r-m.false ∙ note-in c.args.own.now c.args.reg.0 c.args.paths.now c.args.k c.args.m c.args.h c.args.near.now c.args.far.now c.args.stores.now c.slot-v.result c.slot-v.ensures c.if-near-v.false c.requires

pub returns-then-h-r-2 : goal.returns-then-h-r-2
returns-then-h-r-2 c = note-both (get_or c.args.near.now c.slot-v.result 0) (get_or c.args.far.now c.slot-v.result 0) (get_or c.args.stores.now c.slot-v.result 0) c.args.h c.args.m (same_path c.args.paths.now c.args.k (get_or c.args.stores.now c.slot-v.result 0)) c.if-h-r.false c.if-h-r-2.true ∙ note-in c.args.own.now c.args.reg.0 c.args.paths.now c.args.k c.args.m c.args.h c.args.near.now c.args.far.now c.args.stores.now c.slot-v.result c.slot-v.ensures c.if-near-v.false c.requires

pub returns-then-same_path : goal.returns-then-same_path
returns-then-same_path c = note-stored (get_or c.args.near.now c.slot-v.result 0) (get_or c.args.far.now c.slot-v.result 0) (get_or c.args.stores.now c.slot-v.result 0) c.args.h c.args.m (same_path c.args.paths.now c.args.k (get_or c.args.stores.now c.slot-v.result 0)) c.if-h-r.false c.if-h-r-2.false c.if-h-s.true true (sym c.same_path.ensures ∙ c.if-same_path.true) ∙ note-in c.args.own.now c.args.reg.0 c.args.paths.now c.args.k c.args.m c.args.h c.args.near.now c.args.far.now c.args.stores.now c.slot-v.result c.slot-v.ensures c.if-near-v.false c.requires

pub returns-then-h-s : goal.returns-then-h-s
returns-then-h-s c = note-stored (get_or c.args.near.now c.slot-v.result 0) (get_or c.args.far.now c.slot-v.result 0) (get_or c.args.stores.now c.slot-v.result 0) c.args.h c.args.m (same_path c.args.paths.now c.args.k (get_or c.args.stores.now c.slot-v.result 0)) c.if-h-r.false c.if-h-r-2.false c.if-h-s.true false (sym c.same_path.ensures ∙ c.if-same_path.false) ∙ note-in c.args.own.now c.args.reg.0 c.args.paths.now c.args.k c.args.m c.args.h c.args.near.now c.args.far.now c.args.stores.now c.slot-v.result c.slot-v.ensures c.if-near-v.false c.requires

pub returns-then-r-m-2 : goal.returns-then-r-m-2
returns-then-r-m-2 c = note-first (get_or c.args.near.now c.slot-v.result 0) (get_or c.args.far.now c.slot-v.result 0) (get_or c.args.stores.now c.slot-v.result 0) c.args.h c.args.m (same_path c.args.paths.now c.args.k (get_or c.args.stores.now c.slot-v.result 0)) c.if-h-r.false c.if-h-r-2.false c.if-h-s.false c.if-r-m-2.true ∙ note-in c.args.own.now c.args.reg.0 c.args.paths.now c.args.k c.args.m c.args.h c.args.near.now c.args.far.now c.args.stores.now c.slot-v.result c.slot-v.ensures c.if-near-v.false c.requires

pub returns : goal.returns
returns c = note-dead (get_or c.args.near.now c.slot-v.result 0) (get_or c.args.far.now c.slot-v.result 0) (get_or c.args.stores.now c.slot-v.result 0) c.args.h c.args.m (same_path c.args.paths.now c.args.k (get_or c.args.stores.now c.slot-v.result 0)) c.if-h-r.false c.if-h-r-2.false c.if-h-s.false c.if-r-m-2.false ∙ note-in c.args.own.now c.args.reg.0 c.args.paths.now c.args.k c.args.m c.args.h c.args.near.now c.args.far.now c.args.stores.now c.slot-v.result c.slot-v.ensures c.if-near-v.false c.requires
