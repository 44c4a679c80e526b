use Rattle.passes.proofs.ChainLaws.{Same, ChainInv}
use Rattle.passes.proofs.chain.Given as goal

abbrev pub invariant-loop-j : goal.invariant-loop-j
invariant-loop-j l = ChainInv l.m.limits l.m.mode.0 l.m.from l.m.to l.text l.a l.table l.n l.j × Same l.initial.a l.initial.b l.initial.c l.initial.d l.initial.e l.initial.f l.initial.g l.initial.h l.initial.u l.initial.v l.initial.w l.initial.x l.initial.p l.initial.q l.initial.r l.initial.t l.initial.table l.a l.b l.c l.d l.e l.f l.g l.h l.u l.v l.w l.x l.p l.q l.r l.t l.table
