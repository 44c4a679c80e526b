use mathlib.Core.Bool.{true, false}
use Rattle.pruned.proofs.FitCode.{front_by, next-none, next-by, stop-by}
use Rattle.pruned.proofs.fit.next_len.Goals as goal

pub returns-then-x-c : goal.returns-then-x-c
returns-then-x-c c = next-none c.args.c c.args.j c.args.p.now c.cut-q.result.now c.cut-q.ensures (front_by c.args.c c.cut-q.result.now c.byte_at-x.result c.byte_at-y.result c.byte_at-z.result c.byte_at-x.ensures c.byte_at-y.ensures c.byte_at-z.ensures true c.if-x-c.true)

pub returns-then-b : goal.returns-then-b
returns-then-b c = next-by c.args.c c.args.j c.args.p.now c.cut-q.result.now c.cut-q.ensures (front_by c.args.c c.cut-q.result.now c.byte_at-x.result c.byte_at-y.result c.byte_at-z.result c.byte_at-x.ensures c.byte_at-y.ensures c.byte_at-z.ensures false c.if-x-c.false) c.run_end-n.result c.run_end-n.ensures false (stop-by c.byte_at-b.result _ true c.byte_at-b.ensures c.if-b.true)

pub returns : goal.returns
returns c = next-by c.args.c c.args.j c.args.p.now c.cut-q.result.now c.cut-q.ensures (front_by c.args.c c.cut-q.result.now c.byte_at-x.result c.byte_at-y.result c.byte_at-z.result c.byte_at-x.ensures c.byte_at-y.ensures c.byte_at-z.ensures false c.if-x-c.false) c.run_end-n.result c.run_end-n.ensures true (stop-by c.byte_at-b.result _ false c.byte_at-b.ensures c.if-b.false)
