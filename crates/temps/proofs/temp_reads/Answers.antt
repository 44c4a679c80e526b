use Rattle.std.proofs.Common.{true, false, sym, arith}
use Rattle.lines.proofs.Tests.{so}
use Rattle.temps.proofs.TempLaws.{reads-bind, reads-words, reads_none}
use Rattle.temps.proofs.temp_reads.Goals as goal

pub returns-then-is_binding : goal.returns-then-is_binding
returns-then-is_binding c = sym (reads-bind c.args.name.now c.args.t.now (so c.is_binding.ensures c.if-is_binding.true))

pub returns-then-n-eq0 : goal.returns-then-n-eq0
returns-then-n-eq0 c = sym (reads_none c.args.name.now c.args.t.now (so c.is_binding.ensures c.if-is_binding.false) c.requires c.count_word-n.result c.count_word-n.ensures c.if-n-eq0.true)

pub returns-then-is_store : goal.returns-then-is_store
returns-then-is_store c = sym (reads-words c.args.name.now c.args.t.now (so c.is_binding.ensures c.if-is_binding.false) c.requires c.count_word-n.result c.count_word-n.ensures true (so c.is_store.ensures c.if-is_store.true))

pub returns : goal.returns
returns c = let r = reads-words c.args.name.now c.args.t.now (so c.is_binding.ensures c.if-is_binding.false) c.requires c.count_word-n.result c.count_word-n.ensures false (so c.is_store.ensures c.if-is_store.false) in omega arith
