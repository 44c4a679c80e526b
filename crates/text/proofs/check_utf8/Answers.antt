use mathlib.Core.Path.{sym}
use Rattle.text.specs.Utf8Form.{utf8_of}
use Rattle.text.proofs.Scan.{scan-ascii, all-ascii}
use Rattle.text.proofs.check_utf8.Goals as goal

pub returns-then-is_ascii : goal.returns-then-is_ascii
unfolding utf8_of
returns-then-is_ascii c = sym (scan-ascii 0 c.args.text.now (all-ascii c.args.text.now c.if-is_ascii.ensures.cases))
