use mathlib.Core.Path.{◌∙◌, ap}
use native.Mathlib.Omega.{arith}
use lib.Dec.{ltb}
use Rattle.origins.specs.Form.{form_shape}
use Rattle.reader.proofs.Laws.{fits-past, fits_by}
use Rattle.reader.proofs.fits_in.Goals as goal

pub returns-then-i-n : goal.returns-then-i-n
returns-then-i-n c = fits-past (form_shape c.args.g) c.args.i c.args.w _ c.gone_of-n.ensures c.if-i-n.true

pub returns-in-Equal : goal.returns-in-Equal
returns-in-Equal c = ap (ltb _) c.gone_of-n.ensures ∙ fits_by (form_shape c.args.g) c.args.i c.args.w _ _ c.gone_of-n.ensures (omega (arith, c.if-i-n.false)) c.in-Equal.is

pub returns-in-Changed : goal.returns-in-Changed
returns-in-Changed c = ap (ltb _) c.gone_of-n.ensures ∙ fits_by (form_shape c.args.g) c.args.i c.args.w _ _ c.gone_of-n.ensures (omega (arith, c.if-i-n.false)) c.in-Changed.is

pub returns-in-Inside : goal.returns-in-Inside
returns-in-Inside c = ap (ltb _) c.gone_of-n.ensures ∙ fits_by (form_shape c.args.g) c.args.i c.args.w _ _ c.gone_of-n.ensures (omega (arith, c.if-i-n.false)) c.in-Inside.is

pub returns-in-Away : goal.returns-in-Away
returns-in-Away c = fits_by (form_shape c.args.g) c.args.i c.args.w _ _ c.gone_of-n.ensures (omega (arith, c.if-i-n.false)) c.in-Away.is
