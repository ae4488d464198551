use Rattle.std.proofs.Common.{◌∙◌, ap}
use Rattle.hq_base.specs.Text.{has_zero}
use Rattle.hq_base.proofs.Texts.{has_zero-decimal}
use Rattle.hq_command_copy.proofs.causes.digits.Goals as goal

pub returns-clause-clean : goal.returns-clause-clean
returns-clause-clean c = ap has_zero c.in_ok-format.ensures.ok ∙ has_zero-decimal c.args.number c.ranges.number.fits
