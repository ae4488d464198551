use Rattle.std.proofs.Common.{ap}
use Rattle.hq_copy_definition.specs.Copied.{copied}
use Rattle.hq_laws_copy.proofs.view_laws.copies_agree.Goals as goal

pub returns : goal.returns
returns c tables m session d e agree = ap (copied tables m session) agree
