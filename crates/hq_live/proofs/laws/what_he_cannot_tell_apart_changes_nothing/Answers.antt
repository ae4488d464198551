use Rattle.hq_live.proofs.Alike.{alike}
use Rattle.hq_live.proofs.laws.what_he_cannot_tell_apart_changes_nothing.Goals as goal

pub returns : goal.returns
returns c = alike
