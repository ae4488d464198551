-- A talk in which nothing has changed.
use Rattle.std.proofs.Common.{refl, arith}
use Rattle.hq_live.specs.Runs.{Standing, Stays}
use Rattle.hq_live_talk.specs.Table.{Talk, Same}

pub stays_same : (s : Standing) → Stays s s
stays_same s = record { due = refl; next = refl; faults = omega arith; subscriptions = refl }

pub same_talk : (s : Talk) → Same s s
same_talk s = record { session = refl; once = refl; live = stays_same s.live }
