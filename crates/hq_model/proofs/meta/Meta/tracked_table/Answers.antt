use Rattle.std.specs.Prelude.{◌==◌}
use Rattle.hq_model.specs.Meta.{tracked_view}
use Rattle.hq_model.proofs.Lists.{found_seen}
use Rattle.hq_model.proofs.meta.Meta.tracked_table.Goals as goal

pub returns : goal.returns
returns c = found_seen (λ k. k.table == c.args.t) tracked_view _ _ c.tracked_at.ensures
