use Rattle.hq_sql_access.specs.View.{world_of}
use Rattle.hq_sql_scans.specs.Ordered.{places_looked}
use Rattle.hq_sql_tree.specs.View.{filter_view}
use Rattle.hq_sql_constants.specs.Walked.{KeepsAlike}
use Rattle.hq_sql_constants.proofs.Chosen.{keeps_both}
use Rattle.hq_sql_constants.proofs.sifted.left_of.Goals as goal

pub in_range-requires : goal.in_range-requires
in_range-requires c = rw c.places_looked.ensures c.requires

pub returns-in-Some : goal.returns-in-Some
returns-in-Some c =
    let alike : KeepsAlike c.args.joins.now c.args.alias.now (filter_view c.args.filter.now) c.args.source (places_looked c.args.looked) c.in_ok-positions.positions =
    rw c.places_looked.ensures at c.in_ok-positions.ensures in
    keeps_both _ _ _ _ _ _ _ (rw c.in-Some.is at c.in_ok-places.ensures) (alike (world_of c.args.world.now))

pub returns-in-None : goal.returns-in-None
returns-in-None c =
    let alike : KeepsAlike c.args.joins.now c.args.alias.now (filter_view c.args.filter.now) c.args.source (places_looked c.args.looked) c.in_ok-positions.positions =
    rw c.places_looked.ensures at c.in_ok-positions.ensures in
    alike (world_of c.args.world.now)
