use Rattle.std.proofs.Common.{◌<◌, length, sym, subst}
use Rattle.hq_sql_scans.specs.Positions.{positions_of}
use Rattle.hq_sql_constants.specs.Ranged.{HaveSame}
use Rattle.hq_sql_constants.proofs.Chosen.{ranged_at}
use Rattle.hq_sql_constants.proofs.sifted.sifted_between.Goals as goal

pub places_between-requires-clause-some : goal.places_between-requires-clause-some
places_between-requires-clause-some c = subst (λ bs. 0 < length bs) (sym c.as_slice-bounds.ensures.value) c.requires.asks.some

pub returns : goal.returns
returns c =
    let rows = c.args.rows.now in
    let column = c.in-Some.column in
    let bs = c.args.asked.bounds.items in
    let places = c.in_ok-places.places.items in
    let first = rw c.in-Some.is at c.column_named.ensures in
    let same : HaveSame column rows bs places (positions_of c.args.positions) =
    subst (λ xs. HaveSame column rows xs places (positions_of c.args.positions)) c.as_slice-bounds.ensures.value c.in_ok-places.ensures in
    ranged_at _ _ _ _ _ c.args.stored c.args.positions rows column places bs c.requires.rows c.requires.asks first c.requires.joined same
