use Rattle.hq_sql_constants.proofs.Chosen.{sifted_at}
use Rattle.hq_sql_constants.proofs.sifted.sifted_each.Goals as goal

pub returns : goal.returns
returns c =
    sifted_at _ _ _ _ _ c.args.stored c.args.positions _ _ _ _ c.in_ok-constants.constants
    c.requires.rows c.requires.asks c.requires.first c.in_ok-constants.ensures.are c.requires.joined c.in_ok-places.ensures
