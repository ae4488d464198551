use Rattle.std.proofs.Common.{◌∙◌, Some, ap, sym}
use Rattle.std.proofs.lemmas.Option.{slice_get-get_or}
use Rattle.hq_copy.proofs.redacting.push_rows.Goals as goal

pub of-requires : goal.of-requires
of-requires c =
    let t = c.index-tables-at.result in
    c.requires.valid t (slice_get-get_or c.args.tables.now c.args.at t c.requires.within ∙ ap Some (sym c.index-tables-at.is))
