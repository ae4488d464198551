use Rattle.std.proofs.Common.{◌≡◌, length, ap, arith}
use Rattle.std.proofs.lemmas.List.{length-map}
use Rattle.hq_copy_filter.specs.Lent.{database_of}
use Rattle.hq_copy_filter.proofs.Tables.{told_rows, valid_rows}
use Rattle.hq_copy_filter.proofs.loaded.all_rows.Goals as goal

pub returns-clause-valid : goal.returns-clause-valid
returns-clause-valid g c =
    let tables = c.args.tables.now in
    let ts = g.T.Tables.tables tables in
    let all = c.loop-at.all.items in
    let long : length (database_of all) ≡ length ts =
    omega (
      arith,
      length-map all (λ rows. rows.now),
      c.loop-at.invariant.long,
      c.loop-at-test.false,
      ap length c.catalog.ensures,
      c.len-count.ensures,
    ) in
    valid_rows ts (database_of all) (g.T.Tables.rows tables) long (λ t lt. c.loop-at.invariant.rows t (omega (arith, lt, long, length-map all (λ rows. rows.now), c.loop-at.invariant.long)))
    (λ t lt. g.met.T.Tables.pinned_fits tables t (c.requires t lt))

pub returns-clause-told : goal.returns-clause-told
returns-clause-told g c =
    let tables = c.args.tables.now in
    let ts = g.T.Tables.tables tables in
    let all = c.loop-at.all.items in
    let long : length (database_of all) ≡ length ts =
    omega (
      arith,
      length-map all (λ rows. rows.now),
      c.loop-at.invariant.long,
      c.loop-at-test.false,
      ap length c.catalog.ensures,
      c.len-count.ensures,
    ) in
    told_rows ts (database_of all) (g.T.Tables.rows tables) (g.T.Tables.database tables) long
    (λ t lt. c.loop-at.invariant.rows t (omega (arith, lt, long, length-map all (λ rows. rows.now), c.loop-at.invariant.long)))
    (g.met.T.Tables.database_fits tables) (λ t lt. g.met.T.Tables.pinned_told tables t (c.requires t lt))
