use Rattle.std.proofs.Common.{◌≤◌, List, length, sym, subst}
use Rattle.hq_model.specs.Database.{Row}
use Rattle.hq_load.proofs.Catalogs.{few_tables}
use Rattle.hq_command.proofs.checking.write_check.Goals as goal

pub count_rows-rows-requires : goal.count_rows-rows-requires
count_rows-rows-requires g c =
    let loaded = c.args.loaded.now in
    subst (λ (d : List (List Row)). length d ≤ 500) (sym c.as_slice.ensures) (few_tables loaded.catalog.tables loaded.rows loaded.catalog.valid loaded.database)
