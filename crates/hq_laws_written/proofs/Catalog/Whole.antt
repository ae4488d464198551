-- A catalog's value in name order gives the catalog.
use Rattle.std.proofs.Common.{◌≡◌, nat_lt, List, length, true, Ok}
use Rattle.std.proofs.lemmas.Bool.{and_parts}
use Rattle.hq_base.proofs.Lists.{each_weaken}
use Rattle.hq_model.specs.Catalog.{is_catalog}
use Rattle.hq_model.specs.declared.table.Table.{Table}
use Rattle.hq_load_catalog.specs.Reading.{catalog_of}
use Rattle.hq_laws_written.specs.Json.ReadBack.{in_name_order}
use Rattle.hq_laws_written.specs.Catalog.Written.{catalog_json}
use Rattle.hq_laws_written.proofs.Catalog.Lists.{at_each}
use Rattle.hq_laws_written.proofs.Catalog.Shapes.{tables_back}
use Rattle.hq_laws_written.proofs.Catalog.Tests.{IsGood, all_good, not_too_many, right_lengths, none_repeated, each_keyed}
use Rattle.hq_laws_written.proofs.Catalog.Resolving.{resolved_back}

pub catalog_back : (tables : List Table) → is_catalog tables ≡ true → catalog_of (in_name_order (catalog_json tables)) ≡ Ok tables
unfolding catalog_of
catalog_back tables is =
    let p = and_parts _ _ is in
    let q = and_parts _ _ p.0 in
    let good = all_good tables tables p.1 in
    rw (tables_back tables (each_weaken (IsGood tables) (λ t. nat_lt 0 (length t.columns) ≡ true) (λ t g. g.some) tables good))
    (rw (not_too_many tables q.0 good, right_lengths tables tables good, none_repeated tables tables q.1 good, each_keyed tables tables good)
    (resolved_back tables q.1 (λ k u e. at_each (IsGood tables) tables good k u e) good))
