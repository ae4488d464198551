use Rattle.std.proofs.Common.{◌≡◌, ◌++◌, map, drop}
use Rattle.hq_copy_tables.specs.Originals.{schema_in}
use Rattle.hq_copy_tables.specs.Views.{source_view}
use Rattle.hq_copy_filter.specs.Lent.{database_of}
use Rattle.hq_copy.specs.Direct.{permitted_lists}
use Rattle.hq_copy.specs.Lists.{lists_of}
use Rattle.hq_model.specs.PermView.{permission_view}
use Rattle.hq_copy.proofs.copying.permitted.Given as goal

-- the lists so far, and then those of the tables that are left
abbrev pub invariant-loop-at : goal.invariant-loop-at
invariant-loop-at l =
    let lists = permitted_lists (schema_in l.original) (database_of l.tables) in
    lists_of l.lists.items ++ lists (map source_view (drop l.at l.sources)) (map permission_view (drop l.at l.grants)) ≡ lists (map source_view l.sources) (map permission_view l.grants)
