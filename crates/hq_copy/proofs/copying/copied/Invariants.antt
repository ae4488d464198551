use Rattle.std.proofs.Common.{◌≡◌, ◌++◌, map, drop}
use Rattle.hq_copy_tables.specs.Originals.{meta_in, role_in, schema_in}
use Rattle.hq_copy_tables.specs.Views.{source_view}
use Rattle.hq_copy_filter.specs.Lent.{database_of}
use Rattle.hq_copy.specs.Direct.{direct_lists, rows_for}
use Rattle.hq_copy.specs.Lists.{lists_of}
use Rattle.hq_model.specs.PermView.{permission_view}
use Rattle.hq_copy.proofs.copying.copied.Given as goal

-- the lists so far, and then those of the tables that are left
abbrev pub invariant-loop-at : goal.invariant-loop-at
invariant-loop-at l =
    let o = l.world.original.now in
    let lists = direct_lists (role_in o) (meta_in o) (schema_in o) (database_of l.world.tables.now) (rows_for (map source_view o.sources.now) (lists_of l.world.permitted.now)) in
    l.all.items ++ lists (map source_view (drop l.at l.sources)) (map permission_view (drop l.at l.grants)) (lists_of (drop l.at l.world.permitted.now))
    ≡ lists (map source_view l.sources) (map permission_view l.grants) (lists_of l.world.permitted.now)
