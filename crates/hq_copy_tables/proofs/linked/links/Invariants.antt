use Rattle.std.proofs.Common.{◌≡◌, ◌++◌, map, drop}
use Rattle.hq_copy_tables.specs.Linked.{links_over}
use Rattle.hq_copy_tables.specs.Views.{link_view, source_view}
use Rattle.hq_model.specs.Meta.{meta_view}
use Rattle.hq_model.specs.Described.{scope_schema}
use Rattle.hq_copy_tables.proofs.linked.links.Given as goal

-- those so far, and then those of the tables that are left
abbrev pub invariant-loop-source : goal.invariant-loop-source
invariant-loop-source l =
    let over = links_over l.role (meta_view l.scope.meta.now) (scope_schema l.scope) in
    map link_view l.links.items ++ over (map source_view (drop l.source-index l.sources)) ≡ over (map source_view l.sources)
