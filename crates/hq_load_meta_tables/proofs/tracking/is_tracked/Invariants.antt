use Rattle.std.proofs.Common.{◌≡◌, ◌==◌, map, drop}
use Rattle.std.specs.List.{list_any}
use Rattle.hq_model.specs.Meta.{tracked_view}
use Rattle.hq_load_meta_tables.proofs.tracking.is_tracked.Given as goal

-- the table is one of those that are left
abbrev pub invariant-loop-entry : goal.invariant-loop-entry
invariant-loop-entry l =
    list_any (λ k. k.table == l.table) (map tracked_view (drop l.entry-index l.tracked)) ≡ list_any (λ k. k.table == l.table) (map tracked_view l.tracked)
