use Rattle.std.proofs.Common.{◌≡◌, map, take}
use Rattle.hq_model.specs.Meta.{tracked_view}
use Rattle.hq_load_meta_tables.proofs.tracking.tables_of.Given as goal

-- the places so far
abbrev pub invariant-loop-tracked : goal.invariant-loop-tracked
invariant-loop-tracked l =
    l.tables ≡ map (λ k. k.table) (map tracked_view (take l.tracked-index l.meta.tracked))
