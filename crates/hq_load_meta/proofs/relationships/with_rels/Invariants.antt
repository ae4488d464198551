use Rattle.std.proofs.Common.{◌≡◌, ◌++◌, length, map}
use Rattle.hq_model.specs.Meta.{tracked_view}
use Rattle.hq_load_meta.specs.Related.{rels_beside}
use Rattle.hq_load_meta.proofs.relationships.with_rels.Given as goal

-- the tables so far, and then those of the rest
abbrev pub invariant-tables : goal.invariant-tables
invariant-tables l =
    map tracked_view l.tracked ++ rels_beside (map tracked_view l.tables.items) l.rels.items ≡ rels_beside (map tracked_view l.initial.tables.items) l.initial.rels.items

abbrev pub decreases-tables : goal.decreases-tables
decreases-tables l = length l.tables.items
