use Rattle.std.proofs.Common.{◌≡◌, [], map, drop}
use Rattle.hq_base.specs.Json.{json_view}
use Rattle.hq_model.specs.Meta.{tracked_view}
use Rattle.hq_load_meta_tables.specs.Each.{each_after}
use Rattle.hq_load_meta_tables.specs.Tracked.{tracked_at}
use Rattle.hq_load_meta_tables.proofs.tracking.all_tracked.Given as goal

-- what is left goes behind the tables so far
abbrev pub invariant-loop-place : goal.invariant-loop-place
invariant-loop-place l =
    each_after (tracked_at l.catalog.tables) l.path l.place (map tracked_view l.all) (map json_view (drop l.place l.list)) ≡ each_after (tracked_at l.catalog.tables) l.path 0 [] (map json_view l.list)
