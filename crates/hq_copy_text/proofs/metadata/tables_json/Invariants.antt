use Rattle.std.proofs.Common.{◌≡◌, map, take}
use Rattle.hq_base.specs.Json.{json_view}
use Rattle.hq_model.specs.Meta.{tracked_view}
use Rattle.hq_laws_written.specs.Metadata.Written.{tracked_json}
use Rattle.hq_copy_text.proofs.metadata.tables_json.Given as goal

-- the tables so far
abbrev pub invariant-loop-tracked : goal.invariant-loop-tracked
invariant-loop-tracked l =
    map json_view l.all.items ≡ map (tracked_json l.tables) (map tracked_view (take l.tracked-index l.tracked-items))
