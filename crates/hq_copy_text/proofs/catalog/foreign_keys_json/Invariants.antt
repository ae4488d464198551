use Rattle.std.proofs.Common.{◌≡◌, map, take}
use Rattle.hq_base.specs.Json.{json_view}
use Rattle.hq_laws_written.specs.Catalog.Written.{foreign_json}
use Rattle.hq_copy_text.proofs.catalog.foreign_keys_json.Given as goal

-- the keys so far
abbrev pub invariant-loop-key : goal.invariant-loop-key
invariant-loop-key l =
    map json_view l.all.items ≡ map (foreign_json l.tables l.table) (take l.key-index l.key-items)
