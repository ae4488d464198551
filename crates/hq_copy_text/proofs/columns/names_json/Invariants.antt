use Rattle.std.proofs.Common.{◌≡◌, map, take}
use Rattle.hq_base.specs.Json.{json_view, str}
use Rattle.hq_laws_written.specs.Catalog.Written.{name_at}
use Rattle.hq_copy_text.proofs.columns.names_json.Given as goal

-- the names so far
abbrev pub invariant-loop-c : goal.invariant-loop-c
invariant-loop-c l =
    map json_view l.names.items ≡ map str (map (name_at l.columns) (take l.c-index l.places))
