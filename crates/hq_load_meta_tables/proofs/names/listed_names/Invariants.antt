use Rattle.std.proofs.Common.{◌≡◌, map, take, option_map}
use Rattle.hq_base.specs.Json.{json_view}
use Rattle.hq_load_meta_tables.specs.Configured.{column_name_of}
use Rattle.hq_load_meta_tables.proofs.names.listed_names.Given as goal

-- the names so far
abbrev pub invariant-loop-column : goal.invariant-loop-column
invariant-loop-column l =
    l.names ≡ map (column_name_of (option_map (λ j. json_view j.now) l.config) (option_map (λ j. json_view j.now) l.texts)) (take l.column-index l.columns)
