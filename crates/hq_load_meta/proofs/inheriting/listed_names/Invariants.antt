use Rattle.std.proofs.Common.{◌≡◌, map, drop}
use Rattle.hq_base.specs.Json.{json_view}
use Rattle.hq_load_meta_tables.specs.Each.{each, each_after}
use Rattle.hq_load_meta_tables.specs.Node.{text_at}
use Rattle.hq_load_meta.proofs.inheriting.listed_names.Given as goal

-- what is left goes behind the names so far
abbrev pub invariant-loop-place : goal.invariant-loop-place
invariant-loop-place l = each_after (λ before. text_at) l.path l.place l.names (map json_view (drop l.place l.list)) ≡ each text_at l.path (map json_view l.list)
