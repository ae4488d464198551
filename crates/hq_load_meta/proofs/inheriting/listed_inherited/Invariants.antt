use Rattle.std.proofs.Common.{◌≡◌, [], map, drop}
use Rattle.hq_base.specs.Json.{json_view}
use Rattle.hq_load_meta_tables.specs.Each.{each_after}
use Rattle.hq_load_meta.specs.Inheriting.{inherited_at}
use Rattle.hq_load_meta.proofs.inheriting.listed_inherited.Given as goal

-- what is left goes behind the inherited roles so far
abbrev pub invariant-loop-place : goal.invariant-loop-place
invariant-loop-place l =
    let js = map json_view l.entries in
    each_after (inherited_at js) l.path l.place l.inherited (map json_view (drop l.place l.entries)) ≡ each_after (inherited_at js) l.path 0 [] js
