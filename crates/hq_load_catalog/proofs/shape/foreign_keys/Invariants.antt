use Rattle.std.proofs.Common.{◌≡◌, ◌++◌, map, drop}
use Rattle.hq_base.specs.Due.{mapped}
use Rattle.hq_base.specs.Json.{json_view}
use Rattle.hq_load_catalog.specs.Each.{each, each_from}
use Rattle.hq_load_catalog.specs.Shape.{foreign_key_at}
use Rattle.hq_load_catalog.proofs.shape.foreign_keys.Given as goal

-- the foreign keys so far, and then those of the rest
abbrev pub invariant-loop-place : goal.invariant-loop-place
invariant-loop-place l =
    each foreign_key_at l.path (map json_view l.list) ≡ mapped (λ rest. l.keys ++ rest) (each_from foreign_key_at l.path l.place (map json_view (drop l.place l.list)))
