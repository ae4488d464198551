use Rattle.std.proofs.Common.{◌≡◌, ◌++◌, map, drop}
use Rattle.hq_base.specs.Due.{mapped}
use Rattle.hq_base.specs.Json.{json_view}
use Rattle.hq_load_catalog.specs.Each.{each, each_from}
use Rattle.hq_load_catalog.specs.Node.{text_at}
use Rattle.hq_load_catalog.proofs.node.texts.Given as goal

-- the texts so far, and then those of the rest
abbrev pub invariant-loop-place : goal.invariant-loop-place
invariant-loop-place l =
    each text_at l.path (map json_view l.list) ≡ mapped (λ rest. l.texts ++ rest) (each_from text_at l.path l.place (map json_view (drop l.place l.list)))
