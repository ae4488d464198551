use Rattle.std.proofs.Common.{◌≡◌, map, take}
use Rattle.hq_copy_definition.specs.Sources.{place_in}
use Rattle.hq_copy_tables.proofs.catalog.places_of.Given as goal

-- the places so far
abbrev pub invariant-loop-column : goal.invariant-loop-column
invariant-loop-column l =
    l.places ≡ map (place_in l.permitted) (take l.column-index l.key)
