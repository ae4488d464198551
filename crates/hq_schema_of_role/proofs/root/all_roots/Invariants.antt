use Rattle.std.proofs.Common.{◌≡◌, ◌++◌, map, drop}
use Rattle.std.specs.Prelude.{flat_map}
use Rattle.hq_schema.specs.Schema.{field_view}
use Rattle.hq_schema_of_role.specs.Root.{root_fields}
use Rattle.hq_schema_of_role.proofs.root.all_roots.Given as goal

abbrev pub invariant-loop-placed : goal.invariant-loop-placed
invariant-loop-placed l =
    map field_view l.fields.items ++ flat_map root_fields (drop l.placed-index l.placed-items) ≡ flat_map root_fields l.placed-items
