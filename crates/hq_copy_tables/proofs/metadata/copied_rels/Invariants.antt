use Rattle.std.proofs.Common.{◌≡◌, map, take}
use Rattle.hq_copy_definition.specs.Metadata.{copied_rel}
use Rattle.hq_copy_tables.specs.Originals.{meta_in, role_in, schema_in}
use Rattle.hq_copy_tables.proofs.metadata.copied_rels.Given as goal

-- the relationships so far
abbrev pub invariant-loop-relationship : goal.invariant-loop-relationship
invariant-loop-relationship l =
    l.rels ≡ map (copied_rel (role_in l.original) (meta_in l.original) (schema_in l.original) l.table) (take l.relationship-index l.relationship-items)
