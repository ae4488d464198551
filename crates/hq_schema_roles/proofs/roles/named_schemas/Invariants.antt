use Rattle.std.proofs.Common.{◌≡◌, true, take}
use Rattle.hq_model.specs.Meta.{meta_view}
use Rattle.hq_schema_roles.specs.Roles.{KeepsRoles, keeps_each}
use Rattle.hq_schema_roles.proofs.roles.named_schemas.Given as goal

-- the roles so far are kept, and what is kept is theirs
abbrev pub invariant-loop-name : goal.invariant-loop-name
invariant-loop-name l = record {
  each : keeps_each l.kept (take l.name-index l.names) ≡ true;
  right : KeepsRoles l.catalog.tables (meta_view l.meta) l.kept;
}
