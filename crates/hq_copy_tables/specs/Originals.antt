-- The role, the metadata and the schema of what is copied.
use Rattle.std.specs.Prelude.{◌≡◌, map}
use Rattle.hq_copy_definition.specs.Sources.{links, sources}
use Rattle.hq_copy_tables.specs.Views.{link_view, source_view}
use Rattle.hq_copy_tables.specs.declared.original.Original.{Original}
use Rattle.hq_model.specs.Meta.{MetaTree, meta_view}
use Rattle.hq_model.specs.Schema.{Schema}
use Rattle.hq_model.specs.Described.{scope_schema}
use Rattle.hq_model.specs.declared.role.Role.{Role}

abbrev pub role_in : Original → Role
role_in o = o.role.now

abbrev pub meta_in : Original → MetaTree
meta_in o = meta_view o.scope.meta.now

abbrev pub schema_in : Original → Schema
schema_in o = scope_schema o.scope

-- the tables are those of which the role may see something, and the links are those between them
pub record IsOriginal (o : Original) : Type 0 where
  pub seen : map source_view o.sources.now ≡ sources (role_in o) (meta_in o)
  pub linked : map link_view o.links.now ≡ links (role_in o) (meta_in o) (schema_in o)
