-- The schema that a catalog and its metadata describe.
use Rattle.hq_model.specs.Meta.{meta_view}
use Rattle.hq_model.specs.Schema.{Schema, schema_of}
use Rattle.hq_model.specs.declared.scope.Described.{Described}

-- the schema of its catalog and metadata
abbrev pub scope_schema : Described → Schema
scope_schema scope = schema_of scope.catalog.now.tables (meta_view scope.meta.now)
