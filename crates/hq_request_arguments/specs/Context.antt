-- What the arguments of a field are read against.
use Rattle.std.specs.Prelude.{List, map}
use Rattle.hq_schema.specs.Schema.{SchemaTree, schema_view}
use Rattle.hq_model.specs.Schema.{Schema}
use Rattle.hq_model.specs.Described.{scope_schema}
use Rattle.hq_request_coerce.specs.Variables.{VarTree, var_view}
use Rattle.hq_request_arguments.specs.declared.context.Context.{Context as RustContext}

-- the coerced variables of the operation, the schema of the role, and the tables behind it
pub record Context : Type 0 where
  pub vars : List VarTree
  pub schema : SchemaTree
  pub tables : Schema

-- what a context is seen as
abbrev pub context_view : RustContext → Context
context_view c = record { vars = map var_view c.vars.now; schema = schema_view c.schema.now; tables = scope_schema c.scope }
