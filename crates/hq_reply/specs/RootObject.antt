-- The object of root fields, in collected order (GraphQL October 2021, 6.2.1: query). A field that starts at a table gives what
-- resolvers give over a database; each other gives what is known without one.
use Rattle.std.specs.Prelude.{ℕ, List, [], length, codes, Bool, false, ◌||◌, Option, Some, None, unwrap_or}
use Rattle.hq_request_tree.specs.Fields.{FieldTrees, no_field, field, FieldTree, column, typename, no_queries, object, list, by_key, aggregate, introspect}
use Rattle.hq_request_tree.specs.Resolve.{resolve}
use Rattle.hq_request_tree.specs.Root.{is_table_field}
use Rattle.hq_base.specs.Json.{JsonTree, null, str, obj, MemberTrees, no_member, member}
use Rattle.hq_request_introspect.specs.Answers.{answered}
use Rattle.hq_schema.specs.Schema.{SchemaTree}
use Rattle.hq_model.specs.Database.{Row}
use Rattle.hq_model.specs.Grants.{Grants, limits}
use Rattle.hq_model.specs.Permitted.{seen_by}
use Rattle.hq_model.specs.Schema.{Schema}

-- what is told to a role that may ask nothing
abbrev pub no_queries_text : List ℕ
no_queries_text = codes "There are no queries available to the current role."

-- what a root field gives without a database: the name of the root's type, the answer of introspection in the role's schema, the
-- text for a role that may ask nothing. None where it starts at a table; what stands at a row is no root field
abbrev pub own_value : SchemaTree → FieldTree → Option JsonTree
own_value schema (typename name) = Some (str name)
own_value schema no_queries = Some (str no_queries_text)
own_value schema (introspect f) = Some (answered schema f)
own_value schema (list o a fs) = None
own_value schema (by_key t key fs) = None
own_value schema (aggregate o a ps) = None
own_value schema (column c) = Some null
own_value schema (object r fs) = Some null

-- the value of a root field, where `of_table` gives those that start at a table
abbrev pub root_value : SchemaTree → (of_table : FieldTree → JsonTree) → FieldTree → JsonTree
root_value schema of_table f = unwrap_or (own_value schema f) (of_table f)

abbrev pub root_members : SchemaTree → (of_table : FieldTree → JsonTree) → FieldTrees → MemberTrees
root_members schema of_table no_field = no_member
root_members schema of_table (field key f fs) = member key (root_value schema of_table f) (root_members schema of_table fs)

-- what resolvers give for a root field that starts at a table, for what is granted of a database
abbrev pub of_database : Schema → Grants → List (List Row) → FieldTree → JsonTree
of_database s g d f = resolve f s (limits g) (seen_by s g d) (length s) []

-- the object that is due
abbrev pub root_object : SchemaTree → Schema → Grants → List (List Row) → FieldTrees → JsonTree
root_object schema s g d fs = obj (root_members schema (of_database s g d) fs)

-- whether a root field starts at a table
abbrev pub has_table_field : FieldTrees → Bool
has_table_field no_field = false
has_table_field (field key f fs) = is_table_field f || has_table_field fs
