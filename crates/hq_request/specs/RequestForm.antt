-- The form of a request: an object whose member `query` is a text; its member `variables` is an object, null or absent,
-- and its member `operationName` a text, null or absent (Hasura v2 documentation, GraphQL API reference).
use Rattle.std.specs.Prelude.{ℕ, List, Bool, true, false, ◌&&◌, cond, codes, Option, Some, None, option_and_then}
use Rattle.hq_base.specs.Json.{JsonTree, null, str, obj}
use Rattle.hq_base.specs.Look.{str_in, member_in}
use Rattle.hq_gql_tree.specs.declared.rule.RuleId.TheVariants.{RequestForm}
use Rattle.hq_faults.specs.Faults.{fault_at}
use Rattle.hq_faults.specs.declared.faults.RequestFault.{RequestFault}

-- an object, null or absent
abbrev pub may_be_variables : Option JsonTree → Bool
may_be_variables None = true
may_be_variables (Some null) = true
may_be_variables (Some (obj members)) = true
may_be_variables (Some other) = false

-- a text, null or absent
abbrev pub may_be_name : Option JsonTree → Bool
may_be_name None = true
may_be_name (Some null) = true
may_be_name (Some (str name)) = true
may_be_name (Some other) = false

abbrev pub form_fault : RequestFault
form_fault = fault_at RequestForm None

-- the query text of a body that has the form of a request
abbrev pub query_in : JsonTree → Option (List ℕ)
query_in body =
    cond (may_be_variables (member_in body (codes "variables")) && may_be_name (member_in body (codes "operationName"))) (option_and_then str_in (member_in body (codes "query"))) None
