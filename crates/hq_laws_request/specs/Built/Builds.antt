-- What building the typed request of a valid document refuses.
use Rattle.std.specs.Prelude.{◌≡◌, ℕ, List, Bool, true, false, Option, None, Ok}
use Rattle.std.specs.Option.{option_map_or}
use Rattle.hq_base.specs.Json.{JsonTree}
use Rattle.hq_base.specs.Lists.{Each}
use Rattle.hq_model.specs.Catalog.{is_catalog}
use Rattle.hq_model.specs.Fits.{fits}
use Rattle.hq_model.specs.Meta.{MetaTree}
use Rattle.hq_model.specs.Permission.{role_of}
use Rattle.hq_model.specs.declared.session.Session.{Session}
use Rattle.hq_model.specs.declared.table.Table.{Table}
use Rattle.hq_gql_tree.specs.Documents.{VarDefTree, DocumentTree}
use Rattle.hq_gql_tree.specs.Values.{ValueTree, variable}
use Rattle.hq_request_coerce.specs.Choice.{operation_at, chosen}
use Rattle.hq_request_coerce.specs.Due.{variables_of, variables_due}
use Rattle.hq_request_coerce.specs.Variables.{VarTree}
use Rattle.hq_schema_of_role.specs.RoleSchema.{role_schema}
use Rattle.hq_rules_doc.specs.First.{first_doc_fault}
use Rattle.hq_rules_fields.specs.First.{first_field_fault}
use Rattle.hq_request_build.specs.Due.{build_due}
use Rattle.hq_laws_request.specs.Built.Refusing.{IsBuilding}

-- a default is a constant: no variable (GraphQL October 2021, 2.10)
abbrev pub is_constant : ValueTree → Bool
is_constant (variable name) = false
is_constant v = true

abbrev pub has_constant : VarDefTree → Bool
has_constant v = option_map_or (λ p. is_constant p.value) v.default true

-- A document violates no rule for the schema of the session's role, the query that is asked for has constants as defaults, as each
-- that is parsed has, and its variables are coerced: the request is built, or one of these rules is broken.
abbrev pub DocumentBuilds : List Table → MetaTree → Session → DocumentTree → (name : Option (List ℕ)) → (given : Option JsonTree) → (op : ℕ) → List VarTree → Type 0
DocumentBuilds tables m session d name given op vars =
    first_doc_fault (role_schema tables m (role_of session.role)) d ≡ None → first_field_fault (role_schema tables m (role_of session.role)) d ≡ None
    → chosen d name ≡ Ok op → Each (λ v. has_constant v ≡ true) (variables_of (operation_at d op))
    → variables_due (role_schema tables m (role_of session.role)) d op given ≡ Ok vars
    → IsBuilding (build_due d op vars (role_schema tables m (role_of session.role)) tables m session)

-- over a catalog and a metadata that fits it, so is each such document
abbrev pub ValidBuilds : List Table → MetaTree → Session → Type 0
ValidBuilds tables m session =
    is_catalog tables ≡ true → fits tables m ≡ true
    → (d : DocumentTree) (name : Option (List ℕ)) (given : Option JsonTree) (op : ℕ) (vars : List VarTree) → DocumentBuilds tables m session d name given op vars
