-- A second resolver, over a view alone, and what it has to do with the one over a database (Hasura, Authorization: row and
-- column permissions).
use Rattle.std.specs.Prelude.{◌≡◌, ℕ, List, length, Bool, true, Option, Some, None, is_some, slice_get, slice_index_or, ◌==◌}
use Rattle.std.specs.List.{list_any}
use Rattle.hq_base.specs.Json.{JsonTree, obj}
use Rattle.hq_model.specs.Database.{Row}
use Rattle.hq_model.specs.Grants.{Grants, grants_of, limits}
use Rattle.hq_model.specs.Meta.{MetaTree}
use Rattle.hq_model.specs.Permission.{Permission, role_of}
use Rattle.hq_model.specs.Schema.{Schema, schema_of, table}
use Rattle.hq_model.specs.View.{View, view, seen_in, Agree}
use Rattle.hq_model.specs.declared.session.Session.{Session}
use Rattle.hq_model.specs.declared.table.Table.{Table}
use Rattle.hq_request_tree.specs.Fields.{FieldTrees}
use Rattle.hq_request_tree.specs.Request.{AskTree}
use Rattle.hq_request_tree.specs.Resolve.{resolve_all, resolved}
use Rattle.hq_request_tree.specs.Allowed.{Allowed}
use Rattle.hq_request_tree.specs.Standing.{AllStand}
use Rattle.hq_request_tree.specs.Uses.{UsesAll}
use Rattle.hq_request_tree.specs.WellFormed.{IsRequest}

-- The JSON of root fields over a view: a row is its position, and neither a database nor a filter nor a hidden cell is among
-- the arguments. Each table has perhaps a limit on the rows of a list
abbrev pub resolved_in : FieldTrees → Schema → (limit : ℕ → Option ℕ) → View → JsonTree
resolved_in fs s limit v = obj (resolve_all fs s limit (seen_in v) (length s) 0)

-- a column may be read where it is granted; of a table of which nothing is granted there is no row to read
abbrev pub is_readable_in : Option Permission → ℕ → Bool
is_readable_in None c = true
is_readable_in (Some p) c = list_any (λ d. d == c) p.columns

-- what is granted: the columns, the relationships that there are, and all tables
abbrev pub granted : Schema → Grants → Allowed
granted s g = record {
  column = λ t c. is_readable_in (slice_index_or g t None) c;
  relationship = λ t r. is_some (slice_get (table s t).rels r);
  rows = λ t. true;
  aggregates = λ t. true;
}

-- fields that use what is granted are answered over a database as over the view of it
abbrev pub ResolvesAlike : FieldTrees → Schema → Grants → List (List Row) → Type 0
ResolvesAlike fs s g d =
    AllStand fs s (length s) → UsesAll fs s (granted s g) (length s) → resolved fs s g d ≡ resolved_in fs s (limits g) (view s g d)

-- a well-formed request of a session is answered as over the view of the session
abbrev pub ViewsDecide : List Table → MetaTree → Session → AskTree → List (List Row) → Type 0
ViewsDecide tables m session a d =
    let s = schema_of tables m in
    let g = grants_of session tables m in
    a.role ≡ role_of session.role → IsRequest tables m a → resolved a.fields s g d ≡ resolved_in a.fields s (limits g) (view s g d)

-- over databases that agree for its session it is answered alike
abbrev pub WorldsAgree : List Table → MetaTree → Session → AskTree → (d e : List (List Row)) → Type 0
WorldsAgree tables m session a d e =
    let s = schema_of tables m in
    let g = grants_of session tables m in
    a.role ≡ role_of session.role → IsRequest tables m a → Agree s g d e → resolved a.fields s g d ≡ resolved a.fields s g e
