-- What a session is granted: for each table perhaps a permission, bound (Hasura, Authorization: select permissions, session
-- variables). With the schema it decides the statement that is asked.
use Rattle.std.specs.Prelude.{ℕ, List, [], false, Option, None, option_and_then, slice_index_or, unwrap_or}
use Rattle.std.specs.Result.{result_ok}
use Rattle.hq_model.specs.Bexp.{never}
use Rattle.hq_model.specs.Binding.{bound_permission}
use Rattle.hq_model.specs.Meta.{MetaTree}
use Rattle.hq_model.specs.Permission.{Permission, permission, role_of}
use Rattle.hq_model.specs.Schema.{Schema, SchemaTable, numbered, schema_of}
use Rattle.hq_model.specs.declared.session.Session.{Session}
use Rattle.hq_model.specs.declared.table.Table.{Table}

-- for each table what the session may see of it; none where it may see nothing or the filter does not bind
abbrev pub Grants : Type 0
Grants = List (Option Permission)

-- what the session is granted of one table: its permission, bound, where there is one that binds
abbrev pub grant_of : Session → MetaTree → Schema → ℕ → SchemaTable → Option Permission
grant_of session meta s t table =
    option_and_then (λ p. result_ok (bound_permission p s session.vars t)) (permission (role_of session.role) meta t)

-- what a session is granted under a catalog and a metadata
abbrev pub grants_of : Session → List Table → MetaTree → Grants
grants_of session tables meta = let s = schema_of tables meta in numbered (grant_of session meta s) 0 s

-- the grant under which nothing is seen: its filter is never true
abbrev pub no_grant : Permission
no_grant = record { columns = []; filter = never; limit = None; aggregations = false; masks = [] }

-- the grant on a table by its place; where there is none, the one whose filter is never true
abbrev pub grant : Grants → ℕ → Permission
grant g t = unwrap_or (slice_index_or g t None) no_grant

-- the most rows of a list of each table
abbrev pub limits : Grants → ℕ → Option ℕ
limits g t = (grant g t).limit
