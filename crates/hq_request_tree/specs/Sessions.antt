-- A typed request of a session: it has the session's role, and what it grants of a touched table is what the session is
-- granted of it (Hasura, Authorization: session variables).
use Rattle.std.specs.Prelude.{◌≡◌, ℕ, option_and_then, Option}
use Rattle.std.specs.Result.{result_ok}
use Rattle.hq_base.specs.Lists.{Each}
use Rattle.hq_model.specs.Binding.{bound_permission}
use Rattle.hq_model.specs.Meta.{MetaTree}
use Rattle.hq_model.specs.Permission.{Permission, permission, role_of}
use Rattle.hq_model.specs.Schema.{Schema}
use Rattle.hq_model.specs.declared.session.Session.{Session}
use Rattle.hq_request_tree.specs.Request.{AskTree, grant_in}

-- what a session is granted of a table: the permission of its role, bound, where there is one that binds
abbrev pub session_grant : Session → MetaTree → Schema → ℕ → Option Permission
session_grant session m s t = option_and_then (λ p. result_ok (bound_permission p s session.vars t)) (permission (role_of session.role) m t)

pub record IsFor (s : Schema) (m : MetaTree) (session : Session) (a : AskTree) : Type 0 where
  pub role : a.role ≡ role_of session.role
  pub bound : Each (λ b. grant_in a m b.table ≡ session_grant session m s b.table) a.bound
