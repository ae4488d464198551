-- Laws of the touched tables that are bound for a session.
use Rattle.std.specs.Prelude.{◌≡◌, ℕ, List, map, length, Some, Ok, Err}
use Rattle.hq_model.specs.Binding.{bound}
use Rattle.hq_model.specs.Meta.{MetaTree}
use Rattle.hq_model.specs.Permission.{Permission, permission, role_of}
use Rattle.hq_model.specs.Schema.{Schema, schema_of}
use Rattle.hq_model.specs.declared.bind.BindRefusal.{BindRefusal}
use Rattle.hq_model.specs.declared.role.Role.{Role}
use Rattle.hq_model.specs.declared.session.Session.{Session}
use Rattle.hq_model.specs.declared.session.Var.{Var}
use Rattle.hq_model.specs.declared.table.Table.{Table}
use Rattle.hq_request_tree.specs.Sessions.{IsFor}
use Rattle.hq_request_tree.specs.Touched.{touched}
use Rattle.hq_request_tree.specs.Fields.{FieldTrees}
use Rattle.hq_request_tree.specs.Request.{BoundTree, AskTree}
use Rattle.hq_request_build.specs.Bound.{bound_due, bounds_due}

-- the typed request of a session with these root fields and touched tables
abbrev pub request_of : Session → FieldTrees → List BoundTree → AskTree
request_of session fs bs = record { role = role_of session.role; fields = fs; bound = bs }

-- the touched tables are those of the fields, and they are bound for the session
pub record IsBound (tables : List Table) (m : MetaTree) (session : Session) (fs : FieldTrees) (bs : List BoundTree) : Type 0 where
  pub touches : map (λ b. b.table) bs ≡ touched fs (schema_of tables m) (length tables)
  pub is_for : IsFor (schema_of tables m) m session (request_of session fs bs)

abbrev pub BoundForSession : List Table → MetaTree → Session → FieldTrees → Type 0
BoundForSession tables m session fs =
    (bs : List BoundTree) → bounds_due (role_of session.role) m (schema_of tables m) session.vars (touched fs (schema_of tables m) (length tables)) ≡ Ok bs
    → IsBound tables m session fs bs

-- what is refused of a table is what is refused of the filter on it: a mask adds no fault
abbrev pub FiltersRefuse : Role → MetaTree → Schema → List Var → ℕ → Type 0
FiltersRefuse role m s vars t = (p : Permission) (e : BindRefusal) → permission role m t ≡ Some p → bound_due role m s vars t ≡ Err e → bound p.filter s vars t ≡ Err e
