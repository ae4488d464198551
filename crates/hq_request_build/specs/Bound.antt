-- The permissions of a role on tables, bound for a session (Hasura, Authorization: session variables in permission rules), or
-- the fault of the first operand that has no value.
use Rattle.std.specs.Prelude.{ℕ, List, [], ◌∷◌, Option, Some, None, Result, Ok}
use Rattle.hq_base.specs.Due.{mapped, ◌>>=◌}
use Rattle.hq_model.specs.Bexp.{never}
use Rattle.hq_model.specs.Binding.{bound, bound_permission}
use Rattle.hq_model.specs.Meta.{MetaTree}
use Rattle.hq_model.specs.Permission.{Mask, Permission, permission}
use Rattle.hq_model.specs.Schema.{Schema}
use Rattle.hq_model.specs.declared.bind.BindRefusal.{BindRefusal}
use Rattle.hq_model.specs.declared.role.Role.{Role}
use Rattle.hq_model.specs.declared.session.Var.{Var}
use Rattle.hq_request_tree.specs.Request.{BoundTree}

-- a mask of table t, bound
abbrev pub mask_due : Mask → Schema → List Var → ℕ → Result Mask BindRefusal
mask_due m s vars t = mapped (λ shown. record { column = m.column; shown = shown }) (bound m.shown s vars t)

-- table t with the filter and the masks of a permission
abbrev pub of_table : ℕ → Permission → BoundTree
of_table t p = record { table = t; filter = p.filter; masks = p.masks }

-- a permission on table t, its filter bound and then its masks; where there is none, a filter that is never true
abbrev pub bound_of : Option Permission → Schema → List Var → ℕ → Result BoundTree BindRefusal
bound_of None s vars t = Ok (record { table = t; filter = never; masks = [] })
bound_of (Some p) s vars t = mapped (of_table t) (bound_permission p s vars t)

-- a table with the role's permission on it, bound, and tables in order
abbrev pub bound_due : Role → MetaTree → Schema → List Var → ℕ → Result BoundTree BindRefusal
bound_due role m s vars t = bound_of (permission role m t) s vars t

abbrev pub bounds_due : Role → MetaTree → Schema → List Var → List ℕ → Result (List BoundTree) BindRefusal
bounds_due role m s vars [] = Ok []
bounds_due role m s vars (t ∷ ts) = bound_due role m s vars t >>= λ b. mapped (λ bs. b ∷ bs) (bounds_due role m s vars ts)
