-- The schema of each role that a session may have, as an engine keeps them: that of `admin`, that of each role that has a
-- permission or inherits some, by its name, and the one of all other roles.
use Rattle.std.specs.Prelude.{◌≡◌, ℕ, List, [], ◌∷◌, ◌++◌, map, flat_map, Bool, cond, bytes_eq, Option, Some, is_some, unwrap_or}
use Rattle.std.specs.HashMap.{HashMap, get}
use Rattle.std.specs.List.{list_all, list_any}
use Rattle.hq_schema_of_role.specs.RoleSchema.{role_schema}
use Rattle.hq_schema.specs.Schema.{schema_view}
use Rattle.hq_schema.specs.declared.schema.Schema.{Schema}
use Rattle.hq_model.specs.Meta.{MetaTree}
use Rattle.hq_model.specs.declared.role.Role.{Role}
use Rattle.hq_model.specs.declared.role.Role.TheVariants.{Admin, Named}
use Rattle.hq_model.specs.declared.table.Table.{Table}
use Rattle.hq_schema_roles.specs.declared.roles.RoleSchemas.{RoleSchemas}

-- the names of these that stand neither among the earlier ones nor among those before
abbrev pub new_names : (earlier : List (List ℕ)) → List (List ℕ) → List (List ℕ)
new_names earlier [] = []
new_names earlier (n ∷ ns) = cond (list_any (bytes_eq n) earlier) (new_names earlier ns) (n ∷ new_names (earlier ++ n ∷ []) ns)

-- the roles that have a permission, each once
abbrev pub roles_in : MetaTree → List (List ℕ)
roles_in meta = new_names [] (flat_map (λ k. map (λ p. p.role) k.perms) meta.tracked)

-- the roles that may see something: those that have a permission, and behind them the inherited ones that have none
abbrev pub seeing_roles : MetaTree → List (List ℕ)
seeing_roles meta = roles_in meta ++ new_names (roles_in meta) (map (λ i. i.role) meta.inherited)

module _ {S : Type 0} where
  -- the schema that is kept under a name
  abbrev pub kept_for : HashMap (List ℕ) Schema S → (name : List ℕ) → Option Schema
  kept_for kept name = get bytes_eq kept name

  -- each role of these names is kept
  abbrev pub keeps_each : HashMap (List ℕ) Schema S → List (List ℕ) → Bool
  keeps_each kept names = list_all (λ name. is_some (kept_for kept name)) names

  -- what is kept under a name is the schema of that role
  abbrev pub KeepsRoles : List Table → MetaTree → HashMap (List ℕ) Schema S → Type 0
  KeepsRoles tables meta kept = (name : List ℕ) (schema : Schema) → kept_for kept name ≡ Some schema → schema_view schema ≡ role_schema tables meta (Named name)

-- the schema that is found for a role
abbrev pub schema_for : RoleSchemas → Role → Schema
schema_for kept Admin = kept.admin
schema_for kept (Named name) = unwrap_or (kept_for kept.named name) kept.other

-- what is found for each role is its schema
abbrev pub AreRoleSchemas : List Table → MetaTree → RoleSchemas → Type 0
AreRoleSchemas tables meta kept = (role : Role) → schema_view (schema_for kept role) ≡ role_schema tables meta role
