use Rattle.std.proofs.Common.{◌≡◌, ◌++◌, map, drop}
use Rattle.hq_schema_roles.specs.Roles.{new_names}
use Rattle.hq_schema_roles.proofs.roles.add_inherited.Given as goal

-- the roles so far, and the new ones of the entries that are left, are those that are to be there
abbrev pub invariant-loop-entry : goal.invariant-loop-entry
invariant-loop-entry l =
    l.roles ++ new_names l.roles (map (λ i. i.role) (drop l.entry-index l.inherited)) ≡ l.fn.roles ++ new_names l.fn.roles (map (λ i. i.role) l.inherited)
