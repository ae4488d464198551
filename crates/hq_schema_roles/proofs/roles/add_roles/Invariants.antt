use Rattle.std.proofs.Common.{◌≡◌, ◌++◌, ℕ, List, map, drop}
use Rattle.hq_model.specs.Meta.{perm_view}
use Rattle.hq_schema_roles.specs.Roles.{new_names}
use Rattle.hq_schema_roles.proofs.roles.add_roles.Given as goal

-- the roles so far, and the new ones of the permissions that are left, are those that are to be there
abbrev pub invariant-loop-perm : goal.invariant-loop-perm
invariant-loop-perm l =
    (rest : List (List ℕ)) → l.roles ++ new_names l.roles (map (λ p. p.role) (map perm_view (drop l.perm-index l.perms)) ++ rest)
    ≡ l.fn.roles ++ new_names l.fn.roles (map (λ p. p.role) (map perm_view l.perms) ++ rest)
