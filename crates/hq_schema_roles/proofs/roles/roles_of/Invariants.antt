use Rattle.std.proofs.Common.{◌≡◌, ◌++◌, [], map, drop}
use Rattle.std.specs.Prelude.{flat_map}
use Rattle.hq_model.specs.Meta.{tracked_view}
use Rattle.hq_schema_roles.specs.Roles.{new_names}
use Rattle.hq_schema_roles.proofs.roles.roles_of.Given as goal

-- the roles so far, and the new ones of the tables that are left, are those of all
abbrev pub invariant-loop-entry : goal.invariant-loop-entry
invariant-loop-entry l =
    l.roles ++ new_names l.roles (flat_map (λ k. map (λ p. p.role) k.perms) (map tracked_view (drop l.entry-index l.tracked)))
    ≡ new_names [] (flat_map (λ k. map (λ p. p.role) k.perms) (map tracked_view l.tracked))
