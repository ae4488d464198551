use Rattle.std.proofs.Common.{◌≡◌, map, drop, bytes_eq}
use Rattle.std.specs.List.{list_any}
use Rattle.hq_model.specs.Meta.{perm_view}
use Rattle.hq_load_meta.proofs.permissions.has_role.Given as goal

-- the role is that of one of those that are left
abbrev pub invariant-loop-perm : goal.invariant-loop-perm
invariant-loop-perm l =
    list_any (λ p. bytes_eq p.role l.role) (map perm_view (drop l.perm-index l.perms)) ≡ list_any (λ p. bytes_eq p.role l.role) (map perm_view l.perms)
