use Rattle.std.proofs.Common.{◌≡◌, drop, map, find, bytes_eq}
use Rattle.hq_model.specs.Meta.{perm_view}
use Rattle.hq_model_limits.proofs.own.own_limit.Given as goal

abbrev pub invariant-loop-perm : goal.invariant-loop-perm
invariant-loop-perm l = find (λ p. bytes_eq p.role l.name) (map perm_view (drop l.perm-index l.perm-items)) ≡ find (λ p. bytes_eq p.role l.name) (map perm_view l.tracked.perms)
