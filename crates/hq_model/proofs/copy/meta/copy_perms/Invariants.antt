use Rattle.std.proofs.Common.{◌≡◌, map, take}
use Rattle.hq_model.specs.Meta.{perm_view}
use Rattle.hq_model.proofs.copy.meta.copy_perms.Given as goal

abbrev pub invariant-loop-perm : goal.invariant-loop-perm
invariant-loop-perm l = map perm_view l.copy ≡ map perm_view (take l.perm-index l.perm-items)
