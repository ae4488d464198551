use Rattle.std.proofs.Common.{◌≡◌, ◌++◌, drop, map}
use Rattle.hq_model.specs.Meta.{meta_view}
use Rattle.hq_request_tree.specs.Request.{bound_view}
use Rattle.hq_compile.specs.GrantedTrees.{granted_view, granted_all}
use Rattle.hq_compile.proofs.grants.granted_all.Given as goal

abbrev pub invariant-loop-bound : goal.invariant-loop-bound
invariant-loop-bound l =
    map granted_view l.granted ++ granted_all l.role l.catalog.tables (meta_view l.meta) (map bound_view (drop l.bound-index l.bounds))
    ≡ granted_all l.role l.catalog.tables (meta_view l.meta) (map bound_view l.bounds)
