use Rattle.std.proofs.Common.{◌≡◌, ◌++◌, drop, map}
use Rattle.std.specs.Prelude.{option_map}
use Rattle.hq_model.specs.Grants.{grant_of, grants_of}
use Rattle.hq_model.specs.Meta.{meta_view}
use Rattle.hq_model.specs.PermView.{permission_view}
use Rattle.hq_model.specs.Schema.{numbered}
use Rattle.hq_model.specs.Described.{scope_schema}
use Rattle.hq_confine.proofs.grants.views_of_role.Given as goal

-- what is granted of the tables so far, and then of those that are left
abbrev pub invariant-loop-t : goal.invariant-loop-t
invariant-loop-t l =
    let s = scope_schema l.scope in
    map (option_map permission_view) l.views.items ++ numbered (grant_of l.session (meta_view l.scope.meta.now) s) l.t (drop l.t s) ≡ grants_of l.session l.scope.catalog.now.tables
    (meta_view l.scope.meta.now)
