use Rattle.std.proofs.Common.{◌≡◌, ◌++◌, drop, map}
use Rattle.hq_base.specs.Due.{mapped}
use Rattle.hq_copy_tables.specs.Views.{source_view}
use Rattle.hq_copy.specs.Granted.{granted_due}
use Rattle.hq_model.specs.PermView.{permission_view}
use Rattle.hq_model.specs.Described.{scope_schema}
use Rattle.hq_copy.proofs.binding.granted.Given as goal

-- what is granted of the tables so far, and then of those that are left
abbrev pub invariant-loop-source : goal.invariant-loop-source
invariant-loop-source l =
    let s = scope_schema l.scope in
    granted_due s l.session.vars (map source_view l.sources)
    ≡ mapped (λ xs. map permission_view l.all ++ xs) (granted_due s l.session.vars (map source_view (drop l.source-index l.sources)))
