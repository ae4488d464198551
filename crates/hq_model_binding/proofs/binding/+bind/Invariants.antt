use Rattle.std.proofs.Common.{◌≡◌, ◌++◌, drop, map}
use Rattle.hq_base.specs.Due.{mapped}
use Rattle.hq_model.specs.Bexp.{bexp_view, bexps_of}
use Rattle.hq_model.specs.Binding.{bound_all}
use Rattle.hq_model.specs.Described.{scope_schema}
use Rattle.hq_model_binding.proofs.binding.+bind.Given as goal

abbrev pub invariant-bind_bexps-loop-bexp : goal.invariant-bind_bexps-loop-bexp
invariant-bind_bexps-loop-bexp l =
    let s = scope_schema l.scope in
    bound_all (bexps_of (map bexp_view l.bexps.items)) s l.session.vars l.t
    ≡ mapped (λ xs. map bexp_view l.bound.items ++ xs) (bound_all (bexps_of (map bexp_view (drop l.bexp-index l.bexp-items))) s l.session.vars l.t)
