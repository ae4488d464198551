use Rattle.std.proofs.Common.{◌≡◌, drop}
use Rattle.hq_copy_definition.specs.Refusals.{first_of, kept_name}
use Rattle.hq_model.specs.Schema.{rel}
use Rattle.hq_model.specs.Described.{scope_schema}
use Rattle.hq_copy.proofs.kept_names.check_rels.Given as goal

-- none of the relationships so far is refused
abbrev pub invariant-loop-r : goal.invariant-loop-r
invariant-loop-r l =
    let refused = first_of (λ r. kept_name (rel (scope_schema l.scope) l.t r).name) in
    refused (drop l.r-index l.rels) ≡ refused l.rels
