use Rattle.std.proofs.Common.{◌∙◌, ap, ℕ, [], Option, bytes_eq}
use Rattle.std.specs.Prelude.{option_map, unwrap_or}
use Rattle.hq_base.specs.Lists.{firsts}
use Rattle.hq_model.specs.Meta.{TrackedTree, tracked_view}
use Rattle.hq_model.specs.Permission.{combined, permissions_of}
use Rattle.hq_model.specs.declared.meta.Inherited.{Inherited}
use Rattle.hq_model_limits.specs.Limits.{limit_under, limits_of}
use Rattle.hq_model_limits.proofs.Combined.{limit_together}
use Rattle.hq_model_limits.proofs.set.inherited_limit.Goals as goal

-- the limit of an entry that was looked for
abbrev limit_found : TrackedTree → Option Inherited → Option (Option ℕ)
limit_found k o = limit_under (combined k (permissions_of k (firsts bytes_eq (unwrap_or (option_map (λ i. i.set) o) []))))

pub returns-in-Some : goal.returns-in-Some
returns-in-Some c =
    let k = tracked_view c.args.tracked.now in
    c.all_limit.ensures ∙ ap (limits_of k) c.as_slice.ensures ∙ limit_together k c.in-Some.entry.now.set ∙ ap (limit_found k) c.in-Some.ensures

pub returns-in-None : goal.returns-in-None
returns-in-None c =
    let k = tracked_view c.args.tracked.now in
    limit_together k [] ∙ ap (limit_found k) c.in-None.ensures
