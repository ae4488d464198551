use Rattle.std.proofs.Common.{◌∙◌, ap}
use Rattle.hq_model.specs.Fits.{fits}
use Rattle.hq_model.specs.Meta.{meta_view}
use Rattle.hq_cases_request.proofs.pins.engine_over.Goals as goal

pub new-requires : goal.new-requires
new-requires c = ap (λ ts. fits ts (meta_view c.args.meta)) c.in_ok-copy.ensures ∙ c.requires
