use Rattle.std.proofs.Common.{◌∙◌, ap}
use Rattle.hq_model.specs.Fits.{fits}
use Rattle.hq_model.specs.Meta.{meta_view}
use Rattle.hq_command.proofs.instance.engine_for.Goals as goal

pub of_role-requires : goal.of_role-requires
of_role-requires c = ap (λ ts. fits ts (meta_view c.args.meta)) c.in_ok-copy.ensures ∙ c.requires
