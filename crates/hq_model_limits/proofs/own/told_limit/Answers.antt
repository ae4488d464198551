use Rattle.std.proofs.Common.{◌∙◌, ap, sym, cond, Some, None}
use Rattle.hq_model.specs.Meta.{perm_view, tracked_view}
use Rattle.hq_model_limits.proofs.Combined.{told_limit}
use Rattle.hq_model_limits.proofs.own.told_limit.Goals as goal

pub returns-then-has_named_of : goal.returns-then-has_named_of
returns-then-has_named_of c =
    ap (λ b. cond b (Some c.args.perm.now.limit) None) (sym c.if-has_named_of.true ∙ c.has_named_of.ensures) ∙ sym (told_limit (tracked_view c.args.tracked.now) (perm_view c.args.perm.now))

pub returns-else-has_named_of : goal.returns-else-has_named_of
returns-else-has_named_of c =
    ap (λ b. cond b (Some c.args.perm.now.limit) None) (sym c.if-has_named_of.false ∙ c.has_named_of.ensures) ∙ sym (told_limit (tracked_view c.args.tracked.now) (perm_view c.args.perm.now))
