use Rattle.std.proofs.Common.{◌∙◌, ap, sym, ℕ, Bool, ◌+◌, ◌==◌, ◌||◌, drop}
use Rattle.std.specs.List.{list_any}
use Rattle.hq_base.proofs.Loops.{next_item}
use Rattle.hq_model.specs.Permission.{named_from}
use Rattle.hq_model_limits.proofs.Combined.{one_name}
use Rattle.hq_model_limits.proofs.named.has_named_of.Goals as goal

pub loop-at-preserved : goal.loop-at-preserved
loop-at-preserved c =
    let xs = c.as_slice-names.result.now in
    let i : ℕ = c.loop-at.at in
    let among : ℕ → Bool = λ d. list_any (λ e. e == d) c.args.cols.now in
    sym (ap (λ b. b || list_any among (named_from (i + 1) (drop (i + 1) xs))) (sym c.is_named_of.ensures ∙ c.if-is_named_of.false))
    ∙ sym (one_name among c.index-names-at.result i (drop (i + 1) xs))
    ∙ sym (ap (λ ys. list_any among (named_from i ys)) (next_item xs i c.index-names-at.result c.loop-at-test.true c.index-names-at.is)) ∙ c.loop-at.invariant
