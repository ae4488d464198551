use Rattle.std.proofs.Common.{◌∙◌, ◌&&◌, ap, sym, rules, tests}
use Rattle.std.specs.List.{list_any}
use Rattle.std.proofs.lemmas.Iterator.{YieldsList-from_slice}
use Rattle.std.proofs.lemmas.Iterator.Search.{any_from_yields_List}
use Rattle.hq_copy_definition.specs.Sources.{has_mask, keeps_key}
use Rattle.hq_model.specs.PermView.{permission_view}
use Rattle.hq_copy.proofs.sizes.has_masked_key.Goals as goal

pub returns-then-keeps_key : goal.returns-then-keeps_key
returns-then-keeps_key c =
    let p = permission_view c.args.permission.now in
    any_from_yields_List (has_mask p) _ _ c.any.result c.any.ensures.ran (YieldsList-from_slice c.args.key.now cc) (λ x b q k. search (rules, tests))
    ∙ ap (λ b. b && list_any (has_mask p) c.args.key.now) (sym c.if-keeps_key.true ∙ c.keeps_key.ensures)
