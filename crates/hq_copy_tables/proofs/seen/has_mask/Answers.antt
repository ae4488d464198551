use Rattle.std.proofs.Common.{◌∙◌, ◌==◌, sym, rules, tests}
use Rattle.std.proofs.lemmas.Iterator.{YieldsList-from_slice}
use Rattle.std.proofs.lemmas.Iterator.Search.{any_from_yields_List}
use Rattle.hq_copy_tables.proofs.Found.{any_map}
use Rattle.hq_model.specs.PermView.{mask_view}
use Rattle.hq_model.specs.Permission.{Mask as Masking}
use Rattle.hq_model.specs.declared.perm.Mask.{Mask}
use Rattle.hq_copy_tables.proofs.seen.has_mask.Goals as goal

pub returns : goal.returns
returns c =
    let masks = c.args.permission.now.masks.items in
    any_from_yields_List (λ (m : Mask). m.col == c.args.column) _ _ c.any.result c.any.ensures.ran (YieldsList-from_slice masks cc) (λ x b q k. search (rules, tests))
    ∙ sym (any_map (λ (m : Masking). m.column == c.args.column) mask_view masks)
