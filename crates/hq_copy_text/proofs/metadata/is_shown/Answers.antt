use Rattle.std.proofs.Common.{◌∙◌, ◌==◌, sym, rules, tests}
use Rattle.std.specs.List.{list_any}
use Rattle.std.proofs.lemmas.Iterator.{YieldsList-from_slice}
use Rattle.std.proofs.lemmas.Iterator.Search.{any_from_yields_List}
use Rattle.hq_base.proofs.Lists.{any_map_of}
use Rattle.hq_load_meta.specs.Linked.{is_among}
use Rattle.hq_model.specs.Meta.{PermTree, perm_view}
use Rattle.hq_model.specs.declared.meta.Perm.{Perm}
use Rattle.hq_copy_text.proofs.metadata.is_shown.Goals as goal

pub returns : goal.returns
returns c =
    let perms = c.args.tracked.now.perms in
    any_from_yields_List (λ (p : Perm). list_any (λ d. d == c.args.c) p.cols) _ _ c.any.result c.any.ensures.ran (YieldsList-from_slice perms cc) (λ x b q k. search (rules, tests))
    ∙ sym (any_map_of (λ (p : PermTree). is_among c.args.c p.cols) perm_view perms)
