use Rattle.std.proofs.Common.{◌∙◌, sym, ap, rules, tests}
use Rattle.std.specs.List.{list_any}
use Rattle.std.proofs.lemmas.Iterator.{YieldsList-from_slice}
use Rattle.std.proofs.lemmas.Iterator.Search.{any_from_yields_List}
use Rattle.hq_model.specs.Names.{is_free_name}
use Rattle.hq_copy.proofs.SchemaNames.{some_named}
use Rattle.hq_copy.proofs.schema_names.has_columns.Goals as goal

pub returns : goal.returns
returns c =
    any_from_yields_List is_free_name _ _ c.any.result c.any.ensures.ran (YieldsList-from_slice c.as_slice.result.now cc) (λ x b q k. search (rules, tests))
    ∙ ap (list_any is_free_name) c.as_slice.ensures
    ∙ sym (some_named 0 c.args.tracked.now.column_names)
