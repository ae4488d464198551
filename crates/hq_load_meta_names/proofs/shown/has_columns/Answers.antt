use Rattle.std.proofs.Common.{◌∙◌, sym, ap}
use Rattle.std.specs.List.{list_any}
use Rattle.hq_model.specs.Names.{is_free_name}
use Rattle.hq_load_meta_names.proofs.Columns.{some_named}
use Rattle.hq_load_meta_names.proofs.shown.has_columns.Goals as goal

pub returns : goal.returns
returns c = c.some_free.ensures ∙ ap (list_any is_free_name) c.as_slice.ensures ∙ sym (some_named 0 c.args.tracked.now.column_names)
