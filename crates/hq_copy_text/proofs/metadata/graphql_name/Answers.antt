use Rattle.std.proofs.Common.{◌∙◌, [], ap, slice_get, sym}
use Rattle.hq_model.proofs.Places.{absent}
use Rattle.hq_copy_text.proofs.metadata.graphql_name.Goals as goal

pub returns-in-None : goal.returns-in-None
returns-in-None c =
    let names = c.args.tracked.now.column_names in
    c.new.ensures ∙ sym (absent names c.args.c [] (ap (slice_get names) (sym c.at.ensures) ∙ sym c.in-None.ensures))
