use Rattle.std.proofs.Common.{◌∙◌, ap, slice_get, sym}
use Rattle.hq_copy.proofs.SchemaNames.{is_free, named_at}
use Rattle.hq_copy.proofs.schema_names.is_named.Goals as goal

pub returns-in-Some : goal.returns-in-Some
returns-in-Some c =
    let names = c.args.tracked.now.column_names in
    c.is_free_name.ensures ∙ ap is_free (c.in-Some.ensures ∙ ap (slice_get names) c.at.ensures) ∙ sym (named_at names c.args.c)

pub returns-in-None : goal.returns-in-None
returns-in-None c =
    let names = c.args.tracked.now.column_names in
    ap is_free (c.in-None.ensures ∙ ap (slice_get names) c.at.ensures) ∙ sym (named_at names c.args.c)
