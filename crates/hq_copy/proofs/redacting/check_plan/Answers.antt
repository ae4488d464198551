use Rattle.std.proofs.Common.{◌∙◌, map, rules}
use Rattle.hq_copy_tables.specs.Originals.{meta_in, role_in, schema_in}
use Rattle.hq_copy_tables.specs.Views.{source_view}
use Rattle.hq_model.specs.Meta.{meta_view}
use Rattle.hq_copy.proofs.Planned.{keys_told, names_told, own_told, widths_left}
use Rattle.hq_copy.proofs.redacting.check_plan.Goals as goal

pub returns-in_err-check_kept_names : goal.returns-in_err-check_kept_names
returns-in_err-check_kept_names c =
    let o = c.args.original.now in
    let told =
    own_told (role_in o) (meta_in o) (schema_in o) (map source_view o.sources.now) c.as_slice-tables.result.now (meta_view c.args.meta.now)
    c.requires.original.seen (c.as_slice-tables.ensures ∙ c.requires.tables) c.requires.meta
    c.in_err-check_kept_names.field-0.0 c.in_err-check_kept_names.ensures in
    search rules

pub returns-in_err-check_schema_names : goal.returns-in_err-check_schema_names
returns-in_err-check_schema_names c =
    let o = c.args.original.now in
    let told =
    names_told (role_in o) (meta_in o) (schema_in o) (map source_view o.sources.now) c.as_slice-tables.result.now
    (meta_view c.args.meta.now) c.requires.original.seen (c.as_slice-tables.ensures ∙ c.requires.tables) c.requires.meta
    c.in_err-check_schema_names.field-0.0 c.in_ok-check_kept_names.ensures c.in_err-check_schema_names.ensures in
    search rules

pub returns-in_err-check_keys : goal.returns-in_err-check_keys
returns-in_err-check_keys c =
    let o = c.args.original.now in
    let told =
    keys_told (role_in o) (meta_in o) (schema_in o) (map source_view o.sources.now) c.as_slice-tables.result.now (meta_view c.args.meta.now)
    c.requires.original.seen (c.as_slice-tables.ensures ∙ c.requires.tables) c.requires.meta
    c.in_err-check_keys.field-0.0 c.in_ok-check_kept_names.ensures c.in_ok-check_schema_names.ensures c.in_err-check_keys.ensures in
    search rules

pub returns : goal.returns
returns c =
    let o = c.args.original.now in
    widths_left (role_in o) (meta_in o) (schema_in o) (map source_view o.sources.now) c.as_slice-tables.result.now
    (meta_view c.args.meta.now) c.requires.original.seen (c.as_slice-tables.ensures ∙ c.requires.tables) c.requires.meta
    c.check_widths.result c.in_ok-check_kept_names.ensures c.in_ok-check_schema_names.ensures c.in_ok-check_keys.ensures c.check_widths.ensures
