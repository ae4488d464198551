use Rattle.std.proofs.Common.{◌∙◌, ap, sym, List, length}
use Rattle.std.specs.Prelude.{unwrap_or}
use Rattle.std.specs.List.{position}
use Rattle.hq_model.specs.Meta.{meta_view}
use Rattle.hq_model.specs.declared.table.Table.{Table}
use Rattle.hq_confine_uses.proofs.Places.{has_name, named_place}
use Rattle.hq_confine_uses.proofs.origins.table_place.Goals as goal

pub returns-in-Some : goal.returns-in-Some
returns-in-Some c =
    let tables = c.args.rules.now.scope.catalog.now.tables in
    let by = λ (ts : List Table). position (has_name c.args.schema.now c.args.name.now) ts in
    ap (λ o. unwrap_or o (length tables)) (c.in-Some.ensures ∙ ap by c.as_slice-tables.ensures)
    ∙ sym (named_place c.args.schema.now c.args.name.now (meta_view c.args.rules.now.scope.meta.now) tables)

pub returns-in-None : goal.returns-in-None
returns-in-None c =
    let tables = c.args.rules.now.scope.catalog.now.tables in
    let by = λ (ts : List Table). position (has_name c.args.schema.now c.args.name.now) ts in
    ap length c.as_slice-tables.ensures ∙ ap (λ o. unwrap_or o (length tables)) (c.in-None.ensures ∙ ap by c.as_slice-tables.ensures)
    ∙ sym (named_place c.args.schema.now c.args.name.now (meta_view c.args.rules.now.scope.meta.now) tables)
