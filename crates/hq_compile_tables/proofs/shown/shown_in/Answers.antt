use Rattle.std.proofs.Common.{◌∙◌, Option, ap, sym}
use Rattle.std.specs.Prelude.{option_map, unwrap_or}
use Rattle.std.proofs.lemmas.Result.{IfOk-weaker}
use Rattle.hq_sql_tree.specs.Tree as tree
use Rattle.hq_translation.specs.Looks.{ColumnName, own_look}
use Rattle.hq_translation.specs.Masks.{value_place}
use Rattle.hq_compile_tables.specs.declared.shown.MaskPlace.{MaskPlace}
use Rattle.hq_compile_tables.proofs.Looks.{found_look}
use Rattle.hq_compile_tables.proofs.shown.shown_in.Goals as goal

-- the join of the column's mask shows it
pub returns-in-Some : goal.returns-in-Some
returns-in-Some c =
    let x = c.args.shown.now in
    let own = own_look x.columns.now x.number c.args.column in
    let place = found_look x.places.now x.columns.now x.number c.args.column
    ∙ ap (λ (o : Option MaskPlace). unwrap_or (option_map (λ y. value_place y.number) o) own) (sym c.in-Some.ensures) in
    IfOk-weaker c.value_at.result _ _
    (λ e is. is ∙ ap (λ (q : ColumnName). tree.column q.alias q.name c.args.form) (sym place)) c.value_at.ensures

-- no mask is in its way
pub returns-in-None : goal.returns-in-None
returns-in-None c =
    let x = c.args.shown.now in
    let own = own_look x.columns.now x.number c.args.column in
    let place = found_look x.places.now x.columns.now x.number c.args.column
    ∙ ap (λ (o : Option MaskPlace). unwrap_or (option_map (λ y. value_place y.number) o) own) (sym c.in-None.ensures) in
    IfOk-weaker c.column_at.result _ _
    (λ e is. is ∙ ap (λ (q : ColumnName). tree.column q.alias q.name c.args.form) (sym place)) c.column_at.ensures
