-- A form is the same as itself.
use Rattle.std.proofs.Common.{◌≡◌, refl, true}
use Rattle.hq_sql_tree.specs.declared.expr.ColumnForm.{ColumnForm}
use Rattle.hq_sql_tree.specs.declared.expr.ColumnForm.TheVariants.{Plain, Collated, AsText, AsTextCollated}
use Rattle.hq_sql_tree.specs.Columns.{same_form}

pub form_same : (f : ColumnForm) → same_form f f ≡ true
form_same Plain = refl
form_same Collated = refl
form_same AsText = refl
form_same AsTextCollated = refl
