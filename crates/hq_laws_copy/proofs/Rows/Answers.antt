-- What is not refused has valid rows.
use Rattle.std.proofs.Common.{List, ap, sym, ◌∙◌}
use Rattle.hq_model.specs.Database.{Row, is_database}
use Rattle.hq_model.specs.Grants.{grants_of}
use Rattle.hq_model.specs.Meta.{MetaTree}
use Rattle.hq_model.specs.Permission.{role_of}
use Rattle.hq_model.specs.Schema.{schema_of}
use Rattle.hq_model.specs.View.{View, view, seen_in}
use Rattle.hq_model.specs.declared.session.Session.{Session}
use Rattle.hq_model.specs.declared.table.Table.{Table}
use Rattle.hq_copy_definition.specs.Copied.{Copied, copy_of}
use Rattle.hq_laws_copy.proofs.Views.Refused.{given, causes_absent}
use Rattle.hq_laws_copy.specs.Rows.Laws.{RowsFit}
use Rattle.hq_laws_copy.proofs.Rows.Rows.{rows_are_valid}

pub rows_fit : (tables : List Table) (m : MetaTree) (session : Session) (d : List (List Row)) (c : Copied) → RowsFit tables m session d c
rows_fit tables m session d c fit valid done =
    let v : View = view (schema_of tables m) (grants_of session tables m) d in
    let made = given _ (copy_of tables m session v) c done in
    let none = causes_absent (role_of session.role) m (schema_of tables m) session.vars (seen_in v) made.0 in
    ap (λ k. is_database k.tables k.rows) (sym made.1) ∙ rows_are_valid tables m session d fit valid none
