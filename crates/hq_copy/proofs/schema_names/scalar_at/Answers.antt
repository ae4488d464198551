use Rattle.std.proofs.Common.{◌≡◌, ◌∙◌, Some, None, ap, slice_get, sym}
use Rattle.std.proofs.lemmas.Option.{slice_get-get_or, slice_get_past}
use Rattle.hq_model.specs.SchemaNames.{scalar_of}
use Rattle.hq_copy.proofs.SchemaNames.{column_absent, column_nowhere, column_present}
use Rattle.hq_copy.proofs.schema_names.scalar_at.Goals as goal

pub returns-in-Some-get : goal.returns-in-Some-get
returns-in-Some-get c m =
    let tables = c.args.tables.now in
    let t = c.args.t in
    let found = c.in-Some.table.now in
    let here : slice_get tables t ≡ Some found =
    ap (slice_get tables) (sym c.at.ensures) ∙ slice_get-get_or tables c.at.result found c.in-Some.ensures.lookup.3.0 ∙ ap Some (sym c.in-Some.ensures.lookup.1) in
    c.scalar.ensures ∙ sym (ap scalar_of (column_present tables m t c.args.c found c.in-Some-get.column.now here (sym c.in-Some-get.ensures)))

pub returns-in-None-get : goal.returns-in-None-get
returns-in-None-get c m =
    let tables = c.args.tables.now in
    let t = c.args.t in
    let found = c.in-Some.table.now in
    let here : slice_get tables t ≡ Some found =
    ap (slice_get tables) (sym c.at.ensures) ∙ slice_get-get_or tables c.at.result found c.in-Some.ensures.lookup.3.0 ∙ ap Some (sym c.in-Some.ensures.lookup.1) in
    sym (ap scalar_of (column_absent tables m t c.args.c found here (sym c.in-None-get.ensures)))

pub returns-in-None : goal.returns-in-None
returns-in-None c m =
    let tables = c.args.tables.now in
    let t = c.args.t in
    let none : slice_get tables t ≡ None = ap (slice_get tables) (sym c.at.ensures) ∙ slice_get_past tables c.at.result c.in-None.ensures.lookup.3 in
    sym (ap scalar_of (column_nowhere tables m t c.args.c none))
