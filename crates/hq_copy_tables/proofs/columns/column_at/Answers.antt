use Rattle.std.proofs.Common.{◌≡◌, ◌∙◌, true, sym}
use Rattle.hq_base.specs.declared.value.Ty.TheVariants.{Text}
use Rattle.hq_model.specs.Schema.{no_column, table}
use Rattle.hq_model.specs.Described.{scope_schema}
use Rattle.hq_model.specs.declared.table.Column.{Column}
use Rattle.hq_model.proofs.Places.{absent}
use Rattle.hq_copy_tables.proofs.columns.column_at.Goals as goal

pub returns-in-None : goal.returns-in-None
returns-in-None c =
    let names = c.new.ensures in
    let types = c.new-in-None.ensures in
    let here : ◌≡◌ {A = Column} (record { name = c.new.result; ty = Text; of = c.new-in-None.result; nullable = true }) no_column = cc in
    here ∙ sym (absent (table (scope_schema c.args.scope.now) c.args.t).columns c.args.c no_column (sym c.in-None.ensures))
