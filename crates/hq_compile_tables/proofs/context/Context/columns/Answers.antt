use Rattle.std.proofs.Common.{◌∙◌, ap, sym}
use Rattle.hq_terms.specs.Meta.{meta_view}
use Rattle.hq_terms.proofs.Places.{table_present, table_absent}
use Rattle.hq_compile_tables.proofs.context.Context.columns.Goals as goal

pub returns-in-Some : goal.returns-in-Some
returns-in-Some c =
    c.as_slice.ensures
    ∙ ap (λ table. table.columns)
    (sym
    (table_present c.args.self.now.scope.catalog.now.tables (meta_view c.args.self.now.scope.meta.now) c.args.t c.in-Some.table.now
    (sym c.in-Some.ensures)))

pub returns-in-None : goal.returns-in-None
returns-in-None c =
    ap (λ table. table.columns) (sym (table_absent c.args.self.now.scope.catalog.now.tables (meta_view c.args.self.now.scope.meta.now) c.args.t (sym c.in-None.ensures)))
