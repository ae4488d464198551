use Rattle.std.proofs.Common.{sym, rules}
use Rattle.hq_model.specs.Meta.{meta_view}
use Rattle.hq_model.proofs.Places.{table_present, table_absent}
use Rattle.hq_compile_tables.proofs.table.named_table.Goals as goal

pub returns-in_ok-name-in-Some : goal.returns-in_ok-name-in-Some
returns-in_ok-name-in-Some c =
    let e = table_present c.args.context.now.scope.catalog.now.tables (meta_view c.args.context.now.scope.meta.now) c.args.t c.in-Some.found.now (sym c.in-Some.ensures) in
    rw e (search rules)

pub returns-in-None : goal.returns-in-None
returns-in-None c =
    let e = table_absent c.args.context.now.scope.catalog.now.tables (meta_view c.args.context.now.scope.meta.now) c.args.t (sym c.in-None.ensures) in
    rw e (search rules)
