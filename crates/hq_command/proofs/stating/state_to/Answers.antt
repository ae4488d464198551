use Rattle.hq_model.specs.Meta.{meta_view}
use Rattle.hq_command.proofs.Statings.{statement_read}
use Rattle.hq_command.proofs.stating.state_to.Goals as goal

pub returns-clause-statement : goal.returns-clause-statement
returns-clause-statement g c =
    statement_read c.args.engine.now.catalog.tables (meta_view c.args.engine.now.meta) c.args.session.now (g.S.Source.left c.args.input.now) c.in_ok-body.body c.as_slice.result.now c.state_over.result
    c.in_ok-body.ensures.told c.as_slice.ensures c.state_over.ensures.statement
