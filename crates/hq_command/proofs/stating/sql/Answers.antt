use Rattle.hq_load.specs.Loading.{description_view}
use Rattle.hq_command.proofs.Statings.{statement_over}
use Rattle.hq_command.proofs.stating.sql.Goals as goal

pub returns-clause-statement : goal.returns-clause-statement
returns-clause-statement g c =
    statement_over (g.F.Files.folder c.args.files.now) c.args.dir.now c.args.headers.now (description_view c.in_ok-description.description)
    c.in_ok-session.session (g.S.Source.left c.args.input.now) c.state.result
    c.in_ok-session.ensures c.in_ok-description.ensures.told c.state.ensures.statement
