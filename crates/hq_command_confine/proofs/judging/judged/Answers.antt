use Rattle.hq_sql_tree.specs.View.{select_view}
use Rattle.hq_model.specs.Meta.{meta_view}
use Rattle.hq_command_confine.proofs.Shown.{fault_shows, verdict_shows}
use Rattle.hq_command_confine.proofs.judging.judged.Goals as goal

pub returns-then-not-branch-clause-shows : goal.returns-then-not-branch-clause-shows
returns-then-not-branch-clause-shows c =
    fault_shows c.args.catalog.now.tables (meta_view c.args.meta.now) c.args.session.now (select_view c.args.statement.now) _ c.fixed_line.result c.fixed_line.ensures

pub returns-clause-shows : goal.returns-clause-shows
returns-clause-shows c =
    verdict_shows c.args.catalog.now.tables (meta_view c.args.meta.now) c.args.session.now (select_view c.args.statement.now) c.in_ok-verdict.verdict c.said_by.result
    c.in_ok-verdict.ensures.same c.said_by.ensures
