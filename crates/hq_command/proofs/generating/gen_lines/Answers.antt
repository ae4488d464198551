use Rattle.hq_model.specs.Meta.{meta_view}
use Rattle.hq_command.proofs.Lines.{lines_by}
use Rattle.hq_command.proofs.generating.gen_lines.Goals as goal

pub returns-in-Ok : goal.returns-in-Ok
returns-in-Ok c =
    let made = c.in_ok-instance.ensures in
    lines_by c.in_ok-instance.instance.engine _ c.args.made.catalog.tables (meta_view c.args.made.meta) c.args.made.rows c.in-Ok.text made.catalog made.meta made.rows c.in-Ok.ensures
