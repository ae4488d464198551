use Rattle.hq_model.specs.Meta.{meta_view}
use Rattle.hq_command_paged.specs.Disks.{told_rows}
use Rattle.hq_command_paged.proofs.ServedOnDisk.{over_disk}
use Rattle.hq_command_paged.proofs.paging.respond.Goals as goal

pub returns-in-Ok-clause-told : goal.returns-in-Ok-clause-told
returns-in-Ok-clause-told g c =
    over_disk c.in-Ok.made.engine c.args.session.now _ (g.S.Source.left c.args.input.now) c.args.loaded.catalog.tables
    (meta_view c.args.loaded.meta) (told_rows (g.X.Disk.held c.args.disk) c.args.loaded.rows) (g.K.Sink.written c.args.out.now)
    (g.K.Sink.written c.reply_to-answer.new.out) _ _ c.reply_to-answer.result
    c.in-Ok.ensures.catalog c.in-Ok.ensures.meta c.in-Ok.ensures.rows c.reply_to-answer.ensures.told
