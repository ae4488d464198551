use Rattle.std.proofs.Common.{◌∙◌}
use Rattle.hq_command_paged.proofs.ServedOnDisk.{rows_same}
use Rattle.hq_command_paged.proofs.instance.on_disk.Goals as goal

pub returns-in-Ok-make-clause-rows : goal.returns-in-Ok-make-clause-rows
returns-in-Ok-make-clause-rows g c =
    c.new.ensures.database ∙ (c.in-Ok-make.ensures.told ∙ rows_same (g.X.Disk.held c.args.disk) (g.X.Disk.held c.start.new.disk) c.args.loaded.rows c.in_default.ensures.told)
