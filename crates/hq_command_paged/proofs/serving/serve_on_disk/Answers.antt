use Rattle.hq_model.specs.Meta.{meta_view}
use Rattle.hq_load.specs.Loading.{loaded_view}
use Rattle.hq_command_paged.specs.Disks.{seen_disk}
use Rattle.hq_command_serve.specs.Serving.{seen_door}
use Rattle.hq_command_serve.proofs.Servings.{link_tells}
use Rattle.hq_command_paged.proofs.ServedOnDisk.{ends_on_disk}
use Rattle.hq_command_paged.proofs.serving.serve_on_disk.Goals as goal

pub returns-in-Ok-on_disk-clause-ends : goal.returns-in-Ok-on_disk-clause-ends
returns-in-Ok-on_disk-clause-ends g c =
    let t = link_tells g.D.Link.Link.left g.D.Link.Link.written g.D.Link.Link.read_faults g.D.Link.Link.write_faults in
    let served = c.serve_instance-served in
    let before = seen_door (g.D.Door.links c.args.door.now) (g.D.Door.accepted c.args.door.now) (g.D.Door.faults c.args.door.now) in
    let after = seen_door (g.D.Door.links served.new.door) (g.D.Door.accepted served.new.door) (g.D.Door.faults served.new.door) in
    let disk = seen_disk (g.X.Disk.held c.args.disk) (g.X.Disk.faults c.args.disk) in
    let left = seen_disk (g.X.Disk.held served.result.disk) (g.X.Disk.faults served.result.disk) in
    let engine = c.in-Ok-on_disk.made.engine in
    let made = c.in-Ok-on_disk.ensures in
    ends_on_disk t c.args.rule.now c.args.connections before after (g.K.Sink.written c.args.out.now) (g.K.Sink.written served.new.out) disk left (g.F.Files.folder c.args.files.now) c.args.dir.now
    (loaded_view c.in-Ok.loaded) _ engine.catalog.tables (meta_view engine.meta) _ served.result.answer c.ended.result c.in-Ok.ensures.told
    made.catalog made.meta made.rows made.faults c.ended.ensures served.ensures.opens
