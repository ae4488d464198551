use Rattle.std.proofs.Common.{◌∙◌, ap, Err, Ok, refl}
use Rattle.std.proofs.lemmas.Result.{err_from_is_err_and}
use Rattle.hq_load.specs.Loading.{loaded_view}
use Rattle.hq_command_serve.specs.Serving.{ServesOver, seen_door}
use Rattle.hq_command.specs.declared.done.Done.TheVariants.{Answered}
use Rattle.hq_command_serve.proofs.Servings.{ends_as, link_tells, load_refused}
use Rattle.hq_command_serve.proofs.serving.serve.Goals as goal

pub returns-in_err-loaded-clause-ends : goal.returns-in_err-loaded-clause-ends
returns-in_err-loaded-clause-ends g c =
    let p = err_from_is_err_and c.from_residual.result c.from_residual.ensures.1 in
    let t = link_tells g.D.Link.Link.left g.D.Link.Link.written g.D.Link.Link.read_faults g.D.Link.Link.write_faults in
    let door = seen_door (g.D.Door.links c.args.door.now) (g.D.Door.accepted c.args.door.now) (g.D.Door.faults c.args.door.now) in
    let old = g.K.Sink.written c.args.out.now in
    load_refused door door old old (ServesOver t c.args.rule.now c.args.connections door door old old) (g.F.Files.folder c.args.files.now) c.args.dir.now
    c.in_err-loaded.field-0.0 c.from_residual.result (p.1 ∙ ap (λ e. Err e) p.2) c.in_err-loaded.ensures.told (record { links = refl; accepted = refl; written = refl })

pub returns-in_err-serve_loaded-clause-ends : goal.returns-in_err-serve_loaded-clause-ends
returns-in_err-serve_loaded-clause-ends g c =
    let p = err_from_is_err_and c.from_residual-in_err-serve_loaded.result c.from_residual-in_err-serve_loaded.ensures.1 in
    let t = link_tells g.D.Link.Link.left g.D.Link.Link.written g.D.Link.Link.read_faults g.D.Link.Link.write_faults in
    let before = seen_door (g.D.Door.links c.args.door.now) (g.D.Door.accepted c.args.door.now) (g.D.Door.faults c.args.door.now) in
    let after = seen_door (g.D.Door.links c.serve_loaded.new.door) (g.D.Door.accepted c.serve_loaded.new.door) (g.D.Door.faults c.serve_loaded.new.door) in
    let old = g.K.Sink.written c.args.out.now in
    let new = g.K.Sink.written c.serve_loaded.new.out in
    ends_as before after old new (ServesOver t c.args.rule.now c.args.connections before after old new) (g.F.Files.folder c.args.files.now) c.args.dir.now
    (loaded_view c.in_ok-loaded.loaded) c.in_ok-loaded.ensures.told (Err c.in_err-serve_loaded.field-0.0)
    c.from_residual-in_err-serve_loaded.result (p.1 ∙ ap (λ e. Err e) p.2) c.in_err-serve_loaded.ensures.opens

pub returns-clause-ends : goal.returns-clause-ends
returns-clause-ends g c =
    let t = link_tells g.D.Link.Link.left g.D.Link.Link.written g.D.Link.Link.read_faults g.D.Link.Link.write_faults in
    let before = seen_door (g.D.Door.links c.args.door.now) (g.D.Door.accepted c.args.door.now) (g.D.Door.faults c.args.door.now) in
    let after = seen_door (g.D.Door.links c.serve_loaded.new.door) (g.D.Door.accepted c.serve_loaded.new.door) (g.D.Door.faults c.serve_loaded.new.door) in
    let old = g.K.Sink.written c.args.out.now in
    let new = g.K.Sink.written c.serve_loaded.new.out in
    ends_as before after old new (ServesOver t c.args.rule.now c.args.connections before after old new) (g.F.Files.folder c.args.files.now) c.args.dir.now
    (loaded_view c.in_ok-loaded.loaded) c.in_ok-loaded.ensures.told (Ok tt) (Ok Answered) refl c.in_ok-serve_loaded.ensures.opens
