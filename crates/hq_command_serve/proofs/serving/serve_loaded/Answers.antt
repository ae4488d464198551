use Rattle.std.proofs.Common.{◌∙◌, ap, Err, Some, inl, refl}
use Rattle.std.proofs.lemmas.Result.{err_from_is_err_and}
use Rattle.hq_model.specs.Meta.{meta_view}
use Rattle.hq_load.specs.Loading.{contents}
use Rattle.hq_command_serve.specs.Serving.{ServesOver, seen_door}
use Rattle.hq_command_serve.proofs.Servings.{door_same, link_tells, opened, over_same}
use Rattle.hq_command_serve.proofs.serving.serve_loaded.Goals as goal

pub returns-clause-opens : goal.returns-clause-opens
returns-clause-opens g c =
    let loaded = c.args.loaded in
    let engine = c.in_ok-instance.instance.engine in
    let t = link_tells g.D.Link.Link.left g.D.Link.Link.written g.D.Link.Link.read_faults g.D.Link.Link.write_faults in
    let before = seen_door (g.D.Door.links c.args.door.now) (g.D.Door.accepted c.args.door.now) (g.D.Door.faults c.args.door.now) in
    let after = seen_door (g.D.Door.links c.serve_by_secret.new.door) (g.D.Door.accepted c.serve_by_secret.new.door) (g.D.Door.faults c.serve_by_secret.new.door) in
    let old = g.K.Sink.written c.args.out.now in
    let new = g.K.Sink.written c.serve_by_secret.new.out in
    let result = c.serve_by_secret.result.result in
    let at_door =
    door_same t c.args.rule.now c.args.connections engine.catalog.tables (meta_view engine.meta) _ 0 0 before.accepted
    (g.D.Door.accepted c.listen.new.self) after.accepted before.links (g.D.Door.links c.listen.new.self) after.links old new result
    c.in_ok-listen.ensures.accepted c.in_ok-listen.ensures.links c.serve_by_secret.ensures.serves in
    opened before after old new (ServesOver t c.args.rule.now c.args.connections before after old new (contents loaded.catalog.tables (meta_view loaded.meta) loaded.rows)) result
    (over_same t c.args.rule.now c.args.connections before after old new 0 0 loaded.catalog.tables engine.catalog.tables (meta_view loaded.meta) (meta_view engine.meta) (Some loaded.rows) _ result
    c.in_ok-instance.ensures.catalog c.in_ok-instance.ensures.meta c.in_ok-instance.ensures.rows at_door)

pub returns-in_err-listen-clause-opens : goal.returns-in_err-listen-clause-opens
returns-in_err-listen-clause-opens g c =
    let p = err_from_is_err_and c.from_residual-in_err-listen.result c.from_residual-in_err-listen.ensures.1 in
    rw (p.1 ∙ ap (λ e. Err e) p.2) (inl (record { links = c.in_err-listen.ensures.links; accepted = c.in_err-listen.ensures.accepted; written = refl }))
