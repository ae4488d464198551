use Rattle.hq_model.specs.Meta.{meta_view}
use Rattle.hq_engine.proofs.engine.Engine.faults_of_building.Goals as goal

-- the law, at the engine's own catalog and metadata
pub returns : goal.returns
returns c valid f is =
    let engine = c.args.self.now in
    c.valid_faults.ensures engine.catalog.tables (meta_view engine.meta) c.args.session.now c.args.body.now f engine.catalog.valid engine.meta_fits valid is
