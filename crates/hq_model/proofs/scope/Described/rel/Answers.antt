use Rattle.std.proofs.Common.{◌∙◌, ap, sym}
use Rattle.std.specs.Prelude.{slice_get}
use Rattle.hq_model.specs.Meta.{meta_view}
use Rattle.hq_model.proofs.Places.{table_present, table_absent}
use Rattle.hq_model.proofs.scope.Described.rel.Goals as goal

pub returns-in-Some : goal.returns-in-Some
returns-in-Some c =
    c.rel_in.ensures
    ∙ ap (λ table. slice_get table.rels c.args.r) (sym (table_present c.args.self.now.catalog.now.tables (meta_view c.args.self.now.meta.now) c.args.t c.in-Some.field-0.now (sym c.in-Some.ensures)))

pub returns-in-None : goal.returns-in-None
returns-in-None c =
    ap (λ table. slice_get table.rels c.args.r) (sym (table_absent c.args.self.now.catalog.now.tables (meta_view c.args.self.now.meta.now) c.args.t (sym c.in-None.ensures)))
