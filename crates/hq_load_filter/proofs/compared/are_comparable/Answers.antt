use Rattle.std.proofs.Common.{◌∙◌, ap, sym}
use Rattle.std.specs.Prelude.{slice_get}
use Rattle.hq_model.specs.Catalog.{can_pair, type_of}
use Rattle.hq_model.specs.Meta.{meta_view}
use Rattle.hq_model.proofs.Places.{table_present, table_absent}
use Rattle.hq_load_filter.proofs.compared.are_comparable.Goals as goal

pub returns-in-Some : goal.returns-in-Some
returns-in-Some c =
    c.can_pair.ensures
    ∙ ap (λ cs. can_pair (type_of (slice_get cs c.args.left)) (type_of (slice_get cs c.args.right))) c.as_slice-columns.ensures
    ∙ ap (λ x. can_pair (type_of (slice_get x.columns c.args.left)) (type_of (slice_get x.columns c.args.right)))
    (sym
    (table_present c.args.scope.now.catalog.now.tables (meta_view c.args.scope.now.meta.now) c.args.t c.in-Some.table.now
    (sym c.in-Some.ensures)))

pub returns-in-None : goal.returns-in-None
returns-in-None c =
    ap (λ x. can_pair (type_of (slice_get x.columns c.args.left)) (type_of (slice_get x.columns c.args.right)))
    (sym (table_absent c.args.scope.now.catalog.now.tables (meta_view c.args.scope.now.meta.now) c.args.t (sym c.in-None.ensures)))
