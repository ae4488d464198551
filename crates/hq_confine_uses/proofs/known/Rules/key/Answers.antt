use Rattle.std.proofs.Common.{◌∙◌, ap, sym}
use Rattle.std.specs.Prelude.{slice_get}
use Rattle.hq_model.specs.Meta.{meta_view}
use Rattle.hq_model.proofs.Places.{table_present, table_absent}
use Rattle.hq_confine_uses.proofs.known.Rules.key.Goals as goal

pub returns-in-Some : goal.returns-in-Some
returns-in-Some c =
    let tables = c.args.self.now.scope.catalog.now.tables in
    c.as_slice.ensures ∙ ap (λ table. table.key)
    (sym (table_present tables (meta_view c.args.self.now.scope.meta.now) c.args.t c.in-Some.table.now (ap (slice_get tables) (sym c.new.ensures) ∙ sym c.in-Some.ensures)))

pub returns-in-None : goal.returns-in-None
returns-in-None c =
    let tables = c.args.self.now.scope.catalog.now.tables in
    ap (λ table. table.key) (sym (table_absent tables (meta_view c.args.self.now.scope.meta.now) c.args.t (ap (slice_get tables) (sym c.new.ensures) ∙ sym c.in-None.ensures)))
