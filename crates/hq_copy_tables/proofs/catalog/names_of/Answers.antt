use Rattle.std.proofs.Common.{◌∙◌, ap, sym}
use Rattle.hq_model.specs.Meta.{meta_view}
use Rattle.hq_model.specs.Schema.{SchemaTable}
use Rattle.hq_model.proofs.Places.{table_absent, table_present}
use Rattle.hq_copy_tables.proofs.catalog.names_of.Goals as goal

pub returns-in_ok-copy-in-Some-2 : goal.returns-in_ok-copy-in-Some-2
returns-in_ok-copy-in-Some-2 c =
    let scope = c.args.scope.now in
    let here = table_present scope.catalog.now.tables (meta_view scope.meta.now) c.args.t c.in-Some.table.now (sym c.in-Some.ensures) in (
      c.in_ok-copy-in-Some.ensures ∙ sym (ap (λ (k : SchemaTable). k.schema) here),
      c.in_ok-copy-in-Some-2.ensures ∙ sym (ap (λ (k : SchemaTable). k.name) here),
    )

pub returns-in-None : goal.returns-in-None
returns-in-None c =
    let scope = c.args.scope.now in
    let none = table_absent scope.catalog.now.tables (meta_view scope.meta.now) c.args.t (sym c.in-None.ensures) in
    (c.new.ensures ∙ sym (ap (λ (k : SchemaTable). k.schema) none), c.new-in-None.ensures ∙ sym (ap (λ (k : SchemaTable). k.name) none))
