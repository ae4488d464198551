use Rattle.std.proofs.Common.{◌∙◌, ap, sym}
use Rattle.hq_copy_tables.specs.Originals.{schema_in}
use Rattle.hq_model.specs.Schema.{no_rel, table}
use Rattle.hq_model.specs.declared.meta.Rel.{Rel}
use Rattle.hq_model.proofs.Places.{absent}
use Rattle.hq_copy_tables.proofs.metadata.name_and_kind.Goals as goal

pub returns-in-None : goal.returns-in-None
returns-in-None c =
    let none = absent (table (schema_in c.args.original.now) c.args.link.table).rels c.args.link.relationship no_rel (sym c.in-None.ensures) in
    (c.new.ensures ∙ sym (ap (λ (r : Rel). r.name) none), sym (ap (λ (r : Rel). r.many) none))
