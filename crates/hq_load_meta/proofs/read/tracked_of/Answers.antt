use Rattle.std.proofs.Common.{◌≡◌, map, true, sym, subst}
use Rattle.hq_base.specs.Json.{json_view}
use Rattle.hq_model.specs.Meta.{MetaTree, meta_view}
use Rattle.hq_model.specs.Schema.{schema_of}
use Rattle.hq_model.specs.SchemaNames.{names_differ}
use Rattle.hq_load_meta.specs.Sound.{TablesSound}
use Rattle.hq_load_meta.proofs.Fitting.{passes_sound, inherited_sound, inherited_names}
use Rattle.hq_load_meta.proofs.read.tracked_of.Goals as goal

pub returns-clause-sound : goal.returns-clause-sound
returns-clause-sound c =
    let tables = c.args.catalog.now.tables in
    subst (λ (m : MetaTree). TablesSound tables m m.tracked) (sym c.with_inherited.ensures)
    (inherited_sound tables (meta_view c.in_ok-meta.meta) c.in_ok-inherited.inherited
    (passes_sound tables c.args.path.now (map json_view c.args.list.now) (meta_view c.in_ok-tables.tables) (meta_view c.in_ok-joined.joined) (meta_view c.in_ok-meta.meta)
    c.args.catalog.now.valid c.in_ok-tables.ensures c.in_ok-joined.ensures c.in_ok-meta.ensures.due c.in_ok-meta.ensures.sound))

pub returns-clause-names : goal.returns-clause-names
returns-clause-names c =
    let tables = c.args.catalog.now.tables in
    subst (λ (m : MetaTree). names_differ (schema_of tables m) m ≡ true) (sym c.with_inherited.ensures)
    (inherited_names tables (meta_view c.in_ok-meta.meta) c.in_ok-inherited.inherited c.in_ok-check_all_names.ensures.differ)
