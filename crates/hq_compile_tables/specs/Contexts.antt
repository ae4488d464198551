-- What a context stands for.
use Rattle.std.specs.Prelude.{List, [], find, map, ◌==◌, option_map, option_and_then, unwrap_or}
use Rattle.hq_model.specs.Bexp.{bexp_view, never}
use Rattle.hq_model.specs.PermView.{mask_view}
use Rattle.hq_model.specs.Schema.{Schema}
use Rattle.hq_model.specs.Described.{scope_schema}
use Rattle.hq_translation.specs.GrantedTables.{GrantedTables}
use Rattle.hq_compile_tables.specs.declared.context.Granted.{Granted}
use Rattle.hq_compile_tables.specs.declared.context.Context.{Context}

-- what these entries grant: nothing of a table without one
abbrev pub granted_in : List Granted → GrantedTables
granted_in gs = record {
  filter = λ t. unwrap_or (option_map (λ g. bexp_view g.filter) (find (λ g. g.table == t) gs)) never;
  limit = λ t. option_and_then (λ g. g.limit) (find (λ g. g.table == t) gs);
  masks = λ t. unwrap_or (option_map (λ g. map mask_view g.masks.items) (find (λ g. g.table == t) gs)) [];
}

-- the schema of its catalog and metadata
abbrev pub context_schema : Context → Schema
context_schema x = scope_schema x.scope

-- what is granted in it
abbrev pub context_granted : Context → GrantedTables
context_granted x = granted_in x.granted.now
