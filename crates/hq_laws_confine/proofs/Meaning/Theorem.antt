-- A statement without faults means the same over all databases that agree.
use Rattle.std.proofs.Common.{◌≡◌, ℕ, ◌≤◌, List, [], ◌∷◌, length, map, Bool, true, false, ◌&&◌, None, bytes_eq, codes, cond, refl, sym, ap, ◌∙◌, subst}
use Rattle.std.specs.Prelude.{nat_le}
use Rattle.hq_base.specs.Cells.{json_of}
use Rattle.hq_base.specs.Lists.{Zip, all_differ}
use Rattle.hq_model.specs.Catalog.{is_catalog}
use Rattle.hq_model.specs.Database.{Row, is_database}
use Rattle.hq_model.specs.Grants.{Grants}
use Rattle.hq_model.specs.Meta.{MetaTree}
use Rattle.hq_model.specs.Schema.{Schema, schema_of, table}
use Rattle.hq_model.specs.declared.table.Table.{Table}
use Rattle.hq_sql_tree.specs.Form.{is_select, select_depth, select_fits}
use Rattle.hq_sql_tree.specs.Tree as tree
use Rattle.hq_sql_tree.specs.Tree.{ExprTree, OutTree, SelectTree}
use Rattle.hq_sql_tree.specs.Meaning.{NamedRow, cell_named, named_row, nothing, rows_of, first_value}
use Rattle.hq_sql_tree.specs.WellFormed.{is_typed, is_well_typed, is_well_formed, is_object, is_object_output, is_statement_form, aliases_in}
use Rattle.hq_translation.proofs.Sound.{both, sound_of}
use Rattle.hq_confine_rules.specs.Faults.{outputs_of}
use Rattle.hq_confine_rules.specs.Origins.{Origin, made, outputs as shows, Shapes, output_named, origin, output_origins, table_place}
use Rattle.hq_laws_confine.specs.Meaning.Laws.{MeansTheSame}
use Rattle.hq_laws_confine.proofs.Meaning.Agreement.{Alike, alike_of}
use Rattle.hq_laws_confine.proofs.Meaning.Formed.{Formed, formed_of}
use Rattle.hq_laws_confine.proofs.Meaning.InOrder.{rows_same}
use Rattle.hq_laws_confine.proofs.Meaning.Keys.{keyed_of}
use Rattle.hq_laws_confine.proofs.Meaning.Means.{rows_alike}
use Rattle.hq_laws_confine.proofs.Meaning.Related.{CellRel, RowOk}
use Rattle.hq_laws_confine.proofs.Meaning.Tables.{rows_at, keyed, keyed_rows, keyed_length, within_catalog, key_world}
use Rattle.hq_laws_confine.proofs.Meaning.Written.{Base}

base_of : (tables : List Table) (meta : MetaTree) (d : List (List Row)) → is_catalog tables ≡ true → is_database tables d ≡ true → Base (schema_of tables meta) tables d
base_of tables meta d c k =
    let s : Schema = schema_of tables meta in
    let le = within_catalog tables d k in
    record {
      sound = sound_of tables meta d c k;
      rows = λ schema name. rows_at meta tables d schema name le;
      in_order = λ schema name.
          rows_at meta tables (keyed s d) schema name (subst (λ n. n ≤ length tables) (sym (keyed_length s d)) le)
          ∙ ap (map (named_row (table s (table_place s schema name)).columns)) (keyed_rows s d (table_place s schema name));
    }

-- the value of a statement is made
object_made : (s : Schema) (scope : Shapes) (v : ExprTree) → is_object v ≡ true → origin s scope v ≡ made
object_made s scope (tree.column a n form) h = cc
object_made s scope (tree.int n) h = refl
object_made s scope (tree.text t) h = refl
object_made s scope (tree.uuid t) h = refl
object_made s scope (tree.bool b) h = refl
object_made s scope (tree.object ps) h = refl
object_made s scope (tree.aggregate a) h = refl

output_made : (s : Schema) (scope : Shapes) (outs : List OutTree) → is_object_output outs ≡ true → output_named (output_origins s scope outs) (codes "v") ≡ made
output_made s scope [] h = cc
output_made s scope (o ∷ []) h =
    let go : (b : Bool) → cond b (origin s scope o.value) made ≡ made = elim [ true ↦ object_made s scope o.value (both (bytes_eq o.name (codes "v")) (is_object o.value) h).1 | false ↦ refl ] in
    go (bytes_eq o.name (codes "v"))
output_made s scope (o ∷ (p ∷ outs)) h = cc

statement_made : (s : Schema) (g : Grants) (q : SelectTree) → is_statement_form q ≡ true → output_named (outputs_of s g [] q) (codes "v") ≡ made
statement_made s g (tree.rows distinct outs (tree.one alias) joins tree.no_filter [] None None) h = output_made s _ outs h
statement_made s g _ h = cc

first_alike : (s : Schema) (g : Grants) (d e : List (List Row)) (os : List (List ℕ × Origin)) → output_named os (codes "v") ≡ made
    → (xs ys : List NamedRow) → Zip (RowOk s g d e (shows os)) xs ys → first_value xs ≡ first_value ys
first_alike s g d e os m [] [] h = refl
first_alike s g d e os m [] (y ∷ ys) h = absurd h
first_alike s g d e os m (x ∷ xs) [] h = absurd h
first_alike s g d e os m (x ∷ xs) (y ∷ ys) h = ap json_of (subst (λ w. CellRel s g d e w h.0.0 (cell_named x (codes "v")) (cell_named y (codes "v"))) m (h.0.1 (codes "v")))

pub means_the_same : (tables : List Table) (meta : MetaTree) (g : Grants) (d e : List (List Row)) (statement : SelectTree) → MeansTheSame tables meta g d e statement
means_the_same tables meta g d e statement = λ c kd ke written well confined agree.
    let s : Schema = schema_of tables meta in
    let parts = both (is_statement_form statement) (is_well_formed statement tables) well in
    let typed = (both (is_well_typed statement tables) (select_fits statement) parts.1).0 in
    let three = both (is_select statement && nat_le (select_depth statement) 2000 && all_differ bytes_eq (aliases_in statement [])) (is_typed statement tables []) typed in
    let names = (both (is_select statement && nat_le (select_depth statement) 2000) (all_differ bytes_eq (aliases_in statement [])) three.0).1 in
    let formed : Formed statement = (formed_of statement [] tables [] names three.1).0 in
    let bd = base_of tables meta d c kd in
    let be = base_of tables meta e c ke in
    let alike : Alike s g d e = alike_of s g d e agree (λ t. keyed_of meta tables d t c kd) (λ t. keyed_of meta tables e t c ke) in
    ap first_value (sym (rows_same s g tables d bd (λ t. keyed_of meta tables d t c kd) statement [] formed confined nothing))
    ∙ first_alike s g d e (outputs_of s g [] statement) (statement_made s g statement parts.0) (rows_of statement (key_world s tables d) nothing) (rows_of statement (key_world s tables e) nothing)
    (rows_alike s g tables d e bd be written.0 written.1 alike statement true [] formed confined nothing nothing ((λ p. None), λ a n. refl))
    ∙ ap first_value (rows_same s g tables e be (λ t. keyed_of meta tables e t c ke) statement [] formed confined nothing)
