-- The statement is well-formed for the catalog.
use Rattle.std.proofs.Common.{◌≡◌, ℕ, ◌≤◌, List, length, true, refl, arith}
use Rattle.std.specs.Prelude.{nat_le}
use Rattle.std.proofs.lemmas.Bool.{le-leb}
use Rattle.hq_model.specs.Meta.{MetaTree}
use Rattle.hq_model.specs.Schema.{Schema, schema_of, rel}
use Rattle.hq_model.specs.declared.table.Table.{Table}
use Rattle.hq_request_tree.specs.Fields.{Origin, from_table, along, FieldTrees, no_field, field, FieldTree, column, typename, no_queries, object, list, by_key, aggregate, introspect, PartTrees, no_part, part, PartTree, summary, nodes, part_typename}
use Rattle.hq_request_tree.specs.Resolve.{origin_table}
use Rattle.hq_sql_tree.specs.Form.{select_depth}
use Rattle.hq_sql_tree.specs.WellFormed.{is_statement_form}
use Rattle.hq_translation.specs.Names.{value_name}
use Rattle.hq_translation.specs.GrantedTables.{GrantedTables}
use Rattle.hq_translation.specs.Statement.{statement}
use Rattle.hq_translation.specs.Correct.{HasKey, AreKeyed, IsKeyed, AreKeyedParts, IsKeyedPart}
use Rattle.hq_translation.specs.Fine.{FineOrigin, FineFields, FineField, FineParts, FinePart}
use Rattle.hq_translation.specs.WellFormed.{IsWellFormed}
use Rattle.hq_translation.proofs.CatalogTables.{FineTables, fine_tables}
use Rattle.hq_translation.proofs.Aliases.{aliases_differ}
use Rattle.hq_translation.proofs.Forms.{statement_form}
use Rattle.hq_translation.proofs.Shallow.{is_shallow}
use Rattle.hq_translation.proofs.Typed.{statement_typed}

-- each list is one of a table that has a key
module _ (s : Schema) (g : GrantedTables) (tables : List Table) (ok : FineTables s g tables) where
  origin_keyed : (o : Origin) (t : ℕ) → FineOrigin o s t → HasKey s (origin_table o s t)
  origin_keyed (from_table u) t f = (ok u f).keyed
  origin_keyed (along r) t f = (ok (rel s t r).remote f.0).keyed

  mutual
    fields_keyed : (fs : FieldTrees) (t : ℕ) → FineFields fs s t → AreKeyed fs s t
    fields_keyed no_field t f = tt
    fields_keyed (field key x fs) t f = (field_keyed x t f.0, fields_keyed fs t f.1)

    field_keyed : (x : FieldTree) (t : ℕ) → FineField x s t → IsKeyed x s t
    field_keyed (column c) t f = tt
    field_keyed (typename name) t f = tt
    field_keyed no_queries t f = tt
    field_keyed (object r fs) t f = fields_keyed fs (rel s t r).remote f.2
    field_keyed (list o a fs) t f = (origin_keyed o t f.0, fields_keyed fs (origin_table o s t) f.3)
    field_keyed (by_key u key fs) t f = fields_keyed fs u f.3
    field_keyed (aggregate o a ps) t f = parts_keyed ps (origin_table o s t) (origin_keyed o t f.0) f.3
    field_keyed (introspect x) t f = tt

    parts_keyed : (ps : PartTrees) (u : ℕ) → HasKey s u → FineParts ps s u → AreKeyedParts ps s u
    parts_keyed no_part u h f = tt
    parts_keyed (part key q ps) u h f = (part_keyed q u h f.0, parts_keyed ps u h f.1)

    part_keyed : (q : PartTree) (u : ℕ) → HasKey s u → FinePart q s u → IsKeyedPart q s u
    part_keyed (summary fs) u h f = tt
    part_keyed (nodes fs) u h f = (h, fields_keyed fs u f.1)
    part_keyed (part_typename name) u h f = tt

-- one row whose one output is an object
has_form : (fs : FieldTrees) (s : Schema) (g : GrantedTables) → is_statement_form (statement fs s g) ≡ true
unfolding value_name
has_form fs s g = refl

pub is_well_formed : (fs : FieldTrees) (tables : List Table) (meta : MetaTree) (g : GrantedTables) (F X C : ℕ) → IsWellFormed fs tables meta g F X C
is_well_formed fs tables meta g F X C catalog allowed fine apart bound low short few fits =
    let s : Schema = schema_of tables meta in
    let keyed = fields_keyed s g tables (fine_tables tables meta g catalog allowed) fs (length s) fine in
    let depth : select_depth (statement fs s g) ≤ 2000 = let d = is_shallow fs s g F X C low short in omega (arith, d, few) in
    let shallow : nat_le (select_depth (statement fs s g)) 2000 ≡ true = le-leb (select_depth (statement fs s g)) 2000 depth in
    rw (has_form fs s g, statement_form fs s g keyed, shallow, aliases_differ fs s g bound, statement_typed fs tables meta g catalog allowed fine apart bound, fits) refl
