-- A table of the catalog stands under its name, the names of its columns differ, and its key is of its columns.
use Rattle.std.proofs.Common.{◌≡◌, ℕ, zero, suc, ◌<◌, List, [], ◌∷◌, length, true, not, refl, sym, ap, subst, arith}
use Rattle.std.specs.List.{list_any}
use Rattle.hq_base.specs.Lists.{Each, all_differ}
use Rattle.hq_model.specs.Catalog.{is_catalog}
use Rattle.hq_model.specs.Meta.{MetaTree}
use Rattle.hq_model.specs.Schema.{Schema, numbered, schema_of, schema_table, table}
use Rattle.hq_model.specs.declared.table.Column.{Column}
use Rattle.hq_model.specs.declared.table.Table.{Table}
use Rattle.hq_sql_tree.specs.WellFormed.{is_table, table_names}
use Rattle.hq_translation.specs.GrantedTables.{GrantedTables}
use Rattle.hq_translation.specs.Correct.{HasKey}
use Rattle.hq_translation.specs.Fine.{kinds_of, Known, Has, FineBexp, FineMask, FineGranted}
use Rattle.hq_translation.proofs.Names.{same_text, Differ}
use Rattle.hq_translation.proofs.Sound.{both, negated, table_at, schema_is, IsNamed, named_tables, same_full, other_table}

pub record FineTable (s : Schema) (g : GrantedTables) (tables : List Table) (t : ℕ) : Type 0 where
  pub found : list_any (is_table (table s t).schema (table s t).name) tables ≡ true
  pub names : table_names tables (table s t).schema (table s t).name ≡ kinds_of (table s t).columns
  pub differ : Differ (table s t).columns
  pub key : Each (Has s t) (table s t).key
  pub keyed : HasKey s t
  pub filter : FineBexp (g.filter t) s t
  pub masks : Each (FineMask s t) (g.masks t)

abbrev pub FineTables : Schema → GrantedTables → List Table → Type 0
FineTables s g tables = (t : ℕ) → Known s t → FineTable s g tables t

names_at : (tables : List Table) (t : ℕ) → Each IsNamed tables → all_differ same_full tables ≡ true → t < length tables
    → table_names tables (table_at tables t).schema (table_at tables t).name ≡ kinds_of (table_at tables t).columns
names_at [] t n h lt = absurd (omega arith)
names_at (x ∷ tables) zero n h lt = rw (same_text x.schema, same_text x.name) refl
names_at (x ∷ tables) (suc t) n h lt =
    let parts = both (not (list_any (same_full x) tables)) (all_differ same_full tables) h in
    rw (other_table x tables t n.0 (negated _ parts.0)) (names_at tables t n.1 parts.1 (omega arith))

found_at : (tables : List Table) (t : ℕ) → Each IsNamed tables → all_differ same_full tables ≡ true → t < length tables
    → list_any (is_table (table_at tables t).schema (table_at tables t).name) tables ≡ true
found_at [] t n h lt = absurd (omega arith)
found_at (x ∷ tables) zero n h lt = rw (same_text x.schema, same_text x.name) refl
found_at (x ∷ tables) (suc t) n h lt =
    let parts = both (not (list_any (same_full x) tables)) (all_differ same_full tables) h in
    rw (other_table x tables t n.0 (negated _ parts.0)) (found_at tables t n.1 parts.1 (omega arith))

named_at : (tables : List Table) (t : ℕ) → Each IsNamed tables → t < length tables → IsNamed (table_at tables t)
named_at [] t n lt = absurd (omega arith)
named_at (x ∷ tables) zero n lt = n.0
named_at (x ∷ tables) (suc t) n lt = named_at tables t n.1 (omega arith)

numbered_length : {A B : Type 0} (f : ℕ → A → B) (k : ℕ) (xs : List A) → length (numbered f k xs) ≡ length xs
numbered_length f k [] = refl
numbered_length f k (x ∷ xs) = ap suc (numbered_length f (suc k) xs)

pub fine_tables : (tables : List Table) (meta : MetaTree) (g : GrantedTables) → is_catalog tables ≡ true
    → ((t : ℕ) → Known (schema_of tables meta) t → FineGranted (schema_of tables meta) g t) → FineTables (schema_of tables meta) g tables
fine_tables tables meta g c allowed t known =
    let parts = both _ _ c in
    let n = named_tables tables tables parts.1 in
    let apart = (both _ _ parts.0).1 in
    let alike = schema_is meta 0 tables t in
    let len : length (schema_of tables meta) ≡ length tables = numbered_length (schema_table meta) 0 tables in
    let lt : t < length tables = omega (arith, known, len) in
    let named = named_at tables t n lt in
    let key : Each (λ c. c < length (table_at tables t).columns) (table_at tables t).key = named.key in
    record {
      found = rw (alike.schema, alike.name) (found_at tables t n apart lt);
      names = rw (alike.schema, alike.name, alike.columns) (names_at tables t n apart lt);
      differ = rw alike.columns named.columns;
      key = subst (λ (k : List ℕ). Each (Has (schema_of tables meta) t) k) (sym alike.key) (subst (λ (cs : List Column). Each (λ c. c < length cs) (table_at tables t).key) (sym alike.columns) key);
      keyed = rw alike.key named.keyed;
      filter = (allowed t known).filter;
      masks = (allowed t known).masks;
    }
