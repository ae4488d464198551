-- Tables by their places: a table's rows stand under its name, and each column's cell under its own; the rows in key order.
use Rattle.std.proofs.Common.{◌≡◌, ℕ, zero, suc, ◌+◌, ◌≤◌, List, [], ◌∷◌, length, map, Bool, true, false, cond, not, ◌&&◌, Option, Some, None, bytes_eq, refl, sym, ap, ◌∙◌, arith}
use Rattle.std.specs.Prelude.{nat_lt, unwrap_or, option_map}
use Rattle.std.specs.List.{position, prefix_len}
use Rattle.std.proofs.lemmas.Bool.{lt-ltb, ltb-true, ltb-false}
use Rattle.std.proofs.lemmas.List.Sums.{prefix_len-le-length}
use Rattle.hq_base.specs.Cells.{CellTree, null, cell_of}
use Rattle.hq_base.specs.Lists.{sort}
use Rattle.hq_model.specs.Database.{Row, is_database, are_rows}
use Rattle.hq_model.specs.Meta.{MetaTree}
use Rattle.hq_model.specs.Permitted.{columns_cmp, by_key}
use Rattle.hq_model.specs.Schema.{Schema, schema_table, numbered, schema_of, table}
use Rattle.hq_model.specs.Seen.{row_cell, table_rows}
use Rattle.hq_model.specs.declared.table.Column.{Column}
use Rattle.hq_model.specs.declared.table.Table.{Table}
use Rattle.hq_sql_tree.specs.Meaning.{World, cell_named, named_row, rows_named}
use Rattle.hq_translation.proofs.Sound.{both}
use Rattle.hq_confine_rules.specs.Origins.{is_named, table_place, column_place}

-- ---- the first item that passes

module _ {A : Type 0} (p : A → Bool) where
  -- a first place, or the length
  pub place_is : (xs : List A) → unwrap_or (position p xs) (length xs) ≡ prefix_len (λ x. not (p x)) xs
  place_is xs =
      let n : ℕ = prefix_len (λ x. not (p x)) xs in
      let le : n ≤ length xs = prefix_len-le-length (λ x. not (p x)) xs in
      let go : (b : Bool) → nat_lt n (length xs) ≡ b → unwrap_or (cond b (Some n) None) (length xs) ≡ n =
      elim [ true ↦ λ e. refl | false ↦ λ e. (let ge = ltb-false n (length xs) e in omega (arith, le, ge)) ] in
      go (nat_lt n (length xs)) refl

  pub position_more : (x : A) (xs : List A) → position p (x ∷ xs) ≡ cond (p x) (Some 0) (option_map suc (position p xs))
  position_more x xs =
      let n : ℕ = prefix_len (λ y. not (p y)) xs in
      let more : 1 + n ≡ suc n = omega arith in
      let later : (b : Bool) → nat_lt n (length xs) ≡ b → cond (nat_lt (1 + n) (suc (length xs))) (Some (1 + n)) None ≡ option_map suc (cond b (Some n) None) =
      elim [
        | true ↦ λ e. (let lt = ltb-true n (length xs) e in ap (λ b. cond b (Some (1 + n)) None) (lt-ltb (1 + n) (suc (length xs)) (omega (arith, lt))) ∙ ap Some more)
        | false ↦ λ e.
            let ge = ltb-false n (length xs) e in
            let no : (b : Bool) → nat_lt (1 + n) (suc (length xs)) ≡ b → b ≡ false =
            elim [ true ↦ λ t. (let lt = ltb-true (1 + n) (suc (length xs)) t in absurd (omega (arith, ge, lt))) | false ↦ λ t. refl ] in
            ap (λ b. cond b (Some (1 + n)) None) (no (nat_lt (1 + n) (suc (length xs))) refl)
      ] in
      let here : nat_lt 0 (suc (length xs)) ≡ true = lt-ltb 0 (suc (length xs)) (omega arith) in
      let go : (b : Bool)
      → cond (nat_lt (cond (not b) (1 + n) 0) (suc (length xs))) (Some (cond (not b) (1 + n) 0)) None
      ≡ cond b (Some 0) (option_map suc (cond (nat_lt n (length xs)) (Some n) None)) =
      elim [ true ↦ ap (λ b. cond b (Some 0) None) here | false ↦ later (nat_lt n (length xs)) refl ] in
      go (p x)

-- ---- rows by the place of their table

one_more : (n : ℕ) → suc n ≡ 1 + n
one_more n = omega arith

-- the place of a table in the rest of a schema
abbrev rest_place : Schema → (schema name : List ℕ) → ℕ
rest_place s schema name = prefix_len (λ t. not (is_named schema name t)) s

rows_from : (meta : MetaTree) (k : ℕ) (tables : List Table) (d : List (List Row)) (schema name : List ℕ) → length d ≤ length tables
    → rows_named tables d schema name
    ≡ map
    (named_row (table (numbered (schema_table meta) k tables) (rest_place (numbered (schema_table meta) k tables) schema name)).columns)
    (table_rows d (rest_place (numbered (schema_table meta) k tables) schema name))
rows_from meta k [] [] schema name le = refl
rows_from meta k [] (rs ∷ d) schema name le = absurd (omega arith)
rows_from meta k (t ∷ tables) [] schema name le =
    let s : Schema = numbered (schema_table meta) (suc k) tables in
    let later = rows_from meta (suc k) tables [] schema name (omega arith) in
    let go : (b : Bool) → cond b [] (rows_named tables [] schema name)
    ≡ map (named_row (table (schema_table meta k t ∷ s) (cond (not b) (1 + rest_place s schema name) 0)).columns) (table_rows [] (cond (not b) (1 + rest_place s schema name) 0)) =
    elim [ true ↦ refl | false ↦ later ∙ ap (λ i. map (named_row (table (schema_table meta k t ∷ s) i).columns) (table_rows [] i)) (one_more (rest_place s schema name)) ] in
    go (bytes_eq t.schema schema && bytes_eq t.name name)
rows_from meta k (t ∷ tables) (rs ∷ d) schema name le =
    let s : Schema = numbered (schema_table meta) (suc k) tables in
    let later = rows_from meta (suc k) tables d schema name (omega (arith, le)) in
    let go : (b : Bool) → cond b (map (named_row t.columns) rs) (rows_named tables d schema name)
    ≡ map (named_row (table (schema_table meta k t ∷ s) (cond (not b) (1 + rest_place s schema name) 0)).columns) (table_rows (rs ∷ d) (cond (not b) (1 + rest_place s schema name) 0)) =
    elim [ true ↦ refl | false ↦ later ∙ ap (λ i. map (named_row (table (schema_table meta k t ∷ s) i).columns) (table_rows (rs ∷ d) i)) (one_more (rest_place s schema name)) ] in
    go (bytes_eq t.schema schema && bytes_eq t.name name)

-- the rows under a name are those of the table at its place
pub rows_at : (meta : MetaTree) (tables : List Table) (d : List (List Row)) (schema name : List ℕ) → length d ≤ length tables
    → rows_named tables d schema name
    ≡ map (named_row (table (schema_of tables meta) (table_place (schema_of tables meta) schema name)).columns)
    (table_rows d (table_place (schema_of tables meta) schema name))
rows_at meta tables d schema name le =
    let s : Schema = schema_of tables meta in
    let is : table_place s schema name ≡ rest_place s schema name = place_is (is_named schema name) s in
    rows_from meta 0 tables d schema name le ∙ sym (ap (λ t. map (named_row (table s t).columns) (table_rows d t)) is)

-- ---- cells by the place of their column

-- the cell of a column where a table has it, else NULL
abbrev pub cell_in : Row → Option ℕ → CellTree
cell_in row None = null
cell_in row (Some c) = row_cell row c

none_beyond : (o : Option ℕ) → cell_in [] o ≡ null
none_beyond None = refl
none_beyond (Some c) = refl

cell_later : (v : Row) (o : Option ℕ) → (w : Row) → ((c : ℕ) → row_cell v (suc c) ≡ row_cell w c) → cell_in v (option_map suc o) ≡ cell_in w o
cell_later v None w h = refl
cell_later v (Some c) w h = h c

named_cell : (columns : List Column) (row : Row) (name : List ℕ) → cell_named (named_row columns row) name ≡ cell_in row (position (λ c. bytes_eq c.name name) columns)
named_cell [] row name = refl
named_cell (c ∷ columns) [] name = sym (none_beyond (position (λ x. bytes_eq x.name name) (c ∷ columns)))
named_cell (c ∷ columns) (v ∷ row) name =
    let later = named_cell columns row name in
    let go : (b : Bool) → cond b (cell_of v) (cell_named (named_row columns row) name) ≡ cell_in (v ∷ row) (cond b (Some 0) (option_map suc (position (λ x. bytes_eq x.name name) columns))) =
    elim [ true ↦ refl | false ↦ later ∙ sym (cell_later (v ∷ row) (position (λ x. bytes_eq x.name name) columns) row (λ n. refl)) ] in
    go (bytes_eq c.name name) ∙ sym (ap (cell_in (v ∷ row)) (position_more (λ x. bytes_eq x.name name) c columns))

-- the cell under a name is that of the column at its place
pub cell_at_place : (s : Schema) (t : ℕ) (row : Row) (name : List ℕ) → cell_named (named_row (table s t).columns row) name ≡ cell_in row (column_place s t name)
cell_at_place s t row name = named_cell (table s t).columns row name

-- ---- the database in key order

-- each table's rows in ascending order of its key
abbrev pub keyed : Schema → List (List Row) → List (List Row)
keyed s d = numbered (λ t rows. sort (columns_cmp (table s t).key) rows) 0 d

-- the worlds of a database in file order, and in key order
abbrev pub file_world : List Table → List (List Row) → World
file_world tables d = record { tables = tables; database = d }

abbrev pub key_world : Schema → List Table → List (List Row) → World
key_world s tables d = record { tables = tables; database = keyed s d }

keyed_at : (s : Schema) (k : ℕ) (d : List (List Row)) (t : ℕ)
    → table_rows (numbered (λ u rows. sort (columns_cmp (table s u).key) rows) k d) t
    ≡ sort (columns_cmp (table s (k + t)).key) (table_rows d t)
keyed_at s k [] t = refl
keyed_at s k (rs ∷ d) zero = let same : k + 0 ≡ k = omega arith in ap (λ u. sort (columns_cmp (table s u).key) rs) (sym same)
keyed_at s k (rs ∷ d) (suc t) = let same : suc k + t ≡ k + suc t = omega arith in keyed_at s (suc k) d t ∙ ap (λ u. sort (columns_cmp (table s u).key) (table_rows d t)) same

pub keyed_rows : (s : Schema) (d : List (List Row)) (t : ℕ) → table_rows (keyed s d) t ≡ by_key s d t
keyed_rows s d t = let same : 0 + t ≡ t = omega arith in keyed_at s 0 d t ∙ ap (λ u. sort (columns_cmp (table s u).key) (table_rows d t)) same

keyed_size : (s : Schema) (k : ℕ) (d : List (List Row)) → length (numbered (λ u rows. sort (columns_cmp (table s u).key) rows) k d) ≡ length d
keyed_size s k [] = refl
keyed_size s k (rs ∷ d) = ap suc (keyed_size s (suc k) d)

pub keyed_length : (s : Schema) (d : List (List Row)) → length (keyed s d) ≡ length d
keyed_length s d = keyed_size s 0 d

-- a database has no more tables than its catalog
pub within_catalog : (tables : List Table) (d : List (List Row)) → is_database tables d ≡ true → length d ≤ length tables
within_catalog [] [] e = omega arith
within_catalog [] (rs ∷ d) e = absurd cc
within_catalog (t ∷ tables) [] e = omega arith
within_catalog (t ∷ tables) (rs ∷ d) e = let later = within_catalog tables d (both (are_rows t rs) (is_database tables d) e).1 in omega (arith, later)
