-- The place of a table in the catalog and in the schema.
use Rattle.std.proofs.Common.{◌≡◌, ℕ, suc, ◌+◌, List, [], ◌∷◌, length, Bool, cond, not, ◌&&◌, Some, None, bytes_eq, refl, ap, ap₂}
use Rattle.std.specs.Prelude.{nat_lt, unwrap_or}
use Rattle.std.specs.List.{position, prefix_len}
use Rattle.hq_model.specs.Meta.{MetaTree}
use Rattle.hq_model.specs.Schema.{numbered, schema_of, schema_table}
use Rattle.hq_model.specs.declared.table.Table.{Table}
use Rattle.hq_confine_rules.specs.Origins.{is_named, table_place}

pub length-numbered : {A B : Type 0} (f : ℕ → A → B) (k : ℕ) (xs : List A) → length (numbered f k xs) ≡ length xs
length-numbered f k [] = refl
length-numbered f k (x ∷ xs) = ap suc (length-numbered f (suc k) xs)

-- a table of the catalog has this name
abbrev pub has_name : (schema name : List ℕ) → Table → Bool
has_name schema name t = bytes_eq t.schema schema && bytes_eq t.name name

named_len : (schema name : List ℕ) (m : MetaTree) (k : ℕ) (tables : List Table)
    → prefix_len (λ t. not (is_named schema name t)) (numbered (schema_table m) k tables) ≡ prefix_len (λ t. not (has_name schema name t)) tables
named_len schema name m k [] = refl
named_len schema name m k (t ∷ ts) = ap (λ n. cond (not (has_name schema name t)) (1 + n) 0) (named_len schema name m (suc k) ts)

pub named_position : (schema name : List ℕ) (m : MetaTree) (tables : List Table) → position (is_named schema name) (schema_of tables m) ≡ position (has_name schema name) tables
named_position schema name m tables = ap₂ (λ (n l : ℕ). cond (nat_lt n l) (Some n) None) (named_len schema name m 0 tables) (length-numbered (schema_table m) 0 tables)

-- the place of the table of a name, by the catalog
pub named_place : (schema name : List ℕ) (m : MetaTree) (tables : List Table) → table_place (schema_of tables m) schema name ≡ unwrap_or (position (has_name schema name) tables) (length tables)
named_place schema name m tables = ap₂ unwrap_or (named_position schema name m tables) (length-numbered (schema_table m) 0 tables)
