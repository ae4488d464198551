-- The names of a table's types and root fields, by what the table has.
use Rattle.std.specs.Prelude.{ℕ, List, [], ◌∷◌, ◌++◌, map, Bool, cond, codes}
use Rattle.std.specs.List.{list_any}
use Rattle.hq_base.specs.Aggregates.{aggregate_suffix, is_aggregate_of}
use Rattle.hq_base.specs.declared.aggregate.Aggregate.{Aggregate}
use Rattle.hq_schema.specs.Parts.{part_suffix}
use Rattle.hq_schema.specs.declared.part.Part.{Part}
use Rattle.hq_model.specs.Schema.{Schema, column}
use Rattle.hq_model.specs.declared.meta.RootNames.{RootNames}

-- whether an aggregate is one of the values of some of these columns of a table
abbrev pub is_over : Schema → (table : ℕ) → (columns : List ℕ) → Aggregate → Bool
is_over s t cs a = list_any (λ c. is_aggregate_of a (column s t c).ty) cs

abbrev pub part_name : (name : List ℕ) → Part → List ℕ
part_name name p = name ++ part_suffix p

-- the type of what an aggregate gives
abbrev pub aggregated_name : (name : List ℕ) → Aggregate → List ℕ
aggregated_name name a = name ++ aggregate_suffix a

-- the types of a table, where these aggregates are ones of the values of some column
abbrev pub table_types_by : List Aggregate → (name : List ℕ) → List (List ℕ)
table_types_by aggregates name =
    name ∷ (name ++ codes "_bool_exp") ∷ (name ++ codes "_order_by") ∷ (name ++ codes "_select_column")
    ∷ (name ++ codes "_aggregate") ∷ (name ++ codes "_aggregate_fields")
    ∷ map (aggregated_name name) aggregates

-- those of a table that is shown
abbrev pub types_by : (shown : Bool) → List Aggregate → (name : List ℕ) → List (List ℕ)
types_by shown aggregates name = cond shown (table_types_by aggregates name) []

-- the root fields of a table that is shown: the look-up by key where the key's columns are
abbrev pub roots_by : (shown keyed : Bool) → RootNames → List (List ℕ)
roots_by shown keyed roots = cond shown (roots.select ∷ roots.select_aggregate ∷ cond keyed (roots.select_by_pk ∷ []) []) []
