-- How few parentheses the statement opens at once.
use Rattle.std.specs.Prelude.{ℕ, ◌+◌, ◌*◌, ◌≤◌, max, length}
use Rattle.hq_base.specs.Lists.{Each}
use Rattle.hq_model.specs.Bexp.{depth}
use Rattle.hq_model.specs.Schema.{Schema}
use Rattle.hq_model.specs.Selected.{ListArguments}
use Rattle.hq_request_tree.specs.Fields.{FieldTrees, no_field, field, FieldTree, column, typename, no_queries, object, list, by_key, aggregate, introspect, PartTrees, no_part, part, PartTree, summary, nodes, part_typename}
use Rattle.hq_sql_tree.specs.Form.{select_depth}
use Rattle.hq_translation.specs.GrantedTables.{GrantedTables}
use Rattle.hq_translation.specs.Statement.{statement}

-- how many selects of fields stand in one another
abbrev mutual
  pub fields_height : FieldTrees → ℕ
  fields_height no_field = 0
  fields_height (field key f fs) = max (field_height f) (fields_height fs)

  pub field_height : FieldTree → ℕ
  field_height (column c) = 0
  field_height (typename name) = 0
  field_height no_queries = 0
  field_height (object r fs) = 1 + fields_height fs
  field_height (list o a fs) = 1 + fields_height fs
  field_height (by_key u key fs) = 1 + fields_height fs
  field_height (aggregate o a ps) = 1 + parts_height ps
  field_height (introspect f) = 0

  pub parts_height : PartTrees → ℕ
  parts_height no_part = 0
  parts_height (part key p ps) = max (part_height p) (parts_height ps)

  pub part_height : PartTree → ℕ
  part_height (summary fs) = 1
  part_height (nodes fs) = 1 + fields_height fs
  part_height (part_typename name) = 0

-- the filters and the masks are nested at most F deep
abbrev pub LowGranted : GrantedTables → (F : ℕ) → Type 0
LowGranted g F = ((t : ℕ) → depth (g.filter t) ≤ F) × ((t : ℕ) → Each (λ m. depth m.shown ≤ F) (g.masks t))

-- a `where` is nested at most X deep, and sorts go through at most C relationships
abbrev pub AreShort : ListArguments → (X C : ℕ) → Type 0
AreShort a X C = (depth a.wanted ≤ X) × Each (λ k. length k.through ≤ C) a.sorts

abbrev mutual
  pub AreLow : FieldTrees → (X C : ℕ) → Type 0
  AreLow no_field X C = Unit {0}
  AreLow (field key f fs) X C = IsLow f X C × AreLow fs X C

  pub IsLow : FieldTree → (X C : ℕ) → Type 0
  IsLow (column c) X C = Unit {0}
  IsLow (typename name) X C = Unit {0}
  IsLow no_queries X C = Unit {0}
  IsLow (object r fs) X C = AreLow fs X C
  IsLow (list o a fs) X C = AreShort a X C × AreLow fs X C
  IsLow (by_key u key fs) X C = AreLow fs X C
  IsLow (aggregate o a ps) X C = AreShort a X C × AreLowParts ps X C
  IsLow (introspect f) X C = Unit {0}

  pub AreLowParts : PartTrees → (X C : ℕ) → Type 0
  AreLowParts no_part X C = Unit {0}
  AreLowParts (part key p ps) X C = IsLowPart p X C × AreLowParts ps X C

  pub IsLowPart : PartTree → (X C : ℕ) → Type 0
  IsLowPart (summary fs) X C = Unit {0}
  IsLowPart (nodes fs) X C = AreLow fs X C
  IsLowPart (part_typename name) X C = Unit {0}

-- The statement opens at most two parentheses for each level of fields, and so many more.
abbrev pub IsShallow : FieldTrees → Schema → GrantedTables → (F X C : ℕ) → Type 0
IsShallow fs s g F X C = LowGranted g F → AreLow fs X C → select_depth (statement fs s g) ≤ 2 * fields_height fs + (2 * X + 2 * F + C + 6)
