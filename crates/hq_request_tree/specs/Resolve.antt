-- What nested resolvers give (GraphQL October 2021, section 6: executing selection sets, value completion; Hasura, Queries),
-- over what is seen of a database. There is no SQL here.
use Rattle.std.specs.Prelude.{ℕ, List, [], ◌∷◌, map, filter, Bool, true, ◌&&◌, Option, Some, None, length, pos}
use Rattle.hq_base.specs.Aggregates.{counted, aggregated}
use Rattle.hq_base.specs.Cells.{CellTree, int, cell_of, json_of}
use Rattle.hq_base.specs.Json.{JsonTree, null, str, arr, obj, elements_of, MemberTrees, no_member, member}
use Rattle.hq_base.specs.declared.aggregate.Aggregate.{Aggregate}
use Rattle.hq_base.specs.declared.value.Val.{Val}
use Rattle.hq_model.specs.Database.{Row}
use Rattle.hq_model.specs.Grants.{Grants, limits}
use Rattle.hq_model.specs.Logic.{is_true, equal}
use Rattle.hq_model.specs.Permitted.{seen_by}
use Rattle.hq_model.specs.Related.{related}
use Rattle.hq_model.specs.Schema.{Schema, table, rel}
use Rattle.hq_model.specs.Seen.{Sees}
use Rattle.hq_model.specs.Selected.{ListArguments, selected}
use Rattle.hq_request_tree.specs.Fields.{Origin, from_table, along, FieldTrees, no_field, field, FieldTree, column, typename, no_queries, object, list, by_key, aggregate, introspect, PartTrees, no_part, part, PartTree, summary, nodes, part_typename}
use Rattle.hq_request_tree.specs.declared.aggregate.AggCol.{AggCol}
use Rattle.hq_request_tree.specs.declared.aggregate.AggCol.TheVariants as of
use Rattle.hq_request_tree.specs.declared.aggregate.AggField.{AggField}
use Rattle.hq_request_tree.specs.declared.aggregate.AggField.TheVariants as take
use Rattle.hq_request_tree.specs.declared.aggregate.KeyedAggCol.{KeyedAggCol}
use Rattle.hq_request_tree.specs.declared.aggregate.KeyedAggField.{KeyedAggField}

-- the table of a list below a row of table t
abbrev pub origin_table : Origin → Schema → ℕ → ℕ
origin_table (from_table u) s t = u
origin_table (along r) s t = (rel s t r).remote

-- the rows that a list begins with, in their order
abbrev pub origin_rows : {R : Type 0} → Origin → Schema → Sees R → ℕ → R → List R
origin_rows (from_table u) s S t x = S.rows u
origin_rows (along r) s S t x = related s S t r x

-- a row shows these values in these columns; NULL equals nothing
abbrev pub shows_key : {R : Type 0} → List ℕ → List Val → Sees R → ℕ → R → Bool
shows_key [] vs S t x = true
shows_key (c ∷ cs) [] S t x = true
shows_key (c ∷ cs) (v ∷ vs) S t x = is_true (equal (S.cell t x c) (cell_of v)) && shows_key cs vs S t x

-- the first value, null where there is none
abbrev pub first_or_null : List JsonTree → JsonTree
first_or_null [] = null
first_or_null (j ∷ js) = j

-- the cells of a column in rows
abbrev pub cells_of : {R : Type 0} → Sees R → ℕ → List R → ℕ → List CellTree
cells_of S t xs c = map (λ x. S.cell t x c) xs

-- a column of an aggregate
abbrev pub taken_value : {R : Type 0} → Aggregate → AggCol → Sees R → ℕ → List R → JsonTree
taken_value a (of.Column c) S t xs = json_of (aggregated a (cells_of S t xs c))
taken_value a (of.Typename name) S t xs = str name

abbrev pub taken_members : {R : Type 0} → Aggregate → List KeyedAggCol → Sees R → ℕ → List R → MemberTrees
taken_members a [] S t xs = no_member
taken_members a (c ∷ cs) S t xs = member c.key (taken_value a c.field S t xs) (taken_members a cs S t xs)

-- the number of rows, or of the cells of a column that are not NULL, perhaps of different ones only
abbrev pub count_of : {R : Type 0} → Option ℕ → (distinct : Bool) → Sees R → ℕ → List R → CellTree
count_of None distinct S t xs = int (pos (length xs))
count_of (Some c) distinct S t xs = counted distinct (cells_of S t xs c)

-- a field of an aggregate over rows
abbrev pub summary_value : {R : Type 0} → AggField → Sees R → ℕ → List R → JsonTree
summary_value (take.Count c distinct) S t xs = json_of (count_of c distinct S t xs)
summary_value (take.Columns a cs) S t xs = obj (taken_members a cs S t xs)
summary_value (take.Typename name) S t xs = str name

abbrev pub summary_members : {R : Type 0} → List KeyedAggField → Sees R → ℕ → List R → MemberTrees
summary_members [] S t xs = no_member
summary_members (f ∷ fs) S t xs = member f.key (summary_value f.field S t xs) (summary_members fs S t xs)

-- The JSON of fields at a row of table t. R stands for a row; each table has perhaps a limit on the rows of a list. The root
-- fields stand at no row: of them only those are resolved that start at a table, and no row is read for them.
abbrev mutual
  pub resolve_all : {R : Type 0} → FieldTrees → Schema → (limit : ℕ → Option ℕ) → Sees R → ℕ → R → MemberTrees
  resolve_all no_field s limit S t x = no_member
  resolve_all (field key f fs) s limit S t x = member key (resolve f s limit S t x) (resolve_all fs s limit S t x)

  -- A column gives the cell that is shown, an object relationship the object at the first related row or null, a list the
  -- array of its objects at the selected rows, a look-up by key the object at the row that shows the key or null. What has
  -- no table is answered elsewhere: it gives null here
  pub resolve : {R : Type 0} → FieldTree → Schema → (limit : ℕ → Option ℕ) → Sees R → ℕ → R → JsonTree
  resolve (column c) s limit S t x = json_of (S.cell t x c)
  resolve (typename name) s limit S t x = str name
  resolve no_queries s limit S t x = null
  resolve (object r fs) s limit S t x =
      first_or_null (map (λ far. obj (resolve_all fs s limit S (rel s t r).remote far)) (related s S t r x))
  resolve (list o a fs) s limit S t x =
      arr (elements_of (map (λ far. obj (resolve_all fs s limit S (origin_table o s t) far))
      (selected s S (origin_table o s t) a (limit (origin_table o s t)) (origin_rows o s S t x))))
  resolve (by_key u key fs) s limit S t x =
      first_or_null (map (λ far. obj (resolve_all fs s limit S u far)) (filter (shows_key (table s u).key key S u) (S.rows u)))
  resolve (aggregate o a ps) s limit S t x = obj (resolve_parts ps s limit S (origin_table o s t) a (origin_rows o s S t x))
  resolve (introspect f) s limit S t x = null

  -- the fields of an aggregate over rows that a list of table u begins with
  pub resolve_parts : {R : Type 0} → PartTrees → Schema → (limit : ℕ → Option ℕ) → Sees R → ℕ → ListArguments → List R → MemberTrees
  resolve_parts no_part s limit S u a start = no_member
  resolve_parts (part key p ps) s limit S u a start = member key (resolve_part p s limit S u a start) (resolve_parts ps s limit S u a start)

  -- what is taken over the selected rows knows no limit of the permission; the nodes do
  pub resolve_part : {R : Type 0} → PartTree → Schema → (limit : ℕ → Option ℕ) → Sees R → ℕ → ListArguments → List R → JsonTree
  resolve_part (summary fs) s limit S u a start = obj (summary_members fs S u (selected s S u a None start))
  resolve_part (nodes fs) s limit S u a start =
      arr (elements_of (map (λ far. obj (resolve_all fs s limit S u far)) (selected s S u a (limit u) start)))
  resolve_part (part_typename name) s limit S u a start = str name

-- The JSON of root fields for what is granted: they stand at no table and no row.
abbrev pub resolved : FieldTrees → Schema → Grants → List (List Row) → JsonTree
resolved fs s g d = obj (resolve_all fs s (limits g) (seen_by s g d) (length s) [])
