-- Sort keys and values of DISTINCT ON that were taken once.
use Rattle.std.specs.Prelude.{ℕ, List, [], ◌∷◌, map}
use Rattle.std.specs.declared.cmp.Ordering.{Ordering}
use Rattle.std.specs.Ordering.{on}
use Rattle.hq_base.specs.Cells.{CellTree, json_of}
use Rattle.hq_base.specs.Json.{JsonTree, json_view}
use Rattle.hq_base.specs.Lists.{firsts}
use Rattle.hq_base.specs.declared.json.Json.{Json}
use Rattle.hq_sql_cells.specs.declared.order.Direction.{Direction}
use Rattle.hq_sql_cells.specs.declared.kept.Kept.{Kept}
use Rattle.hq_sql_cells.specs.Keys.{keys_of, distinct_of, keys_cmp, same_group}
use Rattle.hq_sql_tree.specs.Tree.{ExprTree, PairTree, OrderTree, OutTree}
use Rattle.hq_sql_tree.specs.Meaning.{Scope as Names, value}

-- the direction of a sort key
abbrev pub direction_of : OrderTree → Direction
direction_of o = record { desc = o.desc; nulls_first = o.nulls_first }

-- the directions of sort keys
abbrev pub directions_of : List OrderTree → List Direction
directions_of = map direction_of

-- the row of a kept one
abbrev pub row_of : {T : Type 0} → Kept T → T
row_of k = k.row

-- the order of kept rows by their keys
abbrev pub by_keys : {T : Type 0} → List OrderTree → Kept T → Kept T → Ordering
by_keys os = on keys_of (keys_cmp (directions_of os))

-- with DISTINCT ON the first kept row of each group
abbrev pub distinct_kept : {T : Type 0} → List ExprTree → List (Kept T) → List (Kept T)
distinct_kept [] ks = ks
distinct_kept (e ∷ es) ks = firsts same_group ks

-- the values of expressions
abbrev pub expr_values : List ExprTree → Names → List CellTree
expr_values es names = map (λ e. value e [] names) es

-- the values that rows are sorted by
abbrev pub key_values : List OrderTree → Names → List CellTree
key_values os names = map (λ o. value o.value [] names) os

-- a kept row with what was taken of it
abbrev pub with_cells : {T : Type 0} → Kept T → (List CellTree × List CellTree) × T
with_cells k = ((keys_of k, distinct_of k), k.row)

-- the JSON of an expression with sort keys, as it is kept
abbrev pub with_json : Kept Json → List CellTree × JsonTree
with_json k = (keys_of k, json_view k.row)

-- what is meant by them
abbrev pub json_at : ExprTree → List OrderTree → Names → List CellTree × JsonTree
json_at e os names = (key_values os names, json_of (value e [] names))

-- a row with its keys and its values of DISTINCT ON in its scope
abbrev pub keyed_at : {T : Type 0} → Names → List OrderTree → List ExprTree → T → (List CellTree × List CellTree) × T
keyed_at names os es t = ((key_values os names, expr_values es names), t)

-- the same, where each row has a scope
abbrev pub taken_at : {T : Type 0} → (T → Names) → List OrderTree → List ExprTree → T → (List CellTree × List CellTree) × T
taken_at at os es t = keyed_at (at t) os es t

-- the member of an object at a pair
abbrev pub member_at : List Names → Names → PairTree → List ℕ × JsonTree
member_at group names p = (p.name, json_of (value p.value group names))

-- the named cell at an output
abbrev pub output_at : Names → OutTree → List ℕ × CellTree
output_at names o = (o.name, value o.value [] names)

-- the named cells of outputs
abbrev pub outputs_of : List OutTree → Names → List (List ℕ × CellTree)
outputs_of os names = map (output_at names) os
