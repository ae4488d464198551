-- The boolean expression that the filter of a permission writes over a table (Hasura, Authorization: row-level
-- permissions; boolean expressions).
use Rattle.std.specs.Prelude.{ℕ, ◌+◌, List, [], ◌∷◌, Option, Some, None, Result, Ok, Err, if◌then◌else◌, bytes_eq, codes}
use Rattle.hq_base.specs.Due.{and_then, mapped}
use Rattle.hq_base.specs.Json.{JsonTree, arr, obj, ElementTrees, no_element, element, MemberTrees, no_member, member}
use Rattle.hq_base.specs.Path.{member_path, item_path}
use Rattle.hq_model.specs.Bexp.{BexpTree, and_of, or_of, not_of, through, exists_in, bexps_of, conjunction}
use Rattle.hq_model.specs.Meta.{MetaTree}
use Rattle.hq_model.specs.Schema.{schema_of, table, column, rel}
use Rattle.hq_model.specs.declared.table.Table.{Table}
use Rattle.hq_load_filter.specs.declared.named.Named.{Named}
use Rattle.hq_load_filter.specs.declared.named.Named.TheVariants.{And, Or, Not, Exists, Column, Relationship}
use Rattle.hq_load_filter.specs.declared.refusal.FilterRefusal.{FilterRefusal}
use Rattle.hq_load_filter.specs.declared.refusal.FilterRefusal.TheVariants.{Shape, UnknownColumn}
use Rattle.hq_load_filter.specs.Asked.{asked_due}
use Rattle.hq_load_filter.specs.Condition.{column_due}
use Rattle.hq_load_filter.specs.Named.{named}

-- The expression of a member at a path, by what it names: `filter` is its value read as a filter over a table, `list` its
-- value read as a list of filters over table t, and `exists` read as that of `_exists`. UnknownColumn where it names nothing.
abbrev pub member_due : (filter : ℕ → Result BexpTree FilterRefusal) (list : Result (List BexpTree) FilterRefusal)
    (exists : Result BexpTree FilterRefusal)
    → JsonTree → List Table → MetaTree → (t : ℕ) (path : List ℕ) → Option Named → Result BexpTree FilterRefusal
member_due filter list exists j tables m t path None = Err (UnknownColumn path)
member_due filter list exists j tables m t path (Some And) = mapped (λ bs. and_of (bexps_of bs)) list
member_due filter list exists j tables m t path (Some Or) = mapped (λ bs. or_of (bexps_of bs)) list
member_due filter list exists j tables m t path (Some Not) = mapped not_of (filter t)
member_due filter list exists j tables m t path (Some Exists) = exists
member_due filter list exists j tables m t path (Some (Column c)) = column_due (table (schema_of tables m) t) c (column (schema_of tables m) t c).ty path j
member_due filter list exists j tables m t path (Some (Relationship r)) = mapped (through r) (filter (rel (schema_of tables m) t r).remote)

abbrev mutual
  -- the filter at a path over table t of a catalog and a metadata: all its members, in order; Shape where it is no object
  pub filter_due : JsonTree → List Table → MetaTree → (t : ℕ) (path : List ℕ) → Result BexpTree FilterRefusal
  filter_due (obj ms) tables m t path = mapped conjunction (members_due ms tables m t path)
  filter_due _ tables m t path = Err (Shape path)

  -- the list of filters at a path; Shape where it is no list
  pub filters_due : JsonTree → List Table → MetaTree → (t : ℕ) (path : List ℕ) → Result (List BexpTree) FilterRefusal
  filters_due (arr js) tables m t path = elements_due js tables m t path 0
  filters_due _ tables m t path = Err (Shape path)

  -- the filters of the elements from a place on
  pub elements_due : ElementTrees → List Table → MetaTree → (t : ℕ) (path : List ℕ) (place : ℕ) → Result (List BexpTree) FilterRefusal
  elements_due no_element tables m t path place = Ok []
  elements_due (element j js) tables m t path place =
      and_then (λ b. mapped (λ bs. b ∷ bs) (elements_due js tables m t path (place + 1))) (filter_due j tables m t (item_path path place))

  -- the expressions of the members
  pub members_due : MemberTrees → List Table → MetaTree → (t : ℕ) (path : List ℕ) → Result (List BexpTree) FilterRefusal
  members_due no_member tables m t path = Ok []
  members_due (member name j ms) tables m t path =
      let here = member_path path name in
      and_then (λ b. mapped (λ bs. b ∷ bs) (members_due ms tables m t path))
      (member_due (λ remote. filter_due j tables m remote here) (filters_due j tables m t here) (exists_due j tables m here) j tables m t here (named (table (schema_of tables m) t) name))

  -- The value of `_exists` at a path: some row of the table that it asks for meets the filter of its member `_where`.
  pub exists_due : JsonTree → List Table → MetaTree → (path : List ℕ) → Result BexpTree FilterRefusal
  exists_due (obj ms) tables m path = and_then (λ u. mapped (exists_in u) (where_due ms tables m u (member_path path (codes "_where")))) (asked_due tables m path (obj ms))
  exists_due _ tables m path = Err (Shape path)

  -- the filter over table t that the member `_where` holds, which stands here; Shape where there is none
  pub where_due : MemberTrees → List Table → MetaTree → (t : ℕ) (here : List ℕ) → Result BexpTree FilterRefusal
  where_due no_member tables m t here = Err (Shape here)
  where_due (member name j ms) tables m t here = if bytes_eq name (codes "_where") then filter_due j tables m t here else where_due ms tables m t here

-- what a value at a path writes as the member of this name
abbrev pub written : List Table → MetaTree → (t : ℕ) (path name : List ℕ) → JsonTree → Result BexpTree FilterRefusal
written tables m t path name j =
    member_due (λ remote. filter_due j tables m remote path) (filters_due j tables m t path) (exists_due j tables m path) j tables m t path (named (table (schema_of tables m) t) name)
