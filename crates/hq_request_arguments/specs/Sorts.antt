-- The entries that `order_by` writes over a table (Hasura, API reference: GraphQL API, order_by).
use Rattle.std.specs.Prelude.{ℕ, List, [], ◌∷◌, ◌++◌, Bool, true, false, length, nat_lt, if◌then◌else◌, Option, Some, None, bytes_eq, codes, Ok, Err}
use Rattle.hq_base.specs.Due.{and_then, mapped}
use Rattle.hq_base.specs.Json.{JsonTree, str, obj, MemberTrees, no_member, member}
use Rattle.hq_gql_tree.specs.declared.rule.RuleId.TheVariants.{InputObjectFieldNames, SortEntries}
use Rattle.hq_schema.specs.Look.{input_field_of}
use Rattle.hq_schema.specs.Schema.{base, ArgTree}
use Rattle.hq_schema.specs.declared.origin.ArgOrigin.{ArgOrigin}
use Rattle.hq_schema.specs.declared.origin.ArgOrigin.TheVariants as stands
use Rattle.hq_model.specs.Schema.{rel}
use Rattle.hq_model.specs.Selected.{SortKey}
use Rattle.hq_request_arguments.specs.Context.{Context}
use Rattle.hq_request_arguments.specs.Reading.{Read, items_in, misfit, fitting, Given}
use Rattle.hq_request_arguments.specs.declared.refusal.ArgRefusal.TheVariants.{Rule}
use Rattle.hq_request_arguments.specs.declared.sorts.Direction.{Direction}

-- a direction, and where NULL stands: behind all values where nothing is said of an ascending sort, before them of a descending one
abbrev pub direction : (desc nulls_first : Bool) → Direction
direction desc nulls_first = record { desc = desc; nulls_first = nulls_first }

unfoldable pub direction_named : (name : List ℕ) → Option Direction
direction_named name =
    if bytes_eq name (codes "asc") then Some (direction false false)
    else (if bytes_eq name (codes "asc_nulls_first") then Some (direction false true)
    else (if bytes_eq name (codes "asc_nulls_last") then Some (direction false false)
    else (if bytes_eq name (codes "desc") then Some (direction true true)
    else (if bytes_eq name (codes "desc_nulls_first") then Some (direction true true)
    else (if bytes_eq name (codes "desc_nulls_last") then Some (direction true false) else None)))))

abbrev pub direction_in : JsonTree → Option Direction
direction_in (str name) = direction_named name
direction_in j = None

-- a sort by column c at the end of relationships
abbrev pub sort_by : (through : List ℕ) → (column : ℕ) → Direction → SortKey
sort_by through c d = record { through = through; column = c; desc = d.desc; nulls_first = d.nulls_first }

abbrev pub column_sort : (through : List ℕ) → (column : ℕ) → JsonTree → Read (List SortKey)
column_sort through c j = mapped (λ d. sort_by through c d ∷ []) (fitting j (direction_in j))

-- the sorts of a member over table t at the end of relationships, by what its input field stands for: `inner` is its value read as
-- an entry at a type over a table
abbrev pub by_origin : (inner : (through : List ℕ) → (type table : ℕ) → Read (List SortKey)) → JsonTree → Context → (through : List ℕ) → (t : ℕ) → (type : ℕ) → ArgOrigin → Read (List SortKey)
by_origin inner j c through t p (stands.Column k) = column_sort through k j
by_origin inner j c through t p (stands.Relationship r) = inner (through ++ r ∷ []) p (rel c.tables t r).remote
by_origin inner j c through t p o = Err (Rule InputObjectFieldNames)

abbrev pub member_due : (inner : (through : List ℕ) → (type table : ℕ) → Read (List SortKey)) → JsonTree → Context → (through : List ℕ) → (t : ℕ) → Option ArgTree → Read (List SortKey)
member_due inner j c through t None = Err (Rule InputObjectFieldNames)
member_due inner j c through t (Some a) = by_origin inner j c through t (base a.ty) a.origin

abbrev mutual
  -- the sorts of an entry at the input object p over table t, at the end of relationships: those of its members, in order
  pub entry_due : JsonTree → Context → (through : List ℕ) → (p t : ℕ) → Read (List SortKey)
  entry_due (obj ms) c through p t = members_due ms c through p t
  entry_due j c through p t = Err (misfit j)

  pub members_due : MemberTrees → Context → (through : List ℕ) → (p t : ℕ) → Read (List SortKey)
  members_due no_member c through p t = Ok []
  members_due (member name j ms) c through p t =
      and_then (λ here. mapped (λ more. here ++ more) (members_due ms c through p t))
      (member_due (λ deeper q u. entry_due j c deeper q u) j c through t (input_field_of c.schema p name))

-- the sorts of a member of this name of the input object p over table t
abbrev pub named_due : Context → (through : List ℕ) → (p t : ℕ) → (name : List ℕ) → JsonTree → Read (List SortKey)
named_due c through p t name j = member_due (λ deeper q u. entry_due j c deeper q u) j c through t (input_field_of c.schema p name)

-- the sorts of some entries, one after the other
abbrev pub entries_due : Context → (p t : ℕ) → List JsonTree → Read (List SortKey)
entries_due c p t [] = Ok []
entries_due c p t (j ∷ js) = and_then (λ here. mapped (λ more. here ++ more) (entries_due c p t js)) (entry_due j c [] p t)

-- at most 100 sorts
abbrev pub within_limit : List SortKey → Read (List SortKey)
within_limit ks = if nat_lt 100 (length ks) then Err (Rule SortEntries) else Ok ks

-- the argument `order_by` of a list of rows of table t, none where it is absent
abbrev pub by_sorts : Context → (t : ℕ) → JsonTree → (type : ℕ) → ArgOrigin → Read (List SortKey)
by_sorts c t j p stands.OrderBy = and_then within_limit (entries_due c p t (items_in j))
by_sorts c t j p o = Ok []

abbrev pub order_by_due : Context → (t : ℕ) → Option Given → Read (List SortKey)
order_by_due c t None = Ok []
order_by_due c t (Some g) = by_sorts c t g.value (base g.arg.ty) g.arg.origin
