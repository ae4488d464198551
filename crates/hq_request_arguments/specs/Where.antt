-- The boolean expression that `where` writes over a table (Hasura, API reference: GraphQL API, where), in the order of the text or
-- of the variable's value.
use Rattle.std.specs.Prelude.{ℕ, List, [], ◌∷◌, Option, Some, None, Ok, Err}
use Rattle.hq_base.specs.Due.{and_then, mapped}
use Rattle.hq_base.specs.Json.{JsonTree, arr, obj, ElementTrees, no_element, element, MemberTrees, no_member, member}
use Rattle.hq_gql_tree.specs.declared.rule.RuleId.TheVariants.{InputObjectFieldNames}
use Rattle.hq_schema.specs.Look.{input_field_of}
use Rattle.hq_schema.specs.Schema.{base, ArgTree}
use Rattle.hq_schema.specs.declared.origin.ArgOrigin.{ArgOrigin}
use Rattle.hq_schema.specs.declared.origin.ArgOrigin.TheVariants as stands
use Rattle.hq_model.specs.Bexp.{BexpTree, always, and_of, or_of, not_of, through, bexps_of, conjunction}
use Rattle.hq_model.specs.Schema.{column, rel}
use Rattle.hq_request_arguments.specs.Comparisons.{comparisons_due}
use Rattle.hq_request_arguments.specs.Context.{Context}
use Rattle.hq_request_arguments.specs.Reading.{Read, misfit, Given}
use Rattle.hq_request_arguments.specs.declared.refusal.ArgRefusal.TheVariants.{Rule}

-- The expression of a member over table t, by what its input field stands for: `filter` is its value read as a filter at a type
-- over a table, and `list` its value read as a list of filters at a type over t.
abbrev pub by_origin : (filter : (type table : ℕ) → Read BexpTree) (list : (type : ℕ) → Read (List BexpTree)) → JsonTree → Context → (t : ℕ) → (type : ℕ) → ArgOrigin → Read BexpTree
by_origin filter list j c t p stands.And = mapped (λ bs. and_of (bexps_of bs)) (list p)
by_origin filter list j c t p stands.Or = mapped (λ bs. or_of (bexps_of bs)) (list p)
by_origin filter list j c t p stands.Not = mapped not_of (filter p t)
by_origin filter list j c t p (stands.Column k) = comparisons_due c p k (column c.tables t k).ty j
by_origin filter list j c t p (stands.Relationship r) = mapped (through r) (filter p (rel c.tables t r).remote)
by_origin filter list j c t p o = Err (Rule InputObjectFieldNames)

abbrev pub member_due : (filter : (type table : ℕ) → Read BexpTree) (list : (type : ℕ) → Read (List BexpTree)) → JsonTree → Context → (t : ℕ) → Option ArgTree → Read BexpTree
member_due filter list j c t None = Err (Rule InputObjectFieldNames)
member_due filter list j c t (Some a) = by_origin filter list j c t (base a.ty) a.origin

abbrev mutual
  -- a filter at the input object p over table t: all its members, in order
  pub filter_due : JsonTree → Context → (p t : ℕ) → Read BexpTree
  filter_due (obj ms) c p t = mapped conjunction (members_due ms c p t)
  filter_due j c p t = Err (misfit j)

  -- a list of filters; a single one stands for a list of one
  pub filters_due : JsonTree → Context → (p t : ℕ) → Read (List BexpTree)
  filters_due (arr js) c p t = elements_due js c p t
  filters_due (obj ms) c p t = mapped (λ bs. conjunction bs ∷ []) (members_due ms c p t)
  filters_due j c p t = Err (misfit j)

  pub elements_due : ElementTrees → Context → (p t : ℕ) → Read (List BexpTree)
  elements_due no_element c p t = Ok []
  elements_due (element j js) c p t = and_then (λ b. mapped (λ bs. b ∷ bs) (elements_due js c p t)) (filter_due j c p t)

  pub members_due : MemberTrees → Context → (p t : ℕ) → Read (List BexpTree)
  members_due no_member c p t = Ok []
  members_due (member name j ms) c p t =
      and_then (λ b. mapped (λ bs. b ∷ bs) (members_due ms c p t))
      (member_due (λ q u. filter_due j c q u) (λ q. filters_due j c q t) j c t (input_field_of c.schema p name))

-- the expression of a member of this name of the input object p over table t
abbrev pub named_due : Context → (p t : ℕ) → (name : List ℕ) → JsonTree → Read BexpTree
named_due c p t name j = member_due (λ q u. filter_due j c q u) (λ q. filters_due j c q t) j c t (input_field_of c.schema p name)

-- the argument `where` of a list of rows of table t, always true where it is absent
abbrev pub by_filter : Context → (t : ℕ) → JsonTree → (type : ℕ) → ArgOrigin → Read BexpTree
by_filter c t j p stands.Where = filter_due j c p t
by_filter c t j p o = Ok always

abbrev pub where_due : Context → (t : ℕ) → Option Given → Read BexpTree
where_due c t None = Ok always
where_due c t (Some g) = by_filter c t g.value (base g.arg.ty) g.arg.origin
