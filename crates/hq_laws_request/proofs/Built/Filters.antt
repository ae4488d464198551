-- What `where` writes over a table: where its value is of the table's filters it is refused by a null or a pattern alone.
use Rattle.std.proofs.Common.{◌≡◌, ◌∙◌, refl, sym, ap, subst, ℕ, List, [], ◌∷◌, Bool, true, false, cond, position, Option, Some, None, Err, is_some, option_map, option_and_then, bytes_eq}
use Rattle.hq_base.specs.Due.{mapped}
use Rattle.hq_base.specs.Json.{JsonTree, null, bool, int, str, arr, obj, ElementTrees, no_element, element, MemberTrees, no_member, member}
use Rattle.hq_base.specs.Lists.{Each}
use Rattle.hq_base.proofs.Lists.{each_weaken}
use Rattle.hq_base.specs.Look.{member_list}
use Rattle.hq_base.specs.declared.value.Ty.{Ty}
use Rattle.hq_base.specs.declared.value.Ty.TheVariants as ty
use Rattle.hq_model.specs.Bexp.{and_of, or_of, not_of, through, bexps_of, conjunction}
use Rattle.hq_model.specs.Fits.{fits}
use Rattle.hq_model.specs.Meta.{MetaTree}
use Rattle.hq_model.specs.Schema.{Schema, schema_of, column, rel}
use Rattle.hq_model.specs.Tests.{arity, applies}
use Rattle.hq_model.specs.declared.meta.Rel.{Rel}
use Rattle.hq_model.specs.declared.operator.Operator.{Operator}
use Rattle.hq_model.specs.declared.role.Role.{Role}
use Rattle.hq_model.specs.declared.table.Table.{Table}
use Rattle.hq_model.specs.declared.test.Arity.{Arity}
use Rattle.hq_model.specs.declared.test.Arity.TheVariants.{Nothing, One, Many}
use Rattle.hq_schema.specs.Fixed.{fixed_place}
use Rattle.hq_schema.specs.Look.{type_at, arg_in, input_field_of, enum_value_of}
use Rattle.hq_schema.specs.Schema.{base, TypeRefTree, named, list_of, non_null, ArgTree, TypeTree, SchemaTree}
use Rattle.hq_schema.specs.declared.fixed.Fixed.TheVariants.{Scalar, Comparison}
use Rattle.hq_schema.specs.declared.origin.ArgOrigin.{ArgOrigin}
use Rattle.hq_schema.specs.declared.origin.ArgOrigin.TheVariants as stands
use Rattle.hq_schema.specs.declared.origin.TypeOrigin.{TypeOrigin}
use Rattle.hq_schema.specs.declared.origin.TypeOrigin.TheVariants as type
use Rattle.hq_gql_nodes.specs.Known.{element_type, input_at, is_input}
use Rattle.hq_schema_of_role.specs.FixedTypes.{fixed_type}
use Rattle.hq_schema_of_role.specs.Operators.{value_type}
use Rattle.hq_schema_of_role.specs.Placed.{placed}
use Rattle.hq_schema_of_role.specs.References.{fixed}
use Rattle.hq_schema_of_role.specs.RoleSchema.{role_schema}
use Rattle.hq_schema_of_role.specs.Shown.{shown_tables}
use Rattle.hq_schema_roles.specs.Access.{Access, access_of}
use Rattle.hq_schema_roles.specs.Leads.{behind, Reaches, filter_target, operator_target}
use Rattle.hq_request_coerce.specs.Coercion.{enum_value, leaf_by, leaf_value}
use Rattle.hq_request_coerce.specs.Variables.{VarTree}
use Rattle.hq_request_arguments.specs.Comparisons.{tested_due, operator_due, operator_of, comparisons_due}
use Rattle.hq_request_arguments.specs.Comparisons as comparisons
use Rattle.hq_request_arguments.specs.Context.{Context}
use Rattle.hq_request_arguments.specs.Operands.{operand_due, truth_due}
use Rattle.hq_request_arguments.specs.Reading.{each, items_in}
use Rattle.hq_request_arguments.specs.Where.{filter_due, filters_due, elements_due, members_due, member_due, by_origin}
use Rattle.hq_gql_tree.specs.declared.rule.RuleId.TheVariants.{ValuesOfCorrectType}
use Rattle.hq_request_arguments.specs.declared.refusal.ArgRefusal.TheVariants.{Rule}
use Rattle.hq_laws_request.proofs.Built.BuildingSteps.{and_then_some}
use Rattle.hq_laws_request.proofs.Built.Items.{each_at, found_each}
use Rattle.hq_laws_request.proofs.Built.Lawful.{Lawful, then_lawful, mapped_lawful, each_lawful}
use Rattle.hq_laws_request.proofs.Built.Permitted.{rel_at}
use Rattle.hq_laws_request.proofs.Built.Places.{At, Schemed, TypeIs, type_is, input_found}
use Rattle.hq_laws_request.proofs.Built.Scalars.{IsScalar, ScalarOrNull, scalar_is, items_scalar, operand_lawful, truth_lawful}
use Rattle.hq_laws_request.proofs.Built.Shapes.{OperatorIs, ManyIs, FilterIs, InputIs, ValuesAre, Shaped}
use Rattle.hq_laws_request.proofs.Built.Standing.{introspection_at}
use Rattle.hq_laws_request.proofs.Built.Values.{IsOf, AreOf, MembersOf}

-- an input object at a place is at that place
pub input_same : (s : SchemaTree) (t u : ℕ) → input_at s t ≡ Some u → u ≡ t
input_same s t u e =
    let found = and_then_some (λ (d : TypeTree). cond (is_input d.kind) (Some t) None) (type_at s t) u e in
    by (is_input found.0.kind) found.2
  where
    by : (b : Bool) → cond b (Some t) None ≡ Some u → u ≡ t
    by true e = let same : t ≡ u = cc in sym same
    by false e = absurd cc

-- the items of a list have its base
pub element_base : (r q : TypeRefTree) → element_type r ≡ Some q → base q ≡ base r
element_base (named t) q e = absurd cc
element_base (list_of r) q e = let same : r ≡ q = cc in ap base (sym same)
element_base (non_null r) q e = element_base r q e

module _ (tables : List Table) (m : MetaTree) (metadata_fits : fits tables m ≡ true) (role : Role) (schemed : Schemed tables m role)
    (shaped : Each (Shaped tables m role) (role_schema tables m role).types) (vars : List VarTree) where
  abbrev s : Schema
  s = schema_of tables m

  abbrev R : SchemaTree
  R = role_schema tables m role

  abbrev types : List TypeTree
  types = R.types

  abbrev a : Access
  a = access_of m role

  abbrev c : Context
  c = record { vars = vars; schema = R; tables = s }

  -- what the type at a place is like
  pub shaped_at : (place : ℕ) (o : TypeOrigin) (at : At types place o) → Shaped tables m role (type_is tables m role schemed place o at).type
  shaped_at place o at = let is = type_is tables m role schemed place o at in each_at (Shaped tables m role) types place is.type is.here shaped

  pub input_shaped : (place : ℕ) (o : TypeOrigin) (name : List ℕ) (x : ArgTree) → At types place o → input_field_of R place name ≡ Some x → InputIs tables m role o x
  input_shaped place o name x at e =
      let is = type_is tables m role schemed place o at in
      let d : TypeTree = is.type in
      let inside : arg_in d.inputs name ≡ Some x = ap (option_and_then (λ (t : TypeTree). arg_in t.inputs name)) (sym is.here) ∙ e in
      subst (λ q. InputIs tables m role q x) is.means (found_each (InputIs tables m role d.origin) (λ (y : ArgTree). bytes_eq y.name name) d.inputs x inside (shaped_at place o at).inputs).0

  -- each scalar stands at its place
  pub scalar_at : (t : Ty) → IsScalar R t
  unfolding fixed_type
  scalar_at t = record { own = fixed_type (placed (shown_tables tables m role)) (Scalar t); here = introspection_at tables m role (Scalar t); means = refl; leaf = refl }

  comparison_at : (t : Ty) → At types (fixed_place (Comparison t)) (type.Comparison t)
  unfolding fixed_type
  comparison_at t = ap (option_map (λ (d : TypeTree). d.origin)) (introspection_at tables m role (Comparison t))

  -- no leaf is of a type without values that is no scalar
  pub no_leaf : (place : ℕ) (o : TypeOrigin) → At types place o → ((vs : List (List ℕ)) → ValuesAre o vs → vs ≡ []) → ((j : JsonTree) → leaf_by R place o j ≡ enum_value R place j)
      → (j : JsonTree) → is_some (leaf_value R place j) ≡ true → ⊥
  no_leaf place o at empty enum j h = by j (ap is_some (sym (enum j)) ∙ second)
    where
      is : TypeIs tables m role schemed place o
      is = type_is tables m role schemed place o at

      first : is_some (leaf_by R place is.type.origin j) ≡ true
      first = ap (λ q. is_some (option_and_then (λ (d : TypeTree). leaf_by R place d.origin j) q)) (sym is.here) ∙ h

      second : is_some (leaf_by R place o j) ≡ true
      second = ap (λ q. is_some (leaf_by R place q j)) (sym is.means) ∙ first

      none : is.type.values ≡ []
      none = empty is.type.values (subst (λ q. ValuesAre q is.type.values) is.means (shaped_at place o at).values)

      nothing : (name : List ℕ) → enum_value_of R place name ≡ None
      nothing name = ap (option_and_then (λ (d : TypeTree). position (λ v. bytes_eq v name) d.values)) is.here ∙ ap (position (λ v. bytes_eq v name)) none

      by : (j : JsonTree) → is_some (enum_value R place j) ≡ true → ⊥
      by null h = cc
      by (bool b) h = cc
      by (int n) h = cc
      by (str x) h = let no : false ≡ true = ap (λ q. is_some (option_map (λ (k : ℕ). str x) q)) (sym (nothing x)) ∙ h in cc
      by (arr js) h = cc
      by (obj ms) h = cc

  no_filter_leaf : (place t : ℕ) → At types place (type.Filter t) → (j : JsonTree) → is_some (leaf_value R place j) ≡ true → ⊥
  no_filter_leaf place t at j h = no_leaf place (type.Filter t) at (λ vs e. e) (λ j. refl) j h

  no_comparison_leaf : (t : Ty) (j : JsonTree) → is_some (leaf_value R (fixed_place (Comparison t)) j) ≡ true → ⊥
  no_comparison_leaf t j h = no_leaf (fixed_place (Comparison t)) (type.Comparison t) (comparison_at t) (λ vs e. e) (λ j. refl) j h

  -- ---- comparisons

  module _ (k : ℕ) (q : Ty) where
    -- a test of the column, whose operands are of the type
    tested_lawful : (o : Operator) → applies o.test q ≡ true → (j : JsonTree) (n : Arity) → IsOf R (value_type q n) j → Lawful (tested_due k q o j n)
    tested_lawful o of j Nothing h = mapped_lawful _ (truth_due j) (truth_lawful j (scalar_is R ty.Boolean (scalar_at ty.Boolean) (value_type q Nothing) refl refl j h))
    tested_lawful o of j One h = mapped_lawful _ (operand_due o.test q j) (operand_lawful o.test q of j (scalar_is R q (scalar_at q) (value_type q One) refl refl j h))
    tested_lawful o of j Many h =
        mapped_lawful _ (each (operand_due o.test q) (items_in j))
        (each_lawful (operand_due o.test q) (items_in j)
        (each_weaken (ScalarOrNull q) (λ i. Lawful (operand_due o.test q i)) (λ i g. operand_lawful o.test q of i g) (items_in j) (items_scalar R q (scalar_at q) j h)))

    operator_lawful : (o : Operator) (j : JsonTree) → applies o.test q ≡ true → IsOf R (value_type q (arity o.test)) j → Lawful (operator_due k q o j)
    operator_lawful o j of h = by (applies o.test q) of
      where
        by : (b : Bool) → b ≡ true → Lawful (cond b (tested_due k q o j (arity o.test)) (Err (Rule ValuesOfCorrectType)))
        by true e = tested_lawful o of j (arity o.test) h
        by false e = absurd cc

    input_lawful : (j : JsonTree) (r : TypeRefTree) (o : ArgOrigin) → Reaches types r (operator_target o) → OperatorIs q o r → IsOf R r j → Lawful (comparisons.member_due k q (operator_of o) j)
    input_lawful j r (stands.Operator o) at is h = operator_lawful o j is.0 (subst (λ x. IsOf R x j) is.1 h)
    input_lawful j r o at is h = absurd at

    members_compare : (ms : MemberTrees) → MembersOf R (fixed_place (Comparison q)) ms → Each (λ x. Lawful (comparisons.named_due c (fixed_place (Comparison q)) k q x)) (member_list ms)
    members_compare no_member h = tt
    members_compare (member name j ms) h =
        let p : ℕ = fixed_place (Comparison q) in
        let x : ArgTree = h.0.0 in
        let fit = input_found tables m role schemed p (type.Comparison q) name x (comparison_at q) h.0.1 in
        let here : Lawful (comparisons.member_due k q (operator_of x.origin) j) = input_lawful j x.ty x.origin fit.reaches (input_shaped p (type.Comparison q) name x (comparison_at q) h.0.1) h.0.2 in
        (subst (λ (o : Option ArgTree). Lawful (comparisons.member_due k q (option_and_then (λ (y : ArgTree). operator_of y.origin) o) j)) (sym h.0.1) here, members_compare ms h.1)

    compared_lawful : (j : JsonTree) → IsOf R (fixed (Comparison q)) j → Lawful (comparisons_due c (fixed_place (Comparison q)) k q j)
    compared_lawful null h = refl
    compared_lawful (bool b) h = absurd (no_comparison_leaf q (bool b) h)
    compared_lawful (int n) h = absurd (no_comparison_leaf q (int n) h)
    compared_lawful (str x) h = absurd (no_comparison_leaf q (str x) h)
    compared_lawful (arr js) h = absurd (let no : None ≡ Some h.0 = h.1 in cc)
    compared_lawful (obj ms) h =
        let inside : MembersOf R (fixed_place (Comparison q)) ms = subst (λ p. MembersOf R p ms) (input_same R (fixed_place (Comparison q)) h.0 h.1) h.2 in
        mapped_lawful conjunction (each (comparisons.named_due c (fixed_place (Comparison q)) k q) (member_list ms))
        (each_lawful (comparisons.named_due c (fixed_place (Comparison q)) k q) (member_list ms) (members_compare ms inside))

  comparisons_lawful : (k : ℕ) (q : Ty) (r : TypeRefTree) (j : JsonTree) → r ≡ fixed (Comparison q) → IsOf R r j → Lawful (comparisons_due c (base r) k q j)
  comparisons_lawful k q r j same h = subst (λ x. Lawful (comparisons_due c (base x) k q j)) (sym same) (compared_lawful k q j (subst (λ x. IsOf R x j) same h))

  -- ---- one member, where its value is read as a filter or a list of filters

  module _ (j : JsonTree) (filter_lawful : (r : TypeRefTree) (t : ℕ) → element_type r ≡ None → At types (base r) (type.Filter t) → IsOf R r j → Lawful (filter_due j c (base r) t))
      (list_lawful : (r : TypeRefTree) (t : ℕ) → ManyIs r → At types (base r) (type.Filter t) → IsOf R r j → Lawful (filters_due j c (base r) t)) where
    origin_lawful : (t : ℕ) (r : TypeRefTree) (o : ArgOrigin) → Reaches types r (filter_target a t o) → FilterIs tables m role t o r → IsOf R r j
        → Lawful (by_origin (λ q u. filter_due j c q u) (λ q. filters_due j c q t) j c t (base r) o)
    origin_lawful t r stands.Where at is h = absurd at
    origin_lawful t r stands.OrderBy at is h = absurd at
    origin_lawful t r stands.DistinctOn at is h = absurd at
    origin_lawful t r stands.Limit at is h = absurd at
    origin_lawful t r stands.Offset at is h = absurd at
    origin_lawful t r stands.Columns at is h = absurd at
    origin_lawful t r stands.Distinct at is h = absurd at
    origin_lawful t r stands.And at is h = mapped_lawful (λ bs. and_of (bexps_of bs)) (filters_due j c (base r) t) (list_lawful r t is at h)
    origin_lawful t r stands.Or at is h = mapped_lawful (λ bs. or_of (bexps_of bs)) (filters_due j c (base r) t) (list_lawful r t is at h)
    origin_lawful t r stands.Not at is h = mapped_lawful not_of (filter_due j c (base r) t) (filter_lawful r t is at h)
    origin_lawful t r (stands.Operator o) at is h = absurd at
    origin_lawful t r (stands.Column k) at is h = comparisons_lawful k (column s t k).ty r j is h
    origin_lawful t r (stands.Relationship x) at is h = by (a.rel t x) refl at
      where
        by : (o : Option Rel) → a.rel t x ≡ o → Reaches types r (behind o type.Filter) → Lawful (mapped (through x) (filter_due j c (base r) (rel s t x).remote))
        by None found at = absurd at
        by (Some q) found at =
            let there : q.remote ≡ (rel s t x).remote = sym (ap (λ (y : Rel). y.remote) (rel_at tables m metadata_fits role t x q found).0) in
            mapped_lawful (through x) (filter_due j c (base r) (rel s t x).remote) (filter_lawful r (rel s t x).remote is (subst (λ u. At types (base r) (type.Filter u)) there at) h)
    origin_lawful t r stands.IncludeDeprecated at is h = absurd at
    origin_lawful t r stands.TypeName at is h = absurd at
    origin_lawful t r stands.Condition at is h = absurd at

    member_lawful : (p t : ℕ) (name : List ℕ) → At types p (type.Filter t) → (x : ArgTree) → input_field_of R p name ≡ Some x → IsOf R x.ty j
        → Lawful (member_due (λ q u. filter_due j c q u) (λ q. filters_due j c q t) j c t (input_field_of R p name))
    member_lawful p t name at x is h =
        let fit = input_found tables m role schemed p (type.Filter t) name x at is in
        subst (λ (o : Option ArgTree). Lawful (member_due (λ q u. filter_due j c q u) (λ q. filters_due j c q t) j c t o)) (sym is)
        (origin_lawful t x.ty x.origin fit.reaches (input_shaped p (type.Filter t) name x at is) h)

  -- ---- filters

  mutual
    pub filter_lawful : (j : JsonTree) (r : TypeRefTree) (t : ℕ) → element_type r ≡ None → At types (base r) (type.Filter t) → IsOf R r j → Lawful (filter_due j c (base r) t)
    filter_lawful null r t single at h = refl
    filter_lawful (bool b) r t single at h = absurd (no_filter_leaf (base r) t at (bool b) h)
    filter_lawful (int n) r t single at h = absurd (no_filter_leaf (base r) t at (int n) h)
    filter_lawful (str x) r t single at h = absurd (no_filter_leaf (base r) t at (str x) h)
    filter_lawful (arr js) r t single at h = absurd (let no : None ≡ Some h.0 = sym single ∙ h.1 in cc)
    filter_lawful (obj ms) r t single at h =
        mapped_lawful conjunction (members_due ms c (base r) t) (members_lawful ms (base r) t at (subst (λ p. MembersOf R p ms) (input_same R (base r) h.0 h.1) h.2))

    filters_lawful : (j : JsonTree) (r : TypeRefTree) (t : ℕ) → ManyIs r → At types (base r) (type.Filter t) → IsOf R r j → Lawful (filters_due j c (base r) t)
    filters_lawful null r t many at h = refl
    filters_lawful (bool b) r t many at h = absurd (no_filter_leaf (base r) t at (bool b) h)
    filters_lawful (int n) r t many at h = absurd (no_filter_leaf (base r) t at (int n) h)
    filters_lawful (str x) r t many at h = absurd (no_filter_leaf (base r) t at (str x) h)
    filters_lawful (arr js) r t many at h =
        let same : many.0 ≡ h.0 = (let both : Some many.0 ≡ Some h.0 = sym many.1 ∙ h.1 in cc) in
        let place : base h.0 ≡ base r = element_base r h.0 h.1 in
        subst (λ p. Lawful (elements_due js c p t)) place (elements_lawful js h.0 t (subst (λ q. element_type q ≡ None) same many.2) (subst (λ p. At types p (type.Filter t)) (sym place) at) h.2)
    filters_lawful (obj ms) r t many at h =
        mapped_lawful (λ bs. conjunction bs ∷ []) (members_due ms c (base r) t) (members_lawful ms (base r) t at (subst (λ p. MembersOf R p ms) (input_same R (base r) h.0 h.1) h.2))

    elements_lawful : (js : ElementTrees) (q : TypeRefTree) (t : ℕ) → element_type q ≡ None → At types (base q) (type.Filter t) → AreOf R q js → Lawful (elements_due js c (base q) t)
    elements_lawful no_element q t single at h = tt
    elements_lawful (element j js) q t single at h =
        then_lawful (λ b. mapped (λ bs. b ∷ bs) (elements_due js c (base q) t)) (filter_due j c (base q) t) (filter_lawful j q t single at h.0)
        (λ b e. mapped_lawful (λ bs. b ∷ bs) (elements_due js c (base q) t) (elements_lawful js q t single at h.1))

    members_lawful : (ms : MemberTrees) (p t : ℕ) → At types p (type.Filter t) → MembersOf R p ms → Lawful (members_due ms c p t)
    members_lawful no_member p t at h = tt
    members_lawful (member name j ms) p t at h =
        then_lawful (λ b. mapped (λ bs. b ∷ bs) (members_due ms c p t)) (member_due (λ q u. filter_due j c q u) (λ q. filters_due j c q t) j c t (input_field_of R p name))
        (member_lawful j (λ r u single at h. filter_lawful j r u single at h) (λ r u many at h. filters_lawful j r u many at h) p t name at h.0.0 h.0.1 h.0.2)
        (λ b e. mapped_lawful (λ bs. b ∷ bs) (members_due ms c p t) (members_lawful ms p t at h.1))
