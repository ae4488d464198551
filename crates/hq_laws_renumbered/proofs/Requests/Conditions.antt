-- The conditions that `where` writes over a table, in other numbers.
use Rattle.std.proofs.Common.{◌≡◌, ◌∙◌, refl, sym, ap, subst, ℕ, List, [], ◌∷◌, map, Bool, true, false, not, cond, Option, Some, None, Err, option_map, option_and_then, slice_get, bytes_eq}
use Rattle.std.proofs.lemmas.Option.{slice_get-map}
use Rattle.hq_base.specs.Due.{mapped}
use Rattle.hq_base.specs.Json.{JsonTree, null, bool, int, str, arr, obj, ElementTrees, no_element, element, MemberTrees, no_member, member}
use Rattle.hq_base.specs.Look.{member_list}
use Rattle.hq_base.specs.declared.value.Ty.{Ty}
use Rattle.hq_model.specs.Bexp.{BexpTree, and_of, or_of, not_of, test, through, bexp, bexps_of, conjunction}
use Rattle.hq_model.specs.Schema.{Schema, column, rel}
use Rattle.hq_model.specs.Tests.{arity, applies}
use Rattle.hq_model.specs.declared.bexp.Operands.TheVariants as operands
use Rattle.hq_model.specs.declared.meta.Rel.{Rel}
use Rattle.hq_model.specs.declared.operator.Operator.{Operator}
use Rattle.hq_model.specs.declared.test.Arity.{Arity}
use Rattle.hq_model.specs.declared.test.Arity.TheVariants.{Nothing, One, Many}
use Rattle.hq_schema.specs.Look.{arg_in, input_field_of}
use Rattle.hq_schema.specs.Schema.{base, ArgTree, TypeTree, TypeRefTree, SchemaTree}
use Rattle.hq_schema.specs.declared.origin.ArgOrigin.{ArgOrigin}
use Rattle.hq_schema.specs.declared.origin.ArgOrigin.TheVariants as stands
use Rattle.hq_schema.specs.declared.origin.TypeOrigin.TheVariants as type
use Rattle.hq_schema_roles.specs.Access.{Access}
use Rattle.hq_schema_roles.specs.Leads.{where_holds, plain, behind, Reaches, ArgFits, filter_target, list_target}
use Rattle.hq_request_arguments.specs.Comparisons.{tested_due, operator_due, operator_of, operator_named, comparisons_due}
use Rattle.hq_request_arguments.specs.Comparisons as comparisons
use Rattle.hq_request_arguments.specs.Context.{Context}
use Rattle.hq_request_arguments.specs.Operands.{operand_due, truth_due}
use Rattle.hq_request_arguments.specs.Reading.{each, items_in, Given}
use Rattle.hq_request_arguments.specs.Where.{filter_due, filters_due, elements_due, members_due, member_due, by_origin, by_filter, where_due}
use Rattle.hq_request_arguments.specs.declared.refusal.ArgRefusal.TheVariants.{Rule}
use Rattle.hq_request_coerce.specs.Variables.{VarTree}
use Rattle.hq_gql_tree.specs.declared.rule.RuleId.TheVariants.{ValuesOfCorrectType}
use Rattle.hq_laws_renumbered.specs.Resolving.Renumbering.{Renumbering, condition_over, conditions_over}
use Rattle.hq_laws_renumbered.specs.Schemas.SchemaOver.{arg_origin_over, arg_over, type_table, type_over, schema_over}
use Rattle.hq_laws_renumbered.specs.Requests.Alike.{TablesAlike}
use Rattle.hq_laws_renumbered.specs.Requests.OfRole.{At, IsOfRole}
use Rattle.hq_laws_renumbered.proofs.Requests.Found.{input_over, input_found, type_seen}
use Rattle.hq_laws_renumbered.proofs.Requests.Given.{given_over, context}
use Rattle.hq_laws_renumbered.proofs.Requests.Items.{find_map}
use Rattle.hq_laws_renumbered.proofs.Requests.Steps.{then_over, mapped_over, mapped_same, each_over}

module _ (s z : Schema) (n : Renumbering) (a : Access) (r : SchemaTree) (of_role : IsOfRole s a r) (alike : TablesAlike s z n a) (vars : List VarTree) where
  abbrev c : Context
  c = context vars r s

  abbrev d : Context
  d = context vars (schema_over n r) z

  abbrev types : List TypeTree
  types = r.types

  abbrev over : ℕ → BexpTree → BexpTree
  over t b = condition_over b s n t

  bexps_over : (t : ℕ) (bs : List BexpTree) → bexps_of (map (over t) bs) ≡ conditions_over (bexps_of bs) s n t
  bexps_over t [] = refl
  bexps_over t (b ∷ bs) = ap (bexp (over t b)) (bexps_over t bs)

  conjunction_over : (t : ℕ) (bs : List BexpTree) → conjunction (map (over t) bs) ≡ over t (conjunction bs)
  unfolding conjunction
  conjunction_over t [] = refl
  conjunction_over t (b ∷ []) = refl
  conjunction_over t (b ∷ e ∷ bs) = ap and_of (bexps_over t (b ∷ e ∷ bs))

  -- ---- comparisons of a column

  module _ (t k : ℕ) (ty : Ty) where
    tested_over : (o : Operator) (j : JsonTree) (m : Arity) → tested_due (n.column t k) ty o j m ≡ mapped (over t) (tested_due k ty o j m)
    tested_over o j Nothing =
        mapped_same (over t) (λ holds. test k o.test (operands.List []) (cond holds o.negated (not o.negated)))
        (λ holds. test (n.column t k) o.test (operands.List []) (cond holds o.negated (not o.negated)))
        (λ holds. refl) (truth_due j) (truth_due j) refl
    tested_over o j One =
        mapped_same (over t) (λ v. test k o.test (operands.List (v ∷ [])) o.negated)
        (λ v. test (n.column t k) o.test (operands.List (v ∷ [])) o.negated) (λ v. refl) (operand_due o.test ty j)
        (operand_due o.test ty j) refl
    tested_over o j Many =
        mapped_same (over t) (λ vs. test k o.test (operands.List vs) o.negated) (λ vs. test (n.column t k) o.test (operands.List vs) o.negated) (λ vs. refl) (each (operand_due o.test ty) (items_in j))
        (each (operand_due o.test ty) (items_in j)) refl

    operator_over : (o : Operator) (j : JsonTree) → operator_due (n.column t k) ty o j ≡ mapped (over t) (operator_due k ty o j)
    operator_over o j = go (applies o.test ty)
      where
        go : (b : Bool)
            → cond b (tested_due (n.column t k) ty o j (arity o.test)) (Err (Rule ValuesOfCorrectType))
            ≡ mapped (over t) (cond b (tested_due k ty o j (arity o.test)) (Err (Rule ValuesOfCorrectType)))
        go true = tested_over o j (arity o.test)
        go false = refl

    -- an operator is the same in all numbers
    operator_same : (u : ℕ) (o : ArgOrigin) → operator_of (arg_origin_over n u o) ≡ operator_of o
    operator_same u (stands.Column e) = refl
    operator_same u (stands.Relationship e) = refl
    operator_same u o = refl

    named_same : (p : ℕ) (name : List ℕ) → operator_named d p name ≡ operator_named c p name
    named_same p name =
        ap (λ o. option_and_then (λ (x : ArgTree). operator_of x.origin) (option_and_then (λ (q : TypeTree). arg_in q.inputs name) o))
        (slice_get-map (type_over n) r.types p)
        ∙ go (slice_get r.types p)
      where
        one : (u : ℕ) (o : Option ArgTree) → option_and_then (λ (x : ArgTree). operator_of x.origin) (option_map (arg_over n u) o) ≡ option_and_then (λ (x : ArgTree). operator_of x.origin) o
        one u None = refl
        one u (Some x) = operator_same u x.origin

        go : (o : Option TypeTree) → option_and_then (λ (x : ArgTree). operator_of x.origin) (option_and_then (λ (q : TypeTree). arg_in q.inputs name) (option_map (type_over n) o))
            ≡ option_and_then (λ (x : ArgTree). operator_of x.origin) (option_and_then (λ (q : TypeTree). arg_in q.inputs name) o)
        go None = refl
        go (Some q) =
            ap (option_and_then (λ (x : ArgTree). operator_of x.origin)) (find_map (λ (x : ArgTree). bytes_eq x.name name) (arg_over n (type_table q.origin)) q.inputs)
            ∙ one (type_table q.origin) (arg_in q.inputs name)

    named_over : (p : ℕ) (x : List ℕ × JsonTree) → comparisons.named_due d p (n.column t k) ty x ≡ mapped (over t) (comparisons.named_due c p k ty x)
    named_over p x = ap (λ o. comparisons.member_due (n.column t k) ty o x.1) (named_same p x.0) ∙ go (operator_named c p x.0)
      where
        go : (o : Option Operator) → comparisons.member_due (n.column t k) ty o x.1 ≡ mapped (over t) (comparisons.member_due k ty o x.1)
        go None = refl
        go (Some o) = operator_over o x.1

    comparisons_over : (p : ℕ) (j : JsonTree) → comparisons_due d p (n.column t k) ty j ≡ mapped (over t) (comparisons_due c p k ty j)
    comparisons_over p null = refl
    comparisons_over p (bool v) = refl
    comparisons_over p (int m) = refl
    comparisons_over p (str x) = refl
    comparisons_over p (arr js) = refl
    comparisons_over p (obj ms) =
        mapped_over (map (over t)) (over t) conjunction conjunction (conjunction_over t)
        (each (comparisons.named_due c p k ty) (member_list ms)) (each (comparisons.named_due d p (n.column t k) ty) (member_list ms))
        (each_over (over t) (comparisons.named_due c p k ty) (comparisons.named_due d p (n.column t k) ty) (named_over p) (member_list ms))

  -- ---- one member, where its value is read as a filter or a list of filters

  module _ (j : JsonTree) (filter_over : (p t : ℕ) → At types p (type.Filter t) → filter_due j d p (n.table t) ≡ mapped (over t) (filter_due j c p t))
      (list_over : (p t : ℕ) → At types p (type.Filter t) → filters_due j d p (n.table t) ≡ mapped (map (over t)) (filters_due j c p t)) where
    through_over : (t q p : ℕ) (o : Option Rel) → a.rel t q ≡ o → a.seen t ≡ true → (ty : TypeRefTree) → Reaches types ty (behind o type.Filter) → base ty ≡ p
        → mapped (through (n.relationship t q)) (filter_due j d p (rel z (n.table t) (n.relationship t q)).remote) ≡ mapped (over t) (mapped (through q) (filter_due j c p (rel s t q).remote))
    through_over t q p None is seen ty at place = absurd at
    through_over t q p (Some x) is seen ty at place =
        let here : At types p (type.Filter x.remote) = subst (λ k. At types k (type.Filter x.remote)) place at in
        let leads = alike.leads t q x seen is (type_seen s a r of_role p (type.Filter x.remote) here) in
        let u : ℕ = (rel s t q).remote in
        let inner : filter_due j d p (rel z (n.table t) (n.relationship t q)).remote ≡ mapped (over u) (filter_due j c p u) =
        ap (filter_due j d p) (leads.1 ∙ ap n.table (sym leads.0)) ∙ filter_over p u (subst (λ w. At types p (type.Filter w)) (sym leads.0) here) in
        mapped_over (over u) (over t) (through q) (through (n.relationship t q)) (λ b. refl) (filter_due j c p u) (filter_due j d p (rel z (n.table t) (n.relationship t q)).remote) inner

    origin_over : (t : ℕ) (ty : TypeRefTree) (o : ArgOrigin) → a.seen t ≡ true → Reaches types ty (filter_target a t o)
        → by_origin (λ q u. filter_due j d q u) (λ q. filters_due j d q (n.table t)) j d (n.table t) (base ty) (arg_origin_over n t o)
        ≡ mapped (over t) (by_origin (λ q u. filter_due j c q u) (λ q. filters_due j c q t) j c t (base ty) o)
    origin_over t ty stands.And seen at =
        mapped_over (map (over t)) (over t) (λ bs. and_of (bexps_of bs)) (λ bs. and_of (bexps_of bs)) (λ bs. ap and_of (bexps_over t bs))
        (filters_due j c (base ty) t) (filters_due j d (base ty) (n.table t)) (list_over (base ty) t at)
    origin_over t ty stands.Or seen at =
        mapped_over (map (over t)) (over t) (λ bs. or_of (bexps_of bs)) (λ bs. or_of (bexps_of bs)) (λ bs. ap or_of (bexps_over t bs))
        (filters_due j c (base ty) t) (filters_due j d (base ty) (n.table t)) (list_over (base ty) t at)
    origin_over t ty stands.Not seen at =
        mapped_over (over t) (over t) not_of not_of (λ b. refl) (filter_due j c (base ty) t) (filter_due j d (base ty) (n.table t)) (filter_over (base ty) t at)
    origin_over t ty (stands.Column k) seen at = go (a.column t k) refl at
      where
        go : (b : Bool) → a.column t k ≡ b → Reaches types ty (where_holds b plain)
            → comparisons_due d (base ty) (n.column t k) (column z (n.table t) (n.column t k)).ty j ≡ mapped (over t) (comparisons_due c (base ty) k (column s t k).ty j)
        go true permitted at = ap (λ w. comparisons_due d (base ty) (n.column t k) w j) (alike.types t k permitted) ∙ comparisons_over t k (column s t k).ty (base ty) j
        go false permitted at = absurd at
    origin_over t ty (stands.Relationship q) seen at = through_over t q (base ty) (a.rel t q) refl seen ty at refl
    origin_over t ty o seen at = absurd at

    member_over : (p t : ℕ) (name : List ℕ) → At types p (type.Filter t)
        → member_due (λ q u. filter_due j d q u) (λ q. filters_due j d q (n.table t)) j d (n.table t) (input_field_of (schema_over n r) p name)
        ≡ mapped (over t) (member_due (λ q u. filter_due j c q u) (λ q. filters_due j c q t) j c t (input_field_of r p name))
    member_over p t name at =
        ap (member_due (λ q u. filter_due j d q u) (λ q. filters_due j d q (n.table t)) j d (n.table t)) (input_over n r p (type.Filter t) at name) ∙ go (input_field_of r p name) refl
      where
        go : (x : Option ArgTree) → input_field_of r p name ≡ x → member_due (λ q u. filter_due j d q u) (λ q. filters_due j d q (n.table t)) j d (n.table t) (option_map (arg_over n t) x)
            ≡ mapped (over t) (member_due (λ q u. filter_due j c q u) (λ q. filters_due j c q t) j c t x)
        go None is = refl
        go (Some x) is = origin_over t x.ty x.origin (type_seen s a r of_role p (type.Filter t) at) (input_found s a r of_role p (type.Filter t) name x at is).reaches

  -- ---- all

  mutual
    pub filter_over : (j : JsonTree) (p t : ℕ) → At types p (type.Filter t) → filter_due j d p (n.table t) ≡ mapped (over t) (filter_due j c p t)
    filter_over null p t at = refl
    filter_over (bool b) p t at = refl
    filter_over (int m) p t at = refl
    filter_over (str x) p t at = refl
    filter_over (arr js) p t at = refl
    filter_over (obj ms) p t at = mapped_over (map (over t)) (over t) conjunction conjunction (conjunction_over t) (members_due ms c p t) (members_due ms d p (n.table t)) (members_over ms p t at)

    list_over : (j : JsonTree) (p t : ℕ) → At types p (type.Filter t) → filters_due j d p (n.table t) ≡ mapped (map (over t)) (filters_due j c p t)
    list_over null p t at = refl
    list_over (bool b) p t at = refl
    list_over (int m) p t at = refl
    list_over (str x) p t at = refl
    list_over (arr js) p t at = elements_over js p t at
    list_over (obj ms) p t at =
        mapped_over (map (over t)) (map (over t)) (λ bs. conjunction bs ∷ []) (λ bs. conjunction bs ∷ [])
        (λ bs. ap (λ b. b ∷ []) (conjunction_over t bs)) (members_due ms c p t) (members_due ms d p (n.table t)) (members_over ms p t at)

    elements_over : (js : ElementTrees) (p t : ℕ) → At types p (type.Filter t) → elements_due js d p (n.table t) ≡ mapped (map (over t)) (elements_due js c p t)
    elements_over no_element p t at = refl
    elements_over (element j js) p t at =
        then_over (over t) (map (over t)) (λ b. mapped (λ bs. b ∷ bs) (elements_due js c p t))
        (λ b. mapped (λ bs. b ∷ bs) (elements_due js d p (n.table t))) (filter_due j c p t) (filter_due j d p (n.table t))
        (filter_over j p t at)
        (λ b e. mapped_over (map (over t)) (map (over t)) (λ bs. b ∷ bs) (λ bs. over t b ∷ bs) (λ bs. refl) (elements_due js c p t) (elements_due js d p (n.table t)) (elements_over js p t at))

    members_over : (ms : MemberTrees) (p t : ℕ) → At types p (type.Filter t) → members_due ms d p (n.table t) ≡ mapped (map (over t)) (members_due ms c p t)
    members_over no_member p t at = refl
    members_over (member name j ms) p t at =
        then_over (over t) (map (over t)) (λ b. mapped (λ bs. b ∷ bs) (members_due ms c p t)) (λ b. mapped (λ bs. b ∷ bs) (members_due ms d p (n.table t)))
        (member_due (λ q u. filter_due j c q u) (λ q. filters_due j c q t) j c t (input_field_of r p name))
        (member_due (λ q u. filter_due j d q u) (λ q. filters_due j d q (n.table t)) j d (n.table t) (input_field_of (schema_over n r) p name))
        (member_over j (λ q u at. filter_over j q u at) (λ q u at. list_over j q u at) p t name at)
        (λ b e. mapped_over (map (over t)) (map (over t)) (λ bs. b ∷ bs) (λ bs. over t b ∷ bs) (λ bs. refl) (members_due ms c p t) (members_due ms d p (n.table t)) (members_over ms p t at))

  -- ---- the argument

  by_filter_over : (u v : ℕ) (j : JsonTree) (ty : TypeRefTree) (o : ArgOrigin) → Reaches types ty (list_target (Some u) o)
      → by_filter d (n.table u) j (base ty) (arg_origin_over n v o) ≡ mapped (over u) (by_filter c u j (base ty) o)
  by_filter_over u v j ty stands.Where at = filter_over j (base ty) u at
  by_filter_over u v j ty (stands.Column e) at = refl
  by_filter_over u v j ty (stands.Relationship e) at = refl
  by_filter_over u v j ty o at = refl

  pub where_over : (u v : ℕ) (o : Option Given) → ((g : Given) → o ≡ Some g → ArgFits types (list_target (Some u)) g.arg)
      → where_due d (n.table u) (option_map (given_over n v) o) ≡ mapped (over u) (where_due c u o)
  where_over u v None h = refl
  where_over u v (Some g) h = by_filter_over u v g.value g.arg.ty g.arg.origin (h g refl).reaches
