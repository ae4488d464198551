-- The walk over collected fields that their types have: it refuses by what arguments ask for alone.
use Rattle.std.proofs.Common.{◌≡◌, ◌∙◌, refl, sym, ap, subst, ℕ, List, [], ◌∷◌, map, Bool, true, false, cond, not, ◌||◌, ◌==◌, Option, Some, None, Ok, Err, is_some, option_and_then, option_map, bytes_eq, codes, ◌⊎◌, inl, inr}
use Rattle.std.specs.Option.{option_or}
use Rattle.std.proofs.lemmas.Bool.{false≢true}
use Rattle.hq_base.specs.Due.{mapped, and_then, ◌>>=◌}
use Rattle.hq_base.specs.Lists.{Each}
use Rattle.hq_base.specs.declared.aggregate.Aggregate.{Aggregate}
use Rattle.hq_base.specs.declared.value.Ty.{Ty}
use Rattle.hq_model.specs.Fits.{fits}
use Rattle.hq_model.specs.Meta.{MetaTree}
use Rattle.hq_model.specs.Schema.{Schema, schema_of, rel}
use Rattle.hq_model.specs.SchemaNames.{all_names_differ}
use Rattle.hq_model.specs.declared.meta.Rel.{Rel}
use Rattle.hq_model.specs.declared.role.Role.{Role}
use Rattle.hq_model.specs.declared.table.Table.{Table}
use Rattle.hq_gql_tree.specs.Documents.{DocumentTree}
use Rattle.hq_gql_tree.specs.Selections.{FieldHead}
use Rattle.hq_gql_tree.specs.declared.rule.RuleId.TheVariants as rule
use Rattle.hq_gql_nodes.specs.Known.{is_object, object_at, known_field, meta_field}
use Rattle.hq_gql_nodes.specs.Nodes.{arguments_nodes}
use Rattle.hq_rules_fields.specs.NodeRules.{lacks_any}
use Rattle.hq_schema.specs.Fixed.{fixed_place, fixed_origin}
use Rattle.hq_schema.specs.Look.{field_in, field_of}
use Rattle.hq_schema.specs.Schema.{base, ArgTree, FieldTree, TypeTree, TypeRefTree, SchemaTree}
use Rattle.hq_schema.specs.declared.fixed.Fixed.{Fixed}
use Rattle.hq_schema.specs.declared.fixed.Fixed.TheVariants as fixed
use Rattle.hq_schema.specs.declared.origin.FieldOrigin.{FieldOrigin}
use Rattle.hq_schema.specs.declared.origin.FieldOrigin.TheVariants as origin
use Rattle.hq_schema.specs.declared.origin.TypeOrigin.{TypeOrigin}
use Rattle.hq_schema.specs.declared.origin.TypeOrigin.TheVariants as type
use Rattle.hq_schema_of_role.specs.FixedTypes.{fixed_type}
use Rattle.hq_schema_of_role.specs.RoleSchema.{role_schema}
use Rattle.hq_schema_of_role.specs.Root.{type_name_field, schema_field, type_field}
use Rattle.hq_schema_roles.specs.Access.{Access, access_of}
use Rattle.hq_schema_roles.specs.Differ.{TypeDiffers, ArgsDiffer}
use Rattle.hq_schema_roles.specs.Leads.{where_holds, to, behind_one, behind_many, aggregates_behind, Reaches, ArgFits, list_target, remote_of, row_target, row_args, root_target, root_args, aggregate_target, over_target, over_args, column_target, introspection_target}
use Rattle.hq_schema_of_role.specs.Fields.{list_args}
use Rattle.hq_base.specs.declared.value.Ty.TheVariants as ty
use Rattle.hq_request_tree.specs.Fields.{FieldTree as Asked, origin_of, field, typename, object, list, by_key, aggregate, introspect, part, summary, nodes, part_typename}
use Rattle.hq_request_tree.specs.Introspection.{look, IntrospectionTrees, looks}
use Rattle.hq_request_tree.specs.declared.aggregate.AggCol.{AggCol}
use Rattle.hq_request_tree.specs.declared.aggregate.AggCol.TheVariants as of
use Rattle.hq_request_tree.specs.declared.aggregate.AggField.{AggField}
use Rattle.hq_request_tree.specs.declared.aggregate.AggField.TheVariants as take
use Rattle.hq_request_coerce.specs.Variables.{VarTree}
use Rattle.hq_request_collect.specs.Tree.{CollectedTrees, no_collected, collected, is_empty}
use Rattle.hq_request_arguments.specs.Context.{Context}
use Rattle.hq_request_arguments.specs.Due.{list_due, counting, count_due, by_origin, at_field}
use Rattle.hq_request_arguments.specs.FieldArguments.{FieldArguments, rows, key, count, type_name}
use Rattle.hq_request_arguments.specs.Columns.{counted_due, is_counted}
use Rattle.hq_request_arguments.specs.Keys.{key_due}
use Rattle.hq_request_arguments.specs.Plain.{flag_due, text_due}
use Rattle.hq_request_arguments.specs.Reading.{Read, given_named}
use Rattle.hq_request_arguments.specs.declared.refusal.ArgRefusal.TheVariants.{Rule, Memory}
use Rattle.hq_request_build.specs.Asked.{Below, field_by, introspect_by, part_by, fields_due, parts_due}
use Rattle.hq_request_build.specs.KnownField.{Due, refused, is_complete, KnownField, known_of, known_due, leads_to, type_name_due, name_of_type, rows_of, key_of, count_of, type_name_of, deprecated_of}
use Rattle.hq_request_build.specs.Looks.{flag_by, look_of, looks_due}
use Rattle.hq_request_build.specs.Summaries.{taken_by, with_taken, taken_due, summary_by, with_summary, summaries_due}
use Rattle.hq_laws_request.specs.Built.Refusing.{IsBuilding}
use Rattle.hq_laws_request.proofs.Built.Arguments.{list_lawful, count_lawful, introspection_lawful, keys_lawful, text_lawful}
use Rattle.hq_laws_request.proofs.Built.BuildingSteps.{mapped_ok, then_ok}
use Rattle.hq_laws_request.proofs.Built.Collecting.{SoundField, Sound}
use Rattle.hq_laws_request.proofs.Built.Items.{each_at, found_each}
use Rattle.hq_laws_request.proofs.Built.Lawful.{Lawful, mapped_lawful, then_building, mapped_building}
use Rattle.hq_laws_request.proofs.Built.Literals.{Good}
use Rattle.hq_laws_request.proofs.Built.Permitted.{rel_at}
use Rattle.hq_laws_request.proofs.Built.Places.{At, Schemed, TypeIs, type_is, IsField, Found, own, type_name as named, of_schema, of_type, field_found, root_at, root_is}
use Rattle.hq_laws_request.proofs.Built.Shapes.{FieldIs, FieldShape, LooksAt, is_looked, Shaped}
use Rattle.hq_laws_request.proofs.Built.Standing.{introspection_at}

module _ (tables : List Table) (m : MetaTree) (metadata_fits : fits tables m ≡ true) (role : Role) (schemed : Schemed tables m role)
    (shaped : Each (Shaped tables m role) (role_schema tables m role).types)
    (differ : Each TypeDiffers (role_schema tables m role).types) (vars : List VarTree) (d : DocumentTree) (reach : List ℕ) where
  abbrev s : Schema
  s = schema_of tables m

  abbrev R : SchemaTree
  R = role_schema tables m role

  abbrev types : List TypeTree
  types = R.types

  abbrev a : Access
  a = access_of m role

  abbrev c : Context
  c = record { vars = vars; schema = R; tables = s }

  abbrev IsSound : (place : ℕ) → CollectedTrees → Type 0
  IsSound place trees = Sound R d reach vars place trees

  abbrev IsKnown : (place : ℕ) → FieldHead → Bool → Type 0
  IsKnown place h empty = SoundField R d reach vars place h empty

  -- ---- what a field that is found is like

  record Like (f : FieldTree) : Type 0 where
    shape : FieldShape tables m role f
    apart : all_names_differ (map (λ (x : ArgTree). x.name) f.args) ≡ true

  meta_like : (place : ℕ) (name : List ℕ) (f : FieldTree) → meta_field R place name ≡ Some f → Like f
  unfolding role_schema
  meta_like place name f e = by (bytes_eq (codes "__typename") name) e
    where
      inside : field_in (schema_field ∷ type_field ∷ []) name ≡ Some f → Like f
      inside e = (found_each Like (λ (x : FieldTree). bytes_eq x.name name) (schema_field ∷ type_field ∷ []) f e (record { shape = tt; apart = refl }, (record { shape = tt; apart = refl }, tt))).0

      at_root : (b : Bool) → cond b (field_in (schema_field ∷ type_field ∷ []) name) None ≡ Some f → Like f
      at_root true e = inside e
      at_root false e = absurd cc

      by : (b : Bool) → cond b (Some type_name_field) (cond (place == 19) (field_in (schema_field ∷ type_field ∷ []) name) None) ≡ Some f → Like f
      by true e = let same : type_name_field ≡ f = cc in subst Like same (record { shape = tt; apart = refl })
      by false e = at_root (place == 19) e

  field_like : (place : ℕ) (o : TypeOrigin) (name : List ℕ) (f : FieldTree) → At types place o → known_field R (Some place) name ≡ Some f → Like f
  field_like place o name f at e = by (field_of R place name) refl e
    where
      is : TypeIs tables m role schemed place o
      is = type_is tables m role schemed place o at

      mine : (g : FieldTree) → field_of R place name ≡ Some g → Like g
      mine g e =
          let t : TypeTree = is.type in
          let inside : field_in t.fields name ≡ Some g = ap (option_and_then (λ (t : TypeTree). field_in t.fields name)) (sym is.here) ∙ e in
          record {
            shape = (found_each (FieldShape tables m role) (λ (x : FieldTree). bytes_eq x.name name) t.fields g inside (each_at (Shaped tables m role) types place t is.here shaped).fields).0;
            apart = (found_each ArgsDiffer (λ (x : FieldTree). bytes_eq x.name name) t.fields g inside (each_at TypeDiffers types place t is.here differ).args).0;
          }

      by : (r : Option FieldTree) → field_of R place name ≡ r → option_or r (meta_field R place name) ≡ Some f → Like f
      by (Some g) is e = let same : g ≡ f = cc in subst Like same (mine g is)
      by None is e = meta_like place name f e

  -- ---- one field

  module _ (place t : ℕ) (h : FieldHead) (empty : Bool) (f : IsKnown place h empty) where
    -- a field whose arguments are lawful, and what follows is
    one_building : {A : Type 0} → Lawful (by_origin c t f.def.args h.args f.def.origin) → (next : KnownField → Due A)
        → ((x : FieldArguments) → by_origin c t f.def.args h.args f.def.origin ≡ Ok x → IsBuilding (next (f.def, x)))
        → IsBuilding (and_then next (known_due c place t h empty))
    one_building {A = A} lawful next step =
        subst (λ (o : Option FieldTree). IsBuilding (and_then next (known_of c t h empty o))) (sym f.known)
        (by (is_complete R f.def empty) f.complete (by_origin c t f.def.args h.args f.def.origin) lawful step)
      where
        by : (b : Bool) → b ≡ true → (r : Read FieldArguments) → Lawful r → ((x : FieldArguments) → r ≡ Ok x → IsBuilding (next (f.def, x)))
            → IsBuilding (and_then next (cond b (mapped (λ (x : FieldArguments). let y : KnownField = (f.def, x) in y) (at_field h.at r)) (refused rule.LeafFieldSelections h)))
        by true e (Ok x) l g = g x refl
        by true e (Err (Rule q)) l g = l
        by true e (Err Memory) l g = l
        by false e r l g = absurd cc

  name_building : (place : ℕ) (o : TypeOrigin) (h : FieldHead) → At types place o → IsBuilding (type_name_due R place h)
  name_building place o h at = let is = type_is tables m role schemed place o at in subst (λ (x : Option TypeTree). IsBuilding (name_of_type h x)) (sym is.here) tt

  -- no type but that of the root has the fields of introspection
  not_root : (place : ℕ) (o : TypeOrigin) → At types place o → (type.Query ≡ o → ⊥) → place ≡ 19 → ⊥
  not_root place o at other is = other (root_is tables m role schemed o (subst (λ p. At types p o) is at))

  -- ---- what one aggregate gives

  taken_own : (t : ℕ) (args : List ArgTree) (u : ℕ) (r : TypeRefTree) (h : FieldHead) (place : ℕ) (o : FieldOrigin) → Reaches types r (column_target a u o)
      → Lawful (by_origin c t args h.args o) × IsBuilding (taken_by c place h o)
  taken_own t args u r h place (origin.Column k) at = (tt, tt)
  taken_own t args u r h place o at = absurd at

  one_taken : (t : ℕ) (g : Aggregate) (u place : ℕ) → At types place (type.Aggregated g u) → (h : FieldHead) (def : FieldTree) → Found tables m role schemed place (type.Aggregated g u) h.name def
      → Lawful (by_origin c t def.args h.args def.origin) × IsBuilding (taken_by c place h def.origin)
  one_taken t g u place at h def (own i) = taken_own t def.args u def.ty h place def.origin i.fits.reaches
  one_taken t g u place at h def (named is) =
      subst (λ (x : FieldTree). Lawful (by_origin c t x.args h.args x.origin) × IsBuilding (taken_by c place h x.origin)) (sym is)
      (tt, mapped_building of.Typename (type_name_due R place h) (name_building place (type.Aggregated g u) h at))
  one_taken t g u place at h def (of_schema root is n) = absurd (not_root place (type.Aggregated g u) at (λ e. cc) root)
  one_taken t g u place at h def (of_type root is n) = absurd (not_root place (type.Aggregated g u) at (λ e. cc) root)

  taken_building : (trees : CollectedTrees) (g : Aggregate) (u place t : ℕ) → At types place (type.Aggregated g u) → IsSound place trees → IsBuilding (taken_due c place t trees)
  taken_building no_collected g u place t at sound = tt
  taken_building (collected k h under others) g u place t at sound =
      let both = one_taken t g u place at h sound.0.def (field_found tables m role schemed place (type.Aggregated g u) h.name sound.0.def at sound.0.known) in
      then_building (λ (x : AggCol). mapped (with_taken k x) (taken_due c place t others)) (known_due c place t h (is_empty under) >>= λ (x : KnownField). taken_by c place h x.0.origin)
      (one_building place t h (is_empty under) sound.0 both.0 (λ (x : KnownField). taken_by c place h x.0.origin) (λ x e. both.1))
      (λ x e. mapped_building (with_taken k x) (taken_due c place t others) (taken_building others g u place t at sound.2))

  -- ---- aggregate

  -- what is counted is what is read
  counting_is : (t : ℕ) (k : Option ℕ) (distinct : Bool) (x : FieldArguments) → counting c t k distinct ≡ Ok x → count k distinct ≡ x
  counting_is t k distinct x e = by (is_counted c t k distinct) e
    where
      by : (b : Bool) → cond b (Ok (count k distinct)) (Err (Rule rule.UnorderedColumn)) ≡ Ok x → count k distinct ≡ x
      by true e = cc
      by false e = cc

  count_is : (t : ℕ) (args : List ArgTree) (h : FieldHead) (x : FieldArguments) → count_due c args h.args t ≡ Ok x → IsBuilding (count_of h x)
  count_is t args h x e =
      let one = then_ok (λ column. flag_due (given_named c args h.args (codes "distinct")) >>= λ distinct. counting c t column distinct)
      (counted_due c (given_named c args h.args (codes "columns"))) x e in
      let two = then_ok (λ distinct. counting c t one.0 distinct) (flag_due (given_named c args h.args (codes "distinct"))) x one.2 in
      subst (λ y. IsBuilding (count_of h y)) (counting_is t one.0 two.0 x two.2) tt

  module _ (u place : ℕ) (at : At types place (type.AggregateFields u)) (h : FieldHead) (under : CollectedTrees) (f : IsKnown place h (is_empty under)) (below : IsSound (base f.def.ty) under) where
    summary_own : Like f.def → Reaches types f.def.ty (over_target u f.def.origin) → Each (ArgFits types (over_args u f.def.origin)) f.def.args
        → (o : FieldOrigin) → f.def.origin ≡ o
        → Lawful (by_origin c u f.def.args h.args o)
        × ((x : FieldArguments) → by_origin c u f.def.args h.args o ≡ Ok x → IsBuilding (summary_by c place h (f.def, x) (taken_due c (base f.def.ty) u under) o))
    summary_own like reach_is fit origin.Count is =
        let shape : FieldIs tables m role origin.Count f.def.args f.def.ty = subst (λ o. FieldIs tables m role o f.def.args f.def.ty) is like.shape in
        let args : Each (ArgFits types (over_args u origin.Count)) f.def.args = subst (λ o. Each (ArgFits types (over_args u o)) f.def.args) is fit in (
          count_lawful tables m metadata_fits role schemed shaped vars d reach h.args u f.def.args shape args f.arguments,
          λ x e. mapped_building (λ (y : Option ℕ × Bool). take.Count y.0 y.1)
              (count_of h x) (count_is u f.def.args h x e),
        )
    summary_own like reach_is fit (origin.Aggregated g) is =
        let there : At types (base f.def.ty) (type.Aggregated g u) = subst (λ o. Reaches types f.def.ty (over_target u o)) is reach_is in
        (tt, λ x e. mapped_building (take.Columns g) (taken_due c (base f.def.ty) u under) (taken_building under g u (base f.def.ty) u there below))
    summary_own like reach_is fit o is = absurd (subst (λ o. Reaches types f.def.ty (over_target u o)) is reach_is)

    abbrev SummaryWanted : FieldOrigin → Type 0
    SummaryWanted o = Lawful (by_origin c u f.def.args h.args o)
        × ((x : FieldArguments) → by_origin c u f.def.args h.args o ≡ Ok x → IsBuilding (summary_by c place h (f.def, x) (taken_due c (base f.def.ty) u under) o))

    summary_wanted : (def : FieldTree) → f.def ≡ def → Found tables m role schemed place (type.AggregateFields u) h.name def → SummaryWanted f.def.origin
    summary_wanted def is (own i) =
        let j : IsField tables m role schemed (type.AggregateFields u) f.def = subst (IsField tables m role schemed (type.AggregateFields u)) (sym is) i in
        summary_own (field_like place (type.AggregateFields u) h.name f.def at f.known) j.fits.reaches j.fits.args f.def.origin refl
    summary_wanted def is (named name) =
        subst SummaryWanted (sym (ap (λ (x : FieldTree). x.origin) (is ∙ name)))
        (tt, λ x e. mapped_building take.Typename (type_name_due R place h) (name_building place (type.AggregateFields u) h at))
    summary_wanted def is (of_schema root n q) = absurd (not_root place (type.AggregateFields u) at (λ e. cc) root)
    summary_wanted def is (of_type root n q) = absurd (not_root place (type.AggregateFields u) at (λ e. cc) root)

    one_summary : IsBuilding (known_due c place u h (is_empty under) >>= λ (k : KnownField). summary_by c place h k (taken_due c (leads_to k) u under) k.0.origin)
    one_summary =
        let both = summary_wanted f.def refl (field_found tables m role schemed place (type.AggregateFields u) h.name f.def at f.known) in
        one_building place u h (is_empty under) f both.0 (λ (k : KnownField). summary_by c place h k (taken_due c (leads_to k) u under) k.0.origin) both.1

  summaries_building : (trees : CollectedTrees) (u place : ℕ) → At types place (type.AggregateFields u) → IsSound place trees → IsBuilding (summaries_due c place u trees)
  summaries_building no_collected u place at sound = tt
  summaries_building (collected k h under others) u place at sound =
      then_building (λ (x : AggField). mapped (with_summary k x) (summaries_due c place u others))
      (known_due c place u h (is_empty under) >>= λ (x : KnownField). summary_by c place h x (taken_due c (leads_to x) u under) x.0.origin)
      (one_summary u place at h under sound.0 sound.1) (λ x e. mapped_building (with_summary k x) (summaries_due c place u others) (summaries_building others u place at sound.2))

  -- ---- introspection

  scalar_none : (q : Ty) → object_at R (fixed_place (fixed.Scalar q)) ≡ None
  unfolding fixed_type
  scalar_none q = ap (option_and_then (λ (t : TypeTree). cond (is_object t.kind) (Some (fixed_place (fixed.Scalar q))) None)) (introspection_at tables m role (fixed.Scalar q))

  fixed_at : (f : Fixed) → At types (fixed_place f) (fixed_origin f)
  unfolding fixed_type
  fixed_at f = ap (option_map (λ (t : TypeTree). t.origin)) (introspection_at tables m role f)

  -- a type of introspection, or one without fields
  looked_at : (f : Fixed) → is_looked f ≡ true → At types (fixed_place f) type.Introspection ⊎ (object_at R (fixed_place f) ≡ None)
  looked_at (fixed.Scalar q) is = inr (scalar_none q)
  looked_at fixed.OrderBy is = absurd cc
  looked_at (fixed.Comparison q) is = absurd cc
  looked_at fixed.QueryRoot is = absurd cc
  looked_at fixed.Schema is = inl (fixed_at fixed.Schema)
  looked_at fixed.«Type» is = inl (fixed_at fixed.«Type»)
  looked_at fixed.Field is = inl (fixed_at fixed.Field)
  looked_at fixed.InputValue is = inl (fixed_at fixed.InputValue)
  looked_at fixed.EnumValue is = inl (fixed_at fixed.EnumValue)
  looked_at fixed.Directive is = inl (fixed_at fixed.Directive)
  looked_at fixed.TypeKind is = inl (fixed_at fixed.TypeKind)
  looked_at fixed.DirectiveLocation is = inl (fixed_at fixed.DirectiveLocation)

  -- what stands below a field that leads to such a type
  below_looks : (t : ℕ) (def : FieldTree) (under : CollectedTrees) → LooksAt def.ty → is_complete R def (is_empty under) ≡ true
      → (At types (base def.ty) type.Introspection → IsBuilding (looks_due c (base def.ty) t under)) → IsBuilding (looks_due c (base def.ty) t under)
  below_looks t def no_collected leads complete step = tt
  below_looks t def (collected k h under others) leads complete step = by (looked_at leads.0 leads.2)
    where
      by : At types (fixed_place leads.0) type.Introspection ⊎ (object_at R (fixed_place leads.0) ≡ None) → IsBuilding (looks_due c (base def.ty) t (collected k h under others))
      by (inl at) = step (subst (λ p. At types p type.Introspection) (sym leads.1) at)
      by (inr none) =
          let no : object_at R (base def.ty) ≡ None = ap (object_at R) leads.1 ∙ none in
          let false_is : (false || is_some (object_at R (base def.ty))) ≡ true = complete in
          absurd (false≢true (subst (λ (o : Option ℕ). (false || is_some o) ≡ true) no false_is))

  module _ (place t : ℕ) (at : At types place type.Introspection) (h : FieldHead) (under : CollectedTrees) (f : IsKnown place h (is_empty under))
      (again : At types (base f.def.ty) type.Introspection → IsBuilding (looks_due c (base f.def.ty) t under)) where
    abbrev LookWanted : FieldOrigin → Type 0
    LookWanted o =
        Lawful (by_origin c t f.def.args h.args o)
        × ((x : FieldArguments) → by_origin c t f.def.args h.args o ≡ Ok x
        → IsBuilding (flag_by h (f.def, x) o >>= λ deprecated. mapped (look h.name None deprecated) (looks_due c (base f.def.ty) t under)))

    look_own : Reaches types f.def.ty (introspection_target f.def.origin) → (o : FieldOrigin) → f.def.origin ≡ o → LookWanted o
    look_own reach_is origin.Introspection is =
        let shape : FieldIs tables m role origin.Introspection f.def.args f.def.ty =
        subst (λ o. FieldIs tables m role o f.def.args f.def.ty) is (field_like place type.Introspection h.name f.def at f.known).shape in (
          introspection_lawful tables m metadata_fits role schemed shaped vars d reach h.args f.def.args shape.0 f.arguments,
          λ x e. mapped_building (look h.name None (deprecated_of x)) (looks_due c (base f.def.ty) t under) (below_looks t f.def under shape.1 f.complete again),
        )
    look_own reach_is o is = absurd (subst (λ o. Reaches types f.def.ty (introspection_target o)) is reach_is)

    look_wanted : (def : FieldTree) → f.def ≡ def → Found tables m role schemed place type.Introspection h.name def → LookWanted f.def.origin
    look_wanted def is (own i) = let j : IsField tables m role schemed type.Introspection f.def = subst (IsField tables m role schemed type.Introspection) (sym is) i in
        look_own j.fits.reaches f.def.origin refl
    look_wanted def is (named name) =
        let string : LooksAt f.def.ty = subst (λ (x : FieldTree). LooksAt x.ty) (sym (is ∙ name)) (fixed.Scalar ty.Text, refl, refl) in
        subst LookWanted (sym (ap (λ (x : FieldTree). x.origin) (is ∙ name)))
        (tt, λ x e. mapped_building (look h.name None false) (looks_due c (base f.def.ty) t under) (below_looks t f.def under string f.complete again))
    look_wanted def is (of_schema root n q) = absurd (not_root place type.Introspection at (λ e. cc) root)
    look_wanted def is (of_type root n q) = absurd (not_root place type.Introspection at (λ e. cc) root)

    one_look : IsBuilding (known_due c place t h (is_empty under) >>= look_of h (λ (x : KnownField). looks_due c (leads_to x) t under))
    one_look =
        let both = look_wanted f.def refl (field_found tables m role schemed place type.Introspection h.name f.def at f.known) in
        one_building place t h (is_empty under) f both.0 (look_of h (λ (x : KnownField). looks_due c (leads_to x) t under)) both.1

  looks_building : (trees : CollectedTrees) (place t : ℕ) → At types place type.Introspection → IsSound place trees → IsBuilding (looks_due c place t trees)
  looks_building no_collected place t at sound = tt
  looks_building (collected k h under others) place t at sound =
      then_building (λ x. mapped (looks k x) (looks_due c place t others)) (known_due c place t h (is_empty under) >>= look_of h (λ (x : KnownField). looks_due c (leads_to x) t under))
      (one_look place t at h under sound.0 (λ there. looks_building under (base sound.0.def.ty) t there sound.1))
      (λ x e. mapped_building (looks k x) (looks_due c place t others) (looks_building others place t at sound.2))

  -- ---- fields at rows, and parts of aggregates

  -- what is known of what stands below a field
  record Inner (under : CollectedTrees) : Type 0 where
    rows : (place u : ℕ) → At types place (type.Rows u) → IsSound place under → IsBuilding (fields_due c place u under)
    parts : (place u : ℕ) → At types place (type.Aggregate u) → IsSound place under → IsBuilding (parts_due c place u under)

  -- what stands below one, as it is asked for
  abbrev below_of : (t : ℕ) → CollectedTrees → KnownField → Below
  below_of t under k = record {
    fields = λ u. fields_due c (leads_to k) u under;
    parts = λ u. parts_due c (leads_to k) u under;
    looks = looks_due c (leads_to k) t under;
  }

  abbrev asked_field : (place t : ℕ) → FieldHead → CollectedTrees → KnownField → Due Asked
  asked_field place t h under k = field_by c place t h k (below_of t under k) k.0.origin

  module _ (place t : ℕ) (h : FieldHead) (under : CollectedTrees) (inner : Inner under) (f : IsKnown place h (is_empty under)) (below : IsSound (base f.def.ty) under) (like : Like f.def) where
    -- a field of an origin, and what is asked for by it
    abbrev Wanted : FieldOrigin → Type 0
    Wanted o =
        Lawful (by_origin c t f.def.args h.args o)
        × ((x : FieldArguments) → by_origin c t f.def.args h.args o ≡ Ok x → IsBuilding (field_by c place t h (f.def, x) (below_of t under (f.def, x)) o))

    -- a list of rows of table u, and the aggregates over one
    list_asked : (u : ℕ) (r : Option ℕ) → At types (base f.def.ty) (type.Rows u) → (x : FieldArguments) → mapped rows (list_due c f.def.args h.args u) ≡ Ok x
        → IsBuilding (rows_of h x >>= λ y. mapped (list (origin_of u r) y) (fields_due c (base f.def.ty) u under))
    list_asked u r at x e =
        let one = mapped_ok rows (list_due c f.def.args h.args u) x e in
        subst (λ (y : FieldArguments). IsBuilding (rows_of h y >>= λ z. mapped (list (origin_of u r) z) (fields_due c (base f.def.ty) u under))) one.2
        (mapped_building (list (origin_of u r) one.0) (fields_due c (base f.def.ty) u under) (inner.rows (base f.def.ty) u at below))

    aggregate_asked : (u : ℕ) (r : Option ℕ) → At types (base f.def.ty) (type.Aggregate u) → (x : FieldArguments) → mapped rows (list_due c f.def.args h.args u) ≡ Ok x
        → IsBuilding (rows_of h x >>= λ y. mapped (aggregate (origin_of u r) y) (parts_due c (base f.def.ty) u under))
    aggregate_asked u r at x e =
        let one = mapped_ok rows (list_due c f.def.args h.args u) x e in
        subst (λ (y : FieldArguments). IsBuilding (rows_of h y >>= λ z. mapped (aggregate (origin_of u r) z) (parts_due c (base f.def.ty) u under))) one.2
        (mapped_building (aggregate (origin_of u r) one.0) (parts_due c (base f.def.ty) u under) (inner.parts (base f.def.ty) u at below))

    rows_lawful : (u : ℕ) → ((first : ℕ) × (f.def.args ≡ list_args first)) → Each (ArgFits types (list_target (Some u))) f.def.args → Lawful (mapped rows (list_due c f.def.args h.args u))
    rows_lawful u shape fit = mapped_lawful rows (list_due c f.def.args h.args u) (list_lawful tables m metadata_fits role schemed shaped vars d reach h.args u f.def.args shape fit f.arguments)

    name_wanted : (o : TypeOrigin) → At types place o → Wanted origin.TypeName
    name_wanted o at = (tt, λ x e. mapped_building typename (type_name_due R place h) (name_building place o h at))

    -- a field at a row of table t
    row_wanted : Reaches types f.def.ty (row_target a t f.def.origin) → Each (ArgFits types (row_args a t f.def.origin)) f.def.args → (o : FieldOrigin) → f.def.origin ≡ o → Wanted o
    row_wanted reach_is fit o is =
        by o (subst (λ o. Reaches types f.def.ty (row_target a t o)) is reach_is) (subst (λ o. Each (ArgFits types (row_args a t o)) f.def.args) is fit)
        (subst (λ o. FieldIs tables m role o f.def.args f.def.ty) is like.shape)
      where
        there : (r : ℕ) (q : Rel) → a.rel t r ≡ Some q → q.remote ≡ (rel s t r).remote
        there r q found = sym (ap (λ (y : Rel). y.remote) (rel_at tables m metadata_fits role t r q found).0)

        object_at_row : (r : ℕ) (q : Rel) → a.rel t r ≡ Some q → (b : Bool) → Reaches types f.def.ty (where_holds b (to (type.Rows q.remote))) → Wanted (origin.Object r)
        object_at_row r q found false at = absurd at
        object_at_row r q found true at = (
          tt,
          λ x e. mapped_building (object r) (fields_due c (base f.def.ty) (rel s t r).remote under)
              (inner.rows (base f.def.ty) (rel s t r).remote (subst (λ u. At types (base f.def.ty) (type.Rows u)) (there r q found) at) below),
        )

        list_at_row : (r : ℕ) (q : Rel) → a.rel t r ≡ Some q → ((first : ℕ) × (f.def.args ≡ list_args first)) → Each (ArgFits types (list_target (Some q.remote))) f.def.args
            → (b : Bool) → Reaches types f.def.ty (where_holds b (to (type.Rows q.remote))) → Wanted (origin.«List» r)
        list_at_row r q found shape fit false at = absurd at
        list_at_row r q found shape fit true at =
            let u : ℕ = (rel s t r).remote in (
              rows_lawful u shape (subst (λ v. Each (ArgFits types (list_target (Some v))) f.def.args) (there r q found) fit),
              list_asked u (Some r)
                  (subst (λ v. At types (base f.def.ty) (type.Rows v)) (there r q found) at),
            )

        aggregate_at_row : (r : ℕ) (q : Rel) → a.rel t r ≡ Some q → ((first : ℕ) × (f.def.args ≡ list_args first)) → Each (ArgFits types (list_target (Some q.remote))) f.def.args
            → (b g : Bool) → Reaches types f.def.ty (where_holds b (where_holds g (to (type.Aggregate q.remote)))) → Wanted (origin.ListAggregate r)
        aggregate_at_row r q found shape fit false g at = absurd at
        aggregate_at_row r q found shape fit true false at = absurd at
        aggregate_at_row r q found shape fit true true at =
            let u : ℕ = (rel s t r).remote in (
              rows_lawful u shape (subst (λ v. Each (ArgFits types (list_target (Some v))) f.def.args) (there r q found) fit),
              aggregate_asked u (Some r)
                  (subst (λ v. At types (base f.def.ty) (type.Aggregate v)) (there r q found) at),
            )

        by : (o : FieldOrigin) → Reaches types f.def.ty (row_target a t o) → Each (ArgFits types (row_args a t o)) f.def.args → FieldIs tables m role o f.def.args f.def.ty → Wanted o
        by (origin.Column k) at fit shape = (tt, λ x e. tt)
        by (origin.Object r) at fit shape = through (a.rel t r) refl at
          where
            through : (o : Option Rel) → a.rel t r ≡ o → Reaches types f.def.ty (behind_one o type.Rows) → Wanted (origin.Object r)
            through None found at = absurd at
            through (Some q) found at = object_at_row r q found (not q.many) at
        by (origin.«List» r) at fit shape = through (a.rel t r) refl at fit
          where
            through : (o : Option Rel) → a.rel t r ≡ o → Reaches types f.def.ty (behind_many o type.Rows) → Each (ArgFits types (list_target (remote_of o))) f.def.args → Wanted (origin.«List» r)
            through None found at fit = absurd at
            through (Some q) found at fit = list_at_row r q found shape fit q.many at
        by (origin.ListAggregate r) at fit shape = through (a.rel t r) refl at fit
          where
            through : (o : Option Rel) → a.rel t r ≡ o → Reaches types f.def.ty (aggregates_behind a o) → Each (ArgFits types (list_target (remote_of o))) f.def.args → Wanted (origin.ListAggregate r)
            through None found at fit = absurd at
            through (Some q) found at fit = aggregate_at_row r q found shape fit q.many (a.aggregates q.remote) at
        by o at fit shape = absurd at

    one_row : At types place (type.Rows t) → IsBuilding (known_due c place t h (is_empty under) >>= asked_field place t h under)
    one_row at =
        let both = by f.def refl (field_found tables m role schemed place (type.Rows t) h.name f.def at f.known) in
        one_building place t h (is_empty under) f both.0 (asked_field place t h under) both.1
      where
        by : (def : FieldTree) → f.def ≡ def → Found tables m role schemed place (type.Rows t) h.name def → Wanted f.def.origin
        by def is (own i) = let j : IsField tables m role schemed (type.Rows t) f.def = subst (IsField tables m role schemed (type.Rows t)) (sym is) i in
            row_wanted j.fits.reaches j.fits.args f.def.origin refl
        by def is (named name) = subst Wanted (sym (ap (λ (x : FieldTree). x.origin) (is ∙ name))) (name_wanted (type.Rows t) at)
        by def is (of_schema root n q) = absurd (not_root place (type.Rows t) at (λ e. cc) root)
        by def is (of_type root n q) = absurd (not_root place (type.Rows t) at (λ e. cc) root)

    -- a part of an aggregate over rows of table t
    abbrev PartWanted : FieldOrigin → Type 0
    PartWanted o =
        Lawful (by_origin c t f.def.args h.args o)
        × ((x : FieldArguments) → by_origin c t f.def.args h.args o ≡ Ok x → IsBuilding (part_by c place h (summaries_due c (base f.def.ty) t under) (fields_due c (base f.def.ty) t under) o))

    part_wanted : (o : FieldOrigin) → Reaches types f.def.ty (aggregate_target t o) → PartWanted o
    part_wanted origin.Aggregates at = (tt, λ x e. mapped_building summary (summaries_due c (base f.def.ty) t under) (summaries_building under t (base f.def.ty) at below))
    part_wanted origin.Nodes at = (tt, λ x e. mapped_building nodes (fields_due c (base f.def.ty) t under) (inner.rows (base f.def.ty) t at below))
    part_wanted o at = absurd at

    one_part : At types place (type.Aggregate t)
        → IsBuilding (known_due c place t h (is_empty under) >>= λ (k : KnownField). part_by c place h (summaries_due c (leads_to k) t under) (fields_due c (leads_to k) t under) k.0.origin)
    one_part at =
        let both = by f.def refl (field_found tables m role schemed place (type.Aggregate t) h.name f.def at f.known) in
        one_building place t h (is_empty under) f both.0 (λ (k : KnownField). part_by c place h (summaries_due c (leads_to k) t under) (fields_due c (leads_to k) t under) k.0.origin) both.1
      where
        by : (def : FieldTree) → f.def ≡ def → Found tables m role schemed place (type.Aggregate t) h.name def → PartWanted f.def.origin
        by def is (own i) = let j : IsField tables m role schemed (type.Aggregate t) f.def = subst (IsField tables m role schemed (type.Aggregate t)) (sym is) i in
            part_wanted f.def.origin j.fits.reaches
        by def is (named name) = subst PartWanted (sym (ap (λ (x : FieldTree). x.origin) (is ∙ name)))
            (tt, λ x e. mapped_building part_typename (type_name_due R place h) (name_building place (type.Aggregate t) h at))
        by def is (of_schema root n q) = absurd (not_root place (type.Aggregate t) at (λ e. cc) root)
        by def is (of_type root n q) = absurd (not_root place (type.Aggregate t) at (λ e. cc) root)

    -- a root field
    key_asked : (u : ℕ) → At types (base f.def.ty) (type.Rows u) → (x : FieldArguments) → mapped key (key_due c f.def.args h.args u) ≡ Ok x
        → IsBuilding (key_of h x >>= λ vs. mapped (by_key u vs) (fields_due c (base f.def.ty) u under))
    key_asked u at x e =
        let one = mapped_ok key (key_due c f.def.args h.args u) x e in
        subst (λ (y : FieldArguments). IsBuilding (key_of h y >>= λ vs. mapped (by_key u vs) (fields_due c (base f.def.ty) u under))) one.2
        (mapped_building (by_key u one.0) (fields_due c (base f.def.ty) u under) (inner.rows (base f.def.ty) u at below))

    root_wanted : Reaches types f.def.ty (root_target a f.def.origin) → Each (ArgFits types (root_args a f.def.origin)) f.def.args → (o : FieldOrigin) → f.def.origin ≡ o → Wanted o
    root_wanted reach_is fit o is =
        by o (subst (λ o. Reaches types f.def.ty (root_target a o)) is reach_is) (subst (λ o. Each (ArgFits types (root_args a o)) f.def.args) is fit)
        (subst (λ o. FieldIs tables m role o f.def.args f.def.ty) is like.shape)
      where
        by : (o : FieldOrigin) → Reaches types f.def.ty (root_target a o) → Each (ArgFits types (root_args a o)) f.def.args → FieldIs tables m role o f.def.args f.def.ty → Wanted o
        by (origin.Rows u) at fit shape = seen (a.seen u) at
          where
            seen : (b : Bool) → Reaches types f.def.ty (where_holds b (to (type.Rows u))) → Wanted (origin.Rows u)
            seen false at = absurd at
            seen true at = (rows_lawful u shape fit, list_asked u None at)
        by (origin.RowsAggregate u) at fit shape = seen (a.aggregates u) at
          where
            seen : (b : Bool) → Reaches types f.def.ty (where_holds b (to (type.Aggregate u))) → Wanted (origin.RowsAggregate u)
            seen false at = absurd at
            seen true at = (rows_lawful u shape fit, aggregate_asked u None at)
        by (origin.RowByKey u) at fit shape = seen (a.seen u) at
          where
            seen : (b : Bool) → Reaches types f.def.ty (where_holds b (to (type.Rows u))) → Wanted (origin.RowByKey u)
            seen false at = absurd at
            seen true at = (
              mapped_lawful key (key_due c f.def.args h.args u)
                  (keys_lawful tables m metadata_fits role schemed shaped vars d reach h.args u f.def.args shape like.apart f.arguments f.required),
              key_asked u at,
            )
        by origin.NoQueries at fit shape = (tt, λ x e. tt)
        by o at fit shape = absurd at

    -- the fields of introspection
    looks_below : LooksAt f.def.ty → IsBuilding (looks_due c (base f.def.ty) t under)
    looks_below leads = below_looks t f.def under leads f.complete (λ there. looks_building under (base f.def.ty) t there below)

    schema_wanted : f.def ≡ schema_field → Wanted origin.Schema
    schema_wanted is = (
      tt,
      λ x e. mapped_building (λ (fs : IntrospectionTrees). introspect (look h.name None false fs)) (looks_due c (base f.def.ty) t under)
          (looks_below (subst (λ (x : FieldTree). LooksAt x.ty) (sym is) (fixed.Schema, refl, refl))),
    )

    type_wanted : f.def ≡ type_field → Wanted origin.«Type»
    type_wanted is = (
      subst (λ (l : List ArgTree). Lawful (mapped type_name (text_due (given_named c l h.args (codes "name"))))) (sym same)
          (mapped_lawful type_name (text_due (given_named c type_field.args h.args (codes "name")))
          (text_lawful tables m metadata_fits role schemed shaped vars d reach h.args
          (subst (λ (l : List ArgTree). Each (Good R d reach vars) (arguments_nodes R (Some l) h.args)) same f.arguments)
          (subst (λ (l : List ArgTree). lacks_any h.args l ≡ false) same f.required))),
      asked,
    )
      where
        same : f.def.args ≡ type_field.args
        same = ap (λ (x : FieldTree). x.args) is

        asked : (x : FieldArguments) → mapped type_name (text_due (given_named c f.def.args h.args (codes "name"))) ≡ Ok x
            → IsBuilding (type_name_of h x >>= λ name. introspect_by h (Some name) (below_of t under (f.def, x)))
        asked x e =
            let one = mapped_ok type_name (text_due (given_named c f.def.args h.args (codes "name"))) x e in
            subst (λ (y : FieldArguments). IsBuilding (type_name_of h y >>= λ name. introspect_by h (Some name) (below_of t under (f.def, y)))) one.2
            (mapped_building (λ (fs : IntrospectionTrees). introspect (look h.name (Some one.0) false fs)) (looks_due c (base f.def.ty) t under)
            (looks_below (subst (λ (x : FieldTree). LooksAt x.ty) (sym is) (fixed.«Type», refl, refl))))

    one_root : At types place type.Query → IsBuilding (known_due c place t h (is_empty under) >>= asked_field place t h under)
    one_root at =
        let both = by f.def refl (field_found tables m role schemed place type.Query h.name f.def at f.known) in
        one_building place t h (is_empty under) f both.0 (asked_field place t h under) both.1
      where
        by : (def : FieldTree) → f.def ≡ def → Found tables m role schemed place type.Query h.name def → Wanted f.def.origin
        by def is (own i) = let j : IsField tables m role schemed type.Query f.def = subst (IsField tables m role schemed type.Query) (sym is) i in
            root_wanted j.fits.reaches j.fits.args f.def.origin refl
        by def is (named name) = subst Wanted (sym (ap (λ (x : FieldTree). x.origin) (is ∙ name))) (name_wanted type.Query at)
        by def is (of_schema root name q) = subst Wanted (sym (ap (λ (x : FieldTree). x.origin) (is ∙ name))) (schema_wanted (is ∙ name))
        by def is (of_type root name q) = subst Wanted (sym (ap (λ (x : FieldTree). x.origin) (is ∙ name))) (type_wanted (is ∙ name))

  -- ---- all of them

  rows_of_all : (k : List ℕ) (h : FieldHead) (under others : CollectedTrees) → Inner under → Inner others → (place u : ℕ) → At types place (type.Rows u) → IsSound place (collected k h under others)
      → IsBuilding (fields_due c place u (collected k h under others))
  rows_of_all k h under others inner rest place u at sound =
      then_building (λ x. mapped (field k x) (fields_due c place u others)) (known_due c place u h (is_empty under) >>= asked_field place u h under)
      (one_row place u h under inner sound.0 sound.1 (field_like place (type.Rows u) h.name sound.0.def at sound.0.known) at)
      (λ x e. mapped_building (field k x) (fields_due c place u others) (rest.rows place u at sound.2))

  parts_of_all : (k : List ℕ) (h : FieldHead) (under others : CollectedTrees) → Inner under → Inner others → (place u : ℕ) → At types place (type.Aggregate u)
      → IsSound place (collected k h under others)
      → IsBuilding (parts_due c place u (collected k h under others))
  parts_of_all k h under others inner rest place u at sound =
      then_building (λ x. mapped (part k x) (parts_due c place u others))
      (known_due c place u h (is_empty under) >>= λ (x : KnownField). part_by c place h (summaries_due c (leads_to x) u under) (fields_due c (leads_to x) u under) x.0.origin)
      (one_part place u h under inner sound.0 sound.1 (field_like place (type.Aggregate u) h.name sound.0.def at sound.0.known) at)
      (λ x e. mapped_building (part k x) (parts_due c place u others) (rest.parts place u at sound.2))

  inner_building : (trees : CollectedTrees) → Inner trees
  inner_building no_collected = record { rows = λ place u at sound. tt; parts = λ place u at sound. tt }
  inner_building (collected k h under others) =
      let inner = inner_building under in
      let rest = inner_building others in
      record { rows = rows_of_all k h under others inner rest; parts = parts_of_all k h under others inner rest }

  -- all root fields
  pub roots_building : (trees : CollectedTrees) (t : ℕ) → IsSound R.query trees → IsBuilding (fields_due c R.query t trees)
  roots_building no_collected t sound = tt
  roots_building (collected k h under others) t sound =
      then_building (λ x. mapped (field k x) (fields_due c R.query t others)) (known_due c R.query t h (is_empty under) >>= asked_field R.query t h under)
      (one_root R.query t h under (inner_building under) sound.0 sound.1 (field_like R.query type.Query h.name sound.0.def (root_at tables m role schemed) sound.0.known)
      (root_at tables m role schemed))
      (λ x e. mapped_building (field k x) (fields_due c R.query t others) (roots_building others t sound.2))
