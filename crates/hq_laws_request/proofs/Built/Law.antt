-- What is built of a document that violates no rule, with variables that are coerced, is refused by the rules of building alone.
use Rattle.std.proofs.Common.{◌≡◌, ◌∙◌, refl, sym, ap, subst, ℕ, ◌<◌, arith, List, [], ◌∷◌, length, Bool, true, false, cond, ◌&&◌, ◌||◌, eq-eqb, Option, Some, None, Result, Ok, Err, is_some, ok_or, slice_get}
use Rattle.std.specs.Option.{option_map_or}
use Rattle.std.proofs.lemmas.Bool.{and_parts}
use Rattle.std.proofs.lemmas.Option.{slice_get_within}
use Rattle.hq_base.specs.Due.{and_then, ◌>>=◌}
use Rattle.hq_base.specs.Json.{JsonTree}
use Rattle.hq_base.specs.Lists.{Each}
use Rattle.hq_base.proofs.Lists.{each_weaken}
use Rattle.hq_model.specs.Fits.{fits}
use Rattle.hq_model.specs.Meta.{MetaTree}
use Rattle.hq_model.specs.Permission.{role_of}
use Rattle.hq_model.specs.Schema.{Schema, schema_of}
use Rattle.hq_model.specs.declared.bind.BindRefusal.{BindRefusal}
use Rattle.hq_model.specs.declared.bind.BindRefusal.TheVariants as bind
use Rattle.hq_model.specs.declared.role.Role.{Role}
use Rattle.hq_model.specs.declared.session.Session.{Session}
use Rattle.hq_model.specs.declared.table.Table.{Table}
use Rattle.hq_gql_tree.specs.Documents.{VarDefTree, OperationTree, DefinitionTree, operation, fragment, DocumentTree}
use Rattle.hq_gql_tree.specs.Selections.{selections_in}
use Rattle.hq_gql_tree.specs.Values.{ValueTree, variable, PlacedTree}
use Rattle.hq_gql_tree.specs.Values as text
use Rattle.hq_gql_tree.specs.declared.document.OpKind.{OpKind}
use Rattle.hq_gql_tree.specs.declared.document.OpKind.TheVariants as op
use Rattle.hq_gql_nodes.specs.Fragments.{fragment_named, spread_targets, graph_of}
use Rattle.hq_gql_nodes.specs.Known.{root_of}
use Rattle.hq_gql_nodes.specs.Nodes.{PartTree, part_of, document_parts}
use Rattle.hq_gql_nodes.specs.Reach.{Graph, has, reached}
use Rattle.hq_schema.specs.Look.{type_at}
use Rattle.hq_schema.specs.Schema.{ArgTree, TypeTree, SchemaTree}
use Rattle.hq_schema_of_role.specs.FixedTypes.{fixed_type}
use Rattle.hq_schema_of_role.specs.RoleSchema.{role_schema}
use Rattle.hq_schema_roles.specs.Access.{access_of}
use Rattle.hq_schema_roles.specs.Differ.{NamesDiffer}
use Rattle.hq_schema_roles.specs.Leads.{TypeFits}
use Rattle.hq_rules_doc.specs.First.{first_doc_fault}
use Rattle.hq_rules_fields.specs.First.{first_field_fault}
use Rattle.hq_overlap_sets.specs.Pairs.{Reached, Violates, AtMost, later, IsOverlap}
use Rattle.hq_overlap_sets.specs.Places.{overlap_place}
use Rattle.hq_overlap_sets.specs.Sets.{document_sets}
use Rattle.hq_overlap_sets.specs.Sets as overlap
use Rattle.hq_rules_reach.specs.Variables.{has_default}
use Rattle.hq_request_coerce.specs.Choice.{operation_in, operation_at, operation_for, no_operation, if_query, query_at, chosen}
use Rattle.hq_request_coerce.specs.Coercion.{inputs_in}
use Rattle.hq_request_coerce.specs.Due.{default_value, given_members, values_due, variables_of, variables_due}
use Rattle.hq_request_coerce.specs.Required.{is_required}
use Rattle.hq_request_coerce.specs.Sources.{source_of}
use Rattle.hq_request_coerce.specs.Variables.{VarTree}
use Rattle.hq_request_coerce.specs.Faults.{fault_of}
use Rattle.hq_gql_tree.specs.declared.rule.RuleId.TheVariants as rule
use Rattle.hq_request_coerce.specs.declared.refusal.CoerceRefusal.TheVariants as refusal
use Rattle.hq_request_collect.specs.FieldNodes.{is_bounded}
use Rattle.hq_request_collect.specs.Keys.{is_narrow}
use Rattle.hq_request_collect.specs.Size.{is_small}
use Rattle.hq_request_collect.specs.Tree.{CollectedTrees}
use Rattle.hq_request_tree.specs.Fields.{FieldTrees}
use Rattle.hq_request_tree.specs.Request.{BoundTree, AskTree}
use Rattle.hq_request_tree.specs.Touched.{touched}
use Rattle.hq_request_build.specs.Bound.{bounds_due}
use Rattle.hq_request_build.specs.Laws.{request_of}
use Rattle.hq_request_build.specs.Due.{operation_of, within_limits, collected_fields, collected_due, root_due, with_fault, bound_in, build_due}
use Rattle.hq_request_build.specs.KnownField.{Due}
use Rattle.hq_laws_request.specs.Built.Builds.{is_constant, has_constant}
use Rattle.hq_laws_request.specs.Built.Refusing.{IsBuilding}
use Rattle.hq_laws_request.proofs.Built.Binding.{OfVariables, tables_told}
use Rattle.hq_laws_request.proofs.Built.BuildingSteps.{then_ok, and_then_some}
use Rattle.hq_laws_request.proofs.Built.Collecting.{Sound, query_sound}
use Rattle.hq_laws_request.proofs.Built.Items.{each_at}
use Rattle.hq_laws_request.proofs.Built.Lawful.{then_building}
use Rattle.hq_laws_request.proofs.Built.Places.{Schemed}
use Rattle.hq_laws_request.proofs.Built.Reaching.{start_reached}
use Rattle.hq_laws_request.proofs.Built.Shapes.{Shaped, types_shaped}
use Rattle.hq_laws_request.proofs.Built.Unviolated.{DocHolds, FieldsHold, doc_holds, fields_hold}
use Rattle.hq_laws_request.proofs.Built.Usage.{DefaultsWrite, length_mapped, nodes_good}
use Rattle.hq_laws_request.proofs.Built.Values.{NoDefaults}
use Rattle.hq_laws_request.proofs.Built.Walking.{roots_building}

-- ---- the query that is chosen

record IsQuery (d : DocumentTree) (place : ℕ) : Type 0 where
  own : OperationTree
  at : operation_at d place ≡ Some own
  here : slice_get d place ≡ Some (operation own)
  query : own.kind ≡ op.Query

operation_is : (x : DefinitionTree) (o : OperationTree) → operation_in x ≡ Some o → x ≡ operation o
operation_is (operation q) o e = let same : q ≡ o = cc in ap operation same
operation_is (fragment f) o e = absurd cc

query_is : (d : DocumentTree) (name : Option (List ℕ)) (place : ℕ) → chosen d name ≡ Ok place → IsQuery d place
query_is d name place e =
    let one = then_ok (λ p. query_at p (operation_at d p)) (ok_or (operation_for d name) no_operation) place e in
    by one.0 (operation_at d one.0) refl one.2
  where
    found : (p : ℕ) (o : OperationTree) → operation_at d p ≡ Some o → o.kind ≡ op.Query → IsQuery d p
    found p o at query =
        let x = and_then_some operation_in (slice_get d p) o at in
        record { own = o; at = at; here = x.1 ∙ ap Some (operation_is x.0 o x.2); query = query }

    kind_is : (p : ℕ) (o : OperationTree) (k : OpKind) → if_query p o.at k ≡ Ok place → (k ≡ op.Query) × (p ≡ place)
    kind_is p o op.Query e = let same : p ≡ place = cc in (refl, same)
    kind_is p o op.Mutation e = absurd cc
    kind_is p o op.Subscription e = absurd cc

    by : (p : ℕ) (o : Option OperationTree) → operation_at d p ≡ o → query_at p o ≡ Ok place → IsQuery d place
    by p None at e = absurd cc
    by p (Some o) at e = let is = kind_is p o o.kind e in subst (IsQuery d) is.1 (found p o at is.0)

-- ---- defaults write values

constant_writes : (v : ValueTree) → is_constant v ≡ true → is_some (source_of [] v) ≡ true
constant_writes (text.int x) h = refl
constant_writes (text.float x) h = refl
constant_writes (text.str x) h = refl
constant_writes (text.bool b) h = refl
constant_writes text.null h = refl
constant_writes (text.enum n) h = refl
constant_writes (text.list vs) h = refl
constant_writes (text.object ms) h = refl
constant_writes (variable name) h = absurd cc

default_writes : (o : Option PlacedTree) → option_map_or (λ (p : PlacedTree). is_constant p.value) o true ≡ true → has_default o ≡ true → is_some (default_value o) ≡ true
default_writes None h e = absurd cc
default_writes (Some p) h e = constant_writes p.value h

-- ---- the steps

fault_building : {A : Type 0} (r : Result A BindRefusal) → OfVariables r → IsBuilding (with_fault r)
fault_building (Ok x) h = tt
fault_building (Err (bind.NoVariable name)) h = refl
fault_building (Err (bind.BadVariable name want)) h = refl
fault_building (Err bind.Memory) h = h

limits_building : (at : ℕ) (vars : List VarTree) (small : Bool) (trees : CollectedTrees) → IsBuilding (within_limits at vars small trees)
limits_building at vars small trees = by (small && is_narrow trees && is_bounded vars trees)
  where
    by : (b : Bool) → IsBuilding (cond b (Ok trees) (Err (refusal.Fault (fault_of rule.RequestSize (Some at)))))
    by true = tt
    by false = refl

limits_ok : (at : ℕ) (vars : List VarTree) (small : Bool) (trees fs : CollectedTrees) → within_limits at vars small trees ≡ Ok fs → trees ≡ fs
limits_ok at vars small trees fs e = by (small && is_narrow trees && is_bounded vars trees) e
  where
    by : (b : Bool) → cond b (Ok trees) (Err (refusal.Fault (fault_of rule.RequestSize (Some at)))) ≡ Ok fs → trees ≡ fs
    by true e = let same : trees ≡ fs = cc in same
    by false e = absurd cc

module _ (tables : List Table) (m : MetaTree) (session : Session) where
  abbrev role : Role
  role = role_of session.role

  abbrev R : SchemaTree
  R = role_schema tables m role

  abbrev s : Schema
  s = schema_of tables m

  plain_inputs : Each (Shaped tables m role) R.types → NoDefaults R
  plain_inputs shaped t = by (type_at R t) refl
    where
      by : (o : Option TypeTree) → type_at R t ≡ o → Each (λ (a : ArgTree). a.default_false ≡ false) (inputs_in o)
      by None is = tt
      by (Some d) is = (each_at (Shaped tables m role) R.types t d is shaped).plain

  root_is_object : root_of R op.Query ≡ Some R.query
  unfolding role_schema fixed_type
  root_is_object = refl

  module _ (metadata_fits : fits tables m ≡ true) (leads : Each (TypeFits R.types (access_of m role)) R.types) (differ : NamesDiffer R)
      (first : (d : DocumentTree) → IsOverlap R d (overlap_place R d)) (d : DocumentTree) (vars : List VarTree) where
    -- what follows in the whole way, behind each of its steps
    abbrev after_fields : FieldTrees → Due AskTree
    after_fields fs = bound_in m s session (length tables) fs >>= λ (bs : List BoundTree). Ok (request_of session fs bs)

    abbrev after_collected : CollectedTrees → Due AskTree
    after_collected trees = root_due vars R s (length tables) trees >>= after_fields

    abbrev after_operation : OperationTree → Due AskTree
    after_operation o = collected_due d vars o >>= after_collected

    -- what is known of the query and its variables
    record Known (place : ℕ) (o : OperationTree) : Type 0 where
      here : slice_get d place ≡ Some (operation o)
      query : o.kind ≡ op.Query
      of_doc : DocHolds R d
      of_fields : FieldsHold R d
      shaped : Each (Shaped tables m role) R.types
      constants : DefaultsWrite o.vars
      given : List (List ℕ × JsonTree)
      due : values_due R (is_required R d place) given o.vars ≡ Ok vars

    module _ (place : ℕ) (o : OperationTree) (k : Known place o) where
      abbrev g : Graph
      g = graph_of (fragment_named d) (document_parts R d)

      schemed : Schemed tables m role
      schemed = record { fit = leads }

      no_overlap : (a b : overlap.FieldTree) → Reached (document_sets R d) a b → Violates a b → ⊥
      no_overlap a b met clash = subst (λ (x : Option ℕ). AtMost x (later a b)) k.of_fields.overlap ((first d).least a b met clash)

      in_reach : has (reached g (place ∷ [])) place ≡ true
      in_reach =
          let long : length g ≡ length d = length_mapped (λ (p : PartTree). spread_targets (fragment_named d) p.nodes) (part_of R) d in
          let less : place < length d = slice_get_within d place (operation o) k.here in
          start_reached g (place ∷ []) place (omega (arith, long, less), ap (λ b. b || false) (eq-eqb place place refl))

      sound : Sound R d (reached g (place ∷ [])) vars R.query (collected_fields d vars o)
      sound =
          query_sound R d (reached g (place ∷ [])) vars
          (λ i x in_reach at. nodes_good R (plain_inputs k.shaped) d k.of_doc k.of_fields place o k.here k.constants k.given vars k.due i x in_reach at) no_overlap place o k.here in_reach k.query
          root_is_object

      fields_built : (trees : CollectedTrees) → collected_fields d vars o ≡ trees → IsBuilding (root_due vars R s (length tables) trees)
      fields_built trees same =
          roots_building tables m metadata_fits role schemed k.shaped differ.members vars d (reached g (place ∷ [])) trees (length tables)
          (subst (Sound R d (reached g (place ∷ [])) vars R.query) same sound)

      operation_built : IsBuilding (after_operation o)
      operation_built =
          then_building after_collected (collected_due d vars o) (limits_building o.at vars (is_small d (selections_in o.selections)) (collected_fields d vars o)) (λ trees e.
          then_building after_fields (root_due vars R s (length tables) trees)
          (fields_built trees (limits_ok o.at vars (is_small d (selections_in o.selections)) (collected_fields d vars o) trees e)) (λ fs f.
          then_building (λ (bs : List BoundTree). Ok (request_of session fs bs)) (bound_in m s session (length tables) fs)
          (fault_building (bounds_due role m s session.vars (touched fs s (length tables))) (tables_told s session.vars role m (touched fs s (length tables)))) (λ bs h. tt)))

    pub valid_built : (name : Option (List ℕ)) (given : Option JsonTree) (place : ℕ) → first_doc_fault R d ≡ None → first_field_fault R d ≡ None → chosen d name ≡ Ok place
        → Each (λ v. has_constant v ≡ true) (variables_of (operation_at d place)) → variables_due R d place given ≡ Ok vars → IsBuilding (build_due d place vars R tables m session)
    unfolding build_due
    valid_built name given place doc fields choice constants valued =
        let q = query_is d name place choice in
        let defaults : DefaultsWrite q.own.vars =
        each_weaken (λ (v : VarDefTree). has_constant v ≡ true) (λ (v : VarDefTree). has_default v.default ≡ true → is_some (default_value v.default) ≡ true)
        (λ v h. default_writes v.default h) q.own.vars
        (subst (λ (x : Option OperationTree). Each (λ v. has_constant v ≡ true) (variables_of x)) q.at constants) in
        let known : Known place q.own = record {
          here = q.here;
          query = q.query;
          of_doc = doc_holds R d doc;
          of_fields = fields_hold R d fields;
          shaped = types_shaped tables m role metadata_fits (and_parts _ _ (and_parts _ _ (and_parts _ _ metadata_fits).0).0).0;
          constants = defaults;
          given = given_members given;
          due = subst (λ (x : Option OperationTree). values_due R (is_required R d place) (given_members given) (variables_of x) ≡ Ok vars) q.at valued;
        } in
        subst (λ (x : Option OperationTree). IsBuilding (and_then after_operation (operation_of x))) (sym q.at) (operation_built place q.own known)
