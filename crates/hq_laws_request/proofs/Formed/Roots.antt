-- What root fields have, with all that stands below them.
use Rattle.std.proofs.Common.{◌≡◌, ◌∙◌, refl, sym, ap, subst, ℕ, suc, ◌≤◌, arith, List, ◌∷◌, length, Bool, true, false, Some, None, Ok, codes}
use Rattle.std.proofs.lemmas.Bool.{and_from, or_left, or_right}
use Rattle.hq_base.specs.Due.{mapped, ◌>>=◌}
use Rattle.hq_base.specs.Lists.{Each}
use Rattle.hq_base.specs.declared.value.Val.{Val}
use Rattle.hq_model.specs.Fits.{fits}
use Rattle.hq_model.specs.Meta.{MetaTree}
use Rattle.hq_model.specs.Schema.{Schema, schema_of, table}
use Rattle.hq_model.specs.declared.role.Role.{Role}
use Rattle.hq_model.specs.declared.table.Table.{Table}
use Rattle.hq_gql_tree.specs.Nesting.{arguments_nest}
use Rattle.hq_gql_tree.specs.Selections.{FieldHead}
use Rattle.hq_schema.specs.Fixed.{fixed_place}
use Rattle.hq_schema.specs.Schema.{base, TypeTree, SchemaTree}
use Rattle.hq_schema.specs.Schema as schema
use Rattle.hq_schema.specs.declared.fixed.Fixed.TheVariants as fixed
use Rattle.hq_schema.specs.declared.origin.FieldOrigin.{FieldOrigin}
use Rattle.hq_schema.specs.declared.origin.FieldOrigin.TheVariants as origin
use Rattle.hq_schema.specs.declared.origin.TypeOrigin.TheVariants as type
use Rattle.hq_schema_of_role.specs.RoleSchema.{role_schema}
use Rattle.hq_schema_of_role.specs.Root.{schema_field, type_field}
use Rattle.hq_schema_roles.specs.Access.{Access, access_of}
use Rattle.hq_schema_roles.specs.Leads.{to, where_holds, Reaches, ArgFits, list_target, key_target, root_target, root_args}
use Rattle.hq_request_coerce.specs.Variables.{VarTree}
use Rattle.hq_request_collect.specs.Keys.{levels_of}
use Rattle.hq_request_collect.specs.Keys as collect
use Rattle.hq_request_collect.specs.Tree.{CollectedTrees, no_collected, collected, is_empty}
use Rattle.hq_request_tree.specs.Fields.{from_table, FieldTrees, no_field, field, FieldTree, typename, no_queries, by_key, introspect}
use Rattle.hq_request_tree.specs.Introspection.{look, IntrospectionTrees}
use Rattle.hq_request_tree.specs.Allowed.{Allowed, allowed_to}
use Rattle.hq_request_tree.specs.Conditions.{FieldFits}
use Rattle.hq_request_tree.specs.Everywhere.{Below, FromRoot}
use Rattle.hq_request_tree.specs.IntrospectionTypes.{schema_type, type_type, RootLooks}
use Rattle.hq_request_tree.specs.Levels.{levels, field_levels}
use Rattle.hq_request_tree.specs.ResponseKeys.{are_keys, keys_of, FieldKeys}
use Rattle.hq_request_tree.specs.Standing.{StandsAtRoot}
use Rattle.hq_request_tree.specs.TypeNames.{RootNamed}
use Rattle.hq_request_tree.specs.Uses.{UsesHere}
use Rattle.hq_request_arguments.specs.Context.{Context}
use Rattle.hq_request_arguments.specs.Due.{by_origin}
use Rattle.hq_request_arguments.specs.FieldArguments.{FieldArguments}
use Rattle.hq_request_arguments.specs.FieldArguments as given
use Rattle.hq_request_arguments.specs.Keys.{key_due}
use Rattle.hq_request_build.specs.Asked.{field_by, fields_due}
use Rattle.hq_request_build.specs.KnownField.{Due, is_complete, KnownField, known_due, leads_to, key_of, type_name_due, type_name_of}
use Rattle.hq_request_build.specs.Looks.{looks_due}
use Rattle.hq_laws_request.specs.Formed.ObjectsNest.{objects_nest}
use Rattle.hq_laws_request.proofs.Formed.Kept.{AreKept}
use Rattle.hq_laws_request.proofs.Formed.Knowing.{known_is}
use Rattle.hq_laws_request.proofs.Formed.Looking.{below_accepted, looks_fit}
use Rattle.hq_laws_request.proofs.Formed.Naming.{key_fits}
use Rattle.hq_laws_request.proofs.Formed.Permitted.{aggregates_allowed}
use Rattle.hq_laws_request.proofs.Formed.Places.{At, Schemed, type_seen, Found, own, type_name, of_schema, of_type, field_found, type_named, root_at}
use Rattle.hq_laws_request.proofs.Formed.Rows.{below_known, RowFacts, PartFacts, Inner, list_is, aggregate_is, all_fit}
use Rattle.hq_laws_request.proofs.Formed.BuildingSteps.{mapped_ok, then_ok, equal_texts}

module _ (tables : List Table) (m : MetaTree) (metadata_fits : fits tables m ≡ true) (role : Role) (schemed : Schemed tables m role)
    (vars : List VarTree) (low : Each (λ v. objects_nest v.value ≤ 127) vars) where
  abbrev s : Schema
  s = schema_of tables m

  abbrev R : SchemaTree
  R = role_schema tables m role

  abbrev types : List TypeTree
  types = R.types

  abbrev a : Access
  a = access_of m role

  abbrev ok : Allowed
  ok = allowed_to role m s

  abbrev c : Context
  c = record { vars = vars; schema = R; tables = s }

  -- root fields stand at no table
  abbrev root : ℕ
  root = length tables

  pub record RootFacts (f : FieldTree) : Type 0 where
    pub uses : UsesHere s ok root f
    pub stand : StandsAtRoot s f
    pub fit : FieldFits s root f
    pub keys : FieldKeys root f
    pub named : RootNamed f
    pub looks : RootLooks f

  pub record AllRoots (trees : CollectedTrees) (fs : FieldTrees) : Type 0 where
    pub every : FromRoot RootFacts (RowFacts tables m metadata_fits role schemed vars low) (PartFacts tables m metadata_fits role schemed vars low) fs s root
    pub keys : keys_of fs ≡ collect.keys_of trees
    pub levels : levels fs ≤ levels_of trees

  record OneRoot (below : CollectedTrees) (f : FieldTree) : Type 0 where
    here : RootFacts f
    under : Below (RowFacts tables m metadata_fits role schemed vars low) (PartFacts tables m metadata_fits role schemed vars low) f s root
    levels : field_levels f ≤ suc (levels_of below)

  module _ (h : FieldHead) (below : CollectedTrees) (shallow : arguments_nest h.args ≤ 50) (apart : are_keys (collect.keys_of below) ≡ true)
      (kept : AreKept below) (k : KnownField) (complete : is_complete R k.0 (is_empty below) ≡ true) where
    inner : Inner tables m metadata_fits role schemed vars low below
    inner = all_fit tables m metadata_fits role schemed vars low below kept

    abbrev Asked : FieldOrigin → FieldTree → Type 0
    Asked o f = field_by c R.query root h k (below_known c root below k) o ≡ Ok f

    rows_root : (u : ℕ) → a.seen u ≡ true → At types (leads_to k) (type.Rows u) → Each (ArgFits types (list_target (Some u))) k.0.args → by_origin c root k.0.args h.args (origin.Rows u) ≡ Ok k.1
        → (f : FieldTree) → Asked (origin.Rows u) f → OneRoot below f
    rows_root u seen at args due f e =
        let l = list_is tables m metadata_fits role schemed vars low h below shallow apart inner k (from_table u) u at args due f e in
        subst (OneRoot below) l.is (record {
          here = record { uses = (seen, l.fit.uses); stand = l.fit.stand; fit = l.fit.fit; keys = l.apart; named = tt; looks = tt };
          under = l.all.every;
          levels = omega (arith, l.all.levels);
        })

    aggregate_root : (u : ℕ) → a.aggregates u ≡ true → At types (leads_to k) (type.Aggregate u)
        → Each (ArgFits types (list_target (Some u))) k.0.args → by_origin c root k.0.args h.args (origin.RowsAggregate u) ≡ Ok k.1
        → (f : FieldTree) → Asked (origin.RowsAggregate u) f → OneRoot below f
    aggregate_root u granted at args due f e =
        let l = aggregate_is tables m metadata_fits role schemed vars low h below shallow apart inner k (from_table u) u at args due f e in
        let seen : a.seen u ≡ true = type_seen tables m role schemed (leads_to k) (type.Aggregate u) at in
        subst (OneRoot below) l.is (record {
          here = record { uses = (seen, aggregates_allowed tables m metadata_fits role u granted, l.fit.uses); stand = l.fit.stand; fit = l.fit.fit; keys = l.apart; named = tt; looks = tt };
          under = l.all.every;
          levels = omega (arith, l.all.levels);
        })

    key_root : (u : ℕ) → a.seen u ≡ true → At types (leads_to k) (type.Rows u) → Each (ArgFits types (key_target a u)) k.0.args → mapped given.key (key_due c k.0.args h.args u) ≡ Ok k.1
        → (f : FieldTree) → Asked (origin.RowByKey u) f → OneRoot below f
    key_root u seen at args due f e =
        let one = mapped_ok given.key (key_due c k.0.args h.args u) k.1 due in
        let vs : List Val = one.0 in
        let e' : mapped (by_key u vs) (fields_due c (leads_to k) u below) ≡ Ok f =
        subst (λ (x : FieldArguments). (key_of h x >>= λ y. mapped (by_key u y) (fields_due c (leads_to k) u below)) ≡ Ok f) (sym one.2) e in
        let two = mapped_ok (by_key u vs) (fields_due c (leads_to k) u below) f e' in
        let all = inner.rows (leads_to k) u at two.0 two.1 in
        let keyed = key_fits tables m metadata_fits role schemed vars u k.0.args h.args args (table s u).key vs one.1 in
        subst (OneRoot below) two.2 (record {
          here = record { uses = (seen, keyed.0); stand = tt; fit = keyed.1; keys = ap are_keys all.keys ∙ apart; named = tt; looks = tt };
          under = all.every;
          levels = omega (arith, all.levels);
        })

    own_root : (o : FieldOrigin) → Reaches types k.0.ty (root_target a o) → Each (ArgFits types (root_args a o)) k.0.args
        → by_origin c root k.0.args h.args o ≡ Ok k.1 → (f : FieldTree) → Asked o f → OneRoot below f
    own_root (origin.Rows u) at args due f e = by (a.seen u) refl at
      where
        by : (b : Bool) → a.seen u ≡ b → Reaches types k.0.ty (where_holds b (to (type.Rows u))) → OneRoot below f
        by true seen at = rows_root u seen at args due f e
        by false seen at = absurd at
    own_root (origin.RowsAggregate u) at args due f e = by (a.aggregates u) refl at
      where
        by : (b : Bool) → a.aggregates u ≡ b → Reaches types k.0.ty (where_holds b (to (type.Aggregate u))) → OneRoot below f
        by true granted at = aggregate_root u granted at args due f e
        by false granted at = absurd at
    own_root (origin.RowByKey u) at args due f e = by (a.seen u) refl at
      where
        by : (b : Bool) → a.seen u ≡ b → Reaches types k.0.ty (where_holds b (to (type.Rows u))) → OneRoot below f
        by true seen at = key_root u seen at args due f e
        by false seen at = absurd at
    own_root origin.NoQueries at args due f e =
        let same : no_queries ≡ f = cc in
        subst (OneRoot below) same (record { here = record { uses = tt; stand = tt; fit = tt; keys = tt; named = tt; looks = tt }; under = tt; levels = omega arith })
    own_root o at args due f e = absurd at

    name_root : (f : FieldTree) → Asked origin.TypeName f → OneRoot below f
    name_root f e =
        let one = mapped_ok typename (type_name_due R R.query h) f e in
        let is = type_named tables m role schemed R.query type.Query h one.0 (root_at tables m role schemed) one.1 in
        subst (OneRoot below) one.2 (record {
          here = record { uses = tt; stand = tt; fit = tt; keys = tt; named = equal_texts one.0 (codes "query_root") is; looks = tt };
          under = tt;
          levels = omega arith;
        })

    -- `__schema`, and `__type` with the name of a type
    schema_root : k.0 ≡ schema_field → h.name ≡ codes "__schema" → (f : FieldTree) → Asked origin.Schema f → OneRoot below f
    schema_root is name f e =
        let one = mapped_ok (λ (fs : IntrospectionTrees). introspect (look h.name None false fs)) (looks_due c (leads_to k) root below) f e in
        let leads : base k.0.ty ≡ fixed_place fixed.Schema = ap (λ (x : schema.FieldTree). base x.ty) is in
        let acc =
        below_accepted tables m role vars fixed.Schema (Some schema_type) refl refl root below
        (λ t f type is ls e. looks_fit tables m role vars below kept t f type is ls e) apart k.0 leads complete one.0 one.1 in
        subst (OneRoot below) one.2 (record {
          here = record {
            uses = tt;
            stand = tt;
            fit = tt;
            keys = tt;
            named = tt;
            looks = or_left _ _ (and_from _ _ (and_from _ _ (equal_texts h.name (codes "__schema") name) refl) acc.0);
          };
          under = tt;
          levels = omega (arith, acc.1);
        })

    type_root : k.0 ≡ type_field → h.name ≡ codes "__type" → (f : FieldTree) → Asked origin.«Type» f → OneRoot below f
    type_root is name f e =
        let one = then_ok (λ (n : List ℕ). mapped (λ (fs : IntrospectionTrees). introspect (look h.name (Some n) false fs)) (looks_due c (leads_to k) root below)) (type_name_of h k.1) f e in
        let n : List ℕ = one.0 in
        let three = mapped_ok (λ (fs : IntrospectionTrees). introspect (look h.name (Some n) false fs)) (looks_due c (leads_to k) root below) f one.2 in
        let leads : base k.0.ty ≡ fixed_place fixed.«Type» = ap (λ (x : schema.FieldTree). base x.ty) is in
        let acc =
        below_accepted tables m role vars fixed.«Type» (Some type_type) refl refl root below
        (λ t f type is ls e. looks_fit tables m role vars below kept t f type is ls e) apart k.0 leads complete three.0 three.1 in
        subst (OneRoot below) three.2 (record {
          here = record {
            uses = tt;
            stand = tt;
            fit = tt;
            keys = tt;
            named = tt;
            looks = or_right _ _ (and_from _ _ (and_from _ _ (equal_texts h.name (codes "__type") name) refl) acc.0);
          };
          under = tt;
          levels = omega (arith, acc.1);
        })

    one_root : Found tables m role schemed R.query type.Query h.name k.0 → by_origin c root k.0.args h.args k.0.origin ≡ Ok k.1 → (f : FieldTree) → Asked k.0.origin f → OneRoot below f
    one_root (own i) due f e = own_root k.0.origin i.fits.reaches i.fits.args due f e
    one_root (type_name is) due f e = name_root f (subst (λ (x : schema.FieldTree). Asked x.origin f) is e)
    one_root (of_schema at is name) due f e = schema_root is name f (subst (λ (x : schema.FieldTree). Asked x.origin f) is e)
    one_root (of_type at is name) due f e = type_root is name f (subst (λ (x : schema.FieldTree). Asked x.origin f) is e)

  -- all root fields
  pub roots_fit : (trees : CollectedTrees) → AreKept trees → (fs : FieldTrees) → fields_due c R.query root trees ≡ Ok fs → AllRoots trees fs
  roots_fit no_collected kept fs e = let same : no_field ≡ fs = cc in subst (AllRoots no_collected) same (record { every = tt; keys = refl; levels = omega arith })
  roots_fit (collected key h below others) kept fs e =
      let next : KnownField → Due FieldTree = λ k. field_by c R.query root h k (below_known c root below k) k.0.origin in
      let due = known_due c R.query root h (is_empty below) >>= next in
      let one = then_ok (λ f. mapped (field key f) (fields_due c R.query root others)) due fs e in
      let two = mapped_ok (field key one.0) (fields_due c R.query root others) fs one.2 in
      let three = then_ok next (known_due c R.query root h (is_empty below)) one.0 one.1 in
      let known = known_is c R.query root h (is_empty below) three.0 three.1 in
      let found = field_found tables m role schemed R.query type.Query h.name three.0.0 (root_at tables m role schemed) known.found in
      let f = one_root h below kept.0 kept.1 kept.2 three.0 known.complete found known.arguments one.0 three.2 in
      let rest = roots_fit others kept.3 two.0 two.1 in
      subst (AllRoots (collected key h below others)) two.2 (record {
        every = (f.here, f.under, rest.every);
        keys = ap (λ ks. key ∷ ks) rest.keys;
        levels = omega (arith, f.levels, rest.levels);
      })
