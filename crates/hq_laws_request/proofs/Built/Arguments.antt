-- The arguments of a field that violate no rule: they are refused by what they ask for alone.
use Rattle.std.proofs.Common.{◌≡◌, ◌∙◌, refl, sym, ap, subst, ℕ, List, [], ◌∷◌, map, find, Bool, true, false, cond, not, ◌&&◌, Option, Some, None, ok_or, is_some, option_map, option_and_then, bytes_eq, codes}
use Rattle.std.specs.List.{list_any}
use Rattle.std.specs.Option.{option_map_or}
use Rattle.std.proofs.lemmas.Bool.{and_parts, or_parts, or_left, or_right}
use Rattle.hq_model.proofs.Names.{names_equal}
use Rattle.hq_overlap_sets.proofs.ValueLemmas.{true_bytes}
use Rattle.hq_base.specs.Due.{and_then}
use Rattle.hq_base.specs.Json.{JsonTree}
use Rattle.hq_base.specs.Json as json
use Rattle.hq_base.specs.Lists.{Each}
use Rattle.hq_base.proofs.Lists.{each_all, each_weaken}
use Rattle.hq_base.specs.Look.{bool_in, str_in}
use Rattle.hq_base.specs.declared.value.Ty.{Ty}
use Rattle.hq_base.specs.declared.value.Ty.TheVariants as ty
use Rattle.hq_model.specs.Fits.{fits}
use Rattle.hq_model.specs.Meta.{MetaTree}
use Rattle.hq_model.specs.Schema.{Schema, schema_of, table, column}
use Rattle.hq_model.specs.Selected.{SortKey}
use Rattle.hq_model.specs.declared.role.Role.{Role}
use Rattle.hq_model.specs.declared.table.Table.{Table}
use Rattle.hq_gql_tree.specs.Documents.{DocumentTree}
use Rattle.hq_gql_tree.specs.Values.{ArgumentTree, ValueTree, variable}
use Rattle.hq_gql_tree.specs.Values as text
use Rattle.hq_gql_tree.specs.declared.rule.RuleId.TheVariants.{RequiredArguments, ValuesOfCorrectType}
use Rattle.hq_gql_nodes.specs.Known.{place_of_arg, is_non_null, is_null}
use Rattle.hq_rules_reach.specs.Uses.{use_in}
use Rattle.hq_gql_nodes.specs.Nodes.{NodeTree, value_node, argument_nodes, arguments_nodes, value_nodes, nodes_in_value}
use Rattle.hq_schema.specs.Fixed.{int, boolean, string}
use Rattle.hq_schema.specs.Look.{arg_in}
use Rattle.hq_schema.specs.Schema.{base, TypeRefTree, non_null, ArgTree, TypeTree, SchemaTree}
use Rattle.hq_schema.specs.declared.fixed.Fixed.TheVariants.{Scalar}
use Rattle.hq_schema.specs.declared.origin.ArgOrigin.TheVariants as stands
use Rattle.hq_schema.specs.declared.part.Part.TheVariants.{Filter, Sort, Columns}
use Rattle.hq_schema_of_role.specs.Fields.{list_args, count_args}
use Rattle.hq_schema_of_role.specs.References.{fixed, part, items, arg}
use Rattle.hq_schema_of_role.specs.RoleSchema.{role_schema}
use Rattle.hq_schema_of_role.specs.Root.{type_field}
use Rattle.hq_schema.specs.Parts.{part_place}
use Rattle.hq_schema_roles.specs.Access.{Access, access_of}
use Rattle.hq_schema_roles.specs.Leads.{ArgFits, list_target, count_target}
use Rattle.hq_rules_fields.specs.NodeRules.{is_given, lacks, lacks_any}
use Rattle.hq_request_coerce.specs.Coercion as coercion
use Rattle.hq_request_coerce.specs.Sources.{source_of}
use Rattle.hq_request_coerce.specs.Variables.{VarTree, var_value}
use Rattle.hq_request_arguments.specs.Columns.{one_column, columns_due, by_columns, by_distinct, distinct_columns, distinct_due, ordered, matched, counted_due}
use Rattle.hq_request_arguments.specs.Context.{Context}
use Rattle.hq_request_arguments.specs.Due.{list_due, count_due, introspection_due}
use Rattle.hq_request_arguments.specs.FieldArguments.{deprecated}
use Rattle.hq_request_arguments.specs.Keys.{is_for, key_value, given_for, part_due, key_due}
use Rattle.hq_request_arguments.specs.Page.{rows_due}
use Rattle.hq_request_arguments.specs.Plain.{flag_due, text_due}
use Rattle.hq_request_arguments.specs.Reading.{Given, unless_null, given, argument_named, given_named}
use Rattle.hq_request_arguments.specs.Sorts.{by_sorts, order_by_due}
use Rattle.hq_request_arguments.specs.Where.{by_filter, where_due}
use Rattle.hq_request_arguments.specs.declared.refusal.ArgRefusal.TheVariants.{Rule}
use Rattle.hq_model.specs.SchemaNames.{all_names_differ}
use Rattle.hq_laws_request.proofs.Built.BuildingSteps.{map_some, and_then_some}
use Rattle.hq_laws_request.proofs.Built.Filters.{scalar_at, filter_lawful}
use Rattle.hq_laws_request.proofs.Built.Items.{found_each}
use Rattle.hq_laws_request.proofs.Built.Lawful.{Lawful, then_lawful, mapped_lawful, each_lawful}
use Rattle.hq_laws_request.proofs.Built.Literals.{Good, each_split, literal_is, some_of}
use Rattle.hq_laws_request.proofs.Built.Orders.{columns_lawful, ordered_lawful, counting_lawful, matched_lawful, one_lawful, sorts_lawful}
use Rattle.hq_laws_request.proofs.Built.Places.{Schemed}
use Rattle.hq_laws_request.proofs.Built.Scalars.{scalar_is, flag_is, text_is, rows_lawful, key_lawful}
use Rattle.hq_laws_request.proofs.Built.Shapes.{KeyArg, Shaped}
use Rattle.hq_laws_request.proofs.Built.Values.{IsOf}

-- ---- names that differ

-- the name of an item that is found is one of the names
any_found : (p : ArgTree → Bool) (name : List ℕ) (args : List ArgTree) (x : ArgTree) → find p args ≡ Some x → bytes_eq name x.name ≡ true
    → list_any (bytes_eq name) (map (λ (y : ArgTree). y.name) args) ≡ true
any_found p name [] x e same = absurd cc
any_found p name (y ∷ args) x e same = by (p y) e (λ g. any_found p name args x g same)
  where
    by : (b : Bool) → cond b (Some y) (find p args) ≡ Some x → (find p args ≡ Some x → list_any (bytes_eq name) (map (λ (y : ArgTree). y.name) args) ≡ true)
        → list_any (bytes_eq name) (map (λ (y : ArgTree). y.name) (y ∷ args)) ≡ true
    by true e again = let is : y ≡ x = cc in or_left (bytes_eq name y.name) _ (ap (λ (z : ArgTree). bytes_eq name z.name) is ∙ same)
    by false e again = or_right (bytes_eq name y.name) _ (again e)

-- an argument that is found by a test is found by its name
differ_found : (p : ArgTree → Bool) (args : List ArgTree) (x : ArgTree) → all_names_differ (map (λ (y : ArgTree). y.name) args) ≡ true → find p args ≡ Some x → arg_in args x.name ≡ Some x
differ_found p [] x differ e = absurd cc
differ_found p (y ∷ args) x differ e =
    let parts = and_parts (not (list_any (bytes_eq y.name) (map (λ (z : ArgTree). z.name) args))) (all_names_differ (map (λ (z : ArgTree). z.name) args)) differ in
    by parts.0 (p y) e (λ g. differ_found p args x parts.1 g)
  where
    other : not (list_any (bytes_eq y.name) (map (λ (z : ArgTree). z.name) args)) ≡ true → find p args ≡ Some x → (b : Bool) → bytes_eq y.name x.name ≡ b → b ≡ false
    other new e false is = refl
    other new e true is = let no : not true ≡ true = subst (λ b. not b ≡ true) (any_found p y.name args x e is) new in absurd cc

    by : not (list_any (bytes_eq y.name) (map (λ (z : ArgTree). z.name) args)) ≡ true → (b : Bool) → cond b (Some y) (find p args) ≡ Some x
        → (find p args ≡ Some x → arg_in args x.name ≡ Some x) → arg_in (y ∷ args) x.name ≡ Some x
    by new true e again = let is : y ≡ x = cc in rw (ap (λ (z : ArgTree). bytes_eq z.name x.name) is ∙ true_bytes x.name x.name refl) (ap Some is)
    by new false e again = rw (other new e (bytes_eq y.name x.name) refl) (again e)

-- ---- an argument that is given

-- its value is of its type, and no null
pub record GivenIs (s : SchemaTree) (g : Given) : Type 0 where
  pub of : IsOf s g.arg.ty g.value
  pub not_null : coercion.is_null g.value ≡ false

unless_is : (j i : JsonTree) → unless_null j ≡ Some i → (j ≡ i) × (coercion.is_null i ≡ false)
unless_is json.null i e = absurd cc
unless_is (json.bool b) i e = let same : json.bool b ≡ i = cc in (same, ap coercion.is_null (sym same))
unless_is (json.int n) i e = let same : json.int n ≡ i = cc in (same, ap coercion.is_null (sym same))
unless_is (json.str x) i e = let same : json.str x ≡ i = cc in (same, ap coercion.is_null (sym same))
unless_is (json.arr js) i e = let same : json.arr js ≡ i = cc in (same, ap coercion.is_null (sym same))
unless_is (json.obj ms) i e = let same : json.obj ms ≡ i = cc in (same, ap coercion.is_null (sym same))

not_null_is : (j : JsonTree) → coercion.is_null j ≡ false → unless_null j ≡ Some j
not_null_is json.null e = absurd cc
not_null_is (json.bool b) e = refl
not_null_is (json.int n) e = refl
not_null_is (json.str x) e = refl
not_null_is (json.arr js) e = refl
not_null_is (json.obj ms) e = refl

-- a value of a type without null is none
strict_not_null : (s : SchemaTree) (r : TypeRefTree) (j : JsonTree) → is_non_null r ≡ true → IsOf s r j → coercion.is_null j ≡ false
strict_not_null s r json.null strict h = absurd (let no : true ≡ false = sym strict ∙ h in cc)
strict_not_null s r (json.bool b) strict h = refl
strict_not_null s r (json.int n) strict h = refl
strict_not_null s r (json.str x) strict h = refl
strict_not_null s r (json.arr js) strict h = refl
strict_not_null s r (json.obj ms) strict h = refl

module _ (s : SchemaTree) (d : DocumentTree) (reach : List ℕ) (vars : List VarTree) where
  abbrev Fine : NodeTree → Type 0
  Fine n = Good s d reach vars n

  -- the nodes of each argument
  each_argument : (args : Option (List ArgTree)) (xs : List ArgumentTree) → Each Fine (arguments_nodes s args xs) → Each (λ x. Each Fine (argument_nodes s args x)) xs
  each_argument args [] h = tt
  each_argument args (x ∷ xs) h = let parts = each_split Fine (argument_nodes s args x) (arguments_nodes s args xs) h in (parts.0, each_argument args xs parts.1)

  module _ (args : List ArgTree) (xs : List ArgumentTree) (nodes : Each Fine (arguments_nodes s (Some args) xs)) where
    -- what an argument of a name writes is of the type of its definition
    written_is : (name : List ℕ) (x : ArgumentTree) → argument_named xs name ≡ Some x → (a : ArgTree) → arg_in args x.name ≡ Some a
        → Fine (value_node x.value (Some (place_of_arg a))) × Each Fine (nodes_in_value s (Some (place_of_arg a)) x.value.value)
    written_is name x found a known =
        let mine = (found_each (λ x. Each Fine (argument_nodes s (Some args) x)) (λ (y : ArgumentTree). bytes_eq y.name name) xs x found (each_argument (Some args) xs nodes)).0 in
        let here : Each Fine (value_nodes s (Some (place_of_arg a)) x.value) = subst (λ (o : Option ArgTree). Each Fine (value_nodes s (option_map place_of_arg o) x.value)) known mine.1 in
        (here.0, here.1)

    value_of : (name : List ℕ) (x : ArgumentTree) → argument_named xs name ≡ Some x → (a : ArgTree) → arg_in args x.name ≡ Some a → (j : JsonTree) → source_of vars x.value.value ≡ Some j
        → IsOf s a.ty j
    value_of name x found a known j e = let w = written_is name x found a known in literal_is s d reach vars x.value.value x.value.at (place_of_arg a) w.0 w.1 j e

    pub given_is : (c : Context) → c.vars ≡ vars → (name : List ℕ) (g : Given) → given_named c args xs name ≡ Some g → GivenIs s g × (arg_in args name ≡ Some g.arg)
    given_is c same name g e =
        let one = and_then_some (λ (x : ArgumentTree). option_and_then (λ a. given c a x) (arg_in args x.name)) (argument_named xs name) g e in
        let x : ArgumentTree = one.0 in
        let two = and_then_some (λ a. given c a x) (arg_in args x.name) g one.2 in
        let three = map_some (λ (j : JsonTree). let r : Given = record { arg = two.0; value = j } in r) (option_and_then unless_null (source_of c.vars x.value.value)) g two.2 in
        let four = and_then_some unless_null (source_of c.vars x.value.value) three.0 three.1 in
        let is = unless_is four.0 three.0 four.2 in
        let source : source_of vars x.value.value ≡ Some four.0 = ap (λ v. source_of v x.value.value) (sym same) ∙ four.1 in
        let named_so = (found_each (λ (y : ArgumentTree). Unit {0}) (λ (y : ArgumentTree). bytes_eq y.name name) xs x one.1 (each_all (λ (y : ArgumentTree). Unit {0}) (λ y. tt) xs)).1 in
        let here : GivenIs s (record { arg = two.0; value = three.0 }) = record { of = subst (IsOf s two.0.ty) is.0 (value_of name x one.1 two.0 two.1 four.0 source); not_null = is.1 } in
        (subst (GivenIs s) three.2 here, subst (λ n. arg_in args n ≡ Some g.arg) (names_equal x.name name named_so) (two.1 ∙ ap (λ (r : Given). Some r.arg) three.2))

    -- a required argument is given
    pub required_given : (c : Context) → c.vars ≡ vars → (a : ArgTree) → is_non_null a.ty ≡ true → a.default_false ≡ false → arg_in args a.name ≡ Some a → lacks xs a ≡ false
        → (g : Given) × (option_and_then (given c a) (argument_named xs a.name) ≡ Some g) × (g.arg ≡ a) × GivenIs s g
    required_given c same a strict plain known lacking = by (argument_named xs a.name) refl (not_lacking (is_given xs a.name) (is_non_null a.ty) a.default_false strict plain lacking)
      where
        not_lacking : (b n f : Bool) → n ≡ true → f ≡ false → ((n && not f) && not b) ≡ false → b ≡ true
        not_lacking true n f strict plain h = refl
        not_lacking false true false strict plain h = absurd cc
        not_lacking false true true strict plain h = absurd cc
        not_lacking false false f strict plain h = absurd cc

        source_some : (v : ValueTree) → ((name : List ℕ) → v ≡ variable name → is_some (var_value vars name) ≡ true) → is_some (source_of vars v) ≡ true
        source_some (text.int x) h = refl
        source_some (text.float x) h = refl
        source_some (text.str x) h = refl
        source_some (text.bool b) h = refl
        source_some text.null h = refl
        source_some (text.enum n) h = refl
        source_some (text.list vs) h = refl
        source_some (text.object ms) h = refl
        source_some (variable name) h = h name refl

        one : (x : ArgumentTree) → argument_named xs a.name ≡ Some x → (g : Given) × (given c a x ≡ Some g) × (g.arg ≡ a) × GivenIs s g
        one x found =
            let named_so = (found_each (λ (y : ArgumentTree). Unit {0}) (λ (y : ArgumentTree). bytes_eq y.name a.name) xs x found (each_all (λ (y : ArgumentTree). Unit {0}) (λ y. tt) xs)).1 in
            let here : arg_in args x.name ≡ Some a = ap (arg_in args) (names_equal x.name a.name named_so) ∙ known in
            let w = written_is a.name x found a here in
            let j = some_of (source_of vars x.value.value)
            (source_some x.value.value (λ name is.
            (w.0.used (record { name = name; at = x.value.at; place = Some (place_of_arg a) }) (ap (use_in x.value.at (Some (place_of_arg a))) is) (place_of_arg a) refl).given strict plain)) in
            let of : IsOf s a.ty j.0 = literal_is s d reach vars x.value.value x.value.at (place_of_arg a) w.0 w.1 j.0 j.1 in
            let no : coercion.is_null j.0 ≡ false = strict_not_null s a.ty j.0 strict of in
            let made : JsonTree → Given = λ i. record { arg = a; value = i } in
            let source : source_of c.vars x.value.value ≡ Some j.0 = ap (λ v. source_of v x.value.value) same ∙ j.1 in
            (made j.0, ap (λ o. option_map made (option_and_then unless_null o)) source ∙ ap (option_map made) (not_null_is j.0 no), refl, record { of = of; not_null = no })

        by : (o : Option ArgumentTree) → argument_named xs a.name ≡ o → is_given xs a.name ≡ true → (g : Given) × (option_and_then (given c a) o ≡ Some g) × (g.arg ≡ a) × GivenIs s g
        by None is h = let no : false ≡ true = ap (λ (o : Option ArgumentTree). option_map_or (λ (y : ArgumentTree). not (is_null y.value.value)) o false) (sym is) ∙ h in absurd cc
        by (Some x) is h = one x is

-- ---- the arguments of each kind of field

module _ (tables : List Table) (m : MetaTree) (metadata_fits : fits tables m ≡ true) (role : Role) (schemed : Schemed tables m role)
    (shaped : Each (Shaped tables m role) (role_schema tables m role).types) (vars : List VarTree)
    (d : DocumentTree) (reach : List ℕ) where
  abbrev s : Schema
  s = schema_of tables m

  abbrev R : SchemaTree
  R = role_schema tables m role

  abbrev types : List TypeTree
  types = R.types

  abbrev a : Access
  a = access_of m role

  abbrev c : Context
  c = record { vars = vars; schema = R; tables = s }

  abbrev FineHere : NodeTree → Type 0
  FineHere n = Good R d reach vars n

  module _ (xs : List ArgumentTree) where
    -- ---- where its definition is this one

    flag_lawful : (args : List ArgTree) → Each FineHere (arguments_nodes R (Some args) xs) → (name : List ℕ) → ((x : ArgTree) → arg_in args name ≡ Some x → x.ty ≡ fixed boolean)
        → Lawful (flag_due (given_named c args xs name))
    flag_lawful args nodes name typed = by (given_named c args xs name) refl
      where
        some : (o : Option Bool) → is_some o ≡ true → Lawful (ok_or o (Rule ValuesOfCorrectType))
        some None h = absurd cc
        some (Some b) h = tt

        by : (o : Option Given) → given_named c args xs name ≡ o → Lawful (flag_due o)
        by None is = tt
        by (Some g) is =
            let g_is = given_is R d reach vars args xs nodes c refl name g is in
            let of : IsOf R (fixed boolean) g.value = subst (λ r. IsOf R r g.value) (typed g.arg g_is.1) g_is.0.of in
            some (bool_in g.value) (flag_is g.value g_is.0.not_null
            (scalar_is R ty.Boolean (scalar_at tables m metadata_fits role schemed shaped vars ty.Boolean) (fixed boolean) refl refl g.value of))

    -- the name of a type, which is required
    pub text_lawful : Each FineHere (arguments_nodes R (Some type_field.args) xs) → lacks_any xs type_field.args ≡ false → Lawful (text_due (given_named c type_field.args xs (codes "name")))
    text_lawful nodes lacking =
        let x : ArgTree = arg (codes "name") (non_null (fixed string)) stands.TypeName in
        let lacks_not : lacks xs x ≡ false = (or_parts (lacks xs x) false lacking).0 in
        let g = required_given R d reach vars type_field.args xs nodes c refl x refl refl refl lacks_not in
        let of : IsOf R (non_null (fixed string)) g.0.value = subst (λ r. IsOf R r g.0.value) (ap (λ (y : ArgTree). y.ty) g.2) g.3.of in
        let is_text = text_is g.0.value g.3.not_null (scalar_is R ty.Text (scalar_at tables m metadata_fits role schemed shaped vars ty.Text) (non_null (fixed string)) refl refl g.0.value of) in
        by (argument_named xs (codes "name")) refl g.0 g.1 is_text
      where
        some : (o : Option (List ℕ)) → is_some o ≡ true → Lawful (ok_or o (Rule ValuesOfCorrectType))
        some None h = absurd cc
        some (Some b) h = tt

        by : (o : Option ArgumentTree) → argument_named xs (codes "name") ≡ o → (g : Given)
            → option_and_then (given c (arg (codes "name") (non_null (fixed string)) stands.TypeName)) o ≡ Some g → is_some (str_in g.value) ≡ true
            → Lawful (text_due (option_and_then (λ (x : ArgumentTree). option_and_then (λ a. given c a x) (arg_in type_field.args x.name)) o))
        by None is g e h = absurd cc
        by (Some x) is g e h =
            let named_so = (found_each (λ (y : ArgumentTree). Unit {0}) (λ (y : ArgumentTree). bytes_eq y.name (codes "name")) xs x is (each_all (λ (y : ArgumentTree). Unit {0}) (λ y. tt) xs)).1 in
            let here : arg_in type_field.args x.name ≡ Some (arg (codes "name") (non_null (fixed string)) stands.TypeName) = ap (arg_in type_field.args) (names_equal x.name (codes "name") named_so) in
            subst (λ (o : Option Given). Lawful (text_due o)) (sym (ap (option_and_then (λ a. given c a x)) here ∙ e)) (some (str_in g.value) h)

    rows_of_lawful : (args : List ArgTree) → Each FineHere (arguments_nodes R (Some args) xs) → (name : List ℕ) → ((x : ArgTree) → arg_in args name ≡ Some x → x.ty ≡ fixed int)
        → Lawful (rows_due (given_named c args xs name))
    rows_of_lawful args nodes name typed = by (given_named c args xs name) refl
      where
        by : (o : Option Given) → given_named c args xs name ≡ o → Lawful (rows_due o)
        by None is = tt
        by (Some g) is =
            let g_is = given_is R d reach vars args xs nodes c refl name g is in
            let of : IsOf R (fixed int) g.value = subst (λ r. IsOf R r g.value) (typed g.arg g_is.1) g_is.0.of in
            rows_lawful g.value g_is.0.not_null (scalar_is R ty.Integer (scalar_at tables m metadata_fits role schemed shaped vars ty.Integer) (fixed int) refl refl g.value of)

    -- ---- a list of rows of table u

    module _ (u first : ℕ) (fit : Each (ArgFits types (list_target (Some u))) (list_args first)) (nodes : Each FineHere (arguments_nodes R (Some (list_args first)) xs)) where
      given_here : (name : List ℕ) (x : ArgTree) → arg_in (list_args first) name ≡ Some x → (g : Given) → given_named c (list_args first) xs name ≡ Some g → GivenIs R g × (g.arg ≡ x)
      given_here name x known g is =
          let g_is = given_is R d reach vars (list_args first) xs nodes c refl name g is in
          (g_is.0, (let both : Some g.arg ≡ Some x = sym g_is.1 ∙ known in cc))

      where_lawful : Lawful (where_due c u (given_named c (list_args first) xs (codes "where")))
      unfolding list_args
      where_lawful = by (given_named c (list_args first) xs (codes "where")) refl
        where
          of_arg : (x : ArgTree) (j : JsonTree) → x ≡ arg (codes "where") (part first Filter) stands.Where → IsOf R x.ty j → Lawful (by_filter c u j (base x.ty) x.origin)
          of_arg x j is h =
              subst (λ (x : ArgTree). Lawful (by_filter c u j (base x.ty) x.origin)) (sym is)
              (filter_lawful tables m metadata_fits role schemed shaped vars j (part first Filter) u refl fit.1.1.1.1.0.reaches (subst (λ (x : ArgTree). IsOf R x.ty j) is h))

          by : (o : Option Given) → given_named c (list_args first) xs (codes "where") ≡ o → Lawful (where_due c u o)
          by None is = tt
          by (Some g) is = let g_is = given_here (codes "where") (arg (codes "where") (part first Filter) stands.Where) refl g is in of_arg g.arg g.value g_is.1 g_is.0.of

      order_lawful : Lawful (order_by_due c u (given_named c (list_args first) xs (codes "order_by")))
      unfolding list_args
      order_lawful = by (given_named c (list_args first) xs (codes "order_by")) refl
        where
          of_arg : (x : ArgTree) (j : JsonTree) → x ≡ arg (codes "order_by") (items (part first Sort)) stands.OrderBy → IsOf R x.ty j → Lawful (by_sorts c u j (base x.ty) x.origin)
          of_arg x j is h =
              subst (λ (x : ArgTree). Lawful (by_sorts c u j (base x.ty) x.origin)) (sym is)
              (sorts_lawful tables m metadata_fits role schemed shaped vars (part_place first Sort) u fit.1.1.1.0.reaches j (subst (λ (x : ArgTree). IsOf R x.ty j) is h))

          by : (o : Option Given) → given_named c (list_args first) xs (codes "order_by") ≡ o → Lawful (order_by_due c u o)
          by None is = tt
          by (Some g) is = let g_is = given_here (codes "order_by") (arg (codes "order_by") (items (part first Sort)) stands.OrderBy) refl g is in of_arg g.arg g.value g_is.1 g_is.0.of

      distinct_lawful : (sorts : List SortKey) → Lawful (distinct_due c u sorts (given_named c (list_args first) xs (codes "distinct_on")))
      unfolding list_args
      distinct_lawful sorts = then_lawful (matched sorts) (and_then (ordered c u) (distinct_columns c (given_named c (list_args first) xs (codes "distinct_on"))))
          (then_lawful (ordered c u) (distinct_columns c (given_named c (list_args first) xs (codes "distinct_on")))
          (by (given_named c (list_args first) xs (codes "distinct_on")) refl)
          (λ cs e. ordered_lawful tables m metadata_fits role schemed shaped vars u cs))
          (λ cs e. matched_lawful tables m metadata_fits role schemed shaped vars sorts cs)
        where
          of_arg : (x : ArgTree) (j : JsonTree) → x ≡ arg (codes "distinct_on") (items (part first Columns)) stands.DistinctOn → coercion.is_null j ≡ false → IsOf R x.ty j
              → Lawful (by_distinct c j (base x.ty) x.origin)
          of_arg x j is never h =
              subst (λ (x : ArgTree). Lawful (by_distinct c j (base x.ty) x.origin)) (sym is)
              (columns_lawful tables m metadata_fits role schemed shaped vars (part_place first Columns) u fit.0.reaches j never (subst (λ (x : ArgTree). IsOf R x.ty j) is h))

          by : (o : Option Given) → given_named c (list_args first) xs (codes "distinct_on") ≡ o → Lawful (distinct_columns c o)
          by None is = tt
          by (Some g) is = let g_is = given_here (codes "distinct_on") (arg (codes "distinct_on") (items (part first Columns)) stands.DistinctOn) refl g is in
              of_arg g.arg g.value g_is.1 g_is.0.not_null g_is.0.of

      limit_lawful : Lawful (rows_due (given_named c (list_args first) xs (codes "limit")))
      unfolding list_args
      limit_lawful = rows_of_lawful (list_args first) nodes (codes "limit")
          (λ x e. let both : Some (arg (codes "limit") (fixed int) stands.Limit) ≡ Some x = e in let same : arg (codes "limit") (fixed int) stands.Limit ≡ x = cc in
          ap (λ (y : ArgTree). y.ty) (sym same))

      offset_lawful : Lawful (rows_due (given_named c (list_args first) xs (codes "offset")))
      unfolding list_args
      offset_lawful = rows_of_lawful (list_args first) nodes (codes "offset")
          (λ x e. let both : Some (arg (codes "offset") (fixed int) stands.Offset) ≡ Some x = e in let same : arg (codes "offset") (fixed int) stands.Offset ≡ x = cc in
          ap (λ (y : ArgTree). y.ty) (sym same))

      all_lawful : Lawful (list_due c (list_args first) xs u)
      all_lawful =
          then_lawful _ (where_due c u (given_named c (list_args first) xs (codes "where"))) where_lawful (λ wanted _.
          then_lawful _ (order_by_due c u (given_named c (list_args first) xs (codes "order_by"))) order_lawful (λ sorts _.
          then_lawful _ (rows_due (given_named c (list_args first) xs (codes "limit"))) limit_lawful (λ limit _.
          then_lawful _ (rows_due (given_named c (list_args first) xs (codes "offset"))) offset_lawful (λ offset _.
          then_lawful _ (distinct_due c u sorts (given_named c (list_args first) xs (codes "distinct_on"))) (distinct_lawful sorts) (λ distinct _. tt)))))

    -- the same of arguments that are those of a list
    pub list_lawful : (u : ℕ) (args : List ArgTree) → ((first : ℕ) × (args ≡ list_args first)) → Each (ArgFits types (list_target (Some u))) args
        → Each FineHere (arguments_nodes R (Some args) xs) → Lawful (list_due c args xs u)
    list_lawful u args is fit nodes =
        subst (λ (l : List ArgTree). Lawful (list_due c l xs u)) (sym is.1)
        (all_lawful u is.0 (subst (Each (ArgFits types (list_target (Some u)))) is.1 fit) (subst (λ (l : List ArgTree). Each FineHere (arguments_nodes R (Some l) xs)) is.1 nodes))

    -- ---- count

    count_here : (u first : ℕ) → Each (ArgFits types (count_target u)) (count_args first)
        → Each FineHere (arguments_nodes R (Some (count_args first)) xs) → Lawful (count_due c (count_args first) xs u)
    unfolding count_args
    count_here u first fit nodes =
        then_lawful _ (counted_due c (given_named c (count_args first) xs (codes "columns"))) (by (given_named c (count_args first) xs (codes "columns")) refl) (λ column _.
        then_lawful _ (flag_due (given_named c (count_args first) xs (codes "distinct")))
        (flag_lawful (count_args first) nodes (codes "distinct")
        (λ x e. let both : Some (arg (codes "distinct") (fixed boolean) stands.Distinct) ≡ Some x = e in let same : arg (codes "distinct") (fixed boolean) stands.Distinct ≡ x = cc in
        ap (λ (y : ArgTree). y.ty) (sym same))) (λ distinct _. counting_lawful tables m metadata_fits role schemed shaped vars u column distinct))
      where
        of_arg : (x : ArgTree) (j : JsonTree) → x ≡ arg (codes "columns") (items (part first Columns)) stands.Columns → coercion.is_null j ≡ false → IsOf R x.ty j
            → Lawful (by_columns c j (base x.ty) x.origin)
        of_arg x j is never h =
            subst (λ (x : ArgTree). Lawful (by_columns c j (base x.ty) x.origin)) (sym is)
            (then_lawful one_column (columns_due c (part_place first Columns) j)
            (columns_lawful tables m metadata_fits role schemed shaped vars (part_place first Columns) u fit.0.reaches j never (subst (λ (x : ArgTree). IsOf R x.ty j) is h))
            (λ cs e. one_lawful tables m metadata_fits role schemed shaped vars cs))

        by : (o : Option Given) → given_named c (count_args first) xs (codes "columns") ≡ o → Lawful (counted_due c o)
        by None is = tt
        by (Some g) is =
            let g_is = given_is R d reach vars (count_args first) xs nodes c refl (codes "columns") g is in
            let same : g.arg ≡ arg (codes "columns") (items (part first Columns)) stands.Columns =
            (let both : Some g.arg ≡ Some (arg (codes "columns") (items (part first Columns)) stands.Columns) = sym g_is.1 in cc) in
            of_arg g.arg g.value same g_is.0.not_null g_is.0.of

    pub count_lawful : (u : ℕ) (args : List ArgTree) → ((first : ℕ) × (args ≡ count_args first)) → Each (ArgFits types (count_target u)) args
        → Each FineHere (arguments_nodes R (Some args) xs) → Lawful (count_due c args xs u)
    count_lawful u args is fit nodes =
        subst (λ (l : List ArgTree). Lawful (count_due c l xs u)) (sym is.1)
        (count_here u is.0 (subst (Each (ArgFits types (count_target u))) is.1 fit) (subst (λ (l : List ArgTree). Each FineHere (arguments_nodes R (Some l) xs)) is.1 nodes))

    -- ---- introspection

    pub introspection_lawful : (args : List ArgTree) → Each (λ (x : ArgTree). x.ty ≡ fixed boolean) args → Each FineHere (arguments_nodes R (Some args) xs) → Lawful (introspection_due c args xs)
    introspection_lawful [] typed nodes = tt
    introspection_lawful (x ∷ args) typed nodes =
        mapped_lawful deprecated (flag_due (given_named c (x ∷ args) xs (codes "includeDeprecated")))
        (flag_lawful (x ∷ args) nodes (codes "includeDeprecated")
        (λ y e. (found_each (λ (z : ArgTree). z.ty ≡ fixed boolean) (λ (z : ArgTree). bytes_eq z.name (codes "includeDeprecated")) (x ∷ args) y e typed).0))

    -- ---- keys

    lacks_none : (args : List ArgTree) → lacks_any xs args ≡ false → Each (λ x. lacks xs x ≡ false) args
    lacks_none [] h = tt
    lacks_none (x ∷ args) h = let both = or_parts (lacks xs x) (lacks_any xs args) h in (both.0, lacks_none args both.1)

    part_lawful : (u : ℕ) (args : List ArgTree) → all_names_differ (map (λ (y : ArgTree). y.name) args) ≡ true → Each FineHere (arguments_nodes R (Some args) xs) → lacks_any xs args ≡ false
        → (k : ℕ) → KeyArg tables m role u args k → Lawful (part_due c args xs u k)
    part_lawful u args differ nodes lacking k h =
        let x : ArgTree = h.own in
        let known = differ_found (λ (y : ArgTree). is_for k y.origin) args x differ h.found in
        let strict : is_non_null x.ty ≡ true = ap is_non_null h.typed in
        let lacks_not = (found_each (λ y. lacks xs y ≡ false) (λ (y : ArgTree). is_for k y.origin) args x h.found (lacks_none args lacking)).0 in
        let g = required_given R d reach vars args xs nodes c refl x strict h.plain known lacks_not in
        let there : given_for c args xs k ≡ Some g.0 = ap (option_and_then (λ (y : ArgTree). option_and_then (given c y) (argument_named xs y.name))) h.found ∙ g.1 in
        let q : Ty = (column s u k).ty in
        let of : IsOf R (non_null (fixed (Scalar q))) g.0.value = subst (λ r. IsOf R r g.0.value) (ap (λ (y : ArgTree). y.ty) g.2 ∙ h.typed) g.3.of in
        let value = key_lawful q g.0.value g.3.not_null (scalar_is R q (scalar_at tables m metadata_fits role schemed shaped vars q) (non_null (fixed (Scalar q))) refl refl g.0.value of) in
        subst (λ (o : Option Given). Lawful (and_then (λ (g : Given). key_value q g.value) (ok_or o (Rule RequiredArguments)))) (sym there) value

    pub keys_lawful : (u : ℕ) (args : List ArgTree) → Each (KeyArg tables m role u args) (table s u).key → all_names_differ (map (λ (y : ArgTree). y.name) args) ≡ true
        → Each FineHere (arguments_nodes R (Some args) xs)
        → lacks_any xs args ≡ false → Lawful (key_due c args xs u)
    keys_lawful u args keys differ nodes lacking =
        each_lawful (part_due c args xs u) (table s u).key
        (each_weaken (KeyArg tables m role u args) (λ k. Lawful (part_due c args xs u k)) (λ k h. part_lawful u args differ nodes lacking k h) (table s u).key keys)
