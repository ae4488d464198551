-- What the arguments and inputs of a role's schema are like: their types, by what they stand for.
use Rattle.std.proofs.Common.{◌≡◌, ◌∙◌, refl, sym, ap, subst, ℕ, ◌+◌, ◌<◌, arith, List, [], ◌∷◌, ◌++◌, length, map, filter, find, flat_map, Bool, true, false, cond, not, ◌==◌, ◌||◌, Option, Some, None, option_map, option_and_then, slice_get, IfSome, eq-eqb, codes, get_or}
use Rattle.std.specs.List.{filter_map, list_all, list_any, cons_option}
use Rattle.std.specs.Option.{option_map_or}
use Rattle.std.proofs.lemmas.Bool.{eqb-true, or_left, or_right}
use Rattle.std.proofs.lemmas.Option.{slice_get_within, slice_get-get_or, get_or_from_slice_get}
use Rattle.hq_base.specs.Types.{is_ordered}
use Rattle.hq_base.specs.Lists.{Each, all_differ}
use Rattle.hq_base.proofs.Lists.{each_all, each_weaken, each_passes}
use Rattle.hq_base.specs.declared.aggregate.Aggregate.{Aggregate as OneAggregate}
use Rattle.hq_base.specs.declared.value.Ty.{Ty}
use Rattle.hq_model.specs.Filters.{column_ty}
use Rattle.hq_model.specs.Fits.{fits}
use Rattle.hq_model.specs.Meta.{MetaTree, TrackedTree, tracked_table}
use Rattle.hq_model.specs.Operators.{all_operators}
use Rattle.hq_model.specs.Permission.{Permission, permission}
use Rattle.hq_model.specs.Schema.{Schema, schema_of, table, column, no_column}
use Rattle.hq_model.specs.SchemaNames.{scalar_of}
use Rattle.hq_model.specs.Tests.{arity, applies}
use Rattle.hq_model.specs.declared.role.Role.{Role}
use Rattle.hq_model.specs.declared.table.Column.{Column}
use Rattle.hq_model.specs.declared.table.Table.{Table}
use Rattle.hq_model.proofs.Places.{table_present}
use Rattle.hq_schema.specs.Fixed.{all_fixed, fixed_place, boolean, string}
use Rattle.hq_schema.specs.Schema.{TypeRefTree, non_null, base, ArgTree, FieldTree, TypeTree}
use Rattle.hq_schema.specs.declared.fixed.Fixed.{Fixed}
use Rattle.hq_schema.specs.declared.fixed.Fixed.TheVariants.{Scalar, OrderBy, Comparison, Schema as SchemaType, «Type» as TypeType, Field, InputValue, EnumValue, Directive, TypeKind, DirectiveLocation, QueryRoot}
use Rattle.hq_schema.specs.declared.origin.ArgOrigin.{ArgOrigin}
use Rattle.hq_schema.specs.declared.origin.ArgOrigin.TheVariants as stands
use Rattle.hq_schema.specs.declared.origin.FieldOrigin.{FieldOrigin}
use Rattle.hq_schema.specs.declared.origin.FieldOrigin.TheVariants as field
use Rattle.hq_schema.specs.declared.origin.TypeOrigin.{TypeOrigin}
use Rattle.hq_schema.specs.declared.origin.TypeOrigin.TheVariants as type
use Rattle.hq_schema.specs.declared.part.Part.{Part}
use Rattle.hq_schema.specs.declared.part.Part.TheVariants.{Rows, Filter, Sort, Columns, Aggregate, AggregateFields, Aggregated}
use Rattle.hq_gql_nodes.specs.Known.{element_type, is_input}
use Rattle.hq_schema.specs.declared.schema.Kind.{Kind}
use Rattle.hq_schema_of_role.specs.Shown.{aggregates_over}
use Rattle.hq_schema_of_role.specs.Fields.{list_field, aggregate_field, list_args, count_args, column_type, column_field, column_fields, link_fields, aggregated_fields, part_fields}
use Rattle.hq_schema_of_role.specs.FixedTypes.{fixed_values, fixed_type, fixed_types}
use Rattle.hq_schema_of_role.specs.Inputs.{connectives, input_type, column_input, is_filter, link_input, inputs_of, part_inputs}
use Rattle.hq_schema_of_role.specs.Introspection.{introspection_fields}
use Rattle.hq_schema_of_role.specs.Operators.{value_type, operator_arg, is_operator_of, operator_inputs}
use Rattle.hq_schema_of_role.specs.Placed.{parts_of, placed, placed_from, part_count, links_from}
use Rattle.hq_schema_of_role.specs.References.{fixed, part, arg, plain_field}
use Rattle.hq_schema_of_role.specs.RoleSchema.{part_type, table_types, role_schema}
use Rattle.hq_schema_of_role.specs.Root.{key_arg, key_fields, aggregate_root, root_fields, query_fields}
use Rattle.hq_schema_of_role.specs.Scalars.{scalars_of, behind_scalars, scalar_type}
use Rattle.hq_schema_of_role.specs.Shown.{under_name, shown_columns, shown_table, shown_entry, shown_tables}
use Rattle.hq_schema_of_role.specs.declared.shown.Link.{Link}
use Rattle.hq_schema_of_role.specs.declared.shown.PlacedTable.{PlacedTable}
use Rattle.hq_schema_of_role.specs.declared.shown.ShownColumn.{ShownColumn}
use Rattle.hq_schema_of_role.specs.declared.shown.ShownTable.{ShownTable}
use Rattle.hq_schema_roles.specs.Access.{access_of}
use Rattle.hq_request_arguments.specs.Keys.{is_for, key_argument}
use Rattle.hq_laws_request.proofs.Built.Items.{each_append, each_filter_map, each_flat_map, each_map, each_of}
use Rattle.hq_laws_request.proofs.Built.Permitted.{column_typed, entry, entry_parts}
use Rattle.hq_laws_request.proofs.Built.Standing.{IsShown, tables_shown, placed_shown, firsts_are, none_new}
use Rattle.hq_laws_request.proofs.Built.BuildingSteps.{map_some}

-- ---- lists

-- items that come from items with a fact
each_mapped : {A B : Type 0} (P : B → Type 0) (Q : A → Type 0) (f : A → B) → ((x : A) → Q x → P (f x)) → (xs : List A) → Each Q xs → Each P (map f xs)
each_mapped P Q f step [] h = tt
each_mapped P Q f step (x ∷ xs) h = (step x h.0, each_mapped P Q f step xs h.1)

-- each number of a list is one of it
each_member : (xs : List ℕ) → Each (λ k. list_any (λ d. d == k) xs ≡ true) xs
each_member [] = tt
each_member (x ∷ xs) = (
  or_left (x == x) (list_any (λ d. d == x) xs) (eq-eqb x x refl),
  each_weaken (λ k. list_any (λ d. d == k) xs ≡ true) (λ k. list_any (λ d. d == k) (x ∷ xs) ≡ true)
      (λ k h. or_right (x == k) (list_any (λ d. d == k) xs) h) xs (each_member xs),
)

find_mapped : {A B : Type 0} (p : B → Bool) (f : A → B) (xs : List A) → find p (map f xs) ≡ option_map f (find (λ x. p (f x)) xs)
find_mapped p f [] = refl
find_mapped {A = A} {B = B} p f (x ∷ xs) = by (p (f x)) (find_mapped p f xs)
  where
    by : (b : Bool) → find p (map f xs) ≡ option_map f (find (λ x. p (f x)) xs) → cond b (Some (f x)) (find p (map f xs)) ≡ option_map f (cond b (Some x) (find (λ x. p (f x)) xs))
    by true later = refl
    by false later = later

-- ---- what arguments and inputs are like

-- the type of an operator's value
abbrev pub OperatorIs : Ty → ArgOrigin → TypeRefTree → Type 0
OperatorIs t (stands.Operator o) r = (applies o.test t ≡ true) × (r ≡ value_type t (arity o.test))
OperatorIs t o r = Unit {0}

-- a list of single values
abbrev pub ManyIs : TypeRefTree → Type 0
ManyIs r = (q : TypeRefTree) × (element_type r ≡ Some q) × (element_type q ≡ None)

-- a type that a field of introspection may have
abbrev pub is_looked : Fixed → Bool
is_looked OrderBy = false
is_looked (Comparison t) = false
is_looked QueryRoot = false
is_looked f = true

abbrev pub LooksAt : TypeRefTree → Type 0
LooksAt r = (f : Fixed) × (base r ≡ fixed_place f) × (is_looked f ≡ true)

-- the values of an enum, none of another type
abbrev pub ValuesAre : TypeOrigin → List (List ℕ) → Type 0
ValuesAre type.Directions vs = vs ≡ fixed_values OrderBy
ValuesAre (type.Filter t) vs = vs ≡ []
ValuesAre (type.Sort t) vs = vs ≡ []
ValuesAre (type.Comparison t) vs = vs ≡ []
ValuesAre o vs = Unit {0}

-- an enum is no input object
abbrev pub LeafKind : TypeOrigin → Kind → Type 0
LeafKind type.Directions k = is_input k ≡ false
LeafKind (type.Columns t) k = is_input k ≡ false
LeafKind o k = Unit {0}

module _ (tables : List Table) (m : MetaTree) (role : Role) where
  abbrev s : Schema
  s = schema_of tables m

  -- an input of the filters of table t
  abbrev pub FilterIs : (t : ℕ) → ArgOrigin → TypeRefTree → Type 0
  FilterIs t stands.And r = ManyIs r
  FilterIs t stands.Or r = ManyIs r
  FilterIs t (stands.Column k) r = r ≡ fixed (Comparison (column s t k).ty)
  FilterIs t o r = element_type r ≡ None

  abbrev pub InputIs : TypeOrigin → ArgTree → Type 0
  InputIs (type.Filter t) a = FilterIs t a.origin a.ty
  InputIs (type.Sort t) a = element_type a.ty ≡ None
  InputIs (type.Comparison t) a = OperatorIs t a.origin a.ty
  InputIs o a = Unit {0}

  -- the arguments of a look-up by key, one for each column of the key
  pub record KeyArg (u : ℕ) (args : List ArgTree) (k : ℕ) : Type 0 where
    pub own : ArgTree
    pub found : key_argument args k ≡ Some own
    pub typed : own.ty ≡ non_null (fixed (Scalar (column s u k).ty))
    pub plain : own.default_false ≡ false

  -- the arguments of a field, and the type of one of introspection
  abbrev pub FieldIs : FieldOrigin → List ArgTree → TypeRefTree → Type 0
  FieldIs (field.Rows u) args r = (first : ℕ) × (args ≡ list_args first)
  FieldIs (field.RowsAggregate u) args r = (first : ℕ) × (args ≡ list_args first)
  FieldIs (field.«List» x) args r = (first : ℕ) × (args ≡ list_args first)
  FieldIs (field.ListAggregate x) args r = (first : ℕ) × (args ≡ list_args first)
  FieldIs field.Count args r = (first : ℕ) × (args ≡ count_args first)
  FieldIs (field.RowByKey u) args r = Each (KeyArg u args) (table s u).key
  FieldIs field.Introspection args r = Each (λ (a : ArgTree). a.ty ≡ fixed boolean) args × LooksAt r
  FieldIs o args r = Unit {0}

  abbrev pub FieldShape : FieldTree → Type 0
  FieldShape f = FieldIs f.origin f.args f.ty

  pub record Shaped (d : TypeTree) : Type 0 where
    pub inputs : Each (InputIs d.origin) d.inputs
    pub plain : Each (λ (a : ArgTree). a.default_false ≡ false) d.inputs
    pub fields : Each FieldShape d.fields
    pub values : ValuesAre d.origin d.values
    pub kind : LeafKind d.origin d.kind

  -- ---- types of tables

  columns_shaped : (scalars : List (List ℕ)) (p : Part) (cs : List ShownColumn) → Each FieldShape (column_fields scalars p cs)
  columns_shaped scalars p cs =
      each_filter_map FieldShape (λ (c : ShownColumn). Unit {0}) (column_field scalars p) (λ c u. by c (column_type scalars p c)) cs
      (each_all (λ (c : ShownColumn). Unit {0}) (λ c. tt) cs)
    where
      by : (c : ShownColumn) (o : Option TypeRefTree) → IfSome (option_map (λ r. plain_field c.name r (field.Column c.col)) o) FieldShape
      by c None = tt
      by c (Some r) = tt

  link_shaped : (l : Link) → Each FieldShape (link_fields l)
  link_shaped l = by l.many l.aggregates
    where
      by : (b g : Bool) → Each FieldShape
          (cond b (list_field l.name l.first (field.«List» l.rel) ∷ cond g (aggregate_field (l.name ++ codes "_aggregate") l.first (field.ListAggregate l.rel) ∷ []) [])
          (plain_field l.name (part l.first Rows) (field.Object l.rel) ∷ []))
      by true true = ((l.first, refl), ((l.first, refl), tt))
      by true false = ((l.first, refl), tt)
      by false g = (tt, tt)

  aggregated_shaped : (place : ℕ) (gs : List OneAggregate) → Each FieldShape (aggregated_fields place gs)
  aggregated_shaped place [] = tt
  aggregated_shaped place (g ∷ gs) = (tt, aggregated_shaped (place + 1) gs)

  fields_shaped : (scalars : List (List ℕ)) (first : ℕ) (cs : List ShownColumn) (ls : List Link) (p : Part) → Each FieldShape (part_fields scalars first cs ls p)
  unfolding part_fields
  fields_shaped scalars first cs ls Rows = each_append FieldShape (column_fields scalars Rows cs) (flat_map link_fields ls) (columns_shaped scalars Rows cs)
      (each_flat_map FieldShape (λ (l : Link). Unit {0}) link_fields (λ l u. link_shaped l) ls (each_all (λ (l : Link). Unit {0}) (λ l. tt) ls))
  fields_shaped scalars first cs ls Filter = columns_shaped scalars Filter cs
  fields_shaped scalars first cs ls Sort = columns_shaped scalars Sort cs
  fields_shaped scalars first cs ls Columns = columns_shaped scalars Columns cs
  fields_shaped scalars first cs ls Aggregate = (tt, (tt, tt))
  fields_shaped scalars first cs ls AggregateFields = ((first, refl), aggregated_shaped (first + 6) (aggregates_over cs))
  fields_shaped scalars first cs ls (Aggregated g) = columns_shaped scalars (Aggregated g) cs

  links_shaped : (o : TypeOrigin) (p : Part) → ((l : Link) → InputIs o (arg l.name (part l.first p) (stands.Relationship l.rel))) → (ls : List Link) → Each (InputIs o) (filter_map (link_input p) ls)
  links_shaped o p step ls = each_filter_map (InputIs o) (λ (l : Link). Unit {0}) (link_input p) (λ l u. by l (is_filter p || not l.many)) ls (each_all (λ (l : Link). Unit {0}) (λ l. tt) ls)
    where
      by : (l : Link) (b : Bool) → IfSome (cond b (Some (arg l.name (part l.first p) (stands.Relationship l.rel))) None) (InputIs o)
      by l true = step l
      by l false = tt

  plain_links : (p : Part) (ls : List Link) → Each (λ (a : ArgTree). a.default_false ≡ false) (filter_map (link_input p) ls)
  plain_links p ls = each_filter_map (λ (a : ArgTree). a.default_false ≡ false) (λ (l : Link). Unit {0}) (link_input p) (λ l u. by l (is_filter p || not l.many)) ls
      (each_all (λ (l : Link). Unit {0}) (λ l. tt) ls)
    where
      by : (l : Link) (b : Bool) → IfSome (cond b (Some (arg l.name (part l.first p) (stands.Relationship l.rel))) None) (λ (a : ArgTree). a.default_false ≡ false)
      by l true = refl
      by l false = tt

  plain_inputs : (p : Part) (cs : List ShownColumn) (ls : List Link) → Each (λ (a : ArgTree). a.default_false ≡ false) (inputs_of p cs ls)
  plain_inputs p cs ls = each_append (λ (a : ArgTree). a.default_false ≡ false) (filter_map (column_input p) cs) (filter_map (link_input p) ls)
      (each_filter_map (λ (a : ArgTree). a.default_false ≡ false) (λ (c : ShownColumn). Unit {0}) (column_input p)
      (λ c u. by c (is_filter p || is_ordered c.ty)) cs (each_all (λ (c : ShownColumn). Unit {0}) (λ c. tt) cs))
      (plain_links p ls)
    where
      by : (c : ShownColumn) (b : Bool) → IfSome (cond b (Some (arg c.name (fixed (input_type p c.ty)) (stands.Column c.col))) None) (λ (a : ArgTree). a.default_false ≡ false)
      by c true = refl
      by c false = tt

  -- a column of the type that the catalog has
  typed_column : (t : ℕ) (c : ShownColumn) → column_ty s t c.col ≡ Some c.ty → c.ty ≡ (column s t c.col).ty
  typed_column t c typed =
      let found = map_some (λ (d : Column). d.ty) (slice_get (table s t).columns c.col) c.ty typed in
      sym found.2 ∙ ap (λ (d : Column). d.ty) (sym (get_or_from_slice_get (table s t).columns c.col found.0 no_column found.1))

  filter_shaped : (t first : ℕ) (cs : List ShownColumn) (ls : List Link) → Each (λ (c : ShownColumn). column_ty s t c.col ≡ Some c.ty) cs
      → Each (InputIs (type.Filter t)) (connectives first ++ inputs_of Filter cs ls)
  filter_shaped t first cs ls typed =
      each_append (InputIs (type.Filter t)) (connectives first) (inputs_of Filter cs ls) ((non_null (part first Filter), refl, refl), (refl, ((non_null (part first Filter), refl, refl), tt)))
      (each_append (InputIs (type.Filter t)) (filter_map (column_input Filter) cs) (filter_map (link_input Filter) ls)
      (each_filter_map (InputIs (type.Filter t)) (λ (c : ShownColumn). column_ty s t c.col ≡ Some c.ty) (column_input Filter) (λ c h. ap (λ q. fixed (Comparison q)) (typed_column t c h)) cs typed)
      (links_shaped (type.Filter t) Filter (λ l. refl) ls))

  sort_shaped : (t : ℕ) (cs : List ShownColumn) (ls : List Link) → Each (InputIs (type.Sort t)) (inputs_of Sort cs ls)
  sort_shaped t cs ls = each_append (InputIs (type.Sort t)) (filter_map (column_input Sort) cs) (filter_map (link_input Sort) ls)
      (each_filter_map (InputIs (type.Sort t)) (λ (c : ShownColumn). Unit {0}) (column_input Sort) (λ c u. by c (is_ordered c.ty)) cs
      (each_all (λ (c : ShownColumn). Unit {0}) (λ c. tt) cs))
      (links_shaped (type.Sort t) Sort (λ l. refl) ls)
    where
      by : (c : ShownColumn) (b : Bool) → IfSome (cond (false || b) (Some (arg c.name (fixed OrderBy) (stands.Column c.col))) None) (InputIs (type.Sort t))
      by c true = refl
      by c false = tt

  part_shaped : (scalars : List (List ℕ)) (p : PlacedTable) (ls : List Link) → IsShown tables m role p.shown → (q : Part) → Shaped (part_type scalars p ls q)
  unfolding part_type part_inputs
  part_shaped scalars p ls shown Rows = record { inputs = tt; plain = tt; fields = fields_shaped scalars p.first p.shown.columns ls Rows; values = tt; kind = tt }
  part_shaped scalars p ls shown Filter = record {
    inputs = filter_shaped p.shown.table p.first p.shown.columns ls shown.columns;
    plain = each_append (λ (a : ArgTree). a.default_false ≡ false) (connectives p.first) (inputs_of Filter p.shown.columns ls) (refl, (refl, (refl, tt))) (plain_inputs Filter p.shown.columns ls);
    fields = fields_shaped scalars p.first p.shown.columns ls Filter;
    values = refl;
    kind = tt;
  }
  part_shaped scalars p ls shown Sort = record
      { inputs = sort_shaped p.shown.table p.shown.columns ls; plain = plain_inputs Sort p.shown.columns ls; fields = fields_shaped scalars p.first p.shown.columns ls Sort; values = refl; kind = tt }
  part_shaped scalars p ls shown Columns = record { inputs = tt; plain = tt; fields = fields_shaped scalars p.first p.shown.columns ls Columns; values = tt; kind = refl }
  part_shaped scalars p ls shown Aggregate = record { inputs = tt; plain = tt; fields = fields_shaped scalars p.first p.shown.columns ls Aggregate; values = tt; kind = tt }
  part_shaped scalars p ls shown AggregateFields = record { inputs = tt; plain = tt; fields = fields_shaped scalars p.first p.shown.columns ls AggregateFields; values = tt; kind = tt }
  part_shaped scalars p ls shown (Aggregated g) = record { inputs = tt; plain = tt; fields = fields_shaped scalars p.first p.shown.columns ls (Aggregated g); values = tt; kind = tt }

  -- ---- keys

  -- a column of a key by its place, of its type
  pub record KeyColumn (u : ℕ) (key : List ShownColumn) (k : ℕ) : Type 0 where
    pub own : ShownColumn
    pub found : find (λ (x : ShownColumn). x.col == k) key ≡ Some own
    pub typed : own.ty ≡ (column s u k).ty

  -- the columns that are shown of a key are those of the catalog's
  abbrev pub KeyShown : ShownTable → Type 0
  KeyShown t = (key : List ShownColumn) → t.key ≡ Some key → Each (KeyColumn t.table key) (table s t.table).key

  -- what a column of a key is shown as
  record KeyNamed (u : ℕ) (shown : ℕ → Option ShownColumn) (c : ℕ) : Type 0 where
    own : ShownColumn
    is : shown c ≡ Some own
    place : own.col ≡ c
    typed : own.ty ≡ (column s u c).ty

  keys_found : (u : ℕ) (shown : ℕ → Option ShownColumn) (ks : List ℕ) → Each (KeyNamed u shown) ks → (k : ℕ) → list_any (λ d. d == k) ks ≡ true → KeyColumn u (filter_map shown ks) k
  keys_found u shown [] h k e = absurd cc
  keys_found u shown (c ∷ cs) h k e = by (c == k) refl e (λ g. keys_found u shown cs h.1 k g)
    where
      same_test : (h.0.own.col == k) ≡ (c == k)
      same_test = ap (λ n. n == k) h.0.place

      by : (b : Bool) → (c == k) ≡ b → (b || list_any (λ d. d == k) cs) ≡ true → (list_any (λ d. d == k) cs ≡ true → KeyColumn u (filter_map shown cs) k) → KeyColumn u (filter_map shown (c ∷ cs)) k
      by true is e again = record {
        own = h.0.own;
        found = ap (λ o. find (λ (y : ShownColumn). y.col == k) (cons_option o (filter_map shown cs))) h.0.is ∙ (rw (same_test ∙ is) refl);
        typed = h.0.typed ∙ ap (λ n. (column s u n).ty) (eqb-true c k is);
      }
      by false is e again =
          let later = again e in
          record {
            own = later.own;
            found = ap (λ o. find (λ (y : ShownColumn). y.col == k) (cons_option o (filter_map shown cs))) h.0.is ∙ (rw (same_test ∙ is) later.found);
            typed = later.typed;
          }

  module _ (metadata_fits : fits tables m ≡ true) where
    -- a permitted column of a table that is tracked has a name
    key_named : (k : TrackedTree) (t : Table) → tracked_table m k.table ≡ Some k → slice_get tables k.table ≡ Some t → (c : ℕ) → (access_of m role).column k.table c ≡ true
        → KeyNamed k.table (λ c. under_name [] c (slice_get t.columns c) (slice_get k.column_names c)) c
    key_named k t first here c permitted =
        let found = map_some (λ (d : Column). d.ty) (slice_get (table s k.table).columns c) (column s k.table c).ty (column_typed tables m metadata_fits role k.table c permitted) in
        let d : Column = found.0 in
        let at : slice_get t.columns c ≡ Some d = sym (ap (λ u. slice_get u.columns c) (table_present tables m k.table t here)) ∙ found.1 in
        let names : length k.column_names ≡ length (table s k.table).columns = eqb-true _ _ (entry_parts tables m metadata_fits k (entry tables m metadata_fits k.table k first).1).1 in
        let less : c < length (table s k.table).columns = slice_get_within (table s k.table).columns c d found.1 in
        let name : slice_get k.column_names c ≡ Some (get_or k.column_names c []) = slice_get-get_or k.column_names c [] (omega (arith, less, names)) in
        record {
          own = record { name = get_or k.column_names c []; ty = d.ty; scalar = scalar_of d; nullable = d.nullable; col = c };
          is = ap (λ o. under_name [] c o (slice_get k.column_names c)) at ∙ ap (under_name [] c (Some d)) name;
          place = refl;
          typed = found.2;
        }

    entry_key : (k : TrackedTree) → tracked_table m k.table ≡ Some k → IfSome (shown_entry tables m role k) KeyShown
    entry_key k first = by (slice_get tables k.table) (permission role m k.table) refl refl
      where
        all_shown : (t : Table) (p : Permission) → slice_get tables k.table ≡ Some t → permission role m k.table ≡ Some p → (key : List ShownColumn) → (b : Bool)
            → list_all (λ c. list_any (λ d. d == c) p.columns) t.key ≡ b
            → cond b (Some (shown_columns t k [] t.key)) None ≡ Some key → Each (KeyColumn k.table key) (table s k.table).key
        all_shown t p here granted key false all e = absurd cc
        all_shown t p here granted key true all e =
            let f : ℕ → Option ShownColumn = λ c. under_name [] c (slice_get t.columns c) (slice_get k.column_names c) in
            let permitted = each_of (λ c. list_any (λ d. d == c) p.columns) t.key all in
            let named : Each (KeyNamed k.table f) t.key =
            each_weaken (λ c. list_any (λ d. d == c) p.columns ≡ true) (KeyNamed k.table f)
            (λ c h. key_named k t first here c (ap (λ o. option_map_or (λ (q : Permission). list_any (λ d. d == c) q.columns) o false) granted ∙ h)) t.key permitted in
            let same : filter_map f t.key ≡ key = (let both : Some (filter_map f t.key) ≡ Some key = e in cc) in
            let keys : (table s k.table).key ≡ t.key = ap (λ u. u.key) (table_present tables m k.table t here) in
            subst (λ ks. Each (KeyColumn k.table ks) (table s k.table).key) same
            (subst (Each (KeyColumn k.table (filter_map f t.key))) (sym keys)
            (each_weaken (λ c. list_any (λ d. d == c) t.key ≡ true) (KeyColumn k.table (filter_map f t.key)) (λ c h. keys_found k.table f t.key named c h) t.key (each_member t.key)))

        by : (t : Option Table) (p : Option Permission) → slice_get tables k.table ≡ t → permission role m k.table ≡ p
            → IfSome (option_and_then (λ (t : Table). option_map (shown_table k t) p) t) KeyShown
        by None p here granted = tt
        by (Some t) None here granted = tt
        by (Some t) (Some p) here granted = λ key e. all_shown t p here granted key (list_all (λ c. list_any (λ d. d == c) p.columns) t.key) refl e

    -- the tables that the schema shows
    keys_shown : all_differ (λ (j k : TrackedTree). j.table == k.table) m.tracked ≡ true → Each KeyShown (shown_tables tables m role)
    keys_shown differ = each_filter_map KeyShown (λ (k : TrackedTree). tracked_table m k.table ≡ Some k) (shown_entry tables m role) entry_key m.tracked
        (firsts_are [] m.tracked differ (none_new m.tracked))

    placed_keys : (first : ℕ) (ts : List ShownTable) → Each KeyShown ts → Each (λ (p : PlacedTable). KeyShown p.shown) (placed_from first ts)
    placed_keys first [] h = tt
    placed_keys first (t ∷ ts) h = (h.0, placed_keys (first + part_count t) ts h.1)

    -- the arguments of a look-up
    key_args : (u : ℕ) (key : List ShownColumn) (k : ℕ) → KeyColumn u key k → KeyArg u (map key_arg key) k
    key_args u key k h = record {
      own = key_arg h.own;
      found = find_mapped (λ (x : ArgTree). is_for k x.origin) key_arg key ∙ ap (option_map key_arg) h.found;
      typed = ap (λ q. non_null (fixed (Scalar q))) h.typed;
      plain = refl;
    }

    root_shaped : (p : PlacedTable) → KeyShown p.shown → Each FieldShape (root_fields p)
    root_shaped p h = ((p.first, refl), each_append FieldShape (aggregate_root p) (key_fields p p.shown.key) (by p.shown.aggregates) (key p.shown.key refl))
      where
        by : (b : Bool) → Each FieldShape (cond b (aggregate_field p.shown.roots.select_aggregate p.first (field.RowsAggregate p.shown.table) ∷ []) [])
        by true = ((p.first, refl), tt)
        by false = tt

        key : (o : Option (List ShownColumn)) → p.shown.key ≡ o → Each FieldShape (key_fields p o)
        key None is = tt
        key (Some cs) is = (each_weaken (KeyColumn p.shown.table cs) (KeyArg p.shown.table (map key_arg cs)) (λ k g. key_args p.shown.table cs k g) (table s p.shown.table).key (h cs is), tt)

    query_shaped : (ps : List PlacedTable) → Each (λ (p : PlacedTable). KeyShown p.shown) ps → Each FieldShape (query_fields ps)
    query_shaped [] h = (tt, tt)
    query_shaped (p ∷ ps) h = each_flat_map FieldShape (λ (p : PlacedTable). KeyShown p.shown) root_fields root_shaped (p ∷ ps) h

    -- ---- types that each schema has

    fixed_shaped : (ps : List PlacedTable) → Each (λ (p : PlacedTable). KeyShown p.shown) ps → (f : Fixed) → Shaped (fixed_type ps f)
    unfolding fixed_type fixed_values introspection_fields operator_inputs
    fixed_shaped ps h (Scalar t) = record { inputs = tt; plain = tt; fields = tt; values = tt; kind = tt }
    fixed_shaped ps h OrderBy = record { inputs = tt; plain = tt; fields = tt; values = refl; kind = refl }
    fixed_shaped ps h (Comparison t) = record {
      inputs = each_mapped (InputIs (type.Comparison t)) (λ o. is_operator_of t o ≡ true) (operator_arg t) (λ o g. (g, refl)) (filter (is_operator_of t) all_operators)
          (each_passes (is_operator_of t) all_operators);
      plain = each_map (λ (a : ArgTree). a.default_false ≡ false) (operator_arg t) (λ o. refl) (filter (is_operator_of t) all_operators);
      fields = tt;
      values = refl;
      kind = tt;
    }
    fixed_shaped ps h SchemaType = record {
      inputs = tt;
      plain = tt;
      fields = (
        (tt, (string, refl, refl)),
        ((tt, (TypeType, refl, refl)), ((tt, (TypeType, refl, refl)), ((tt, (TypeType, refl, refl)), ((tt, (TypeType, refl, refl)), ((tt, (Directive, refl, refl)), tt))))),
      );
      values = tt;
      kind = tt;
    }
    fixed_shaped ps h TypeType = record {
      inputs = tt;
      plain = tt;
      fields = (
        (tt, (TypeKind, refl, refl)),
        (
          (tt, (string, refl, refl)),
          (
            (tt, (string, refl, refl)),
            (
              (tt, (string, refl, refl)),
              (
                ((refl, tt), (Field, refl, refl)),
                ((tt, (TypeType, refl, refl)), ((tt, (TypeType, refl, refl)), (((refl, tt), (EnumValue, refl, refl)), ((tt, (InputValue, refl, refl)), ((tt, (TypeType, refl, refl)), tt))))),
              ),
            ),
          ),
        ),
      );
      values = tt;
      kind = tt;
    }
    fixed_shaped ps h Field = record {
      inputs = tt;
      plain = tt;
      fields = (
        (tt, (string, refl, refl)),
        ((tt, (string, refl, refl)), ((tt, (InputValue, refl, refl)), ((tt, (TypeType, refl, refl)), ((tt, (boolean, refl, refl)), ((tt, (string, refl, refl)), tt))))),
      );
      values = tt;
      kind = tt;
    }
    fixed_shaped ps h InputValue = record
        { inputs = tt; plain = tt; fields = ((tt, (string, refl, refl)), ((tt, (string, refl, refl)), ((tt, (TypeType, refl, refl)), ((tt, (string, refl, refl)), tt)))); values = tt; kind = tt }
    fixed_shaped ps h EnumValue = record
        { inputs = tt; plain = tt; fields = ((tt, (string, refl, refl)), ((tt, (string, refl, refl)), ((tt, (boolean, refl, refl)), ((tt, (string, refl, refl)), tt)))); values = tt; kind = tt }
    fixed_shaped ps h Directive = record {
      inputs = tt;
      plain = tt;
      fields =
          ((tt, (string, refl, refl)), ((tt, (string, refl, refl)), ((tt, (boolean, refl, refl)), ((tt, (DirectiveLocation, refl, refl)), ((tt, (InputValue, refl, refl)), tt)))));
      values =
          tt;
      kind = tt;
    }
    fixed_shaped ps h TypeKind = record { inputs = tt; plain = tt; fields = tt; values = tt; kind = tt }
    fixed_shaped ps h DirectiveLocation = record { inputs = tt; plain = tt; fields = tt; values = tt; kind = tt }
    fixed_shaped ps h QueryRoot = record { inputs = tt; plain = tt; fields = query_shaped ps h; values = tt; kind = tt }

    scalar_shaped : (name : List ℕ) → Shaped (scalar_type name)
    unfolding scalar_type
    scalar_shaped name = record { inputs = tt; plain = tt; fields = tt; values = tt; kind = tt }

    -- all types of the schema
    pub types_shaped : all_differ (λ (j k : TrackedTree). j.table == k.table) m.tracked ≡ true → Each Shaped (role_schema tables m role).types
    unfolding role_schema
    types_shaped differ =
        let ts : List ShownTable = shown_tables tables m role in
        let scalars : List (List ℕ) = scalars_of ts in
        let ps : List PlacedTable = placed ts in
        each_append Shaped (fixed_types ps ++ map scalar_type scalars) (flat_map (table_types scalars ps) ps)
        (each_append Shaped (fixed_types ps) (map scalar_type scalars)
        (each_map Shaped (fixed_type ps) (fixed_shaped ps (placed_keys (behind_scalars scalars) ts (keys_shown differ))) all_fixed)
        (each_map Shaped scalar_type scalar_shaped scalars))
        (each_flat_map Shaped (λ (p : PlacedTable). IsShown tables m role p.shown) (table_types scalars ps)
        (λ p shown. each_map Shaped (part_type scalars p (links_from ps 0 p.shown.rels)) (part_shaped scalars p (links_from ps 0 p.shown.rels) shown) (parts_of p.shown)) ps
        (placed_shown tables m role (behind_scalars scalars) ts (tables_shown tables m role differ)))
