-- What is found in a schema in other numbers is what is found in the schema, in those numbers.
use Rattle.std.proofs.Common.{◌≡◌, ◌∙◌, refl, sym, ap, subst, ℕ, ◌==◌, ◌||◌, List, [], ◌∷◌, map, Bool, true, false, cond, Option, Some, None, is_some, option_map, option_and_then, slice_get, position, bytes_eq, codes}
use Rattle.std.specs.Option.{option_or}
use Rattle.std.proofs.lemmas.Bool.{eqb-true}
use Rattle.std.proofs.lemmas.Option.{slice_get-map}
use Rattle.hq_base.specs.Lists.{Each}
use Rattle.hq_model.specs.Schema.{Schema}
use Rattle.hq_gql_nodes.specs.Known.{is_object, object_at, known_field, meta_field}
use Rattle.hq_gql_tree.specs.Selections.{FieldHead}
use Rattle.hq_schema.specs.Look.{arg_in, field_in, field_of, input_field_of, enum_column_of}
use Rattle.hq_schema.specs.Schema.{base, ArgTree, FieldTree, TypeTree, SchemaTree}
use Rattle.hq_schema.specs.declared.origin.TypeOrigin.{TypeOrigin}
use Rattle.hq_schema.specs.declared.origin.TypeOrigin.TheVariants as type
use Rattle.hq_schema_of_role.specs.Root.{type_name_field, schema_field, type_field}
use Rattle.hq_schema_roles.specs.Access.{Access}
use Rattle.hq_schema_roles.specs.Leads.{ArgFits, FieldFits, TypeFits, ColumnsFit, input_target}
use Rattle.hq_request_build.specs.KnownField.{is_complete, name_of_type, type_name_due}
use Rattle.hq_laws_renumbered.specs.Resolving.Renumbering.{Renumbering}
use Rattle.hq_laws_renumbered.specs.Schemas.SchemaOver.{arg_over, field_over, type_table, type_over, schema_over}
use Rattle.hq_laws_renumbered.specs.Requests.OfRole.{At, IsOfSeen, LooksUp, LeadsToPlain, Introspects, IsOfRole}
use Rattle.hq_laws_renumbered.proofs.Requests.Items.{find_map, each_at, found_each, option_some}

-- fields that stand in no type's list
module _ (s : Schema) (a : Access) (r : SchemaTree) (of_role : IsOfRole s a r) where
  -- where these are the name of a type and those of the root
  abbrev beside : (place : ℕ) (name : List ℕ) → FieldTree → List FieldTree → Option FieldTree
  beside place name tn fs = cond (bytes_eq tn.name name) (Some tn) (cond (place == r.query) (field_in fs name) None)

  beside_is : (place : ℕ) (name : List ℕ) → meta_field r place name ≡ beside place name type_name_field (schema_field ∷ type_field ∷ [])
  beside_is place name = ap (λ tn. beside place name tn r.introspection) of_role.type_name ∙ ap (beside place name type_name_field) of_role.introspection

module _ (n : Renumbering) (r : SchemaTree) where
  -- ---- types

  pub name_over : (place : ℕ) (h : FieldHead) → type_name_due (schema_over n r) place h ≡ type_name_due r place h
  name_over place h = ap (name_of_type h) (slice_get-map (type_over n) r.types place) ∙ go (slice_get r.types place)
    where
      go : (o : Option TypeTree) → name_of_type h (option_map (type_over n) o) ≡ name_of_type h o
      go None = refl
      go (Some d) = refl

  object_over : (place : ℕ) → object_at (schema_over n r) place ≡ object_at r place
  object_over place = ap (option_and_then (λ (d : TypeTree). cond (is_object d.kind) (Some place) None)) (slice_get-map (type_over n) r.types place) ∙ go (slice_get r.types place)
    where
      go : (o : Option TypeTree)
          → option_and_then (λ (d : TypeTree). cond (is_object d.kind) (Some place) None) (option_map (type_over n) o)
          ≡ option_and_then (λ (d : TypeTree). cond (is_object d.kind) (Some place) None) o
      go None = refl
      go (Some d) = refl

  pub complete_over : (t : ℕ) (f : FieldTree) (empty : Bool) → is_complete (schema_over n r) (field_over n t f) empty ≡ is_complete r f empty
  complete_over t f empty = ap (λ o. empty || is_some o) (object_over (base f.ty))

  -- ---- inputs and values

  pub input_over : (place : ℕ) (o : TypeOrigin) → At r.types place o → (name : List ℕ)
      → input_field_of (schema_over n r) place name ≡ option_map (arg_over n (type_table o)) (input_field_of r place name)
  input_over place o at name = ap (option_and_then (λ (d : TypeTree). arg_in d.inputs name)) (slice_get-map (type_over n) r.types place) ∙ go (slice_get r.types place) at
    where
      go : (x : Option TypeTree) → option_map (λ (d : TypeTree). d.origin) x ≡ Some o
          → option_and_then (λ (d : TypeTree). arg_in d.inputs name) (option_map (type_over n) x) ≡ option_map (arg_over n (type_table o)) (option_and_then (λ (d : TypeTree). arg_in d.inputs name) x)
      go None e = refl
      go (Some d) e =
          let same : d.origin ≡ o = cc in
          find_map (λ (a : ArgTree). bytes_eq a.name name) (arg_over n (type_table d.origin)) d.inputs ∙ ap (λ u. option_map (arg_over n (type_table u)) (arg_in d.inputs name)) same

  pub column_over : (place t : ℕ) → At r.types place (type.Columns t) → (name : List ℕ) → enum_column_of (schema_over n r) place name ≡ option_map (n.column t) (enum_column_of r place name)
  column_over place t at name =
      ap (option_and_then (λ (d : TypeTree). option_and_then (slice_get d.columns) (position (λ v. bytes_eq v name) d.values)))
      (slice_get-map (type_over n) r.types place)
      ∙ go (slice_get r.types place) at
    where
      value : (d : TypeTree) (u : ℕ) (o : Option ℕ) → option_and_then (slice_get (map (n.column u) d.columns)) o ≡ option_map (n.column u) (option_and_then (slice_get d.columns) o)
      value d u None = refl
      value d u (Some i) = slice_get-map (n.column u) d.columns i

      go : (x : Option TypeTree) → option_map (λ (d : TypeTree). d.origin) x ≡ Some (type.Columns t)
          → option_and_then (λ (d : TypeTree). option_and_then (slice_get d.columns) (position (λ v. bytes_eq v name) d.values)) (option_map (type_over n) x)
          ≡ option_map (n.column t) (option_and_then (λ (d : TypeTree). option_and_then (slice_get d.columns) (position (λ v. bytes_eq v name) d.values)) x)
      go None e = refl
      go (Some d) e =
          let same : d.origin ≡ type.Columns t = cc in
          value d (type_table d.origin) (position (λ v. bytes_eq v name) d.values)
          ∙ ap (λ u. option_map (n.column (type_table u)) (option_and_then (slice_get d.columns) (position (λ v. bytes_eq v name) d.values))) same

  -- ---- fields

  own_field_over : (place : ℕ) (o : TypeOrigin) → At r.types place o → (name : List ℕ) → field_of (schema_over n r) place name ≡ option_map (field_over n (type_table o)) (field_of r place name)
  own_field_over place o at name = ap (option_and_then (λ (d : TypeTree). field_in d.fields name)) (slice_get-map (type_over n) r.types place) ∙ go (slice_get r.types place) at
    where
      go : (x : Option TypeTree) → option_map (λ (d : TypeTree). d.origin) x ≡ Some o
          → option_and_then (λ (d : TypeTree). field_in d.fields name) (option_map (type_over n) x)
          ≡ option_map (field_over n (type_table o)) (option_and_then (λ (d : TypeTree). field_in d.fields name) x)
      go None e = refl
      go (Some d) e =
          let same : d.origin ≡ o = cc in
          find_map (λ (f : FieldTree). bytes_eq f.name name) (field_over n (type_table d.origin)) d.fields ∙ ap (λ u. option_map (field_over n (type_table u)) (field_in d.fields name)) same

  module _ (s : Schema) (a : Access) (of_role : IsOfRole s a r) where
    beside_over : (t place : ℕ) (name : List ℕ) → option_map (field_over n t) (meta_field r place name) ≡ meta_field r place name
    beside_over t place name =
        ap (option_map (field_over n t)) (beside_is s a r of_role place name)
        ∙ go (bytes_eq (codes "__typename") name) (place == r.query) (bytes_eq (codes "__schema") name) (bytes_eq (codes "__type") name)
        ∙ sym (beside_is s a r of_role place name)
      where
        go : (b at_root c d : Bool) → option_map (field_over n t) (cond b (Some type_name_field) (cond at_root (cond c (Some schema_field) (cond d (Some type_field) None)) None))
            ≡ cond b (Some type_name_field) (cond at_root (cond c (Some schema_field) (cond d (Some type_field) None)) None)
        go true at_root c d = refl
        go false false c d = refl
        go false true true d = refl
        go false true false true = refl
        go false true false false = refl

    pub field_found_over : (place : ℕ) (o : TypeOrigin) → At r.types place o → (name : List ℕ)
        → known_field (schema_over n r) (Some place) name ≡ option_map (field_over n (type_table o)) (known_field r (Some place) name)
    field_found_over place o at name =
        ap (λ x. option_or x (meta_field r place name)) (own_field_over place o at name)
        ∙ ap (option_or (option_map (field_over n (type_table o)) (field_of r place name))) (sym (beside_over (type_table o) place name))
        ∙ go (field_of r place name) (meta_field r place name)
      where
        go : (x y : Option FieldTree) → option_or (option_map (field_over n (type_table o)) x) (option_map (field_over n (type_table o)) y) ≡ option_map (field_over n (type_table o)) (option_or x y)
        go None y = refl
        go (Some f) y = refl

-- ---- what is known of what is found

module _ (s : Schema) (a : Access) (r : SchemaTree) (of_role : IsOfRole s a r) where
  -- the type at a place
  pub record TypeIs (place : ℕ) (o : TypeOrigin) : Type 0 where
    pub type : TypeTree
    pub here : slice_get r.types place ≡ Some type
    pub means : type.origin ≡ o

  pub type_is : (place : ℕ) (o : TypeOrigin) → At r.types place o → TypeIs place o
  type_is place o at = go (slice_get r.types place) refl at
    where
      go : (x : Option TypeTree) → slice_get r.types place ≡ x → option_map (λ (d : TypeTree). d.origin) x ≡ Some o → TypeIs place o
      go None is e = cc
      go (Some d) is e = let same : d.origin ≡ o = cc in record { type = d; here = is; means = same }

  pub type_seen : (place : ℕ) (o : TypeOrigin) → At r.types place o → IsOfSeen a o
  type_seen place o at = let is = type_is place o at in subst (IsOfSeen a) is.means (each_at (λ (d : TypeTree). IsOfSeen a d.origin) r.types place is.type is.here of_role.seen)

  -- a field of a type
  pub record IsField (o : TypeOrigin) (f : FieldTree) : Type 0 where
    pub fits : FieldFits r.types a o f
    pub looks_up : LooksUp s a f.origin
    pub introspects : o ≡ type.Introspection → LeadsToPlain r.types f.ty

  -- a field that is found at a place: one of its type, or one that stands in no type's list
  pub data Found (place : ℕ) (o : TypeOrigin) (f : FieldTree) : Type 0 where
    own : IsField o f → Found place o f
    of_type_name : f ≡ type_name_field → Found place o f
    of_schema : place ≡ r.query → f ≡ schema_field → Found place o f
    of_type : place ≡ r.query → f ≡ type_field → Found place o f

  beside_found : (place : ℕ) (o : TypeOrigin) (name : List ℕ) (f : FieldTree) → meta_field r place name ≡ Some f → Found place o f
  beside_found place o name f e =
      go (bytes_eq (codes "__typename") name) (place == r.query) refl (bytes_eq (codes "__schema") name) (bytes_eq (codes "__type") name)
      (sym (beside_is s a r of_role place name) ∙ e)
    where
      go : (b at_root : Bool) → (place == r.query) ≡ at_root → (c d : Bool)
          → cond b (Some type_name_field) (cond at_root (cond c (Some schema_field) (cond d (Some type_field) None)) None) ≡ Some f
          → Found place o f
      go true at_root root c d e = let same : type_name_field ≡ f = cc in of_type_name (sym same)
      go false false root c d e = cc
      go false true root true d e = let same : schema_field ≡ f = cc in of_schema (eqb-true place r.query root) (sym same)
      go false true root false true e = let same : type_field ≡ f = cc in of_type (eqb-true place r.query root) (sym same)
      go false true root false false e = cc

  pub field_found : (place : ℕ) (o : TypeOrigin) (name : List ℕ) (f : FieldTree) → At r.types place o → known_field r (Some place) name ≡ Some f → Found place o f
  field_found place o name f at e = go (field_of r place name) refl e
    where
      is : TypeIs place o
      is = type_is place o at

      introspects : (d : TypeOrigin) (fs : List FieldTree) (g : FieldTree) → Introspects r.types d fs → field_in fs name ≡ Some g → d ≡ type.Introspection → LeadsToPlain r.types g.ty
      introspects d fs g h inside same =
          let all : Introspects r.types type.Introspection fs = subst (λ q. Introspects r.types q fs) same h in
          (found_each (λ (x : FieldTree). LeadsToPlain r.types x.ty) (λ (x : FieldTree). bytes_eq x.name name) fs g inside all).0

      mine : (g : FieldTree) → field_of r place name ≡ Some g → IsField o g
      mine g e =
          let d : TypeTree = is.type in
          let inside : field_in d.fields name ≡ Some g = ap (option_and_then (λ (t : TypeTree). field_in t.fields name)) (sym is.here) ∙ e in
          let fit = (each_at (TypeFits r.types a) r.types place d is.here of_role.fit).fields in
          let keys = each_at (λ (d : TypeTree). Each (λ (f : FieldTree). LooksUp s a f.origin) d.fields) r.types place d is.here of_role.keys in
          let plain = each_at (λ (d : TypeTree). Introspects r.types d.origin d.fields) r.types place d is.here of_role.introspects in
          record {
            fits = subst (λ q. FieldFits r.types a q g) is.means (found_each (FieldFits r.types a d.origin) (λ (x : FieldTree). bytes_eq x.name name) d.fields g inside fit).0;
            looks_up = (found_each (λ (f : FieldTree). LooksUp s a f.origin) (λ (x : FieldTree). bytes_eq x.name name) d.fields g inside keys).0;
            introspects = λ same. introspects d.origin d.fields g plain inside (is.means ∙ same);
          }

      go : (x : Option FieldTree) → field_of r place name ≡ x → option_or x (meta_field r place name) ≡ Some f → Found place o f
      go (Some g) is e = let same : g ≡ f = cc in own (mine f (is ∙ ap Some same))
      go None is e = beside_found place o name f e

  -- the root's type is no table's
  pub root_is : (place : ℕ) (o : TypeOrigin) → place ≡ r.query → At r.types place o → type.Query ≡ o
  root_is place o same at = let both : Some type.Query ≡ Some o = sym of_role.root ∙ ap (λ p. option_map (λ (d : TypeTree). d.origin) (slice_get r.types p)) (sym same) ∙ at in cc

  pub input_found : (place : ℕ) (o : TypeOrigin) (name : List ℕ) (x : ArgTree) → At r.types place o → input_field_of r place name ≡ Some x → ArgFits r.types (input_target a o) x
  input_found place o name x at e =
      let is = type_is place o at in
      let d : TypeTree = is.type in
      let inside : arg_in d.inputs name ≡ Some x = ap (option_and_then (λ (t : TypeTree). arg_in t.inputs name)) (sym is.here) ∙ e in
      subst (λ q. ArgFits r.types (input_target a q) x) is.means
      (found_each (ArgFits r.types (input_target a d.origin)) (λ (y : ArgTree). bytes_eq y.name name) d.inputs x inside (each_at (TypeFits r.types a) r.types place d is.here of_role.fit).inputs).0

  -- the columns of a table's enum are permitted
  pub column_found : (place t : ℕ) (name : List ℕ) (c : ℕ) → At r.types place (type.Columns t) → enum_column_of r place name ≡ Some c → a.column t c ≡ true
  column_found place t name c at e =
      let is = type_is place (type.Columns t) at in
      let d : TypeTree = is.type in
      let inside : option_and_then (slice_get d.columns) (position (λ v. bytes_eq v name) d.values) ≡ Some c =
      ap (option_and_then (λ (d : TypeTree). option_and_then (slice_get d.columns) (position (λ v. bytes_eq v name) d.values))) (sym is.here) ∙ e in
      let found = option_some (slice_get d.columns) (position (λ v. bytes_eq v name) d.values) c inside in
      let fit : ColumnsFit a (type.Columns t) d.columns d.values = subst (λ q. ColumnsFit a q d.columns d.values) is.means (each_at (TypeFits r.types a) r.types place d is.here of_role.fit).columns in
      each_at (λ c. a.column t c ≡ true) d.columns found.0 c found.2 fit.0
