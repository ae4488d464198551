-- The fields, arguments and inputs that are found at a place of a role's schema, by what the type there stands for.
use Rattle.std.proofs.Common.{◌≡◌, ◌∙◌, refl, sym, ap, subst, ℕ, List, [], ◌∷◌, Bool, true, false, cond, ◌==◌, Option, Some, None, option_map, option_and_then, slice_get, bytes_eq, codes}
use Rattle.std.specs.Option.{option_or}
use Rattle.std.proofs.lemmas.Bool.{eqb-true}
use Rattle.hq_model.proofs.Names.{names_equal}
use Rattle.hq_base.specs.Lists.{Each}
use Rattle.hq_model.specs.Meta.{MetaTree}
use Rattle.hq_model.specs.declared.role.Role.{Role}
use Rattle.hq_model.specs.declared.table.Table.{Table}
use Rattle.hq_schema.specs.Look.{arg_in, field_in, field_of, input_field_of}
use Rattle.hq_schema.specs.Schema.{ArgTree, FieldTree, TypeTree, SchemaTree}
use Rattle.hq_schema.specs.declared.origin.TypeOrigin.{TypeOrigin}
use Rattle.hq_schema.specs.declared.origin.TypeOrigin.TheVariants as type
use Rattle.hq_schema_of_role.specs.FixedTypes.{fixed_type}
use Rattle.hq_schema_of_role.specs.RoleSchema.{role_schema}
use Rattle.hq_schema_of_role.specs.Root.{type_name_field, schema_field, type_field}
use Rattle.hq_schema_roles.specs.Access.{Access, access_of}
use Rattle.hq_schema_roles.specs.Leads.{ArgFits, FieldFits, TypeFits, input_target}
use Rattle.hq_gql_nodes.specs.Known.{known_field, meta_field}
use Rattle.hq_laws_request.proofs.Built.Items.{each_at, found_each}
use Rattle.hq_laws_request.proofs.Built.BuildingSteps.{map_some}

-- a type of this meaning stands at the place
abbrev pub At : List TypeTree → (place : ℕ) → TypeOrigin → Type 0
At types place o = option_map (λ (t : TypeTree). t.origin) (slice_get types place) ≡ Some o

-- what all types of the schema of a role have
pub record Schemed (tables : List Table) (m : MetaTree) (role : Role) : Type 0 where
  pub fit : Each (TypeFits (role_schema tables m role).types (access_of m role)) (role_schema tables m role).types

module _ (tables : List Table) (m : MetaTree) (role : Role) (schemed : Schemed tables m role) where
  abbrev R : SchemaTree
  R = role_schema tables m role

  abbrev types : List TypeTree
  types = R.types

  abbrev a : Access
  a = access_of m role

  -- the type at a place
  pub record TypeIs (place : ℕ) (o : TypeOrigin) : Type 0 where
    pub type : TypeTree
    pub here : slice_get types place ≡ Some type
    pub means : type.origin ≡ o

  pub type_is : (place : ℕ) (o : TypeOrigin) → At types place o → TypeIs place o
  type_is place o at = let found = map_some (λ (t : TypeTree). t.origin) (slice_get types place) o at in record { type = found.0; here = found.1; means = found.2 }

  -- ---- fields

  -- a field of a type
  pub record IsField (o : TypeOrigin) (f : FieldTree) : Type 0 where
    pub fits : FieldFits types a o f

  -- a field that is found at a place: one of its type, or one that stands in no type's list
  pub data Found (place : ℕ) (o : TypeOrigin) (name : List ℕ) (f : FieldTree) : Type 0 where
    own : IsField o f → Found place o name f
    type_name : f ≡ type_name_field → Found place o name f
    of_schema : place ≡ 19 → f ≡ schema_field → name ≡ codes "__schema" → Found place o name f
    of_type : place ≡ 19 → f ≡ type_field → name ≡ codes "__type" → Found place o name f

  meta_found : (place : ℕ) (o : TypeOrigin) (name : List ℕ) (f : FieldTree) → meta_field R place name ≡ Some f → Found place o name f
  unfolding role_schema
  meta_found place o name f e = by (bytes_eq (codes "__typename") name) e
    where
      third : (b : Bool) → bytes_eq (codes "__type") name ≡ b → place ≡ 19 → cond b (Some type_field) None ≡ Some f → Found place o name f
      third true is at e = let same : type_field ≡ f = cc in of_type at (sym same) (sym (names_equal (codes "__type") name is))
      third false is at e = cc

      second : (b : Bool) → bytes_eq (codes "__schema") name ≡ b → place ≡ 19 → cond b (Some schema_field) (cond (bytes_eq (codes "__type") name) (Some type_field) None) ≡ Some f
          → Found place o name f
      second true is at e = let same : schema_field ≡ f = cc in of_schema at (sym same) (sym (names_equal (codes "__schema") name is))
      second false is at e = third (bytes_eq (codes "__type") name) refl at e

      at_root : (b : Bool) → (place == 19) ≡ b → cond b (field_in (schema_field ∷ type_field ∷ []) name) None ≡ Some f → Found place o name f
      at_root true is e = second (bytes_eq (codes "__schema") name) refl (eqb-true place 19 is) e
      at_root false is e = cc

      by : (b : Bool) → cond b (Some type_name_field) (cond (place == 19) (field_in (schema_field ∷ type_field ∷ []) name) None) ≡ Some f → Found place o name f
      by true e = let same : type_name_field ≡ f = cc in type_name (sym same)
      by false e = at_root (place == 19) refl e

  pub field_found : (place : ℕ) (o : TypeOrigin) (name : List ℕ) (f : FieldTree) → At types place o → known_field R (Some place) name ≡ Some f → Found place o name f
  field_found place o name f at e = by (field_of R place name) refl e
    where
      is : TypeIs place o
      is = type_is place o at

      mine : (g : FieldTree) → field_of R place name ≡ Some g → IsField o g
      mine g e =
          let d : TypeTree = is.type in
          let inside : field_in d.fields name ≡ Some g = ap (option_and_then (λ (t : TypeTree). field_in t.fields name)) (sym is.here) ∙ e in
          let fit = (each_at (TypeFits types a) types place d is.here schemed.fit).fields in
          record {
            fits = subst (λ q. FieldFits types a q g) is.means (found_each (FieldFits types a d.origin) (λ (x : FieldTree). bytes_eq x.name name) d.fields g inside fit).0;
          }

      by : (r : Option FieldTree) → field_of R place name ≡ r → option_or r (meta_field R place name) ≡ Some f → Found place o name f
      by (Some g) is e = let same : g ≡ f = cc in own (mine f (is ∙ ap Some same))
      by None is e = meta_found place o name f e

  -- the root type
  pub root_at : At types R.query type.Query
  unfolding role_schema fixed_type
  root_at = refl

  at_19 : At types 19 type.Query
  unfolding role_schema fixed_type
  at_19 = refl

  pub root_is : (o : TypeOrigin) → At types 19 o → type.Query ≡ o
  root_is o at = let same : Some type.Query ≡ Some o = sym at_19 ∙ at in cc

  -- ---- inputs

  pub input_found : (place : ℕ) (o : TypeOrigin) (name : List ℕ) (x : ArgTree) → At types place o → input_field_of R place name ≡ Some x → ArgFits types (input_target a o) x
  input_found place o name x at e =
      let is = type_is place o at in
      let d : TypeTree = is.type in
      let inside : arg_in d.inputs name ≡ Some x = ap (option_and_then (λ (t : TypeTree). arg_in t.inputs name)) (sym is.here) ∙ e in
      subst (λ q. ArgFits types (input_target a q) x) is.means
      (found_each (ArgFits types (input_target a d.origin)) (λ (y : ArgTree). bytes_eq y.name name) d.inputs x inside (each_at (TypeFits types a) types place d is.here schemed.fit).inputs).0
