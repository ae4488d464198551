-- The columns that the enum of a table's columns names, and the values of a key: all are permitted, and values are of their
-- columns' types.
use Rattle.std.proofs.Common.{◌≡◌, ◌∙◌, refl, ap, subst, ℕ, List, [], ◌∷◌, Bool, true, false, cond, ◌==◌, Option, Some, None, Ok, Err, ok_or, slice_get, option_and_then}
use Rattle.std.specs.List.{list_all}
use Rattle.std.proofs.lemmas.Bool.{and_from, eqb-true, false≢true}
use Rattle.hq_base.specs.Due.{mapped}
use Rattle.hq_base.specs.Json.{JsonTree}
use Rattle.hq_base.specs.Lists.{Each}
use Rattle.hq_base.specs.Look.{str_in}
use Rattle.hq_base.specs.declared.value.Val.{Val}
use Rattle.hq_model.specs.Filters.{column_ty, constant_fits, of_type}
use Rattle.hq_model.specs.Fits.{fits}
use Rattle.hq_model.specs.Meta.{MetaTree}
use Rattle.hq_model.specs.Schema.{Schema, schema_of, column}
use Rattle.hq_model.specs.Selected.{SortKey}
use Rattle.hq_model.specs.declared.role.Role.{Role}
use Rattle.hq_model.specs.declared.table.Table.{Table}
use Rattle.hq_gql_tree.specs.Values.{ArgumentTree}
use Rattle.hq_gql_tree.specs.declared.rule.RuleId.TheVariants.{CountColumns, DistinctOrder, RequiredArguments, UnorderedColumn, ValuesOfCorrectType}
use Rattle.hq_schema.specs.Look.{enum_column_of}
use Rattle.hq_schema.specs.Schema.{ArgTree, TypeTree, TypeRefTree, SchemaTree}
use Rattle.hq_schema.specs.declared.origin.ArgOrigin.{ArgOrigin}
use Rattle.hq_schema.specs.declared.origin.ArgOrigin.TheVariants as stands
use Rattle.hq_schema.specs.declared.origin.TypeOrigin.TheVariants as type
use Rattle.hq_schema_of_role.specs.RoleSchema.{role_schema}
use Rattle.hq_schema_roles.specs.Access.{Access, access_of}
use Rattle.hq_schema_roles.specs.Leads.{where_holds, plain, Reaches, ArgFits, key_target}
use Rattle.hq_request_coerce.specs.Variables.{VarTree}
use Rattle.hq_request_tree.specs.Allowed.{Allowed, allowed_to}
use Rattle.hq_request_tree.specs.Conditions.{fits_distinct, is_key}
use Rattle.hq_request_tree.specs.Uses.{UsesColumns, UsesCounted}
use Rattle.hq_request_arguments.specs.Columns.{column_due, columns_due, has_order, ordered, is_counted, matched, one_column, same_as}
use Rattle.hq_request_arguments.specs.Context.{Context}
use Rattle.hq_request_arguments.specs.Due.{counting}
use Rattle.hq_request_arguments.specs.FieldArguments.{FieldArguments, count}
use Rattle.hq_request_arguments.specs.Keys.{is_for, key_argument, key_value, given_for, part_due}
use Rattle.hq_model.specs.Constants.{constant_in}
use Rattle.hq_model.proofs.Fitting.{constant_read}
use Rattle.hq_request_arguments.specs.Reading.{each, items_in, Given, argument_named, given}
use Rattle.hq_request_arguments.specs.declared.refusal.ArgRefusal.TheVariants.{Rule}
use Rattle.hq_laws_request.proofs.Formed.Conditions.{each_ok}
use Rattle.hq_laws_request.proofs.Formed.Items.{each_at, found_each}
use Rattle.hq_laws_request.proofs.Formed.Permitted.{column_allowed, column_typed}
use Rattle.hq_laws_request.proofs.Formed.Places.{At, Schemed, column_found}
use Rattle.hq_laws_request.proofs.Formed.BuildingSteps.{mapped_ok, then_ok, ok_or_ok, and_then_some}

module _ (tables : List Table) (m : MetaTree) (metadata_fits : fits tables m ≡ true) (role : Role) (schemed : Schemed tables m role) (vars : List VarTree) where
  abbrev s : Schema
  s = schema_of tables m

  abbrev R : SchemaTree
  R = role_schema tables m role

  abbrev types : List TypeTree
  types = R.types

  abbrev a : Access
  a = access_of m role

  abbrev ok : Allowed
  ok = allowed_to role m s

  abbrev c : Context
  c = record { vars = vars; schema = R; tables = s }

  abbrev pub Permitted : ℕ → List ℕ → Type 0
  Permitted t cs = Each (λ k. a.column t k ≡ true) cs

  -- ---- columns by name

  pub columns_named : (p t : ℕ) → At types p (type.Columns t) → (j : JsonTree) (cs : List ℕ) → columns_due c p j ≡ Ok cs → Permitted t cs
  columns_named p t at j cs e =
      each_ok (column_due c p) (λ k. a.column t k ≡ true) (λ i k e.
      let some = ok_or_ok (option_and_then (λ name. enum_column_of R p name) (str_in i)) (Rule ValuesOfCorrectType) k e in
      let found = and_then_some (λ name. enum_column_of R p name) (str_in i) k some in
      column_found tables m role schemed p t found.0 k at found.2) (items_in j) cs e

  pub columns_use : (t : ℕ) (cs : List ℕ) → Permitted t cs → UsesColumns cs ok t
  columns_use t [] h = tt
  columns_use t (k ∷ cs) h = (column_allowed tables m metadata_fits role t k h.0, columns_use t cs h.1)

  -- distinct columns have an order, and match the sorts
  pub ordered_ok : (x : Context) (t : ℕ) (cs ds : List ℕ) → ordered x t cs ≡ Ok ds → cs ≡ ds
  ordered_ok x t cs ds e = by (list_all (has_order x t) cs) e
    where
      by : (b : Bool) → cond b (Ok cs) (Err (Rule UnorderedColumn)) ≡ Ok ds → cs ≡ ds
      by true e = cc
      by false e = cc

  pub matched_ok : (sorts : List SortKey) (cs ds : List ℕ) → matched sorts cs ≡ Ok ds → (cs ≡ ds) × (fits_distinct ds sorts ≡ true)
  matched_ok sorts cs ds e = by (fits_distinct cs sorts) refl e
    where
      by : (b : Bool) → fits_distinct cs sorts ≡ b → cond b (Ok cs) (Err (Rule DistinctOrder)) ≡ Ok ds → (cs ≡ ds) × (fits_distinct ds sorts ≡ true)
      by true is e = let same : cs ≡ ds = cc in (same, subst (λ l. fits_distinct l sorts ≡ true) same is)
      by false is e = cc

  -- what is counted
  pub counting_ok : (x : Context) (t : ℕ) (k : Option ℕ) (distinct : Bool) (y : FieldArguments) → counting x t k distinct ≡ Ok y → count k distinct ≡ y
  counting_ok x t k distinct y e = by (is_counted x t k distinct) e
    where
      by : (b : Bool) → cond b (Ok (count k distinct)) (Err (Rule UnorderedColumn)) ≡ Ok y → count k distinct ≡ y
      by true e = cc
      by false e = cc

  -- the column that is counted
  pub counted_use : (t : ℕ) (cs : List ℕ) (o : Option ℕ) → Permitted t cs → one_column cs ≡ Ok o → UsesCounted o ok t
  counted_use t cs None h e = tt
  counted_use t cs (Some k) h e = by (slice_get cs 0) refl e
    where
      by : (x : Option ℕ) → slice_get cs 0 ≡ x → same_as x cs ≡ Ok (Some k) → ok.column t k ≡ true
      by None is e = cc
      by (Some d) is e = all (list_all (λ x. x == d) cs) e
        where
          all : (b : Bool) → cond b (Ok (Some d)) (Err (Rule CountColumns)) ≡ Ok (Some k) → ok.column t k ≡ true
          all true e = let same : d ≡ k = cc in subst (λ x. ok.column t x ≡ true) same (column_allowed tables m metadata_fits role t d (each_at (λ k. a.column t k ≡ true) cs 0 d is h))
          all false e = cc

  -- ---- keys

  key_permitted : (t k : ℕ) (ty : TypeRefTree) (o : ArgOrigin) → Reaches types ty (key_target a t o) → is_for k o ≡ true → a.column t k ≡ true
  key_permitted t k ty (stands.Column d) at is = by (a.column t d) refl at
    where
      by : (b : Bool) → a.column t d ≡ b → Reaches types ty (where_holds b plain) → a.column t k ≡ true
      by true e at = subst (λ x. a.column t x ≡ true) (eqb-true d k is) e
      by false e at = absurd at
  key_permitted t k ty o at is = absurd (false≢true is)

  -- the values of key columns, one for each
  pub key_fits : (t : ℕ) (args : List ArgTree) (xs : List ArgumentTree) → Each (ArgFits types (key_target a t)) args → (ks : List ℕ) (vs : List Val) → each (part_due c args xs t) ks ≡ Ok vs
      → UsesColumns ks ok t × (is_key s t ks vs ≡ true)
  key_fits t args xs fit [] vs e = let same : [] ≡ vs = cc in (tt, subst (λ l. is_key s t [] l ≡ true) same refl)
  key_fits t args xs fit (k ∷ ks) vs e =
      let one = then_ok (λ v. mapped (λ vs. v ∷ vs) (each (part_due c args xs t) ks)) (part_due c args xs t k) vs e in
      let two = mapped_ok (λ vs. one.0 ∷ vs) (each (part_due c args xs t) ks) vs one.2 in
      let ty = (column s t k).ty in
      let three = then_ok (λ (g : Given). key_value ty g.value) (ok_or (given_for c args xs k) (Rule RequiredArguments)) one.0 one.1 in
      let g : Given = three.0 in
      let value = ok_or_ok (constant_in ty g.value) (Rule ValuesOfCorrectType) one.0 three.2 in
      let some = ok_or_ok (given_for c args xs k) (Rule RequiredArguments) g three.1 in
      let four = and_then_some (λ (x : ArgTree). option_and_then (given c x) (argument_named xs x.name)) (key_argument args k) g some in
      let x : ArgTree = four.0 in
      let both = found_each (ArgFits types (key_target a t)) (λ (y : ArgTree). is_for k y.origin) args x four.1 fit in
      let permitted : a.column t k ≡ true = key_permitted t k x.ty x.origin both.0.reaches both.1 in
      let later = key_fits t args xs fit ks two.0 two.1 in
      let here : of_type (λ ty. constant_fits ty one.0) (column_ty s t k) ≡ true =
      ap (of_type (λ ty. constant_fits ty one.0)) (column_typed tables m metadata_fits role t k permitted) ∙ constant_read ty g.value one.0 value in (
        (column_allowed tables m metadata_fits role t k permitted, later.0),
        subst (λ l. is_key s t (k ∷ ks) l ≡ true) two.2 (and_from (of_type (λ ty. constant_fits ty one.0) (column_ty s t k)) (is_key s t ks two.0) here later.1),
      )
